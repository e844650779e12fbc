-- What a run of tokens has, what a term has, and what a term has with variables replaced.
use mathlib.Core.Bool.{Bool, true, false, ◌&&◌, ◌||◌}
use mathlib.Core.List.{List, [], ◌∷◌, ◌++◌}
use mathlib.Core.Logic.{⊎_elim}
use mathlib.Core.Path.{◌≡◌, refl, sym, ap, ap₂, subst, ◌∙◌}
use Prim.Native.Nat.{ℕ, zero, suc, ◌+◌}
use native.Mathlib.Decide.{ℕ_discrete}
use native.Mathlib.Omega.{arith}
use borrow.Author.Tests.{eq-eqb, ne_eqb, eqb-true}
use lib.Dec.{eqb}
use lib.ListN.{length, get_or}
use Rattle.terms.specs.Words.Tokens.{Item, item, spell, toks}
use Rattle.terms.specs.Term.{Term, Parts, var, node, end, num, sub, items, part_items}
use Rattle.terms.specs.Questions.{among, meets, meets_row}
use Rattle.terms.proofs.Laws.General.Bools.{never_true, never_false, or-true, or_right, or_assoc, or-none}
use Rattle.terms.proofs.Laws.Held.HeldLaws.{toks_add}
use Rattle.solver.specs.Constrain.{replace, replace_row, recovery, is, always}
use Rattle.solver.specs.Words.ReachContract.{counts, has, wanted, asked}
use Rattle.solver.proofs.Laws.Theory.TheoryView.{either}
use Rattle.solver.proofs.Laws.Resolving.ResolvedLaws.{replace_var}

-- ---- flags

or_no : (a b : Bool) → (a || b) ≡ false → (a ≡ false) × (b ≡ false)
or_no true b e = never_false e
or_no false b e = (refl, e)

not_yes : (a : Bool) → (a ≡ true → ⊥) → a ≡ false
not_yes true h = absurd (h refl)
not_yes false h = refl

-- ---- tokens

has_append : (q : ℕ) (l m : List Item) → has q (l ++ m) ≡ (has q l || has q m)
unfolding has
has_append q [] m = refl
has_append q (item k x ∷ l) m = rw (has_append q l m) (sym (or_assoc (counts q k x) (has q l) (has q m)))

has_one : (q : ℕ) (ks vs : List ℕ) (a : ℕ) → has q (toks ks vs a 1) ≡ counts q (get_or ks a 0) (get_or vs a 0)
unfolding has spell
has_one q ks vs a = or-none (counts q (get_or ks a 0) (get_or vs a 0))

-- one token more
pub has_snoc : (q : ℕ) (ks vs : List ℕ) (a i : ℕ) → has q (toks ks vs a (i + 1)) ≡ (has q (toks ks vs a i) || counts q (get_or ks (a + i) 0) (get_or vs (a + i) 0))
has_snoc q ks vs a i =
    ap (has q) (toks_add ks vs a i 1) ∙ has_append q (toks ks vs a i) (toks ks vs (a + i) 1)
    ∙ ap (λ (b : Bool). has q (toks ks vs a i) || b) (has_one q ks vs (a + i))

pub has_start : (q : ℕ) (ks vs : List ℕ) (a : ℕ) → has q (toks ks vs a 0) ≡ false
unfolding has spell
has_start q ks vs a = refl

-- ---- terms

pub two_up : (k j : ℕ) → eqb (suc (suc k)) (suc (suc j)) ≡ eqb k j
two_up k j = go (ℕ_discrete k j)
  where
    go : Dec (k ≡ j) → eqb (suc (suc k)) (suc (suc j)) ≡ eqb k j
    go (yes e) = eq-eqb (suc (suc k)) (suc (suc j)) (omega arith) ∙ sym (eq-eqb k j e)
    go (no e) = ne_eqb (suc (suc k)) (suc (suc j)) (λ z. e (omega arith)) ∙ sym (ne_eqb k j e)

counts_var : (q v : ℕ) → counts q 1 v ≡ wanted q (var v)
unfolding counts wanted recovery is
counts_var zero v = refl
counts_var (suc w) v = refl

counts_node : (q k s : ℕ) (ps : Parts) → counts q (suc (suc k)) s ≡ wanted q (node k ps)
unfolding counts wanted recovery is among
counts_node zero k s ps = ap₂ ◌||◌ (two_up k 2) (two_up k 3 ∙ sym (or-none (eqb k 3)))
counts_node (suc w) k s ps = rw (ne_eqb (suc (suc k)) 1 (λ z. omega arith))

number_skipped : (q n : ℕ) (b : Bool) → (counts q 0 n || b) ≡ b
unfolding counts
number_skipped zero n b = refl
number_skipped (suc w) n b = refl

mutual
  unfolding has items meets

  pub has_term : (q : ℕ) (t : Term) → has q (items t) ≡ asked q t
  has_term q (var v) = or-none (counts q 1 v) ∙ counts_var q v
  has_term q (node k ps) = ap₂ ◌||◌ (counts_node q k (suc (length (part_items ps))) ps) (has_parts q ps)

  has_parts : (q : ℕ) (ps : Parts) → has q (part_items ps) ≡ meets_row (wanted q) always ps
  has_parts q end = refl
  has_parts q (num n ps) = number_skipped q n (has q (part_items ps)) ∙ has_parts q ps
  has_parts q (sub t ps) = has_append q (items t) (part_items ps) ∙ ap₂ ◌||◌ (has_term q t) (has_parts q ps)

-- ---- variables replaced

head_same : (q k : ℕ) (ps qs : Parts) → wanted q (node k ps) ≡ wanted q (node k qs)
unfolding wanted recovery is
head_same zero k ps qs = refl
head_same (suc v) k ps qs = refl

no_head : (w k : ℕ) (ps : Parts) → wanted (suc w) (node k ps) ≡ false
unfolding wanted is
no_head w k ps = refl

pub itself : (v : ℕ) → asked (suc v) (var v) ≡ true
unfolding meets wanted is
itself v = eq-eqb v v refl

is_it : (w v : ℕ) → asked (suc w) (var v) ≡ true → w ≡ v
unfolding meets wanted is
is_it w v e = eqb-true w v e

module _ (q : ℕ) (f : ℕ → Term) where
  -- what is put for a variable of the term is met
  module _ (w : ℕ) (h : asked q (f w) ≡ true) where
    mutual
      unfolding meets replace

      pub through : (t : Term) → asked (suc w) t ≡ true → asked q (replace f t) ≡ true
      through (var v) e = subst (λ (x : ℕ). asked q (f x) ≡ true) (is_it w v e) h
      through (node k ps) e =
          let d : meets_row (wanted (suc w)) always ps ≡ true = rw (no_head w k ps) at e in
          or_right (wanted q (node k (replace_row f ps))) (meets_row (wanted q) always (replace_row f ps)) (through_row ps d)

      through_row : (ps : Parts) → meets_row (wanted (suc w)) always ps ≡ true → meets_row (wanted q) always (replace_row f ps) ≡ true
      through_row end e = never_true e
      through_row (num n ps) e = through_row ps e
      through_row (sub t ps) e =
          ⊎_elim
          (λ x. or-true (asked q (replace f t)) (meets_row (wanted q) always (replace_row f ps)) (through t x))
          (λ x. or_right (asked q (replace f t)) (meets_row (wanted q) always (replace_row f ps)) (through_row ps x))
          (either (asked (suc w) t) (meets_row (wanted (suc w)) always ps) e)

  -- nothing is met where neither the term nor what is put for its variables has it
  mutual
    unfolding meets replace

    pub quiet : (t : Term) → asked q t ≡ false → ((w : ℕ) → asked (suc w) t ≡ true → asked q (f w) ≡ false) → asked q (replace f t) ≡ false
    quiet (var v) e h = h v (itself v)
    quiet (node k ps) e h =
        let d = or_no (wanted q (node k ps)) (meets_row (wanted q) always ps) e in
        ap₂ ◌||◌ (head_same q k (replace_row f ps) ps ∙ d.0)
        (quiet_row ps d.1 (λ w x. h w (or_right (wanted (suc w) (node k ps)) (meets_row (wanted (suc w)) always ps) x)))

    quiet_row : (ps : Parts) → meets_row (wanted q) always ps ≡ false → ((w : ℕ) → meets_row (wanted (suc w)) always ps ≡ true → asked q (f w) ≡ false)
        → meets_row (wanted q) always (replace_row f ps) ≡ false
    quiet_row end e h = refl
    quiet_row (num n ps) e h = quiet_row ps e h
    quiet_row (sub t ps) e h =
        let d = or_no (asked q t) (meets_row (wanted q) always ps) e in
        ap₂ ◌||◌
        (quiet t d.0 (λ w x. h w (or-true (asked (suc w) t) (meets_row (wanted (suc w)) always ps) x)))
        (quiet_row ps d.1 (λ w x. h w (or_right (asked (suc w) t) (meets_row (wanted (suc w)) always ps) x)))

-- an Unknown or Error stays
module _ (f : ℕ → Term) where
  var_plain : (v : ℕ) → asked 0 (var v) ≡ false
  unfolding meets wanted recovery
  var_plain v = refl

  mutual
    unfolding meets replace

    pub kept : (t : Term) → asked 0 t ≡ true → asked 0 (replace f t) ≡ true
    kept (var v) e = never_false (sym e ∙ var_plain v)
    kept (node k ps) e =
        ⊎_elim
        (λ x. or-true (wanted 0 (node k (replace_row f ps))) (meets_row (wanted 0) always (replace_row f ps)) (head_same 0 k (replace_row f ps) ps ∙ x))
        (λ x. or_right (wanted 0 (node k (replace_row f ps))) (meets_row (wanted 0) always (replace_row f ps)) (kept_row ps x))
        (either (wanted 0 (node k ps)) (meets_row (wanted 0) always ps) e)

    kept_row : (ps : Parts) → meets_row (wanted 0) always ps ≡ true → meets_row (wanted 0) always (replace_row f ps) ≡ true
    kept_row end e = never_true e
    kept_row (num n ps) e = kept_row ps e
    kept_row (sub t ps) e =
        ⊎_elim
        (λ x. or-true (asked 0 (replace f t)) (meets_row (wanted 0) always (replace_row f ps)) (kept t x))
        (λ x. or_right (asked 0 (replace f t)) (meets_row (wanted 0) always (replace_row f ps)) (kept_row ps x))
        (either (asked 0 t) (meets_row (wanted 0) always ps) e)

-- a variable of a term that has not what is asked for is not asked for
pub unasked : (q w : ℕ) (t : Term) → asked q t ≡ false → asked (suc w) t ≡ true → asked q (var w) ≡ false
unasked q w t e o = not_yes (asked q (var w)) (λ h. never_false (sym (through q var w h t o) ∙ ap (asked q) (replace_var t) ∙ e))

-- ---- one token, as the code tests it

-- the token is the variable u
pub token_is : (u k x : ℕ) → counts (suc u) k x ≡ true → (k ≡ 1) × (u ≡ x)
unfolding counts
token_is u k x e = go (eqb k 1) refl e
  where
    go : (b : Bool) → eqb k 1 ≡ b → (b && eqb u x) ≡ true → (k ≡ 1) × (u ≡ x)
    go true d h = (eqb-true k 1 d, eqb-true u x h)
    go false d h = never_true h

pub is_token : (u k x : ℕ) → k ≡ 1 → u ≡ x → counts (suc u) k x ≡ true
unfolding counts
is_token u k x e h = rw (eq-eqb k 1 e, eq-eqb u x h)
