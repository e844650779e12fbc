-- A member looked up by its place, and a projection's own member by cases.
use mathlib.Core.Path.{◌≡◌, refl, sym, ap, ◌∙◌}
use mathlib.Core.Bool.{Bool, true, false}
use mathlib.Core.List.{List, [], ◌∷◌}
use mathlib.Core.Option.{Option, none, some}
use Prim.Native.Nat.{ℕ, zero, suc, min, ◌+◌, ◌-◌, ◌≤◌, ◌<◌}
use native.Mathlib.Omega.{arith}
use borrow.Author.Tests.{eq-eqb, ne_eqb}
use lib.ListN.{length, get_or, take, drop, length-take, length-drop, get_elem?}
use lib.Seq.{get_or-take, get_or-drop}
use Rattle.terms.specs.Term.{Term, Parts}
use Rattle.terms.specs.Tree.{error, nums, subs, children, row, tag, look_up, receiver_of, member_of, arguments_of}
use Rattle.terms.specs.Comparison.{no_terms}
use Rattle.terms.specs.Substitution.{or_else}
use Rattle.terms.specs.Normal.{member_from, trait_member, own_member, replacement}
use Rattle.std.proofs.Common.{Bor}
use Rattle.terms.specs.declared.Origin.{Origin}
use Rattle.terms.specs.declared.LookUp.{LookUp}
use Rattle.terms.specs.declared.LookUp.TheVariants.{Rules, Given}
use Rattle.terms.specs.declared.Rule.{Rule}
use Rattle.terms.specs.Lookup.{Pattern, by_patterns, through, Look, rules, interface, look_by, Ruled, HeldGiven, Looks}
use Rattle.terms.specs.Words.Tokens.{Area}
use Rattle.terms.specs.Words.Arena.{Keyed, Tree, Counts, KeyOf, ValueAt}
use Rattle.terms.proofs.Laws.Normalising.ScanLaws.{children_row}
use Rattle.std.specs.Prelude.{Some, None}

-- ---- elements by place

elem_take : (m i : ℕ) (l : List Term) → i < m → get_elem? (take m l) i ≡ get_elem? l i
elem_take zero i l h = absurd (omega arith)
elem_take (suc m) i [] h = refl
elem_take (suc m) zero (x ∷ l) h = refl
elem_take (suc m) (suc i) (x ∷ l) h = elem_take m i l (omega arith)

elem_drop : (k i : ℕ) (l : List Term) → get_elem? (drop k l) i ≡ get_elem? l (k + i)
elem_drop zero i l = ap (get_elem? l) (omega arith)
elem_drop (suc k) i [] = refl
elem_drop (suc k) i (x ∷ l) = let e : suc k + i ≡ suc (k + i) = omega arith in rw e (elem_drop k i l)

elem_get : (l : List Term) (i : ℕ) (u : Term) → get_elem? l i ≡ some u → (i < length l) × (get_or l i error ≡ u)
elem_get [] i u e = absurd (let z : ◌≡◌ {A = ℕ} 0 1 = cc in omega arith)
elem_get (x ∷ l) zero u e = (omega arith, cc)
elem_get (x ∷ l) (suc i) u e = let r = elem_get l i u e in (omega (arith, r.0), r.1)

elem_past : (l : List Term) (i : ℕ) → get_elem? l i ≡ none → length l ≤ i
elem_past [] i e = omega arith
elem_past (x ∷ l) zero e = absurd (let z : ◌≡◌ {A = ℕ} 0 1 = cc in omega arith)
elem_past (x ∷ l) (suc i) e = let r = elem_past l i e in omega arith

-- ---- the first key that fits

look_first : (x : ℕ) (ks : List ℕ) (ts : List Term) (i : ℕ) → i < length ks → get_or ks i 0 ≡ x → ((j : ℕ) → j < i → get_or ks j 0 ≡ x → ⊥) → look_up x ks ts ≡ get_elem? ts i
unfolding look_up
look_first x [] ts i h e f = absurd (omega arith)
look_first x (k ∷ ks) [] i h e f = refl
look_first x (k ∷ ks) (t ∷ ts) zero h e f = rw (eq-eqb k x e)
look_first x (k ∷ ks) (t ∷ ts) (suc i) h e f =
    rw (ne_eqb k x (f 0 (omega arith))) (look_first x ks ts i (omega arith) e (λ j l. f (suc j) (omega arith)))

look_none : (x : ℕ) (ks : List ℕ) (ts : List Term) → ((j : ℕ) → j < length ks → get_or ks j 0 ≡ x → ⊥) → look_up x ks ts ≡ none
unfolding look_up
look_none x [] ts f = refl
look_none x (k ∷ ks) [] f = refl
look_none x (k ∷ ks) (t ∷ ts) f = rw (ne_eqb k x (f 0 (omega arith))) (look_none x ks ts (λ j l. f (suc j) (omega arith)))

-- ---- a nominal's member, in a row whose arguments begin after b terms

module _ (b x : ℕ) (ps : Parts) (n m : ℕ) (en : n ≡ get_or (nums ps) 1 0) (em : m ≡ get_or (nums ps) 2 0) where
  abbrev keys : List ℕ
  keys = take m (drop 3 (nums ps))

  member_is : member_from b x ps ≡ look_up x keys (take m (drop (b + n) (subs ps)))
  unfolding member_from
  member_is = rw (en, em)

  key_at : (j : ℕ) → j < length keys → (j < m) × (3 + j < length (nums ps)) × (get_or keys j 0 ≡ get_or (nums ps) (3 + j) 0)
  key_at j lt =
      let l : length keys ≡ min m (length (nums ps) - 3) = simp (length-take, length-drop) in
      (omega arith, omega arith, get_or-take m (drop 3 (nums ps)) j 0 (omega arith) ∙ get_or-drop 3 (nums ps) j 0)

  module _ (i : ℕ) (k : Keyed x (nums ps) (Some i)) where
    found : i < m → member_from b x ps ≡ get_elem? (subs ps) (b + n + i)
    found lt =
        let l : length keys ≡ min m (length (nums ps) - 3) = simp (length-take, length-drop) in
        let in-keys : i < length keys = omega (arith, k.0) in
        member_is
        ∙ look_first x keys (take m (drop (b + n) (subs ps))) i in-keys ((key_at i in-keys).2 ∙ k.1)
        (λ j h e. k.2 j h (sym (key_at j (omega arith)).2 ∙ e))
        ∙ elem_take m i (drop (b + n) (subs ps)) lt
        ∙ elem_drop (b + n) i (subs ps)

    late : m ≤ i → member_from b x ps ≡ none
    late le =
        member_is ∙ look_none x keys _ (λ j h e. let y = key_at j h in k.2 j (omega (arith, y.0)) (sym y.2 ∙ e))

  missing : Keyed x (nums ps) None → member_from b x ps ≡ none
  missing k = member_is ∙ look_none x keys _ (λ j h e. let y = key_at j h in k j y.1 (sym y.2 ∙ e))

-- ---- what the numbers and children of a term say of its members

is_none : (l : List Term) → length l ≡ 0 → no_terms l ≡ true
is_none [] e = refl
is_none (t ∷ l) e = absurd (omega arith)

is_some : (l : List Term) → 0 < length l → no_terms l ≡ false
is_some [] e = absurd (omega arith)
is_some (t ∷ l) e = refl

no_child : (l : List Term) → length l ≡ 0 → get_or l 0 error ≡ error
no_child [] e = refl
no_child (t ∷ l) e = absurd (omega arith)

or-none : (o p : Option Term) → o ≡ none → or_else o p ≡ p
or-none o p e = rw e

or_some : (o p : Option Term) (u : Term) → o ≡ some u → or_else o p ≡ some u
or_some o p u e = rw e

trait_yes : (t : Term) (x : ℕ) → tag t ≡ 15 → trait_member t x ≡ member_from 0 x (row t)
unfolding trait_member
trait_yes t x e = rw (eq-eqb (tag t) 15 e)

trait_no : (t : Term) (x : ℕ) → (tag t ≡ 15 → ⊥) → trait_member t x ≡ none
unfolding trait_member
trait_no t x e = rw (ne_eqb (tag t) 15 e)

tag_error : tag error ≡ 3
unfolding tag
tag_error = refl

-- n and m are the counts that the code read
module _ {a : Area} {hs cs : List ℕ} {S : ℕ → Bool} {h c : ℕ} {t : Term} {n m : ℕ} (counts : Counts a h n m) (w : Tree a hs cs S h c t) where
  en : n ≡ get_or (nums (row t)) 1 0
  en = counts.arguments.is hs cs S c t w

  em : m ≡ get_or (nums (row t)) 2 0
  em = counts.members.is hs cs S c t w

  module _ (b : ℕ) {x : ℕ} where
    pub member_found : {i : ℕ} → KeyOf a h x (Some i) → i < m → member_from b x (row t) ≡ get_elem? (subs (row t)) (b + n + i)
    member_found k = found b x (row t) n m en em _ (k.is hs cs S c t w)

    pub member_late : {i : ℕ} → KeyOf a h x (Some i) → m ≤ i → member_from b x (row t) ≡ none
    member_late k = late b x (row t) n m en em _ (k.is hs cs S c t w)

    pub member_none : KeyOf a h x None → member_from b x (row t) ≡ none
    member_none k = missing b x (row t) n m en em (k.is hs cs S c t w)

  -- ---- a projection's own member
  arguments_long : length (arguments_of (row t)) ≡ length (children t) - (1 + n + m)
  unfolding arguments_of
  arguments_long = rw (en, em, ← children_row t) (length-drop (1 + get_or (nums (row t)) 1 0 + get_or (nums (row t)) 2 0) (subs (row t)))

  -- there is an argument
  pub own_args : (u : Term) → get_elem? (children t) (1 + n + m) ≡ some u → no_terms (arguments_of (row t)) ≡ false
  own_args u e = is_some (arguments_of (row t)) (omega (arith, arguments_long, (elem_get (children t) (1 + n + m) u e).0))

  pub own_plain : get_elem? (children t) (1 + n + m) ≡ none → no_terms (arguments_of (row t)) ≡ true
  own_plain e = is_none (arguments_of (row t)) (omega (arith, arguments_long, elem_past (children t) (1 + n + m) e))

  pub own_stop : no_terms (arguments_of (row t)) ≡ false → own_member (row t) ≡ none
  unfolding own_member
  own_stop e = rw e

  pub member_here : get_or (nums (row t)) (3 + m) 0 ≡ member_of (row t)
  unfolding member_of
  member_here = ap (λ (i : ℕ). get_or (nums (row t)) (3 + i) 0) em

  module _ {x : ℕ} (ex : ValueAt a h (3 + m) x) where
    module _ (p : no_terms (arguments_of (row t)) ≡ true) where
      own_both : own_member (row t) ≡ or_else (member_from 1 x (row t)) (trait_member (receiver_of (row t)) x)
      unfolding own_member
      own_both = rw (p, ex.is hs cs S c t w ∙ member_here)

      pub own_found : (u : Term) → member_from 1 x (row t) ≡ some u → own_member (row t) ≡ some u
      own_found u e = own_both ∙ or_some _ _ u e

      module _ (e : member_from 1 x (row t) ≡ none) where
        pub own_empty : get_elem? (children t) 0 ≡ none → own_member (row t) ≡ none
        unfolding receiver_of
        own_empty z =
            let l = no_child (subs (row t)) (ap length (children_row t) ∙ omega (arith, elem_past (children t) 0 z)) in
            own_both ∙ or-none _ _ e ∙ trait_no (receiver_of (row t)) x (λ q. omega (arith, tag_error, ap tag l))

        module _ {u : Term} (r : get_elem? (children t) 0 ≡ some u) where
          receiver_here : receiver_of (row t) ≡ u
          unfolding receiver_of
          receiver_here = ap (λ (l : List Term). get_or l 0 error) (children_row t) ∙ (elem_get (children t) 0 u r).1

          pub own_other : {k : ℕ} → k ≡ tag u → (k ≡ 15 → ⊥) → own_member (row t) ≡ none
          own_other z q = own_both ∙ or-none _ _ e ∙ trait_no (receiver_of (row t)) x (λ y. q (z ∙ ap tag (sym receiver_here) ∙ y))

          pub own_trait : {k : ℕ} → k ≡ tag u → k ≡ 15 → own_member (row t) ≡ member_from 0 x (row u)
          own_trait z q =
              own_both ∙ or-none _ _ e ∙ trait_yes (receiver_of (row t)) x (ap tag receiver_here ∙ sym z ∙ q) ∙ ap (λ (y : Term). member_from 0 x (row y)) receiver_here

-- ---- what a term is replaced by

module _ (look : Parts → Option Term) (t : Term) where
  pub replace_other : (tag t ≡ 18 → ⊥) → replacement look t ≡ none
  unfolding replacement
  replace_other e = rw (ne_eqb (tag t) 18 e)

  pub replace_own : tag t ≡ 18 → (u : Term) → own_member (row t) ≡ some u → replacement look t ≡ some u
  unfolding replacement
  replace_own e u o = rw (eq-eqb (tag t) 18 e, o)

  pub replace_look : tag t ≡ 18 → own_member (row t) ≡ none → replacement look t ≡ look (row t)
  unfolding replacement
  replace_look e o = rw (eq-eqb (tag t) 18 e, o)

-- rules are to be looked up, or an interface
module _ (ks vs : List ℕ) (P : Option Term → Type 0) (ps : Parts) where
  pub looked_rules : (l : LookUp) (ws : Bor (List Rule)) (look : Look) → l ≡ Rules ws → Looks ks vs l look → ((rs : List Pattern) → Ruled ks vs ws.now rs → P (by_patterns rs ps))
      → P (look_by look ps)
  looked_rules l ws look e k f = go look (rw e at k)
    where
      go : (look : Look) → Looks ks vs (Rules ws) look → P (look_by look ps)
      go (rules rs) k = f rs k
      go (interface i owner) k = absurd k

  pub looked_through : (l : LookUp) (g : Origin) (look : Look) → l ≡ Given g → Looks ks vs l look
      → ((i : Parts) (owner : Term) → HeldGiven ks vs g i owner → P (through i owner ps)) → P (look_by look ps)
  looked_through l g look e k f = go look (rw e at k)
    where
      go : (look : Look) → Looks ks vs (Given g) look → P (look_by look ps)
      go (rules rs) k = absurd k
      go (interface i owner) k = f i owner k
