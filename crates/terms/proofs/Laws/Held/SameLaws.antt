-- Equality of terms as a test.
use mathlib.Core.Path.{◌≡◌, refl, sym, ap, ◌∙◌}
use mathlib.Core.Bool.{Bool, true, false, ◌&&◌}
use mathlib.Core.List.{List}
use Prim.Native.Nat.{ℕ, ◌+◌, ◌-◌, ◌≤◌}
use native.Mathlib.Omega.{arith}
use borrow.Author.Tests.{eq-eqb, eqb-true}
use lib.Dec.{eqb}
use lib.ListN.{length, get_or}
use Rattle.terms.specs.declared.Part.{Part}
use Rattle.terms.specs.Words.Tokens.{toks}
use Rattle.terms.specs.Words.Lent.{toks_in}
use Rattle.terms.specs.Term.{Term, Parts, var, node, end, num, sub, items}
use Rattle.terms.specs.Words.Held.{Held, span}
use Rattle.terms.specs.Tree.{same, same_rows}
use Rattle.terms.proofs.Laws.General.Bools.{never_true}
use Rattle.terms.proofs.Laws.Held.HeldLaws.{held_first, span_is, items_some, items_injective}

pub both : (a b : Bool) → (a && b) ≡ true → (a ≡ true) × (b ≡ true)
both true b h = (refl, h)
both false b h = never_true h

mutual
  unfolding same

  pub same_refl : (t : Term) → same t t ≡ true
  same_refl (var v) = eq-eqb v v refl
  same_refl (node k ps) = rw (eq-eqb k k refl) (rows_refl ps)

  pub rows_refl : (ps : Parts) → same_rows ps ps ≡ true
  rows_refl end = refl
  rows_refl (num n ps) = rw (eq-eqb n n refl) (rows_refl ps)
  rows_refl (sub t ps) = rw (same_refl t) (rows_refl ps)

mutual
  unfolding same

  pub same_true : (t u : Term) → same t u ≡ true → t ≡ u
  same_true (var v) (var w) h = ap var (eqb-true v w h)
  same_true (var v) (node j qs) h = never_true h
  same_true (node k ps) (var w) h = never_true h
  same_true (node k ps) (node j qs) h = let b = both (eqb k j) (same_rows ps qs) h in rw (eqb-true k j b.0, rows_true ps qs b.1)

  pub rows_true : (ps qs : Parts) → same_rows ps qs ≡ true → ps ≡ qs
  rows_true end end h = refl
  rows_true end (num m qs) h = never_true h
  rows_true end (sub u qs) h = never_true h
  rows_true (num n ps) end h = never_true h
  rows_true (num n ps) (num m qs) h = let b = both (eqb n m) (same_rows ps qs) h in rw (eqb-true n m b.0, rows_true ps qs b.1)
  rows_true (num n ps) (sub u qs) h = never_true h
  rows_true (sub t ps) end h = never_true h
  rows_true (sub t ps) (num m qs) h = never_true h
  rows_true (sub t ps) (sub u qs) h = let b = both (same t u) (same_rows ps qs) h in rw (same_true t u b.0, rows_true ps qs b.1)

-- a test that is not true is false
pub not_same : (t u : Term) → (t ≡ u → ⊥) → same t u ≡ false
not_same t u n = go (same t u) refl
  where
    go : (b : Bool) → same t u ≡ b → b ≡ false
    go true h = absurd (n (same_true t u h))
    go false h = refl

-- the span that the areas tell is the term's length
pub span_held : (ks vs : List ℕ) (a : ℕ) (t : Term) → Held ks vs a t → span (get_or ks a 0) (get_or vs a 0) ≡ length (items t)
span_held ks vs a t h = let f = held_first ks vs a t h in rw (f.0, f.1) (span_is t)

-- and so is what `skip` tells
pub told : (ks vs : List ℕ) (a n : ℕ) (t : Term) → Held ks vs a t
    → (1 ≤ span (get_or ks a 0) (get_or vs a 0) → span (get_or ks a 0) (get_or vs a 0) ≤ length ks - a → n ≡ span (get_or ks a 0) (get_or vs a 0)) → n ≡ length (items t)
told ks vs a n t h p =
    let e = span_held ks vs a t h in
    p (omega (arith, items_some t)) (omega (arith, h.within)) ∙ e

-- the tokens of a part that has those of a term
pub part_tokens : {ks vs : List ℕ} {p : ℕ} {t : Term} {x : Part} → Held ks vs p t → x.from ≡ p → x.end ≡ p + length (items t) → toks_in ks vs x ≡ items t
part_tokens {ks} {vs} {p} {t} {x} h f e =
    let n : x.end - x.from ≡ length (items t) = omega (arith, f, e) in
    ap (λ (k : ℕ). toks ks vs k (x.end - x.from)) f ∙ ap (toks ks vs p) n ∙ h.tokens

-- the tokens tell whether the terms are the same
pub compared : (ks vs : List ℕ) (t u : Term) (x y : Part) → toks_in ks vs x ≡ items t → toks_in ks vs y ≡ items u → (r : Bool)
    → (r ≡ true → toks_in ks vs x ≡ toks_in ks vs y) → (r ≡ false → toks_in ks vs x ≡ toks_in ks vs y → ⊥) → r ≡ same t u
compared ks vs t u x y e f true on off =
    let h = items_injective t u (sym e ∙ on refl ∙ f) in
    sym (ap (λ (v : Term). same t v) (sym h) ∙ same_refl t)
compared ks vs t u x y e f false on off = sym (not_same t u (λ h. off refl (e ∙ ap items h ∙ sym f)))
