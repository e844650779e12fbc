-- Requests as order 1 makes them: the family is that of the fallback, floats for 9 and integers for the others. What such a family admits,
-- how two of them meet, and what a default takes of them.
use mathlib.Core.Path.{◌≡◌, refl, sym, ap, ap₂, ◌∙◌}
use mathlib.Core.Bool.{Bool, true, false, ◌||◌, cond}
use mathlib.Core.Logic.{◌≢◌}
use mathlib.Core.Option.{Option, none, some}
use Prim.Native.Nat.{ℕ, zero, suc, ◌≤◌}
use native.Mathlib.Decide.{ℕ_discrete}
use native.Mathlib.Omega.{arith}
use borrow.Author.Tests.{eq-eqb, ne_eqb, le-ltb}
use lib.Dec.{eqb, ltb}
use Rattle.terms.specs.Result.{pick}
use Rattle.terms.specs.Term.{Term, node, end, num}
use Rattle.terms.proofs.Laws.General.Bools.{or-none}
use Rattle.unify.specs.Term.{clash}
use Rattle.unify.proofs.RangedLaws.{plain_floats, plain_integers, plain_apart, plain_apart'}
use Rattle.solver.specs.Families.{code, among, Family, integers, floats, family_of, admits, belongs, belongs_row, Request, requested, meet, ranged_at, taken}
use Rattle.solver.proofs.Laws.Definition.FamilyLaws.{belongs_code}

-- ---- what the family of a fallback admits

pub floating : (f : ℕ) → f ≡ 9 → family_of f ≡ floats
unfolding family_of
floating f e = rw (eq-eqb f 9 e)

pub integral : (f : ℕ) → f ≢ 9 → family_of f ≡ integers
unfolding family_of
integral f e = rw (ne_eqb f 9 e)

-- F32 and F64
pub admits_floats : (c : ℕ) → admits floats c ≡ (eqb c 8 || eqb c 9)
unfolding code among
admits_floats c = ap (λ (b : Bool). eqb c 8 || b) (or-none (eqb c 9))

-- the codes below 8
none_far : (c : ℕ) → 8 ≤ c → admits integers c ≡ false
unfolding code among
none_far c l =
    rw (
      ne_eqb c 0 (λ e. omega arith),
      ne_eqb c 1 (λ e. omega arith),
      ne_eqb c 2 (λ e. omega arith),
      ne_eqb c 3 (λ e. omega arith),
      ne_eqb c 4 (λ e. omega arith),
      ne_eqb c 5 (λ e. omega arith),
      ne_eqb c 6 (λ e. omega arith),
      ne_eqb c 7 (λ e. omega arith),
    )

pub admits_integers : (c : ℕ) → admits integers c ≡ ltb c 8
unfolding code among
admits_integers zero = refl
admits_integers (suc zero) = refl
admits_integers (suc (suc zero)) = refl
admits_integers (suc (suc (suc zero))) = refl
admits_integers (suc (suc (suc (suc zero)))) = refl
admits_integers (suc (suc (suc (suc (suc zero))))) = refl
admits_integers (suc (suc (suc (suc (suc (suc zero)))))) = refl
admits_integers (suc (suc (suc (suc (suc (suc (suc zero))))))) = refl
admits_integers (suc (suc (suc (suc (suc (suc (suc (suc c)))))))) =
    let m : ℕ = suc (suc (suc (suc (suc (suc (suc (suc c))))))) in
    none_far m (omega arith) ∙ sym (le-ltb m 8 (omega arith))

-- at a fallback, by tests
pub admits_family : (f c : ℕ) → admits (family_of f) c ≡ pick (eqb f 9) (eqb c 8 || eqb c 9) (ltb c 8)
unfolding family_of
admits_family f c = go (eqb f 9)
  where
    go : (b : Bool) → admits (cond b floats integers) c ≡ pick b (eqb c 8 || eqb c 9) (ltb c 8)
    go true = admits_floats c
    go false = admits_integers c

-- ---- which terms belong to it: builtins

pub belongs_builtin : (f : Family) (c : ℕ) → belongs f (node 4 (num c end)) ≡ admits f c
unfolding belongs belongs_row
belongs_builtin f c = refl

pub belongs_none : (f : Family) (t : Term) → ((c : ℕ) → t ≢ node 4 (num c end)) → belongs f t ≡ false
belongs_none f t h = go (belongs f t) refl
  where
    go : (b : Bool) → belongs f t ≡ b → b ≡ false
    go true e = let x = belongs_code f t e in absurd (h x.0 x.1)
    go false e = refl

-- a builtin, by its code
pub belongs_family : (f c : ℕ) → belongs (family_of f) (node 4 (num c end)) ≡ pick (eqb f 9) (eqb c 8 || eqb c 9) (ltb c 8)
belongs_family f c = belongs_builtin (family_of f) c ∙ admits_family f c

-- ---- two requests of that kind

abbrev pub Kind : Request → Type 0
Kind r = (r.family ≡ family_of r.fallback) × (r.ranged ≡ false)

pub requested_kind : (c : ℕ) → Kind (requested c)
requested_kind c = (refl, refl)

module _ (r s : Request) (a : Kind r) (b : Kind s) where
  whole : (f : Family) → r.family ≡ f → ◌≡◌ {A = Option Request} (some (record { fallback = r.fallback; family = f; ranged = false })) (some r)
  whole f p = sym (ap₂ (λ (x : Family) (y : Bool). some (record { fallback = r.fallback; family = x; ranged = y })) p a.1)

  meet_floats : r.fallback ≡ 9 → s.fallback ≡ 9 → meet r s ≡ some r
  meet_floats p q =
      let x = a.0 ∙ floating r.fallback p in
      plain_floats r s a.1 b.1 x (b.0 ∙ floating s.fallback q) ∙ whole floats x

  meet_integers : r.fallback ≢ 9 → s.fallback ≢ 9 → meet r s ≡ some r
  meet_integers p q =
      let x = a.0 ∙ integral r.fallback p in
      plain_integers r s a.1 b.1 x (b.0 ∙ integral s.fallback q) ∙ whole integers x

  meet_float_integer : r.fallback ≡ 9 → s.fallback ≢ 9 → meet r s ≡ none
  meet_float_integer p q = plain_apart r s a.1 b.1 (a.0 ∙ floating r.fallback p) (b.0 ∙ integral s.fallback q)

  meet_integer_float : r.fallback ≢ 9 → s.fallback ≡ 9 → meet r s ≡ none
  meet_integer_float p q = plain_apart' r s a.1 b.1 (a.0 ∙ integral r.fallback p) (b.0 ∙ floating s.fallback q)

  -- by tests
  pub meet_tests : meet r s ≡ pick (eqb r.fallback 9) (pick (eqb s.fallback 9) (some r) none) (pick (eqb s.fallback 9) none (some r))
  meet_tests = go (ℕ_discrete r.fallback 9) (ℕ_discrete s.fallback 9)
    where
      go : Dec (r.fallback ≡ 9) → Dec (s.fallback ≡ 9)
          → meet r s ≡ pick (eqb r.fallback 9) (pick (eqb s.fallback 9) (some r) none) (pick (eqb s.fallback 9) none (some r))
      go (yes p) (yes q) = rw (eq-eqb r.fallback 9 p, eq-eqb s.fallback 9 q) (meet_floats p q)
      go (yes p) (no q) = rw (eq-eqb r.fallback 9 p, ne_eqb s.fallback 9 q) (meet_float_integer p q)
      go (no p) (yes q) = rw (ne_eqb r.fallback 9 p, eq-eqb s.fallback 9 q) (meet_integer_float p q)
      go (no p) (no q) = rw (ne_eqb r.fallback 9 p, ne_eqb s.fallback 9 q) (meet_integers p q)

-- where two meet, it is in the first
pub meet_first : (r s e : Request) → Kind r → Kind s → meet r s ≡ some e → r ≡ e
meet_first r s e a b p = go (eqb r.fallback 9) (eqb s.fallback 9) (sym (meet_tests r s a b) ∙ p)
  where
    go : (x y : Bool) → pick x (pick y (some r) none) (pick y none (some r)) ≡ some e → r ≡ e
    go true true q = cc
    go true false q = clash (cc)
    go false true q = clash (cc)
    go false false q = cc

-- of plain ones a default takes the fallback of the variable whose turn it is
pub taken_plain : (r : Request) (o : Option Request) → r.ranged ≡ false → ((s : Request) → o ≡ some s → s.ranged ≡ false) → taken r o ≡ r.fallback
unfolding taken ranged_at
taken_plain r none a b = rw a
taken_plain r (some s) a b = rw (a, b s refl)
