-- Families: the terms that belong to one, and to what a join admits.
use mathlib.Core.Path.{◌≡◌, refl, sym, ap, ap₂, ◌∙◌}
use mathlib.Core.Bool.{true}
use mathlib.Core.List.{List, [], ◌∷◌}
use mathlib.Core.Option.{none, some}
use mathlib.Core.Logic.{◌↔◌, inl, inr}
use Prim.Native.Nat.{ℕ, ◌<◌}
use native.Mathlib.Omega.{arith}
use borrow.Author.Tests.{eqb-true}
use lib.Dec.{eqb}
use Rattle.terms.specs.Term.{Term, Parts, var, node, end, num, sub}
use Rattle.terms.proofs.Laws.General.Bools.{never_true, or_either}
use Rattle.terms.proofs.Laws.Held.SameLaws.{both}
pub use Rattle.unify.proofs.RangedLaws.{range_made}
use Rattle.unify.proofs.RangedLaws.{meets, misses}
use Rattle.solver.specs.Families.{Numeric, I8, I16, I32, I64, U8, U16, U32, U64, F32, F64, code, among, Family, admits, belongs, belongs_row, Request, meet}

pub code_low : (c : Numeric) → code c < 32
unfolding code
code_low I8 = omega arith
code_low I16 = omega arith
code_low I32 = omega arith
code_low I64 = omega arith
code_low U8 = omega arith
code_low U16 = omega arith
code_low U32 = omega arith
code_low U64 = omega arith
code_low F32 = omega arith
code_low F64 = omega arith

-- what a family admits is the code of a builtin
pub admitted_low : (c : ℕ) (l : List Numeric) → among c l ≡ true → c < 32
unfolding among
admitted_low c [] e = never_true e
admitted_low c (x ∷ l) e = elim (or_either (eqb c (code x)) (among c l) e) [ inl p ↦ let q = eqb-true c (code x) p in let k = code_low x in omega arith | inr p ↦ admitted_low c l p ]

-- a term of a family is a builtin that it admits
row_code : (f : Family) (ps : Parts) → belongs_row f ps ≡ true → (c : ℕ) × (ps ≡ num c end) × (admits f c ≡ true)
unfolding belongs_row
row_code f end e = never_true e
row_code f (num c end) e = (c, refl, e)
row_code f (num c (num d ps)) e = never_true e
row_code f (num c (sub t ps)) e = never_true e
row_code f (sub t ps) e = never_true e

pub belongs_code : (f : Family) (t : Term) → belongs f t ≡ true → (c : ℕ) × (t ≡ node 4 (num c end)) × (admits f c ≡ true)
unfolding belongs
belongs_code f (var v) e = never_true e
belongs_code f (node k ps) e =
    let b = both (eqb k 4) (belongs_row f ps) e in
    let r = row_code f ps b.1 in
    (r.0, ap₂ node (eqb-true k 4 b.0) r.1, r.2)

pub code_belongs : (f : Family) (c : ℕ) → admits f c ≡ true → belongs f (node 4 (num c end)) ≡ true
unfolding belongs belongs_row
code_belongs f c e = e

-- the two outcomes of a join
module _ (r s : Request) where
  pub meet_some : (e : Request) → meet r s ≡ some e → (t : Term) → (belongs e.family t ≡ true) ↔ ((belongs r.family t ≡ true) × (belongs s.family t ≡ true))
  meet_some e p t = (there, back)
    where
      there : belongs e.family t ≡ true → (belongs r.family t ≡ true) × (belongs s.family t ≡ true)
      there b =
          let x = belongs_code e.family t b in
          let y = both (admits r.family x.0) (admits s.family x.0) (sym ((meets r s e p).types x.0) ∙ x.2) in
          (ap (belongs r.family) x.1 ∙ code_belongs r.family x.0 y.0, ap (belongs s.family) x.1 ∙ code_belongs s.family x.0 y.1)

      back : (belongs r.family t ≡ true) × (belongs s.family t ≡ true) → belongs e.family t ≡ true
      back b =
          let x = belongs_code r.family t b.0 in
          let y = belongs_code s.family t b.1 in
          let z : y.0 ≡ x.0 = let q = x.1 in let w = y.1 in cc in
          let a : admits s.family x.0 ≡ true = ap (admits s.family) (sym z) ∙ y.2 in
          ap (belongs e.family) x.1 ∙ code_belongs e.family x.0 ((meets r s e p).types x.0 ∙ rw x.2 a)

  pub meet_none : meet r s ≡ none → (t : Term) → belongs r.family t ≡ true → ¬ (belongs s.family t ≡ true)
  meet_none p t b d =
      let x = belongs_code r.family t b in
      let y = belongs_code s.family t d in
      let z : y.0 ≡ x.0 = let q = x.1 in let w = y.1 in cc in
      let a : admits s.family x.0 ≡ true = ap (admits s.family) (sym z) ∙ y.2 in
      misses r s p x.0 x.2 a
