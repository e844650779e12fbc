-- What the bytes of an order say is of the sorts that are asked.
use mathlib.Core.Path.{◌≡◌, sym}
use mathlib.Core.List.{List, [], ◌∷◌}
use Prim.Native.Nat.{ℕ}
use native.Mathlib.Omega.{arith}
use Rattle.solver.specs.Terms.Parser.{got, byte, number}
use Rattle.solver.specs.Terms.Shape as shape
use Rattle.solver.specs.Terms.Shape.{ceiling}
use Rattle.solver.specs.Terms.Reading as reading
use Rattle.solver.specs.Terms.Substitution.{Receiver}
use Rattle.solver.specs.Terms.Rows as rows
use Rattle.solver.specs.Terms.Parameters as order
use Rattle.sheet.specs.Fields as fields
use Rattle.sheet.specs.Fields.{FieldSort, Field, field, term_field, nominal_field, rule_list}
use Rattle.sheet.specs.Words.OrderGiven.{OfSort, FitsLayout}
use Rattle.sheet.proofs.Laws.Reading.FieldLaws.{parts_of, same_value, code_after}

module _ (s : List ℕ) (issued : ℕ) where
  -- one receiver
  one_receiver : (at : ℕ) (rs : List Receiver) (n : ℕ) → rows.receivers s (term_field s issued) 1 at ≡ got rs n → (r : Receiver) × (rs ≡ r ∷ [])
  unfolding rows.receivers
  one_receiver at rs n e =
      let a = parts_of (number s (ceiling shape.definition) at) _ rs n e in
      let t = parts_of (term_field s issued a.1) _ rs n a.3 in
      (record { owner = a.0; term = t.0 }, sym (same_value t.3))

  pub field_fits : (a : FieldSort) (at : ℕ) (f : Field) (n : ℕ) → field s issued a at ≡ got f n → OfSort a f
  unfolding field
  field_fits fields.ordinary at f n e = let x = parts_of (number s (ceiling shape.ordinary) at) _ f n e in (x.0, sym (same_value x.3))
  field_fits fields.code at f n e = let x = parts_of (reading.code s 32 at) _ f n e in (x.0, sym (same_value x.3), (code_after s at x.0 x.1 x.2).0)
  field_fits fields.bound at f n e =
      let x = parts_of (byte s at) _ f n e in
      let y = parts_of (number s (ceiling shape.ordinary) x.1) _ f n x.3 in
      let z = parts_of (number s (ceiling shape.ordinary) y.1) _ f n y.3 in
      (x.0, _, sym (same_value z.3))
  field_fits fields.term at f n e = let x = parts_of (term_field s issued at) _ f n e in (x.0, sym (same_value x.3))
  field_fits fields.nominal at f n e = let x = parts_of (nominal_field s issued at) _ f n e in (x.0, sym (same_value x.3))
  field_fits fields.receiver at f n e =
      let x = parts_of (rows.receivers s (term_field s issued) 1 at) _ f n e in
      let y = one_receiver at x.0 x.1 x.2 in
      (y.0, rw (← y.1) (sym (same_value x.3)))
  field_fits fields.entries at f n e =
      let x = parts_of (reading.count s at) _ f n e in
      let y = parts_of (rows.entries s (term_field s issued) x.0 x.1) _ f n x.3 in
      (y.0, sym (same_value y.3))
  field_fits fields.receivers at f n e =
      let x = parts_of (reading.count s at) _ f n e in
      let y = parts_of (rows.receivers s (term_field s issued) x.0 x.1) _ f n x.3 in
      (y.0, sym (same_value y.3))
  field_fits fields.parameters at f n e =
      let x = parts_of (reading.count s at) _ f n e in
      let y = parts_of (order.parameters s x.0 x.1) _ f n x.3 in
      (y.0, sym (same_value y.3))
  field_fits fields.arguments at f n e =
      let x = parts_of (reading.count s at) _ f n e in
      let y = parts_of (rows.arguments s (term_field s issued) x.0 x.1) _ f n x.3 in
      (y.0, sym (same_value y.3))
  field_fits fields.rules at f n e =
      let x = parts_of (reading.count s at) _ f n e in
      let y = parts_of (rule_list s issued x.0 x.1) _ f n x.3 in
      (y.0, sym (same_value y.3))

  pub fields_fit : (l : List FieldSort) (at : ℕ) (fs : List Field) (n : ℕ) → fields.fields s issued l at ≡ got fs n → FitsLayout l fs
  unfolding fields.fields FitsLayout
  fields_fit [] at [] n e = tt
  fields_fit [] at (f ∷ fs) n e = absurd (let z : ◌≡◌ {A = ℕ} 0 1 = cc in omega arith)
  fields_fit (a ∷ l) at fs n e =
      let x = parts_of (field s issued a at) _ fs n e in
      let y = parts_of (fields.fields s issued l x.1) _ fs n x.3 in
      let z : x.0 ∷ y.0 ≡ fs = same_value y.3 in
      rw (← z) (field_fits a at x.0 x.1 x.2, fields_fit l x.1 y.0 y.1 y.2)
