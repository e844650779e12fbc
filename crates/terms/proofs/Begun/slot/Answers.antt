-- `slot`. By the class.
use mathlib.Core.Path.{◌≡◌, sym, ap, ◌∙◌}
use native.Mathlib.Omega.{arith}
use Rattle.terms.specs.Tree.{class}
use Rattle.terms.specs.Words.SlotsContract.{class_number}
use Rattle.terms.proofs.Laws.Normalising.SlotLaws.{slot_zero, slot_one, slot_two}
use Rattle.terms.proofs.Begun.slot.Goals as goal

pub returns-in-Plain : goal.returns-in-Plain
returns-in-Plain c = (slot_zero _ _ _ _ 0 _ (sym c.from.ensures ∙ ap class_number c.in-Plain.is), omega arith)

pub returns-in-Nominal : goal.returns-in-Nominal
returns-in-Nominal c =
    let e = c.min.ensures in
    (slot_one _ _ _ _ _ _ (sym c.from.ensures ∙ ap class_number c.in-Nominal.is) (rw (← e) c.nominal_slot.ensures.0), c.nominal_slot.ensures.1)

pub returns-in-Projection : goal.returns-in-Projection
returns-in-Projection c =
    let k : class c.args.self.tag ≡ 2 = sym c.from.ensures ∙ ap class_number c.in-Projection.is in
    let e = c.min-a.ensures in
    let f = c.min-in-Projection.ensures in
    (slot_two _ _ _ _ _ _ (λ z. omega (arith, k, z)) (λ z. omega (arith, k, z)) (rw (← e, ← f) c.projection_slot.ensures.0), c.projection_slot.ensures.1)
