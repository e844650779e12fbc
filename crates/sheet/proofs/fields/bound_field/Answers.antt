-- `bound_field`: a byte, and then two numbers.
use mathlib.Core.Path.{refl, ◌∙◌}
use Prim.Native.Nat.{◌+◌}
use native.Mathlib.Omega.{arith}
use Rattle.solver.proofs.Terms.Options.{handed_on}
use Rattle.sheet.proofs.Laws.Reading.PartLaws.{moved_twice, read_moved, bound_none, bound_high, bound_low, bound_yes, number_small}
use Rattle.sheet.proofs.fields.bound_field.Goals as goal

pub returns-in_err-byte_at : goal.returns-in_err-byte_at
returns-in_err-byte_at c =
    let e = c.in_err-byte_at.ensures {u = tt} in
    rw (handed_on _ _ c.from_residual.ensures.1, e.1) (bound_none c.args.s.now c.args.place.now c.requires e.0)

pub returns-in_err-high : goal.returns-in_err-high
returns-in_err-high c =
    rw (handed_on _ _ c.from_residual-in_err-high.ensures.1) (bound_high c.args.s.now c.args.place.now c.requires (c.in_ok-byte_at.ensures {u = tt}).0 _ c.in_err-high.ensures.is)

pub returns-in_err-low : goal.returns-in_err-low
returns-in_err-low c =
    rw (handed_on _ _ c.from_residual-in_err-low.ensures.1)
    (bound_low c.args.s.now c.args.place.now c.requires (c.in_ok-byte_at.ensures {u = tt}).0 _ _ c.in_ok-high.ensures.is _ c.in_err-low.ensures.is)

pub overflow_mul-result : goal.overflow_mul-result
overflow_mul-result c = omega (arith, (number_small _ _ _ _ c.in_ok-high.ensures (omega (arith, (c.in_ok-byte_at.ensures {u = tt}).0))).0)

pub overflow_add-result : goal.overflow_add-result
overflow_add-result c =
    let high = number_small _ _ _ _ c.in_ok-high.ensures (omega (arith, (c.in_ok-byte_at.ensures {u = tt}).0)) in
    let low = number_small _ _ _ _ c.in_ok-low.ensures high.1 in
    omega (arith, high.0, low.0)

pub returns : goal.returns
returns c =
    let x = c.in_ok-high.ensures in
    let y = c.in_ok-low.ensures in
    read_moved _ _ _ _ _ _ (moved_twice c.args.place.now c.next_number.new.place c.next_number-2.new.place (c.args.place.now.at + 1) x.place y.place) (bound_yes c.args.s.now c.args.place.now c.requires (c.in_ok-byte_at.ensures {u = tt}).0 _ _ x.is _ _ _ y.is refl (c.from-sign.ensures ∙ (c.in_ok-byte_at.ensures {u = tt}).1))
