-- `code_field`: a byte below 32, or a refusal.
use native.Mathlib.Omega.{arith}
use Rattle.solver.proofs.Terms.Options.{handed_on}
use Rattle.sheet.proofs.Laws.Reading.PartLaws.{code_none, code_no, code_yes}
use Rattle.sheet.proofs.fields.code_field.Goals as goal

pub returns-in_err-c : goal.returns-in_err-c
returns-in_err-c c =
    let e = c.in_err-c.ensures {u = tt} in
    rw (handed_on _ _ c.from_residual.ensures.1, e.1) (code_none c.args.s.now c.args.place.now c.requires e.0)

pub returns-then-c-ge32 : goal.returns-then-c-ge32
returns-then-c-ge32 c =
    let b = c.in_ok-c.ensures {u = tt} in
    code_no c.args.s.now c.args.place.now c.requires b.0 (omega (arith, b.1, c.if-c-ge32.true))

pub returns : goal.returns
returns c =
    let b = c.in_ok-c.ensures {u = tt} in
    rw c.number_spot.ensures
    (code_yes c.args.s.now c.args.place.now c.requires b.0 (omega (arith, b.1, c.if-c-ge32.false)) (record { value = c.from.result; place = 0; end = 0 }) (omega (arith, b.1, c.from.ensures)))
