-- `write_bytes_answer`: the bytes after their opening.
use mathlib.Core.Path.{refl}
use native.Mathlib.Omega.{arith}
use Rattle.sheet.proofs.Laws.Answering.FramingLaws.{value_in, value_over, put_sets, begun_room}
use Rattle.sheet.proofs.framing.write_bytes_answer.Goals as goal

pub returns-in_err-at : goal.returns-in_err-at
returns-in_err-at c =
    let a = c.args in
    rw c.from_residual.ensures (value_over a.v.now _ refl a.out.now a.to _ c.in_err-at.ensures)

pub returns : goal.returns
returns c =
    let a = c.args in
    value_in a.v.now _ refl a.out.now a.to _ _ c.in_ok-at.ensures _ _ refl
    (rw c.copy_from_slice.ensures.after (put_sets _ _ a.v.now (omega (arith, begun_room _ a.out.now a.to _ _ c.in_ok-at.ensures))))
