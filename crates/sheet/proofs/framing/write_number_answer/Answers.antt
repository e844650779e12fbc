-- `write_number_answer`: the number after its opening.
use Rattle.solver.specs.Terms.Number.{shortest}
use Rattle.sheet.proofs.Laws.Answering.FramingLaws.{value_in, value_over}
use Rattle.sheet.proofs.framing.write_number_answer.Goals as goal

pub returns-in_err-at : goal.returns-in_err-at
returns-in_err-at c =
    let a = c.args in
    rw c.from_residual.ensures (value_over (shortest a.n) _ c.number_len-size.ensures a.out.now a.to _ c.in_err-at.ensures)

pub returns : goal.returns
returns c =
    let a = c.args in
    value_in (shortest a.n) _ c.number_len-size.ensures a.out.now a.to _ _ c.in_ok-at.ensures _ _ c.write_number.ensures.next c.write_number.ensures.wrote
