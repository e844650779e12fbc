-- `write_variable_answer`: a variable after its opening.
use Rattle.solver.specs.Terms.Term.{var, bytes}
use Rattle.sheet.proofs.Laws.Answering.FramingLaws.{value_in, value_over}
use Rattle.sheet.proofs.plain_orders.write_variable_answer.Goals as goal

pub returns-in_err-at : goal.returns-in_err-at
returns-in_err-at c =
    let a = c.args in
    rw c.from_residual.ensures (value_over (bytes (var a.v)) _ c.variable_len-size.ensures.0 a.out.now a.to _ c.in_err-at.ensures)

pub returns : goal.returns
returns c =
    let a = c.args in
    let w = c.write_variable.ensures in
    value_in (bytes (var a.v)) _ c.variable_len-size.ensures.0 a.out.now a.to _ _ c.in_ok-at.ensures _ _ w.next w.wrote
