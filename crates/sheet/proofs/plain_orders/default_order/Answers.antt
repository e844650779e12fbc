-- `default_order`: three bytes, or nothing is done.
use native.Mathlib.Omega.{arith}
use Rattle.solver.specs.Words.SessionRepresentation.{limits_of}
use Rattle.sheet.specs.Sheet.{solve}
use Rattle.solver.specs.Words.MethodContract.{defaults_by}
use Rattle.sheet.proofs.Laws.Answering.SessionOrderLaws.{lent_revision, defaults_tell, defaults_not, defaults_done}
use Rattle.sheet.proofs.plain_orders.default_order.Goals as goal

pub returns-then-out-to-lt-BYTE_ANSWER : goal.returns-then-out-to-lt-BYTE_ANSWER
returns-then-out-to-lt-BYTE_ANSWER c =
    let a = c.args in
    λ z A L. defaults_not L (solve (limits_of a.x) z (defaults_by a.which)) (defaults_tell a.which (limits_of a.x) z) a.out.now a.to c.requires.room.inside (omega (arith, c.if-out-to-lt-BYTE_ANSWER.true))

pub apply_defaults-y-requires-clause-areas : goal.apply_defaults-y-requires-clause-areas
apply_defaults-y-requires-clause-areas c =
    let p = c.requires.held in
    omega (arith, lent_revision _ _ _ _ _ p.1 p.2, p.2.narrow)

pub returns : goal.returns
returns c =
    let a = c.args in
    let e = c.apply_defaults-y.ensures in
    λ z A L. defaults_done L (solve (limits_of a.x) z (defaults_by a.which)) (defaults_tell a.which (limits_of a.x) z) a.out.now a.to c.requires.room.inside _ _ _ _ _ (omega (arith, c.if-out-to-lt-BYTE_ANSWER.false)) (e.held z L A) e.beside (rw (c.revision-old.ensures.count, c.revision.ensures.count) at c.from.ensures) c.write_byte_answer-next.ensures
