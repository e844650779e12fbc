use mathlib.Core.Path.{sym}
use Rattle.terms.proofs.Laws.Asking.ConflictLaws.{rows_short, rows_last}
use Rattle.terms.proofs.compare.rows_conflict.Goals as goal

pub returns-then-y : goal.returns-then-y
returns-then-y c = λ w x. sym (rows_short _ _ _ _ _ _ w (c.loop-x.invariant.4 w x) c.loop-x-test.true c.if-y.true)

pub returns-in_default : goal.returns-in_default
returns-in_default c = λ w x. sym (rw c.in_default.is at (c.pair_step.ensures.stepped w (c.loop-x.invariant.4 w x)))

pub returns : goal.returns
returns c = λ w x. rows_last _ _ _ _ _ _ w (c.loop-x.invariant.4 w x) c.loop-x-test.false
