-- `reaches`. Invariant: `Going`, the runs of the first `done` variables of the queue have been scanned. Measure: the variables not yet taken.
use Prim.Native.Nat.{◌+◌, ◌-◌, ◌≤◌}
use lib.ListN.{length}
use Rattle.solver.specs.Words.ReachContract.{question_of, run_of}
use Rattle.solver.proofs.Laws.Resolving.ReachLaws.{Going}
use Rattle.solver.proofs.reach.reaches.Given as goal

abbrev pub invariant-loop-hit : goal.invariant-loop-hit
invariant-loop-hit l = Going l.tokens.kinds.now l.tokens.vals.now l.bound (run_of l.tokens.kinds.now l.tokens.vals.now (l.p + 1)) (question_of l.want) l.marks l.queue l.top l.done l.hit × (length l.marks ≤ length l.queue)

abbrev pub decreases-loop-hit : goal.decreases-loop-hit
decreases-loop-hit l = length l.bound - l.done
