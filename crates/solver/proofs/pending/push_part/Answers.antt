-- `push_part`. By the index.
use native.Mathlib.Omega.{arith}
use Rattle.std.proofs.lemmas.Grind.{common_steps}
use Rattle.solver.specs.Words.PendingContract.{window}
use Rattle.solver.proofs.pending.push_part.Goals.{then-lo-from+then-from-hi, else-lo-from, else-lo-from-via-then-lo-from+else-from-hi, else-lo-from-via-else-lo-from}
use Rattle.solver.proofs.pending.push_part.Goals as goal

pub put_pair-top-requires-clause-room : goal.put_pair-top-requires-clause-room
unfolding window
put_pair-top-requires-clause-room c = grind (arith, common_steps)

pub returns-clause-laid : goal.returns-clause-laid
unfolding window
returns-clause-laid c = elim c.if-lo-from.branch [
  | then-lo-from+then-from-hi w ↦ rw (w.pending-is, w.top-is) (grind (arith, common_steps))
  | else-lo-from w ↦ rw (w.pending-is, w.top-is) (elim w.else-lo-from.branch [
    | else-lo-from-via-then-lo-from+else-from-hi v ↦ grind (arith, common_steps)
    | else-lo-from-via-else-lo-from v ↦ grind (arith, common_steps)
  ])
]
