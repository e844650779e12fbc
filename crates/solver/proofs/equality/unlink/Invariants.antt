-- `unlink`. Invariant: `Unlinking`, the places whose links are not 0 are listed before k. Measure: k.
use Rattle.solver.specs.Words.Halves.{halves}
use Rattle.solver.specs.Words.CongruenceClasses.{Unlinking}
use Rattle.solver.proofs.equality.unlink.Given as goal

abbrev pub invariant-loop-k : goal.invariant-loop-k
invariant-loop-k l = Unlinking (halves l.links) l.queue l.k
