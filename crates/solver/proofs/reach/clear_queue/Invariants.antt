-- `clear_queue`. Invariant: `Clearing`, the places whose words are not 0 are listed before k. Measure: k.
use Rattle.solver.specs.Words.CongruenceClasses.{Clearing}
use Rattle.solver.proofs.reach.clear_queue.Given as goal

abbrev pub invariant-loop-k : goal.invariant-loop-k
invariant-loop-k l = Clearing l.marks l.queue l.k
