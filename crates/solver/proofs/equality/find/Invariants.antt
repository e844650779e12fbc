-- `find`. Invariant: r is reached from a by going up, and `up` is its link. Measure: r, which falls.
use lib.ListN.{length, get_or}
use mathlib.Core.Path.{◌≡◌}
use Prim.Native.Nat.{◌<◌}
use Rattle.solver.specs.Words.Halves.{halves}
use Rattle.solver.specs.Words.CongruenceClasses.{Up}
use Rattle.solver.proofs.equality.find.Given as goal

abbrev pub invariant-loop-up : goal.invariant-loop-up
invariant-loop-up l = (l.r < length (halves l.links)) × Up (halves l.links) l.a l.r × (l.up ≡ get_or (halves l.links) l.r 0)

abbrev pub decreases-loop-up : goal.decreases-loop-up
decreases-loop-up l = l.r
