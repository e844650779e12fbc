-- `number_len`. The loop's invariant: the groups passed and those left are the groups of the value.
use mathlib.Core.Path.{◌≡◌}
use Prim.Native.Nat.{◌+◌, ◌≤◌, ◌<◌}
use lib.ListN.{length}
use Rattle.terms.specs.Number.{shortest}
use Rattle.terms.proofs.numbers.number_len.Given as goal

abbrev pub invariant-loop-v : goal.invariant-loop-v
invariant-loop-v l = (0 < l.n) × (l.n + l.v ≤ l.value + 1) × (l.n + length (shortest l.v) ≡ 1 + length (shortest l.value))

abbrev pub decreases-loop-v : goal.decreases-loop-v
decreases-loop-v l = l.v
