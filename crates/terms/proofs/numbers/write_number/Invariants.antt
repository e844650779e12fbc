-- `write_number`. The loop's invariant: what is left, stored from here on, gives the whole form stored.
use mathlib.Core.Path.{◌≡◌}
use Prim.Native.Nat.{◌+◌}
use lib.ListN.{length}
use lib.Seq.{sets}
use Rattle.terms.specs.Number.{shortest}
use Rattle.terms.proofs.numbers.write_number.Given as goal

abbrev pub invariant-loop-v : goal.invariant-loop-v
invariant-loop-v l = (l.i + length (shortest l.v) ≡ l.at + length (shortest l.value)) × (length l.out ≡ length l.initial.out) × (sets l.out l.i (shortest l.v) ≡ sets l.initial.out l.at (shortest l.value))

abbrev pub decreases-loop-v : goal.decreases-loop-v
decreases-loop-v l = l.v
