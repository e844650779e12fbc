-- `read_groups`. The loop's invariant: the number from here on, at the value and the weight so far, is the number that is asked.
use mathlib.Core.Path.{◌≡◌}
use Prim.Native.Nat.{◌≤◌, ◌<◌, ◌-◌}
use lib.ListN.{length, drop}
use Rattle.terms.specs.Number.{groups, number}
use Rattle.terms.proofs.numbers.read_groups.Given as goal

abbrev pub invariant-loop-i : goal.invariant-loop-i
invariant-loop-i l = (l.v ≤ l.most) × (0 < l.w) × (groups l.most l.v l.w l.i (drop l.i l.s) ≡ number l.most l.s l.at)

abbrev pub decreases-loop-i : goal.decreases-loop-i
decreases-loop-i l = length l.s - l.i
