-- `run`: the answers stay within the output.
use mathlib.Core.Path.{◌≡◌}
use Prim.Native.Nat.{◌≤◌}
use lib.ListN.{length}
use Rattle.reread.proofs.run.Given as goal

abbrev pub invariant-loop-frame : goal.invariant-loop-frame
invariant-loop-frame l =
    (goal.iterator-loop-frame).can_next l.frame-iterator
    × (goal.iterator-loop-frame).is_finite l.frame-iterator
    × (length l.frame-iterator.input.bytes.now ≡ length l.input.bytes.now)
    × (l.to ≤ length l.out)
    × (length l.kinds ≡ length l.initial.kinds)
    × (length l.vals ≡ length l.initial.vals)
    × (length l.out ≡ length l.initial.out)
