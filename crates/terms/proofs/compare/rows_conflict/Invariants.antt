-- `rows_conflict`. The loop's invariant: what is left of the rows conflicts as the whole rows do.
use mathlib.Core.Path.{◌≡◌}
use mathlib.Core.Bool.{Bool}
use Prim.Native.Nat.{◌≤◌, ◌-◌}
use Rattle.terms.specs.Words.CompareContract.{Rows}
use Rattle.terms.proofs.compare.rows_conflict.Given as goal

abbrev pub invariant-loop-x : goal.invariant-loop-x
invariant-loop-x l = (l.x.from ≤ l.x.end) × (l.y.from ≤ l.y.end) × (l.x.end ≡ l.fn.a.end) × (l.y.end ≡ l.fn.b.end) × ((w : Bool) → Rows l.tokens.kinds.now l.tokens.vals.now l.fn.a.from l.fn.a.end l.fn.b.from l.fn.b.end w
    → Rows l.tokens.kinds.now l.tokens.vals.now l.x.from l.x.end l.y.from l.y.end w)

abbrev pub decreases-loop-x : goal.decreases-loop-x
decreases-loop-x l = l.x.end - l.x.from
