-- `number_from`. Invariant: what is left of the row has its numbers. Measure: the tokens left.
use Prim.Native.Nat.{◌-◌, ◌≤◌}
use Rattle.terms.specs.Term.{Parts}
use Rattle.terms.specs.Words.Held.{HeldParts}
use Rattle.solver.proofs.Laws.Checks.PushLaws.{Seeking}
use Rattle.solver.proofs.pending.number_from.Given as goal

abbrev pub invariant-loop-i : goal.invariant-loop-i
invariant-loop-i l = (l.i ≤ l.row.end) × ((ps : Parts) → HeldParts l.tokens.kinds.now l.tokens.vals.now l.row.from l.row.end ps → Seeking l.tokens.kinds.now l.tokens.vals.now l.i l.row.end ps)

abbrev pub decreases-loop-i : goal.decreases-loop-i
decreases-loop-i l = l.row.end - l.i
