-- `Solver::solve_pair`. Invariant: `Loop`, of whether the verdict is Compatible so far; it is that or Incompatible.
use mathlib.Core.Path.{◌≡◌}
use Rattle.solver.specs.Words.PendingContract.{strict_of}
use Rattle.solver.specs.Shapes.{notion}
use Rattle.solver.proofs.Laws.Checks.PairLoopLaws.{Loop, agreed, told}
use Rattle.solver.proofs.Solver.solve_pair.Given as goal

abbrev pub invariant-loop-count : goal.invariant-loop-count
invariant-loop-count l =
    Loop (notion (strict_of l.access)) l.initial.self l.tokens.kinds.now l.tokens.vals.now l.initial.table l.initial.pending l.initial.left l.initial.count (agreed l.initial.verdict) l.self l.table l.pending l.work l.left l.count (agreed l.verdict) × (told (agreed l.verdict) ≡ l.verdict)

abbrev pub decreases-loop-count : goal.decreases-loop-count
decreases-loop-count l = l.left
