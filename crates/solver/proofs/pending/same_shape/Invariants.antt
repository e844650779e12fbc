-- `same_shape`. Invariant: what is left of the two rows decides.
use mathlib.Core.Path.{◌≡◌}
use mathlib.Core.Bool.{not}
use Rattle.solver.specs.Words.PendingContract.{strict_of}
use Rattle.solver.proofs.Laws.Checks.RowsInStepLaws.{Walks}
use Rattle.solver.proofs.pending.same_shape.Given as goal

abbrev pub invariant-loop-step : goal.invariant-loop-step
invariant-loop-step l =
    let s = l.step-iterator in
    (s.tokens ≡ l.tokens)
    × Walks l.tokens.kinds.now l.tokens.vals.now l.a l.b (not (strict_of l.initial.counts)) s.a.from s.a.end s.b.from s.b.end (not (strict_of l.counts))
