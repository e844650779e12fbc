-- `push_range`. Invariant: the pairs done, and the rows that are left.
use mathlib.Core.Path.{◌≡◌}
use lib.ListN.{length}
use Rattle.solver.proofs.Laws.Checks.PushLaws.{Pushing}
use Rattle.solver.proofs.pending.push_range.Given as goal

abbrev pub invariant-loop-step : goal.invariant-loop-step
invariant-loop-step l =
    let s = l.step-iterator in
    (s.tokens ≡ l.tokens)
    × Pushing l.tokens.kinds.now l.tokens.vals.now l.a l.b l.lo l.hi l.count l.initial.pending l.pending s.a.from s.a.end s.b.from s.b.end l.c.child l.c.top × (length l.pending ≡ length l.initial.pending)
