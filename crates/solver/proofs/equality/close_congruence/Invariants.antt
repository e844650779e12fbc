-- `close_congruence`. Invariant: `Going`, the parts of the first `done` places of the queue are joined. Measure: the places that have not been taken.
use mathlib.Core.Option.{Option}
use Prim.Native.Nat.{ℕ, ◌-◌, ◌≤◌}
use Rattle.terms.specs.Term.{Term}
use Rattle.solver.specs.Constrain.{follow}
use Rattle.solver.specs.Words.Halves.{halves}
use Rattle.solver.specs.Words.SessionRepresentation.{begins}
use Rattle.solver.specs.Words.CongruenceClasses.{Advanced, HeldSteady, stands_for, Fair}
use Rattle.solver.proofs.Laws.Equality.CloseLaws.{Going}
use Rattle.solver.proofs.equality.close_congruence.Given as goal

abbrev pub invariant-loop-done : goal.invariant-loop-done
invariant-loop-done l =
    (l.done ≤ l.top)
    × Advanced l.bindings.tokens.kinds.now (halves l.initial.links) l.initial.queue l.initial.top (halves l.links) l.queue l.top
    × ((b : ℕ → Option Term) → HeldSteady l.bindings b → Fair l.bindings.tokens.kinds.now l.bindings.tokens.vals.now (halves l.initial.links)
    → Going l.bindings.tokens.kinds.now l.bindings.tokens.vals.now (stands_for l.bindings.most b) (follow l.bindings.most b) (halves l.initial.links) (halves l.links) l.queue l.done)

abbrev pub decreases-loop-done : goal.decreases-loop-done
decreases-loop-done l = begins l.bindings.tokens.kinds.now - l.done
