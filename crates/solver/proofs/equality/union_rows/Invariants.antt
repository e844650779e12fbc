-- `union_rows`. Invariant: for any two rows that the areas hold, `RowWalk` says what is left of them and what follows if that joins.
use mathlib.Core.Option.{Option}
use mathlib.Core.Path.{◌≡◌}
use Prim.Native.Nat.{ℕ}
use Rattle.terms.specs.Term.{Term, Parts}
use Rattle.solver.specs.Constrain.{follow}
use Rattle.solver.specs.Words.Halves.{halves}
use Rattle.solver.specs.Words.Lent.{RowBy}
use Rattle.solver.specs.Words.CongruenceClasses.{Advanced, HeldSteady, stands_for, Fair}
use Rattle.solver.proofs.Laws.Equality.UnionRowLaws.{RowWalk}
use Rattle.solver.proofs.equality.union_rows.Given as goal

abbrev pub invariant-loop-step : goal.invariant-loop-step
invariant-loop-step l =
    let x = l.step-iterator in
    (x.tokens ≡ l.bindings.tokens)
    × Advanced l.bindings.tokens.kinds.now (halves l.initial.links) l.initial.queue l.initial.top (halves l.links) l.queue l.top
    × ((h : ℕ → Option Term) (ps qs : Parts) → HeldSteady l.bindings h → RowBy l.bindings l.fn.a ps → RowBy l.bindings l.fn.b qs
    → Fair l.bindings.tokens.kinds.now l.bindings.tokens.vals.now (halves l.initial.links)
    → RowWalk l.bindings.tokens.kinds.now l.bindings.tokens.vals.now (stands_for l.bindings.most h) (follow l.bindings.most h) x.a.end x.b.end ps qs (halves l.initial.links) x.a.from x.b.from (halves l.links))
