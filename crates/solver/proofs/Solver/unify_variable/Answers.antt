-- `unify_variable`.
use mathlib.Core.Path.{sym, ◌∙◌}
use Rattle.solver.proofs.Laws.Checks.CheckContractLaws.{facing_bind, facing_issued, assign_recovers, assign_refused, assign_occurs, assign_bound}
use Rattle.solver.proofs.Laws.Table.MethodLaws.{held_shaped}
use Rattle.solver.proofs.Solver.unify_variable.Goals.{then-not-admissible-via-then-not-admissible, then-not-admissible-via-else-not-admissible+then-occurs}
use Rattle.solver.proofs.Solver.unify_variable.Goals as goal

pub returns-then-recovers-clause-after : goal.returns-then-recovers-clause-after
returns-then-recovers-clause-after c =
    λ s t x y ps st F W. rw c.checked.ensures (assign_recovers F W
    (sym (c.recovers.ensures.term t s.solver.bindings s.solver.revision F.held F.represents.bindings F.steady) ∙ c.if-recovers.true))

pub invariant_of-read : goal.invariant_of-read
invariant_of-read c = record { columns = c.requires.faces.2.represents.room }

pub admissible-requires : goal.admissible-requires
admissible-requires c = c.requires.faces.2.inside

pub returns-then-not-admissible-clause-after : goal.returns-then-not-admissible-clause-after
returns-then-not-admissible-clause-after c =
    λ s t x y ps st F W.
    let r = sym (c.recovers.ensures.term t s.solver.bindings s.solver.revision F.held F.represents.bindings F.steady) ∙ c.if-recovers.false in
    rw c.checked-then-not-admissible.ensures (elim c.then-not-admissible.branch [
      | then-not-admissible-via-then-not-admissible w ↦
          assign_refused F W r (sym (c.admissible.ensures t s.solver.requests F.represents.requests F.held) ∙ w.if-not-admissible.true)
      | then-not-admissible-via-else-not-admissible+then-occurs w ↦
          assign_occurs F W r (sym (w.occurs.ensures.term t s.solver.bindings s.solver.revision F.held F.represents.bindings F.steady F.free) ∙ w.if-occurs.true)
    ])

pub bind-requires-clause-shape : goal.bind-requires-clause-shape
bind-requires-clause-shape c =
    let F = c.requires.faces.2 in
    (held_shaped F.represents, facing_issued F)

pub bind-requires-clause-areas : goal.bind-requires-clause-areas
bind-requires-clause-areas c =
    let f = facing_bind c.requires.faces.2 in
    (f.0, f.1, f.2)

pub returns-clause-after : goal.returns-clause-after
returns-clause-after c =
    let b = c.bind.ensures in
    λ s t x y ps st F W. rw c.checked-2.ensures (assign_bound F W
    (sym (c.recovers.ensures.term t s.solver.bindings s.solver.revision F.held F.represents.bindings F.steady) ∙ c.if-recovers.false)
    (sym (c.admissible.ensures t s.solver.requests F.represents.requests F.held) ∙ c.if-not-admissible.false)
    (sym (c.occurs.ensures.term t s.solver.bindings s.solver.revision F.held F.represents.bindings F.steady F.free) ∙ c.if-occurs.false)
    (λ rs e. b.held s t rs F.represents F.coming F.free F.held F.last F.within e) b.beside)
