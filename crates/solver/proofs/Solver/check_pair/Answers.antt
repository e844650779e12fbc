-- `check_pair`.
use mathlib.Core.Path.{◌∙◌}
use Rattle.solver.specs.Constrain.{top}
use Rattle.solver.proofs.Laws.Checks.CheckContractLaws.{due_places, due_same, due_left, due_right, due_nodes, turned_same, turned_left, turned_right, turned_nodes}
use Rattle.solver.proofs.Solver.check_pair.Goals as goal

pub same_terms-requires-clause-places : goal.same_terms-requires-clause-places
same_terms-requires-clause-places c =
    let k = c.chains-chains.ensures in
    rw k.0 (due_places c.requires.due.3)

pub returns-then-same_terms-clause-after : goal.returns-then-same_terms-clause-after
returns-then-same_terms-clause-after c =
    let k = c.chains-chains.ensures in
    λ s t u ps D W. rw c.checked.ensures (turned_same D _ W (due_same D (rw k.0 at (rw k.1 at (rw k.2 at c.same_terms.ensures.term))) ∙ c.if-same_terms.true))

pub shallow_resolve-a-requires : goal.shallow_resolve-a-requires
shallow_resolve-a-requires c = (due_places c.requires.due.3).0

pub shallow_resolve-b-requires : goal.shallow_resolve-b-requires
shallow_resolve-b-requires c = (due_places c.requires.due.3).1

pub unify_end-requires-clause-faces : goal.unify_end-requires-clause-faces
unify_end-requires-clause-faces c =
    let k = c.chains-chains.ensures in
    let d = c.requires.due in
    let f = (rw k.1 at c.shallow_resolve-a.ensures.term) in
    let g = (rw k.1 at c.shallow_resolve-b.ensures.term) in
    (d.0, top d.0.solver d.2, due_left d.3 _ _ f g (due_same d.3 (rw k.0 at (rw k.1 at (rw k.2 at c.same_terms.ensures.term))) ∙ c.if-same_terms.false) c.variable_of.ensures c.in-Some.is c.shallow_resolve-b.ensures.inside)

pub returns-in-Some-clause-after : goal.returns-in-Some-clause-after
returns-in-Some-clause-after c =
    let k = c.chains-chains.ensures in
    let f = (rw k.1 at c.shallow_resolve-a.ensures.term) in
    let g = (rw k.1 at c.shallow_resolve-b.ensures.term) in
    λ s t u ps D W.
    turned_left D _ _ f g _ _ (due_same D (rw k.0 at (rw k.1 at (rw k.2 at c.same_terms.ensures.term))) ∙ c.if-same_terms.false) c.variable_of.ensures c.in-Some.is
    (c.unify_end.ensures.after s (top s.solver u) (top s.solver t) (top s.solver u) ps _
    (due_left D _ _ f g (due_same D (rw k.0 at (rw k.1 at (rw k.2 at c.same_terms.ensures.term))) ∙ c.if-same_terms.false) c.variable_of.ensures c.in-Some.is c.shallow_resolve-b.ensures.inside) W)

pub unify_end-requires-in-Some-variable_of-clause-faces : goal.unify_end-requires-in-Some-variable_of-clause-faces
unify_end-requires-in-Some-variable_of-clause-faces c =
    let k = c.chains-chains.ensures in
    let d = c.requires.due in
    let f = (rw k.1 at c.shallow_resolve-a.ensures.term) in
    let g = (rw k.1 at c.shallow_resolve-b.ensures.term) in
    (d.0, top d.0.solver d.1, due_right d.3 _ _ f g (due_same d.3 (rw k.0 at (rw k.1 at (rw k.2 at c.same_terms.ensures.term))) ∙ c.if-same_terms.false) c.variable_of-2.ensures c.in-Some-variable_of.is c.shallow_resolve-a.ensures.inside)

pub returns-in-Some-variable_of-clause-after : goal.returns-in-Some-variable_of-clause-after
returns-in-Some-variable_of-clause-after c =
    let k = c.chains-chains.ensures in
    let f = (rw k.1 at c.shallow_resolve-a.ensures.term) in
    let g = (rw k.1 at c.shallow_resolve-b.ensures.term) in
    λ s t u ps D W.
    turned_right D _ _ f g _ _ (due_same D (rw k.0 at (rw k.1 at (rw k.2 at c.same_terms.ensures.term))) ∙ c.if-same_terms.false)
    c.variable_of.ensures c.in_default.is c.variable_of-2.ensures c.in-Some-variable_of.is
    (c.unify_end-in-Some-variable_of.ensures.after s (top s.solver t) (top s.solver t) (top s.solver u) ps _
    (due_right D _ _ f g (due_same D (rw k.0 at (rw k.1 at (rw k.2 at c.same_terms.ensures.term))) ∙ c.if-same_terms.false) c.variable_of-2.ensures c.in-Some-variable_of.is c.shallow_resolve-a.ensures.inside) W)

pub decompose-requires-clause-met : goal.decompose-requires-clause-met
decompose-requires-clause-met c =
    let k = c.chains-chains.ensures in
    let d = c.requires.due in
    let f = (rw k.1 at c.shallow_resolve-a.ensures.term) in
    let g = (rw k.1 at c.shallow_resolve-b.ensures.term) in (
      top d.0.solver d.1,
      top d.0.solver d.2,
      due_nodes d.3 _ _ f g c.variable_of.ensures c.in_default.is c.variable_of-2.ensures c.in_default-variable_of.is c.shallow_resolve-a.ensures.inside c.shallow_resolve-b.ensures.inside,
    )

pub returns-clause-after : goal.returns-clause-after
returns-clause-after c =
    let k = c.chains-chains.ensures in
    let f = (rw k.1 at c.shallow_resolve-a.ensures.term) in
    let g = (rw k.1 at c.shallow_resolve-b.ensures.term) in
    λ s t u ps D W.
    let M = due_nodes D _ _ f g c.variable_of.ensures c.in_default.is c.variable_of-2.ensures c.in_default-variable_of.is c.shallow_resolve-a.ensures.inside c.shallow_resolve-b.ensures.inside in
    turned_nodes D _ _ f g _ _ (due_same D (rw k.0 at (rw k.1 at (rw k.2 at c.same_terms.ensures.term))) ∙ c.if-same_terms.false)
    c.variable_of.ensures c.in_default.is c.variable_of-2.ensures c.in_default-variable_of.is
    (c.decompose.ensures.after s (top s.solver t) (top s.solver u) ps _ D.represents M W)
