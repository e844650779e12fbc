-- `pair_terms`: by the kinds of the two terms.
use mathlib.Core.Path.{refl, sym, ◌∙◌}
use Rattle.terms.proofs.Laws.Asking.ConflictLaws.{next_terms, step_left, step_right, step_kinds, step_projections, step_whole, step_enter}
use Rattle.terms.proofs.Laws.General.Bools.{not-true, not-false}
use Rattle.terms.proofs.compare.pair_terms.Goals.{then-yields-via-then-yields, then-yields-via-else-yields+then-yields-2}
use Rattle.terms.proofs.compare.pair_terms.Goals as goal

pub returns-then-yields-clause-stepped : goal.returns-then-yields-clause-stepped
returns-then-yields-clause-stepped c =
    λ w x.
    let n = next_terms x c.requires.parts.0.0 c.requires.parts.1.0 c.requires.terms in
    elim c.then-yields.branch [
      | then-yields-via-then-yields v ↦ step_left n refl refl (sym c.yields.ensures ∙ v.if-yields.true) c.past.result c.past.ensures.passed
      | then-yields-via-else-yields+then-yields-2 v ↦
          step_right n refl refl (sym v.yields-else-yields.ensures ∙ v.if-yields-2.true) c.past.result c.past.ensures.passed
    ]

pub returns-then-k-l-clause-stepped : goal.returns-then-k-l-clause-stepped
returns-then-k-l-clause-stepped c =
    λ w x.
    step_kinds (next_terms x c.requires.parts.0.0 c.requires.parts.1.0 c.requires.terms) refl refl (sym c.yields.ensures ∙ c.if-yields.false)
    (sym c.yields-else-yields.ensures ∙ c.if-yields-2.false)
    c.if-k-l.true

pub returns-then-not-same_term-clause-stepped : goal.returns-then-not-same_term-clause-stepped
returns-then-not-same_term-clause-stepped c =
    λ w x.
    let n = next_terms x c.requires.parts.0.0 c.requires.parts.1.0 c.requires.terms in
    step_projections n refl refl (sym c.yields.ensures ∙ c.if-yields.false) (sym c.yields-else-yields.ensures ∙ c.if-yields-2.false)
    c.if-k-l.false c.if-k-eq20.true (sym (c.same_term.ensures n.t n.u n.held_left n.held_right) ∙ not-true _ c.if-not-same_term.true-raw)

pub returns-then-k-eq20-clause-stepped : goal.returns-then-k-eq20-clause-stepped
returns-then-k-eq20-clause-stepped c =
    λ w x.
    let n = next_terms x c.requires.parts.0.0 c.requires.parts.1.0 c.requires.terms in
    step_whole n refl refl (sym c.yields.ensures ∙ c.if-yields.false) (sym c.yields-else-yields.ensures ∙ c.if-yields-2.false)
    c.if-k-l.false c.if-k-eq20.true (sym (c.same_term.ensures n.t n.u n.held_left n.held_right) ∙ not-false _ c.if-not-same_term.false-raw)
    c.past-then-k-eq20.result c.past-then-k-eq20.ensures.passed

pub returns-clause-stepped : goal.returns-clause-stepped
returns-clause-stepped c =
    λ w x.
    step_enter (next_terms x c.requires.parts.0.0 c.requires.parts.1.0 c.requires.terms) refl refl (sym c.yields.ensures ∙ c.if-yields.false)
    (sym c.yields-else-yields.ensures ∙ c.if-yields-2.false)
    c.if-k-l.false c.if-k-eq20.false
