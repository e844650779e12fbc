-- `covers`: the member is given, or its term is reflexive.
use mathlib.Core.Path.{sym, ◌∙◌}
use Rattle.terms.specs.Comparison.{has}
use Rattle.terms.proofs.Laws.General.Bools.{or-true, or-false}
use Rattle.terms.proofs.satisfy.covers.Goals as goal

pub returns-then-gives : goal.returns-then-gives
unfolding has
returns-then-gives c = λ d n rest w u x l h y f. c.if-gives.true ∙ sym (or-true _ _ (sym (c.gives.ensures d n.members n.values rest u l y) ∙ c.if-gives.true))

pub returns-else-gives : goal.returns-else-gives
unfolding has
returns-else-gives c =
    λ d n rest w u x l h y f.
    c.is_reflexive.ensures d n rest w u x h y f ∙ sym (or-false _ _ (sym (c.gives.ensures d n.members n.values rest u l y) ∙ c.if-gives.false))
