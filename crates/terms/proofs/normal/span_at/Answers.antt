-- `span_at`.
use mathlib.Core.Path.{refl}
use Rattle.terms.proofs.Laws.Normalising.NormalLaws.{span_told}
use Rattle.terms.proofs.normal.span_at.Goals as goal

pub returns-clause-span : goal.returns-clause-span
returns-clause-span c = span_told _ _ _ _ _ _ _ refl c.token.ensures.kind c.token.ensures.value c.step.ensures.span c.min.ensures
