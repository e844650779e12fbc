-- `fixed_len`.
use mathlib.Core.Path.{◌∙◌}
use Rattle.terms.proofs.Laws.Normalising.SumLaws.{lent_bytes}
use Rattle.terms.proofs.walking.fixed_len.Goals as goal

pub returns-clause-bytes : goal.returns-clause-bytes
returns-clause-bytes c = λ t h. c.run_len.ensures.len ∙ lent_bytes _ _ _ _ c.token.ensures.kind c.token.ensures.value c.span.ensures t h
