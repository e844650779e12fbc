-- `span`: by the kind.
use mathlib.Core.Path.{sym}
use Rattle.terms.proofs.Laws.Held.HeldLaws.{span_one, span_node}
use Rattle.terms.proofs.Token.span.Goals as goal

pub returns-then-self-lt2 : goal.returns-then-self-lt2
returns-then-self-lt2 c = sym (span_one _ _ c.if-self-lt2.true)

pub returns : goal.returns
returns c = sym (span_node _ _ c.if-self-lt2.false)
