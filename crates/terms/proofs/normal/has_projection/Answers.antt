-- The kinds of the term tell; no term ends past the tokens.
use Rattle.std.proofs.Common.{refl, arith}
use Rattle.terms.proofs.Laws.Normalising.NormalLaws.{kinds_tell, kinds_out}
use Rattle.terms.proofs.normal.has_projection.Goals as goal

pub returns-then-end-tokens : goal.returns-then-end-tokens
returns-then-end-tokens c =
    let x = c.token.ensures in
    kinds_tell _ _ _ _ _ refl x.kind x.value c.step.ensures.span _ refl _ c.any_projection.ensures c.if-end-tokens.true

pub returns-else-end-tokens : goal.returns-else-end-tokens
returns-else-end-tokens c =
    let x = c.token.ensures in
    λ t h. absurd (kinds_out _ _ _ _ _ refl x.kind x.value c.step.ensures.span (omega (arith, c.if-end-tokens.false)) t h)
