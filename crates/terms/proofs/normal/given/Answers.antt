-- `given`.
use native.Mathlib.Omega.{arith}
use Rattle.terms.proofs.Laws.Normalising.NormalLaws.{given_sight, given_held}
use Rattle.terms.proofs.normal.given.Goals as goal

pub returns-clause-sight : goal.returns-clause-sight
returns-clause-sight c =
    given_sight _ _ _ c.args.tokens.now.pairs c.requires (omega (arith, c.requires, c.span_at.ensures.bound, c.span_at-2.ensures.bound))

pub returns-clause-given : goal.returns-clause-given
returns-clause-given c = given_held _ _ _ c.span_at.result c.span_at-2.ensures.span c.span_at.ensures.span c.saturating_sub-row.ensures
