-- `range_request`. By the two refusals.
use native.Mathlib.Omega.{arith}
use Rattle.std.proofs.lemmas.Grind.{common_steps}
use Rattle.solver.specs.Families.{request_of}
use mathlib.Core.Path.{sym, ◌∙◌}
use Rattle.solver.proofs.Laws.Table.RequestWordLaws.{range_none, range_is}
use Rattle.solver.proofs.ranges.range_request.Goals as goal

pub returns-then-not-at_most : goal.returns-then-not-at_most
unfolding request_of
returns-then-not-at_most c = grind (arith, common_steps)

pub returns-then-mask-eq0 : goal.returns-then-mask-eq0
returns-then-mask-eq0 c = range_none _ _ _ _ (sym c.at_most.ensures ∙ c.if-not-at_most.false) c.mask-mask.ensures.0 c.if-mask-eq0.true

pub returns : goal.returns
returns c = range_is _ _ _ _ c.args.fallback.listed (sym c.at_most.ensures ∙ c.if-not-at_most.false) c.mask-mask.ensures.0 c.if-mask-eq0.false
