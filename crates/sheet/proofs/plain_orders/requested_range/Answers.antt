-- `requested_range`: without a bound nothing, or what both request.
use mathlib.Core.Path.{ap, ◌∙◌}
use Rattle.solver.specs.Words.MethodContract.{request_held}
use Rattle.sheet.proofs.Laws.Answering.TermlessLaws.{no_low, no_high, with_both}
use Rattle.sheet.proofs.plain_orders.requested_range.Goals as goal

pub returns-in_err-bound_at : goal.returns-in_err-bound_at
returns-in_err-bound_at c = ap request_held c.from_residual.ensures ∙ no_low _ _ _ c.in_err-bound_at.ensures

pub returns-in_err-bound_at-2 : goal.returns-in_err-bound_at-2
returns-in_err-bound_at-2 c = ap request_held c.from_residual-in_err-bound_at-2.ensures ∙ no_high _ _ _ c.in_err-bound_at-2.ensures

pub returns : goal.returns
returns c = c.range_request.ensures ∙ with_both _ _ _ _ _ c.in_ok-bound_at.ensures c.in_ok-bound_at-2.ensures
