-- `defer_term`: answered and then deferred, or not answered.
use mathlib.Core.Path.{ap, ◌∙◌}
use mathlib.Core.Bool.{not}
use Rattle.sheet.proofs.Laws.Answering.TermOrderLaws.{defer_over, defer_done}
use Rattle.sheet.proofs.term_orders.defer_term.Goals as goal

pub returns-then-is_none : goal.returns-then-is_none
returns-then-is_none c =
    let a = c.args in
    λ z t P. defer_over a.x _ _ _ z t P a.out.now a.to _ _ c.write_empty_answer-next.ensures (c.is_none.ensures ∙ ap not c.if-is_none.true)

pub returns : goal.returns
returns c =
    let a = c.args in
    let e = c.defer_never-y.ensures in
    λ z t P. defer_done a.x _ _ _ z t P a.out.now a.to _ _ _ _ c.write_empty_answer-next.ensures (c.is_none.ensures ∙ ap not c.if-is_none.false) (e.held z t P) e.beside
