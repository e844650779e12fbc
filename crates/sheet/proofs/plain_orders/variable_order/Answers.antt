-- `variable_order`: refused, answered and then issued, or not answered.
use mathlib.Core.Bool.{not}
use mathlib.Core.Path.{◌∙◌, ap}
use Rattle.solver.specs.Terms.Term.{bytes}
use Rattle.solver.specs.Words.SessionRepresentation.{limits_of}
use Rattle.solver.specs.Words.MethodContract.{placed, named_of}
use Rattle.solver.specs.Words.OrderTerms.{place_of}
use Rattle.solver.specs.declared.Site.{Site}
use Rattle.sheet.specs.Words.SessionOrdersContract.{site_of, variable_command, variable_answer}
use Rattle.sheet.proofs.Laws.Answering.SessionOrderLaws.{variable_order_answer, variable_order_full, place_refused, place_over, place_done}
use Rattle.sheet.proofs.plain_orders.variable_order.Goals as goal

pub returns-in_default-clause-does : goal.returns-in_default-clause-does
returns-in_default-clause-does c =
    let a = c.args in
    λ z o L. place_refused a.x a.tokens.now.kinds.now a.tokens.now.vals.now a.tables.now z L (variable_command a.wanted) (place_of (site_of a.wanted)) (λ v. bytes (variable_answer z a.wanted v)) (variable_order_answer (limits_of a.x) z a.wanted) (variable_order_full (limits_of a.x) z a.wanted) _ (c.id_of.ensures.placed _ _ z L ∙ ap (λ (s : Site). named_of (placed (limits_of a.x) z (place_of s)).variable) c.from.ensures) a.out.now a.to _ _ c.in_default.is c.write_order_refusal-next.ensures

pub returns-then-is_none-clause-does : goal.returns-then-is_none-clause-does
returns-then-is_none-clause-does c =
    let a = c.args in
    let e = c.answer_variable-next.ensures in
    λ z o L. place_over a.x a.tokens.now.kinds.now a.tokens.now.vals.now a.tables.now z L (variable_command a.wanted) (place_of (site_of a.wanted)) (λ v. bytes (variable_answer z a.wanted v)) (variable_order_answer (limits_of a.x) z a.wanted) (variable_order_full (limits_of a.x) z a.wanted) _ (c.id_of.ensures.placed _ _ z L ∙ ap (λ (s : Site). named_of (placed (limits_of a.x) z (place_of s)).variable) c.from.ensures) a.out.now a.to _ _ _ c.in-Some.is (e.term z L) (c.is_none.ensures ∙ ap not c.if-is_none.true)

pub returns-clause-does : goal.returns-clause-does
returns-clause-does c =
    let a = c.args in
    let e = c.answer_variable-next.ensures in
    let w = c.issue_variable-y.ensures in
    λ z o L. place_done a.x a.tokens.now.kinds.now a.tokens.now.vals.now a.tables.now z L (variable_command a.wanted) (place_of (site_of a.wanted)) (λ v. bytes (variable_answer z a.wanted v)) (variable_order_answer (limits_of a.x) z a.wanted) (variable_order_full (limits_of a.x) z a.wanted) _ (c.id_of.ensures.placed _ _ z L ∙ ap (λ (s : Site). named_of (placed (limits_of a.x) z (place_of s)).variable) c.from.ensures) a.out.now a.to _ _ _ c.in-Some.is (e.term z L) (c.is_none.ensures ∙ ap not c.if-is_none.false) _ _ (w.held _ _ z o L) w.beside
