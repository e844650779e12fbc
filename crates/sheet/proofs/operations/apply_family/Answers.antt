-- `apply_family`: a 0, or the term after a 1.
use mathlib.Core.Path.{refl, sym, ap, ◌∙◌}
use Rattle.solver.specs.TermTypes.{Parameters}
use Rattle.solver.specs.Terms.Parameters.{listed}
use Rattle.sheet.specs.OrderTable.{outcome}
use Rattle.sheet.specs.Words.OperationsContract.{parameters_at}
use Rattle.sheet.proofs.Laws.Answering.AnswerLaws.{held_in, frame_as, apply_none, apply_some, perhaps_some}
use Rattle.sheet.proofs.Laws.Answering.OperationFieldLaws.{binders_within, within_as, applies_as, family, replies_as}
use Rattle.sheet.proofs.operations.apply_family.Goals as goal

pub returns-then-o : goal.returns-then-o
returns-then-o c =
    λ ws.
    replies_as (family _ _ _ ws _) _ (λ w x.
    let y = x.applies (parameters_at c.args.posed.now c.args.posed.now.fields.first) refl refl in
    ap outcome (sym (apply_none x.names x.term x.entries x.receivers x.arguments (λ h. c.if-o.true (y.parameters ∙ sym h ∙ sym y.many)))) ∙ sym x.answer) _ _ _ _ c.write_byte_answer.ensures

pub invariant_of-rewriter : goal.invariant_of-rewriter
invariant_of-rewriter c =
    let x = ((family _ _ _ _ _).asked c.requires.asks.1).1 in
    let e = c.parameters_at-parameters.ensures in
    let y = x.applies c.parameters_at-parameters.result (ap (λ (l : Parameters). l.count) e) (ap (λ (l : Parameters). listed l) e) in
    record { within = within_as _ _ _ _ (rw c.row_at.ensures at (rw c.row_at-2.ensures at c.family.ensures)) (binders_within _ _ _ _ _ _ y.binders c.args.posed.now.tokens.pairs) }

pub applied-requires-clause-place : goal.applied-requires-clause-place
applied-requires-clause-place c =
    let x = ((family _ _ _ _ _).asked c.requires.asks.1).1 in
    let e = c.parameters_at-parameters.ensures in
    let y = x.applies c.parameters_at-parameters.result (ap (λ (l : Parameters). l.count) e) (ap (λ (l : Parameters). listed l) e) in
    held_in _ _ _ _ y.held

pub returns : goal.returns
returns c =
    λ ws.
    (family _ _ _ ws _).replied _ (λ w x.
    let e = c.parameters_at-parameters.ensures in
    let y = applies_as _ _ _ _ (rw c.row_at.ensures at (rw c.row_at-2.ensures at c.family.ensures)) _ _ _ _ _ _ _ _ (x.applies c.parameters_at-parameters.result (ap (λ (l : Parameters). l.count) e) (ap (λ (l : Parameters). listed l) e)) in
    let q = apply_some x.names x.term x.entries x.receivers x.arguments (sym y.many ∙ sym c.if-o.false ∙ sym (ap (λ (l : Parameters). l.count) e) ∙ y.parameters) in
    rw x.answer (frame_as _ _ (perhaps_some x.names x.term x.entries x.receivers x.arguments q.0 q.1) _ _ _ _ (c.applied.ensures.applied _ _ _ _ _ _ _ _ _ y.formed y.held y.binders y.arguments y.family q.1)))
