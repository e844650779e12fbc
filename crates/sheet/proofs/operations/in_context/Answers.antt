-- `in_context`: with its binders.
use mathlib.Core.Path.{ap}
use Rattle.solver.specs.TermTypes.{Binders, Parameters}
use Rattle.solver.specs.Terms.Parameters.{listed}
use Rattle.solver.specs.Terms.RewriteContract.{is_context}
use Rattle.sheet.proofs.Laws.Answering.AnswerLaws.{held_in}
use Rattle.sheet.proofs.Laws.Answering.OperationFieldLaws.{binders_within, within_as, held_as, in_context}
use Rattle.sheet.proofs.operations.in_context.Goals as goal

pub invariant_of-rewriter : goal.invariant_of-rewriter
invariant_of-rewriter c =
    let x = ((in_context _ _ _ _ _).asked c.requires.asks.1).1 in
    record { within = within_as _ _ _ _ (rw c.row_at.ensures at c.context.ensures) (binders_within _ _ _ _ _ _ (x.binders _ (ap (λ (l : Parameters). listed l) c.parameters_at-parameters.ensures)) c.args.posed.now.tokens.pairs) }

pub rewritten-requires-clause-place : goal.rewritten-requires-clause-place
rewritten-requires-clause-place c = held_in _ _ _ _ ((in_context _ _ _ _ _).asked c.requires.asks.1).1.held

pub returns : goal.returns
returns c =
    λ ws.
    let e = rw c.row_at.ensures at c.context.ensures in
    (in_context _ _ _ ws _).replied _ (λ w x.
    rw x.answer (c.rewritten.ensures.in_context _ _ _ _ x.formed x.held (held_as _ _ _ _ e _ _ _ (x.binders _ (ap (λ (l : Parameters). listed l) c.parameters_at-parameters.ensures))) (ap (λ (b : Binders). is_context b.purpose) e)))
