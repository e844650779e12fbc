-- `by_receiver`: with its binders.
use mathlib.Core.Path.{ap}
use Rattle.solver.specs.TermTypes.{Binders}
use Rattle.solver.specs.Terms.RewriteContract.{is_context}
use Rattle.sheet.proofs.Laws.Answering.AnswerLaws.{held_in}
use Rattle.sheet.proofs.Laws.Answering.OperationFieldLaws.{binders_within, within_as, held_as, self_only}
use Rattle.sheet.proofs.operations.by_receiver.Goals as goal

pub invariant_of-rewriter : goal.invariant_of-rewriter
invariant_of-rewriter c =
    let x = ((self_only _ _ _ _ _).asked c.requires.asks.1).1 in
    record { within = within_as _ _ _ _ (rw c.row_at.ensures at c.self_only.ensures) (binders_within _ _ _ _ _ _ x.binders c.args.posed.now.tokens.pairs) }

pub rewritten-requires-clause-place : goal.rewritten-requires-clause-place
rewritten-requires-clause-place c = held_in _ _ _ _ ((self_only _ _ _ _ _).asked c.requires.asks.1).1.held

pub returns : goal.returns
returns c =
    λ ws.
    let e = rw c.row_at.ensures at c.self_only.ensures in
    (self_only _ _ _ ws _).replied _ (λ w x.
    rw x.answer (c.rewritten.ensures.with_self _ _ _ x.formed x.held (held_as _ _ _ _ e _ _ _ x.binders) (ap (λ (b : Binders). is_context b.purpose) e)))
