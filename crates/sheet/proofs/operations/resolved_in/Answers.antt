-- `resolved_in`: a byte.
use mathlib.Core.Path.{sym, ap, ◌∙◌}
use mathlib.Core.Bool.{Bool, not}
use Rattle.sheet.specs.Operations.{bit}
use Rattle.solver.specs.Terms.Parameters.{listed}
use Rattle.solver.specs.TermTypes.{Parameters}
use Rattle.sheet.proofs.Laws.Answering.AnswerLaws.{held_in, one_byte}
use Rattle.sheet.proofs.Laws.Answering.OperationFieldLaws.{resolved_in, replies_as}
use Rattle.sheet.proofs.operations.resolved_in.Goals as goal

pub ask-r-requires : goal.ask-r-requires
ask-r-requires c =
    let x = ((resolved_in _ _ _ _ _).asked c.requires.asks.1).1 in
    record { place = held_in _ _ _ _ x.held; term = record { term = x.term; held = x.held; formed = x.formed }; parameters = record { list = x.names; next = x.after; read = ap (λ (l : Parameters). listed l) c.parameters_at-parameters.ensures ∙ x.read } }

pub returns : goal.returns
returns c =
    λ ws.
    replies_as (resolved_in _ _ _ ws _) _ (λ w x.
    let read = ap (λ (l : Parameters). listed l) c.parameters_at-parameters.ensures ∙ x.read in
    one_byte _ _ (c.from.ensures ∙ ap (λ (b : Bool). bit (not b)) (c.ask-r.ensures x.names x.after read x.term x.held x.formed)) ∙ sym x.answer) _ _ _ _ c.write_byte_answer.ensures
