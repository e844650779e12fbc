-- `asked`: a question after the other.
use Rattle.std.proofs.Common.{rules}
use mathlib.Core.Path.{sym, ap, ◌∙◌}
use Rattle.sheet.specs.OrderTable.{outcome}
use Rattle.sheet.specs.Operations.{bit, bits}
use Rattle.solver.specs.Terms.Questions.{answered, number_of_question}
use Rattle.solver.specs.TermTypes.{Question}
use Rattle.sheet.proofs.Laws.Answering.AnswerLaws.{maps_all}
use Rattle.sheet.proofs.Laws.Answering.OperationFieldLaws.{questions, replies_as}
use Rattle.sheet.proofs.operations.asked.Goals as goal

pub returns : goal.returns
unfolding bits
returns c =
    λ ws.
    replies_as (questions _ _ _ ws _) _ (λ w x.
    let e = maps_all _ _ _ c.map-v.result c.map-v.ensures.items (λ (q : Question). bit (answered (number_of_question q) x.term)) (λ q b u k. let h = k.met in let i = x.held in let j = x.formed in (search rules, search rules)) in
    ap outcome e ∙ sym x.answer) _ _ _ _ c.write_bytes_answer.ensures
