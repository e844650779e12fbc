-- `ask`: a term as a row.
use Rattle.terms.specs.Questions.{counted, entered, number_of_question}
use Rattle.terms.proofs.Laws.Asking.QuestionLaws.{ask_one}
use Rattle.terms.proofs.questions.ask.Goals as goal

pub returns : goal.returns
returns c = λ qs n h t ht f. c.ask_row.ensures qs n h _ (ask_one (counted qs (number_of_question c.args.question)) (entered (number_of_question c.args.question)) t ht c.term_part.ensures.part.0 (c.term_part.ensures.term t ht) f)
