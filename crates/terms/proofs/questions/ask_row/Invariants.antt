-- `ask_row`. The loop's invariant: of what is left of the row the answer is that of the whole row.
use mathlib.Core.Path.{◌≡◌}
use mathlib.Core.Bool.{Bool}
use mathlib.Core.List.{List}
use Prim.Native.Nat.{ℕ, ◌≤◌, ◌-◌}
use Rattle.terms.specs.Parser.{got}
use Rattle.terms.specs.Questions.{Parameter, counted, entered, number_of_question}
use Rattle.terms.specs.Parameters.{listed}
use Rattle.terms.specs.Words.QuestionsContract.{Asking}
use Rattle.terms.proofs.questions.ask_row.Given as goal

abbrev pub invariant-loop-p : goal.invariant-loop-p
invariant-loop-p l =
    (l.p ≤ l.row.end) × ((qs : List Parameter) (n : ℕ) → listed l.parameters ≡ got qs n → (w : Bool) → Asking l.tokens.kinds.now l.tokens.vals.now l.row.from l.row.end (counted qs (number_of_question l.question)) (entered (number_of_question l.question)) w → Asking l.tokens.kinds.now l.tokens.vals.now l.p l.row.end (counted qs (number_of_question l.question)) (entered (number_of_question l.question)) w)

abbrev pub decreases-loop-p : goal.decreases-loop-p
decreases-loop-p l = l.row.end - l.p
