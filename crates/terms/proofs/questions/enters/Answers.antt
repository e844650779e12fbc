-- `enters`: by the question.
use Rattle.std.proofs.Common.{inl, inr, refl}
use Rattle.terms.specs.Questions.{entered_by}
use Rattle.terms.proofs.Laws.Asking.QuestionLaws.{entered_question}
use Rattle.terms.proofs.questions.enters.Goals as goal

pub returns-in-IsNever : goal.returns-in-IsNever
unfolding entered_by
returns-in-IsNever c = elim c.in-IsNever.is [ inl e ↦ rw e refl | inr e ↦ rw e refl ]

pub returns-in-ContainsUnknown : goal.returns-in-ContainsUnknown
unfolding entered_by
returns-in-ContainsUnknown c = rw c.in-ContainsUnknown.is refl

pub returns-in_default : goal.returns-in_default
returns-in_default c = entered_question _ _ c.in_default.not-IsNever c.in_default.not-IsInteger c.in_default.not-ContainsUnknown
