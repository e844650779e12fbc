-- `unresolved`: by the tag.
use mathlib.Core.Path.{sym, ◌∙◌}
use native.Mathlib.Omega.{arith}
use Rattle.terms.proofs.Laws.Asking.QuestionLaws.{among_in, among_out, failing, projected, binder, known, no_parameters, absent}
use Rattle.terms.proofs.questions.unresolved.Goals as goal

pub returns-in-1 : goal.returns-in-1
returns-in-1 c = λ ps n h. failing ps _ _ _ (among_in _ _ (λ x. omega (arith, x)))

pub returns-in-1-2 : goal.returns-in-1-2
returns-in-1-2 c = λ ps n h. failing ps _ _ _ (among_in _ _ (λ x. omega (arith, x)))

pub returns-in-18 : goal.returns-in-18
returns-in-18 c = λ ps n h. no_parameters _ _ _ ps n h ∙ sym (projected ps _ _ _ c.in-18.is)

pub returns-in-17 : goal.returns-in-17
returns-in-17 c = λ ps n h. (rw c.of_words.ensures at (absent _ ps n _ h _ c.find.ensures _ c.is_none.ensures)) ∙ sym (binder ps _ _ _ c.in-17.is)

pub returns-in_default : goal.returns-in_default
returns-in_default c = λ ps n h. known ps _ _ _ (among_out _ _ (λ x. omega (arith, x))) (λ e. omega arith) (λ e. omega arith)

pub returns-in_default-2 : goal.returns-in_default-2
returns-in_default-2 c = λ ps n h. known ps _ _ _ (among_out _ _ (λ x. omega (arith, x))) (λ e. omega arith) (λ e. omega arith)
