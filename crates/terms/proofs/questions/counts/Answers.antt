-- `counts`: question by question.
use mathlib.Core.Path.{refl, sym}
use native.Mathlib.Omega.{arith}
use borrow.Author.Tests.{eq-eqb, ne_eqb}
use Rattle.terms.specs.Questions.{counted_by}
use Rattle.terms.proofs.Laws.Asking.QuestionLaws.{among_in, among_out}
use Rattle.terms.proofs.questions.counts.Goals as goal

pub returns-then-tag-eq4 : goal.returns-then-tag-eq4
unfolding counted_by
returns-then-tag-eq4 c = λ ps n h. rw (c.in-IsNever.is, eq-eqb _ 4 c.if-tag-eq4.true) refl

pub returns-else-tag-eq4 : goal.returns-else-tag-eq4
unfolding counted_by
returns-else-tag-eq4 c = λ ps n h. rw (c.in-IsNever.is, ne_eqb _ 4 c.if-tag-eq4.false) refl

pub returns-then-tag-eq4-2 : goal.returns-then-tag-eq4-2
unfolding counted_by
returns-then-tag-eq4-2 c = λ ps n h. rw (c.in-IsInteger.is, eq-eqb _ 4 c.if-tag-eq4-2.true) refl

pub returns-else-tag-eq4-2 : goal.returns-else-tag-eq4-2
unfolding counted_by
returns-else-tag-eq4-2 c = λ ps n h. rw (c.in-IsInteger.is, ne_eqb _ 4 c.if-tag-eq4-2.false) refl

pub returns-in-1 : goal.returns-in-1
unfolding counted_by
returns-in-1 c = λ ps n h. rw c.in-IsConcrete.is (sym (among_in _ _ (λ x. omega (arith, x))))

pub returns-in-1-2 : goal.returns-in-1-2
unfolding counted_by
returns-in-1-2 c = λ ps n h. rw c.in-IsConcrete.is (sym (among_in _ _ (λ x. omega (arith, x))))

pub returns-in_default : goal.returns-in_default
unfolding counted_by
returns-in_default c = λ ps n h. rw c.in-IsConcrete.is (sym (among_out _ _ (λ x. omega (arith, x))))

pub returns-in_default-2 : goal.returns-in_default-2
unfolding counted_by
returns-in_default-2 c = λ ps n h. rw c.in-IsConcrete.is (sym (among_out _ _ (λ x. omega (arith, x))))

pub returns-in_default-3 : goal.returns-in_default-3
unfolding counted_by
returns-in_default-3 c = λ ps n h. rw c.in-IsConcrete.is (sym (among_out _ _ (λ x. omega (arith, x))))

pub returns-in-1-matches : goal.returns-in-1-matches
unfolding counted_by
returns-in-1-matches c = λ ps n h. rw c.in-IsUnresolved.is (sym (among_in _ _ (λ x. omega (arith, x))))

pub returns-in_default-matches : goal.returns-in_default-matches
unfolding counted_by
returns-in_default-matches c = λ ps n h. rw c.in-IsUnresolved.is (sym (among_out _ _ (λ x. omega (arith, x))))

pub returns-in_default-matches-3 : goal.returns-in_default-matches-3
unfolding counted_by
returns-in_default-matches-3 c = λ ps n h. rw c.in-IsUnresolved.is (sym (among_out _ _ (λ x. omega (arith, x))))

pub returns-in-1-matches-2 : goal.returns-in-1-matches-2
unfolding counted_by
returns-in-1-matches-2 c = λ ps n h. rw c.in-ContainsUnknown.is (sym (among_in _ _ (λ x. omega (arith, x))))

pub returns-in_default-matches-2 : goal.returns-in_default-matches-2
unfolding counted_by
returns-in_default-matches-2 c = λ ps n h. rw c.in-ContainsUnknown.is (sym (among_out _ _ (λ x. omega (arith, x))))

pub returns-in_default-matches-2-2 : goal.returns-in_default-matches-2-2
unfolding counted_by
returns-in_default-matches-2-2 c = λ ps n h. rw c.in-ContainsUnknown.is (sym (among_out _ _ (λ x. omega (arith, x))))

pub returns-in-ContainsSelfType : goal.returns-in-ContainsSelfType
unfolding counted_by
returns-in-ContainsSelfType c = λ ps n h. rw c.in-ContainsSelfType.is refl

pub returns-in-ContainsProjection : goal.returns-in-ContainsProjection
unfolding counted_by
returns-in-ContainsProjection c = λ ps n h. rw c.in-ContainsProjection.is refl
