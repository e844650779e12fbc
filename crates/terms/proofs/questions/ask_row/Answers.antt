use native.Mathlib.Omega.{arith}
use mathlib.Core.Path.{sym, ap, ◌∙◌}
use Rattle.terms.specs.Questions.{entered_by, number_of_question}
use Rattle.terms.proofs.Laws.Asking.QuestionLaws.{head_tag, counts_told, ask_number, ask_end, ask_term, ask_counts, ask_enter, ask_pass}
use Rattle.terms.proofs.questions.ask_row.Goals as goal

pub loop-p-preserved-then-k-eq0 : goal.loop-p-preserved-then-k-eq0
loop-p-preserved-then-k-eq0 c = (omega arith, λ qs n h w y. ask_number (c.loop-p.invariant.1 qs n h w y) c.loop-p-test.true c.if-k-eq0.true)

pub returns-then-counts : goal.returns-then-counts
returns-then-counts c =
    λ qs n h w y.
    let x = ask_term (c.loop-p.invariant.1 qs n h w y) c.loop-p-test.true c.if-k-eq0.false in
    ask_counts x (counts_told qs _ x c.tag_of-tag.ensures c.word_at-x.ensures c.word_at-y.ensures (c.counts.ensures qs n h) ∙ c.if-counts.true)

pub loop-p-preserved-then-enters : goal.loop-p-preserved-then-enters
loop-p-preserved-then-enters c = (
  omega arith,
  λ qs n h w y.
      let x = ask_term (c.loop-p.invariant.1 qs n h w y) c.loop-p-test.true c.if-k-eq0.false in
      ask_enter x (counts_told qs _ x c.tag_of-tag.ensures c.word_at-x.ensures c.word_at-y.ensures (c.counts.ensures qs n h) ∙ c.if-counts.false)
      (ap (entered_by (number_of_question c.args.question)) (sym (head_tag x c.tag_of-tag.ensures)) ∙ sym c.enters.ensures ∙ c.if-enters.true),
)

pub loop-p-preserved : goal.loop-p-preserved
loop-p-preserved c = (
  omega arith,
  λ qs n h w y.
      let x = ask_term (c.loop-p.invariant.1 qs n h w y) c.loop-p-test.true c.if-k-eq0.false in
      ask_pass x (counts_told qs _ x c.tag_of-tag.ensures c.word_at-x.ensures c.word_at-y.ensures (c.counts.ensures qs n h) ∙ c.if-counts.false)
      (ap (entered_by (number_of_question c.args.question)) (sym (head_tag x c.tag_of-tag.ensures)) ∙ sym c.enters.ensures ∙ c.if-enters.false)
      c.skip-p.ensures.span,
)

pub returns : goal.returns
returns c = λ qs n h w y. ask_end (c.loop-p.invariant.1 qs n h w y) c.loop-p-test.false
