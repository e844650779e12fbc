-- `heads`: the declarations, the counts, and then the arguments.
use mathlib.Core.Path.{sym, ◌∙◌}
use native.Mathlib.Omega.{arith}
use Rattle.terms.proofs.Laws.Asking.BoundLaws.{laid_words, declarations_differ, counts_differ, headed_lists, headed}
use Rattle.terms.proofs.satisfy.heads.Goals.{then-tokens-a-via-then-tokens-a, then-tokens-a-via-else-tokens-a+then-tokens-b, then-tokens-a-via-else-tokens-a+else-tokens-b+then-word, then-tokens-a-via-else-tokens-a+else-tokens-b+else-word+then-n-word}
use Rattle.terms.proofs.satisfy.heads.Goals as goal

pub returns-then-tokens-a-clause-headed : goal.returns-then-tokens-a-clause-headed
returns-then-tokens-a-clause-headed c =
    λ d n rest e m more x y.
    elim c.then-tokens-a.branch [
      | then-tokens-a-via-then-tokens-a w ↦ absurd (omega (arith, (laid_words x).inside, w.if-tokens-a.true))
      | then-tokens-a-via-else-tokens-a+then-tokens-b w ↦ absurd (omega (arith, (laid_words y).inside, w.if-tokens-b.true))
      | then-tokens-a-via-else-tokens-a+else-tokens-b+then-word w ↦
          declarations_differ x y (λ z. w.if-word.true (w.word.ensures ∙ z ∙ sym w.word-else-tokens-b.ensures))
      | then-tokens-a-via-else-tokens-a+else-tokens-b+else-word+then-n-word w ↦
          counts_differ x y (λ z. w.if-n-word.true (c.word-n.ensures ∙ z ∙ sym w.word-else-word.ensures))
    ]

pub returns-clause-headed : goal.returns-clause-headed
returns-clause-headed c =
    λ d n rest e m more x y.
    headed x y (sym c.word.ensures ∙ c.if-word.false ∙ c.word-else-tokens-b.ensures) c.same_terms.result
    (c.same_terms.ensures.agreed d _ e _ _ (headed_lists x y c.word-n.ensures (sym c.word-n.ensures ∙ c.if-n-word.false ∙ c.word-else-word.ensures)))
