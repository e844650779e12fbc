-- `replaced_at`: by the kind.
use mathlib.Core.Path.{◌∙◌}
use Rattle.terms.proofs.Laws.Replacing.RewriteLaws.{chosen_generic, chosen_self, chosen_keep}
use Rattle.terms.proofs.Rewriter.replaced_at.Goals as goal

pub returns-then-k-eq19 : goal.returns-then-k-eq19
returns-then-k-eq19 c = chosen_generic _ _ _ _ c.if-k-eq19.true _ _ (rw c.of_words-wanted.ensures c.word.ensures) (rw c.of_words-wanted.ensures c.word-then-k-eq19.ensures) c.generic_for.ensures

pub returns-then-k-eq21 : goal.returns-then-k-eq21
returns-then-k-eq21 c = chosen_self _ _ _ _ c.if-k-eq19.false c.if-k-eq21.true _ _ (c.from.ensures ∙ c.word-then-k-eq21.ensures) c.self_at.ensures

pub returns : goal.returns
returns c = chosen_keep _ _ _ _ c.if-k-eq19.false c.if-k-eq21.false
