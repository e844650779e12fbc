-- `generic_at`: an argument, or an entry.
use Rattle.std.proofs.Common.{rules, ◌∙◌}
use Rattle.terms.proofs.Laws.Replacing.RewriteLaws.{generic_is}
use Rattle.terms.proofs.Rewriter.generic_at.Goals as goal

pub returns : goal.returns
returns c = c.taken.ensures ∙ generic_is _ _ _ _ _ _ _ _ _ c.argument_for-argument.ensures (λ k. search rules) c.or_else.ensures
