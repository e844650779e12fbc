-- `self_at`: by a receiver, but not in a context.
use mathlib.Core.Path.{ap}
use Rattle.std.proofs.Common.{inl, inr}
use Rattle.terms.specs.Words.RewriteContract.{is_context}
use Rattle.terms.proofs.Laws.Replacing.RewriteLaws.{self_context, self_receiver}
use Rattle.terms.proofs.Rewriter.self_at.Goals as goal

pub returns-in-Context : goal.returns-in-Context
returns-in-Context c = self_context _ _ _ _ (ap is_context c.in-Context.is)

pub returns-in-Instance : goal.returns-in-Instance
returns-in-Instance c = self_receiver _ _ _ _ (elim c.in-Instance.is [ inl e ↦ ap is_context e | inr e ↦ ap is_context e.2 ]) _ _ c.find_receiver.ensures c.taken.ensures
