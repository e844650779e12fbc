-- `pace`: one token, or the whole term.
use Rattle.std.proofs.Common.{inl, inr}
use Rattle.terms.proofs.Laws.Replacing.RewriteLaws.{keep_pace, by_pace, unknown_pace}
use Rattle.terms.proofs.rewrite.pace.Goals as goal

pub returns-in-Keep : goal.returns-in-Keep
returns-in-Keep c = keep_pace _ _ _ _ _ c.in-Keep.is

pub returns-in-By : goal.returns-in-By
returns-in-By c = elim c.in-By.is [ inl q ↦ by_pace _ _ _ _ _ _ _ q.1 c.skip.ensures.is | inr e ↦ unknown_pace _ _ _ _ _ _ e c.skip.ensures.is ]
