-- `generic_for`: by the purpose.
use Rattle.terms.proofs.Laws.Replacing.RewriteLaws.{in_instance, in_context, in_family}
use Rattle.terms.proofs.Rewriter.generic_for.Goals as goal

pub returns-in-Instance : goal.returns-in-Instance
returns-in-Instance c = in_instance _ _ _ _ c.in-Instance.is _ _ c.entry_for.ensures c.taken.ensures

pub returns-in-Context : goal.returns-in-Context
returns-in-Context c = in_context _ _ _ _ c.in-Context.is c.context_at.ensures

pub returns-in-Family : goal.returns-in-Family
returns-in-Family c = in_family _ _ _ _ c.in-Family.is c.generic_at.ensures
