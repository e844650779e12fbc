-- `context_at`: an entry, or a parameter.
use Rattle.std.proofs.Common.{sym, ◌∙◌}
use Rattle.terms.proofs.Laws.General.Options.{nothing, something}
use Rattle.terms.proofs.Laws.Replacing.RewriteLaws.{context_entry, context_parameter, context_none}
use Rattle.terms.proofs.Rewriter.context_at.Goals as goal

pub returns-in-Some : goal.returns-in-Some
returns-in-Some c = context_entry _ _ _ _ _ _ (rw c.in-Some.is at c.entry_for.ensures)

pub returns-in-None : goal.returns-in-None
returns-in-None c =
    let p = something _ (sym c.is_some.ensures ∙ c.if-is_some.true) in
    context_parameter _ _ _ _ _ p.0 (rw c.in-None.is at c.entry_for.ensures) (sym p.1 ∙ c.find.ensures)

pub returns-in-None-2 : goal.returns-in-None-2
returns-in-None-2 c =
    context_none _ _ _ _ _ (rw c.in-None.is at c.entry_for.ensures) (sym (nothing _ (sym c.is_some.ensures ∙ c.if-is_some.false)) ∙ c.find.ensures)
