-- `tree_field`: a refusal handed on.
use Rattle.solver.proofs.Terms.Options.{handed_on}
use Rattle.sheet.proofs.fields.tree_field.Goals as goal

pub returns-in_err-keep_part : goal.returns-in_err-keep_part
returns-in_err-keep_part c = rw (handed_on _ _ c.from_residual.ensures.1) c.in_err-keep_part.ensures
