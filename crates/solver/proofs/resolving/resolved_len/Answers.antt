-- `resolved_len`.
use mathlib.Core.Path.{◌∙◌}
use Rattle.solver.proofs.Laws.Resolving.ResolvedLaws.{named_or_empty, named_bytes, resolved_bytes_lem}
use Rattle.solver.proofs.resolving.resolved_len.Goals as goal

pub returns-clause-len : goal.returns-clause-len
returns-clause-len c = rw (named_bytes _ _ c.args.p (named_or_empty _ _ c.run_at.ensures.named c.unwrap_or_default-run.ensures)) at c.walked_len.ensures.len

pub returns-clause-term : goal.returns-clause-term
returns-clause-term c =
    λ t b h g. rw (named_bytes c.args.bindings.now.bound.now c.args.bindings.now.most c.args.p (named_or_empty _ _ c.run_at.ensures.named c.unwrap_or_default-run.ensures) ∙ resolved_bytes_lem _ _ _ b g _ _ t h) at c.walked_len.ensures.len
