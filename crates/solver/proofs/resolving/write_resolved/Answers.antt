-- `write_resolved`.
use mathlib.Core.Path.{◌∙◌}
use Rattle.solver.proofs.Laws.Resolving.ResolvedLaws.{named_or_empty, named_bytes, resolved_bytes_lem}
use Rattle.solver.proofs.resolving.write_resolved.Goals as goal

pub write_walked-requires-clause-room : goal.write_walked-requires-clause-room
write_walked-requires-clause-room c = rw (named_bytes _ _ _ (named_or_empty _ _ c.run_at.ensures.named c.unwrap_or_default-run.ensures)) c.requires.room

pub returns-clause-next : goal.returns-clause-next
returns-clause-next c = rw (named_bytes _ _ c.args.p (named_or_empty _ _ c.run_at.ensures.named c.unwrap_or_default-run.ensures)) at c.write_walked.ensures.next

pub returns-clause-wrote : goal.returns-clause-wrote
returns-clause-wrote c = rw (named_bytes _ _ c.args.p (named_or_empty _ _ c.run_at.ensures.named c.unwrap_or_default-run.ensures)) at c.write_walked.ensures.wrote

pub returns-clause-term : goal.returns-clause-term
returns-clause-term c =
    let w = c.write_walked.ensures in
    λ t b h g.
    let q = named_bytes c.args.bindings.now.bound.now c.args.bindings.now.most c.args.p (named_or_empty _ _ c.run_at.ensures.named c.unwrap_or_default-run.ensures) ∙ resolved_bytes_lem _ _ _ b g _ _ t h in
    (rw q at w.next, rw q at w.wrote)
