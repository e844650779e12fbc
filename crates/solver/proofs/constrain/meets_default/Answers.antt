-- `meets_default`. By the kind of the node, and its code.
use Rattle.solver.proofs.Laws.Checks.CheckContractLaws.{met_recovers, met_code}
use Rattle.solver.proofs.constrain.meets_default.Goals as goal

pub returns-then-heads_recovery : goal.returns-then-heads_recovery
returns-then-heads_recovery c = λ t h. met_recovers _ _ _ _ t h c.heads_recovery.ensures c.if-heads_recovery.true

pub returns-else-heads_recovery : goal.returns-else-heads_recovery
returns-else-heads_recovery c = λ t h. met_code _ _ _ _ t h c.heads_recovery.ensures c.if-heads_recovery.false (c.code_at.ensures t h) c.eq.ensures
