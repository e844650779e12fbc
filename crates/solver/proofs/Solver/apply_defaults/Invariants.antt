-- `Solver::apply_defaults`. Invariant: the variables before v have their defaults.
use Rattle.solver.proofs.Laws.Table.ChainLaws.{Applied}
use Rattle.solver.proofs.Solver.apply_defaults.Given as goal

abbrev pub invariant-loop-v : goal.invariant-loop-v
invariant-loop-v l = Applied l.which l.initial.self l.tokens.kinds.now l.tokens.vals.now l.initial.tables l.v l.self l.tables
