-- `set_tails`. Invariant: the tails of the variables before u are set.
use Rattle.solver.specs.Words.ChainWords.{TailsSet}
use Rattle.solver.proofs.chains.set_tails.Given as goal

abbrev pub invariant-loop-u : goal.invariant-loop-u
invariant-loop-u l = TailsSet l.fn.m l.u l.fn.v l.fn.tail l.fn.tables l.tables
