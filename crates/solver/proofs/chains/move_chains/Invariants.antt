-- `move_chains`. Invariant: the chains of the variables before u have moved.
use Prim.Native.Nat.{◌<◌}
use Rattle.solver.specs.Words.ChainWords.{ChainsMoved}
use Rattle.solver.proofs.chains.move_chains.Given as goal

abbrev pub invariant-loop-u : goal.invariant-loop-u
invariant-loop-u l = ChainsMoved l.fn.m l.u l.fn.v l.fn.end l.fn.tail l.fn.tables l.tables
