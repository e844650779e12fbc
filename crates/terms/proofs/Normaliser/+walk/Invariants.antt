-- `walk`. Invariant: j children have been visited, and the arena is filled up to `at`.
use Prim.Native.Nat.{◌+◌}
use Rattle.terms.proofs.Laws.Normalising.WalkLaws.{Walking}
use Rattle.terms.proofs.Normaliser.+walk.Given as goal

abbrev pub decreases-walk : goal.decreases-walk
decreases-walk l = l.levels + l.visits

abbrev pub invariant-loop-j : goal.invariant-loop-j
invariant-loop-j l = Walking l.self.seen.tokens.kinds.now l.self.seen.tokens.vals.now l.self.lookup l.self.seen.given l.initial.heads l.initial.kids l.heads l.kids l.o.tag l.o.arguments l.o.members l.next l.n l.levels l.visits l.most l.initial.size l.j l.at l.left l.size
