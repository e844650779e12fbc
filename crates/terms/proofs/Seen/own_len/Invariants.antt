-- `own_len`. Invariant: the bytes counted and those of the numbers that are left are the term's own.
use mathlib.Core.Path.{◌≡◌}
use Rattle.terms.specs.Words.VirtualTokens.{view}
use Rattle.terms.proofs.Laws.Normalising.SumLaws.{Owning}
use Rattle.terms.proofs.Seen.own_len.Given as goal

abbrev pub invariant-loop-y : goal.invariant-loop-y
invariant-loop-y l = Owning (view l.self.tokens.kinds.now l.self.tokens.vals.now l.fn.self.given) l.h l.initial.n l.y-iterator.end l.y-iterator.at l.n × (l.y-iterator.seen ≡ l.self)
