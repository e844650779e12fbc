-- `put_children`. Invariant: n children stand in records.
use mathlib.Core.Path.{◌≡◌}
use Prim.Native.Nat.{◌+◌, ◌≤◌}
use Rattle.terms.specs.Words.VirtualTokens.{view}
use Rattle.terms.proofs.Laws.Normalising.OpenLaws.{Opening}
use Rattle.terms.proofs.Seen.put_children.Given as goal

abbrev pub invariant-loop-q : goal.invariant-loop-q
invariant-loop-q l = Opening (view l.self.tokens.kinds.now l.self.tokens.vals.now l.self.given) l.initial.heads l.initial.kids l.x.head l.x.kids l.q-iterator.end l.next l.heads l.kids l.q-iterator.at l.n × (l.next + l.n ≤ l.most) × (l.q-iterator.seen ≡ l.self)
