use Prim.Native.Nat.{◌-◌, ◌+◌, ◌*◌}
use Rattle.terms.proofs.Laws.Normalising.AlikeLaws.{Meeting}
use Rattle.terms.specs.Words.VirtualTokens.{view}
use Rattle.terms.proofs.Records.+comparing.Given as goal

abbrev pub decreases-same_rows : goal.decreases-same_rows
decreases-same_rows l = 2 * l.fuel + 1

abbrev pub decreases-same_trees : goal.decreases-same_trees
decreases-same_trees l = 2 * l.fuel

abbrev pub invariant-same_rows-loop-q : goal.invariant-same_rows-loop-q
invariant-same_rows-loop-q l = Meeting (view l.self.seen.now.tokens.kinds.now l.self.seen.now.tokens.vals.now l.self.seen.now.given) l.self.heads.now l.self.kids.now l.x l.y l.fuel l.p l.i l.q l.j

abbrev pub decreases-same_rows-loop-q : goal.decreases-same_rows-loop-q
decreases-same_rows-loop-q l = l.y.end - l.q
