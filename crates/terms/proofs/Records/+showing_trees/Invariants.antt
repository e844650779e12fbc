use mathlib.Core.Path.{◌≡◌}
use Prim.Native.Nat.{◌+◌, ◌*◌}
use Rattle.terms.proofs.Laws.Normalising.ShowLaws.{RowShowing}
use Rattle.terms.specs.Words.ShowingContract.{writes}
use Rattle.terms.specs.Words.VirtualTokens.{view}
use Rattle.terms.proofs.Records.+showing_trees.Given as goal

abbrev pub decreases-show_row : goal.decreases-show_row
decreases-show_row l = 2 * l.fuel + 1

abbrev pub decreases-show_tree : goal.decreases-show_tree
decreases-show_tree l = 2 * l.fuel

abbrev pub invariant-show_row-loop-q : goal.invariant-show_row-loop-q
invariant-show_row-loop-q l =
    RowShowing (view l.self.seen.now.tokens.kinds.now l.self.seen.now.tokens.vals.now l.fn.self.seen.now.given) l.self.heads.now l.self.kids.now (writes l.pass) l.initial.out l.at l.fn.c l.fuel l.out l.i l.q-iterator.at l.n
    × (l.q-iterator.seen ≡ l.self.seen.now) × (l.q-iterator.end ≡ l.fn.c.end)
