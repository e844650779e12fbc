-- `rewrite_run`. Invariant: with the pieces from p on done at i, all is done (`Going`).
use Prim.Native.Nat.{◌-◌, ◌≤◌}
use Rattle.terms.specs.Words.RewriteContract.{chosen, pieces, rewritten}
use Rattle.terms.specs.Words.ShowingContract.{writes}
use Rattle.terms.proofs.Laws.Replacing.RewriteLaws.{Going}
use Rattle.terms.proofs.Rewriter.rewrite_run.Given as goal

abbrev pub invariant-loop-p : goal.invariant-loop-p
invariant-loop-p l =
    (l.p ≤ l.end)
    × Going (writes l.pass) l.initial.out l.at (rewritten l.self.tokens.kinds.now l.self.tokens.vals.now l.self.binders l.fn.part) l.out l.i (pieces l.self.tokens.kinds.now l.self.tokens.vals.now (chosen l.self.tokens.kinds.now l.self.tokens.vals.now l.self.binders) (l.end - l.p) l.p l.end)

abbrev pub decreases-loop-p : goal.decreases-loop-p
decreases-loop-p l = l.end - l.p
