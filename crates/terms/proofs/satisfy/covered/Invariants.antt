-- `covered`. The loop's invariant: what is left is covered as the whole is.
use mathlib.Core.Bool.{Bool}
use Prim.Native.Nat.{ℕ, ◌+◌, ◌≤◌, ◌-◌}
use lib.ListN.{length}
use Rattle.terms.specs.Term.{Term, Parts}
use Rattle.terms.specs.Words.Held.{Held}
use Rattle.terms.specs.Tree.{Nominal}
use Rattle.terms.specs.Comparison.{every}
use Rattle.terms.specs.Words.SatisfyContract.{Laid, Listed, Pairs, covers}
use Rattle.terms.proofs.satisfy.covered.Given as goal

abbrev pub invariant-loop : goal.invariant-loop
invariant-loop l =
    (l.i ≤ length l.tokens.kinds.now + 1)
    × ((d : ℕ) (n : Nominal) (rest : Parts) (w : Term) (e : ℕ) (more : Parts) (o : Bool) → Laid l.tokens.kinds.now l.tokens.vals.now l.a d n rest → Listed l.tokens.kinds.now l.tokens.vals.now l.x d n.members n.values rest
    → Held l.tokens.kinds.now l.tokens.vals.now l.receiver w → Pairs l.tokens.kinds.now l.tokens.vals.now l.fn.p l.fn.count e more (every (covers n w)) o
    → Pairs l.tokens.kinds.now l.tokens.vals.now l.i (l.fn.count - l.counter) e more (every (covers n w)) o)
