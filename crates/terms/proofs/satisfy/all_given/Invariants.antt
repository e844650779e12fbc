-- `all_given`. The loop's invariant: what is left is given as the whole is.
use mathlib.Core.Bool.{Bool}
use mathlib.Core.List.{List}
use Prim.Native.Nat.{ℕ, ◌+◌, ◌≤◌, ◌-◌}
use lib.ListN.{length}
use Rattle.terms.specs.Term.{Parts, Term}
use Rattle.terms.specs.Comparison.{every}
use Rattle.terms.specs.Words.SatisfyContract.{Listed, Pairs, given}
use Rattle.terms.proofs.satisfy.all_given.Given as goal

abbrev pub invariant-loop : goal.invariant-loop
invariant-loop l =
    (l.i ≤ length l.tokens.kinds.now + 1)
    × ((d : ℕ) (gs : List ℕ) (hs : List Term) (other : Parts) (e : ℕ) (rest : Parts) (w : Bool) → Listed l.tokens.kinds.now l.tokens.vals.now l.x d gs hs other
    → Pairs l.tokens.kinds.now l.tokens.vals.now l.fn.p l.fn.count e rest (every (given gs hs)) w → Pairs l.tokens.kinds.now l.tokens.vals.now l.i (l.fn.count - l.counter) e rest (every (given gs hs)) w)
