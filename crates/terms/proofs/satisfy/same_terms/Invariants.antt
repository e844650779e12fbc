-- `same_terms`. The loop's invariant: what is left of the lists is the same as the whole lists are.
use mathlib.Core.Bool.{Bool}
use Prim.Native.Nat.{ℕ, ◌≤◌, ◌-◌}
use lib.ListN.{length}
use Rattle.terms.specs.Term.{Parts}
use Rattle.terms.specs.Words.SatisfyContract.{Lists}
use Rattle.terms.proofs.satisfy.same_terms.Given as goal

abbrev pub invariant-loop : goal.invariant-loop
invariant-loop l =
    (l.i ≤ length l.tokens.kinds.now)
    × (l.j ≤ length l.tokens.kinds.now)
    × ((d : ℕ) (rest : Parts) (e : ℕ) (more : Parts) (w : Bool) → Lists l.tokens.kinds.now l.tokens.vals.now l.count l.a d rest l.b e more w → Lists l.tokens.kinds.now l.tokens.vals.now (l.count - l.counter) l.i d rest l.j e more w)
