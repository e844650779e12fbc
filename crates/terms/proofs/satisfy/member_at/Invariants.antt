-- `member_at`. The loop's invariant: in what is left of the pairs the member is found as in the whole.
use mathlib.Core.Option.{Option}
use Prim.Native.Nat.{ℕ, ◌+◌, ◌≤◌, ◌-◌}
use lib.ListN.{length}
use Rattle.terms.specs.Term.{Term, Parts}
use Rattle.terms.specs.Tree.{look_up}
use Rattle.terms.specs.Words.SatisfyContract.{Pairs}
use Rattle.terms.proofs.satisfy.member_at.Given as goal

abbrev pub invariant-loop : goal.invariant-loop
invariant-loop l =
    (l.i ≤ length l.tokens.kinds.now + 1)
    × ((e : ℕ) (rest : Parts) (w : Option Term) → Pairs l.tokens.kinds.now l.tokens.vals.now l.p l.count e rest (look_up l.member) w → Pairs l.tokens.kinds.now l.tokens.vals.now l.i (l.count - l.counter) e rest (look_up l.member) w)
