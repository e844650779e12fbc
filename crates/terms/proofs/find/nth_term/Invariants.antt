-- `nth_term`. Invariant: what is left to count from i on gives the answer.
use mathlib.Core.Path.{◌≡◌}
use Prim.Native.Nat.{◌-◌}
use Rattle.terms.specs.Words.FindContract.{nth_at}
use Rattle.terms.proofs.find.nth_term.Given as goal

abbrev pub invariant-loop : goal.invariant-loop
invariant-loop l = nth_at l.tokens.kinds.now l.tokens.vals.now (l.n - l.counter) l.i ≡ nth_at l.tokens.kinds.now l.tokens.vals.now l.n l.from
