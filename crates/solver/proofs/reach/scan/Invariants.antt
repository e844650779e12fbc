-- `scan`. Invariant: hit and the marks are what the first i tokens of the run give.
use mathlib.Core.Path.{◌≡◌}
use mathlib.Core.Bool.{true}
use Prim.Native.Nat.{ℕ, suc, ◌≤◌}
use lib.ListN.{length}
use Rattle.terms.specs.Words.Tokens.{toks}
use Rattle.solver.specs.Words.Worklist.{Grown}
use Rattle.solver.specs.Words.ReachContract.{question_of, has}
use Rattle.solver.proofs.reach.scan.Given as goal

abbrev pub invariant-loop-i : goal.invariant-loop-i
invariant-loop-i l = (l.i ≤ l.run.len) × (l.hit ≡ has (question_of l.want) (toks l.tokens.kinds.now l.tokens.vals.now l.run.at l.i)) × Grown (λ (u : ℕ). has (suc u) (toks l.tokens.kinds.now l.tokens.vals.now l.run.at l.i) ≡ true) l.initial.marks l.initial.queue l.initial.top l.marks l.queue l.top × (length l.marks ≡ length l.initial.marks) × (length l.queue ≡ length l.initial.queue)
