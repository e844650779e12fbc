-- `run_len`. Invariant: the bytes counted and those of the tokens from p on are all.
use mathlib.Core.Path.{◌≡◌}
use Prim.Native.Nat.{◌+◌, ◌-◌, ◌≤◌}
use lib.ListN.{length}
use Rattle.terms.specs.Words.TokenBytes.{spelt}
use Rattle.terms.specs.Words.Lent.{spelt_in}
use Rattle.terms.proofs.write.run_len.Given as goal

abbrev pub invariant-loop-p : goal.invariant-loop-p
invariant-loop-p l =
    (l.fn.run.from ≤ l.p) × (l.p ≤ l.fn.run.end)
    × (l.n + length (spelt l.kinds l.vals l.p (l.fn.run.end - l.p)) ≡ length (spelt_in l.kinds l.vals l.fn.run))
