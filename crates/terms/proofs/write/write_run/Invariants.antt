-- `write_run`. Invariant: writing what the tokens from p on write at i gives what was to be written (`Left`).
use Prim.Native.Nat.{◌-◌, ◌≤◌}
use Rattle.terms.specs.Words.TokenBytes.{spelt}
use Rattle.terms.specs.Words.Lent.{spelt_in}
use Rattle.terms.proofs.Laws.Format.WriteLaws.{Left}
use Rattle.terms.proofs.write.write_run.Given as goal

abbrev pub invariant-loop-p : goal.invariant-loop-p
invariant-loop-p l =
    (l.fn.run.from ≤ l.p) × (l.p ≤ l.fn.run.end) × Left l.initial.out l.at (spelt_in l.kinds l.vals l.fn.run) l.out l.i (spelt l.kinds l.vals l.p (l.fn.run.end - l.p))
