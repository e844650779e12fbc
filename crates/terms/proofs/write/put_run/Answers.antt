-- `put_run`: sized, and written where it fits; not sized where so many of the longest tokens would fit.
use native.Mathlib.Omega.{arith}
use Prim.Native.Nat.{◌-◌}
use Rattle.terms.specs.Words.Lent.{spelt_in}
use mathlib.Core.Path.{refl, ◌∙◌}
use Rattle.terms.proofs.Laws.Replacing.RecoverLaws.{put_fits}
use Rattle.terms.proofs.Laws.Format.WriteLaws.{spelt_short}
use Rattle.terms.proofs.write.put_run.Goals as goal

pub write_run-requires-clause-room : goal.write_run-requires-clause-room
write_run-requires-clause-room c =
    let a = c.args in
    omega (arith, c.if-at-run.true, spelt_short a.kinds.now a.vals.now (λ i. omega (arith, c.shared_slice_known-2-1.given i)) a.run.from (a.run.end - a.run.from))

pub returns-then-at-run-clause-put : goal.returns-then-at-run-clause-put
returns-then-at-run-clause-put c =
    let a = c.args in
    let b = spelt_short a.kinds.now a.vals.now (λ i. omega (arith, c.shared_slice_known-2-1.given i)) a.run.from (a.run.end - a.run.from) in
    c.write_run.ensures.wrote ∙ put_fits a.out.now a.at (spelt_in a.kinds.now a.vals.now a.run) _ refl (omega (arith, b, c.if-at-run.true))

pub returns-then-at-run-clause-bound : goal.returns-then-at-run-clause-bound
returns-then-at-run-clause-bound c =
    let a = c.args in
    omega (arith, c.write_run.ensures.next, spelt_short a.kinds.now a.vals.now (λ i. omega (arith, c.shared_slice_known-2-1.given i)) a.run.from (a.run.end - a.run.from))
