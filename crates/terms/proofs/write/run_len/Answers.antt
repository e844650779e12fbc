use mathlib.Core.Path.{ap}
use Prim.Native.Nat.{◌-◌}
use native.Mathlib.Omega.{arith}
use lib.ListN.{length}
use Rattle.terms.specs.Words.TokenBytes.{plain}
use Rattle.terms.proofs.Laws.Format.WriteLaws.{spell_none, length_step, spelt_short}
use Rattle.terms.proofs.write.run_len.Goals as goal

pub overflow_add-n : goal.overflow_add-n
overflow_add-n c =
    let a = c.args in
    let l = c.loop-p in
    omega (arith, spelt_short a.kinds.now a.vals.now (λ i. omega (arith, c.shared_slice_known-2-1.given i)) a.run.from (a.run.end - a.run.from), length_step plain a.kinds.now a.vals.now l.p a.run.end (omega arith), c.well_formed)

pub loop-p-preserved : goal.loop-p-preserved
loop-p-preserved c =
    let a = c.args in
    let l = c.loop-p in
    (omega arith, omega arith, omega (arith, length_step plain a.kinds.now a.vals.now l.p a.run.end (omega arith)))

pub returns-clause-bound : goal.returns-clause-bound
returns-clause-bound c =
    let a = c.args in
    let l = c.loop-p in
    omega (arith, l.invariant, spelt_short a.kinds.now a.vals.now (λ i. omega (arith, c.shared_slice_known-2-1.given i)) a.run.from (a.run.end - a.run.from))

pub returns-clause-len : goal.returns-clause-len
returns-clause-len c =
    let a = c.args in
    let l = c.loop-p in
    omega (arith, ap length (spell_none plain a.kinds.now a.vals.now l.p (a.run.end - l.p) (omega arith)))
