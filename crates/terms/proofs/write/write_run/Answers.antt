use lib.ListN.{get_or}
use native.Mathlib.Omega.{arith}
use Prim.Native.Nat.{◌-◌}
use Rattle.terms.specs.Words.TokenBytes.{plain}
use Rattle.terms.proofs.Laws.Format.WriteLaws.{advance, written, spell_step, spell_none, length_step}
use Rattle.terms.proofs.write.write_run.Goals as goal

pub write_token-i-requires : goal.write_token-i-requires
write_token-i-requires c =
    let a = c.args in
    let l = c.loop-p in
    omega (arith, length_step plain a.kinds.now a.vals.now l.p a.run.end (omega arith), l.invariant.2.place, l.invariant.2.long, c.requires)

pub loop-p-preserved : goal.loop-p-preserved
loop-p-preserved c =
    let a = c.args in
    let l = c.loop-p in
    let w = c.write_token-i in (
      omega arith,
      omega arith,
      advance _ _ _ _ _ _ (plain (get_or a.kinds.now l.p 0) (get_or a.vals.now l.p 0)) _ _ _ l.invariant.2 (spell_step plain a.kinds.now a.vals.now l.p a.run.end (omega arith))
          w.ensures.next w.ensures.wrote,
    )

pub returns : goal.returns
returns c =
    let a = c.args in
    let l = c.loop-p in
    let both = written _ _ _ _ _ _ l.invariant.2 (spell_none plain a.kinds.now a.vals.now l.p (a.run.end - l.p) (omega arith)) in record { next = both.0; wrote = both.1 }
