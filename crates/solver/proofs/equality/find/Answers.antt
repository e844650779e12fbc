use native.Mathlib.Omega.{arith}
use Prim.Native.Nat.{◌-◌}
use Rattle.solver.specs.Words.Halves.{halves}
use Rattle.solver.specs.Words.CongruenceClasses.{here}
use Rattle.solver.proofs.Laws.Equality.HalfLaws.{half_inside, half_none}
use Rattle.solver.proofs.Laws.Equality.LinkLaws.{up_snoc}
use Rattle.solver.proofs.equality.find.Goals as goal

pub offset_bounds-links-a : goal.offset_bounds-links-a
offset_bounds-links-a c = omega (arith, half_inside c.args.links.now c.args.a c.requires.0, c.well_formed)

pub bounds-links-a : goal.bounds-links-a
bounds-links-a c = half_inside c.args.links.now c.args.a c.requires.0

pub returns-then-links-a-eq0 : goal.returns-then-links-a-eq0
returns-then-links-a-eq0 c = (c.requires.0, half_none c.args.links.now c.args.a c.if-links-a-eq0.true, here)

pub loop-up-init : goal.loop-up-init
loop-up-init c = (c.requires.0, here, c.half_at-up.ensures)

pub loop-up-preserved : goal.loop-up-preserved
loop-up-preserved c =
    let l = c.loop-up in
    let a = c.args in (
      omega (arith, l.invariant.0, l.invariant.2, c.loop-up-test.true, c.requires.1 l.r),
      up_snoc (halves a.links.now) (l.up - 1) l.invariant.1 (omega (arith, l.invariant.2, c.loop-up-test.true)),
      c.half_at-up-in-loop-up.ensures,
    )
