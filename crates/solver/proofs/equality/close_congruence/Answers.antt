use native.Mathlib.Omega.{arith}
use Rattle.solver.proofs.Laws.Equality.LinkLaws.{advanced_on, top_below}
use Rattle.solver.proofs.Laws.Equality.CloseLaws.{going_on, going_no, going_yes}
use Rattle.solver.proofs.Laws.Equality.EqualLaws.{taken_entry}
use mathlib.Core.Path.{refl}
use Rattle.solver.proofs.equality.close_congruence.Goals as goal

pub offset_bounds-queue-done : goal.offset_bounds-queue-done
offset_bounds-queue-done c = omega (arith, top_below _ _ _ _ c.loop-done.invariant.1.wired, c.loop-done.invariant.1.wired.room, c.well_formed)

pub bounds-queue-done : goal.bounds-queue-done
bounds-queue-done c = omega (arith, top_below _ _ _ _ c.loop-done.invariant.1.wired, c.loop-done.invariant.1.wired.room)

pub union_parts-requires-clause-places : goal.union_parts-requires-clause-places
union_parts-requires-clause-places c =
    let l = c.loop-done in
    let t = taken_entry l.invariant.1.wired l.done (omega arith) in
    (t.0, t.1)

pub returns-then-not-union_parts : goal.returns-then-not-union_parts
returns-then-not-union_parts c =
    let l = c.loop-done in
    let t = taken_entry l.invariant.1.wired l.done (omega arith) in
    let d = c.union_parts.ensures in
    record {
      advanced = advanced_on l.invariant.1 d.advanced;
      terms = λ b e fa.
          let g = l.invariant.2 b e fa in
          going_no g l.invariant.1.wired d.advanced (omega arith) refl t.2 (λ k j ps qs hx hy. d.terms b k j ps qs e hx hy g.fair)
          c.if-not-union_parts.true;
    }

pub loop-done-smaller : goal.loop-done-smaller
loop-done-smaller c = omega (arith, top_below _ _ _ _ c.loop-done.invariant.1.wired)

pub overflow_add-done : goal.overflow_add-done
overflow_add-done c = omega (arith, top_below _ _ _ _ c.loop-done.invariant.1.wired, c.loop-done.invariant.1.wired.room, c.well_formed)

pub loop-done-preserved : goal.loop-done-preserved
loop-done-preserved c =
    let l = c.loop-done in
    let t = taken_entry l.invariant.1.wired l.done (omega arith) in
    let d = c.union_parts.ensures in (
      omega (arith, d.advanced.more),
      advanced_on l.invariant.1 d.advanced,
      λ b e fa.
          let g = l.invariant.2 b e fa in
          going_on g l.invariant.1.wired d.advanced (omega arith) refl t.2 (λ k j ps qs hx hy. d.terms b k j ps qs e hx hy g.fair)
          c.if-not-union_parts.false,
    )

pub returns-clause-terms : goal.returns-clause-terms
returns-clause-terms c = λ b e fa. going_yes (c.loop-done.invariant.2 b e fa) c.loop-done.invariant.1.wired (omega arith)
