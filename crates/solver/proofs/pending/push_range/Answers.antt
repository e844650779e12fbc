use mathlib.Core.Path.{refl, ◌∙◌}
use native.Mathlib.Omega.{arith}
use Rattle.terms.proofs.Laws.Held.PairLaws.{over_pair}
use Rattle.solver.proofs.Laws.Checks.PushLaws.{pushing_start, pushing_other, pushing_room, pushing_step, pushing_end}
use Rattle.solver.proofs.pending.push_range.Goals as goal

pub loop-step-init : goal.loop-step-init
loop-step-init c =
    let w = c.walk_pair-step-items.ensures in
    let x = c.row_of-x.ensures in
    let y = c.row_of-y.ensures in
    rw (c.into_iter-step-iterator.ensures.into_iter_gives, w.rows.0, w.rows.1, x.0, y.0) (w.tokens, pushing_start c.requires.room.0 c.requires.room.1 x.1 y.1, refl)

pub push_part-c-requires-clause-room : goal.push_part-c-requires-clause-room
push_part-c-requires-clause-room c =
    let i = c.loop-step.invariant in
    let m = over_pair _ _ c.next.new.self c.in-Terms.is i.0 c.in-Some.ensures.steps in
    omega (arith, pushing_room i.1 m.0.0 m.0.1, i.2)

pub loop-step-preserved-in-Terms : goal.loop-step-preserved-in-Terms
loop-step-preserved-in-Terms c =
    let i = c.loop-step.invariant in
    let m = over_pair _ _ c.next.new.self c.in-Terms.is i.0 c.in-Some.ensures.steps in
    let p = c.push_part-c in
    (m.3, rw (m.1, m.2) (pushing_step i.1 m.0.0 m.0.1 p.ensures.child p.ensures.laid), p.auto.pending ∙ i.2)

pub loop-step-preserved : goal.loop-step-preserved
loop-step-preserved c =
    let i = c.loop-step.invariant in
    let m = over_pair _ _ c.next.new.self refl i.0 c.in-Some.ensures.steps in
    (m.3, rw (m.1, m.2) (pushing_other i.1 c.in_default.not-Terms m.0), i.2)

pub returns : goal.returns
returns c =
    let i = c.loop-step.invariant in
    λ k j ps qs ha hb. pushing_end i.1 c.in-None.ensures.steps.0.0 k j ps qs ha hb
