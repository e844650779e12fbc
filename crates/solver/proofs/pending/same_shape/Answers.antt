use Rattle.terms.proofs.Laws.Held.PairLaws.{over_pair}
use Rattle.solver.proofs.Laws.Checks.RowsInStepLaws.{walks_start, walks_over, walks_unlike, walks_differ, walks_number, walks_terms, heads_differ, shape_told}
use Rattle.solver.proofs.pending.same_shape.Goals as goal

pub returns-then-tokens-a : goal.returns-then-tokens-a
returns-then-tokens-a c = heads_differ _ c.if-tokens-a.true

pub loop-step-init : goal.loop-step-init
loop-step-init c =
    let w = c.walk_pair-step-items.ensures in
    let x = c.row_of-x.ensures in
    let y = c.row_of-y.ensures in
    rw (c.into_iter-step-iterator.ensures.into_iter_gives, w.rows.0, w.rows.1, x.0, y.0) (w.tokens, walks_start x.1 y.1)

pub returns-then-not-parts_agree : goal.returns-then-not-parts_agree
returns-then-not-parts_agree c =
    let i = c.loop-step.invariant in
    let m = over_pair _ _ c.next.new.self c.in-Numbers.is i.0 c.in-Some.ensures.steps in
    shape_told _ c.if-tokens-a.false c.access_of-counts.ensures (walks_differ i.1 m.0.0 m.0.1 c.parts_agree.ensures c.if-not-parts_agree.true)

pub loop-step-preserved-else-not-parts_agree : goal.loop-step-preserved-else-not-parts_agree
loop-step-preserved-else-not-parts_agree c =
    let i = c.loop-step.invariant in
    let m = over_pair _ _ c.next.new.self c.in-Numbers.is i.0 c.in-Some.ensures.steps in
    (m.3, rw (m.1, m.2) (walks_number i.1 m.0.0 m.0.1 c.parts_agree.ensures c.if-not-parts_agree.false))

pub loop-step-preserved : goal.loop-step-preserved
loop-step-preserved c =
    let i = c.loop-step.invariant in
    let m = over_pair _ _ c.next.new.self c.in-Terms.is i.0 c.in-Some.ensures.steps in
    (m.3, rw (m.1, m.2) (walks_terms i.1 m.0.0 m.0.1))

pub returns-in-Apart : goal.returns-in-Apart
returns-in-Apart c =
    let i = c.loop-step.invariant in
    let m = over_pair _ _ c.next.new.self c.in-Apart.is i.0 c.in-Some.ensures.steps in
    shape_told _ c.if-tokens-a.false c.access_of-counts.ensures (walks_unlike i.1 m.0.0)

pub returns : goal.returns
returns c =
    let m = c.in-None.ensures.steps.0 in
    shape_told _ c.if-tokens-a.false c.access_of-counts.ensures (walks_over c.loop-step.invariant.1 m.0 m.1)
