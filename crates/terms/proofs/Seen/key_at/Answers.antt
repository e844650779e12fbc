use native.Mathlib.Omega.{arith}
use Rattle.terms.proofs.Seen.key_at.Goals.{else-y-x-via-then-y-x+else-k-ge3, else-y-x-via-else-y-x}
use Rattle.terms.proofs.Laws.Normalising.ScanLaws.{came, walk_on, key_over, key_here, key_next, key_pass}
use Rattle.terms.proofs.Seen.key_at.Goals as goal

pub returns-then-k-ge3 : goal.returns-then-k-ge3
returns-then-k-ge3 c =
    let w = c.loop-y.invariant.0 in
    key_here w.scan (came _ _ w.over _ _ c.next.new.self c.in-Some.ensures.steps) c.if-y-eq0.true c.if-y-x.true c.if-k-ge3.true

pub loop-y-preserved-then-y-eq0 : goal.loop-y-preserved-then-y-eq0
loop-y-preserved-then-y-eq0 c =
    let w = c.loop-y.invariant.0 in
    let s = c.in-Some.ensures.steps in
    let m = came _ _ w.over _ _ c.next.new.self s in (
      walk_on w _ _ _ s (key_next w.scan m c.if-y-eq0.true (λ k e. elim c.else-y-x.branch [ else-y-x-via-then-y-x+else-k-ge3 w ↦ omega (arith, w.if-k-ge3.false) | else-y-x-via-else-y-x w ↦ w.if-y-x.false e ])),
      omega (arith, c.loop-y.invariant.1, m.rises),
    )

pub loop-y-preserved : goal.loop-y-preserved
loop-y-preserved c =
    let w = c.loop-y.invariant.0 in
    let s = c.in-Some.ensures.steps in
    let m = came _ _ w.over _ _ c.next.new.self s in
    (walk_on w _ _ _ s (key_pass w.scan m c.if-y-eq0.false), omega (arith, c.loop-y.invariant.1, m.rises))

pub returns : goal.returns
returns c = key_over c.loop-y.invariant.0.scan c.in-None.ensures.steps.0.0
