use mathlib.Core.Path.{◌∙◌}
use Rattle.terms.proofs.Laws.Normalising.ScanLaws.{over_here, over_on, over_width, over_child, over_number}
use Rattle.terms.proofs.Laws.Normalising.RuleLaws.{calling_done, calling_number, calling_child}
use Rattle.terms.proofs.Seen.member_in.Goals as goal

pub loop-y-preserved-then-y-eq0 : goal.loop-y-preserved-then-y-eq0
loop-y-preserved-then-y-eq0 c =
    let i = c.loop-y.invariant in
    let s = c.in-Some.ensures.steps in
    let t = c.next.new.self in
    let m = over_here _ _ i.1 _ _ t s in (
      rw (over_number _ _ i.1 _ _ t s c.if-y-eq0.true) at (calling_number _ _ _ _ _ i.0 (rw i.2 at m.1) m.2 m.3 c.if-y-eq0.true),
      over_on _ _ i.1 _ _ t s,
      s.1 ∙ i.2,
    )

pub loop-y-preserved : goal.loop-y-preserved
loop-y-preserved c =
    let i = c.loop-y.invariant in
    let s = c.in-Some.ensures.steps in
    let t = c.next.new.self in
    let m = over_here _ _ i.1 _ _ t s in (
      rw (over_child _ _ i.1 _ _ t s) at (calling_child _ _ _ _ _ i.0 (rw i.2 at m.1) m.2 m.3 c.if-y-eq0.false _ (over_width _ _ i.1 _ _ t s)),
      over_on _ _ i.1 _ _ t s,
      s.1 ∙ i.2,
    )

pub returns : goal.returns
returns c =
    let i = c.loop-y.invariant in
    calling_done _ _ _ _ _ i.0 (rw i.2 at c.in-None.ensures.steps.0.0)
