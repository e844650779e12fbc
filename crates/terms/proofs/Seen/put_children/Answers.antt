use mathlib.Core.Path.{◌∙◌}
use native.Mathlib.Omega.{arith}
use Rattle.terms.proofs.Laws.Normalising.ScanLaws.{came}
use Rattle.terms.proofs.Laws.Normalising.OpenLaws.{opening_start, opening_number, opening_child, opening_stop, opening_done}
use Rattle.terms.proofs.Seen.put_children.Goals as goal

pub loop-q-init : goal.loop-q-init
loop-q-init c =
    let e = c.walk_row-q-items.ensures in
    rw c.into_iter-q-iterator.ensures.into_iter_gives (opening_start e.row, omega (arith, c.requires.within), e.seen)

pub returns-then-most-next : goal.returns-then-most-next
returns-then-most-next c =
    let i = c.loop-q.invariant in
    opening_stop i.0 (came _ _ i.2 _ _ c.next.new.self c.in-Some.ensures.steps) c.if-y-ne0.true c.if-most-next.true i.1

pub loop-q-preserved-then-y-ne0 : goal.loop-q-preserved-then-y-ne0
loop-q-preserved-then-y-ne0 c =
    let i = c.loop-q.invariant in
    let s = c.in-Some.ensures.steps in
    let z = c.child_here-z.ensures in
    let f = c.if-most-next.false in (
      rw (s.1) (opening_child i.0 (came _ _ i.2 _ _ c.next.new.self s) c.if-y-ne0.true (rw s.0.0 at z.head) z.kids
          (omega (arith, f, c.requires.heads, i.0.frames.heads.long)) (omega (arith, f, c.requires.kids, i.0.frames.kids.long))),
      omega (arith, f),
      s.2 ∙ i.2,
    )

pub loop-q-preserved : goal.loop-q-preserved
loop-q-preserved c =
    let i = c.loop-q.invariant in
    let s = c.in-Some.ensures.steps in
    (rw (s.1) (opening_number i.0 (came _ _ i.2 _ _ c.next.new.self s) c.if-y-ne0.false), i.1, s.2 ∙ i.2)

pub returns : goal.returns
returns c = opening_done c.loop-q.invariant.0 c.in-None.ensures.steps.0.0 c.loop-q.invariant.1
