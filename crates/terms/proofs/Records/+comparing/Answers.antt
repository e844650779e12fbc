-- `same_rows`. Invariant: the whole begins with the other where what is left does.
-- `same_trees`. By the first tokens, and then all tokens, or the rows.
use Rattle.terms.proofs.Laws.Normalising.AlikeLaws.{meeting_done, meeting_short, meeting_child, meeting_apart, meeting_number, meeting_other, meeting_differ, meeting_same, alike_none, alike_kinds, alike_vars, lent_true, alike_lent, alike_rows}
use Rattle.terms.proofs.Laws.Normalising.SourceLaws.{lent_first}
use borrow.Author.Tests.{not-true, not-false}
use mathlib.Core.Bool.{false}
use mathlib.Core.Path.{refl}
use Rattle.std.specs.Prelude.{Some, None}
use native.Mathlib.Omega.{arith}
use Rattle.terms.proofs.Records.+comparing.Goals as goal
use Rattle.terms.proofs.Records.+comparing.Goals.{same_rows-then-s-ne0-via-then-s-ne0, same_rows-then-s-ne0-via-else-s-ne0+then-s-t}

pub same_rows-returns-then-x-p : goal.same_rows-returns-then-x-p
same_rows-returns-then-x-p t c = meeting_short c.loop-q.invariant c.loop-q-test.true c.if-x-p.true

pub same_rows-returns-then-s-ne0 : goal.same_rows-returns-then-s-ne0
same_rows-returns-then-s-ne0 t c =
    let v = c.loop-q.invariant in
    elim c.then-s-ne0.branch [
      | same_rows-then-s-ne0-via-then-s-ne0 w ↦ meeting_child v c.loop-q-test.true c.if-x-p.false c.token-s.ensures.kind c.token-s.ensures.value
          c.token-t.ensures.kind c.token-t.ensures.value c.if-t-eq0.true w.if-s-ne0.true
      | same_rows-then-s-ne0-via-else-s-ne0+then-s-t w ↦ meeting_apart v c.loop-q-test.true c.if-x-p.false c.token-s.ensures.kind c.token-s.ensures.value
          c.token-t.ensures.kind c.token-t.ensures.value c.if-t-eq0.true w.if-s-ne0.false w.if-s-t.true
    ]

pub same_rows-loop-q-preserved-then-t-eq0 : goal.same_rows-loop-q-preserved-then-t-eq0
same_rows-loop-q-preserved-then-t-eq0 t c =
    meeting_number c.loop-q.invariant c.loop-q-test.true c.if-x-p.false c.token-s.ensures.kind c.token-s.ensures.value c.token-t.ensures.kind
    c.token-t.ensures.value c.if-t-eq0.true c.if-s-ne0.false c.if-s-t.false

pub same_rows-returns-then-s-eq0 : goal.same_rows-returns-then-s-eq0
same_rows-returns-then-s-eq0 t c =
    meeting_other c.loop-q.invariant c.loop-q-test.true c.if-x-p.false c.token-s.ensures.kind c.token-s.ensures.value c.token-t.ensures.kind
    c.token-t.ensures.value c.if-t-eq0.false c.if-s-eq0.true

pub same_rows-returns-then-not-same_trees : goal.same_rows-returns-then-not-same_trees
same_rows-returns-then-not-same_trees t c =
    meeting_differ c.loop-q.invariant c.loop-q-test.true c.if-x-p.false c.token-s.ensures.kind c.token-s.ensures.value c.token-t.ensures.kind
    c.token-t.ensures.value c.if-t-eq0.false c.if-s-eq0.false _ _ c.child_here-a.ensures.head c.child_here-a.ensures.kids c.child_here-b.ensures.head
    c.child_here-b.ensures.kids _ c.same_trees.ensures (not-true _ c.if-not-same_trees.true-raw)

pub same_rows-loop-q-preserved : goal.same_rows-loop-q-preserved
same_rows-loop-q-preserved t c =
    meeting_same c.loop-q.invariant c.loop-q-test.true c.if-x-p.false c.token-s.ensures.kind c.token-s.ensures.value c.token-t.ensures.kind
    c.token-t.ensures.value c.if-t-eq0.false c.if-s-eq0.false _ _ c.child_here-a.ensures.head c.child_here-a.ensures.kids c.child_here-b.ensures.head
    c.child_here-b.ensures.kids _ c.same_trees.ensures (not-false _ c.if-not-same_trees.false-raw) _ _ c.step-p.ensures.span c.step-q.ensures.span
    c.step-p.ensures.some.0 c.step-q.ensures.some.0

pub same_rows-returns : goal.same_rows-returns
same_rows-returns t c = meeting_done c.loop-q.invariant c.loop-q-test.false c.args.x.small c.loop-q.invariant.first

pub same_trees-returns-then-fuel-eq0 : goal.same_trees-returns-then-fuel-eq0
same_trees-returns-then-fuel-eq0 t c = alike_none c.if-fuel-eq0.true

pub same_trees-returns-then-s-t : goal.same_trees-returns-then-s-t
same_trees-returns-then-s-t t c =
    alike_kinds c.token-s.ensures.kind c.token-s.ensures.value c.token-t.ensures.kind c.token-t.ensures.value c.if-s-t.true

pub same_trees-returns-then-s-eq1 : goal.same_trees-returns-then-s-eq1
same_trees-returns-then-s-eq1 t c =
    alike_vars c.token-s.ensures.kind c.token-s.ensures.value c.token-t.ensures.kind c.token-t.ensures.value c.if-s-t.false c.if-s-eq1.true

pub same_trees-same_term-requires : goal.same_trees-same_term-requires
same_trees-same_term-requires t c =
    let l = lent_true _ _ _ _ c.is_lent.ensures c.if-is_lent.true in
    let m = lent_true _ _ _ _ c.is_lent-then-is_lent.ensures c.if-is_lent-2.true in
    (lent_first _ _ _ l.1, lent_first _ _ _ m.1)

pub same_trees-returns-then-is_lent-2 : goal.same_trees-returns-then-is_lent-2
same_trees-returns-then-is_lent-2 t c =
    alike_lent c.args.self.now.seen.now.sight (lent_true _ _ _ _ c.is_lent.ensures c.if-is_lent.true)
    (lent_true _ _ _ _ c.is_lent-then-is_lent.ensures c.if-is_lent-2.true) c.same_term.ensures

pub same_trees-returns-in_default : goal.same_trees-returns-in_default
same_trees-returns-in_default t c =
    alike_rows c.token-s.ensures.kind c.token-s.ensures.value c.token-t.ensures.kind c.token-t.ensures.value c.if-s-t.false c.if-s-eq1.false
    c.cursor-a.ensures c.cursor-b.ensures _ (omega (arith, c.if-fuel-eq0.false)) None (rw c.in_default.is at c.same_rows.ensures) false refl

pub same_trees-returns : goal.same_trees-returns
same_trees-returns t c =
    alike_rows c.token-s.ensures.kind c.token-s.ensures.value c.token-t.ensures.kind c.token-t.ensures.value c.if-s-t.false c.if-s-eq1.false
    c.cursor-a.ensures c.cursor-b.ensures _ (omega (arith, c.if-fuel-eq0.false)) (Some c.in-Some.z) (rw c.in-Some.is at c.same_rows.ensures) _ refl
