use mathlib.Core.Bool.{false}
use mathlib.Core.Path.{refl, ◌∙◌}
use native.Mathlib.Omega.{arith}
use Rattle.solver.proofs.Laws.Definition.NotionLaws.{notion_codes}
use Rattle.solver.proofs.Laws.Checks.CheckContractLaws.{held_place}
use Rattle.solver.proofs.Laws.Checks.PairLoopLaws.{agreed, table_of, start_room, going_start, loop_start, loop_room, loop_due, loop_scratch, loop_next, and-false, and-true, going_end, going_cancel}
use Rattle.solver.proofs.Solver.solve_pair.Goals as goal

pub put_pair-count-requires-clause-room : goal.put_pair-count-requires-clause-room
put_pair-count-requires-clause-room c =
    let h = c.requires.held in
    let s = rw c.lasting_words.ensures at c.split_at_mut-table.ensures in
    omega (arith, start_room h.4 h.5, c.requires.room.0.pairs, s.back_len)

pub put_pair-count-requires-clause-small : goal.put_pair-count-requires-clause-small
put_pair-count-requires-clause-small c =
    let h = c.requires.held in
    (omega (arith, held_place _ _ _ _ h.5.held, c.requires.room.0.few), omega (arith, held_place _ _ _ _ h.6.held, c.requires.room.0.few))

pub loop-count-init : goal.loop-count-init
loop-count-init c =
    let h = c.requires.held in
    let r = c.requires.room.0 in
    let p = c.put_pair-count in
    let s = rw c.lasting_words.ensures at c.split_at_mut-table.ensures in (
      loop_start (going_start h.3 (table_of h.4 s.front) (rw s.back c.requires.room.1) h.5 h.6 p.ensures)
          (record { pairs = omega (arith, r.pairs, p.auto.pending, s.back_len); few = r.few; links = r.links; marks = r.marks; clear = r.clear }),
      refl,
    )

pub clear_words-requires : goal.clear_words-requires
clear_words-requires c = loop_room c.loop-count.invariant.0

pub returns-then-left-eq0-clause-solved : goal.returns-then-left-eq0-clause-solved
returns-then-left-eq0-clause-solved c =
    let l = c.loop-count in
    let i = l.invariant.0 in
    let p = c.put_pair-count in
    let z = rw c.lasting_words.ensures at c.split_at_mut-table.ensures in
    λ s t u o L kp kq.
    going_cancel _ (i.carries s _ (going_start o (table_of L z.front) (rw z.back c.requires.room.1) kp kq p.ensures)) i.counted z.front (l.auto.table ∙ z.front_len)
    c.if-left-eq0.true c.loop-count-test.true c.clear_words.ensures

pub take_pair-pair-requires : goal.take_pair-pair-requires
take_pair-pair-requires c = omega (arith, loop_room c.loop-count.invariant.0)

pub check_pair-r-requires : goal.check_pair-r-requires
check_pair-r-requires c =
    let i = c.loop-count.invariant.0 in
    let t = c.take_pair-pair in
    record {
      due = loop_due i c.if-left-eq0.false c.loop-count-test.true t.auto.pending t.ensures;
      room = loop_scratch i c.if-left-eq0.false c.loop-count-test.true t.auto.pending t.ensures;
    }

pub loop-count-preserved-then-not-r : goal.loop-count-preserved-then-not-r
loop-count-preserved-then-not-r c =
    let l = c.loop-count in
    let t = c.take_pair-pair in
    let r = c.check_pair-r in (
      loop_next l.invariant.0 c.if-left-eq0.false c.loop-count-test.true t.auto.pending t.ensures (notion_codes _) r.auto.pending r.auto.work r.ensures.clear
          r.ensures.after false (and-false (agreed l.verdict) _ c.if-not-r.true),
      refl,
    )

pub loop-count-preserved : goal.loop-count-preserved
loop-count-preserved c =
    let l = c.loop-count in
    let t = c.take_pair-pair in
    let r = c.check_pair-r in (
      loop_next l.invariant.0 c.if-left-eq0.false c.loop-count-test.true t.auto.pending t.ensures (notion_codes _) r.auto.pending r.auto.work r.ensures.clear
          r.ensures.after (agreed l.verdict) (and-true (agreed l.verdict) _ c.if-not-r.false),
      l.invariant.1,
    )

pub returns-clause-solved : goal.returns-clause-solved
returns-clause-solved c =
    let l = c.loop-count in
    let i = l.invariant.0 in
    let p = c.put_pair-count in
    let z = rw c.lasting_words.ensures at c.split_at_mut-table.ensures in
    λ s t u o L kp kq.
    rw (← l.invariant.1)
    (going_end _ (i.carries s _ (going_start o (table_of L z.front) (rw z.back c.requires.room.1) kp kq p.ensures))
    i.counted z.front (l.auto.table ∙ z.front_len) (omega (arith, c.loop-count-test.false)))
