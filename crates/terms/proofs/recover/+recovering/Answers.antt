-- `recover_row`. The loop's invariant is `RecoverContract`: what was written, and what the rest of the rows gives.
-- `recover_term`: the holes of either term, or the head and the rows.
use Prim.Native.Nat.{◌+◌, ◌≤◌, ◌<◌}
use Rattle.terms.proofs.Laws.Held.PairLaws.{over_pair}
use Rattle.terms.proofs.Laws.Replacing.RecoverLaws.{recover_stays, stays_no_right, recover_unlike, recover_number, recover_terms, put_one, put_then, put_same, tag_told, whole_bytes, stays_first, stays_not, hole_left, entered_term, head_byte, row_any, row_formed}
use Rattle.terms.specs.Comparison.{recovery}
use Rattle.terms.specs.Recovery.{reach}
use Rattle.terms.specs.Term.{bytes}
use Rattle.terms.specs.Tree.{row}
use mathlib.Core.Path.{◌≡◌, sym, ◌∙◌, ap}
use native.Mathlib.Omega.{arith}
use Rattle.terms.proofs.recover.+recovering.Goals as goal

pub recover_row-loop-step-preserved-in-Numbers : goal.recover_row-loop-step-preserved-in-Numbers
recover_row-loop-step-preserved-in-Numbers t c =
    let i = c.loop-step.invariant in
    let m = over_pair _ _ c.next.new.self c.in-Numbers.is i.1.4 c.in-Some.ensures.steps in
    let h : c.loop-step.step-iterator.a.from ≡ c.loop-step.rest.from = i.0.3 m.0.1.1 in
    let q : c.loop-step.step-iterator.a.end ≤ c.args.a.end = omega (arith, i.1.0, c.requires.places) in
    let n : c.next.new.self.a.from ≡ c.in-Numbers.i + 1 = omega (arith, m.0.0.0, m.0.0.3) in (
      (omega (arith, h, i.0.0, m.0.0.0), omega (arith, m.0.0.0, m.0.0.1, q), i.0.2, λ l. n),
      (omega (arith, m.1, i.1.0), omega (arith, m.2, i.1.1), omega (arith, m.0.1.3, i.1.2), omega (arith, m.0.1.1, m.0.1.3, m.2), m.3),
      omega (arith, c.put_part-to.ensures.bound, i.2, h, m.0.0.0, m.0.1.3),
      λ k ps qs hp hq fp fq e.
          rw (m.1, m.2, ← n) (recover_number (rw (sym h) at i.3 k ps qs hp hq fp fq e) q m.0.0 m.0.1 c.put_part-to.ensures.next c.put_part-to.ensures.put),
    )

pub recover_row-loop-step-preserved-in-Terms : goal.recover_row-loop-step-preserved-in-Terms
recover_row-loop-step-preserved-in-Terms t c =
    let i = c.loop-step.invariant in
    let m = over_pair _ _ c.next.new.self c.in-Terms.is i.1.4 c.in-Some.ensures.steps in
    let b : c.loop-step.step-iterator.b.from < c.loop-step.step-iterator.b.end = omega (arith, m.0.1.0, m.0.1.1, m.0.1.2) in
    let h : c.loop-step.step-iterator.a.from ≡ c.loop-step.rest.from = i.0.3 b in
    let q : c.loop-step.step-iterator.a.end ≤ c.args.a.end = omega (arith, i.1.0, c.requires.places) in (
      (omega (arith, h, i.0.0, m.0.0.0, m.0.0.1), omega (arith, m.0.0.2, q), i.0.2, λ l. m.0.0.4),
      (omega (arith, m.1, i.1.0), omega (arith, m.2, i.1.1), omega (arith, m.0.1.4, m.0.1.0, m.0.1.1, i.1.2), omega (arith, m.0.1.4, m.0.1.2, m.2), m.3),
      omega (arith, c.recover_term-to.ensures.bound, i.2, h, m.0.0.0, m.0.1.0, m.0.1.4),
      λ k ps qs hp hq fp fq e.
          rw (m.1, m.2, ← m.0.0.4) (recover_terms (rw (sym h) at i.3 k ps qs hp hq fp fq e) q m.0.0 m.0.1 c.recover_term-to.ensures.put),
    )

pub recover_row-loop-step-preserved : goal.recover_row-loop-step-preserved
recover_row-loop-step-preserved t c =
    let i = c.loop-step.invariant in
    let m = over_pair _ _ c.next.new.self c.in-Apart.is i.1.4 c.in-Some.ensures.steps in
    let q : c.loop-step.step-iterator.a.end ≤ c.args.a.end = omega (arith, i.1.0, c.requires.places) in (
      (i.0.0, i.0.1, i.0.2, λ l. absurd (omega (arith, m.0.2, m.2, l))),
      (omega (arith, m.1, i.1.0), omega (arith, m.2, i.1.1), omega (arith, m.0.2, i.1.2, i.1.3), omega (arith, m.0.2, m.2), m.3),
      omega (arith, i.2, m.0.2, i.1.3),
      λ k ps qs hp hq fp fq e.
          rw (m.1, m.2, m.0.2) (recover_unlike (i.3 k ps qs hp hq fp fq e) q i.0.3 m.0.0),
    )

pub recover_row-returns-clause-put : goal.recover_row-returns-clause-put
recover_row-returns-clause-put t c =
    let i = c.loop-step.invariant in
    λ k ps qs hp hq fp fq e.
    let x = i.3 k ps qs hp hq fp fq e in
    recover_stays x (stays_no_right x c.in-None.ensures.steps.0.1) (rw i.0.2 at c.put_part.ensures.next) (rw i.0.2 at c.put_part.ensures.put)

pub recover_term-returns-then-stays-clause-put : goal.recover_term-returns-then-stays-clause-put
recover_term-returns-then-stays-clause-put t c =
    λ t u ht hu ft fu.
    let x = tag_told ht c.word.ensures c.tag_of-k.ensures in
    let y = tag_told hu c.word-2.ensures c.tag_of.ensures in
    put_same (whole_bytes ht ∙ ap bytes (sym (stays_first t u ft (rw (← x, ← y) (sym c.stays.ensures ∙ c.if-stays.true)))))
    (put_one _ c.put_part.ensures.next c.put_part.ensures.put)

pub recover_term-returns-then-is_hole-clause-put : goal.recover_term-returns-then-is_hole-clause-put
recover_term-returns-then-is_hole-clause-put t c =
    λ t u ht hu ft fu.
    let x = tag_told ht c.word.ensures c.tag_of-k.ensures in
    let y = tag_told hu c.word-2.ensures c.tag_of.ensures in
    let n = stays_not t u (rw (← x, ← y) (sym c.stays.ensures ∙ c.if-stays.false)) in
    let g = ap recovery (sym x) ∙ sym c.is_hole.ensures ∙ c.if-is_hole.true in
    put_same (whole_bytes hu ∙ ap bytes (sym (hole_left t u n.0 n.1 g))) (put_one _ c.put_part-then-is_hole.ensures.next c.put_part-then-is_hole.ensures.put)

pub recover_term-returns-clause-put : goal.recover_term-returns-clause-put
recover_term-returns-clause-put t c =
    λ t u ht hu ft fu.
    let x = tag_told ht c.word.ensures c.tag_of-k.ensures in
    let y = tag_told hu c.word-2.ensures c.tag_of.ensures in
    let n = stays_not t u (rw (← x, ← y) (sym c.stays.ensures ∙ c.if-stays.false)) in
    let g = ap recovery (sym x) ∙ sym c.is_hole.ensures ∙ c.if-is_hole.false in
    let w = c.recover_row.ensures.put (reach t u) (row t) (row u) (row_any ht) (row_any hu) (row_formed t ft) (row_formed u fu)
    (c.reach_end-stop.ensures.reached t u ht hu ft fu) in
    put_same (sym (entered_term t u n.0 n.1 g)) (put_then (put_same (head_byte ht n.1) (put_one _ c.put_part-next.ensures.next c.put_part-next.ensures.put)) w)
