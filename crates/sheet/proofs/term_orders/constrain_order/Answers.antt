-- `constrain_order`: three bytes, or nothing is done.
use native.Mathlib.Omega.{arith}
use Rattle.sheet.proofs.Laws.Answering.TermOrderLaws.{pair_not, pair_done}
use Rattle.sheet.proofs.term_orders.constrain_order.Goals as goal

pub returns-then-out-to-lt-BYTE_ANSWER-clause-does : goal.returns-then-out-to-lt-BYTE_ANSWER-clause-does
returns-then-out-to-lt-BYTE_ANSWER-clause-does c =
    let a = c.args in
    let p = c.requires in
    λ z t u P e. pair_not a.x _ _ _ _ z a.q t u P a.k a.out.now a.to p.room.inside (omega (arith, c.if-out-to-lt-BYTE_ANSWER.true)) p.areas.1

pub returns-clause-does : goal.returns-clause-does
returns-clause-does c =
    let a = c.args in
    let s = c.constrain-r.ensures in
    λ z t u P e. pair_done a.x _ _ _ _ z a.q t u P a.k a.out.now a.to c.requires.room.inside _ _ (s.solved z t u P e) _ _ _ (omega (arith, c.if-out-to-lt-BYTE_ANSWER.false)) c.from.ensures c.write_byte_answer-next.ensures
