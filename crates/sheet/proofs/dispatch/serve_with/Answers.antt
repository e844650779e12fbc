-- `serve_with`: read, and answered and cleared, or refused.
use Rattle.sheet.proofs.Laws.Answering.DispatchLaws.{ready_room}
use Rattle.sheet.proofs.dispatch.serve_with.Goals as goal

pub read_order-r-requires : goal.read_order-r-requires
read_order-r-requires c =
    let a = c.args in
    let p = c.requires in
    rw c.standing-n.ensures (ready_room a.x a.s.now a.a.now a.b.now a.records.now a.table.now a.d.now a.rules.now p.held p.room.0 p.rules)

pub returns-in-Ok : goal.returns-in-Ok
returns-in-Ok c =
    let a = c.args in
    let p = c.requires in
    let W = rw (c.standing-n.ensures, c.in-Ok.is) at c.read_order-r.ensures in
    let A = c.answer_order-w.ensures a.a.now a.b.now (record { ready = p.held; whole = W }) in
    A.serves _ _ (rw c.standing-m.ensures at c.clear_order.ensures)
