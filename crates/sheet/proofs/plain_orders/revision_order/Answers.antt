-- `revision_order`: the counter is the session's.
use Rattle.sheet.proofs.Laws.Answering.SessionOrderLaws.{revision_does}
use Rattle.sheet.proofs.plain_orders.revision_order.Goals as goal

pub returns : goal.returns
returns c =
    let a = c.args in
    λ ks vs ts z L. revision_does a.x ks vs ts z L c.revision-n.result c.revision-n.ensures.count a.out.now a.to _ _ c.write_number_answer-next.ensures
