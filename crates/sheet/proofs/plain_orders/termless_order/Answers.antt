-- `termless_order`: by what it asks.
use mathlib.Core.Path.{sym}
use Rattle.sheet.proofs.Laws.Answering.SessionOrderLaws.{does_termless, refusal_does}
use Rattle.sheet.proofs.plain_orders.termless_order.Goals as goal

pub returns-in-Revision-clause-does : goal.returns-in-Revision-clause-does
returns-in-Revision-clause-does c =
    let a = c.args in
    λ z A L. does_termless a.x _ _ _ _ _ z _ _ (sym c.in-Revision.is) a.out.now a.to _ _ (c.revision_order.ensures _ _ _ z L)

pub returns-in-Refused-clause-does : goal.returns-in-Refused-clause-does
returns-in-Refused-clause-does c =
    let a = c.args in
    λ z A L. does_termless a.x _ _ _ _ _ z _ _ (sym c.in-Refused.is) a.out.now a.to _ _
    (refusal_does a.x _ _ _ z L _ a.out.now a.to _ _ c.write_order_refusal-next.ensures)
