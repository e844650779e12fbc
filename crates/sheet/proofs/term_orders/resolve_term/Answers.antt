-- `resolve_term`: the session stays.
use Rattle.sheet.proofs.Laws.Answering.TermOrderLaws.{resolving_does}
use Rattle.sheet.proofs.term_orders.resolve_term.Goals as goal

pub returns-clause-does : goal.returns-clause-does
returns-clause-does c =
    let a = c.args in
    let e = c.resolved-next.ensures in
    λ z t P. resolving_does a.x _ _ _ z t P a.out.now a.to _ _ (e.term z t P)
