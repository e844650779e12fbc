-- `issue_variable`: by the order.
use Rattle.sheet.proofs.plain_orders.issue_variable.Goals as goal

pub returns-in-Slot-clause-held : goal.returns-in-Slot-clause-held
returns-in-Slot-clause-held c =
    let e = c.variable-y.ensures in
    rw c.in-Slot.is (λ ks vs z o L. (e.held ks vs z o L).represents)

pub returns-in-Number-clause-held : goal.returns-in-Number-clause-held
returns-in-Number-clause-held c =
    let e = c.numeric_variable-y.ensures in
    rw c.in-Number.is (λ ks vs z o L. (e.held ks vs z o L).represents)

pub returns-in-Hole-clause-held : goal.returns-in-Hole-clause-held
returns-in-Hole-clause-held c =
    let e = c.annotation_hole-y.ensures in
    rw c.in-Hole.is (λ ks vs z o L. (e.held ks vs z o L).represents)
