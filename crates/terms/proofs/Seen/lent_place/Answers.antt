-- `lent_place`. By the spot.
use Rattle.terms.proofs.Laws.Normalising.InterfaceLaws.{lent_here, lent_none}
use Rattle.terms.proofs.Seen.lent_place.Goals as goal

pub returns-clause-at : goal.returns-clause-at
returns-clause-at c =
    let x = c.args.self.now in
    rw c.then_some.ensures (lent_here x.tokens.kinds.now x.tokens.vals.now x.given x.sight _ _ (rw c.in-Lent.is at c.locate.ensures))

pub returns-in_default-clause-at : goal.returns-in_default-clause-at
returns-in_default-clause-at c =
    let x = c.args.self.now in
    lent_none x.tokens.kinds.now x.tokens.vals.now x.given x.sight _ _ c.in_default.not-Lent c.locate.ensures
