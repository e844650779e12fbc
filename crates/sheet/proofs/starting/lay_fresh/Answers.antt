-- `lay_fresh`: a fresh session.
use lib.ListN.{length}
use Rattle.solver.proofs.Laws.Table.SessionsLaws.{zero_cleared}
use Rattle.sheet.proofs.Laws.Run.StartingLaws.{lays_fresh}
use Rattle.sheet.proofs.starting.lay_fresh.Goals as goal

pub returns : goal.returns
returns c =
    let a = c.args in
    let e = c.fresh.ensures in
    (e.counters, lays_fresh _ _ _ _ _ _ _ e.counters (zero_cleared c.fill.new.self (length a.records.now) (c.fill.ensures.after (λ y h. h))) (zero_cleared c.fill-2.new.self (length a.d.now) (c.fill-2.ensures.after (λ y h. h))) e.holds)
