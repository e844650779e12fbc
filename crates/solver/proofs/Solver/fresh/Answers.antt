-- `Solver::fresh`. Words cleared.
use native.Mathlib.Omega.{arith}
use lib.ListN.{length}
use Rattle.solver.proofs.Laws.Table.SessionsLaws.{zero_cleared, holds_fresh}
use Rattle.solver.proofs.Solver.fresh.Goals as goal

pub returns-clause-holds : goal.returns-clause-holds
returns-clause-holds c =
    let a = c.args in
    let p = c.requires in
    holds_fresh _ c.fill.new.self c.fill-2.new.self _
    (zero_cleared c.fill.new.self (length a.a.now) (c.fill.ensures.after (λ y h. h)))
    (zero_cleared c.fill-2.new.self (length a.b.now) (c.fill-2.ensures.after (λ y h. h)))
    (zero_cleared c.fill-3.new.self (length a.tables.now) (c.fill-3.ensures.after (λ y h. h)))
    p.narrow (omega (arith, c.fill-3.auto.self, p.columns))
