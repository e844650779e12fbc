-- `Solver::variable`.
use Rattle.solver.specs.declared.Site.TheVariants.{Slot}
use Rattle.solver.specs.Session.{at}
use Rattle.solver.specs.Orders.{order}
use Rattle.solver.specs.Words.SessionRepresentation.{limits_of}
use Rattle.solver.proofs.Laws.Table.MethodLaws.{place_held, variable_replied}
use Rattle.solver.proofs.Solver.variable.Goals as goal

pub returns-clause-held : goal.returns-clause-held
unfolding order
returns-clause-held c =
    let a = c.args in
    let i = c.issue.ensures in
    λ ks vs s o L. variable_replied _ ks vs _ (limits_of a.self) s (at a.site a.slot) _ (i.held ks vs s _ (place_held (Slot a.site a.slot) c.from.ensures) o L)
