-- `Solver::annotation_hole`.
use Rattle.solver.specs.declared.Site.TheVariants.{Hole}
use Rattle.solver.specs.Session.{gap}
use Rattle.solver.specs.Orders.{order}
use Rattle.solver.specs.Words.SessionRepresentation.{limits_of}
use Rattle.solver.proofs.Laws.Table.MethodLaws.{place_held, hole_replied}
use Rattle.solver.proofs.Solver.annotation_hole.Goals as goal

pub returns-clause-held : goal.returns-clause-held
unfolding order
returns-clause-held c =
    let a = c.args in
    let i = c.issue.ensures in
    λ ks vs s o L. hole_replied _ ks vs _ (limits_of a.self) s (gap a.site) _ (i.held ks vs s _ (place_held (Hole a.site) c.from.ensures) o L)
