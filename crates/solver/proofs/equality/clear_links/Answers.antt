use mathlib.Core.Path.{◌≡◌}
use native.Mathlib.Omega.{arith}
use Rattle.solver.proofs.Laws.Equality.HalfLaws.{halves_zero}
use Rattle.solver.proofs.Laws.Equality.LinkLaws.{unlink_end}
use Rattle.solver.proofs.equality.clear_links.Goals as goal

pub returns-else-top-gt0 : goal.returns-else-top-gt0
returns-else-top-gt0 c =
    let a = c.args in
    let k : a.top ≡ 0 = omega arith in
    let z = unlink_end _ a.queue.now (rw k at c.requires) in
    (halves_zero a.links.now z.0, z.1)
