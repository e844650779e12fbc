-- `Solver::resolve`. By where resolving begins.
use native.Mathlib.Omega.{arith}
use mathlib.Core.Path.{sym, ap, ◌∙◌}
use lib.ListN.{length, take}
use lib.Seq.{sets}
use Rattle.terms.specs.Term.{bytes}
use Rattle.solver.proofs.Laws.Resolving.ResolvedLaws.{resolved_bytes_lem}
use Rattle.solver.proofs.Laws.Resolving.StartLaws.{default_bytes, default_long}
use Rattle.solver.proofs.Laws.Table.OrderTermLaws.{asked_areas, begins_at, wrote_as}
use Rattle.solver.proofs.Solver.resolve.Goals as goal

pub write_resolved-requires-clause-room : goal.write_resolved-requires-clause-room
write_resolved-requires-clause-room c =
    let a = c.args in
    let p = c.requires.held in
    let F = asked_areas a.self _ _ _ p.0 p.1 a.what p.2 in
    let B = begins_at a.self p.0 _ (c.start-begun.ensures _ _ p.0 p.1 p.2) c.in-Begins.is in
    let l = resolved_bytes_lem _ _ (take a.self.variables a.tables.now) p.0.solver.bindings F.bindings c.in-Begins.most c.in-Begins.p B.0 B.1 ∙ ap bytes (sym B.2) in
    let k = c.bindings-bindings.ensures in
    rw k.0 (rw k.1 (rw k.2 (omega (arith, p.3, ap length l))))

pub returns-in-Begins-clause-wrote : goal.returns-in-Begins-clause-wrote
returns-in-Begins-clause-wrote c =
    let a = c.args in
    let k = c.bindings-bindings.ensures in
    let e = rw k.0 at (rw k.1 at (rw k.2 at c.write_resolved.ensures.term)) in
    λ z t A.
    let B = begins_at a.self z _ (c.start-begun.ensures _ _ z t A) c.in-Begins.is in
    wrote_as _ _ (ap bytes (sym B.2)) (e B.0 z.solver.bindings B.1 (asked_areas a.self _ _ _ z t a.what A).bindings)

pub write_builtin-requires : goal.write_builtin-requires
write_builtin-requires c =
    let p = c.requires.held in
    omega (arith, p.3, default_long c.args.self c.args.tokens.now.kinds.now c.args.tokens.now.vals.now p.0 p.1 (c.start-begun.ensures _ _ p.0 p.1 p.2) c.in-Default.is)

pub returns-in-Default-clause-wrote : goal.returns-in-Default-clause-wrote
returns-in-Default-clause-wrote c =
    λ z t A.
    let s = c.start-begun.ensures _ _ z t A in (
      omega (arith, c.write_builtin.ensures.next, default_long c.args.self c.args.tokens.now.kinds.now c.args.tokens.now.vals.now z t s c.in-Default.is),
      c.write_builtin.ensures.wrote ∙ ap (sets c.args.out.now c.args.to) (default_bytes c.args.self c.args.tokens.now.kinds.now c.args.tokens.now.vals.now z t s c.in-Default.is),
    )
