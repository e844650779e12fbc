-- `Solver::resolved_len`. By where resolving begins; frames of a walk that was left are cleared.
use mathlib.Core.Path.{◌≡◌, sym, ap, ◌∙◌}
use Prim.Native.Nat.{min, ◌+◌}
use Rattle.std.specs.Prelude.{unwrap_or}
use lib.ListN.{length}
use Rattle.std.proofs.Common.{rules}
use Rattle.terms.specs.Term.{Term, bytes}
use Rattle.solver.specs.Session.{Session}
use Rattle.solver.specs.Words.OrderTerms.{Asked, resolved_to}
use Rattle.solver.proofs.Laws.Resolving.StartLaws.{default_long}
use Rattle.solver.proofs.Laws.Table.OrderTermLaws.{asked_areas, begins_at}
use Rattle.solver.proofs.Solver.resolved_len.Goals.{After-resolved_len-size}
use Rattle.solver.proofs.Solver.resolved_len.Goals as goal

walked : (c : After-resolved_len-size) (z : Session) (t : Term) → Asked c.args.self c.args.tokens.now.kinds.now c.args.tokens.now.vals.now c.args.tables.now c.args.what z t
    → unwrap_or c.resolved_len-size.result (c.args.limit + 1) ≡ min (c.args.limit + 1) (length (resolved_to z t))
walked c z t A =
    let a = c.args in
    let B = begins_at a.self z _ (c.start-begun.ensures _ _ z t A) c.in-Begins.is in
    let k = c.bindings-bindings.ensures in
    (rw k.0 at (rw k.1 at (rw k.2 at c.resolved_len-size.ensures.term))) B.0 z.solver.bindings B.1 (asked_areas a.self _ _ _ z t a.what A).bindings ∙ ap (λ (w : Term). min (a.limit + 1) (length (bytes w))) (sym B.2)

pub returns-then-is_none-clause-len : goal.returns-then-is_none-clause-len
returns-then-is_none-clause-len c = walked (goal.at.returns-then-is_none-clause-len c).After-resolved_len-size

pub returns-else-is_none-clause-len : goal.returns-else-is_none-clause-len
returns-else-is_none-clause-len c = walked (goal.at.returns-else-is_none-clause-len c).After-resolved_len-size

pub returns-in-Default-clause-len : goal.returns-in-Default-clause-len
returns-in-Default-clause-len c =
    λ z t A.
    let l : length (resolved_to z t) ≡ 2 = default_long c.args.self c.args.tokens.now.kinds.now c.args.tokens.now.vals.now z t (c.start-begun.ensures _ _ z t A) c.in-Default.is in
    rw l (search rules)
