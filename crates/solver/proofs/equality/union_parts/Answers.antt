-- `union_parts`. From nodes that the areas hold to their rows.
use Rattle.solver.proofs.Laws.Checks.RowsInStepLaws.{node_row}
use Rattle.solver.proofs.equality.union_parts.Goals as goal

pub returns-clause-terms : goal.returns-clause-terms
returns-clause-terms c =
    let a = c.row_of-a.ensures in
    let b = c.row_of-b.ensures in
    λ h k l ps qs e hx hy. c.union_rows.ensures.terms h ps qs e (rw a.0 (node_row _ _ _ _ k ps a.1 hx)) (rw b.0 (node_row _ _ _ _ l qs b.1 hy))
