-- `Solver::constrain`. While the pair is solved the tokens of the order are the session's, and its nodes kept; where nothing was bound, they are
-- given back.
use Prim.Native.Nat.{◌+◌}
use Rattle.terms.specs.Term.{size}
use Rattle.solver.specs.Session.{keep}
use Rattle.solver.proofs.Laws.Table.OrderTermLaws.{pair_lent, pair_ordered, pair_left, pair_right}
use Rattle.solver.proofs.Laws.Checks.PosedLaws.{posed_still, posed_bound}
use Rattle.solver.proofs.Solver.constrain.Goals as goal

pub solve_pair-r-requires-clause-held : goal.solve_pair-r-requires-clause-held
solve_pair-r-requires-clause-held c =
    let h = c.requires.held in
    (keep h.0 h.0.solver (size h.1 + size h.2), h.1, h.2, pair_ordered h.3, pair_lent h.3 h.4, pair_left h.3, pair_right h.3)

pub returns-then-self-revision-clause-solved : goal.returns-then-self-revision-clause-solved
returns-then-self-revision-clause-solved c =
    let r = c.solve_pair-r in
    λ z t u P k.
    posed_still _ P c.requires.room.1 r.auto.tables _
    (r.ensures.solved (keep z z.solver (size t + size u)) t u (pair_ordered P) (pair_lent P k) (pair_left P) (pair_right P)) c.if-self-revision.true

pub returns-else-self-revision-clause-solved : goal.returns-else-self-revision-clause-solved
returns-else-self-revision-clause-solved c =
    let r = c.solve_pair-r in
    λ z t u P k.
    posed_bound _ P c.requires.room.1 r.auto.tables _
    (r.ensures.solved (keep z z.solver (size t + size u)) t u (pair_ordered P) (pair_lent P k) (pair_left P) (pair_right P)) c.if-self-revision.false
