-- `Solver::defer_never`. By the variable at the top.
use native.Mathlib.Omega.{arith}
use Rattle.solver.proofs.Laws.Table.ChainLaws.{deferred_none, deferred_some, deferred_far}
use Rattle.solver.proofs.Laws.Table.OrderTermLaws.{poses_inside, behind_ends}
use Rattle.solver.proofs.Solver.defer_never.Goals as goal

pub shallow_resolve-end-requires : goal.shallow_resolve-end-requires
shallow_resolve-end-requires c = poses_inside c.requires.2

pub returns-then-v-m-clause-held : goal.returns-then-v-m-clause-held
returns-then-v-m-clause-held c =
    λ s u P.
    let h = c.variable_of.ensures _ ((rw c.chains-chains.ensures.1 at c.shallow_resolve-end.ensures.term) u s.solver.bindings s.solver.revision P.held (behind_ends P.behind)) in
    deferred_some P.behind.ordered P.behind.represents u h c.in-Some.w c.in-Some.is c.if-v-m.true

pub returns-else-v-m-clause-held : goal.returns-else-v-m-clause-held
returns-else-v-m-clause-held c =
    λ s u P.
    let h = c.variable_of.ensures _ ((rw c.chains-chains.ensures.1 at c.shallow_resolve-end.ensures.term) u s.solver.bindings s.solver.revision P.held (behind_ends P.behind)) in
    absurd (omega (arith, deferred_far P.behind.ordered P.behind.represents u h P.within c.in-Some.w c.in-Some.is, c.if-v-m.false))

pub returns-in_default-clause-held : goal.returns-in_default-clause-held
returns-in_default-clause-held c =
    λ s u P.
    let h = c.variable_of.ensures _ ((rw c.chains-chains.ensures.1 at c.shallow_resolve-end.ensures.term) u s.solver.bindings s.solver.revision P.held (behind_ends P.behind)) in
    deferred_none P.behind.ordered P.behind.represents u h c.in_default.is
