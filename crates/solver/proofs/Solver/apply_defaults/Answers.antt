use native.Mathlib.Omega.{arith}
use Rattle.solver.proofs.Laws.Table.ChainLaws.{applied_start, applied_step, applied_end}
use Rattle.solver.proofs.Solver.apply_defaults.Goals as goal

pub loop-v-init : goal.loop-v-init
loop-v-init c = applied_start _ _ _ _ _

pub loop-v-preserved : goal.loop-v-preserved
loop-v-preserved c =
    let a = c.args in
    let l = c.loop-v in
    let e = c.bind_default-self.ensures in
    applied_step a.which _ _ _ _ l.v l.self _ l.tables _ l.invariant c.requires.shape.issued
    c.loop-v-test.true e.held e.beside e.steps.1 e.steps.0

pub returns-clause-held : goal.returns-clause-held
returns-clause-held c =
    let l = c.loop-v in
    applied_end _ _ _ _ _ _ _ _ l.invariant (omega (arith, l.invariant.most, c.loop-v-test.false))
