use native.Mathlib.Omega.{arith}
use Rattle.solver.proofs.Laws.Checks.PushLaws.{seeking_step, seeking_found, seeking_end}
use Rattle.solver.proofs.pending.number_from.Goals as goal

pub returns-then-tokens-i-eq0-clause-number : goal.returns-then-tokens-i-eq0-clause-number
returns-then-tokens-i-eq0-clause-number c =
    let l = c.loop-i in
    λ ps h. seeking_found _ _ _ _ ps (l.invariant.1 ps h) c.loop-i-test.true c.if-tokens-i-eq0.true

pub loop-i-preserved : goal.loop-i-preserved
loop-i-preserved c =
    let l = c.loop-i in
    let p = c.part_end-i in
    (p.ensures.within, λ ps h. seeking_step _ _ _ _ _ ps (l.invariant.1 ps h) c.loop-i-test.true c.if-tokens-i-eq0.false p.ensures)

pub returns-clause-number : goal.returns-clause-number
returns-clause-number c =
    let l = c.loop-i in
    λ ps h. seeking_end _ _ _ _ ps (l.invariant.1 ps h) (omega (arith, c.loop-i-test.false))
