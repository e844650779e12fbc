-- `Bound::at_most`. By the signs.
use native.Mathlib.Omega.{arith}
use Rattle.std.proofs.lemmas.Grind.{common_steps}
use Rattle.solver.specs.Families.{below}
use Rattle.solver.proofs.Bound.at_most.Goals as goal

pub returns-in-true-true : goal.returns-in-true-true
unfolding below
returns-in-true-true c = grind (arith, common_steps)

pub returns-in-true-false : goal.returns-in-true-false
unfolding below
returns-in-true-false c = grind (arith, common_steps)

pub returns-then-self-eq0 : goal.returns-then-self-eq0
unfolding below
returns-then-self-eq0 c = grind (arith, common_steps)

pub returns-else-self-eq0 : goal.returns-else-self-eq0
unfolding below
returns-else-self-eq0 c = grind (arith, common_steps)

pub returns-in-false-false : goal.returns-in-false-false
unfolding below
returns-in-false-false c = grind (arith, common_steps)
