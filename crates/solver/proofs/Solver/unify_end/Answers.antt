-- `unify_end`. By the kind of the end.
use mathlib.Core.Path.{sym}
use Rattle.solver.proofs.Solver.unify_end.Goals as goal

pub returns-in-At-clause-after : goal.returns-in-At-clause-after
returns-in-At-clause-after c = λ s t x y ps st F W. c.unify_term.ensures.after s t x y ps st (rw (sym c.in-At.is) F) W

pub returns-in-Default-clause-after : goal.returns-in-Default-clause-after
returns-in-Default-clause-after c = λ s t x y ps st F W. c.unify_default.ensures.after s t x y ps st (rw (sym c.in-Default.is) F) W
