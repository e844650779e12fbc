-- `Solver::revision`.

use Rattle.solver.proofs.Laws.Table.ChainTableLaws.{past_column}
use mathlib.Core.Path.{sym, ap}
use Rattle.solver.specs.Orders.{order, count}
use Rattle.solver.proofs.Solver.revision.Goals as goal

pub returns-clause-held : goal.returns-clause-held
unfolding order
returns-clause-held c = λ ks vs ts s L. ap count (sym L.revision)
