-- A session alone in the areas that the solver is lent.
use Rattle.std.specs.Prelude.{List, ℕ, ◌^◌, ◌≤◌, ◌<◌, take, drop}
use Rattle.solver.specs.declared.Limits.{Limits}
use Rattle.solver.specs.declared.Solver.{Solver}
use Rattle.solver.specs.Session.{Session}
use Rattle.solver.specs.Words.SessionRepresentation.{Represents}
use Rattle.solver.specs.Words.ConstrainContract.{pending_from}
use Rattle.solver.specs.Words.Worklist.{Zero}
use Rattle.solver.specs.Words.TableLayout.{lasting_words}

-- the counters x, the areas a and b and the table hold the session s, and every other word is 0
pub record Holds (x : Solver) (a b ts : List ℕ) (s : Session) : Type 0 where
  pub represents : Represents x (take x.top a) (take x.top b) ts s
  pub kinds : Zero (drop x.top a)
  pub vals : Zero (drop x.top b)
  pub blank : Zero (drop (pending_from x) ts)

-- the counters of a fresh session
abbrev pub counters : Limits → Solver
counters limits = record { variables = limits.variables; nodes = limits.nodes; issued = 0; revision = 0; kept = 0; top = 0 }

-- a table of so many words is enough for a fresh session
pub record FreshRoom (variables ts : ℕ) : Type 0 where
  pub narrow : variables < 65536
  pub columns : lasting_words variables ≤ ts
