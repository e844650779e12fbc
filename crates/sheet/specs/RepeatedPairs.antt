-- A pair that was answered compatible and is posed again, as order bytes. Quoted is document 02: "A lattice script poses the same satisfied pair for every cell".
use Rattle.std.specs.Prelude.{◌≡◌, false, List, [], ◌++◌, ℕ, zero, suc, ◌+◌, ◌≤◌}
use Rattle.std.proofs.Math.Option.{some}
use Rattle.solver.specs.Terms.Term.{size}
use Rattle.solver.specs.Constrain.{recovers}
use Rattle.solver.specs.Session.{Limits, Session}
use Rattle.solver.specs.Orders as solver
use Rattle.sheet.specs.Commands.{command}
use Rattle.sheet.specs.PairsAnswered.{PairAnswered}

-- the same bytes n times
unfoldable pub repeated : ℕ → List ℕ → List ℕ
repeated zero a = []
repeated (suc n) a = a ++ repeated n a

-- The order b, given to the session s, was answered compatible; the order c, of the same kind, poses the same two terms to the session y, with as many checks or more.
pub record PosedAgain (lim : Limits) (s y : Session) (b c : List ℕ) : Type 0 where
  pub first : PairAnswered lim 1 s b
  -- neither term has Unknown or Error in it
  pub left : recovers first.left ≡ false
  pub right : recovers first.right ≡ false
  pub checks : ℕ
  pub says : command y c ≡ some (solver.pair first.strict checks first.left first.right)
  pub enough : first.checks ≤ checks
  -- "each pair has space beside the kept nodes"
  pub space : y.kept + (size first.left + size first.right) ≤ lim.nodes
