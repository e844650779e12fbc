-- The orders 4 and 22 of a list that were answered with a verdict, as bytes: what "Some pair was answered" says of the answers.
use Rattle.std.specs.Prelude.{◌≡◌, Bool, List, [], ◌∷◌, ◌⊎◌, ℕ}
use Rattle.std.proofs.Math.Option.{some}
use Rattle.solver.specs.Terms.Term.{Term}
use Rattle.solver.specs.Session.{Limits, Session}
use Rattle.solver.specs.Orders as solver
use Rattle.sheet.specs.OrderTable.{outcome}
use Rattle.sheet.specs.Sheet.{order_of}
use Rattle.sheet.specs.Commands.{command}

-- the bytes b, given to the session s, are an order 4, or strictly 22, and the value of its answer is the byte n: "0 incompatible, 1 compatible, 2 cancelled"
pub record PairAnswered (lim : Limits) (n : ℕ) (s : Session) (b : List ℕ) : Type 0 where
  pub strict : Bool
  pub checks : ℕ
  pub left : Term
  pub right : Term
  pub says : command s b ≡ some (solver.pair strict checks left right)
  pub answer : (order_of lim s b).answer ≡ outcome (n ∷ [])

-- some order of a list is so, where it stands
unfoldable pub SomePairAnswered : Limits → ℕ → Session → List (List ℕ) → Type 0
SomePairAnswered lim n s [] = ⊥
SomePairAnswered lim n s (b ∷ bs) = PairAnswered lim n s b ⊎ SomePairAnswered lim n (order_of lim s b).session bs
