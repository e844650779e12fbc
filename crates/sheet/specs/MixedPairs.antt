-- A pair of a list that mixes orders 4 and 22, as order bytes. Document 02 says of it: "a pair is answered incompatible exactly if no assignment true to the
-- families that agrees exactly with what the variables resolved to just before it makes that pair equal by its own order." The second half is `Unequal` of
-- crate solver's Demand3.antt.
use Rattle.std.specs.Prelude.{◌≡◌, Bool, true, List, [], ◌∷◌, ℕ}
use Rattle.std.proofs.Math.Option.{some}
use Rattle.solver.specs.Terms.Term.{Term}
use Rattle.solver.specs.Session.{Limits, fresh}
use Rattle.solver.specs.Orders as solver
use Rattle.sheet.specs.OrderTable.{outcome}
use Rattle.sheet.specs.Sheet.{order_of}
use Rattle.sheet.specs.OrdersInTurn.{accepted, session_after}
use Rattle.sheet.specs.Commands.{command}
use Rattle.sheet.specs.Demand3.{InFragment}

-- After the list bs, the bytes b are an order 4, or strictly 22, with k checks and the terms t and u, which are free of Unknown, Error and projections. It is answered
-- with outcome 0 and not cancelled.
pub record PosedInMix (lim : Limits) (bs : List (List ℕ)) (b : List ℕ) (strict : Bool) (k : ℕ) (t u : Term) : Type 0 where
  pub says : command (session_after lim fresh bs) b ≡ some (solver.pair strict k t u)
  pub left : InFragment t
  pub right : InFragment u
  pub taken : accepted (order_of lim (session_after lim fresh bs) b).answer ≡ true
  pub settled : ¬ ((order_of lim (session_after lim fresh bs) b).answer ≡ outcome (2 ∷ []))
