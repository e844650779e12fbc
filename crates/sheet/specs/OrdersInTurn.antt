-- Lists of orders, each given as its bytes, given in turn to a session; and those that a run answered.
use Rattle.std.specs.Prelude.{Bool, true, false, List, [], ◌∷◌, ◌++◌, ℕ, zero, suc}
use Rattle.solver.specs.Terms.Result.{Result, got, refused}
use Rattle.solver.specs.Session.{Limits, Session}
use Rattle.sheet.specs.OrderTable.{Answer, refusal, outcome}
use Rattle.sheet.specs.Sheet.{order_of, framed, next_order, run_of}

-- outcome 0
unfoldable pub accepted : Answer → Bool
accepted (refusal c) = false
accepted (outcome v) = true

-- "Each later one gets the session that the one before returned or left"
unfoldable pub session_after : Limits → Session → List (List ℕ) → Session
session_after lim s [] = s
session_after lim s (b ∷ bs) = session_after lim (order_of lim s b).session bs

-- the answers, one after the other
unfoldable pub answers_to : Limits → Session → List (List ℕ) → List ℕ
answers_to lim s [] = []
answers_to lim s (b ∷ bs) = framed (order_of lim s b).answer ++ answers_to lim (order_of lim s b).session bs

-- ---- the orders that a run answered

abbrev pub part_then : (ℕ → List (List ℕ)) → Result (List ℕ) → List (List ℕ)
part_then go (got b next) = b ∷ go next
part_then go (refused c) = []

-- the next n orders of a sheet, from a position on
unfoldable pub orders_from : List ℕ → ℕ → ℕ → List (List ℕ)
orders_from s zero from = []
orders_from s (suc n) from = part_then (orders_from s n) (next_order s from)

-- those that the run answers: as many as it reports ("never one that run 11 stops")
abbrev pub answered_orders : Limits → List ℕ → ℕ → List (List ℕ)
answered_orders lim s space = orders_from s (run_of lim s space).orders 0
