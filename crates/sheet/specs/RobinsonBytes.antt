-- "on plain pairs they are proved against the 1965 definition": what this says of lists of orders, each given as its bytes; of all pairs of a list
-- together, and of each pair by itself.
use Rattle.std.specs.Prelude.{◌≡◌, Bool, true, List, [], ◌∷◌, ◌⊎◌, ℕ, ◌≤◌, ◌<◌}
use Rattle.std.proofs.Math.Option.{none, some}
use Rattle.solver.specs.Terms.Term.{Term, var, bytes}
use Rattle.solver.specs.Terms.Shape as shape
use Rattle.solver.specs.Terms.Shape.{ceiling}
use Rattle.solver.specs.Shapes.{notion}
use Rattle.solver.specs.Constrain.{resolved}
use Rattle.solver.specs.Session.{Limits, Session, issued}
use Rattle.solver.specs.Orders as solver
use Rattle.solver.specs.Demand3.{beginning, OnlyBy}
use Rattle.solver.specs.Robinson.{UnmarkedPairs}
use Rattle.solver.specs.RobinsonPair.{FirstOrderIn, Decided}
use Rattle.sheet.specs.OrderTable.{outcome}
use Rattle.sheet.specs.Sheet.{order_of}
use Rattle.sheet.specs.OrdersInTurn.{accepted}
use Rattle.sheet.specs.Commands.{command}
use Rattle.sheet.specs.Demand3.{history_of, Premises}

-- ---- all pairs of a list together

-- "plain first-order pairs (no recovery terms, projections, number variables or access marks)", none of them cancelled, all of them by order 4 or all strictly by 22
pub record FirstOrder (lim : Limits) (strict : Bool) (bs : List (List ℕ)) : Type 0 where
  pub only : OnlyBy strict (history_of lim beginning bs).by
  pub premises : Premises lim bs
  pub unmarked : UnmarkedPairs (notion strict) (history_of lim beginning bs).posed
  pub numberless : (v : ℕ) → (history_of lim beginning bs).requests v ≡ none

-- ---- each pair by itself

-- The bytes b, given to the session s, are an order 4, or strictly 22, with k checks and the terms t and u, answered with outcome 0. As the two resolve there,
-- they are plain first-order terms; which access marks there may be is the order's own.
pub record PlainOrder (lim : Limits) (strict : Bool) (s : Session) (b : List ℕ) (k : ℕ) (t u : Term) : Type 0 where
  pub says : command s b ≡ some (solver.pair strict k t u)
  pub taken : accepted (order_of lim s b).answer ≡ true
  pub left : FirstOrderIn (notion strict) s t
  pub right : FirstOrderIn (notion strict) s u

-- "What a variable resolves to is the term order 5 would answer for it", with space for its node
abbrev pub ResolvesSo : Limits → Session → Type 0
ResolvesSo lim s =
    (v : ℕ) → v < issued s → v ≤ ceiling shape.ordinary → s.kept < lim.nodes → (order_of lim s (5 ∷ bytes (var v))).answer ≡ outcome (bytes (resolved s.solver (var v)))

-- The order is answered as Robinson's algorithm decides the two resolved terms, "0 incompatible, 1 compatible"; what each variable resolves to before it
-- and after it is what order 5 answers.
pub record AnsweredSo (lim : Limits) (s : Session) (b : List ℕ) (t u : Term) : Type 0 where
  pub decided : Decided s (order_of lim s b).session (resolved s.solver t) (resolved s.solver u)
      ((order_of lim s b).answer ≡ outcome (1 ∷ [])) ((order_of lim s b).answer ≡ outcome (0 ∷ []))
  pub before : ResolvesSo lim s
  pub after : ResolvesSo lim (order_of lim s b).session

-- ROBINSON DECIDES the pair of t and u in the session s: with enough checks every such order is answered so; and with fewer it is, or cancelled
pub record DecidesOrders (lim : Limits) (strict : Bool) (s : Session) (t u : Term) : Type 0 where
  pub checks : ℕ
  pub enough : (k : ℕ) (b : List ℕ) → PlainOrder lim strict s b k t u → checks ≤ k → AnsweredSo lim s b t u
  pub fewer : (k : ℕ) (b : List ℕ) → PlainOrder lim strict s b k t u → ((order_of lim s b).answer ≡ outcome (2 ∷ [])) ⊎ AnsweredSo lim s b t u
