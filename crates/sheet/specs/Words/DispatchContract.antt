-- An order taken into the areas after a session, and an order served there.
use Rattle.std.specs.Prelude.{List, ◌≡◌, ℕ, ◌-◌, ◌≤◌}
use Rattle.solver.specs.Terms.Tokens.{Area, area, blank}
use Rattle.solver.specs.declared.Solver.{Solver}
use Rattle.solver.specs.Session.{Session, issued}
use Rattle.solver.specs.Invariant.{InOrder}
use Rattle.solver.specs.TermTypes.{Rule}
use Rattle.sheet.specs.declared.Order.{Order}
use Rattle.sheet.specs.Words.SessionInAreas.{Areas, areas, RepresentsInAreas, Served}
use Rattle.sheet.specs.Words.FramingContract.{Output, Wrote}
use Rattle.sheet.specs.Entry.{AreasReady}
use Rattle.sheet.specs.Words.OrderReaderContract.{WholeOrder}

-- The areas m held a session; e is their a and b with the tokens of the order s after it, and ws its rules.
pub record OrderTaken (x : Solver) (s : List ℕ) (m : Areas) (e : Area) (ws : List Rule) (o : Order) : Type 0 where
  pub ready : AreasReady x m
  pub whole : WholeOrder s x.issued x.top x.kept x.nodes (area m.a m.b) e ws o

-- the order s is answered in the areas n, whatever the session is that the areas m held
abbrev pub Serves : (x y : Solver) (s : List ℕ) (m n : Areas) (w : Output) (v : Wrote) → Type 0
Serves x y s m n w v = (z : Session) → InOrder (issued z) z.solver → RepresentsInAreas x m z → Served y n z s w v x

-- The order s is answered, once its tokens in e that are not the session's have been cleared: those from the top of the solver that comes back. r, t and d
-- are the records, the table and the fourth area as they are after it.
pub record Answered (x y : Solver) (s : List ℕ) (m : Areas) (e : Area) (o : Order) (r t d : List ℕ) (w : Output) (v : Wrote) : Type 0 where
  pub inside : y.top ≤ o.top
  pub serves : (a b : List ℕ) → area a b ≡ blank e y.top (o.top - y.top) → Serves x y s m (areas a b r t d) w v
