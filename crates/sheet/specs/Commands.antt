-- What a list of orders, each given as its bytes, tells the session: those that are read as orders of the session.
use Rattle.std.specs.Prelude.{List, [], ◌∷◌, ℕ}
use Rattle.std.proofs.Math.Option.{Option, none, some}
use Rattle.solver.specs.Terms.Result.{Result, got, refused}
use Rattle.solver.specs.Session.{Limits, Session, issued}
use Rattle.solver.specs.Orders.{Command, order}
use Rattle.sheet.specs.OrderTable.{session_orders, command_of, Read, read_by}

abbrev pub command_read : Result Read → Option Command
command_read (got r n) = command_of r.kind r.fields
command_read (refused c) = none

-- of an order's bytes, on a session: none where reading refuses it, and where it is no order of the session
abbrev pub command : Session → List ℕ → Option Command
command s b = command_read (read_by session_orders b (issued s))

-- the session that it leaves
abbrev pub leaves : Limits → Session → Option Command → Session
leaves lim s none = s
leaves lim s (some c) = (order lim s c).session

abbrev pub prefixed : Option Command → List Command → List Command
prefixed none cs = cs
prefixed (some c) cs = c ∷ cs

-- those of a list: "Each later one gets the session that the one before returned or left"
unfoldable pub commands : Limits → Session → List (List ℕ) → List Command
commands lim s [] = []
commands lim s (b ∷ bs) = prefixed (command s b) (commands lim (leaves lim s (command s b)) bs)
