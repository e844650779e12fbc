-- Orders 0 to 8, 21 and 22 on the counters, the tokens and the table that the solver is lent.
use Rattle.std.specs.Prelude.{List, ◌≡◌, ℕ, ◌+◌, ◌≤◌, ◌<◌, length, drop}
use Rattle.std.proofs.Math.Option.{some}
use Rattle.solver.specs.declared.Solver.{Solver}
use Rattle.solver.specs.declared.Site.{Site}
use Rattle.solver.specs.declared.Site.TheVariants as place
use Rattle.solver.specs.TermTypes.{Rule}
use Rattle.sheet.specs.declared.VariableOrder.{VariableOrder}
use Rattle.sheet.specs.declared.VariableOrder.TheVariants.{Slot, Number, Hole}
use Rattle.sheet.specs.declared.TermlessOrder.{TermlessOrder}
use Rattle.sheet.specs.declared.TermlessOrder.TheVariants.{Variable, Defaults, Revision, Refused}
use Rattle.solver.specs.Terms.Term.{Term, var}
use Rattle.solver.specs.Constrain.{resolved}
use Rattle.solver.specs.Session.{Session}
use Rattle.solver.specs.Orders.{Command, variable, number, hole, revision, unread}
use Rattle.solver.specs.Words.SessionRepresentation.{request_in, Represents}
use Rattle.solver.specs.Words.ConstrainContract.{pending_from}
use Rattle.solver.specs.Words.Worklist.{Zero}
use Rattle.solver.specs.Words.MethodContract.{Beside, defaults_by}
use Rattle.sheet.specs.declared.FieldSpots.{FieldSpots}
use Rattle.sheet.specs.Fields.{Field}
use Rattle.sheet.specs.OrderTable.{Row, command_of}
use Rattle.sheet.specs.Sheet.{Step, framed}
use Rattle.sheet.specs.Words.FramingContract.{Output, Wrote, order_refusal, Framed}
use Rattle.sheet.specs.Words.OrderGiven.{Given}

-- what the solver is lent: its counters, the tokens and the table
pub record Lent : Type 0 where
  pub counters : Solver
  pub kinds : List ℕ
  pub vals : List ℕ
  pub table : List ℕ

abbrev pub lent : Solver → (ks vs ts : List ℕ) → Lent
lent x ks vs ts = record { counters = x; kinds = ks; vals = vs; table = ts }

-- A step of the definition done on what is lent, with the output w before it and v after it: its answer is written and the session after it is
-- held, or the answer does not fit and the session is held that was. y and us are the counters and the table after it.
pub record Does (m : Lent) (y : Solver) (us : List ℕ) (z : Session) (st : Step) (w : Output) (v : Wrote) : Type 0 where
  pub answer : Framed st.answer w.bytes w.at v.bytes v.next
  pub whole : w.at + length (framed st.answer) ≤ length w.bytes → Represents y m.kinds m.vals us st.session
  pub long : length w.bytes < w.at + length (framed st.answer) → Represents y m.kinds m.vals us z
  pub beside : Beside m.counters y m.table us

-- whatever an order whose row is k is given as, it tells the session the command c
pub record Says (ks vs s : List ℕ) (ws : List Rule) (k : Row) (o : FieldSpots) (c : Command) : Type 0 where
  pub says : (known : ℕ) (fs : List Field) → Given ks vs s ws known k o fs → command_of k fs ≡ some c

-- orders 0, 1, 2 and 21: their commands
abbrev pub variable_command : VariableOrder → Command
variable_command (Slot s i) = variable s i
variable_command (Number s r) = number s (request_in r.word)
variable_command (Hole s) = hole s

-- the place of the variable: that of a number variable is slot 1 of its site
abbrev pub site_of : VariableOrder → Site
site_of (Slot s i) = place.Slot s i
site_of (Number s r) = place.Slot s 1
site_of (Hole s) = place.Hole s

-- what is answered for the variable v: itself, or what it resolves to
abbrev pub variable_answer : Session → VariableOrder → ℕ → Term
variable_answer z (Slot s i) v = var v
variable_answer z (Number s r) v = resolved z.solver (var v)
variable_answer z (Hole s) v = resolved z.solver (var v)

-- orders 0, 1, 2, 6, 7, 8 and 21
abbrev pub termless_command : TermlessOrder → Command
termless_command (Variable o) = variable_command o
termless_command (Defaults b) = defaults_by b
termless_command Revision = revision
termless_command (Refused why) = unread (order_refusal why)

-- An order that poses a pair done. Where a variable was bound, the session after it is held by all of the tokens. Else the counters and the table are as they were: nothing was
-- bound, and the session is the same, or the answer does not fit.
pub record DoesPair (m : Lent) (y : Solver) (us : List ℕ) (z : Session) (st : Step) (w : Output) (v : Wrote) : Type 0 where
  pub answer : Framed st.answer w.bytes w.at v.bytes v.next
  pub bound : (y.revision ≡ m.counters.revision → ⊥) → Represents y m.kinds m.vals us st.session
  pub quiet : y.revision ≡ m.counters.revision → (y ≡ m.counters) × (us ≡ m.table)
  pub same : y.revision ≡ m.counters.revision → w.at + length (framed st.answer) ≤ length w.bytes → st.session ≡ z
  pub long : length w.bytes < w.at + length (framed st.answer) → y.revision ≡ m.counters.revision
  pub blank : Zero (drop (pending_from m.counters) us)
  pub variables : y.variables ≡ m.counters.variables
  pub nodes : y.nodes ≡ m.counters.nodes
