-- The table of orders: a row for each, with its number, its fields and what it does; the rows of the orders that are told to the session; and reading
-- an order by a table. Quoted is document 01, "Sheet".
use Rattle.std.specs.Prelude.{true, false, List, [], ◌∷◌, ℕ, ◌+◌, eqb}
use Rattle.std.proofs.Math.Option.{Option, none, some}
use Rattle.solver.specs.Terms.Parser.{Parser, Result, pick, ◌>>=◌, refuse, byte}
use Rattle.solver.specs.Terms.Shape as shape
use Rattle.solver.specs.Terms.Shape.{ceiling}
use Rattle.solver.specs.Families.{Bound, Request, requested, request_of}
use Rattle.solver.specs.Orders as solver
use Rattle.solver.specs.Orders.{Command}
use Rattle.sheet.specs.Fields.{FieldSort, ordinary, code, bound, term, Field, number_at, bound_at, term_at, fields, last}

-- "An answer is [..] an outcome byte (0 or a refusal), and on 0 the value"
pub data Answer : Type 0 where
  refusal : ℕ → Answer
  outcome : List ℕ → Answer

-- what an order does with its fields: it tells the session a command, or it answers and leaves the session as it was
pub data Act : Type 0 where
  tells : (List Field → Command) → Act
  answers : (List Field → Answer) → Act

-- A ROW OF THE TABLE: "kind, then fields"
pub record Row : Type 0 where
  pub number : ℕ
  pub layout : List FieldSort
  pub act : Act

-- ---- the orders of the session

-- "0 variable: site, slot."
abbrev pub variable : Row
variable = record { number = 0; layout = ordinary ∷ ordinary ∷ []; act = tells (λ fs. solver.variable (number_at 0 fs) (number_at 1 fs)) }

-- "1 number variable: site, fallback code."
abbrev pub number_variable : Row
number_variable = record { number = 1; layout = ordinary ∷ code ∷ []; act = tells (λ fs. solver.number (number_at 0 fs) (requested (number_at 1 fs))) }

-- "2 annotation hole: site."
abbrev pub annotation_hole : Row
annotation_hole = record { number = 2; layout = ordinary ∷ []; act = tells (λ fs. solver.hole (number_at 0 fs)) }

-- "3 defer never: term."
abbrev pub defer_never : Row
defer_never = record { number = 3; layout = term ∷ []; act = tells (λ fs. solver.defer (term_at 0 fs)) }

-- "4 constrain: k, two terms"
abbrev pub constrain : Row
constrain = record { number = 4; layout = ordinary ∷ term ∷ term ∷ []; act = tells (λ fs. solver.pair false (number_at 0 fs) (term_at 1 fs) (term_at 2 fs)) }

-- "5 resolve: term."
abbrev pub resolve : Row
resolve = record { number = 5; layout = term ∷ []; act = tells (λ fs. solver.resolving (term_at 0 fs)) }

-- "6 numeric defaults, 7 never defaults"; "8 revision."
abbrev pub numeric_defaults : Row
numeric_defaults = record { number = 6; layout = []; act = tells (λ fs. solver.numbers) }

abbrev pub never_defaults : Row
never_defaults = record { number = 7; layout = []; act = tells (λ fs. solver.nevers) }

abbrev pub revision : Row
revision = record { number = 8; layout = []; act = tells (λ fs. solver.revision) }

-- document 02: "Order 21 requests a number variable by site, fallback code, low and high". 13: "sign over 1, low above high, or no integer type holds both; after
-- leftover bytes, before 7"
unfoldable pub between : ℕ → Option Bound → Option Bound → Option Request
between c (some low) (some high) = request_of c low high
between c (some low) none = none
between c none h = none

unfoldable pub asking : ℕ → Option Request → Command
asking site (some r) = solver.number site r
asking site none = solver.unread 13

abbrev pub range_variable : Row
range_variable = record {
  number = 21;
  layout = ordinary ∷ code ∷ bound ∷ bound ∷ [];
  act = tells (λ fs. asking (number_at 0 fs) (between (number_at 1 fs) (bound_at 2 fs) (bound_at 3 fs)));
}

-- document 02: "Order 22 is order 4 with Set and Map access as part of the shape."
abbrev pub constrain_strictly : Row
constrain_strictly = record {
  number = 22;
  layout = ordinary ∷ term ∷ term ∷ [];
  act = tells (λ fs. solver.pair true (number_at 0 fs) (term_at 1 fs) (term_at 2 fs));
}

unfoldable pub session_orders : List Row
session_orders =
    variable ∷ number_variable ∷ annotation_hole ∷ defer_never ∷ constrain ∷ resolve ∷ numeric_defaults ∷ never_defaults ∷ revision ∷ range_variable
    ∷ constrain_strictly ∷ []

-- ---- a row, by its number

unfoldable pub row_in : List Row → ℕ → Option Row
row_in [] k = none
row_in (r ∷ rs) k = pick (eqb k r.number) (some r) (row_in rs k)

unfoldable pub layout : Row → List FieldSort
layout r = r.layout

-- "orders 3 to 5: Inference id not issued"; orders that leave the session take any id
abbrev pub known_by : Act → ℕ → ℕ
known_by (tells f) n = n
known_by (answers f) n = ceiling shape.ordinary + 1

unfoldable pub known : Row → ℕ → ℕ
known r n = known_by r.act n

abbrev pub command_by : Act → List Field → Option Command
command_by (tells f) fs = some (f fs)
command_by (answers f) fs = none

unfoldable pub command_of : Row → List Field → Option Command
command_of r fs = command_by r.act fs

-- ---- reading an order by a table, where the variables below `issued` are issued

pub record Read : Type 0 where
  pub kind : Row
  pub fields : List Field

-- refusal 2: "kind [..] not listed"
unfoldable pub kinded_order : List ℕ → ℕ → Option Row → Parser Read
kinded_order s issued none = refuse 2
kinded_order s issued (some r) = do
  fs ← fields s (known r issued) (layout r)
  last s (record { kind = r; fields = fs })

-- the whole order: the first fault met, or what it says
unfoldable pub read_by : List Row → List ℕ → ℕ → Result Read
read_by rows s issued = (byte s >>= λ k. kinded_order s issued (row_in rows k)) 0
