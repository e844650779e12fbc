-- The rows of the orders as the code has them: what holds of each is computed.
use mathlib.Core.Path.{◌≡◌, refl}
use mathlib.Core.Bool.{true}
use mathlib.Core.List.{List}
use Rattle.sheet.specs.declared.TermlessKind.{TermlessKind}
use Rattle.sheet.specs.declared.TermlessKind.TheVariants as plain
use Rattle.sheet.specs.declared.Operation.{Operation}
use Rattle.sheet.specs.declared.Operation.TheVariants as asked
use Rattle.solver.specs.Orders.{Command}
use Rattle.sheet.specs.Fields.{Field}
use Rattle.sheet.specs.OrderTable.{Answer, tells, answers, layout}
use Rattle.sheet.specs.Words.FieldLayout.{is_number, numeric, is_tokenless, tokenless}
use Rattle.sheet.specs.Words.OrderKinds.{termless_row, operation_row}

-- an order without terms tells the session something; it has no tokens, and its first two fields are numbers
pub termless_act : (k : TermlessKind) → (f : List Field → Command) × ((termless_row k).act ≡ tells f)
termless_act plain.Variable = (_, refl)
termless_act plain.NumberVariable = (_, refl)
termless_act plain.AnnotationHole = (_, refl)
termless_act plain.NumericDefaults = (_, refl)
termless_act plain.NeverDefaults = (_, refl)
termless_act plain.Revision = (_, refl)
termless_act plain.RangeVariable = (_, refl)

pub termless_tokenless : (k : TermlessKind) → tokenless (layout (termless_row k)) ≡ true
unfolding layout tokenless is_tokenless is_number
termless_tokenless plain.Variable = refl
termless_tokenless plain.NumberVariable = refl
termless_tokenless plain.AnnotationHole = refl
termless_tokenless plain.NumericDefaults = refl
termless_tokenless plain.NeverDefaults = refl
termless_tokenless plain.Revision = refl
termless_tokenless plain.RangeVariable = refl

pub termless_numeric : (k : TermlessKind) → numeric 2 (layout (termless_row k)) ≡ true
unfolding layout numeric is_number
termless_numeric plain.Variable = refl
termless_numeric plain.NumberVariable = refl
termless_numeric plain.AnnotationHole = refl
termless_numeric plain.NumericDefaults = refl
termless_numeric plain.NeverDefaults = refl
termless_numeric plain.Revision = refl
termless_numeric plain.RangeVariable = refl

-- an operation answers
pub operation_act : (k : Operation) → (f : List Field → Answer) × ((operation_row k).act ≡ answers f)
operation_act asked.Conflicts = (_, refl)
operation_act asked.Weakens = (_, refl)
operation_act asked.Recover = (_, refl)
operation_act asked.Instantiate = (_, refl)
operation_act asked.ArgumentContext = (_, refl)
operation_act asked.WithSelf = (_, refl)
operation_act asked.Questions = (_, refl)
operation_act asked.ResolvedIn = (_, refl)
operation_act asked.Satisfied = (_, refl)
operation_act asked.Family = (_, refl)
operation_act asked.WithAssociatedTypes = (_, refl)
operation_act asked.Normalise = (_, refl)
