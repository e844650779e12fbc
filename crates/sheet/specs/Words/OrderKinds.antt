-- The orders as the code has them: the row of each in the table, and which order has a number.
use Rattle.std.specs.Prelude.{Ok, Err, ◌≡◌, Bool, true, false, List, [], ◌∷◌, ◌⊎◌, ℕ}
use Rattle.std.specs.declared.result.Result as rust
use Rattle.std.proofs.Math.Option.{Option, none, some}
use Rattle.solver.specs.TermTypes.{Refusal, Code}
use Rattle.solver.specs.declared.Access.TheVariants.{Ignored, Compared}
use Rattle.sheet.specs.declared.OrderKind.{OrderKind}
use Rattle.sheet.specs.declared.OrderKind.TheVariants.{Termless, DeferNever, Constrain, Resolve, Operation}
use Rattle.sheet.specs.declared.TermlessKind.{TermlessKind}
use Rattle.sheet.specs.declared.TermlessKind.TheVariants as plain
use Rattle.sheet.specs.declared.Operation as declared
use Rattle.sheet.specs.declared.Operation.TheVariants as asked
use Rattle.sheet.specs.OrderTable as session
use Rattle.sheet.specs.OrderTable.{Act, tells, answers, Row, row_in}
use Rattle.sheet.specs.Operations as operations
use Rattle.sheet.specs.Sheet.{table}

abbrev pub termless_row : TermlessKind → Row
termless_row plain.Variable = session.variable
termless_row plain.NumberVariable = session.number_variable
termless_row plain.AnnotationHole = session.annotation_hole
termless_row plain.NumericDefaults = session.numeric_defaults
termless_row plain.NeverDefaults = session.never_defaults
termless_row plain.Revision = session.revision
termless_row plain.RangeVariable = session.range_variable

abbrev pub operation_row : declared.Operation → Row
operation_row asked.Conflicts = operations.conflicts
operation_row asked.Weakens = operations.weakens
operation_row asked.Recover = operations.recover
operation_row asked.Instantiate = operations.instantiate
operation_row asked.ArgumentContext = operations.argument_context
operation_row asked.WithSelf = operations.with_self
operation_row asked.Questions = operations.questions
operation_row asked.ResolvedIn = operations.resolved_in
operation_row asked.Satisfied = operations.satisfied
operation_row asked.Family = operations.family
operation_row asked.WithAssociatedTypes = operations.with_associated_types
operation_row asked.Normalise = operations.normalise

abbrev pub kind_row : OrderKind → Row
kind_row (Termless k) = termless_row k
kind_row DeferNever = session.defer_never
kind_row (Constrain Ignored) = session.constrain
kind_row (Constrain Compared) = session.constrain_strictly
kind_row Resolve = session.resolve
kind_row (Operation k) = operation_row k

-- the order with a number; refusal 2, where none has it
abbrev pub KindTold : ℕ → rust.Result OrderKind Refusal → Type 0
KindTold n (Ok k) = row_in table n ≡ some (kind_row k)
KindTold n (Err c) = (row_in table n ≡ none) × (c ≡ Code)

-- ---- the numbers of a class

-- whether an order leaves the session
abbrev pub answers_by : Act → Bool
answers_by (tells f) = false
answers_by (answers f) = true

abbrev pub is_operation : Option Row → Bool
is_operation none = false
is_operation (some r) = answers_by r.act

-- one of some numbers
abbrev pub Among : List ℕ → ℕ → Type 0
Among [] k = ⊥
Among (n ∷ ns) k = (k ≡ n) ⊎ Among ns k

-- the orders of the session that have no tokens
abbrev pub plain_orders : List ℕ
plain_orders = 0 ∷ 1 ∷ 2 ∷ 6 ∷ 7 ∷ 8 ∷ 21 ∷ []

abbrev pub numbers_of : List Row → List ℕ
numbers_of [] = []
numbers_of (r ∷ rs) = r.number ∷ numbers_of rs
