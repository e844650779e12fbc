-- An order that answers, on a session: its operation is its answer.
use mathlib.Core.Path.{◌≡◌, refl}
use mathlib.Core.List.{List}
use Rattle.solver.specs.Session.{Limits, Session}
use Rattle.sheet.specs.declared.Operation.{Operation}
use Rattle.sheet.specs.Fields.{Field}
use Rattle.sheet.specs.Operations.{operation}
use Rattle.sheet.specs.Sheet.{step, operate}
use Rattle.sheet.specs.Words.OrderKinds.{operation_row}
use Rattle.sheet.proofs.Laws.Reading.OrderKindLaws.{operation_act}

pub operation_step : (lim : Limits) (z : Session) (k : Operation) (fs : List Field) → step lim z (operation_row k) fs ≡ operate lim z fs (operation (operation_row k) fs)
unfolding step operation
operation_step lim z k fs = rw (operation_act k).1 refl
