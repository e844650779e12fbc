-- `serve_orders`: what is left of the run makes the whole.
use mathlib.Core.Path.{◌≡◌}
use lib.ListN.{length}
use Rattle.solver.specs.Words.SessionRepresentation.{limits_of}
use Rattle.sheet.specs.Words.SessionInAreas.{areas}
use Rattle.sheet.specs.Words.FramingContract.{output_at}
use Rattle.sheet.proofs.Laws.Run.RunLaws.{Going}
use Rattle.records.proofs.serving.serve_orders.Given as goal

abbrev pub invariant-loop-order : goal.invariant-loop-order
invariant-loop-order l =
    Going (limits_of l.initial.x) l.s l.initial.out l.x (areas l.a l.b l.records l.table l.d) (output_at l.out l.to) l.order-iterator.at l.orders × (length l.a ≡ length l.initial.a) × (length l.b ≡ length l.initial.b) × (length l.records ≡ length l.initial.records) × (length l.table ≡ length l.initial.table) × (length l.d ≡ length l.initial.d) × (l.order-iterator.sheet.now ≡ l.s)
