-- The answers lie within the output.
use Rattle.sheet.proofs.Laws.Run.EntryLaws.{bytes_inside}
use Rattle.harness.proofs.bench.run_inside.Goals as goal

pub returns-clause-within : goal.returns-clause-within
returns-clause-within c = bytes_inside _ _ _ _ _ _ _ _ _ _ _ _ _ _ _ _ c.run_sheet.ensures
