-- What was read, and then cleared where it is not kept.
use Rattle.terms.specs.Words.Outcomes.{step_of}
use Rattle.terms.proofs.Laws.Format.ListLaws.{row_kept}
use Rattle.terms.proofs.lists.keep_records.Goals as goal

pub returns-clause-areas : goal.returns-clause-areas
returns-clause-areas c = let r = c.read_records-outcome in row_kept _ _ c.args.place.now _ _ (step_of r.result r.new.place) _ r.ensures (rw c.moved-first.ensures at c.settle.ensures.cleared)
