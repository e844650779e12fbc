-- `clear_tokens`: the words of both areas cleared.
use Rattle.terms.proofs.Laws.Format.StoreLaws.{blank_areas}
use Rattle.terms.proofs.store.clear_tokens.Goals as goal

pub returns : goal.returns
returns c = blank_areas _ _ _ _ _ _ c.clear_run.ensures c.clear_run-2.ensures
