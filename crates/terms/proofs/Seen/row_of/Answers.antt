use Rattle.terms.proofs.Laws.Normalising.ScanLaws.{row_is}
use Rattle.terms.proofs.Seen.row_of.Goals as goal

pub returns : goal.returns
returns c = row_is _ _ _ c.end_at.ensures
