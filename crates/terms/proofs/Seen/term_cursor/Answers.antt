use mathlib.Core.Path.{refl}
use Rattle.terms.proofs.Laws.Normalising.RuleLaws.{term_starts}
use Rattle.terms.proofs.Seen.term_cursor.Goals as goal

pub returns : goal.returns
returns c = term_starts _ _ _ refl refl refl c.end_at.ensures
