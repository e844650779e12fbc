-- `past`: by the spans of the two terms.
use Rattle.terms.proofs.Laws.Asking.ConflictLaws.{passed}
use Rattle.terms.proofs.compare.past.Goals as goal

pub returns-clause-passed : goal.returns-clause-passed
returns-clause-passed c = λ t u ps qs ht hu. (passed _ _ _ _ _ t ps ht c.skip-n.ensures.span, passed _ _ _ _ _ u qs hu c.skip-m.ensures.span)
