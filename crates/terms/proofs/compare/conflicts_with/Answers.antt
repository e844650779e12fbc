-- `conflicts_with`: two terms as two rows.
use Rattle.terms.proofs.Laws.Asking.ConflictLaws.{terms_rows}
use Rattle.terms.proofs.compare.conflicts_with.Goals as goal

pub returns : goal.returns
returns c =
    λ t u ht hu ft fu.
    c.rows_conflict.ensures _
    (terms_rows t u ht hu ft fu c.term_part.ensures.part.0 (c.term_part.ensures.term t ht) c.term_part-2.ensures.part.0 (c.term_part-2.ensures.term u hu))
