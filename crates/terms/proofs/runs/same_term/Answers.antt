-- `same_term`: the tokens of both.
use Rattle.terms.proofs.Laws.Held.SameLaws.{part_tokens, compared}
use Rattle.terms.proofs.runs.same_term.Goals as goal

pub returns : goal.returns
returns c =
    λ t u ht hu.
    compared _ _ t u _ _ (part_tokens ht c.term_part.ensures.part.0 (c.term_part.ensures.term t ht))
    (part_tokens hu c.term_part-2.ensures.part.0 (c.term_part-2.ensures.term u hu)) _ c.same_run.ensures.yes c.same_run.ensures.no
