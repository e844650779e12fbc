-- The records are the rows of the list, whichever it is.
use Rattle.terms.specs.Words.Tokens.{area}
use Rattle.terms.proofs.Laws.Format.ListReaderLaws.{listed_as}
use Rattle.terms.proofs.lists.keep_list.Goals as goal

pub returns-clause-list : goal.returns-clause-list
returns-clause-list c =
    let a = c.args in
    let k = c.keep_records.ensures in
    listed_as a.s.now a.issued a.levels a.count a.place.now (area a.kinds.now a.vals.now) _ _ a.listing k.answer k.areas
