-- `conflicts`: a byte.
use Rattle.sheet.proofs.Laws.Answering.OperationFieldLaws.{conflicts, pair_asked, pair_replies}
use Rattle.sheet.proofs.operations.conflicts.Goals as goal

pub conflicts_with-r-requires : goal.conflicts_with-r-requires
conflicts_with-r-requires c = let x = pair_asked (conflicts _ _ _ _ _) c.requires.asks.1 in record { places = x.0; terms = x.1 }

pub returns : goal.returns
returns c = λ ws. pair_replies _ (conflicts _ _ _ ws _) _ _ c.from.ensures c.conflicts_with-r.ensures _ _ _ _ c.write_byte_answer.ensures
