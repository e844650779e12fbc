-- `weakens`: a byte.
use Rattle.sheet.proofs.Laws.Answering.OperationFieldLaws.{weakens, pair_asked, pair_replies}
use Rattle.sheet.proofs.operations.weakens.Goals as goal

pub can_weaken_to-r-requires : goal.can_weaken_to-r-requires
can_weaken_to-r-requires c = let x = pair_asked (weakens _ _ _ _ _) c.requires.asks.1 in record { places = x.0; terms = x.1 }

pub returns : goal.returns
returns c = λ ws. pair_replies _ (weakens _ _ _ ws _) _ _ c.from.ensures c.can_weaken_to-r.ensures _ _ _ _ c.write_byte_answer.ensures
