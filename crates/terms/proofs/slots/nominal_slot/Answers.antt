-- `nominal_slot`. By cases.
use native.Mathlib.Omega.{arith}
use Rattle.terms.proofs.Laws.Normalising.SlotLaws.{nominal_member, nominal_argument}
use Rattle.terms.proofs.slots.nominal_slot.Goals as goal

pub returns-then-j-a : goal.returns-then-j-a
returns-then-j-a c = (nominal_member _ 0 _ _ _ (omega arith) (omega arith), omega arith)

pub returns : goal.returns
returns c = (nominal_argument _ 0 _ _ _ (omega arith) (omega arith), omega arith)
