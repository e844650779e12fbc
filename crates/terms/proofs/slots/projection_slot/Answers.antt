-- `projection_slot`. By cases.
use native.Mathlib.Omega.{arith}
use Rattle.terms.proofs.Laws.Normalising.SlotLaws.{projection_argument, projection_receiver, projection_member, projection_interface}
use Rattle.terms.proofs.slots.projection_slot.Goals as goal

pub returns-then-j-a : goal.returns-then-j-a
returns-then-j-a c = (projection_argument _ _ _ _ _ (omega arith) (omega arith), omega arith)

pub returns-then-j-a-2 : goal.returns-then-j-a-2
returns-then-j-a-2 c = (projection_receiver _ _ _ _ _ (omega arith) (omega arith) (omega arith), omega arith)

pub returns-then-j-c : goal.returns-then-j-c
returns-then-j-c c = (projection_member _ _ _ _ _ (omega arith) (omega arith) (omega arith) (omega arith), omega arith)

pub returns : goal.returns
returns c = (projection_interface _ _ _ _ _ (omega arith) (omega arith) (omega arith) (omega arith), omega arith)
