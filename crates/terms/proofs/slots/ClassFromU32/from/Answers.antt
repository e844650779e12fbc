-- `from`. By the ranges of the tag.
use native.Mathlib.Omega.{arith}
use Rattle.terms.proofs.Laws.Normalising.SlotLaws.{class_projection, class_plain, class_nominal}
use Rattle.terms.proofs.slots.ClassFromU32.from.Goals as goal

pub returns-in-18 : goal.returns-in-18
returns-in-18 c = class_projection _ (omega arith)

pub returns-in-12-to-15 : goal.returns-in-12-to-15
returns-in-12-to-15 c = class_nominal _ (λ e. omega arith) (omega arith) (omega arith)

pub returns-in_default : goal.returns-in_default
returns-in_default c = class_plain _ (λ e. omega arith) (λ l. omega arith)

pub returns-in_default-2 : goal.returns-in_default-2
returns-in_default-2 c = class_plain _ (λ e. omega arith) (λ l. omega arith)
