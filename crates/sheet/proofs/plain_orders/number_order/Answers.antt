-- `number_order`: by the request.
use mathlib.Core.Path.{refl}
use Rattle.sheet.specs.OrderTable.{asking}
use Rattle.sheet.proofs.plain_orders.number_order.Goals as goal

pub returns-in_default : goal.returns-in_default
unfolding asking
returns-in_default c = rw c.in_default.is refl

pub returns : goal.returns
unfolding asking
returns c = rw c.in-Some.is refl
