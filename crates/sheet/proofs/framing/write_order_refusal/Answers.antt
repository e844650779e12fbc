-- `write_order_refusal`: by the number of the refusal.
use Rattle.sheet.proofs.framing.write_order_refusal.Goals as goal

pub returns : goal.returns
returns c = rw c.from.ensures at c.write_refusal.ensures
