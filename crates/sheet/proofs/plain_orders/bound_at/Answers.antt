-- `bound_at`: by the sign.
use Rattle.sheet.proofs.Laws.Answering.TermlessLaws.{no_sign, with_sign}
use Rattle.sheet.proofs.plain_orders.bound_at.Goals as goal

pub returns-then-spot-gt1 : goal.returns-then-spot-gt1
returns-then-spot-gt1 c = no_sign c.args.spot c.if-spot-gt1.true

pub returns : goal.returns
returns c = with_sign c.args.spot c.if-spot-gt1.false
