-- `next_order`: the length that was read ends within the sheet.
use Rattle.solver.proofs.Terms.Options.{taken}
use Rattle.sheet.proofs.Laws.Run.SplittingLaws.{number_inside}
use Rattle.sheet.proofs.splitting.next_order.Goals as goal

pub overflow_sub-s : goal.overflow_sub-s
overflow_sub-s c = (number_inside 4294967295 c.args.s.now c.args.at _ _ (rw (taken _ _ c.ok.ensures.value _ (c.in_ok-size.was {u = tt})) at c.read_number.ensures)).inside
