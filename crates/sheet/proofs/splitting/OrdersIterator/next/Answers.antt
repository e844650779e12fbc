-- The next order lies behind the position, and within the sheet.
use native.Mathlib.Omega.{arith}
use Prim.Native.Nat.{◌+◌}
use Rattle.std.proofs.Common.{rules}
use lib.ListN.{length}
use Rattle.sheet.proofs.Laws.Run.SplittingLaws.{Ahead, next_ahead}
use Rattle.sheet.proofs.splitting.OrdersIterator.next.Goals as goal
use Rattle.sheet.proofs.splitting.OrdersIterator.next.Goals.{In-Some}

ahead : (c : In-Some) → Ahead c.args.self.now.at (c.in-Some.from + c.in-Some.size) (length c.args.self.now.sheet.now)
ahead c = next_ahead _ _ _ _ (rw c.in-Some.is at c.next_order.ensures)

pub overflow_add-self : goal.overflow_add-self
overflow_add-self c = omega (arith, (ahead (goal.at.overflow_add-self c).In-Some).inside)

pub order_at-requires : goal.order_at-requires
order_at-requires c = (ahead (goal.at.order_at-requires c).In-Some).inside

pub returns-clause-goes : goal.returns-clause-goes
returns-clause-goes c =
    let b = ahead (goal.at.returns-clause-goes c).In-Some in
    let h = b.after in
    let k = b.inside in
    search rules
