-- `serve_orders`: as in `answer_orders` of sheet; the look at the areas leaves them.
use mathlib.Core.Path.{◌≡◌, refl, ◌∙◌}
use Prim.Native.Nat.{◌<◌}
use lib.ListN.{length}
use Rattle.solver.specs.Terms.Result.{got}
use Rattle.sheet.specs.Sheet.{next_order}
use Rattle.sheet.proofs.Laws.Run.RunLaws.{going_start, going_ready, going_on}
use Rattle.records.proofs.serving.serve_orders.Goals as goal
use Rattle.records.proofs.serving.serve_orders.Goals.{In-Ok}

-- the order that comes next in the sheet
found : (c : In-Ok)
    → (c.loop-order.order-iterator.at < length c.args.s.now) × (got c.in-Ok.bytes.now c.next.new.self.at ≡ next_order c.args.s.now c.loop-order.order-iterator.at) × (c.next.new.self.sheet.now ≡ c.args.s.now)
found c = rw (c.in-Ok.is, c.loop-order.invariant.6) at c.in-Some.ensures.steps

pub loop-order-init : goal.loop-order-init
loop-order-init c = rw c.into_iter-order-iterator.ensures.into_iter_gives (going_start c.requires.held.0 c.requires.held.1, refl, refl, refl, refl, refl, refl)

pub serve_order-r-requires-clause-held : goal.serve_order-r-requires-clause-held
serve_order-r-requires-clause-held c = going_ready c.loop-order.invariant.0

pub loop-order-preserved : goal.loop-order-preserved
loop-order-preserved c =
    let i = c.loop-order.invariant in
    let s = found (goal.at.loop-order-preserved c).In-Ok in
    let r = c.serve_order-r.auto in
    (going_on i.0 _ _ _ _ _ c.serve_order-r.ensures s.0 s.1 _ c.in-Some-next.is r.a r.b r.records r.table r.d, r.a ∙ i.1, r.b ∙ i.2, r.records ∙ i.3, r.table ∙ i.4, r.d ∙ i.5, s.2)
