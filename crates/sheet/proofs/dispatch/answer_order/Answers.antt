-- `answer_order`: refused for its nodes, or by the kind.
use mathlib.Core.Path.{◌≡◌, ap, sym}
use Prim.Native.Nat.{ℕ, ◌≤◌}
use native.Mathlib.Omega.{arith}
use Rattle.solver.specs.declared.Solver.{Solver}
use Rattle.solver.specs.declared.Standing.{Standing}
use Rattle.solver.specs.Orders as orders
use Rattle.sheet.proofs.Laws.Answering.SessionInAreasLaws.{ready_frames}
use Rattle.sheet.proofs.Laws.Answering.DispatchLaws.{crowded, long_b, taken_narrow, taken_pairs, taken_lends, taken_asks, operated, plain_lent, plain_answered, poses, posed, defer_term, defer_known, defer_step, resolve_term, resolve_known, resolve_step, pair_terms, pair_k, poses_pair, pair_nodes, pair_scratch, pair_answered}
use Rattle.sheet.proofs.dispatch.answer_order.Goals as goal

-- the order's nodes are not too many
within : (x : Solver) {m : ℕ} {n : Standing} → n ≡ record { issued = x.issued; kept = x.kept; top = x.top; nodes = x.nodes } → m ≤ n.nodes → m ≤ x.nodes
within x e h = omega (arith, ap (λ (s : Standing). s.nodes) e, h)

pub returns-then-n-o : goal.returns-then-n-o
returns-then-n-o c =
    let n = ap (λ (x : Standing). x.nodes) c.standing-n.ensures in
    λ a₀ b₀ T. crowded T (omega (arith, n, c.if-n-o.true)) _ _ c.write_order_refusal-next.ensures

pub slice_bounds-tokens-end-2 : goal.slice_bounds-tokens-end-2
slice_bounds-tokens-end-2 c =
    let W = within c.args.x c.standing-n.ensures c.if-n-o.false in
    sym (long_b c.requires.taken.2 W)

pub invariant_of-tokens : goal.invariant_of-tokens
invariant_of-tokens c =
    let W = within c.args.x c.standing-n.ensures c.if-n-o.false in
    record { pairs = taken_pairs c.requires.taken.2 W; narrow = taken_narrow _ _ (λ i. omega (arith, c.type_inv.b i)) }

-- ---- orders 0, 1, 2, 6, 7, 8 and 21

pub termless_order-requires-clause-held : goal.termless_order-requires-clause-held
termless_order-requires-clause-held c =
    let W = within c.args.x c.standing-n.ensures c.if-n-o.false in
    let T = c.requires.taken.2 in
    let R = T.ready in
    (R.session, R.ordered, plain_lent T W c.in-Termless.is R.session R.in_areas)

pub termless_order-requires-clause-areas : goal.termless_order-requires-clause-areas
termless_order-requires-clause-areas c = ready_frames c.requires.taken.2.ready

pub returns-in-Termless : goal.returns-in-Termless
returns-in-Termless c =
    let W = within c.args.x c.standing-n.ensures c.if-n-o.false in
    let e = c.termless_order.ensures in
    λ a₀ b₀ T. plain_answered T W c.in-Termless.is _ (c.termless_of-what.ensures _ _ _ _) _ _ _ _ _ e.clear e.does

-- ---- order 3

pub defer_term-requires-clause-held : goal.defer_term-requires-clause-held
defer_term-requires-clause-held c =
    let W = within c.args.x c.standing-n.ensures c.if-n-o.false in
    let T = c.requires.taken.2 in
    let h = c.in-DeferNever.is in
    let t = defer_term T W h in
    let R = T.ready in
    (R.session, t.0, poses T W t.1 (defer_known T W h) R.session R.ordered R.in_areas)

pub returns-in-DeferNever : goal.returns-in-DeferNever
returns-in-DeferNever c =
    let W = within c.args.x c.standing-n.ensures c.if-n-o.false in
    let h = c.in-DeferNever.is in
    λ a₀ b₀ T.
    let t = defer_term T W h in
    posed T W t.1 (defer_known T W h) (orders.defer t.0) (λ z Z. defer_step T W h z Z t.1) _ _ _ _ _ T.ready.in_areas.work (λ z P. c.defer_term.ensures z t.0 P)

-- ---- orders 4 and 22

pub overflow_cast-k : goal.overflow_cast-k
overflow_cast-k c =
    let W = within c.args.x c.standing-n.ensures c.if-n-o.false in
    let T = c.requires.taken.2 in
    let d = c.in-Constrain.access in
    let k = pair_k T W d c.in-Constrain.is (pair_terms T W d c.in-Constrain.is).3 in
    omega (arith, k.0, k.1)

pub constrain_order-requires-clause-held : goal.constrain_order-requires-clause-held
constrain_order-requires-clause-held c =
    let W = within c.args.x c.standing-n.ensures c.if-n-o.false in
    let T = c.requires.taken.2 in
    let d = c.in-Constrain.access in
    let h = c.in-Constrain.is in
    let R = T.ready in
    let q = pair_terms T W d h in
    (R.session, q.1, q.2, poses_pair T W d h q.3 R.session R.ordered R.in_areas, pair_nodes T W d h q.3 R.session R.in_areas)

pub constrain_order-requires-clause-areas : goal.constrain_order-requires-clause-areas
constrain_order-requires-clause-areas c =
    let W = within c.args.x c.standing-n.ensures c.if-n-o.false in
    let T = c.requires.taken.2 in
    (pair_scratch T W c.in-Constrain.access c.in-Constrain.is, T.ready.in_areas.blank)

pub returns-in-Constrain : goal.returns-in-Constrain
returns-in-Constrain c =
    let W = within c.args.x c.standing-n.ensures c.if-n-o.false in
    let d = c.in-Constrain.access in
    let h = c.in-Constrain.is in
    let e = c.constrain_order.ensures in
    λ a₀ b₀ T.
    let q = pair_terms T W d h in
    pair_answered T W d h q.3 _ _ _ _ _ e.clear c.args.o.fields.first.value (pair_k T W d h q.3).0 (λ z P m. e.does z q.1 q.2 P m)

-- ---- order 5

pub resolve_term-requires-clause-held : goal.resolve_term-requires-clause-held
resolve_term-requires-clause-held c =
    let W = within c.args.x c.standing-n.ensures c.if-n-o.false in
    let T = c.requires.taken.2 in
    let h = c.in-Resolve.is in
    let t = resolve_term T W h in
    let R = T.ready in
    (R.session, t.0, poses T W t.1 (resolve_known T W h) R.session R.ordered R.in_areas)

pub resolve_term-requires-clause-areas : goal.resolve_term-requires-clause-areas
resolve_term-requires-clause-areas c = ready_frames c.requires.taken.2.ready

pub returns-in-Resolve : goal.returns-in-Resolve
returns-in-Resolve c =
    let W = within c.args.x c.standing-n.ensures c.if-n-o.false in
    let h = c.in-Resolve.is in
    let e = c.resolve_term.ensures in
    λ a₀ b₀ T.
    let t = resolve_term T W h in
    posed T W t.1 (resolve_known T W h) (orders.resolving t.0) (λ z Z. resolve_step T W h z Z t.1) _ _ _ _ _ e.clear (λ z P. e.does z t.0 P)

-- ---- orders 9 to 20

pub invariant_of-posed : goal.invariant_of-posed
invariant_of-posed c =
    let W = within c.args.x c.standing-n.ensures c.if-n-o.false in
    record { pairs = (taken_lends c.requires.taken.2 W).pairs; narrow = record { fits = λ i. omega (arith, c.type_inv.b i) } }

pub invariant_of-posed-in-Operation : goal.invariant_of-posed-in-Operation
invariant_of-posed-in-Operation c =
    let W = within c.args.x c.standing-n.ensures c.if-n-o.false in
    record { few = (taken_lends c.requires.taken.2 W).short }

pub operate-next-requires : goal.operate-next-requires
operate-next-requires c =
    let W = within c.args.x c.standing-n.ensures c.if-n-o.false in
    let p = c.requires in
    record { lends = taken_lends p.taken.2 W; asks = taken_asks p.taken.2 W c.in-Operation.is; room = p.room }

pub returns-in-Operation : goal.returns-in-Operation
returns-in-Operation c =
    let W = within c.args.x c.standing-n.ensures c.if-n-o.false in
    let e = c.operate-next.ensures in
    λ a₀ b₀ T. operated T W c.in-Operation.is _ _ e.says _ _ e.clear
