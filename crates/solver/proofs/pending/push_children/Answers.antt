-- `push_children`. Once, or for a nominal twice.
use mathlib.Core.Path.{◌∙◌}
use native.Mathlib.Omega.{arith}
use lib.ListN.{length}
use Rattle.solver.proofs.Laws.Checks.PushLaws.{room_all, room_drop, room_take, pushed_once, pushed_twice}
use Rattle.solver.proofs.pending.push_children.Goals.{in_default-via-then-tokens-a-lt14, in_default-via-else-tokens-a-lt14+else-this-lt18}
use Rattle.solver.proofs.pending.push_children.Goals as goal

pub push_range-top-requires-clause-room : goal.push_range-top-requires-clause-room
push_range-top-requires-clause-room c = (c.requires.room.0, room_drop c.requires.room.0 c.args.count (length c.args.pending.now) c.requires.room.1 c.unwrap_or-n.result)

pub push_range-requires-clause-room : goal.push_range-requires-clause-room
push_range-requires-clause-room c =
    let w = c.requires.room.0 in
    let l = c.push_range-top.ensures w.tag w.other w.left w.right w.held_left w.held_right in
    (w, omega (arith, room_take c.requires.room.0 c.args.count (length c.args.pending.now) c.requires.room.1 c.unwrap_or-n.result c.push_range-top.result l.size, c.push_range-top.auto))

pub push_range-requires-in_default-clause-room : goal.push_range-requires-in_default-clause-room
push_range-requires-in_default-clause-room c = (c.requires.room.0, room_all c.requires.room.0 _ _ c.requires.room.1)

pub returns-in-14-to-17 : goal.returns-in-14-to-17
returns-in-14-to-17 c =
    λ k j ps qs ha hb.
    pushed_twice c.requires.room.0 k j ps qs ha hb (omega arith) (omega arith) c.unwrap_or-n.result (c.unwrap_or-n.ensures ∙ c.second_number.ensures k ps ha) _ c.push_range-top.result
    (c.push_range-top.ensures k j ps qs ha hb) (c.push_range.ensures k j ps qs ha hb)

pub returns-in_default : goal.returns-in_default
returns-in_default c =
    λ k j ps qs ha hb.
    pushed_once c.requires.room.0 k j ps qs ha hb (λ h. elim c.in_default.branch [
      | in_default-via-then-tokens-a-lt14 w ↦ absurd (omega arith)
      | in_default-via-else-tokens-a-lt14+else-this-lt18 w ↦ omega arith
    ]) (c.push_range-in_default.ensures k j ps qs ha hb)
