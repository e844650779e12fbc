use lib.ListN.{get_or}
use mathlib.Core.Path.{◌≡◌, refl}
use native.Mathlib.Omega.{arith}
use Prim.Native.Nat.{◌-◌}
use Rattle.solver.proofs.Laws.Equality.LinkLaws.{clear_step, clear_end}
use Rattle.solver.proofs.reach.clear_queue.Goals as goal

pub loop-k-preserved : goal.loop-k-preserved
loop-k-preserved c =
    let l = c.loop-k in
    clear_step l.marks l.queue l.k (get_or l.queue (l.k - 1) 0) l.invariant (omega arith) refl

pub returns : goal.returns
returns c =
    let l = c.loop-k in
    let k : l.k ≡ 0 = omega arith in
    clear_end l.marks l.queue (rw k at l.invariant)
