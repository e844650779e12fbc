use lib.ListN.{get_or}
use mathlib.Core.Path.{◌≡◌, refl}
use native.Mathlib.Omega.{arith}
use Prim.Native.Nat.{◌-◌}
use Rattle.solver.specs.Words.Halves.{low_half}
use Rattle.solver.proofs.Laws.Equality.HalfLaws.{half_inside, halves_zero}
use Rattle.solver.proofs.Laws.Equality.LinkLaws.{clear_word, unlink_end}
use Rattle.solver.proofs.equality.unlink.Goals as goal

pub bounds-links-x : goal.bounds-links-x
bounds-links-x c =
    let l = c.loop-k in
    half_inside l.links (low_half (get_or l.queue (l.k - 1) 0)) (l.invariant.inside (l.k - 1) (omega arith))

pub loop-k-preserved : goal.loop-k-preserved
loop-k-preserved c =
    let l = c.loop-k in
    clear_word l.links l.queue l.k (low_half (get_or l.queue (l.k - 1) 0)) l.invariant (omega arith) refl

pub returns : goal.returns
returns c =
    let l = c.loop-k in
    let k : l.k ≡ 0 = omega arith in
    let z = unlink_end _ l.queue (rw k at l.invariant) in
    (halves_zero l.links z.0, z.1)
