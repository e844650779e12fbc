use native.Mathlib.Omega.{arith}
use mathlib.Core.Path.{◌≡◌, ap}
use Prim.Native.Nat.{◌%◌}
use native.Mathlib.Numerals.{add-one}
use lib.ListN.{length, length-set}
use Rattle.terms.proofs.Laws.Numbers.Shortest.{shortest_more, shortest_last}
use Rattle.terms.proofs.numbers.write_number.Goals as goal

pub bounds-out-i : goal.bounds-out-i
bounds-out-i c = omega (arith, ap length (shortest_more c.loop-v.v c.loop-v-test.true))

pub loop-v-preserved : goal.loop-v-preserved
loop-v-preserved c =
    let l = c.loop-v in
    let e = shortest_more l.v c.loop-v-test.true in
    (omega (arith, ap length e), simp length-set l.invariant.1, rw add-one (rw e at l.invariant.2))

pub bounds-out-i-2 : goal.bounds-out-i-2
bounds-out-i-2 c = omega (arith, ap length (shortest_last c.loop-v.v c.loop-v-test.false))

pub returns : goal.returns
returns c =
    let l = c.loop-v in
    let e = shortest_last l.v c.loop-v-test.false in
    let low : l.v % 256 ≡ l.v = omega (arith, c.loop-v-test.false) in
    record { next = omega (arith, ap length e); wrote = rw low (rw e at l.invariant.2) }
