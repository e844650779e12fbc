-- What a length says, if the bytes are there.
use mathlib.Core.Path.{refl, sym}
use Prim.Native.Nat.{◌+◌, ◌<◌, ◌≤◌}
use native.Mathlib.Omega.{arith}
use Rattle.std.proofs.Common.{rules}
use lib.ListN.{length}
use Rattle.terms.proofs.Laws.General.Options.{taken}
use Rattle.terms.proofs.Laws.Numbers.NumberBoundLaws.{Bounded, number_bounds}
use Rattle.reread.proofs.FramesIterator.next.Goals as goal
use Rattle.reread.proofs.FramesIterator.next.Goals.{In_ok-size}

-- where a length ends
after : (c : In_ok-size) → Bounded 4294967295 c.args.self.now.at (length c.args.self.now.input.bytes.now) c.in_ok-size.size c.in_ok-size.from
after c = number_bounds _ c.args.self.now.input.bytes.now c.args.self.now.at _ _ c.requires (sym (rw (taken _ _ c.ok.ensures.value _ (c.in_ok-size.was {u = tt})) at c.read_number.ensures))

pub overflow_sub-input : goal.overflow_sub-input
overflow_sub-input c = (after c).inside

pub slice_bounds-result-end : goal.slice_bounds-result-end
slice_bounds-result-end c =
    let b = after (goal.at.slice_bounds-result-end c).In_ok-size in
    omega (arith, b.inside)

pub returns-clause-steps : goal.returns-clause-steps
returns-clause-steps c =
    let b = after (goal.at.returns-clause-steps c).In_ok-size in
    (c.in_ok-size.from, (omega (arith, b.after), omega arith, omega (arith, b.inside)), refl, refl)

pub returns-clause-goes : goal.returns-clause-goes
returns-clause-goes c =
    let b = after (goal.at.returns-clause-goes c).In_ok-size in
    let h : c.args.self.now.at < c.in_ok-size.from + c.in_ok-size.size = omega (arith, b.after) in
    let k : c.in_ok-size.from + c.in_ok-size.size ≤ length c.args.self.now.input.bytes.now = omega (arith, b.inside) in
    search rules
