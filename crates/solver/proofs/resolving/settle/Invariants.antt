-- `settle`. Invariant: the place is sound, what is left of the walk is what was left at the start, and the frames past those
-- of waiting runs are 0 where they were. Measure: `steps`.
use mathlib.Core.Path.{◌≡◌}
use Prim.Native.Nat.{◌+◌}
use lib.ListN.{length}
use Rattle.solver.specs.Words.ResolveFrames.{left, Sound, Apart, Bare}
use Rattle.solver.proofs.Laws.Resolving.FrameLaws.{steps}
use Rattle.solver.proofs.resolving.settle.Given as goal

abbrev pub invariant-loop-c : goal.invariant-loop-c
invariant-loop-c l =
    Sound l.bindings.tokens.kinds.now l.bindings.most l.frames l.c
    × (left l.bindings.tokens.kinds.now l.bindings.tokens.vals.now l.bindings.bound.now l.bindings.most l.frames l.c ≡ left l.bindings.tokens.kinds.now l.bindings.tokens.vals.now l.bindings.bound.now l.bindings.most l.initial.frames l.initial.c)
    × (length l.frames ≡ length l.initial.frames)
    × Apart l.bindings.most l.initial.frames l.frames
    × (Bare (l.initial.c.depth + l.initial.c.depth) l.initial.frames → Bare (l.c.depth + l.c.depth) l.frames)

abbrev pub decreases-loop-c : goal.decreases-loop-c
decreases-loop-c l = steps l.bindings.tokens.kinds.now l.bindings.tokens.vals.now l.bindings.bound.now l.bindings.most l.frames l.c.at l.c.end l.c.depth
