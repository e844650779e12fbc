-- `walked_len`. Invariant: the bytes counted and those left are all. Measure: the tokens left.
use mathlib.Core.Path.{◌≡◌}
use Prim.Native.Nat.{◌+◌, ◌≤◌}
use lib.ListN.{length}
use Rattle.solver.specs.Words.ResolveWalk.{flat_bytes}
use Rattle.solver.specs.Words.ResolveFrames.{left, Ready, Apart, Bare}
use Rattle.solver.proofs.resolving.walked_len.Given as goal

abbrev pub invariant-loop-c : goal.invariant-loop-c
invariant-loop-c l =
    Ready l.bindings.tokens.kinds.now l.bindings.tokens.vals.now l.bindings.bound.now l.bindings.most l.frames l.c
    × (l.n ≤ l.limit)
    × (l.n + length (flat_bytes (left l.bindings.tokens.kinds.now l.bindings.tokens.vals.now l.bindings.bound.now l.bindings.most l.frames l.c))
    ≡ length (flat_bytes (left l.bindings.tokens.kinds.now l.bindings.tokens.vals.now l.bindings.bound.now l.bindings.most l.initial.frames l.initial.c)))
    × (length l.frames ≡ length l.initial.frames)
    × Apart l.bindings.most l.initial.frames l.frames
    × (Bare (l.initial.c.depth + l.initial.c.depth) l.initial.frames → Bare (l.c.depth + l.c.depth) l.frames)

abbrev pub decreases-loop-c : goal.decreases-loop-c
decreases-loop-c l = length (left l.bindings.tokens.kinds.now l.bindings.tokens.vals.now l.bindings.bound.now l.bindings.most l.frames l.c)
