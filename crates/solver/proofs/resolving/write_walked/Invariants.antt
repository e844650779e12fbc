-- `write_walked`. Invariant: writing what is left at i gives what was to be written. Measure: the tokens left.
use mathlib.Core.Path.{◌≡◌}
use Prim.Native.Nat.{◌+◌}
use lib.ListN.{length}
use Rattle.terms.proofs.Laws.Format.WriteLaws.{Left}
use Rattle.solver.specs.Words.ResolveWalk.{flat_bytes}
use Rattle.solver.specs.Words.ResolveFrames.{left, Ready, Apart, Bare}
use Rattle.solver.proofs.resolving.write_walked.Given as goal

abbrev pub invariant-loop-c : goal.invariant-loop-c
invariant-loop-c l =
    Ready l.bindings.tokens.kinds.now l.bindings.tokens.vals.now l.bindings.bound.now l.bindings.most l.frames l.c
    × Left l.initial.out l.to (flat_bytes (left l.bindings.tokens.kinds.now l.bindings.tokens.vals.now l.bindings.bound.now l.bindings.most l.initial.frames l.initial.c)) l.out l.i
    (flat_bytes (left l.bindings.tokens.kinds.now l.bindings.tokens.vals.now l.bindings.bound.now l.bindings.most l.frames l.c))
    × (length l.frames ≡ length l.initial.frames)
    × Apart l.bindings.most l.initial.frames l.frames
    × (Bare (l.initial.c.depth + l.initial.c.depth) l.initial.frames → Bare (l.c.depth + l.c.depth) l.frames)

abbrev pub decreases-loop-c : goal.decreases-loop-c
decreases-loop-c l = length (left l.bindings.tokens.kinds.now l.bindings.tokens.vals.now l.bindings.bound.now l.bindings.most l.frames l.c)
