use mathlib.Core.List.{[]}
use mathlib.Core.Path.{refl, sym, ◌∙◌}
use Prim.Native.Nat.{◌+◌, ◌-◌}
use native.Mathlib.Omega.{arith}
use lib.ListN.{length-set}
use Rattle.terms.specs.Words.Tokens.{one}
use Rattle.solver.proofs.Laws.Resolving.FrameLaws.{entered_open, steps_pop, steps_into, rest_pop, rest_over, rest_leaf, rest_into, sound_push, sound_pop, apart_push, bare_push, bare_pop}
use Rattle.solver.proofs.resolving.settle.Goals as goal

pub returns-then-c-eq0 : goal.returns-then-c-eq0
returns-then-c-eq0 c =
    let l = c.loop-c in
    record {
      ready = record {
        sound = l.invariant.0;
        head = λ h. absurd (omega arith);
        over = λ _. rw c.if-c-eq0.true (rest_over _ _ _ _ _ l.c.at l.c.end (omega arith));
        alone = λ _. c.if-c-eq0.true;
      };
      same = l.invariant.1;
      apart = l.invariant.3;
      bare = l.invariant.4;
    }

pub loop-c-smaller-then-c : goal.loop-c-smaller-then-c
loop-c-smaller-then-c c =
    let l = c.loop-c in
    steps_pop _ _ _ _ l.frames l.c.at l.c.end l.c.depth (omega arith) (omega arith)

pub loop-c-preserved-then-c : goal.loop-c-preserved-then-c
loop-c-preserved-then-c c =
    let a = c.args in
    let l = c.loop-c in (
      sound_pop _ _ _ _ _ _ l.invariant.0 (omega arith),
      sym (rest_pop _ _ _ _ l.frames l.c.at l.c.end l.c.depth (omega arith) (omega arith)) ∙ l.invariant.1,
      simp length-set l.invariant.2,
      apart_push a.bindings.now.most a.frames.now l.frames (l.c.depth - 1) 0 0 l.invariant.3 (omega (arith, l.invariant.0.depth)),
      λ b. bare_pop l.frames l.c.depth (omega arith) (omega (arith, l.invariant.0.depth, l.invariant.0.room)) (l.invariant.4 b),
    )

pub returns-in_default : goal.returns-in_default
returns-in_default c =
    let a = c.args in
    let l = c.loop-c in
    record {
      ready = record {
        sound = l.invariant.0;
        head = λ h. rest_leaf one [] a.bindings.now.tokens.kinds.now a.bindings.now.tokens.vals.now a.bindings.now.bound.now a.bindings.now.most l.frames l.c.at l.c.end l.c.depth _ _ h c.in_default.ensures.entered refl;
        over = λ h. absurd (omega (arith, l.invariant.0.order));
        alone = λ h. absurd (omega (arith, l.invariant.0.order));
      };
      same = l.invariant.1;
      apart = l.invariant.3;
      bare = l.invariant.4;
    }

pub loop-c-smaller : goal.loop-c-smaller
loop-c-smaller c =
    let a = c.args in
    let l = c.loop-c in
    let f = c.in-Some.ensures.filled _ refl in
    let i = c.in-Some.ensures.entered in
    let o = entered_open _ _ _ _ _ _ _ i f in
    steps_into a.bindings.now.tokens.kinds.now a.bindings.now.tokens.vals.now a.bindings.now.bound.now a.bindings.now.most l.frames l.c.at l.c.end l.c.depth _ _ (omega (arith, l.invariant)) i f (omega (arith, l.invariant))

pub loop-c-preserved : goal.loop-c-preserved
loop-c-preserved c =
    let a = c.args in
    let l = c.loop-c in
    let f = c.in-Some.ensures.filled _ refl in
    let i = c.in-Some.ensures.entered in
    let o = entered_open _ _ _ _ _ _ _ i f in (
      sound_push _ _ _ _ _ _ _ _ l.invariant.0 (omega (arith, l.invariant)) (omega arith) i.within,
      sym (rest_into one [] a.bindings.now.tokens.kinds.now a.bindings.now.tokens.vals.now a.bindings.now.bound.now a.bindings.now.most l.frames l.c.at l.c.end l.c.depth _ _ (omega (arith, l.invariant)) i f (omega (arith, l.invariant))) ∙ l.invariant.1,
      simp length-set l.invariant.2,
      apart_push a.bindings.now.most a.frames.now l.frames l.c.depth (l.c.at + 1) l.c.end l.invariant.3 (omega arith),
      λ b. bare_push l.frames l.c.depth (l.c.at + 1) l.c.end (l.invariant.4 b),
    )
