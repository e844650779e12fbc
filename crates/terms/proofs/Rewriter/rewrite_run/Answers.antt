use Prim.Native.Nat.{◌+◌, ◌≤◌}
use native.Mathlib.Omega.{arith}
use Rattle.terms.specs.Words.RewriteContract.{chosen}
use Rattle.terms.proofs.Laws.Replacing.RewriteLaws.{chosen_inside, pieces_end, pace_within, going_end, step_space, step_on}
use Rattle.terms.proofs.Rewriter.rewrite_run.Goals as goal
use Rattle.terms.proofs.Rewriter.rewrite_run.Goals.{After-pace-p}

-- a step goes on, and not past the end
stride : (c : After-pace-p) → (1 ≤ c.pace-p.result) × (c.loop-p.p + c.pace-p.result ≤ c.args.part.end)
stride c =
    let r = c.args.self.now in
    pace_within _ _ (chosen r.tokens.kinds.now r.tokens.vals.now r.binders) _ _ (omega (arith, c.loop-p-test.true)) _ _ c.pace-p.ensures

pub emit-i-requires-clause-areas : goal.emit-i-requires-clause-areas
emit-i-requires-clause-areas c = (omega arith, rw c.replaced_at-c.ensures (chosen_inside _ _ _ c.args.self.now.within c.loop-p.p))

pub emit-i-requires-clause-space : goal.emit-i-requires-clause-space
emit-i-requires-clause-space c = step_space _ _ _ c.loop-p.p c.args.part.end (omega arith) c.loop-p.invariant.1 c.replaced_at-c.ensures c.requires.space

pub overflow_add-p : goal.overflow_add-p
overflow_add-p c = omega (arith, stride (goal.at.overflow_add-p c).After-pace-p)

pub loop-p-smaller : goal.loop-p-smaller
loop-p-smaller c = omega (arith, stride (goal.at.loop-p-smaller c).After-pace-p)

pub loop-p-preserved : goal.loop-p-preserved
loop-p-preserved c = (
  omega (arith, stride (goal.at.loop-p-preserved c).After-pace-p),
  step_on _ _ _ c.loop-p.p c.args.part.end (omega arith) c.loop-p.invariant.1 c.replaced_at-c.ensures c.pace-p.ensures c.emit-i.ensures.next c.emit-i.ensures.wrote,
)

pub returns : goal.returns
returns c =
    let both = going_end _ _ _ _ _ _ _ c.loop-p.invariant.1 (pieces_end _ _ _ c.loop-p.p c.args.part.end (omega arith)) in
    record { next = both.0; wrote = both.1 }
