-- `run_at`. By the place and the span.
use mathlib.Core.Path.{sym, ◌∙◌}
use Prim.Native.Nat.{◌+◌}
use native.Mathlib.Omega.{arith}
use lib.ListN.{get_or, get_or-eq_default}
use Rattle.terms.proofs.Laws.Held.HeldLaws.{span_one}
use Rattle.solver.proofs.Laws.Resolving.FrameLaws.{run_at, run_past}
use Rattle.solver.proofs.resolving.run_at.Goals.{then-len-eq0-via-then-len-eq0, then-len-eq0-via-else-len-eq0+then-tokens-at-2}
use Rattle.solver.proofs.resolving.run_at.Goals as goal

pub returns-then-tokens-at-clause-named : goal.returns-then-tokens-at-clause-named
returns-then-tokens-at-clause-named c =
    let t = c.args.tokens.now in
    let p = c.args.at in
    let z = get_or-eq_default t.kinds.now 0 {n = p} c.if-tokens-at.true in
    record {
      size = sym (run_past t.kinds.now t.vals.now (c.args.at + 1) p (omega arith) (omega (arith, span_one (get_or t.kinds.now p 0) (get_or t.vals.now p 0) (omega arith))));
      place = omega arith;
      within = omega arith;
    }

pub returns-then-len-eq0-clause-named : goal.returns-then-len-eq0-clause-named
returns-then-len-eq0-clause-named c =
    let t = c.args.tokens.now in
    let p = c.args.at in
    let s = c.span-len.ensures in
    record {
      size = elim c.then-len-eq0.branch [
        | then-len-eq0-via-then-len-eq0 w ↦ sym (run_at t.kinds.now t.vals.now (c.args.at + 1) p (omega arith) (omega arith) ∙ sym s ∙ w.if-len-eq0.true)
        | then-len-eq0-via-else-len-eq0+then-tokens-at-2 w ↦ sym (run_past t.kinds.now t.vals.now (c.args.at + 1) p (omega arith) (omega arith))
      ];
      place = omega arith;
      within = omega arith;
    }

pub returns-clause-named : goal.returns-clause-named
returns-clause-named c =
    let t = c.args.tokens.now in
    record {
      size = c.span-len.ensures ∙ sym (run_at t.kinds.now t.vals.now (c.args.at + 1) (c.args.at) (omega arith) (omega arith));
      place = λ _. omega arith;
      within = omega arith;
    }
