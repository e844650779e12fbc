-- `enter`. By the token's kind and the variable's word.
use mathlib.Core.Path.{refl, sym, ap, ◌∙◌}
use native.Mathlib.Omega.{arith}
use lib.ListN.{get_or, get_or-eq_default}
use Rattle.solver.specs.Words.ResolveWalk.{run_len}
use Rattle.solver.proofs.Laws.Resolving.FrameLaws.{run_none, inner_var, inner_other}
use Rattle.solver.proofs.resolving.enter.Goals.{then-tokens-p-ne1-via-then-tokens-p-ne1, then-tokens-p-ne1-via-else-tokens-p-ne1+then-left-eq0}
use Rattle.solver.proofs.resolving.enter.Goals as goal

pub returns-then-tokens-p-ne1-clause-entered : goal.returns-then-tokens-p-ne1-clause-entered
returns-then-tokens-p-ne1-clause-entered c =
    let a = c.args in
    record {
      shut = λ _. refl;
      size = λ h. elim c.then-tokens-p-ne1.branch [
        | then-tokens-p-ne1-via-else-tokens-p-ne1+then-left-eq0 w ↦ absurd (omega (arith, h, w.if-left-eq0.true))
        | then-tokens-p-ne1-via-then-tokens-p-ne1 w ↦ sym (inner_other a.tokens.now.kinds.now a.tokens.now.vals.now a.bound.now (get_or a.tokens.now.kinds.now a.p 0) (get_or a.tokens.now.vals.now a.p 0) w.if-tokens-p-ne1.true)
      ];
      place = omega arith;
      within = omega arith;
    }

pub returns-in_err-word-clause-entered : goal.returns-in_err-word-clause-entered
returns-in_err-word-clause-entered c =
    let a = c.args in
    let l = (c.in_err-word.ensures {u = tt}).lookup in
    let z = get_or-eq_default a.bound.now 0 {n = get_or a.tokens.now.vals.now a.p 0} l.3 in
    rw c.from_residual.ensures (record {
      shut = λ _. refl;
      size = λ _. sym (inner_var a.tokens.now.kinds.now a.tokens.now.vals.now a.bound.now (get_or a.tokens.now.kinds.now a.p 0) (get_or a.tokens.now.vals.now a.p 0) (omega arith)
          ∙ ap (run_len a.tokens.now.kinds.now a.tokens.now.vals.now) z ∙ run_none a.tokens.now.kinds.now a.tokens.now.vals.now);
      place = omega arith;
      within = omega arith;
    })

pub returns-clause-entered : goal.returns-clause-entered
returns-clause-entered c =
    let a = c.args in
    let b = rw ((c.in_ok-word.ensures {u = tt}).lookup.3.1 0) at c.named_run.ensures.named in
    record {
      shut = λ z. absurd (omega (arith, c.if-left-eq0.false));
      size = λ _. b.size ∙ sym (inner_var a.tokens.now.kinds.now a.tokens.now.vals.now a.bound.now (get_or a.tokens.now.kinds.now a.p 0) (get_or a.tokens.now.vals.now a.p 0) (omega arith));
      place = b.place;
      within = b.within;
    }
