-- `named_run`. A word 0 names none.
use mathlib.Core.Path.{◌≡◌, sym, ap, ◌∙◌}
use native.Mathlib.Omega.{arith}
use Rattle.solver.specs.Words.ResolveWalk.{run_len}
use Rattle.solver.proofs.Laws.Resolving.FrameLaws.{run_none}
use Rattle.solver.proofs.resolving.named_run.Goals as goal

pub returns-in_err-checked_sub-clause-named : goal.returns-in_err-checked_sub-clause-named
returns-in_err-checked_sub-clause-named c =
    let t = c.args.tokens.now in
    let z : c.args.word ≡ 0 = omega (arith, rw c.in_err-checked_sub.was at c.checked_sub.ensures) in
    rw c.from_residual.ensures (record { size = sym (ap (run_len t.kinds.now t.vals.now) z ∙ run_none t.kinds.now t.vals.now); place = omega arith; within = omega arith })
