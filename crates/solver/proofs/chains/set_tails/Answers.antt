-- `set_tails`.
use mathlib.Core.Path.{sym, ◌∙◌}
use native.Mathlib.Omega.{arith}
use Rattle.solver.proofs.Laws.Table.ChainWordLaws.{tails_start, tails_named, tails_other}
use Rattle.solver.proofs.chains.set_tails.Goals.{then-tail_names, else-tail_names}
use Rattle.solver.proofs.chains.set_tails.Goals as goal

pub loop-u-init : goal.loop-u-init
loop-u-init c = tails_start

pub loop-u-preserved : goal.loop-u-preserved
loop-u-preserved c =
    let l = c.loop-u in
    let e = sym c.tail_names.ensures in
    elim c.if-tail_names.branch [
      | then-tail_names w ↦ rw w.tables-is (tails_named (omega arith) c.requires.3 l.invariant (e ∙ w.if-tail_names.true))
      | else-tail_names w ↦ rw w.tables-is (tails_other (omega arith) c.requires.3 l.invariant (e ∙ w.if-tail_names.false))
    ]
