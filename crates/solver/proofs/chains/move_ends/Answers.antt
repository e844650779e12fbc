-- `move_ends`.
use Prim.Native.Nat.{◌+◌}
use native.Mathlib.Omega.{arith}
use Rattle.solver.specs.Words.TableLayout.{ends_from, tails_from}
use Rattle.solver.proofs.Laws.Table.ChainWordLaws.{chains_alone}
use Rattle.solver.proofs.Laws.Table.MethodLaws.{near_then, near_set, near_moved}
use Rattle.solver.proofs.chains.move_ends.Goals as goal

pub returns-then-tables-m-ge-SHARED-clause-near : goal.returns-then-tables-m-ge-SHARED-clause-near
returns-then-tables-m-ge-SHARED-clause-near c = near_moved c.move_chains.ensures

pub returns-else-tables-m-ge-SHARED-clause-moved : goal.returns-else-tables-m-ge-SHARED-clause-moved
returns-else-tables-m-ge-SHARED-clause-moved c = λ own only. chains_alone c.requires.2 c.requires.0 c.requires.3 own (only (omega arith))

pub returns-else-tables-m-ge-SHARED-clause-near : goal.returns-else-tables-m-ge-SHARED-clause-near
returns-else-tables-m-ge-SHARED-clause-near c =
    let a = c.args in
    near_then (near_set a.m _ (ends_from a.m + a.v) _ (omega arith) (omega (arith, c.requires))) (near_set a.m _ (tails_from a.m + a.v) _ (omega arith) (omega (arith, c.requires)))
