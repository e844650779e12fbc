-- `write_builtin`: the two bytes.
use mathlib.Core.Path.{ap}
use native.Mathlib.Numerals.{add-one}
use native.Mathlib.Omega.{arith}
use lib.ListN.{set}
use Prim.Native.Nat.{ℕ}
use Rattle.solver.proofs.Laws.Resolving.ResolvedLaws.{builtin_bytes}
use Rattle.solver.proofs.resolving.write_builtin.Goals as goal

pub returns-clause-wrote : goal.returns-clause-wrote
returns-clause-wrote c =
    let a = c.args in
    rw (builtin_bytes a.b.code (omega (arith, a.b.listed))) (ap (λ (i : ℕ). set (set a.out.now a.to 4) i a.b.code) (add-one a.to))
