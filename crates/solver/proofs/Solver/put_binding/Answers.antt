-- `Solver::put_binding`. By what the end is.
use mathlib.Core.Path.{◌≡◌, refl, sym, ap, subst, ◌∙◌}
use Prim.Native.Nat.{ℕ, ◌+◌, ◌<◌}
use native.Mathlib.Omega.{arith}
use Rattle.std.specs.Prelude.{Some, None}
use Rattle.terms.specs.Term.{Term}
use Rattle.solver.specs.Session.{issued}
use Rattle.solver.specs.Words.ConstrainContract.{Within}
use Rattle.solver.specs.Words.MethodContract.{Beside}
use Rattle.solver.specs.Words.TableLayout.{tails_from}
use Rattle.solver.specs.Words.ChainWords.{Near}
use Rattle.solver.proofs.Laws.Definition.SolverInvariantLaws.{var_within}
use Rattle.solver.proofs.Laws.Resolving.ChainEndLaws.{variable_told}
use Rattle.solver.proofs.Laws.Resolving.ChainEndLaws.{end_word_held}
use Rattle.solver.proofs.Laws.Table.MethodLaws.{near_set, near_then, near_moved, beside_set, beside_near}
use Rattle.solver.proofs.Laws.Table.ChainTableLaws.{moves_own, moves_alone, put_node, put_variable}
use Rattle.solver.proofs.Solver.put_binding.Goals.{in-Some, in_default, in_default-via-in-Some+else-w-n, in_default-via-in_default}
use Rattle.solver.proofs.Solver.put_binding.Goals as goal

pub returns-clause-held : goal.returns-clause-held
returns-clause-held c =
    let a = c.args in
    λ s t L C p h l w.
    let low : a.v < issued s = omega (arith, c.requires.shape.1, L.issued) in
    let H = end_word_held _ _ t a.q h in
    let told = c.variable_of.ensures t h in
    let o = moves_own a.self _ _ a.tables.now s L C a.v _ t p l low H in
    let f = moves_alone a.self _ _ a.tables.now s L C a.v _ t p l low H in
    rw c.word-word.ensures (elim c.match-variable_of.branch [
      | in-Some b ↦
          rw b.tables-is (put_variable a.self _ _ a.tables.now s L C a.v _ t p l low H _ refl refl refl refl refl refl b.in-Some.w (sym b.in-Some.is ∙ told) (omega (arith, b.if-w-n.true, L.issued)) _ (rw c.word-word.ensures at b.move_ends.ensures.moved o f))
      | in_default b ↦
          rw b.tables-is (put_node a.self _ _ a.tables.now s L C a.v _ t p l low H _ refl refl refl refl refl refl (elim b.in_default.branch [
            | in_default-via-in-Some+else-w-n d ↦
                let v = variable_told t d.in-Some.w (sym told ∙ d.in-Some.is) in
                let k = var_within (issued s) d.in-Some.w (subst (λ (y : Term). Within (issued s) y) v w) in
                absurd (omega (arith, k, L.issued, d.if-w-n.false))
            | in_default-via-in_default d ↦ sym d.in_default.is ∙ told
          ]) _ (rw c.word-word.ensures at b.move_ends-in_default.ensures.moved o f))
    ])

pub returns-clause-beside : goal.returns-clause-beside
returns-clause-beside c =
    let a = c.args in
    let m = a.self.variables in
    let N : Near m a.tables.now c.match-variable_of.tables
    = elim c.match-variable_of.branch [
      | in-Some b ↦ rw b.tables-is (near_then b.move_ends.ensures.near (near_set m _ (tails_from m + b.in-Some.w) _ (omega arith) (omega (arith, b.if-w-n.true, c.requires.shape.0.issued))))
      | in_default b ↦ rw b.tables-is b.move_ends-in_default.ensures.near
    ] in
    beside_set a.self _ a.tables.now _ a.v _ (beside_near (record { variables = refl; nodes = refl; top = refl; size = refl; rest = refl }) N) (omega (arith, c.requires.shape.0.issued, c.requires.shape.1))
