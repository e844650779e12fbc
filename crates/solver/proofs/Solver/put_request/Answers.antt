-- `Solver::put_request`. By whether a chain ends at the variable, and whether another one does.
use mathlib.Core.Path.{refl, sym, ◌∙◌}
use Prim.Native.Nat.{◌+◌, ◌<◌}
use native.Mathlib.Omega.{arith}
use Rattle.solver.specs.Session.{issued}
use Rattle.solver.specs.Words.TableLayout.{requests_from, tails_from}
use Rattle.solver.proofs.Laws.Table.MethodLaws.{near_set, near_same, near_tails, near_then, beside_same, beside_set, beside_near}
use Rattle.solver.proofs.Laws.Table.ChainTableLaws.{put_bound, put_same, put_alone, put_shared}
use Rattle.solver.proofs.Solver.put_request.Goals.{then-own-ge-SHARED, else-own-ge-SHARED}
use Rattle.solver.proofs.Solver.put_request.Goals as goal

pub returns-then-not-tail_names-clause-held : goal.returns-then-not-tail_names-clause-held
returns-then-not-tail_names-clause-held c =
    let a = c.args in
    λ ks vs s W C L. put_bound a.self ks vs a.tables.now s L C a.v a.word (omega (arith, c.requires.1, L.issued)) W (sym c.tail_names.ensures ∙ c.if-not-tail_names.true)

pub returns-then-own-tail-clause-held : goal.returns-then-own-tail-clause-held
returns-then-own-tail-clause-held c =
    let a = c.args in
    λ ks vs s W C L.
    put_same a.self ks vs a.tables.now s L C a.v a.word (omega (arith, c.requires.1, L.issued)) W (sym c.tail_names.ensures ∙ c.if-not-tail_names.false) (rw c.family_mask.ensures at c.if-own-tail.true)

pub returns-clause-held : goal.returns-clause-held
returns-clause-held c =
    let a = c.args in
    let e = sym c.tail_names.ensures ∙ c.if-not-tail_names.false in
    λ ks vs s W C L.
    let low : a.v < issued s = omega (arith, c.requires.1, L.issued) in
    rw c.family_mask.ensures (elim c.if-own-ge-SHARED.branch [
      | then-own-ge-SHARED w ↦ rw w.tables-is (put_shared a.self ks vs a.tables.now s L C a.v a.word low W e _ (rw c.family_mask.ensures at w.set_tails.ensures))
      | else-own-ge-SHARED w ↦ rw w.tables-is (put_alone a.self ks vs a.tables.now s L C a.v a.word low W e w.if-own-ge-SHARED.false)
    ])

pub returns-clause-beside : goal.returns-clause-beside
returns-clause-beside c =
    let a = c.args in
    let m = a.self.variables in
    let B = beside_set a.self a.self a.tables.now a.tables.now (requests_from m + a.v) a.word (beside_same a.self a.tables.now) (omega (arith, c.requires.0.issued, c.requires.1)) in
    elim c.if-own-ge-SHARED.branch [
      | then-own-ge-SHARED w ↦ rw w.tables-is (beside_near B (near_then (near_tails w.set_tails.ensures) (near_set m _ (tails_from m + a.v) _ (omega arith) (omega (arith, c.requires.0.issued, c.requires.1)))))
      | else-own-ge-SHARED w ↦ rw w.tables-is (beside_near B (near_set m _ (tails_from m + a.v) _ (omega arith) (omega (arith, c.requires.0.issued, c.requires.1))))
    ]
