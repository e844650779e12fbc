-- `decompose_nodes`.
use mathlib.Core.Path.{sym, ◌∙◌}
use native.Mathlib.Omega.{arith}
use borrow.Author.Tests.{eq-eqb, ne_eqb}
use Rattle.solver.proofs.Laws.Checks.CheckContractLaws.{nodes_places, nodes_twins, apart_recovers, apart_projects, apart_unlike, apart_pushes}
use Rattle.solver.proofs.Solver.decompose_nodes.Goals.{then-tokens-a-eq20-via-then-tokens-a-eq20, then-tokens-a-eq20-via-else-tokens-a-eq20+then-not-same_shape}
use Rattle.solver.proofs.Solver.decompose_nodes.Goals as goal

pub bounds-tokens-a : goal.bounds-tokens-a
bounds-tokens-a c = (nodes_places c.requires.nodes.2).0

pub bounds-tokens-b : goal.bounds-tokens-b
bounds-tokens-b c = (nodes_places c.requires.nodes.2).1

pub returns-then-either_recovers : goal.returns-then-either_recovers
returns-then-either_recovers c = record {
  after = λ s t u ps ts L N W. rw c.checked.ensures (apart_recovers _ L N W (sym c.either_recovers.ensures ∙ c.if-either_recovers.true));
}

pub bounds-tokens-a-2 : goal.bounds-tokens-a-2
bounds-tokens-a-2 c = (nodes_places c.requires.nodes.2).0

pub same_shape-requires : goal.same_shape-requires
same_shape-requires c =
    let p = nodes_places c.requires.nodes.2 in
    (p.0, p.1, omega (arith, c.requires.room.1))

pub returns-then-tokens-a-eq20 : goal.returns-then-tokens-a-eq20
returns-then-tokens-a-eq20 c = record {
  after = λ s t u ps ts L N W.
      let r = sym c.either_recovers.ensures ∙ c.if-either_recovers.false in
      rw c.checked-then-tokens-a-eq20.ensures (elim c.then-tokens-a-eq20.branch [
        | then-tokens-a-eq20-via-then-tokens-a-eq20 w ↦ apart_projects _ L N W r (eq-eqb _ 20 w.if-tokens-a-eq20.true)
        | then-tokens-a-eq20-via-else-tokens-a-eq20+then-not-same_shape w ↦
            apart_unlike _ L N W r (ne_eqb _ 20 w.if-tokens-a-eq20.false) w.if-not-same_shape.true w.same_shape.ensures
      ]);
}

pub push_children-top-requires : goal.push_children-top-requires
push_children-top-requires c =
    let p = nodes_places c.requires.nodes.2 in
    record {
      areas = (p.0, p.1, c.requires.room.1);
      room = nodes_twins c.requires.nodes.2 _ c.if-not-same_shape.false c.same_shape.ensures c.requires.room.0;
    }

pub returns : goal.returns
returns c = record {
  after = λ s t u ps ts L N W. rw c.checked-2.ensures
      (apart_pushes _ L N W (sym c.either_recovers.ensures ∙ c.if-either_recovers.false) (ne_eqb _ 20 c.if-tokens-a-eq20.false)
      c.if-not-same_shape.false c.same_shape.ensures c.push_children-top.auto.pending c.push_children-top.ensures);
}
