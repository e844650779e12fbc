use Rattle.terms.proofs.Laws.General.Bools.{or-true, or_right, never_true}
use mathlib.Core.Path.{refl, sym, ap, ◌∙◌}
use mathlib.Core.Bool.{Bool, ◌||◌}
use Prim.Native.Nat.{suc, ◌+◌}
use native.Mathlib.Omega.{arith}
use lib.ListN.{get_or}
use Rattle.terms.specs.Words.Tokens.{toks}
use Rattle.solver.specs.Words.ReachContract.{question_of, counts, has}
use Rattle.solver.proofs.Laws.Resolving.WorklistLaws.{grown_none, grown_then}
use Rattle.solver.proofs.Laws.Resolving.AskLaws.{has_snoc, has_start}
use Rattle.solver.proofs.Laws.Theory.TheoryView.{either}
use Rattle.solver.proofs.reach.scan.Goals as goal

pub loop-i-init : goal.loop-i-init
loop-i-init c = (
  omega arith,
  sym (has_start (question_of c.args.want) c.args.tokens.now.kinds.now c.args.tokens.now.vals.now c.args.run.at),
  grown_none c.requires.work.0 _ (λ u l i. never_true (sym (has_start (suc u) c.args.tokens.now.kinds.now c.args.tokens.now.vals.now c.args.run.at) ∙ i)),
  refl,
  refl,
)

pub loop-i-preserved : goal.loop-i-preserved
loop-i-preserved c =
    let l = c.loop-i in
    let m = c.push in
    let ks = c.args.tokens.now.kinds.now in
    let vs = c.args.tokens.now.vals.now in
    let a = c.args.run.at in (
      omega arith,
      ap (λ (b : Bool). l.hit || b) c.is_met-hit.ensures ∙ ap (λ (b : Bool). b || counts (question_of c.args.want) (get_or ks (a + l.i) 0) (get_or vs (a + l.i) 0)) l.invariant.1 ∙ sym (has_snoc (question_of c.args.want) ks vs a l.i),
      grown_then _ _ _ l.invariant.2 m.ensures m.auto.marks
          (λ u r. either (has (suc u) (toks ks vs a l.i)) (counts (suc u) (get_or ks (a + l.i) 0) (get_or vs (a + l.i) 0)) (sym (has_snoc (suc u) ks vs a l.i) ∙ r))
          (λ u p. has_snoc (suc u) ks vs a l.i ∙ or-true (has (suc u) (toks ks vs a l.i)) (counts (suc u) (get_or ks (a + l.i) 0) (get_or vs (a + l.i) 0)) p)
          (λ u p. has_snoc (suc u) ks vs a l.i ∙ or_right (has (suc u) (toks ks vs a l.i)) (counts (suc u) (get_or ks (a + l.i) 0) (get_or vs (a + l.i) 0)) p),
      m.auto.marks ∙ l.invariant.3,
      m.auto.queue ∙ l.invariant.4,
    )
