use Rattle.terms.proofs.Laws.Replacing.FindLaws.{search_end, search_more}
use mathlib.Core.Bool.{Bool}
use mathlib.Core.Path.{◌≡◌, ap, ◌∙◌}
use Prim.Native.Nat.{ℕ, ◌+◌}
use native.Mathlib.Omega.{arith}
use Rattle.std.specs.Prelude.{Some}
use Rattle.terms.specs.Result.{pick}
use Rattle.terms.proofs.find.find_record.Goals as goal
use Rattle.terms.proofs.find.find_record.Goals.{then-eq, else-eq}

pub returns-then-row-i : goal.returns-then-row-i
returns-then-row-i c = search_end _ _ _ _ _ (omega arith) _ _ _ c.if-row-i.true ∙ c.loop-i.invariant

pub loop-i-preserved : goal.loop-i-preserved
loop-i-preserved c =
    let a = c.args in
    let l = c.loop-i in
    let more = λ (better : c.if-eq.best ≡ _). search_more a.tokens.now.kinds.now a.tokens.now.vals.now a.width a.wanted.owner a.wanted.position (omega arith) l.i a.row.end l.best (omega arith) c.if-eq.best better _ (ap (λ (x : ℕ). l.i + a.width + x) c.skip.ensures.is) in
    let told = λ (same : Bool). pick same (Some (l.i + a.width)) l.best in
    elim c.if-eq.branch [
      | then-eq w ↦ more (w.best-is ∙ ap told (rw c.of_words-here.ensures at (w.if-eq.ensures {u = tt}))) ∙ l.invariant
      | else-eq w ↦ more (w.best-is ∙ ap told (rw c.of_words-here.ensures at (w.if-eq.ensures {u = tt}))) ∙ l.invariant
    ]

pub returns : goal.returns
returns c = search_end _ _ _ _ _ (omega arith) _ _ _ (omega arith) ∙ c.loop-i.invariant
