-- `emit`: the token, the term chosen, or Unknown.
use mathlib.Core.Path.{◌≡◌, refl, ap, ◌∙◌}
use mathlib.Core.List.{List, [], ◌∷◌}
use Prim.Native.Nat.{ℕ, ◌+◌}
use lib.ListN.{length}
use lib.Seq.{sets}
use native.Mathlib.Omega.{arith}
use Rattle.terms.specs.Words.ShowingContract.{writes}
use Rattle.terms.proofs.Laws.Replacing.RewriteLaws.{pick_yes, pick_no, keep_piece, by_piece, unknown_piece, retold, respaced}
use Rattle.terms.proofs.rewrite.emit.Goals as goal
use Rattle.terms.proofs.rewrite.emit.Goals.{in-Count, in-Write}

pub emit_run-requires-clause-space : goal.emit_run-requires-clause-space
emit_run-requires-clause-space c =
    let a = c.args in
    respaced _ a.out.now _ _ _ (keep_piece _ _ _ _ c.in-Keep.is) _ c.requires.space

pub emit_run-requires-in-By-clause-space : goal.emit_run-requires-in-By-clause-space
emit_run-requires-in-By-clause-space c =
    let a = c.args in
    respaced _ a.out.now _ _ _ (by_piece _ _ _ _ _ _ c.in-By.is c.term_part.ensures.part.0 c.term_part.ensures.ends) _ c.requires.space

pub bounds-out-i : goal.bounds-out-i
bounds-out-i c =
    let a = c.args in
    let h = respaced _ a.out.now _ _ _ (unknown_piece _ _ _ _ c.in-Unknown.is) _ c.requires.space in
    omega (arith, h.fits (ap writes c.in-Write.is))

pub overflow_add-result : goal.overflow_add-result
overflow_add-result c =
    let a = c.args in
    let h = respaced _ a.out.now _ _ _ (unknown_piece _ _ _ _ c.in-Unknown.is) _ c.requires.space in
    omega (arith, h.counts)

pub returns-after-pass-clause-next : goal.returns-after-pass-clause-next
returns-after-pass-clause-next c =
    let a = c.args in
    ap (λ (x : List ℕ). a.i + length x) (unknown_piece a.tokens.now.kinds.now a.tokens.now.vals.now a.p a.c c.in-Unknown.is)

pub returns-after-pass-clause-wrote : goal.returns-after-pass-clause-wrote
returns-after-pass-clause-wrote c =
    let a = c.args in
    let told = λ (e : c.match-pass.out ≡ _). (retold (writes a.pass) a.out.now a.i _ _ (unknown_piece a.tokens.now.kinds.now a.tokens.now.vals.now a.p a.c c.in-Unknown.is) _ _ refl e).1 in
    elim c.match-pass.branch [
      | in-Count w ↦ told (w.out-is ∙ pick_no (writes a.pass) (sets a.out.now a.i (2 ∷ [])) a.out.now (ap writes w.in-Count.is))
      | in-Write w ↦ told (w.out-is ∙ pick_yes (writes a.pass) (sets a.out.now a.i (2 ∷ [])) a.out.now (ap writes w.in-Write.is))
    ]

pub returns-in-Keep : goal.returns-in-Keep
returns-in-Keep c =
    let a = c.args in
    let both = retold (writes a.pass) a.out.now a.i _ _ (keep_piece a.tokens.now.kinds.now a.tokens.now.vals.now a.p a.c c.in-Keep.is)
    _ _ c.emit_run.ensures.next c.emit_run.ensures.wrote in
    record { next = both.0; wrote = both.1 }

pub returns-in-By : goal.returns-in-By
returns-in-By c =
    let a = c.args in
    let both = retold (writes a.pass) a.out.now a.i _ _ (by_piece a.tokens.now.kinds.now a.tokens.now.vals.now a.p a.c _ _ c.in-By.is c.term_part.ensures.part.0 c.term_part.ensures.ends)
    _ _ c.emit_run-in-By.ensures.next c.emit_run-in-By.ensures.wrote in
    record { next = both.0; wrote = both.1 }
