use Rattle.terms.proofs.Laws.General.Options.{sub_step}
use Rattle.terms.proofs.Laws.Replacing.FindLaws.{nth_told, nth_out, nth_more}
use mathlib.Core.Path.{◌≡◌, ap, ◌∙◌}
use Prim.Native.Nat.{ℕ, ◌+◌, ◌-◌}
use native.Mathlib.Omega.{arith}
use Rattle.terms.specs.Words.FindContract.{nth_at}
use Rattle.terms.proofs.find.nth_term.Goals as goal

pub returns-then-tokens-i : goal.returns-then-tokens-i
returns-then-tokens-i c = nth_out _ _ _ _ c.if-tokens-i.true ∙ c.loop.invariant

pub loop-preserved : goal.loop-preserved
loop-preserved c =
    let a = c.args in
    let l = c.loop in
    rw (sub_step a.n l.counter) (ap (λ (x : ℕ). nth_at a.tokens.now.kinds.now a.tokens.now.vals.now (a.n - l.counter - 1) (l.i + x)) c.width_at-i.ensures.is ∙ nth_more a.tokens.now.kinds.now a.tokens.now.vals.now (a.n - l.counter) l.i (omega arith) c.if-tokens-i.false ∙ l.invariant)

pub returns : goal.returns
returns c =
    let a = c.args in
    let l = c.loop in
    let over : a.n - l.counter ≡ 0 = omega arith in
    c.then_some.ensures ∙ nth_told a.tokens.now.kinds.now a.tokens.now.vals.now l.i ∙ (rw over at l.invariant)
