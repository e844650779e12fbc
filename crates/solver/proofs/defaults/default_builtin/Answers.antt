-- `default_builtin`. By whether a range took part, and by the bit of the fallback.
use mathlib.Core.Path.{sym, ap, ap₂, ◌∙◌}
use Prim.Native.Nat.{ℕ, ◌-◌, ◌%◌}
use Rattle.std.specs.Int.NonZero.{non_zero_u32_get}
use Rattle.solver.specs.Words.SessionRepresentation.{bit}
use Rattle.solver.specs.Words.MethodContract.{mask_in}
use Rattle.solver.proofs.Laws.Table.RequestWordLaws.{at_end, taken_plain, taken_fallback, taken_first}
use Rattle.solver.proofs.defaults.default_builtin.Goals as goal

pub returns-then-get-lt64 : goal.returns-then-get-lt64
returns-then-get-lt64 c =
    let a = c.args in
    let l = rw (c.get-2.ensures.value, c.get-3.ensures.value, c.unwrap_or-end.ensures) at c.if-get-lt64.true in
    λ o W h. rw c.get.ensures.value (taken_plain _ _ o W (at_end a.own a.last o W h) l)

pub returns-then-has : goal.returns-then-has
returns-then-has c =
    let a = c.args in
    let l = rw (c.get-2.ensures.value, c.get-3.ensures.value, c.unwrap_or-end.ensures) at c.if-get-lt64.false in
    let m = c.family_mask-mask.ensures ∙ ap mask_in (c.get-4.ensures.value ∙ ap non_zero_u32_get c.unwrap_or-end.ensures) in
    let b = ap₂ (λ (k w : ℕ). bit k ((w - 1) % 32)) (sym m) (sym c.get.ensures.value) ∙ sym c.has.ensures ∙ c.if-has.true in
    λ o W h. rw c.get.ensures.value (taken_fallback _ _ o W (at_end a.own a.last o W h) l b)

pub returns : goal.returns
returns c =
    let a = c.args in
    let l = rw (c.get-2.ensures.value, c.get-3.ensures.value, c.unwrap_or-end.ensures) at c.if-get-lt64.false in
    let m = c.family_mask-mask.ensures ∙ ap mask_in (c.get-4.ensures.value ∙ ap non_zero_u32_get c.unwrap_or-end.ensures) in
    let b = ap₂ (λ (k w : ℕ). bit k ((w - 1) % 32)) (sym m) (sym c.get.ensures.value) ∙ sym c.has.ensures ∙ c.if-has.false in
    let f = rw c.get.ensures.value at c.first_of.ensures in
    λ o W h. taken_first _ _ o W (at_end a.own a.last o W h) _ l b (λ g k. f g (λ d. k d ∙ ap (λ (n : ℕ). bit n d) (sym m)))
