-- `admissible`. By the two words and the end.
use mathlib.Core.Path.{sym, ap, ◌∙◌, subst}
use Prim.Native.Nat.{ℕ}
use native.Mathlib.Omega.{arith}
use Rattle.solver.specs.Families.{belongs}
use Rattle.solver.specs.Words.SessionRepresentation.{RequestWord, bit, request_in}
use Rattle.solver.specs.Words.MethodContract.{mask_in}
use Rattle.solver.proofs.Laws.Table.AdmitLaws.{admit_free, admit_default, admit_node, admit_other, admit_joins}
use Rattle.solver.proofs.families.admissible.Goals as goal

pub returns-in_default : goal.returns-in_default
returns-in_default c = λ t rs g h. admit_free rs _ g c.args.v t (sym c.in_default.ensures)

pub returns-in-Default : goal.returns-in-Default
returns-in-Default c =
    let w = c.get.ensures.value ∙ c.in-Some.ensures in
    λ t rs g h. admit_default rs _ g _ c.in-Default.b.code t _ (rw c.in-Default.is at h).1 (λ e. omega (arith, c.in-Some.word.ok, c.in-Some.ensures, e))
    (c.has.ensures ∙ ap (λ (m : ℕ). bit m c.in-Default.b.code) (c.family_mask.ensures ∙ ap mask_in w))

pub returns-then-tokens-q-ne1 : goal.returns-then-tokens-q-ne1
returns-then-tokens-q-ne1 c =
    let w = c.get-then-tokens-q-ne1.ensures.value ∙ c.in-Some.ensures in
    λ t rs g h.
    let at = rw c.in-At.is at h in
    admit_node _ _ _ rs _ g _ t _ at (λ e. omega (arith, c.in-Some.word.ok, c.in-Some.ensures, e)) c.if-tokens-q-ne1.true
    (λ W. c.in_family.ensures t (subst RequestWord (sym w) W) at ∙ ap (λ (n : ℕ). belongs (request_in n).family t) w)

pub returns-in_default-request : goal.returns-in_default-request
returns-in_default-request c =
    λ t rs g h. admit_other _ _ _ rs _ g _ t (rw c.in-At.is at h) c.if-tokens-q-ne1.false (sym c.in_default-request.ensures)

pub returns : goal.returns
returns c =
    let w = c.in-Some.ensures in
    let o = c.in-Some-request.ensures in
    λ t rs g h. admit_joins _ _ _ rs _ g _ t _ _ (rw c.in-At.is at h) c.if-tokens-q-ne1.false
    (λ e. omega (arith, c.in-Some.word.ok, w, e)) (λ e. omega (arith, c.in-Some-request.other.ok, o, e))
    (c.family_mask-2.ensures ∙ ap mask_in (c.get-2.ensures.value ∙ w)) (c.family_mask-3.ensures ∙ ap mask_in (c.get-3.ensures.value ∙ o))
