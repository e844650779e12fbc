-- `read_number`: a number of one group, and any other by its groups.
use native.Mathlib.Omega.{arith}
use mathlib.Core.Path.{◌≡◌, refl, sym, ◌∙◌}
use mathlib.Core.List.{◌∷◌}
use Prim.Native.Nat.{◌+◌}
use lib.ListN.{drop}
use Rattle.terms.specs.Number.{groups, number}
use Rattle.terms.proofs.Laws.General.Options.{handed_on}
use Rattle.terms.proofs.Laws.Numbers.NumberStepLaws.{step_over, one_group, at_byte, at-end}
use Rattle.terms.proofs.numbers.read_number.Goals as goal
use Rattle.terms.proofs.numbers.read_number.Goals.{After-from-b}

-- the number, with the byte that was read in front
byte-here : (c : After-from-b) →
    let a = c.args in
    groups a.most 0 1 a.at (c.from-b.result ∷ drop (a.at + 1) a.s.now) ≡ number a.most a.s.now a.at
byte-here c =
    let b = c.in_ok-byte_at.ensures {u = tt} in
    rw (c.from-b.ensures, b.1, ← at_byte _ _ b.0) refl

pub returns-in_err-byte_at : goal.returns-in_err-byte_at
returns-in_err-byte_at c =
    let e = c.in_err-byte_at.ensures {u = tt} in
    rw (handed_on _ _ c.from_residual.ensures.1, e.1) (sym (at-end _ _ _ _ _ e.0))

pub returns-then-most-b : goal.returns-then-most-b
returns-then-most-b c =
    let a = c.args in
    sym (step_over a.most 0 1 a.at c.from-b.result _ (omega (arith, c.if-most-b.true))) ∙ byte-here (goal.at.returns-then-most-b c).After-from-b

pub returns : goal.returns
returns c =
    let a = c.args in
    sym (one_group a.most a.at c.from-b.result _ c.if-most-b.false c.if-b-ge128.false) ∙ byte-here (goal.at.returns c).After-from-b
