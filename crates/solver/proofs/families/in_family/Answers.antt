-- `in_family`. By the two tokens of a builtin, and by the bit of its code.
use mathlib.Core.Path.{sym, ap, ◌∙◌}
use Prim.Native.Nat.{ℕ, ◌+◌}
use native.Mathlib.Omega.{arith}
use borrow.Author.Tests.{eqb-true, eqb-false, leb-false, ltb-false, ne_eqb}
use lib.ListN.{get_or}
use Rattle.terms.proofs.Laws.General.Bools.{never_true}
use Rattle.solver.specs.Words.SessionRepresentation.{bit}
use Rattle.solver.proofs.Laws.Table.AdmitLaws.{no_builtin, builtin_bit, builtin_high}
use Rattle.solver.proofs.families.in_family.Goals.{then-tokens-q-eq6, else-tokens-q-eq6, then-tokens-q-eq2, else-tokens-q-eq2, then-tokens-q-ge2, else-tokens-q-ge2, then-tokens-q-eq0, else-tokens-q-eq0}
use Rattle.solver.proofs.families.in_family.Goals as goal

pub returns-then-tokens-q-lt32 : goal.returns-then-tokens-q-lt32
returns-then-tokens-q-lt32 c =
    let a = c.args in
    λ t W h.
    elim c.if-tokens-q-eq0.branch [
      | then-tokens-q-eq0 w ↦
          elim c.if-tokens-q-ge2.branch [
            | then-tokens-q-ge2 v ↦
                elim c.if-tokens-q-eq2.branch [
                  | then-tokens-q-eq2 u ↦
                      elim c.if-tokens-q-eq6.branch [
                        | then-tokens-q-eq6 z ↦
                            c.has.ensures ∙ ap (λ (m : ℕ). bit m (get_or a.tokens.now.vals.now (a.q + 1) 0)) c.family_mask.ensures
                            ∙ builtin_bit _ _ _ _ W z.if-tokens-q-eq6.true (eqb-true _ _ (sym z.value-is ∙ u.if-tokens-q-eq2.true))
                            (eqb-true _ _ (sym v.value-is ∙ w.if-tokens-q-eq0.true)) t h
                        | else-tokens-q-eq6 z ↦ never_true (sym (z.value-is ∙ ne_eqb _ _ z.if-tokens-q-eq6.false) ∙ u.if-tokens-q-eq2.true)
                      ]
                  | else-tokens-q-eq2 u ↦ never_true (sym (u.value-is ∙ u.if-tokens-q-eq2.false) ∙ v.if-tokens-q-ge2.true)
                ]
            | else-tokens-q-ge2 v ↦ never_true (sym (v.value-is ∙ v.if-tokens-q-ge2.false) ∙ w.if-tokens-q-eq0.true)
          ]
      | else-tokens-q-eq0 w ↦ never_true (sym (w.value-is ∙ w.if-tokens-q-eq0.false) ∙ c.if-tokens-q-lt32.true)
    ]

pub returns-else-tokens-q-lt32 : goal.returns-else-tokens-q-lt32
returns-else-tokens-q-lt32 c =
    λ t W h.
    c.if-tokens-q-lt32.false ∙ elim c.if-tokens-q-eq0.branch [
      | then-tokens-q-eq0 w ↦
          elim c.if-tokens-q-ge2.branch [
            | then-tokens-q-ge2 v ↦
                elim c.if-tokens-q-eq2.branch [
                  | then-tokens-q-eq2 u ↦
                      elim c.if-tokens-q-eq6.branch [
                        | then-tokens-q-eq6 z ↦
                            builtin_high _ _ _ _ W z.if-tokens-q-eq6.true (eqb-true _ _ (sym z.value-is ∙ u.if-tokens-q-eq2.true))
                            (eqb-true _ _ (sym v.value-is ∙ w.if-tokens-q-eq0.true)) (omega (arith, ltb-false _ _ (sym w.value-is ∙ c.if-tokens-q-lt32.false))) t h
                        | else-tokens-q-eq6 z ↦ never_true (sym (z.value-is ∙ ne_eqb _ _ z.if-tokens-q-eq6.false) ∙ u.if-tokens-q-eq2.true)
                      ]
                  | else-tokens-q-eq2 u ↦ never_true (sym (u.value-is ∙ u.if-tokens-q-eq2.false) ∙ v.if-tokens-q-ge2.true)
                ]
            | else-tokens-q-ge2 v ↦ never_true (sym (v.value-is ∙ v.if-tokens-q-ge2.false) ∙ w.if-tokens-q-eq0.true)
          ]
      | else-tokens-q-eq0 w ↦
          elim c.if-tokens-q-ge2.branch [
            | then-tokens-q-ge2 v ↦ no_builtin _ _ _ _ (λ d b. eqb-false _ _ (sym v.value-is ∙ w.if-tokens-q-eq0.false) b.number) t h
            | else-tokens-q-ge2 v ↦
                elim c.if-tokens-q-eq2.branch [
                  | then-tokens-q-eq2 u ↦ no_builtin _ _ _ _ (λ d b. omega (arith, b.room, leb-false _ _ (sym u.value-is ∙ v.if-tokens-q-ge2.false))) t h
                  | else-tokens-q-eq2 u ↦
                      elim c.if-tokens-q-eq6.branch [
                        | then-tokens-q-eq6 z ↦ no_builtin _ _ _ _ (λ d b. eqb-false _ _ (sym z.value-is ∙ u.if-tokens-q-eq2.false) b.span) t h
                        | else-tokens-q-eq6 z ↦ no_builtin _ _ _ _ (λ d b. z.if-tokens-q-eq6.false b.head) t h
                      ]
                ]
          ]
    ]
