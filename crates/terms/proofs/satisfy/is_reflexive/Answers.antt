-- `is_reflexive`: the tag, the receiver, the interface, and what follows it.
use native.Mathlib.Omega.{arith}
use mathlib.Core.Path.{sym, ◌∙◌}
use borrow.Author.Tests.{ne_eqb}
use Rattle.terms.proofs.Laws.Held.HeldLaws.{held_first, items_some}
use Rattle.terms.proofs.Laws.Held.NominalLaws.{called, projected_at, not_projected, receiver_held, interface_laid, called_words}
use Rattle.terms.proofs.Laws.Asking.BoundLaws.{other_receiver, not_satisfied, other_member, by_arguments}
use Rattle.terms.proofs.satisfy.is_reflexive.Goals.{then-tokens-t-ne20-via-then-tokens-t-ne20, then-tokens-t-ne20-via-else-tokens-t-ne20+then-tokens-t, then-tokens-t-ne20-via-else-tokens-t-ne20+else-tokens-t+then-not-same_term}
use Rattle.terms.proofs.satisfy.is_reflexive.Goals as goal

pub returns-then-tokens-t-ne20 : goal.returns-then-tokens-t-ne20
returns-then-tokens-t-ne20 c =
    λ d n rest w u x hw hu f.
    elim c.then-tokens-t-ne20.branch [
      | then-tokens-t-ne20-via-then-tokens-t-ne20 v ↦ sym (not_projected n w _ u (λ e. v.if-tokens-t-ne20.true ((held_first _ _ _ u hu).0 ∙ e)))
      | then-tokens-t-ne20-via-else-tokens-t-ne20+then-tokens-t v ↦
          let y = projected_at hu f v.if-tokens-t-ne20.false in
          absurd (omega (arith, (receiver_held hu y).within, items_some y.receiver, v.if-tokens-t.true))
      | then-tokens-t-ne20-via-else-tokens-t-ne20+else-tokens-t+then-not-same_term v ↦
          let y = projected_at hu f v.if-tokens-t-ne20.false in
          other_receiver n w _ y (v.same_term.ensures y.receiver w (receiver_held hu y) hw) v.if-not-same_term.true-raw
    ]

pub returns-then-word-member : goal.returns-then-word-member
returns-then-word-member c =
    λ d n rest w u x hw hu f.
    let y = projected_at hu f c.if-tokens-t-ne20.false in
    let h = receiver_held hu y in
    let l = interface_laid hu y (c.term_part-interface.ensures.term y.receiver h) f in
    let g = rw c.in-Some.is at (c.satisfies_row.ensures.satisfied d n rest l.0 y.interface (called y.member y.arguments) x l.1) in
    let v = called_words y.member y.arguments g.1 in
    by_arguments n w _ y (c.same_term.ensures y.receiver w h hw) c.if-not-same_term.false-raw g.0 (sym v.0 ∙ sym c.word.ensures ∙ c.if-word-member.true)
    (c.word-then-word-member.ensures ∙ v.1)

pub returns-else-word-member : goal.returns-else-word-member
returns-else-word-member c =
    λ d n rest w u x hw hu f.
    let y = projected_at hu f c.if-tokens-t-ne20.false in
    let l = interface_laid hu y (c.term_part-interface.ensures.term y.receiver (receiver_held hu y)) f in
    let g = rw c.in-Some.is at (c.satisfies_row.ensures.satisfied d n rest l.0 y.interface (called y.member y.arguments) x l.1) in
    let v = called_words y.member y.arguments g.1 in
    ne_eqb _ _ c.if-word-member.false ∙ other_member n w _ y (λ e. c.if-word-member.false (c.word.ensures ∙ v.0 ∙ e))

pub returns-in_default : goal.returns-in_default
returns-in_default c =
    λ d n rest w u x hw hu f.
    let y = projected_at hu f c.if-tokens-t-ne20.false in
    let l = interface_laid hu y (c.term_part-interface.ensures.term y.receiver (receiver_held hu y)) f in
    not_satisfied n w _ y (rw c.in_default.is at (c.satisfies_row.ensures.satisfied d n rest l.0 y.interface (called y.member y.arguments) x l.1))
