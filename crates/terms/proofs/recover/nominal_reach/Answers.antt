-- `nominal_reach`: the declaration, the count of arguments, and the members.
use native.Mathlib.Omega.{arith}
use Rattle.terms.proofs.Laws.Replacing.RecoverLaws.{nominal_at, declarations_differ, counts_differ, members_same, members_differ}
use Rattle.terms.proofs.recover.nominal_reach.Goals.{then-word_at-via-then-word_at, then-word_at-via-else-word_at+then-n-word_at, then-word_at-via-else-word_at+else-n-word_at+then-a-lt3, then-word_at-via-else-word_at+else-n-word_at+else-a-lt3+then-b-lt3}
use Rattle.terms.proofs.recover.nominal_reach.Goals as goal

pub returns-then-word_at-clause-reached : goal.returns-then-word_at-clause-reached
returns-then-word_at-clause-reached c =
    λ k j ps qs d e hp hq f g.
    let a = nominal_at hp d f in
    let b = nominal_at hq e g in
    elim c.then-word_at.branch [
      | then-word_at-via-then-word_at w ↦ declarations_differ a b c.word_at.ensures c.word_at-2.ensures w.if-word_at.true
      | then-word_at-via-else-word_at+then-n-word_at w ↦
          counts_differ a b c.word_at.ensures c.word_at-2.ensures c.word_at-n.ensures w.word_at-else-word_at.ensures w.if-n-word_at.true
      | then-word_at-via-else-word_at+else-n-word_at+then-a-lt3 w ↦ absurd (omega (arith, a.rest.ends, a.rest.within, w.if-a-lt3.true))
      | then-word_at-via-else-word_at+else-n-word_at+else-a-lt3+then-b-lt3 w ↦ absurd (omega (arith, b.rest.ends, b.rest.within, w.if-b-lt3.true))
    ]

pub returns-then-alike_rows-clause-reached : goal.returns-then-alike_rows-clause-reached
returns-then-alike_rows-clause-reached c =
    λ k j ps qs d e hp hq f g.
    members_same (nominal_at hp d f) (nominal_at hq e g) c.word_at.ensures c.word_at-2.ensures c.word_at-n.ensures c.word_at-else-word_at.ensures c.if-word_at.false
    c.if-n-word_at.false
    c.behind_terms.ensures.behind c.behind_terms-2.ensures.behind c.alike_rows.ensures c.if-alike_rows.true

pub returns-else-alike_rows-clause-reached : goal.returns-else-alike_rows-clause-reached
returns-else-alike_rows-clause-reached c =
    λ k j ps qs d e hp hq f g.
    members_differ (nominal_at hp d f) (nominal_at hq e g) c.word_at.ensures c.word_at-2.ensures c.word_at-n.ensures c.word_at-else-word_at.ensures c.if-word_at.false
    c.if-n-word_at.false
    c.behind_terms.ensures.behind c.behind_terms-2.ensures.behind c.alike_rows.ensures c.if-alike_rows.false
