-- `can_weaken_to`: the kinds, the two accesses, and what stands after them.
use Rattle.terms.proofs.Laws.General.Bools.{not-true, not-false}
use Rattle.terms.proofs.Laws.Asking.WeakenLaws.{held_apart, held_without, two, left_long, right_long, not_mutable, not_shared, by_rest}
use Rattle.terms.proofs.compare.can_weaken_to.Goals.{then-k-word-via-then-k-word, then-k-word-via-else-k-word+then-not-has_access, then-k-word-via-else-k-word+else-not-has_access+then-x-a-lt2, then-k-word-via-else-k-word+else-not-has_access+else-x-a-lt2+then-y-b-lt2, then-k-word-via-else-k-word+else-not-has_access+else-x-a-lt2+else-y-b-lt2+then-word-ne1, then-k-word-via-else-k-word+else-not-has_access+else-x-a-lt2+else-y-b-lt2+else-word-ne1+then-word-ne0}
use Rattle.terms.proofs.compare.can_weaken_to.Goals as goal

pub returns-then-k-word : goal.returns-then-k-word
returns-then-k-word c =
    λ t u ht hu ft fu.
    let x = c.term_part-x.ensures.term t ht in
    let y = c.term_part-y.ensures.term u hu in
    elim c.then-k-word.branch [
      | then-k-word-via-then-k-word v ↦ held_apart t u ht hu c.word-k.ensures c.word.ensures v.if-k-word.true
      | then-k-word-via-else-k-word+then-not-has_access v ↦
          held_without t u ht hu c.word-k.ensures c.word.ensures v.has_access.ensures (not-true _ v.if-not-has_access.true-raw)
      | then-k-word-via-else-k-word+else-not-has_access+then-x-a-lt2 v ↦
          let w = two t u ht hu c.word-k.ensures c.word.ensures v.has_access.ensures v.if-k-word.false (not-false _ v.if-not-has_access.false-raw) ft fu x y in
          absurd (left_long w v.if-x-a-lt2.true)
      | then-k-word-via-else-k-word+else-not-has_access+else-x-a-lt2+then-y-b-lt2 v ↦
          let w = two t u ht hu c.word-k.ensures c.word.ensures v.has_access.ensures v.if-k-word.false (not-false _ v.if-not-has_access.false-raw) ft fu x y in
          absurd (right_long w v.if-y-b-lt2.true)
      | then-k-word-via-else-k-word+else-not-has_access+else-x-a-lt2+else-y-b-lt2+then-word-ne1 v ↦
          let w = two t u ht hu c.word-k.ensures c.word.ensures v.has_access.ensures v.if-k-word.false (not-false _ v.if-not-has_access.false-raw) ft fu x y in
          not_mutable w v.word-else-y-b-lt2.ensures v.if-word-ne1.true
      | then-k-word-via-else-k-word+else-not-has_access+else-x-a-lt2+else-y-b-lt2+else-word-ne1+then-word-ne0 v ↦
          let w = two t u ht hu c.word-k.ensures c.word.ensures v.has_access.ensures v.if-k-word.false (not-false _ v.if-not-has_access.false-raw) ft fu x y in
          not_shared w v.word-else-y-b-lt2.ensures v.if-word-ne1.false v.word-else-word-ne1.ensures v.if-word-ne0.true
    ]

pub returns : goal.returns
returns c =
    λ t u ht hu ft fu.
    let w = two t u ht hu c.word-k.ensures c.word.ensures c.has_access.ensures c.if-k-word.false (not-false _ c.if-not-has_access.false-raw) ft fu
    (c.term_part-x.ensures.term t ht) (c.term_part-y.ensures.term u hu) in
    by_rest w c.word-else-y-b-lt2.ensures c.if-word-ne1.false c.word-else-word-ne1.ensures c.if-word-ne0.false c.rows_conflict.ensures
