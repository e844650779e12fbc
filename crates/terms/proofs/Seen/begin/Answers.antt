-- `begin`.
use Rattle.terms.proofs.Laws.Normalising.OpenLaws.{ordered_plain}
use native.Mathlib.Omega.{arith}
use Rattle.terms.proofs.Seen.begin.Goals as goal

pub returns-then-tag-lt12 : goal.returns-then-tag-lt12
returns-then-tag-lt12 c =
    let tag' = c.tag_at-tag.ensures in record { opens = c.in_ok-n.ensures; ordered = ordered_plain _ _ _ _ _ tag' c.if-tag-lt12.true; tagged = tag'; counted = λ le. absurd (omega (arith, c.if-tag-lt12.true)) }
