-- `skip`: a span, at least 1 and at most `room`.
use mathlib.Core.Path.{ap, ◌∙◌}
use Prim.Native.Nat.{ℕ, min, max}
use Rattle.terms.proofs.Laws.Replacing.FindLaws.{clip_clamp}
use Rattle.terms.proofs.runs.skip.Goals as goal

pub returns-clause-is : goal.returns-clause-is
returns-clause-is c =
    let a = c.args in
    c.clamp.ensures ∙ ap (λ (s : ℕ). max 1 (min s a.room)) c.span.ensures ∙ clip_clamp a.room _ c.requires.1
