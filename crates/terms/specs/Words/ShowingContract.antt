-- Bytes sized, or written: what is shown of `bs` from a position on, and the position that is returned.
use Rattle.std.specs.Prelude.{◌≡◌, Bool, true, false, List, ℕ, ◌+◌, ◌≤◌, ◌<◌, length, Option, Some, None, IfSome}
use Rattle.std.proofs.lemmas.List.Edits.{sets}
use Rattle.terms.specs.declared.Pass.{Pass}
use Rattle.terms.specs.declared.Pass.TheVariants.{Count, Write}
use Rattle.terms.specs.Result.{pick}

-- whether bytes are written, or only counted
abbrev pub writes : Pass → Bool
writes Count = false
writes Write = true

-- the position after the bytes, which are written where `on`; none where they do not fit
abbrev pub Shows : (on : Bool) (o₀ o : List ℕ) (at : ℕ) (bs : List ℕ) → Option ℕ → Type 0
Shows on o₀ o at bs (Some e) = (e ≡ at + length bs) × (o ≡ pick on (sets o₀ at bs) o₀)
Shows on o₀ o at bs None = length o₀ < at + length bs

-- in any case the output keeps its length, and where not `on` its bytes, and a position is not before `at`, and within the output
pub record Kept (on : Bool) (o₀ o : List ℕ) (at : ℕ) (r : Option ℕ) : Type 0 where
  pub long : length o ≡ length o₀
  pub same : on ≡ false → o ≡ o₀
  pub within : IfSome r (λ e. (at ≤ e) × (e ≤ length o₀))
