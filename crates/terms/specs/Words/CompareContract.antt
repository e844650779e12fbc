-- What the functions that compare two rows hand on.
use Rattle.std.specs.Prelude.{◌≡◌, Bool, true, List, ℕ, ◌≤◌, ◌<◌, Option, Some, None}
use Rattle.terms.specs.Term.{Parts}
use Rattle.terms.specs.Words.Held.{HeldParts}
use Rattle.terms.specs.Shape.{Shape}
use Rattle.terms.specs.Formed.{Fit}
use Rattle.terms.specs.Comparison.{rows_conflict}

-- two rows of one shape from i up to ae and from j up to be, which conflict as `whole` says
pub record Rows (ks vs : List ℕ) (i ae j be : ℕ) (whole : Bool) : Type 0 where
  pub shape : Shape
  pub left : Parts
  pub right : Parts
  pub held_left : HeldParts ks vs i ae left
  pub held_right : HeldParts ks vs j be right
  pub fit_left : Fit shape left
  pub fit_right : Fit shape right
  pub same : whole ≡ rows_conflict left right

-- a step goes forward within both rows
abbrev pub Forward : (i ae j be : ℕ) → Option (ℕ × ℕ) → Type 0
Forward i ae j be None = Unit {0}
Forward i ae j be (Some (k, l)) = (i < k) × (k ≤ ae) × (j < l) × (l ≤ be)

-- and finds that the rows conflict, or leaves rows that conflict as these do
abbrev pub Stepped : (ks vs : List ℕ) (ae be : ℕ) (whole : Bool) → Option (ℕ × ℕ) → Type 0
Stepped ks vs ae be whole None = whole ≡ true
Stepped ks vs ae be whole (Some (k, l)) = Rows ks vs k ae l be whole
