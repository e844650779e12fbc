-- The answers of the functions that are lent a place, and what a number is: where there was something to read, the place is after it; else they give the refusal.
use Rattle.std.specs.Prelude.{◌≡◌, List, ℕ, Ok, Err}
use Rattle.std.specs.declared.result.Result as rust
use Rattle.solver.specs.TermTypes.{Place, Refusal, Rule}
use Rattle.solver.specs.Terms.Result.{Result, got, refused, number_of}
use Rattle.solver.specs.Terms.Number.{number}
use Rattle.solver.specs.Terms.Shape as shape
use Rattle.solver.specs.Terms.Shape.{ceiling}
use Rattle.solver.specs.Terms.Tokens.{Area}
use Rattle.sheet.specs.declared.FieldSpot.{FieldSpot}
use Rattle.sheet.specs.declared.FieldSpots.{FieldSpots}
use Rattle.sheet.specs.Fields.{Field}
use Rattle.sheet.specs.Words.FieldLayout.{FieldRead, FieldsHere, Spotted, Unread, moved}

-- the spot of a field, with the place after it
abbrev pub field_of : rust.Result FieldSpot Refusal → Place → FieldRead
field_of (Ok x) p = Spotted x p
field_of (Err e) p = Unread (number_of e)

-- the fields of a layout, or the refusal, and then the areas are as they were
abbrev pub LayoutDone : (s : List ℕ) (ws : List Rule) (found : Result (List Field)) (p : Place) (d e : Area) → rust.Result FieldSpots Refusal → Place → Type 0
LayoutDone s ws found p d e (Ok o) q = FieldsHere s ws found p d e o q
LayoutDone s ws found p d e (Err r) q = (found ≡ refused (number_of r)) × (e ≡ d)

-- a value, with the position after it
abbrev pub value_at : rust.Result ℕ Refusal → ℕ → Result ℕ
value_at (Ok v) at = got v at
value_at (Err e) at = refused (number_of e)

-- a number of 32 bits was read at the place p, or refused, and the place is q
pub record NumberRead (s : List ℕ) (p : Place) (r : rust.Result ℕ Refusal) (q : Place) : Type 0 where
  pub is : value_at r q.at ≡ number (ceiling shape.ordinary) s p.at
  pub place : q ≡ moved p q.at
