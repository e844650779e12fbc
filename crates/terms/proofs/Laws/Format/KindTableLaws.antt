-- Rules of the table of kinds, each one computed test.
use mathlib.Core.Path.{◌≡◌, refl}
use mathlib.Core.Bool.{Bool, true, false, ◌&&◌}
use mathlib.Core.List.{List, [], ◌∷◌}
use Prim.Native.Nat.{ℕ, zero, suc, ◌≤◌, ◌<◌}
use native.Mathlib.Omega.{arith}
use borrow.Author.Tests.{leb-true, ltb-true}
use lib.Dec.{leb, ltb, eqb}
use lib.ListN.{get_or}
use Rattle.terms.specs.Result.{pick}
use Rattle.terms.specs.Shape as shape
use Rattle.terms.specs.Shape.{Shape, layouts, layout, kind_of}

-- a test that every entry of a list passes
unfoldable pub all : (Shape → Bool) → List Shape → Bool
all f [] = true
all f (r ∷ l) = f r && all f l

pub both_true : (a b : Bool) → a && b ≡ true → (a ≡ true) × (b ≡ true)
both_true true b h = (refl, h)
both_true false b h = let z : ◌≡◌ {A = Bool} false true = h in absurd (never z)
  where
    never : ◌≡◌ {A = Bool} false true → ⊥
    never e = let z : ◌≡◌ {A = ℕ} 0 1 = cc in omega arith

pub all-at : (f : Shape → Bool) (l : List Shape) (k : ℕ) (r : Shape) → all f l ≡ true → f r ≡ true → f (get_or l k r) ≡ true
unfolding all
all-at f [] k r h e = e
all-at f (x ∷ l) zero r h e = (both_true (f x) (all f l) h).0
all-at f (x ∷ l) (suc k) r h e = all-at f l k r (both_true (f x) (all f l) h).1 e

-- every code is below 128, so that its byte is its number form
unfoldable pub small : Shape → Bool
small shape.done = true
small (shape.code limit r) = leb limit 128 && small r
small (shape.number f r) = small r
small (shape.term r) = small r
small (shape.terms r) = small r
small (shape.members r) = small r
small (shape.member n least r) = small r

pub small_code : (limit : ℕ) (r : Shape) → small (shape.code limit r) ≡ true → (limit ≤ 128) × (small r ≡ true)
unfolding small
small_code limit r h = let b = both_true (leb limit 128) (small r) h in (leb-true limit 128 b.0, b.1)

pub all_small : (k : ℕ) → small (layout k) ≡ true
unfolding small all
all_small k = all-at small layouts k shape.done refl refl

-- a tag that stands for a row is below 20, and the row is the table's
pub row_tag : (k : ℕ) (r : Shape) → kind_of k ≡ shape.row r → (k < 20) × (layout k ≡ r)
unfolding kind_of
row_tag k r e = go (eqb k 1) (ltb k 20) refl e
  where
    go : (a b : Bool) → ltb k 20 ≡ b → pick a shape.variable (pick b (shape.row (layout k)) shape.unlisted) ≡ shape.row r → (k < 20) × (layout k ≡ r)
    go true b h e = let z : ◌≡◌ {A = ℕ} 0 1 = cc in absurd (omega arith)
    go false true h e = (ltb-true k 20 h, (cc))
    go false false h e = let z : ◌≡◌ {A = ℕ} 0 1 = cc in absurd (omega arith)
