-- Rows that fit a shape.
use mathlib.Core.Path.{◌≡◌, subst}
use Prim.Native.Nat.{ℕ, suc}
use Rattle.terms.specs.Term.{Parts}
use Rattle.terms.specs.Shape as shape
use Rattle.terms.specs.Shape.{Shape, many_members}
use Rattle.terms.specs.Formed.{Fit}

-- whether something is still to come
unfoldable pub More : Shape → Type 0
More shape.done = ⊥
More (shape.code limit r) = Unit {0}
More (shape.number f r) = Unit {0}
More (shape.term r) = Unit {0}
More (shape.terms r) = Unit {0}
More (shape.members r) = Unit {0}
More (shape.member n least r) = Unit {0}

pub some_done : (r : Shape) → More r → r ≡ shape.done → ⊥
unfolding More
some_done r m e = subst (λ (x : Shape). More x) e m

pub members_more : (n least : ℕ) (r : Shape) (q : Parts) → Fit (shape.member n least r) q → Fit (many_members (suc n) least r) q
unfolding many_members
members_more n least r q f = f
