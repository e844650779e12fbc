-- What a walk over a row comes to.
use Rattle.std.specs.Prelude.{◌≡◌, ℕ, ◌+◌, ◌≤◌, ◌<◌, get_or, Option, Some, None}
use Rattle.terms.specs.declared.RowWalk.{RowWalk}
use Rattle.terms.specs.declared.Token.{Token}
use Rattle.terms.specs.Words.Tokens.{Area}
use Rattle.terms.specs.Words.Held.{span}
use Rattle.terms.specs.Words.Lent.{shown}

-- from the place p of a row that ends at e, the walk comes to the token there and goes on behind it to o; or the row is over
abbrev pub Comes : (a : Area) (p e : ℕ) → Option (ℕ × Token) → (o : ℕ) → Type 0
Comes a p e (Some (q, y)) o =
    (q ≡ p) × (p < e) × (y.kind ≡ get_or a.kinds p 0) × (y.value ≡ get_or a.vals p 0) × (p < o) × (1 ≤ span y.kind y.value → o ≡ p + span y.kind y.value)
Comes a p e None o = (e ≤ p) × (o ≡ p)

-- a step of a walk
abbrev pub Moves : RowWalk → Option (ℕ × Token) → RowWalk → Type 0
Moves s r t =
    Comes (shown s.seen) s.at s.end r t.at × (t.end ≡ s.end) × (t.seen ≡ s.seen)
