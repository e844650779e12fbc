-- Numbers: base 128, low group first, the top bit of a byte set where more follow, shortest form only.
use Rattle.std.specs.Prelude.{ℕ, zero, suc, ◌+◌, ◌-◌, ◌*◌, ◌/◌, ◌%◌, ◌&&◌, List, [], ◌∷◌, drop, ltb, leb, eqb}
use Rattle.terms.specs.Result.{Result, got, refused, pick}

-- The bytes from position `at` on, where the groups before have the value v and a group counts w here.
-- A byte b leaves v + b * w as the least number that can still come: a last group b < 128 is that number, and after
-- b - 128 with more to follow the groups that follow count at least 128 * w.
unfoldable pub groups : (most v w at : ℕ) → List ℕ → Result ℕ
groups most v w at [] = refused 1
groups most v w at (b ∷ bs) =
    pick (ltb most (v + b * w)) (refused 3)
    (pick (leb 128 b) (groups most (v + (b - 128) * w) (w * 128) (at + 1) bs)
    (pick (eqb b 0 && ltb 1 w) (refused 3) (got (v + b * w) (at + 1))))

-- the number at a position of s, at most `most`
abbrev pub number : ℕ → List ℕ → ℕ → Result ℕ
number most s at = groups most 0 1 at (drop at s)

-- the groups of v, low first, each but the last with its top bit set: enough fuel is v itself
unfoldable pub digits : ℕ → ℕ → List ℕ
digits zero v = v ∷ []
digits (suc fuel) v =
    let more : List ℕ = (v % 128 + 128) ∷ digits fuel (v / 128) in
    pick (ltb v 128) (v ∷ []) more

-- the shortest form of v
unfoldable pub shortest : ℕ → List ℕ
shortest v = digits v v
