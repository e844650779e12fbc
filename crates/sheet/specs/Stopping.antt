-- Where a run stops, and why: document 01's reasons 0, 10 and 11.
use Rattle.std.specs.Prelude.{◌≡◌, List, ◌⊎◌, ℕ, zero, suc, ◌≤◌, ◌<◌, length}
use Rattle.solver.specs.Terms.Result.{Result, got, refused}
use Rattle.solver.specs.Session.{Limits, Session}
use Rattle.sheet.specs.Sheet.{order_of, framed, next_order}

-- the position after the next n orders of a sheet
abbrev pub behind_part : (ℕ → ℕ) → ℕ → Result (List ℕ) → ℕ
behind_part go at (got b next) = go next
behind_part go at (refused c) = at

unfoldable pub behind : List ℕ → ℕ → ℕ → ℕ
behind s zero at = at
behind s (suc n) at = behind_part (behind s n) at (next_order s at)

-- the next answer does not fit
pub record Unfit (lim : Limits) (s : List ℕ) (at : ℕ) (z : Session) (space : ℕ) : Type 0 where
  pub order : List ℕ
  pub next : ℕ
  pub comes : next_order s at ≡ got order next
  pub long : space < length (framed (order_of lim z order).answer)

-- The run came to the position `at` of the sheet, to the session z, and left `space` bytes of the output: "run 0 sheet used up", "run 10 next length faulty, or beyond the
-- sheet", "run 11 next answer does not fit whole".
abbrev pub Stopped : Limits → List ℕ → ℕ → Session → ℕ → ℕ → Type 0
Stopped lim s at z space reason =
    ((reason ≡ 0) × (length s ≤ at))
    ⊎ (((reason ≡ 10) × (at < length s) × (next_order s at ≡ refused 10)) ⊎ ((reason ≡ 11) × (at < length s) × Unfit lim s at z space))
