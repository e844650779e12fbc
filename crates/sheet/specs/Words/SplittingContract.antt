-- The orders of a sheet, one after another.
use Rattle.std.specs.Prelude.{Option, Some, None, Ok, Err, List, ◌≡◌, ℕ, ◌≤◌, ◌<◌, length}
use Rattle.std.specs.Borrow.{Bor}
use Rattle.std.specs.declared.result.Result as rust
use Rattle.solver.specs.Terms.Result.{got, refused}
use Rattle.sheet.specs.declared.Reason.{Reason}
use Rattle.sheet.specs.declared.Reason.TheVariants.{Length}
use Rattle.sheet.specs.declared.splitting.Orders.{Orders}
use Rattle.sheet.specs.Sheet.{next_order}

-- a step from p to q: the order that comes next, and on behind it; or that its length is faulty; or none, where the sheet is used up
abbrev pub Passes : Orders → Option (rust.Result (Bor (List ℕ)) Reason) → Orders → Type 0
Passes p (Some (Ok b)) q = (p.at < length p.sheet.now) × (got b.now q.at ≡ next_order p.sheet.now p.at) × (q.sheet.now ≡ p.sheet.now)
Passes p (Some (Err r)) q = (p.at < length p.sheet.now) × (refused 10 ≡ next_order p.sheet.now p.at) × (r ≡ Length)
Passes p None q = length p.sheet.now ≤ p.at
