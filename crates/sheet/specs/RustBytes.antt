-- The answers to orders 0 to 8 of a list, to be compared with the Rust's `Solver` byte by byte; and which lists have no other order that is told to the session.
use Rattle.std.specs.Prelude.{◌≡◌, true, false, List, [], ◌∷◌, ◌++◌, ℕ}
use Rattle.std.proofs.Math.Option.{Option, none, some}
use Rattle.solver.specs.Terms.Result.{pick}
use Rattle.solver.specs.Session.{Limits, Session, fresh}
use Rattle.solver.specs.Orders.{Command, Reply}
use Rattle.solver.specs.Demand3.{Role, requesting, posing, defaulting, neither, role}
use Rattle.solver.specs.Rust.{answers, default, given}
use Rattle.sheet.specs.OrderTable.{Answer}
use Rattle.sheet.specs.Sheet.{answer_of, order_of, framed}
use Rattle.sheet.specs.OrdersInTurn.{accepted}
use Rattle.sheet.specs.Commands.{command, commands}

-- what the Rust answers, in the sheet's format
unfoldable pub frames : List Reply → List ℕ
frames [] = []
frames (r ∷ rs) = framed (answer_of r) ++ frames rs

-- an answer to an order of kinds 0 to 8 that is no refusal: "The Rust is compared where no refusal arises"
abbrev pub solved_one : Option Command → Answer → List ℕ
solved_one none a = []
solved_one (some c) a = pick (accepted a) (framed a) []

-- those of a list, one after the other
unfoldable pub solved_to : Limits → Session → List (List ℕ) → List ℕ
solved_to lim s [] = []
solved_to lim s (b ∷ bs) = solved_one (command s b) (order_of lim s b).answer ++ solved_to lim (order_of lim s b).session bs

-- what the Rust has not: ranges, and pairs that are strict
abbrev pub InRust : Role → Type 0
InRust (requesting site r) = r.ranged ≡ false
InRust (posing strict t u) = strict ≡ false
InRust defaulting = Unit {0}
InRust neither = Unit {0}

abbrev pub AllInRust : List Command → Type 0
AllInRust [] = Unit {0}
AllInRust (c ∷ cs) = InRust (role c) × AllInRust cs

-- of the orders of a list that are not refused none requests a range (21) or poses a strict pair (22): "The Rust is compared on order 4 alone"
abbrev pub OfRustAlone : Limits → List (List ℕ) → Type 0
OfRustAlone lim bs = AllInRust (given lim fresh (commands lim fresh bs))

-- THE RUST'S SOLVER (`Solver` of solver.rs, line by line), given in turn those orders of a list that are of kinds 0 to 8 and not refused, comes to no panic, and
-- its answers, in the sheet's format, are the sheet's answers to them.
pub record AsTheRust (lim : Limits) (bs : List (List ℕ)) : Type 0 where
  pub replies : List Reply
  pub no_panic : answers default (given lim fresh (commands lim fresh bs)) ≡ some replies
  pub same_bytes : solved_to lim fresh bs ≡ frames replies

-- every order of a list is of kinds 0 to 8, and none is refused: then all answers are compared
unfoldable pub AllSolved : Limits → Session → List (List ℕ) → Type 0
AllSolved lim s [] = Unit {0}
AllSolved lim s (b ∷ bs) = ((c : Command) × (command s b ≡ some c)) × (accepted (order_of lim s b).answer ≡ true) × AllSolved lim (order_of lim s b).session bs
