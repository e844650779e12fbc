-- The Rust's `Solver` answers the orders that it has byte by byte as the sheet does: carried over from crate solver.
use mathlib.Core.Path.{◌≡◌, refl, sym, ap, ◌∙◌}
use mathlib.Core.Bool.{Bool, true, false}
use mathlib.Core.List.{List, [], ◌∷◌, ◌++◌}
use mathlib.Core.Logic.{inl, inr}
use mathlib.Core.Option.{Option, none, some}
use Prim.Native.Nat.{ℕ}
use Rattle.solver.specs.Terms.Result.{pick}
use Rattle.solver.specs.Session.{Limits, Session, fresh}
use Rattle.solver.specs.Orders as solver
use Rattle.solver.specs.Orders.{Command, Reply, order, replies}
use Rattle.solver.specs.Demand3 as theirs
use Rattle.solver.specs.Demand3.{RequestMade}
use Rattle.solver.specs.Rust.{OfRust, AllOfRust, given, unrefused}
use Rattle.solver.specs.Families.{Request, requested}
use Rattle.solver.proofs.Terms.Bools.{never_true}
use Rattle.solver.proofs.Laws.Definition.FamilyLaws.{range_made}
use Rattle.solver.proofs.Laws.Rust.RustLaws.{rust_same}
use Rattle.sheet.specs.Sheet.{Step, answer_of, order_of, framed, run_of}
use Rattle.sheet.specs.OrdersInTurn.{answered_orders}
use Rattle.sheet.specs.Commands.{command, leaves, prefixed, commands}
use Rattle.sheet.specs.Demand3.{ByteString, ByteStrings}
use Rattle.sheet.specs.RustBytes.{frames, solved_one, solved_to, InRust, AllInRust, OfRustAlone, AsTheRust}
use Rattle.sheet.proofs.Laws.Bytes.CommandLaws.{accepted_of, StepBy, does_order, leaves_order, AllFormed, all_formed}
use Rattle.sheet.proofs.Laws.Answering.SessionRowLaws.{FormedCommand}
use Rattle.sheet.proofs.Laws.Bytes.Demand3Run.{orders_bytes}

module _ (lim : Limits) where
  -- ---- the answers

  framed_one : (r : Reply) (rs : List Reply) (b : Bool) → pick b (framed (answer_of r)) [] ++ frames rs ≡ frames (pick b (r ∷ rs) rs)
  unfolding frames
  framed_one r rs true = refl
  framed_one r rs false = refl

  solved_frames : (s : Session) (bs : List (List ℕ)) → solved_to lim s bs ≡ frames (unrefused (replies lim s (commands lim s bs)))
  unfolding solved_to frames commands replies unrefused
  solved_frames s [] = refl
  solved_frames s (b ∷ bs) =
      let y = leaves lim s (command s b) in
      let e : solved_to lim (order_of lim s b).session bs ≡ frames (unrefused (replies lim y (commands lim y bs))) =
      ap (λ (z : Session). solved_to lim z bs) (leaves_order lim s b) ∙ solved_frames y bs
      in
      go (command s b) (order_of lim s b) (does_order lim s b) (commands lim y bs) (solved_to lim (order_of lim s b).session bs) e
    where
      go : (c : Option Command) (x : Step) → StepBy lim s c x → (cs : List Command) (rest : List ℕ) → rest ≡ frames (unrefused (replies lim (leaves lim s c) cs))
          → solved_one c x.answer ++ rest ≡ frames (unrefused (replies lim s (prefixed c cs)))
      go none x d cs rest e = e
      go (some c) x d cs rest e =
          let r = (order lim s c).reply in
          let us = unrefused (replies lim (order lim s c).session cs) in
          let f : rest ≡ frames us = e in
          ap (λ (y : Step). solved_one (some c) y.answer ++ rest) d
          ∙ ap (λ (l : List ℕ). solved_one (some c) (answer_of r) ++ l) f
          ∙ ap (λ (h : Bool). pick h (framed (answer_of r)) [] ++ frames us) (accepted_of r)
          ∙ framed_one r us (theirs.accepted r)

  -- ---- lists without ranges and strict pairs

  plain_request : (r : Request) → RequestMade r → r.ranged ≡ false → r ≡ requested r.fallback
  plain_request r (inl e) p = e
  plain_request r (inr x) p = never_true (sym p ∙ (range_made r.fallback x.0 x.1 r x.2).1)

  one_of_rust : (c : Command) → FormedCommand c → InRust (theirs.role c) → OfRust c
  one_of_rust (solver.variable i j) f o = tt
  one_of_rust (solver.number i r) f o = (plain_request r f.0 o, f.1)
  one_of_rust (solver.hole i) f o = tt
  one_of_rust (solver.defer t) f o = f
  one_of_rust (solver.pair d k t u) f o = (o, f.0, f.1)
  one_of_rust (solver.resolving t) f o = f
  one_of_rust solver.numbers f o = tt
  one_of_rust solver.nevers f o = tt
  one_of_rust solver.revision f o = tt
  one_of_rust (solver.unread r) f o = tt

  -- the orders that are not refused are such as the Rust has
  given_rust : (s : Session) (cs : List Command) → AllFormed cs → AllInRust (given lim s cs) → AllOfRust (given lim s cs)
  unfolding given
  given_rust s [] f o = tt
  given_rust s (c ∷ cs) f o = go (theirs.accepted (order lim s c).reply) (given_rust (order lim s c).session cs f.1) o
    where
      rest : List Command
      rest = given lim (order lim s c).session cs

      go : (a : Bool) → (AllInRust rest → AllOfRust rest) → AllInRust (pick a (c ∷ rest) rest) → AllOfRust (pick a (c ∷ rest) rest)
      go true g o = (one_of_rust c f.0 o.0, g o.1)
      go false g o = g o

  -- THE RUST'S SOLVER, for every list of orders given as bytes of which none that is not refused is 21 or 22, and for those that a run answered.
  pub rust_bytes : (bs : List (List ℕ)) → ByteStrings bs → OfRustAlone lim bs → AsTheRust lim bs
  rust_bytes bs o y = record {
    replies = unrefused (replies lim fresh (commands lim fresh bs));
    no_panic = rust_same lim (commands lim fresh bs) (given_rust fresh (commands lim fresh bs) (all_formed lim fresh bs o) y);
    same_bytes = solved_frames fresh bs;
  }

  pub rust_run : (s : List ℕ) → ByteString s → (space : ℕ) → OfRustAlone lim (answered_orders lim s space) → AsTheRust lim (answered_orders lim s space)
  rust_run s o space = rust_bytes (answered_orders lim s space) (orders_bytes s o (run_of lim s space).orders 0)
