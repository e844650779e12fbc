-- What numeric defaults leave after a list of orders whose pairs were all compatible: an assignment that satisfies every pair, each by the equality
-- that posed it, and for every number variable a type that its own request admits.
use Rattle.std.specs.Prelude.{◌≡◌, List, ℕ, ◌<◌}
use Rattle.std.proofs.Math.Option.{Option, some}
use Rattle.unify.specs.Term.{var, sub, Sim}
use Rattle.unify.specs.Solver.{Sig, T, Pair}
use Rattle.unify.specs.Meaning.{Member, True}
use Rattle.unify.specs.Orders.{Assigns}
use Rattle.unify.specs.Table.{Table, answer}
use Rattle.unify.specs.Session.{fill_numbers}
use Rattle.unify.specs.Mixes.{AgreesExactly, EachBy, Mixing}

-- all that is asked has the property Good
abbrev pub AllGood : (S : Sig) → (S.Fam → Type 0) → (ℕ → Option S.Fam) → Type 0
AllGood S Good fam = (v : ℕ) (f : S.Fam) → fam v ≡ some f → Good f

module _ (S : Sig) (I : Type 0) (norm : I → S.Head → S.Head) where
  -- z₀ is the table before the defaults, z after them
  pub record Filled (N : ℕ) (asked : ℕ → Option S.Fam) (posed : List (Pair S)) (by : List I) (z₀ z : Table S) : Type 0 where
    -- an assignment is left that is true to the families and agrees with what the variables resolve to after the defaults
    pub left : (θ : ℕ → T S) × Assigns S N θ × True S θ asked × AgreesExactly S N θ z
    -- each such makes every pair equal, by its own equality
    pub satisfies : (θ : ℕ → T S) → True S θ asked → AgreesExactly S N θ z → EachBy S I norm θ by posed
    -- who agrees with what the variables resolve to now agreed before, by whatever equality (so that demand 3's second sentence applies to it)
    pub agrees : (m : S.Head → S.Head) (θ : ℕ → T S)
        → ((v : ℕ) → v < N → Sim m (θ v) (sub θ (answer S z (var v))))
        → (v : ℕ) → v < N → Sim m (θ v) (sub θ (answer S z₀ (var v)))
    -- every number variable has a type that its own request admits
    pub typed : (v : ℕ) (f : S.Fam) → asked v ≡ some f → Member S f (answer S z (var v))

-- of a session: order 6 given to it
abbrev pub FilledBy : (S : Sig) (default : S.Fam → Option S.Fam → S.Head) (never : S.Head) (I : Type 0) (norm : I → S.Head → S.Head) → Mixing S default never I norm → Type 0
FilledBy S default never I norm x =
    Filled S I norm x.run.count x.run.asked x.run.posed x.by x.run.state.table (fill_numbers S default never x.run.count 0 x.run.state.table)
