-- Sessions of orders 0 to 8 whose pairs are posed by one of several equalities, as strict and loose for access. An order of a mix is an equality and
-- an order of `Session`; the equality counts at a pair alone.
use Rattle.std.specs.Prelude.{◌≡◌, ◌↔◌, false, List, [], ◌∷◌, ℕ, ◌<◌}
use Rattle.std.proofs.Math.Option.{Option}
use Rattle.unify.specs.Term.{var, sub, Sim}
use Rattle.unify.specs.Solver.{Sig, T, Pair, Out, cancelled, done}
use Rattle.unify.specs.Meaning.{True, PlainPairs}
use Rattle.unify.specs.Orders.{issued?, fresh, Assigns}
use Rattle.unify.specs.Table.{Table, answer}
use Rattle.unify.specs.Session.{Command, variable, number, hole, defer, pair, resolving, numbers, nevers, revision, refused, session_begin, R, obey, Allowed, Reply, reply}

-- an assignment agrees exactly with what the issued variables resolve to
abbrev pub AgreesExactly : (S : Sig) → ℕ → (ℕ → T S) → Table S → Type 0
AgreesExactly S N θ z = (v : ℕ) → v < N → θ v ≡ sub θ (answer S z (var v))

module _ (S : Sig) (I : Type 0) where
  -- an order of a mix: by which equality, and which order
  abbrev pub By : Type 0
  By = I × Command S

  -- every pair is posed by the equality i
  abbrev pub PairBy : I → I → Command S → Type 0
  PairBy i j (variable s k) = Unit {0}
  PairBy i j (number s f) = Unit {0}
  PairBy i j (hole s) = Unit {0}
  PairBy i j (defer t) = Unit {0}
  PairBy i j (pair k l r) = j ≡ i
  PairBy i j (resolving t) = Unit {0}
  PairBy i j numbers = Unit {0}
  PairBy i j nevers = Unit {0}
  PairBy i j revision = Unit {0}
  PairBy i j refused = Unit {0}

  abbrev pub OnlyBy : I → List By → Type 0
  OnlyBy i [] = Unit {0}
  OnlyBy i (c ∷ cs) = PairBy i c.0 c.1 × OnlyBy i cs

  unfoldable pub commands : List By → List (Command S)
  commands [] = []
  commands (c ∷ cs) = c.1 ∷ commands cs

module _ (S : Sig) (I : Type 0) (norm : I → S.Head → S.Head) where
  -- every pair is equal, by the equality that posed it; there are as many equalities as pairs
  abbrev pub EachBy : (ℕ → T S) → List I → List (Pair S) → Type 0
  EachBy θ [] [] = Unit {0}
  EachBy θ [] (p ∷ ps) = ⊥
  EachBy θ (i ∷ is) [] = ⊥
  EachBy θ (i ∷ is) (p ∷ ps) = Sim (norm i) (sub θ p.0) (sub θ p.1) × EachBy θ is ps

  -- no assignment true to the families that agrees exactly with what the variables resolve to makes the pair equal by i
  abbrev pub Unequal : ℕ → Table S → (ℕ → Option S.Fam) → I → T S → T S → Type 0
  Unequal N z asked i l r = (θ : ℕ → T S) → Assigns S N θ → True S θ asked → AgreesExactly S N θ z → ¬ Sim (norm i) (sub θ l) (sub θ r)

  -- A pair of l and r by i in a mix: answered incompatible exactly if there is none. (Earlier pairs may have been incompatible.)
  abbrev pub Exact : ℕ → Table S → (ℕ → Option S.Fam) → I → T S → T S → Out (Table S) → Type 0
  Exact N z asked i l r (cancelled z') = Unit {0}
  Exact N z asked i l r (done z' b) = (b ≡ false) ↔ Unequal N z asked i l r

module _ (S : Sig) (default : S.Fam → Option S.Fam → S.Head) (never : S.Head) (I : Type 0) (norm : I → S.Head → S.Head) where
  -- a run, and the equality of each posed pair, the last one first
  pub record Mixing : Type 0 where
    pub run : R S default never
    pub by : List I

  unfoldable pub also : {P Q : Type 0} → I → Dec P → Dec Q → List I → List I
  also i (yes a) (yes b) is = i ∷ is
  also i (yes a) (no b) is = is
  also i (no a) d is = is

  -- a refused pair is not posed
  unfoldable pub noted : R S default never → I → Command S → List I → List I
  noted x i (variable s k) is = is
  noted x i (number s f) is = is
  noted x i (hole s) is = is
  noted x i (defer t) is = is
  noted x i (pair k l r) is = also i (issued? x.count l) (issued? x.count r) is
  noted x i (resolving t) is = is
  noted x i numbers is = is
  noted x i nevers is = is
  noted x i revision is = is
  noted x i refused is = is

  abbrev pub obey_by : Mixing → By S I → Mixing
  obey_by x c = record { run = obey S default never (norm c.0) x.run c.1; by = noted x.run c.0 c.1 x.by }

  -- what is answered
  abbrev pub reply_by : Mixing → By S I → Reply S
  reply_by x c = reply S default never (norm c.0) x.run c.1

  unfoldable pub mix : Mixing → List (By S I) → Mixing
  mix x [] = x
  mix x (c ∷ cs) = mix (obey_by x c) cs

  abbrev pub mix_begin : Mixing
  mix_begin = record { run = fresh S (session_begin S default never); by = [] }

  -- what is allowed of an order where it stands, as in `Session`
  abbrev pub AllAllowedBy : Mixing → List (By S I) → Type 0
  AllAllowedBy x [] = Unit {0}
  AllAllowedBy x (c ∷ cs) = Allowed S default never (norm c.0) x.run c.1 × AllAllowedBy (obey_by x c) cs

  -- no pair is cancelled, and none has a recovery term or a projection
  abbrev pub MixPremises : Mixing → Type 0
  MixPremises x = (x.run.cut ≡ false) × PlainPairs S x.run.posed

  -- THE HALF OF DEMAND 3 THAT A MIX KEEPS: with no pair incompatible, each assignment true to the families that agrees exactly with what the variables
  -- resolve to makes every pair equal by the equality that posed it.
  abbrev pub Half : Mixing → Type 0
  Half x = x.run.wrong ≡ false → (θ : ℕ → T S) → True S θ x.run.asked
      → AgreesExactly S x.run.count θ x.run.state.table → EachBy S I norm θ x.by x.run.posed
