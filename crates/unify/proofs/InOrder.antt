-- A session that is in order names no equality of shapes: what `Whole` says of it by one equality it says by every other. So that each order keeps
-- it, whichever equality it is posed by.
use mathlib.Core.Path.{◌≡◌, ap}
use mathlib.Core.Option.{Option, some}
use Prim.Native.Nat.{ℕ, ◌<◌}
use Rattle.unify.specs.Term.{clash}
use Rattle.unify.specs.Solver.{Sig, State}
use Rattle.unify.specs.Meaning.{Fine}
use Rattle.unify.specs.Orders.{fresh}
use Rattle.unify.specs.Table.{Table}
use Rattle.unify.specs.Session.{Command, session_begin, R, obey}
use Rattle.unify.proofs.Refine.{Stands, Counted}
use Rattle.unify.proofs.Whole.{Sane, SaneRun, sane_begin, obey_sane}

-- a table over N variables is in order: it stands for a substitution, and its revision is the number of bound variables
pub record InOrder (S : Sig) (N : ℕ) (z : Table S) : Type 0 where
  pub means : State S
  pub stands : Stands S z means
  pub counted : Counted S N z
  pub fine : Fine S N means

module _ (S : Sig) (default : S.Fam → Option S.Fam → S.Head) (never : S.Head) where
  -- the whole session
  pub record InOrderRun (x : R S default never) : Type 0 where
    pub table : InOrder S x.count x.state.table
    pub placed : (s i v : ℕ) → x.state.sites s i ≡ some v → v < x.count

  module _ (n : S.Head → S.Head) (respects : (f : S.Fam) (h k : S.Head) → n h ≡ n k → S.admits f h ≡ S.admits f k) where
    pub in_order : (N : ℕ) (z : Table S) → Sane S default never n respects N z → InOrder S N z
    in_order N z x = record { means = x.means; stands = x.stands; counted = x.counted; fine = x.fine }

    pub sane : (N : ℕ) (z : Table S) → InOrder S N z → Sane S default never n respects N z
    sane N z x = record { means = x.means; stands = x.stands; counted = x.counted; fine = x.fine }

    pub run_in_order : (x : R S default never) → SaneRun S default never n respects x → InOrderRun x
    run_in_order x y = record { table = in_order x.count x.state.table y.sane; placed = y.placed }

    pub sane_run : (x : R S default never) → InOrderRun x → SaneRun S default never n respects x
    sane_run x y = record { sane = sane x.count x.state.table y.table; placed = y.placed }

    -- every order keeps it
    pub obey_in_order : (x : R S default never) → InOrderRun x → (c : Command S) → InOrderRun (obey S default never n x c)
    obey_in_order x y c = run_in_order (obey S default never n x c) (obey_sane S default never n respects x (sane_run x y) c)

  pub in_order_begin : InOrderRun (fresh S (session_begin S default never))
  in_order_begin = run_in_order (λ h. h) same_head (fresh S (session_begin S default never))
      (record { sane = sane_begin S default never (λ h. h) same_head; placed = λ s i v p. clash (cc) })
    where
      same_head : (f : S.Fam) (h k : S.Head) → h ≡ k → S.admits f h ≡ S.admits f k
      same_head f h k p = ap (S.admits f) p
