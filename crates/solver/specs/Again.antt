-- A pair posed again, once it was answered compatible: "A script that repeats satisfied pairs must then run through" (document 02).
use Rattle.std.specs.Prelude.{◌≡◌, Bool, true, ◌⊎◌, ℕ, ◌+◌, ◌<◌}
use Rattle.terms.specs.Term.{Term, size}
use Rattle.unify.specs.Solver.{Out, cancelled, done}
use Rattle.solver.specs.Constrain.{Solver}
use Rattle.solver.specs.Session.{Limits, Session}
use Rattle.solver.specs.Orders.{pair, verdict, refused, crowded, order}

-- How a pair ends that is posed to z with m checks and takes k at most: z stays as it is, and the pair is compatible, or cancelled where there are fewer.
abbrev pub Satisfied : ℕ → ℕ → Solver → Out Solver → Type 0
Satisfied k m z o = (o ≡ done z true) ⊎ ((o ≡ cancelled z) × (m < k))

module _ (lim : Limits) (b : Bool) where
  -- The same of the order, strict or not, given to the session y.
  pub record SatisfiedOrder (k m : ℕ) (y : Session) (t u : Term) : Type 0 where
    -- nothing is bound: bindings, requests and revision are as they were
    pub unchanged : (order lim y (pair b m t u)).session.solver ≡ y.solver
    -- it is compatible; or cancelled, with fewer checks; or refused, where the kept nodes leave it no room
    pub answered : ((order lim y (pair b m t u)).reply ≡ verdict 1)
        ⊎ ((((order lim y (pair b m t u)).reply ≡ verdict 2) × (m < k))
        ⊎ (((order lim y (pair b m t u)).reply ≡ refused 7) × (crowded lim y (size t + size u) ≡ true)))
