-- What a default leaves as it was, and what it goes by.
use mathlib.Core.Path.{◌≡◌, refl, ap}
use mathlib.Core.Option.{some}
use Prim.Native.Nat.{ℕ, suc}
use Rattle.terms.specs.Term.{Term, var, node}
use Rattle.unify.specs.Solver.{put}
use Rattle.solver.specs.Constrain.{Solver}
use Rattle.solver.specs.Session.{settle_at}

-- a default leaves the requests
pub settle_requests : (z : Solver) (d : ℕ → Term) (t : Term) → (settle_at z d t).requests ≡ z.requests
unfolding settle_at
settle_requests z d (var w) = refl
settle_requests z d (node k ps) = refl

-- it goes by what is taken at each end
pub settle_same : (z : Solver) (d g : ℕ → Term) → ((w : ℕ) → d w ≡ g w) → (t : Term) → settle_at z d t ≡ settle_at z g t
unfolding settle_at
settle_same z d g h (var w) = ap (λ (u : Term). record { bindings = put z.bindings w (some u); requests = z.requests; revision = suc z.revision }) (h w)
settle_same z d g h (node k ps) = refl
