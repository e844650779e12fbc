-- A session: the solver with the places of its variables, the deferrals, and the nodes kept.
use Rattle.std.specs.Prelude.{Bool, true, false, ◌&&◌, List, [], ◌∷◌, ℕ, zero, suc, ◌+◌, eqb, length}
use Rattle.std.proofs.Math.Option.{Option, none, some}
use Rattle.terms.specs.Result.{pick}
use Rattle.terms.specs.Term.{Term, var, node, end, num}
use Rattle.unify.specs.Solver.{put}
use Rattle.solver.specs.Families.{Request, default_of}
use Rattle.solver.specs.Constrain.{Solver, top}

-- "512 type variables and 2,048 kept term nodes"
pub record Limits : Type 0 where
  pub variables : ℕ
  pub nodes : ℕ

abbrev pub document_limits : Limits
document_limits = record { variables = 512; nodes = 2048 }

-- where a variable stands: the slot of a site, by orders 0 and 1, or a hole's site, by order 2
pub data VariablePlace : Type 0 where
  at : ℕ → ℕ → VariablePlace
  gap : ℕ → VariablePlace

unfoldable pub same_place : VariablePlace → VariablePlace → Bool
same_place (at s i) (at r j) = eqb s r && eqb i j
same_place (at s i) (gap r) = false
same_place (gap s) (at r j) = false
same_place (gap s) (gap r) = eqb s r

pub record Session : Type 0 where
  pub solver : Solver
  -- the places of the variables issued, the last first: a variable's id is the number of those issued before it
  pub places : List VariablePlace
  pub deferred : ℕ → Bool
  pub kept : ℕ

abbrev pub issued : Session → ℕ
issued s = length s.places

-- `variables` and `holes`: the variable of a place
unfoldable pub find : VariablePlace → List VariablePlace → Option ℕ
find p [] = none
find p (q ∷ qs) = pick (same_place p q) (some (length qs)) (find p qs)

-- "nothing issued, requested, deferred, bound or kept"
abbrev pub fresh : Session
fresh = record {
  solver = record { bindings = λ v. none; requests = λ v. none; revision = 0 };
  places = [];
  deferred = λ v. false;
  kept = 0;
}

abbrev pub with_solver : Session → Solver → Session
with_solver s z = record { solver = z; places = s.places; deferred = s.deferred; kept = s.kept }

-- a new variable
abbrev pub issue_at : Session → VariablePlace → Session
issue_at s p = record { solver = s.solver; places = p ∷ s.places; deferred = s.deferred; kept = s.kept }

-- `self.numeric.insert(id, fallback)`: a repeated request overwrites
abbrev pub request : Session → ℕ → Request → Session
request s v r = with_solver s (record { bindings = s.solver.bindings; requests = put s.solver.requests v (some r); revision = s.solver.revision })

-- `defer_never`: the term is resolved
unfoldable pub deferring : Session → Term → Session
deferring s (var v) = record { solver = s.solver; places = s.places; deferred = put s.deferred v true; kept = s.kept }
deferring s (node k ps) = s

-- a pair: the solver after it, and n of its nodes kept
abbrev pub keep : Session → Solver → ℕ → Session
keep s z n = record { solver = z; places = s.places; deferred = s.deferred; kept = s.kept + n }

-- ---- defaults

abbrev pub never : Term
never = node 4 (num 10 end)

-- the variable w that a variable leads to, if it leads to one, is bound to d w
unfoldable pub settle_at : Solver → (ℕ → Term) → Term → Solver
settle_at z d (var w) = record { bindings = put z.bindings w (some (d w)); requests = z.requests; revision = suc z.revision }
settle_at z d (node k ps) = z

unfoldable pub numeric_at : Solver → ℕ → Option Request → Solver
numeric_at z v none = z
numeric_at z v (some r) = settle_at z (λ w. default_of r (z.requests w)) (top z (var v))

unfoldable pub never_at : Solver → ℕ → Bool → Solver
never_at z v false = z
never_at z v true = settle_at z (λ w. never) (top z (var v))

-- `apply_numeric_defaults` and `apply_never_defaults`: "by rising id"; n variables from v on
unfoldable pub numeric_defaults_of : ℕ → ℕ → Solver → Solver
numeric_defaults_of zero v z = z
numeric_defaults_of (suc n) v z = numeric_defaults_of n (suc v) (numeric_at z v (z.requests v))

unfoldable pub never_defaults_of : (ℕ → Bool) → ℕ → ℕ → Solver → Solver
never_defaults_of d zero v z = z
never_defaults_of d (suc n) v z = never_defaults_of d n (suc v) (never_at z v (d v))
