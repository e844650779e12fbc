-- `Solver` of solver.rs: bindings, requests, the revision; `resolve` and `constrain`.
use Rattle.std.specs.Prelude.{Bool, true, false, ◌&&◌, ◌||◌, List, [], ◌∷◌, ℕ, zero, suc, eqb}
use Rattle.std.proofs.Math.Option.{Option, none, some}
use Rattle.terms.specs.Term.{Term, Parts, var, node, end, num, sub}
use Rattle.terms.specs.Tree.{same}
use Rattle.terms.specs.Questions.{among, meets}
use Rattle.unify.specs.Solver.{put, Out, cancelled, done}
use Rattle.solver.specs.Families.{Request, belongs, meet}
use Rattle.solver.specs.Shapes.{Notion, same_shape, pushed}

-- A binding is the term that was posed, or the end of its chain where that is a variable, or a default: none of its own variables is
-- replaced. The Rust binds resolved terms; what either resolves to is the same.
pub record Solver : Type 0 where
  pub bindings : ℕ → Option Term
  pub requests : ℕ → Option Request
  pub revision : ℕ

-- ---- `resolve`

-- every variable replaced by its term, at once
unfoldable mutual
  pub replace : (ℕ → Term) → Term → Term
  replace f (var v) = f v
  replace f (node k ps) = node k (replace_row f ps)

  pub replace_row : (ℕ → Term) → Parts → Parts
  replace_row f end = end
  replace_row f (num n ps) = num n (replace_row f ps)
  replace_row f (sub t ps) = sub (replace f t) (replace_row f ps)

-- a variable, or what is made of its binding
unfoldable pub followed : ℕ → Option Term → (Term → Term) → Term
followed v none f = var v
followed v (some t) f = f t

-- as many rounds as there are bindings, which is enough
unfoldable pub resolve : ℕ → (ℕ → Option Term) → Term → Term
resolve zero b t = t
resolve (suc n) b t = replace (λ v. followed v (b v) (λ u. resolve n b u)) t

-- the same at the top of the term alone
unfoldable pub follow : ℕ → (ℕ → Option Term) → Term → Term
follow zero b t = t
follow (suc n) b (var v) = followed v (b v) (λ u. follow n b u)
follow (suc n) b (node k ps) = node k ps

-- what order 5 answers, and its top
abbrev pub resolved : Solver → Term → Term
resolved z t = resolve z.revision z.bindings t

abbrev pub top : Solver → Term → Term
top z t = follow z.revision z.bindings t

-- ---- what `constrain` asks of a term; `substitute_once` comes to every term, those inside a projection too

abbrev pub always : Term → Bool
always t = true

-- Unknown or Error
unfoldable pub recovery : Term → Bool
recovery (var v) = false
recovery (node k ps) = among k (2 ∷ 3 ∷ [])

abbrev pub recovers : Term → Bool
recovers t = meets recovery always t

unfoldable pub is : ℕ → Term → Bool
is v (var w) = eqb v w
is v (node k ps) = false

abbrev pub occurs : ℕ → Term → Bool
occurs v t = meets (is v) always t

unfoldable pub projects : Term → Bool
projects (var v) = false
projects (node k ps) = eqb k 18

-- ---- `constrain`

abbrev pub Requests : Type 0
Requests = ℕ → Option Request

abbrev pub Pair : Type 0
Pair = Term × Term

-- A number variable is about to be bound to a term: the requests after it, or none if that is not admissible. The request of a variable
-- goes on to the variable that it is bound to.
unfoldable pub joined : Requests → ℕ → Option Request → Option Requests
joined rs w none = none
joined rs w (some r) = some (put rs w (some r))

unfoldable pub join : Requests → Request → ℕ → Option Request → Option Requests
join rs r w none = some (put rs w (some r))
join rs r w (some s) = joined rs w (meet r s)

unfoldable pub allow : Requests → Bool → Option Requests
allow rs true = some rs
allow rs false = none

unfoldable pub admit : Requests → Option Request → Term → Option Requests
admit rs none t = some rs
admit rs (some r) (var w) = join rs r w (rs w)
admit rs (some r) (node k ps) = allow rs (belongs r.family (node k ps))

-- one check: the solver after it, whether the pair was compatible so far, and the pairs pending
pub record Check : Type 0 where
  pub state : Solver
  pub good : Bool
  pub todo : List Pair

abbrev pub passed : Solver → List Pair → Check
passed z ps = record { state = z; good = true; todo = ps }

abbrev pub failed : Solver → List Pair → Check
failed z ps = record { state = z; good = false; todo = ps }

abbrev pub bound : Solver → ℕ → Term → Requests → List Pair → Check
bound z v t rs ps = passed (record { bindings = put z.bindings v (some t); requests = rs; revision = suc z.revision }) ps

-- an unbound variable against another term: recovery, then the family, then whether the variable occurs
unfoldable pub bind₁ : Solver → ℕ → Term → List Pair → Option Requests → Bool → Check
bind₁ z v t ps none o = failed z ps
bind₁ z v t ps (some rs) true = failed z ps
bind₁ z v t ps (some rs) false = bound z v t rs ps

unfoldable pub bind₀ : Solver → ℕ → Term → List Pair → Bool → Check
bind₀ z v t ps true = passed z ps
bind₀ z v t ps false = bind₁ z v t ps (admit z.requests (z.requests v) t) (occurs v (resolved z t))

unfoldable pub bind : Solver → ℕ → Term → List Pair → Check
bind z v t ps = bind₀ z v t ps (recovers (resolved z t))

-- `pending.extend(a.into_iter().zip(b))`: the last pair comes next
unfoldable pub zip_on : List Term → List Term → List Pair → List Pair
zip_on [] us ps = ps
zip_on (t ∷ ts) [] ps = ps
zip_on (t ∷ ts) (u ∷ us) ps = zip_on ts us ((t, u) ∷ ps)

-- two terms that are no variables: a recovery term; a projection; the shapes
unfoldable pub decompose : Solver → Term → Term → List Pair → Bool → Bool → Bool → Check
decompose z t u ps true p s = passed z ps
decompose z t u ps false true s = failed z ps
decompose z t u ps false false true = passed z (zip_on (pushed t) (pushed u) ps)
decompose z t u ps false false false = failed z ps

module _ (n : Notion) where
  unfoldable pub differ : Solver → Term → Term → List Pair → Check
  differ z (var v) u ps = bind z v u ps
  differ z (node k rs) (var v) ps = bind z v (node k rs) ps
  differ z (node k rs) (node j qs) ps =
      decompose z (node k rs) (node j qs) ps (recovery (node k rs) || recovery (node j qs)) (projects (node k rs)) (same_shape n (node k rs) (node j qs))

  unfoldable pub match : Solver → Term → Term → List Pair → Bool → Check
  match z t u ps true = passed z ps
  match z t u ps false = differ z (top z t) (top z u) ps

  unfoldable pub check_pair : Solver → Term → Term → List Pair → Check
  check_pair z t u ps = match z t u ps (same (resolved z t) (resolved z u))

  -- "k checks pass, the next cancels. Bindings made before it stay."
  unfoldable pub settles : ℕ → Solver → Bool → List Pair → Out Solver
  settles zero z ok [] = done z ok
  settles zero z ok (p ∷ ps) = cancelled z
  settles (suc k) z ok [] = done z ok
  settles (suc k) z ok (p ∷ ps) =
      let x = check_pair z p.0 p.1 ps in
      settles k x.state (ok && x.good) x.todo

  abbrev pub constrain : ℕ → Solver → Term → Term → Out Solver
  constrain k z t u = settles k z true ((t, u) ∷ [])
