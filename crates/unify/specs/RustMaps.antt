-- The Rust's maps and vectors as lists, and the rounds of its `resolve`, on the trees of this crate; the Rust's `Solver` in full stands in
-- crate solver, specs/Rust.antt, and is proved with these.
--   TypeId::Inference(id)      var id
--   any other TypeId           node h ts, with the children in the order of `map_children`
--   HashMap                    a list of keys with their values, each key once
--   Vec                        a list
use Rattle.std.proofs.Math.Logic.{ite}
use Rattle.std.proofs.Math.Option.{Option, none, some}
use Rattle.std.specs.Prelude.{List, [], ◌∷◌, get_or, ℕ, zero, suc}
use Rattle.std.proofs.Math.Decide.{ℕ_discrete, dec_le}
use Rattle.unify.specs.Term.{Sort, Tree, var, node, nil, ◌▸◌, Term, same?}
use Rattle.unify.specs.Solver.{Sig, T}

-- HashMap::get, HashMap::insert (it replaces), and a map sorted by its keys
unfoldable pub look : {A : Type 0} → List (ℕ × A) → ℕ → Option A
look [] v = none
look (p ∷ ps) v = ite (ℕ_discrete v p.0) (some p.1) (look ps v)

unfoldable pub insert : {A : Type 0} → List (ℕ × A) → ℕ → A → List (ℕ × A)
insert [] v a = (v, a) ∷ []
insert (p ∷ ps) v a = ite (ℕ_discrete v p.0) ((v, a) ∷ ps) (p ∷ insert ps v a)

unfoldable pub place : {A : Type 0} → ℕ × A → List (ℕ × A) → List (ℕ × A)
place p [] = p ∷ []
place p (q ∷ qs) = ite (dec_le p.0 q.0) (p ∷ q ∷ qs) (q ∷ place p qs)

unfoldable pub sorted : {A : Type 0} → List (ℕ × A) → List (ℕ × A)
sorted [] = []
sorted (p ∷ ps) = place p (sorted ps)

-- the map with keys (site, slot)
unfoldable pub look_site : List (ℕ × ℕ × ℕ) → ℕ → ℕ → Option ℕ
look_site [] s i = none
look_site (p ∷ ps) s i = ite (ℕ_discrete s p.0) (ite (ℕ_discrete i p.1) (some p.2) (look_site ps s i)) (look_site ps s i)

module _ {H : Type 0} where
  unfoldable pub or_else : Option (Term H) → Term H → Term H
  or_else none t = t
  or_else (some u) t = u

  -- TypeId::substitute_once: a term is replaced by what the function gives, as it stands; where it gives nothing, the children are walked
  unfoldable pub substitute_once : (Term H → Option (Term H)) → {k : Sort} → Tree H k → Tree H k
  substitute_once f (var v) = or_else (f (var v)) (var v)
  substitute_once f (node h ts) = or_else (f (node h ts)) (node h (substitute_once f ts))
  substitute_once f nil = nil
  substitute_once f (t ▸ ts) = substitute_once f t ▸ substitute_once f ts

  -- the function that `resolve` hands to substitute_once: self.bindings[id] of an Inference; `panic` where there is no such place
  unfoldable pub binding : Term H → List (Option (Term H)) → Term H → Option (Term H)
  binding panic bs (var v) = get_or bs v (some panic)
  binding panic bs (node h ts) = none

  -- self.bindings[id] = Some(ty)
  unfoldable pub store : Term H → List (Option (Term H)) → ℕ → Term H → List (Option (Term H))
  store panic [] v t = some panic ∷ []
  store panic (b ∷ bs) zero t = some t ∷ bs
  store panic (b ∷ bs) (suc v) t = b ∷ store panic bs v t

-- `panic` stands where the Rust would panic: at an `unreachable!`, and at an index out of range.
module _ (S : Sig) (panic : T S) where
  -- the loop of `resolve`, so many rounds: `none` where it runs out of them
  unfoldable pub unless_same : {P : Type 0} → Dec P → T S → Option (T S) → Option (T S)
  unless_same (yes e) t o = some t
  unless_same (no e) t o = o

  unfoldable pub rounds : List (Option (T S)) → ℕ → T S → Option (T S)
  rounds bs zero t = none
  rounds bs (suc f) t = unless_same (same? S.head? (substitute_once (binding panic bs) t) t) t (rounds bs f (substitute_once (binding panic bs) t))
