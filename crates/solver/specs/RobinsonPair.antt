-- Robinson 1965, pair by pair, in every session: "For plain first-order pairs (no recovery terms, projections, number variables or access marks)
-- Robinson 1965 decides." A pair is judged by its two terms as they resolve just before it, whatever orders came earlier.
use Rattle.std.specs.Prelude.{◌≡◌, Bool, true, false, List, [], ◌∷◌, ◌⊎◌, ◌↔◌, ℕ, ◌+◌, ◌≤◌}
use Rattle.std.proofs.Math.Option.{none}
use Rattle.terms.specs.Term.{Term, size}
use Rattle.terms.specs.Questions.{meets}
use Rattle.solver.specs.Shapes.{Notion, notion}
use Rattle.solver.specs.Constrain.{Pair, replace, resolved, occurs, always}
use Rattle.solver.specs.Session.{Limits, Session}
use Rattle.solver.specs.Orders.{pair, verdict, known, crowded, order}
use Rattle.solver.specs.Demand3.{outside}
use Rattle.solver.specs.Robinson.{Substitution, value, unifier, without, unification, Instance, MostGeneral, Unmarked}

-- ---- what Robinson's deciding a pair means

-- t and u are the two terms as they resolve in the session s; y is the session after the pair. σ and μ are most general unifiers of the two, each an
-- instance of the other, and what any term resolves to in y is what it resolved to in s, with μ applied.
pub record Unified (s y : Session) (t u : Term) (σ μ : ℕ → Term) : Type 0 where
  pub his : MostGeneral σ ((t, u) ∷ [])
  pub ours : MostGeneral μ ((t, u) ∷ [])
  pub forth : Instance σ μ
  pub back : Instance μ σ
  pub applied : (w : Term) → resolved y.solver w ≡ replace μ (resolved s.solver w)

-- `yes` is that the pair was answered compatible, `no` that it was answered incompatible.
pub record Decided (s y : Session) (t u : Term) (yes no : Type 0) : Type 0 where
  -- compatible: exactly where the algorithm ends with a unifier, and exactly if there is one
  pub compatible : yes ↔ ((σ : Substitution) × (unification t u ≡ unifier σ))
  pub unifiable : yes ↔ ((θ : ℕ → Term) × (replace θ t ≡ replace θ u))
  -- incompatible: exactly where it ends without one, and exactly if there is none at all
  pub incompatible : no ↔ (unification t u ≡ without)
  pub clashing : no ↔ ((θ : ℕ → Term) → ¬ (replace θ t ≡ replace θ u))
  -- and his unifier, up to the names of variables, is what the pair did to all that is resolved
  pub unified : (σ : Substitution) → unification t u ≡ unifier σ → (μ : ℕ → Term) × Unified s y t u (value σ) μ

-- ---- the pairs

-- t, resolved in s, is a plain first-order term: "no recovery terms, projections", "access marks" (that do not count), "number variables": of none of
-- its variables anything is requested (a request is handed on along bindings)
pub record FirstOrderIn (n : Notion) (s : Session) (t : Term) : Type 0 where
  pub plain : meets outside always (resolved s.solver t) ≡ false
  pub unmarked : Unmarked n (resolved s.solver t)
  pub numberless : (v : ℕ) → occurs v (resolved s.solver t) ≡ true → s.solver.requests v ≡ none

-- The pair is posed strictly (b is true) or not: which access marks count is its own.
module _ (lim : Limits) (b : Bool) where
  -- both are, and the pair is not refused (6 or 7)
  pub record PlainPair (s : Session) (t u : Term) : Type 0 where
    pub known_left : known s t ≡ true
    pub known_right : known s u ≡ true
    pub room : crowded lim s (size t + size u) ≡ false
    pub left : FirstOrderIn (notion b) s t
    pub right : FirstOrderIn (notion b) s u

  -- ---- the claim

  -- of the pair posed in s with k checks
  abbrev pub DecidedBy : Session → ℕ → Term → Term → Type 0
  DecidedBy s k t u = Decided s (order lim s (pair b k t u)).session (resolved s.solver t) (resolved s.solver u)
      ((order lim s (pair b k t u)).reply ≡ verdict 1) ((order lim s (pair b k t u)).reply ≡ verdict 0)

  -- ROBINSON DECIDES the pair: with enough checks; and with fewer it is so, or cancelled (2)
  pub record RobinsonDecides (s : Session) (t u : Term) : Type 0 where
    pub checks : ℕ
    pub enough : (k : ℕ) → checks ≤ k → DecidedBy s k t u
    pub fewer : (k : ℕ) → ((order lim s (pair b k t u)).reply ≡ verdict 2) ⊎ DecidedBy s k t u

-- ---- such pairs by the terms as they were posed

-- no recovery term, no projection and no access mark that does not count; in a term, and in all terms of pairs
abbrev pub Pure : Notion → Term → Type 0
Pure n t = (meets outside always t ≡ false) × Unmarked n t

abbrev pub AllPure : Notion → List Pair → Type 0
AllPure n [] = Unit {0}
AllPure n (p ∷ ps) = Pure n p.0 × Pure n p.1 × AllPure n ps
