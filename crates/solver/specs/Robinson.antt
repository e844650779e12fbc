-- J. A. Robinson, "A Machine-Oriented Logic Based on the Resolution Principle", Journal of the ACM 12 (1965), on terms: substitutions, the
-- disagreement set, the Unification Algorithm by its steps, most general unifiers; and what demand 2 says of plain first-order pairs.
-- An expression is a term. The symbol at a node is its tag with its numbers and the places of its children (`blank`), and symbols are taken
-- from left to right as in the byte form.
use Rattle.std.specs.Prelude.{◌≡◌, Bool, true, false, ◌||◌, List, [], ◌∷◌, ◌++◌, ◌↔◌, ℕ, zero, suc, ◌+◌, eqb, leb, length}
use Rattle.std.proofs.Math.Option.{Option, none, some}
use Rattle.terms.specs.Result.{pick}
use Rattle.terms.specs.Term.{Term, Parts, var, node, end, num, sub, size}
use Rattle.terms.specs.Tree.{same}
use Rattle.solver.specs.Shapes.{Notion, notion, blank, read_all}
use Rattle.solver.specs.Constrain.{Pair, replace, resolved, occurs}
use Rattle.solver.specs.Session.{Limits, Session}
use Rattle.solver.specs.Orders.{Command}
use Rattle.solver.specs.Demand3.{History, beginning, history, OnlyBy, Premises}

-- ---- substitutions

-- finitely many components; T/V is the pair (V, T)
abbrev pub Substitution : Type 0
Substitution = List (ℕ × Term)

-- what a variable becomes, and Eσ: E with each V of a component T/V replaced by T, all at once
unfoldable pub value : Substitution → ℕ → Term
value [] v = var v
value (c ∷ σ) v = pick (eqb v c.0) c.1 (value σ v)

abbrev pub inst : Term → Substitution → Term
inst t σ = replace (value σ) t

-- V is the variable of some component
unfoldable pub has : ℕ → Substitution → Bool
has v [] = false
has v (c ∷ σ) = eqb v c.0 || has v σ

-- Composition θλ: the components Tλ/V of the T/V of θ, where Tλ is not V; and the components of λ whose variables θ does not have.
unfoldable pub images : Substitution → Substitution → Substitution
images [] l = []
images (c ∷ θ) l = pick (same (inst c.1 l) (var c.0)) (images θ l) ((c.0, inst c.1 l) ∷ images θ l)

unfoldable pub others : Substitution → Substitution → Substitution
others θ [] = []
others θ (c ∷ l) = pick (has c.0 θ) (others θ l) (c ∷ others θ l)

abbrev pub compose : Substitution → Substitution → Substitution
compose θ l = images θ l ++ others θ l

-- ---- the disagreement set

unfoldable pub or_else : Option Pair → Option Pair → Option Pair
or_else none b = b
or_else (some a) b = some a

-- At the first position at which the two have different symbols, the terms that begin there; none if there is no such position. (Two rows
-- under one symbol have their numbers and terms at the same places: the other lines are not met.)
unfoldable mutual
  pub disagreement : Term → Term → Option Pair
  disagreement (var v) (var w) = pick (eqb v w) none (some (var v, var w))
  disagreement (var v) (node j qs) = some (var v, node j qs)
  disagreement (node k ps) (var w) = some (node k ps, var w)
  disagreement (node k ps) (node j qs) = pick (same (blank (node k ps)) (blank (node j qs))) (disagreement_row ps qs) (some (node k ps, node j qs))

  pub disagreement_row : Parts → Parts → Option Pair
  disagreement_row end qs = none
  disagreement_row (num n ps) end = none
  disagreement_row (num n ps) (num m qs) = disagreement_row ps qs
  disagreement_row (num n ps) (sub u qs) = none
  disagreement_row (sub t ps) end = none
  disagreement_row (sub t ps) (num m qs) = none
  disagreement_row (sub t ps) (sub u qs) = or_else (disagreement t u) (disagreement_row ps qs)

-- its two members, the earliest first: variables come before other terms, and of two variables that with the lower id
unfoldable pub ordered : Term → Term → Pair
ordered (var v) (var w) = pick (leb v w) (var v, var w) (var w, var v)
ordered (var v) (node j qs) = (var v, node j qs)
ordered (node k ps) (var w) = (var w, node k ps)
ordered (node k ps) (node j qs) = (node k ps, node j qs)

-- ---- the Unification Algorithm

-- where it stands: at step 2 with σk; ended in step 2 with σ; ended in step 3, without a unifier
pub data Outcome : Type 0 where
  going : Substitution → Outcome
  unifier : Substitution → Outcome
  without : Outcome

-- Step 3: with V the earliest and U the next of the disagreement set: if V is a variable that does not occur in U, σk+1 is σk{U/V}, and step 2
-- is next; otherwise the algorithm ends without a unifier.
unfoldable pub replacing : Substitution → Pair → Outcome
replacing σ (var v, u) = pick (occurs v u) without (going (compose σ ((v, u) ∷ [])))
replacing σ (node k ps, u) = without

unfoldable pub step3 : Substitution → Option Pair → Outcome
step3 σ none = without
step3 σ (some d) = replacing σ (ordered d.0 d.1)

-- Step 2: if {tσk, uσk} is a singleton, the algorithm ends with σk; otherwise step 3 is next.
unfoldable pub step2 : Term → Term → Substitution → Outcome
step2 t u σ = pick (same (inst t σ) (inst u σ)) (unifier σ) (step3 σ (disagreement (inst t σ) (inst u σ)))

unfoldable pub again : Term → Term → Outcome → Outcome
again t u (going σ) = step2 t u σ
again t u (unifier σ) = unifier σ
again t u without = without

-- Step 1: σ0 is empty and k is 0. Then k rounds of steps 2 and 3.
unfoldable pub rounds : Term → Term → ℕ → Outcome
rounds t u zero = going []
rounds t u (suc k) = again t u (rounds t u k)

-- How it ends: each round but the last replaces a variable for good, and there are no more of them than nodes.
abbrev pub unification : Term → Term → Outcome
unification t u = rounds t u (suc (size t + size u))

-- pairs as two expressions: the Tuples of their left and of their right sides
unfoldable pub lefts : List Pair → Parts
lefts [] = end
lefts (p ∷ ps) = sub p.0 (lefts ps)

unfoldable pub rights : List Pair → Parts
rights [] = end
rights (p ∷ ps) = sub p.1 (rights ps)

abbrev pub tuple : ℕ → Parts → Term
tuple n ps = node 5 (num n ps)

abbrev pub unification_of : List Pair → Outcome
unification_of ps = unification (tuple (length ps) (lefts ps)) (tuple (length ps) (rights ps))

-- ---- unifiers

-- θ unifies the pairs. It is given by its values: the paper's substitutions are `value σ`, and one that changes infinitely many variables is taken too.
abbrev pub Unifies : (ℕ → Term) → List Pair → Type 0
Unifies θ [] = Unit {0}
Unifies θ (p ∷ ps) = (replace θ p.0 ≡ replace θ p.1) × Unifies θ ps

-- θ is σδ for some δ
abbrev pub Instance : (ℕ → Term) → (ℕ → Term) → Type 0
Instance θ σ = (δ : ℕ → Term) × ((v : ℕ) → θ v ≡ replace δ (σ v))

-- σ is a most general unifier: every unifier is an instance of it
pub record MostGeneral (σ : ℕ → Term) (ps : List Pair) : Type 0 where
  pub unifies : Unifies σ ps
  pub general : (θ : ℕ → Term) → Unifies θ ps → Instance θ σ

-- what order 5 answers for each variable
abbrev pub resolves : Session → ℕ → Term
resolves s v = resolved s.solver (var v)

-- ---- what "Robinson 1965 decides" says

-- "no access marks" that do not count: each is ReadOnly already. A term without Map and Set is such a term (`markless`).
abbrev pub Unmarked : Notion → Term → Type 0
Unmarked n t = read_all n t ≡ t

abbrev pub UnmarkedPairs : Notion → List Pair → Type 0
UnmarkedPairs n [] = Unit {0}
UnmarkedPairs n (p ∷ ps) = Unmarked n p.0 × Unmarked n p.1 × UnmarkedPairs n ps

module _ (lim : Limits) (b : Bool) where
  -- "plain first-order pairs (no recovery terms, projections, number variables or access marks)", none of them cancelled, all strict or none
  pub record FirstOrder (cs : List Command) : Type 0 where
    pub only : OnlyBy b (history lim beginning cs).by
    pub premises : Premises lim cs
    pub unmarked : UnmarkedPairs (notion b) (history lim beginning cs).posed
    pub numberless : (v : ℕ) → (history lim beginning cs).requests v ≡ none

-- the pairs posed one after the other, whatever other orders came between
pub record Decides (h : History) : Type 0 where
  -- some pair was answered incompatible: exactly if they have no common unifier, and exactly where the algorithm ends without one
  pub clashing : (h.incompatible ≡ true) ↔ ((θ : ℕ → Term) → ¬ Unifies θ h.posed)
  pub incompatible : (h.incompatible ≡ true) ↔ (unification_of h.posed ≡ without)
  -- none was: exactly if they have one, and exactly where it ends with one
  pub unifiable : (h.incompatible ≡ false) ↔ ((θ : ℕ → Term) × Unifies θ h.posed)
  pub compatible : (h.incompatible ≡ false) ↔ ((σ : Substitution) × (unification_of h.posed ≡ unifier σ))
  -- his unifier and what the variables resolve to are most general, and instances of each other
  pub resolved_so : (σ : Substitution) → unification_of h.posed ≡ unifier σ
      → MostGeneral (value σ) h.posed × MostGeneral (resolves h.session) h.posed
      × Instance (value σ) (resolves h.session) × Instance (resolves h.session) (value σ)
