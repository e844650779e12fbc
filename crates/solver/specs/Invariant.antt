-- What holds of a session after every list of orders, whatever they were: its solver is in order, which every order keeps, and what follows from that.
use Rattle.std.specs.Prelude.{◌≡◌, true, List, [], ◌∷◌, ◌⊎◌, ℕ, zero, suc, ◌+◌, ◌≤◌, ◌<◌, length}
use Rattle.std.proofs.Math.Option.{Option, none, some}
use Rattle.terms.specs.Term.{Term, var}
use Rattle.terms.specs.Questions.{among}
use Rattle.solver.specs.Constrain.{Solver, resolved, top, occurs, constrain}
use Rattle.unify.specs.Solver.{Out, cancelled, done}
use Rattle.solver.specs.Shapes.{Notion}
use Rattle.solver.specs.Session.{Limits, Session, issued}
use Rattle.solver.specs.Orders.{known}

unfoldable pub one : Option Term → ℕ
one none = 0
one (some t) = 1

-- how many of the first n variables are bound
unfoldable pub bound_below : ℕ → (ℕ → Option Term) → ℕ
bound_below zero b = 0
bound_below (suc n) b = one (b n) + bound_below n b

-- ---- in order

-- each variable of the term is free, or one of the list
abbrev pub LeadsTo : (ℕ → Option Term) → List ℕ → Term → Type 0
LeadsTo b vs t = (w : ℕ) → occurs w t ≡ true → (b w ≡ none) ⊎ (among w vs ≡ true)

-- the binding of each variable of the list leads to later ones of it alone
abbrev pub Descends : (ℕ → Option Term) → List ℕ → Type 0
Descends b [] = Unit {0}
Descends b (v ∷ vs) = ((t : Term) → b v ≡ some t → LeadsTo b vs t) × Descends b vs

-- A solver over N issued variables is in order. A fresh one is, and every order keeps it; nothing is said of which orders there were.
pub record InOrder (N : ℕ) (z : Solver) : Type 0 where
  -- "acyclic inference substitutions": the bound variables stand in a list in which each binding names only free ones and later ones
  pub sequence : List ℕ
  pub descends : Descends z.bindings sequence
  pub listed : (v : ℕ) (t : Term) → z.bindings v ≡ some t → among v sequence ≡ true
  -- the revision "is the number of bound variables"
  pub many : length sequence ≡ z.revision
  pub counted : bound_below N z.bindings ≡ z.revision
  -- only issued variables are bound, have a request, and stand in bindings
  pub unbound : (v : ℕ) → N ≤ v → z.bindings v ≡ none
  pub unrequested : (v : ℕ) → N ≤ v → z.requests v ≡ none
  pub inside : (v : ℕ) (t : Term) → z.bindings v ≡ some t → (w : ℕ) → occurs w t ≡ true → w < N

-- ---- what follows

pub record Invariant (s : Session) : Type 0 where
  -- the revision "is the number of bound variables": only issued ones are bound, and to terms with issued variables
  pub counted : bound_below (issued s) s.solver.bindings ≡ s.solver.revision
  pub far : (v : ℕ) → issued s ≤ v → s.solver.bindings v ≡ none
  pub within : (v : ℕ) (t : Term) → s.solver.bindings v ≡ some t → known s t ≡ true
  -- "acyclic inference substitutions": resolving comes to the end of every chain, and what is left is free
  pub free : (v : ℕ) → s.solver.bindings v ≡ none → resolved s.solver (var v) ≡ var v
  pub bound : (v : ℕ) (t : Term) → s.solver.bindings v ≡ some t → resolved s.solver (var v) ≡ resolved s.solver t
  pub stays : (t : Term) (w : ℕ) → occurs w (resolved s.solver t) ≡ true → s.solver.bindings w ≡ none
  -- the top of a term: it resolves to the same, and a variable there is free
  pub tops : (t : Term) → resolved s.solver (top s.solver t) ≡ resolved s.solver t
  pub topped : (t : Term) (v : ℕ) → top s.solver t ≡ var v → s.solver.bindings v ≡ none

-- a session within its limits
pub record WithinLimits (lim : Limits) (s : Session) : Type 0 where
  pub variables : issued s ≤ lim.variables
  pub nodes : s.kept ≤ lim.nodes

-- a pair is settled, with K checks or more
abbrev pub Settled : Out Solver → Type 0
Settled (cancelled z) = ⊥
Settled (done z b) = Unit {0}

abbrev pub SettledBy : Notion → ℕ → Solver → Term → Term → Type 0
SettledBy n K z t u = (k : ℕ) → K ≤ k → Settled (constrain n k z t u)
