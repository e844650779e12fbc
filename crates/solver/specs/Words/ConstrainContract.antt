-- One check of `constrain` on what is lent: the pair at two places is taken, and what comes of it is left.
use Rattle.std.specs.Prelude.{List, [], ◌∷◌, ◌⊎◌, ◌≡◌, ℕ, ◌+◌, ◌*◌, ◌≤◌, ◌<◌, length, get_or, take, drop}
use Rattle.std.proofs.Math.Option.{none}
use Rattle.terms.specs.Term.{Term, Parts, node, AllVars, Held}
use Rattle.terms.specs.Tree.{subs}
use Rattle.solver.specs.declared.Solver.{Solver}
use Rattle.solver.specs.declared.Checked.{Checked}
use Rattle.solver.specs.declared.Solved.{Solved}
use Rattle.solver.specs.declared.ChainEnd.{ChainEnd}
use Rattle.unify.specs.Solver.{Out}
use Rattle.solver.specs.Constrain as solving
use Rattle.solver.specs.Constrain.{Pair, top}
use Rattle.solver.specs.Session.{Session, issued, with_solver}
use Rattle.solver.specs.Words.ReachContract.{Steady}
use Rattle.solver.specs.Orders.{solver_of, verdict_code, posing}
use Rattle.solver.specs.Invariant.{InOrder}
use Rattle.solver.specs.Words.SessionRepresentation.{Represents, limits_of, verdict_number}
use Rattle.solver.specs.Words.PendingContract.{HeldPairs, PushedPairs}
use Rattle.solver.specs.Words.Worklist.{Zero}
use Rattle.solver.specs.Words.ChainEnds.{HeldEnd, Inside}
use Rattle.solver.specs.Words.ChainRecord.{Coming, Last}
use Rattle.solver.specs.Words.Halves.{half_words}
use Rattle.solver.specs.Words.TableLayout.{lasting_words}

-- the variables of a term, and of pairs, are below N
abbrev pub Within : ℕ → Term → Type 0
Within N t = AllVars (λ v. v < N) t

abbrev pub AllWithin : ℕ → List Pair → Type 0
AllWithin N [] = Unit {0}
AllWithin N (p ∷ ps) = Within N p.0 × Within N p.1 × AllWithin N ps

-- the first word of the pending pairs
abbrev pub pending_from : Solver → ℕ
pending_from x = lasting_words x.variables

-- `count` pairs are pending, ps, and no other word of the pending pairs is in use
pub record Waiting (ks vs st : List ℕ) (count : ℕ) (ps : List Pair) : Type 0 where
  pub pairs : HeldPairs ks vs st count ps
  pub blank : (i : ℕ) → count ≤ i → get_or st i 0 ≡ 0

-- a term at a place, its variables issued
pub record Known (ks vs : List ℕ) (s : Session) (i : ℕ) (t : Term) : Type 0 where
  pub held : Held ks vs i t
  pub within : Within (issued s) t

-- room for a pair: pending pairs after what lasts; in the work area, all 0, half a word a token and a word a node, and two a variable; and every place is
-- below 65,536, so that two places are one word
pub record Scratch (x : Solver) (ks ts work : List ℕ) : Type 0 where
  pub pairs : pending_from x + x.nodes ≤ length ts
  pub few : length ks ≤ 65536
  pub links : half_words (length ks) + x.nodes ≤ length work
  pub marks : x.variables + x.variables ≤ length work
  pub clear : Zero work

-- the same room for a check, the pending pairs being st
pub record CheckRoom (x : Solver) (ks st work : List ℕ) : Type 0 where
  pub pairs : x.nodes ≤ length st
  pub few : length ks ≤ 65536
  pub links : half_words (length ks) + x.nodes ≤ length work
  pub marks : x.variables + x.variables ≤ length work
  pub clear : Zero work

-- the unbound variable v faces the term t, which is the end q
pub record Facing (x : Solver) (ks vs ts : List ℕ) (s : Session) (v : ℕ) (q : ChainEnd) (t : Term) : Type 0 where
  pub represents : Represents x ks vs ts s
  pub steady : Steady s.solver.revision s.solver.bindings
  pub coming : Coming (issued s) s.solver
  pub counted : s.solver.revision ≤ issued s
  pub free : s.solver.bindings v ≡ none
  pub last : Last s.solver.bindings v t
  pub low : v < issued s
  pub inside : Inside (length ks) q
  pub held : HeldEnd ks vs t q
  pub within : Within (issued s) t

-- the nodes t and u stand at a and b, and there is room for the pairs of their children
pub record Nodes (x : Solver) (ks vs : List ℕ) (a b count : ℕ) (t u : Term) : Type 0 where
  pub tag : ℕ
  pub row : Parts
  pub left : t ≡ node tag row
  pub other : ℕ
  pub behind : Parts
  pub right : u ≡ node other behind
  pub at_left : Held ks vs a t
  pub at_right : Held ks vs b u
  pub room : count + length (subs row) ≤ x.nodes

-- the nodes t and u are the ends a and b, and there is room for the pairs of their children
pub record Met (x : Solver) (ks vs : List ℕ) (a b : ChainEnd) (count : ℕ) (t u : Term) : Type 0 where
  pub tag : ℕ
  pub row : Parts
  pub left : t ≡ node tag row
  pub other : ℕ
  pub behind : Parts
  pub right : u ≡ node other behind
  pub inside_left : Inside (length ks) a
  pub inside_right : Inside (length ks) b
  pub at_left : HeldEnd ks vs t a
  pub at_right : HeldEnd ks vs u b
  pub room : count + length (subs row) ≤ x.nodes

-- the pair of t at i and u at j is next, with `count` pairs pending below it
pub record Due (x : Solver) (ks vs ts : List ℕ) (s : Session) (i j count : ℕ) (t u : Term) : Type 0 where
  pub represents : Represents x ks vs ts s
  pub ordered : InOrder (issued s) s.solver
  pub left : Known ks vs s i t
  pub right : Known ks vs s j u
  pub room : (k : ℕ) (row : Parts) → top s.solver t ≡ node k row → count + length (subs row) ≤ x.nodes

-- what is pending after a check: what was, or the pairs of the children of two nodes as well
abbrev pub Stays : (st₀ st : List ℕ) (count r : ℕ) → Type 0
Stays st₀ st count r = (r ≡ count) × (st ≡ st₀)

pub record Pushes (x : Solver) (ks vs : List ℕ) (t u : Term) (st₀ st : List ℕ) (count r : ℕ) : Type 0 where
  pub left : ℕ
  pub right : ℕ
  pub nodes : Nodes x ks vs left right count t u
  pub pushed : PushedPairs ks vs left right t u count st₀ st r

-- Every change of the columns is counted: the revision does not fall, and where it is the same the columns have the words that they had.
pub record ChangesCounted (x y : Solver) (ts₀ ts : List ℕ) : Type 0 where
  pub rises : x.revision ≤ y.revision
  pub quiet : y.revision ≡ x.revision → take (pending_from x) ts ≡ take (pending_from x) ts₀

-- What a check leaves, where the definition leaves w: the solver, whether the pair is compatible so far, the pending pairs, in the words st.
-- What is lent behind the columns stays. t and u are the nodes whose children were pushed, if any were.
pub record After (x : Solver) (ks vs ts₀ ts st₀ st : List ℕ) (s : Session) (t u : Term) (count : ℕ) (w : solving.Check) (r : Checked) : Type 0 where
  pub represents : Represents r.solver ks vs ts (with_solver s w.state)
  pub good : r.good ≡ w.good
  pub waiting : Waiting ks vs st r.count w.todo
  pub stack : Stays st₀ st count r.count ⊎ Pushes x ks vs t u st₀ st count r.count
  pub variables : r.solver.variables ≡ x.variables
  pub nodes : r.solver.nodes ≡ x.nodes
  pub size : length ts ≡ length ts₀
  pub rest : drop (pending_from x) ts ≡ drop (pending_from x) ts₀
  pub pending_size : length st ≡ length st₀
  pub counted : ChangesCounted x r.solver ts₀ ts

-- What `solve_pair` leaves, where the definition ends with `goal`: the session with the definition's solver, its verdict, and no pair pending.
pub record Constrained (x : Solver) (ks vs ts₀ ts : List ℕ) (s : Session) (goal : Out solving.Solver) (r : Solved) : Type 0 where
  pub represents : Represents r.solver ks vs ts (with_solver s (solver_of goal))
  pub verdict : verdict_number r.verdict ≡ verdict_code goal
  pub blank : Zero (drop (pending_from x) ts)
  pub variables : r.solver.variables ≡ x.variables
  pub nodes : r.solver.nodes ≡ x.nodes
  pub counted : ChangesCounted x r.solver ts₀ ts

-- What `constrain` leaves of a pair with m nodes, where the definition ends with `goal`: the session after the order, held by the first
-- tokens. Where nothing was bound, the counters, with the number of tokens, and every word of the table are those of before; else the session
-- has all tokens.
pub record Posed (x : Solver) (ks vs ts₀ ts : List ℕ) (s : Session) (m : ℕ) (goal : Out solving.Solver) (r : Solved) : Type 0 where
  pub represents : Represents r.solver (take r.solver.top ks) (take r.solver.top vs) ts (posing (limits_of x) s m goal).session
  pub verdict : verdict_number r.verdict ≡ verdict_code goal
  pub blank : Zero (drop (pending_from x) ts)
  pub variables : r.solver.variables ≡ x.variables
  pub nodes : r.solver.nodes ≡ x.nodes
  pub counters : r.solver.revision ≡ x.revision → r.solver ≡ x
  pub words : r.solver.revision ≡ x.revision → ts ≡ ts₀
  pub tokens : (r.solver.revision ≡ x.revision → ⊥) → r.solver.top ≡ length ks
