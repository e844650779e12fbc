-- Terms after the tokens of a session, as an order brings them; what an order asks to resolve, and where resolving it begins.
use Rattle.std.specs.Prelude.{List, ◌≡◌, ℕ, ◌+◌, ◌^◌, ◌≤◌, ◌<◌, length, take}
use Rattle.terms.specs.Term.{Term, var, items, size, bytes, AllVars, Held}
use Rattle.solver.specs.declared.Solver.{Solver}
use Rattle.solver.specs.declared.Site.{Site}
use Rattle.solver.specs.declared.Site.TheVariants.{Slot, Hole}
use Rattle.solver.specs.declared.PlaceWords.{PlaceWords}
use Rattle.solver.specs.declared.Subject.{Subject}
use Rattle.solver.specs.declared.Subject.TheVariants.{Follows, Id}
use Rattle.solver.specs.declared.Start.{Start}
use Rattle.solver.specs.declared.Start.TheVariants.{Begins, Default, Free}
use Rattle.solver.specs.Constrain.{resolve, resolved}
use Rattle.solver.specs.Session.{Session, VariablePlace, at, gap, issued}
use Rattle.solver.specs.Invariant.{InOrder}
use Rattle.solver.specs.Words.Bindings.{defaults, builtin}
use Rattle.solver.specs.Words.SessionRepresentation.{Represents}
use Rattle.solver.specs.Words.Worklist.{Zero}

-- ---- orders 3 to 5 and 22: terms that follow

-- the session z is held by the first tokens of ks and vs
pub record Behind (x : Solver) (ks vs ts : List ℕ) (z : Session) : Type 0 where
  pub ordered : InOrder (issued z) z.solver
  pub represents : Represents x (take x.top ks) (take x.top vs) ts z
  pub inside : x.top ≤ length ks
  pub pairs : length vs ≡ length ks
  pub short : length ks < defaults

-- orders 3 and 5: the term t follows, its variables issued, and its nodes may be kept
pub record Poses (x : Solver) (ks vs ts : List ℕ) (z : Session) (t : Term) : Type 0 where
  pub behind : Behind x ks vs ts z
  pub held : Held ks vs x.top t
  pub within : AllVars (λ v. v < issued z) t
  pub few : z.kept + size t ≤ x.nodes

-- orders 4 and 22: two terms follow and are all that follows, the second at q
pub record PosesPair (x : Solver) (ks vs ts : List ℕ) (z : Session) (q : ℕ) (t u : Term) : Type 0 where
  pub behind : Behind x ks vs ts z
  pub left : Held ks vs x.top t
  pub right : Held ks vs (x.top + length (items t)) u
  pub all : length ks ≡ x.top + length (items t) + length (items u)
  pub place : q ≡ x.top + length (items t)
  pub within_left : AllVars (λ v. v < issued z) t
  pub within_right : AllVars (λ v. v < issued z) u
  pub few : z.kept + (size t + size u) ≤ x.nodes

-- ---- orders 0 to 2: the place of a variable

abbrev pub place_of : Site → VariablePlace
place_of (Slot s i) = at s i
place_of (Hole s) = gap s

-- its words in the table: what it is of, its site, and its slot
abbrev pub words_of : Site → PlaceWords
words_of (Slot s i) = record { kind = 1; site = s; slot = i }
words_of (Hole s) = record { kind = 2; site = s; slot = 0 }

-- ---- what is resolved

-- order 5: the term that follows; orders 1, 2 and 21: a variable
abbrev pub Asked : (x : Solver) (ks vs ts : List ℕ) → Subject → Session → Term → Type 0
Asked x ks vs ts Follows z t = Poses x ks vs ts z t
Asked x ks vs ts (Id v) z t = Represents x ks vs ts z × (t ≡ var v) × (v < x.variables)

-- the bytes of what it resolves to
abbrev pub resolved_to : Session → Term → List ℕ
resolved_to z t = bytes (resolved z.solver t)

-- resolving t begins at the term at p, with m bindings left to follow, or t resolves to a builtin, or is a variable that stands for itself
abbrev pub Starts : (x : Solver) (ks vs : List ℕ) → Session → Term → Start → Type 0
Starts x ks vs z t (Begins p m) = (u : Term) × Held ks vs p u × (resolved z.solver t ≡ resolve m z.solver.bindings u) × (m ≤ x.revision) × (p < 2 ^ 32)
Starts x ks vs z t (Default b) = (b.code < 32) × (resolved z.solver t ≡ builtin b.code)
Starts x ks vs z t (Free v) = resolved z.solver t ≡ var v

-- frames for resolving, two words a binding, all 0
pub record Frames (x : Solver) (work : List ℕ) : Type 0 where
  pub room : x.revision + x.revision ≤ length work
  pub clear : Zero work
