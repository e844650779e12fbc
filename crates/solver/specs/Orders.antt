-- Orders 0 to 8, 21 and 22 on a session: the session after an order, and its answer.
use Rattle.std.specs.Prelude.{Bool, true, false, not, ◌&&◌, List, [], ◌∷◌, ℕ, ◌+◌, eqb, ltb, leb}
use Rattle.std.proofs.Math.Option.{Option, none, some}
use Rattle.terms.specs.Term.{Term, var, node, size}
use Rattle.terms.specs.Questions.{meets}
use Rattle.unify.specs.Solver.{Out, cancelled, done}
use Rattle.solver.specs.Families.{Request}
use Rattle.solver.specs.Shapes.{notion}
use Rattle.solver.specs.Constrain.{Solver, resolved, always, constrain}
use Rattle.solver.specs.Session.{Limits, VariablePlace, at, gap, Session, issued, find, with_solver, issue_at, request, deferring, keep, numeric_defaults_of, never_defaults_of}

-- an order, read
pub data Command : Type 0 where
  -- 0: site, slot
  variable : ℕ → ℕ → Command
  -- 1 and 21: site, what is requested: `requested` of the fallback code, or a range's request
  number : ℕ → Request → Command
  -- 2: site
  hole : ℕ → Command
  -- 3: term
  defer : Term → Command
  -- 4 and 22: whether it is strict (22), k, two terms
  pair : Bool → ℕ → Term → Term → Command
  -- 5: term
  resolving : Term → Command
  -- 6 numeric defaults, 7 never defaults, 8 revision
  numbers nevers revision : Command
  -- one that reading refused, with its refusal
  unread : ℕ → Command

pub data Reply : Type 0 where
  term : Term → Reply
  -- orders 4 and 22
  verdict : ℕ → Reply
  -- orders 6 and 7
  changed : Bool → Reply
  -- order 8
  count : ℕ → Reply
  nothing : Reply
  refused : ℕ → Reply

pub record Step : Type 0 where
  pub session : Session
  pub reply : Reply

infixl 20 ◌gives◌
abbrev pub ◌gives◌ : Session → Reply → Step
s gives r = record { session = s; reply = r }

-- "0 incompatible, 1 compatible, 2 cancelled"
unfoldable pub verdict_code : Out Solver → ℕ
verdict_code (done z false) = 0
verdict_code (done z true) = 1
verdict_code (cancelled z) = 2

unfoldable pub solver_of : Out Solver → Solver
solver_of (done z b) = z
solver_of (cancelled z) = z

-- every variable of the term is issued
unfoldable pub beyond : ℕ → Term → Bool
beyond n (var v) = leb n v
beyond n (node k ps) = false

abbrev pub known : Session → Term → Bool
known s t = not (meets (beyond (issued s)) always t)

-- 0 or 1: whether the revision is another
abbrev pub moved : Solver → Solver → Bool
moved z y = not (eqb y.revision z.revision)

-- the nodes that a pair of m nodes keeps: all of them where it made a binding, else none
abbrev pub keeps : Bool → ℕ → ℕ
keeps true m = m
keeps false m = 0

module _ (lim : Limits) where
  -- 8: "a new variable while 512 exist"
  abbrev pub full : Session → Bool
  full s = leb lim.variables (issued s)

  -- 7: "kept nodes and this order's nodes exceed 2,048"
  abbrev pub crowded : Session → ℕ → Bool
  crowded s n = ltb lim.nodes (s.kept + n)

  -- 6 and 7, else the step
  abbrev pub unless : Session → Bool → Bool → Step → Step
  unless s true true x = s gives refused 7
  unless s true false x = x
  unless s false c x = s gives refused 6

  -- `variable`: answers the variable itself
  unfoldable pub variable_step : Session → VariablePlace → Option ℕ → Bool → Step
  variable_step s p (some v) f = s gives term (var v)
  variable_step s p none true = s gives refused 8
  variable_step s p none false = issue_at s p gives term (var (issued s))

  -- `numeric_variable`: "Number variables share slot 1 of their site with `variable`"
  abbrev pub asked : Session → ℕ → Request → Step
  asked s v r = request s v r gives term (resolved s.solver (var v))

  unfoldable pub number_at : Session → VariablePlace → Request → Option ℕ → Bool → Step
  number_at s p r (some v) f = asked s v r
  number_at s p r none true = s gives refused 8
  number_at s p r none false = asked (issue_at s p) (issued s) r

  -- `annotation_hole`
  unfoldable pub hole_at : Session → VariablePlace → Option ℕ → Bool → Step
  hole_at s p (some v) f = s gives term (resolved s.solver (var v))
  hole_at s p none true = s gives refused 8
  hole_at s p none false = issue_at s p gives term (resolved s.solver (var (issued s)))

  abbrev pub defaults : Session → Solver → Step
  defaults s z = with_solver s z gives changed (moved s.solver z)

  abbrev pub posing : Session → ℕ → Out Solver → Step
  posing s m o = keep s (solver_of o) (keeps (moved s.solver (solver_of o)) m) gives verdict (verdict_code o)

  unfoldable pub order : Session → Command → Step
  order s (variable site slot) = variable_step s (at site slot) (find (at site slot) s.places) (full s)
  order s (number site r) = number_at s (at site 1) r (find (at site 1) s.places) (full s)
  order s (hole site) = hole_at s (gap site) (find (gap site) s.places) (full s)
  order s (defer t) = unless s (known s t) (crowded s (size t)) (deferring s (resolved s.solver t) gives nothing)
  order s (pair b k t u) =
      unless s (known s t && known s u) (crowded s (size t + size u)) (posing s (size t + size u) (constrain (notion b) k s.solver t u))
  order s (resolving t) = unless s (known s t) (crowded s (size t)) (s gives term (resolved s.solver t))
  order s numbers = defaults s (numeric_defaults_of (issued s) 0 s.solver)
  order s nevers = defaults s (never_defaults_of s.deferred (issued s) 0 s.solver)
  order s revision = s gives count s.solver.revision
  order s (unread r) = s gives refused r

  -- "Each later one gets the session that the one before returned or left"
  unfoldable pub run : Session → List Command → Session
  run s [] = s
  run s (c ∷ cs) = run (order s c).session cs

  unfoldable pub replies : Session → List Command → List Reply
  replies s [] = []
  replies s (c ∷ cs) = (order s c).reply ∷ replies (order s c).session cs
