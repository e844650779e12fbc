-- The Rust's `Solver` (typeck/solver.rs), line by line, on terms; each definition under the Rust that it writes down. Only definitions:
-- `RustLaws` proves that it answers as `Orders` does, and that it never panics.
--   TypeId::Inference(id)    var id
--   BuiltinType              its code
--   TypeRefId, ExprId        a site
--   CancellationToken        the number k of checks that pass
--   HashMap                  a list of keys with their values, each key once; a HashSet is a HashMap to the unit
--   Vec                      a list; one that is used as a stack has its end, where it is popped, at the head of the list
--   a panic                  none: an `unreachable!`, or an index out of range
use Rattle.std.specs.Prelude.{◌≡◌, Bool, true, false, not, ◌&&◌, ◌||◌, List, [], ◌∷◌, ◌++◌, ℕ, zero, suc, ◌<◌, eqb, ltb, length, get_or, set}
use Rattle.std.proofs.Math.Option.{Option, none, some}
use Rattle.terms.specs.Result.{pick}
use Rattle.terms.specs.Term.{Term, Parts, var, node, end, num, sub}
use Rattle.terms.specs.Tree.{same, tag, row, nums, same_numbers, Nominal, nominal_of}
use Rattle.terms.specs.Questions.{among, meets}
use Rattle.terms.specs.Substitution.{substitute_once}
use Rattle.terms.specs.Formed.{Formed}
use Rattle.unify.specs.Solver.{Out, cancelled, done}
use Rattle.unify.specs.RustMaps.{look, insert, sorted, look_site}
use Rattle.solver.specs.Families.{requested}
use Rattle.solver.specs.Shapes.{pushed}
use Rattle.solver.specs.Constrain.{Pair, always, recovery, recovers, occurs, zip_on}
use Rattle.solver.specs.Orders.{Command, variable, number, hole, defer, pair, resolving, numbers, nevers, revision, unread}
use Rattle.solver.specs.Orders.{Reply, term, verdict, changed, count, nothing, beyond, order}
use Rattle.solver.specs.Session.{Limits, Session}
use Rattle.solver.specs.Demand3.{accepted}

-- what comes next, unless there was a panic
unfoldable pub and_then : {A B : Type 0} → Option A → (A → Option B) → Option B
and_then none f = none
and_then (some a) f = f a

-- struct Solver
pub record Solver : Type 0 where
  -- (site, slot, id)
  pub variables : List (ℕ × ℕ × ℕ)
  pub holes : List (ℕ × ℕ)
  pub bindings : List (Option Term)
  -- id, fallback
  pub numeric : List (ℕ × ℕ)
  pub diverging : List (ℕ × Unit {0})
  pub revision : ℕ

-- Solver::default
abbrev pub default : Solver
default = record { variables = []; holes = []; bindings = []; numeric = []; diverging = []; revision = 0 }

-- self.numeric.insert(id, fallback)
abbrev pub with_numeric : Solver → ℕ → ℕ → Solver
with_numeric z v c = record {
  variables = z.variables;
  holes = z.holes;
  bindings = z.bindings;
  numeric = insert z.numeric v c;
  diverging = z.diverging;
  revision = z.revision;
}

-- self.bindings[id as usize] = Some(ty); self.revision += 1
unfoldable pub with_binding : Solver → ℕ → Term → Option Solver
with_binding z v t = pick (ltb v (length z.bindings)) (some (record {
  variables = z.variables;
  holes = z.holes;
  bindings = set z.bindings v (some t);
  numeric = z.numeric;
  diverging = z.diverging;
  revision = suc z.revision;
})) none

-- ---- resolve

-- |ty| match ty { TypeId::Inference(id) => self.bindings[*id as usize].as_ref(), _ => None }
unfoldable pub binding : List (Option Term) → Term → Option Term
binding bs (var v) = get_or bs v none
binding bs (node k ps) = none

-- result.substitute_once(..), which panics at an id that is no index
unfoldable pub next : List (Option Term) → Term → Option Term
next bs t = pick (meets (beyond (length bs)) always t) none (some (substitute_once (binding bs) t))

-- for _ in .. { let next = ..; if next == result { return result; } result = next; } unreachable!(..)
unfoldable pub rounds : List (Option Term) → ℕ → Term → Option Term
rounds bs zero result = none
rounds bs (suc n) result = and_then (next bs result) (λ next. pick (same next result) (some result) (rounds bs n next))

-- Solver::resolve, with 0..=self.bindings.len() for the rounds
abbrev pub resolve : Solver → Term → Option Term
resolve z t = rounds z.bindings (suc (length z.bindings)) t

-- ---- variables and deferrals

-- Solver::variable
unfoldable pub variable_entry : Solver → ℕ → ℕ → Option ℕ → Solver × Term
variable_entry z site slot (some id) = (z, var id)
variable_entry z site slot none = (
  record {
    variables = (site, slot, length z.bindings) ∷ z.variables;
    holes = z.holes;
    bindings = z.bindings ++ (none ∷ []);
    numeric = z.numeric;
    diverging = z.diverging;
    revision = z.revision;
  },
  var (length z.bindings),
)

abbrev pub variable_of : Solver → ℕ → ℕ → Solver × Term
variable_of z site slot = variable_entry z site slot (look_site z.variables site slot)

-- Solver::annotation_hole
unfoldable pub hole_entry : Solver → ℕ → Option ℕ → Solver × ℕ
hole_entry z site (some id) = (z, id)
hole_entry z site none = (
  record {
    variables = z.variables;
    holes = (site, length z.bindings) ∷ z.holes;
    bindings = z.bindings ++ (none ∷ []);
    numeric = z.numeric;
    diverging = z.diverging;
    revision = z.revision;
  },
  length z.bindings,
)

-- a solver with what is returned
unfoldable pub returning : Solver → Option Term → Option (Solver × Term)
returning z none = none
returning z (some t) = some (z, t)

abbrev pub annotation_hole : Solver → ℕ → Option (Solver × Term)
annotation_hole z site =
    let x = hole_entry z site (look z.holes site) in
    returning x.0 (resolve x.0 (var x.1))

-- Solver::numeric_variable; let TypeId::Inference(id) = variable else { unreachable!() }
unfoldable pub numeric_entry : Solver → ℕ → Term → Option (Solver × Term)
numeric_entry z fallback (var id) = returning (with_numeric z id fallback) (resolve (with_numeric z id fallback) (var id))
numeric_entry z fallback (node k ps) = none

abbrev pub numeric_variable : Solver → ℕ → ℕ → Option (Solver × Term)
numeric_variable z site fallback =
    let x = variable_of z site 1 in
    numeric_entry x.0 fallback x.1

-- Solver::defer_never; if let TypeId::Inference(id) = self.resolve(ty) { self.diverging.insert(id); }
unfoldable pub diverge : Solver → Term → Solver
diverge z (var id) = record {
  variables = z.variables;
  holes = z.holes;
  bindings = z.bindings;
  numeric = z.numeric;
  diverging = insert z.diverging id tt;
  revision = z.revision;
}
diverge z (node k ps) = z

abbrev pub defer_never : Solver → Term → Option Solver
defer_never z t = and_then (resolve z t) (λ u. some (diverge z u))

-- ---- constrain

-- where a pass of the `while` leaves the solver, `compatible` and `pending`
pub record Pass : Type 0 where
  pub solver : Solver
  pub compatible : Bool
  pub pending : List Pair

abbrev pub continue : Solver → Bool → List Pair → Option Pass
continue z compatible pending = some (record { solver = z; compatible = compatible; pending = pending })

-- fallback == BuiltinType::F64
abbrev pub floating : ℕ → Bool
floating c = eqb c 9

abbrev pub equal : Bool → Bool → Bool
equal true b = b
equal false b = not b

-- self.numeric.get(other).is_none_or(|other| (*other == BuiltinType::F64) == floating)
unfoldable pub same_kind : ℕ → Option ℕ → Bool
same_kind fallback none = true
same_kind fallback (some other) = equal (floating other) (floating fallback)

-- TypeId::Builtin(target) => matches!(..), _ => false
unfoldable pub takes : ℕ → ℕ → Parts → Bool
takes fallback k end = false
takes fallback k (num target end) = eqb k 4 && pick (floating fallback) (among target (8 ∷ 9 ∷ [])) (among target (0 ∷ 1 ∷ 2 ∷ 3 ∷ 4 ∷ 5 ∷ 6 ∷ 7 ∷ []))
takes fallback k (num target (num m ps)) = false
takes fallback k (num target (sub t ps)) = false
takes fallback k (sub t ps) = false

-- let admissible = match ty
unfoldable pub admissible : Solver → ℕ → Term → Bool
admissible z fallback (var other) = same_kind fallback (look z.numeric other)
admissible z fallback (node k ps) = takes fallback k ps

-- if let TypeId::Inference(other) = ty { self.numeric.insert(*other, fallback); }
unfoldable pub hand_on : Solver → ℕ → Term → Solver
hand_on z fallback (var other) = with_numeric z other fallback
hand_on z fallback (node k ps) = z

-- if occurs { compatible = false; } else { bind }; the walk over the members notes what it is given and replaces nothing
unfoldable pub bind : Solver → Bool → List Pair → ℕ → Term → Bool → Option Pass
bind z compatible pending id ty true = continue z false pending
bind z compatible pending id ty false = and_then (with_binding z id ty) (λ z. continue z compatible pending)

-- if !admissible { compatible = false; continue; }
unfoldable pub if_admissible : Solver → Bool → List Pair → ℕ → Term → ℕ → Bool → Option Pass
if_admissible z compatible pending id ty fallback true = bind (hand_on z fallback ty) compatible pending id ty (occurs id ty)
if_admissible z compatible pending id ty fallback false = continue z false pending

-- if let Some(fallback) = self.numeric.get(id).copied()
unfoldable pub if_numeric : Solver → Bool → List Pair → ℕ → Term → Option ℕ → Option Pass
if_numeric z compatible pending id ty none = bind z compatible pending id ty (occurs id ty)
if_numeric z compatible pending id ty (some fallback) = if_admissible z compatible pending id ty fallback (admissible z fallback ty)

-- (TypeId::Inference(id), ty) | (ty, TypeId::Inference(id)): if recovery { continue; } first
abbrev pub inference : Solver → Bool → List Pair → ℕ → Term → Option Pass
inference z compatible pending id ty = pick (recovers ty) (continue z compatible pending) (if_numeric z compatible pending id ty (look z.numeric id))

-- a.declaration == b.declaration && a.arguments.len() == b.arguments.len() && a.associated_types.keys().eq(b.associated_types.keys())
unfoldable pub same_nominal : Nominal → Nominal → Bool
same_nominal a b = eqb a.declaration b.declaration && (eqb (length a.arguments) (length b.arguments) && same_numbers a.members b.members)

-- Two terms of one tag. Reference: access; Tuple: length; Function: number of parameters; Range: kind, each the first number of its row.
-- The nominals. Array, Set, Map, Iter: true. Any other, a Projection too: false.
unfoldable pub alike : ℕ → Parts → Parts → Bool
alike k ps qs =
    pick (among k (0 ∷ 5 ∷ 6 ∷ 8 ∷ [])) (eqb (get_or (nums ps) 0 0) (get_or (nums qs) 0 0))
    (pick (among k (12 ∷ 13 ∷ 14 ∷ 15 ∷ [])) (same_nominal (nominal_of ps) (nominal_of qs))
    (among k (7 ∷ 9 ∷ 10 ∷ 11 ∷ [])))

-- let same_shape = match (&left, &right)
unfoldable pub same_shape_rust : Term → Term → Bool
same_shape_rust left right = eqb (tag left) (tag right) && alike (tag left) (row left) (row right)

-- if same_shape { pending.extend(a.into_iter().zip(b)); } else { compatible = false; }
unfoldable pub if_shape : Solver → Bool → List Pair → Term → Term → Bool → Option Pass
if_shape z compatible pending left right true = continue z compatible (zip_on (pushed left) (pushed right) pending)
if_shape z compatible pending left right false = continue z false pending

-- match (&left, &right), after its first arm
unfoldable pub arms : Solver → Bool → List Pair → Term → Term → Option Pass
arms z compatible pending (var id) ty = inference z compatible pending id ty
arms z compatible pending (node k ps) (var id) = inference z compatible pending id (node k ps)
arms z compatible pending (node k ps) (node j qs) = if_shape z compatible pending (node k ps) (node j qs) (same_shape_rust (node k ps) (node j qs))

-- if left == right { continue; }; (TypeId::Unknown | TypeId::Error, _) | (_, TypeId::Unknown | TypeId::Error) => {}
abbrev pub compared : Solver → Bool → List Pair → Term → Term → Option Pass
compared z compatible pending left right =
    pick (same left right) (continue z compatible pending)
    (pick (recovery left || recovery right) (continue z compatible pending) (arms z compatible pending left right))

-- let left = self.resolve(&left); let right = self.resolve(&right);
abbrev pub pass : Solver → Bool → List Pair → Term → Term → Option Pass
pass z compatible pending left right = and_then (resolve z left) (λ l. and_then (resolve z right) (λ r. compared z compatible pending l r))

-- while let Some((left, right)) = pending.pop() { cancel.check()?; .. } Ok(compatible)
unfoldable pub while_pending : ℕ → Solver → Bool → List Pair → Option (Out Solver)
while_pending zero z compatible [] = some (done z compatible)
while_pending zero z compatible (p ∷ pending) = some (cancelled z)
while_pending (suc k) z compatible [] = some (done z compatible)
while_pending (suc k) z compatible (p ∷ pending) =
    and_then (pass z compatible pending p.0 p.1) (λ x. while_pending k x.solver x.compatible x.pending)

-- Solver::constrain
abbrev pub constrain : ℕ → Solver → Term → Term → Option (Out Solver)
constrain k z left right = while_pending k z true ((left, right) ∷ [])

-- ---- defaults

-- if let TypeId::Inference(root) = .. { self.bindings[root as usize] = Some(TypeId::Builtin(..)); self.revision += 1; }
unfoldable pub default_root : Solver → ℕ → Term → Option Solver
default_root z builtin (var root) = with_binding z root (node 4 (num builtin end))
default_root z builtin (node k ps) = some z

-- for (id, fallback) in defaults
unfoldable pub numeric_defaults : List (ℕ × ℕ) → Solver → Option Solver
numeric_defaults [] z = some z
numeric_defaults (p ∷ ps) z = and_then (resolve z (var p.0)) (λ t. and_then (default_root z p.1 t) (λ z. numeric_defaults ps z))

-- Solver::apply_numeric_defaults: defaults.sort_by_key(|(id, _)| *id)
abbrev pub apply_numeric_defaults : Solver → Option Solver
apply_numeric_defaults z = numeric_defaults (sorted z.numeric) z

-- for id in defaults; BuiltinType::Never
unfoldable pub never_defaults : List (ℕ × Unit {0}) → Solver → Option Solver
never_defaults [] z = some z
never_defaults (p ∷ ps) z = and_then (resolve z (var p.0)) (λ t. and_then (default_root z 10 t) (λ z. never_defaults ps z))

-- Solver::apply_never_defaults: defaults.sort_unstable()
abbrev pub apply_never_defaults : Solver → Option Solver
apply_never_defaults z = never_defaults (sorted z.diverging) z

-- ---- the orders, given to it

-- Ok(compatible), or Err(Cancelled)
unfoldable pub with_verdict : Out Solver → Solver × Reply
with_verdict (done z false) = (z, verdict 0)
with_verdict (done z true) = (z, verdict 1)
with_verdict (cancelled z) = (z, verdict 2)

-- self.revision != before
abbrev pub with_change : Solver → Solver → Solver × Reply
with_change before z = (z, changed (not (eqb z.revision before.revision)))

unfoldable pub with_term : Solver × Term → Solver × Reply
with_term x = (x.0, term x.1)

-- one order; a strict pair, and one that reading refused, are none of the Rust's
unfoldable pub answer : Solver → Command → Option (Solver × Reply)
answer z (variable site slot) = some (with_term (variable_of z site slot))
answer z (number site r) = and_then (numeric_variable z site r.fallback) (λ x. some (with_term x))
answer z (hole site) = and_then (annotation_hole z site) (λ x. some (with_term x))
answer z (defer t) = and_then (defer_never z t) (λ z. some (z, nothing))
answer z (pair false k t u) = and_then (constrain k z t u) (λ o. some (with_verdict o))
answer z (pair true k t u) = none
answer z (resolving t) = and_then (resolve z t) (λ u. some (z, term u))
answer z numbers = and_then (apply_numeric_defaults z) (λ y. some (with_change z y))
answer z nevers = and_then (apply_never_defaults z) (λ y. some (with_change z y))
answer z revision = some (z, count z.revision)
answer z (unread r) = none

-- a list of orders, and all the answers
unfoldable pub with_answer : Reply → Option (List Reply) → Option (List Reply)
with_answer r none = none
with_answer r (some rs) = some (r ∷ rs)

unfoldable pub answers : Solver → List Command → Option (List Reply)
answers z [] = some []
answers z (c ∷ cs) = and_then (answer z c) (λ x. with_answer x.1 (answers x.0 cs))

-- ---- what "the same answers" says

-- What reading gives of the orders that the Rust has: formed terms, pairs that are not strict, and what is requested is what a fallback requests, which is a
-- builtin's code.
abbrev pub OfRust : Command → Type 0
OfRust (variable site slot) = Unit {0}
OfRust (number site r) = (r ≡ requested r.fallback) × (r.fallback < 32)
OfRust (hole site) = Unit {0}
OfRust (defer t) = Formed t
OfRust (pair b k t u) = (b ≡ false) × Formed t × Formed u
OfRust (resolving t) = Formed t
OfRust numbers = Unit {0}
OfRust nevers = Unit {0}
OfRust revision = Unit {0}
OfRust (unread r) = Unit {0}

abbrev pub AllOfRust : List Command → Type 0
AllOfRust [] = Unit {0}
AllOfRust (c ∷ cs) = OfRust c × AllOfRust cs

-- The Rust knows no refusals: it is given the orders of a list that are not refused (6 a variable that is not issued, 7 nodes, 8 variables, and
-- what reading refuses).
unfoldable pub given : Limits → Session → List Command → List Command
given lim s [] = []
given lim s (c ∷ cs) =
    let x = order lim s c in
    pick (accepted x.reply) (c ∷ given lim x.session cs) (given lim x.session cs)

-- the answers that are no refusals
unfoldable pub unrefused : List Reply → List Reply
unrefused [] = []
unrefused (r ∷ rs) = pick (accepted r) (r ∷ unrefused rs) (unrefused rs)
