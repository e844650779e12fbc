-- Document 01's worked session, the marked lines about constrain, and the slips, by computation.
use mathlib.Core.Path.{◌≡◌, refl}
use mathlib.Core.Bool.{true, false}
use mathlib.Core.List.{List, [], ◌∷◌}
use Prim.Native.Nat.{ℕ}
use native.Mathlib.Decide.{ℕ_discrete}
use Rattle.terms.specs.Term.{Term, var, node, end, num, sub, size}
use Rattle.terms.specs.Tree.{unknown, nums, row, tag, class, children, subs, same}
use Rattle.terms.specs.Questions.{among, meets}
use Rattle.unify.specs.Solver.{put}
use Rattle.solver.specs.Families as asked
use Rattle.solver.specs.Families.{requested, code, family_of, belongs, belongs_row, sieve, gathered, joined_as, meet, ranged_at, taken}
use Rattle.solver.specs.Shapes.{loose, exact, blank, blank_row, unmarked, read, same_shape, turned}
use Rattle.solver.specs.Constrain.{replace, followed, resolve, follow, recovery, is, projects, joined, join, allow, admit, bind₁, bind₀, bind, zip_on, decompose, differ, match, check_pair, settles}
use Rattle.solver.specs.Session.{document_limits, same_place, find, fresh, deferring, settle_at, numeric_at, never_at, numeric_defaults_of, never_defaults_of}
use Rattle.solver.specs.Orders.{Command, variable, number, hole, defer, pair, resolving, numbers, nevers, revision}
use Rattle.solver.specs.Orders.{Reply, term, verdict, changed, count, nothing, refused, verdict_code, solver_of, beyond, variable_step, number_at, hole_at, order, replies}

abbrev pub builtin : ℕ → Term
builtin c = node 4 (num c end)

abbrev pub I32 : Term
I32 = builtin 2

abbrev pub array : Term → Term
array t = node 9 (sub t end)

abbrev pub tuple₂ : Term → Term → Term
tuple₂ t u = node 5 (num 2 (sub t (sub u end)))

abbrev pub set_of : ℕ → Term → Term
set_of a t = node 11 (num a (sub t end))

abbrev pub map_of : ℕ → Term → Term → Term
map_of a k v = node 10 (num a (sub k (sub v end)))

-- a Struct of declaration 1, with one argument and the member 4
abbrev pub struct_of : Term → Term → Term
struct_of a m = node 13 (num 1 (num 1 (sub a (num 1 (num 4 (sub m end))))))

-- the member 5 of the interface 3 at a receiver, without arguments
abbrev pub projected : Term → Term
projected r = node 18 (sub r (num 3 (num 0 (num 0 (num 5 (num 0 end))))))

answers : List Command → List Reply
answers cs = replies document_limits fresh cs

record Examples : Type 0 where
  -- "Two variables; Array(?0) meets Array(Tuple(?1, I32)); ?1 meets Array(?0), which contains it; ?0 resolved; revision 1."
  bar : answers (variable 7 0 ∷ variable 8 0 ∷ pair false 9 (array (var 0)) (array (tuple₂ (var 1) I32)) ∷ pair false 9 (var 1) (array (var 0)) ∷ resolving (var 0) ∷ revision ∷ [])
      ≡ term (var 0) ∷ term (var 1) ∷ verdict 1 ∷ verdict 0 ∷ term (tuple₂ (var 1) I32) ∷ count 1 ∷ []
  -- "the session's first pair with k = 1 is cancelled unbound, with k = 2 it binds"
  checks : answers (variable 7 0 ∷ variable 8 0 ∷ pair false 1 (array (var 0)) (array (tuple₂ (var 1) I32)) ∷ revision ∷ pair false 2 (array (var 0)) (array (tuple₂ (var 1) I32)) ∷ revision ∷ [])
      ≡ term (var 0) ∷ term (var 1) ∷ verdict 2 ∷ count 0 ∷ verdict 1 ∷ count 1 ∷ []
  -- "ReadOnly and Mutable Set of I32 conflict yet constrain compatibly", and not where access counts
  loosely : answers (pair false 9 (set_of 0 I32) (set_of 1 I32) ∷ []) ≡ verdict 1 ∷ []
  strictly : answers (pair true 9 (set_of 0 I32) (set_of 1 I32) ∷ []) ≡ verdict 0 ∷ []
  maps : answers (pair false 9 (map_of 0 I32 I32) (map_of 1 I32 I32) ∷ []) ≡ verdict 1 ∷ []
  -- "Reference access counts"
  references : answers (pair false 9 (node 0 (num 0 (sub I32 end))) (node 0 (num 1 (sub I32 end))) ∷ []) ≡ verdict 0 ∷ []
  -- "entering projections in constrain": equal ones pass, others do not meet and bind nothing
  projections : answers (variable 7 0 ∷ pair false 9 (projected (var 0)) (projected I32) ∷ pair false 9 (projected (var 0)) (projected (var 0)) ∷ revision ∷ [])
      ≡ term (var 0) ∷ verdict 0 ∷ verdict 1 ∷ count 0 ∷ []
  -- "letting a number variable bind to a Tuple"
  tuples : answers (number 7 (requested 2) ∷ pair false 9 (var 0) (tuple₂ I32 I32) ∷ resolving (var 0) ∷ []) ≡ term (var 0) ∷ verdict 0 ∷ term (var 0) ∷ []
  -- "freezing Unknown inside a binding": passed over, and the variable stays free
  unknowns : answers (variable 7 0 ∷ pair false 9 (var 0) (array unknown) ∷ pair false 9 (array unknown) (array I32) ∷ resolving (var 0) ∷ pair false 9 (var 0) I32 ∷ resolving (var 0) ∷ [])
      ≡ term (var 0) ∷ verdict 1 ∷ verdict 1 ∷ term (var 0) ∷ verdict 1 ∷ term I32 ∷ []
  -- "F32 counts as integer"; families meet or do not; the left variable is bound and its fallback goes on; defaults follow bindings
  families : answers (number 1 (requested 8) ∷ number 2 (requested 9) ∷ pair false 9 (var 0) (var 1) ∷ pair false 9 (var 0) (builtin 8) ∷ number 3 (requested 4) ∷ pair false 9 (var 0) (var 2) ∷ pair false 9 (var 1) (builtin 10) ∷ numbers ∷ resolving (tuple₂ (var 0) (var 1)) ∷ revision ∷ [])
      ≡ term (var 0) ∷ term (var 1) ∷ verdict 0 ∷ verdict 0 ∷ term (var 2) ∷ verdict 1 ∷ verdict 0 ∷ changed true ∷ term (tuple₂ (builtin 8) (builtin 9)) ∷ count 3 ∷ []
  -- the last argument comes first, and every member after every argument: with two checks the argument is bound and the member is not
  parts : answers (variable 1 0 ∷ variable 2 0 ∷ pair false 2 (struct_of (var 0) (var 1)) (struct_of I32 I32) ∷ resolving (tuple₂ (var 0) (var 1)) ∷ [])
      ≡ term (var 0) ∷ term (var 1) ∷ verdict 2 ∷ term (tuple₂ I32 (var 1)) ∷ []
  -- holes and deferrals; "never defaults may bind a number variable"; a variable not issued is refused
  nevermore : answers (hole 7 ∷ number 7 (requested 2) ∷ hole 7 ∷ defer (var 1) ∷ nevers ∷ nevers ∷ resolving (var 1) ∷ resolving (var 2) ∷ variable 7 1 ∷ number 7 (requested 9) ∷ [])
      ≡ term (var 0) ∷ term (var 1) ∷ term (var 0) ∷ nothing ∷ changed true ∷ changed false ∷ term (builtin 10) ∷ refused 6 ∷ term (var 1) ∷ term (builtin 10) ∷ []
  -- refusals 8 and 7, with room for one variable and five nodes; 6 comes before 7. A pair that binds nothing keeps no nodes, and one that
  -- binds keeps all of its own
  limits : replies (record { variables = 1; nodes = 5 }) fresh (variable 7 0 ∷ hole 7 ∷ variable 7 0 ∷ pair false 0 (var 0) I32 ∷ resolving (array (array I32)) ∷ resolving (tuple₂ (var 0) I32) ∷ pair false 9 (array (var 0)) (array (var 1)) ∷ pair false 9 (array (var 0)) (array I32) ∷ revision ∷ pair false 9 (var 0) I32 ∷ [])
      ≡ term (var 0) ∷ refused 8 ∷ term (var 0) ∷ verdict 2 ∷ term (array (array I32)) ∷ term (tuple₂ (var 0) I32) ∷ refused 6 ∷ verdict 1 ∷ count 1 ∷ refused 7 ∷ []
  -- pairs that bind nothing, repeated: compatible, incompatible and cancelled, each with room for its own nodes
  repeats : replies (record { variables = 1; nodes = 4 }) fresh (pair false 9 (array I32) (array I32) ∷ pair false 9 (array I32) (array I32) ∷ pair false 9 (array I32) (array (builtin 3)) ∷ pair false 1 (array I32) (array (builtin 3)) ∷ pair false 9 (array I32) (array I32) ∷ pair false 9 (array (array I32)) (array I32) ∷ [])
      ≡ verdict 1 ∷ verdict 1 ∷ verdict 0 ∷ verdict 2 ∷ verdict 1 ∷ refused 7 ∷ []

examples : Examples
unfolding answers loose exact ℕ_discrete put size nums row tag class children subs same among meets
    code asked.among family_of belongs belongs_row sieve gathered joined_as meet ranged_at taken blank blank_row unmarked read same_shape turned
    replace followed resolve follow recovery is projects joined join allow admit bind₁ bind₀ bind zip_on decompose differ match check_pair settles
    same_place find deferring settle_at numeric_at never_at numeric_defaults_of never_defaults_of verdict_code solver_of beyond variable_step number_at hole_at order replies
examples = record {
  bar = refl;
  checks = refl;
  loosely = refl;
  strictly = refl;
  maps = refl;
  references = refl;
  projections = refl;
  tuples = refl;
  unknowns = refl;
  families = refl;
  parts = refl;
  nevermore = refl;
  limits = refl;
  repeats = refl;
}
