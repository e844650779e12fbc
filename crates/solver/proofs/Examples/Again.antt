-- Pairs posed again: sessions by computation, and the theorem used on them. With Unknown or Error in a pair the theorem does not hold.
use mathlib.Core.Path.{◌≡◌, refl}
use mathlib.Core.Bool.{true, false}
use mathlib.Core.List.{List, [], ◌∷◌}
use Prim.Native.Nat.{ℕ}
use native.Mathlib.Decide.{ℕ_discrete}
use Rattle.terms.specs.Term.{var, size}
use Rattle.terms.specs.Tree.{unknown, nums, row, tag, class, children, subs, same}
use Rattle.terms.specs.Questions.{among, meets}
use Rattle.unify.specs.Solver.{put}
use Rattle.solver.specs.Families as asked
use Rattle.solver.specs.Families.{requested, code, family_of, belongs, belongs_row, sieve, gathered, joined_as, meet, ranged_at, taken}
use Rattle.solver.specs.Shapes.{loose, blank, blank_row, unmarked, read, same_shape, turned}
use Rattle.solver.specs.Constrain.{recovers, replace, followed, resolve, follow, recovery, is, projects, joined, join, allow, admit, bind₁, bind₀, bind, zip_on, decompose, differ, match, check_pair, settles}
use Rattle.solver.specs.Session.{document_limits, fresh, same_place, find, settle_at, numeric_at, numeric_defaults_of}
use Rattle.solver.specs.Orders.{Command, variable, number, pair, numbers, revision, Reply, term, verdict, changed, count, verdict_code, solver_of, beyond, variable_step, number_at, order, run, replies}
use Rattle.solver.specs.Again.{SatisfiedOrder}
use Rattle.solver.proofs.Examples.Sessions.{I32, array, tuple₂, set_of, projected}
use Rattle.solver.proofs.Laws.Theory.AgainLaws.{again_pair}

answers : List Command → List Reply
answers cs = replies document_limits fresh cs

-- a compatible pair that a recovery term lets bind again: the last part of the first time is passed over, since ?0 is free then
abbrev recovering : Command
recovering = pair false 9 (tuple₂ (var 0) (var 0)) (tuple₂ (tuple₂ (var 2) (var 3)) (tuple₂ unknown I32))

two : List Command
two = variable 0 0 ∷ variable 1 0 ∷ []

-- sets of other access, which are taken apart each time
abbrev sets : ℕ → Command
sets k = pair false k (set_of 0 (var 0)) (set_of 1 I32)

-- what comes between
between : List Command
between = number 5 (requested 2) ∷ pair false 9 (var 1) (var 2) ∷ numbers ∷ []

record Repeated : Type 0 where
  -- with a recovery term
  recovered : answers (variable 0 0 ∷ variable 1 0 ∷ variable 2 0 ∷ variable 3 0 ∷ recovering ∷ revision ∷ recovering ∷ revision ∷ recovering ∷ revision ∷ [])
      ≡ term (var 0) ∷ term (var 1) ∷ term (var 2) ∷ term (var 3) ∷ verdict 1 ∷ count 1 ∷ verdict 1 ∷ count 2 ∷ verdict 1 ∷ count 2 ∷ []
  -- with as many checks as the first time it is compatible, with fewer it may be cancelled; it binds nothing
  checked : answers (variable 0 0 ∷ sets 2 ∷ revision ∷ sets 2 ∷ sets 9 ∷ sets 1 ∷ sets 0 ∷ revision ∷ []) ≡ term (var 0) ∷ verdict 1 ∷ count 1 ∷ verdict 1 ∷ verdict 1 ∷ verdict 2 ∷ verdict 2 ∷ count 1 ∷ []
  -- a projection is no obstacle
  projection : answers (variable 0 0 ∷ pair false 1 (var 0) (projected I32) ∷ pair false 1 (var 0) (projected I32) ∷ revision ∷ []) ≡ term (var 0) ∷ verdict 1 ∷ verdict 1 ∷ count 1 ∷ []
  -- once more after other orders
  later : answers (variable 0 0 ∷ variable 1 0 ∷ pair false 1 (var 0) (array (var 1)) ∷ number 5 (requested 2) ∷ pair false 9 (var 1) (var 2) ∷ numbers ∷ revision ∷ pair false 1 (var 0) (array (var 1)) ∷ revision ∷ [])
      ≡ term (var 0) ∷ term (var 1) ∷ verdict 1 ∷ term (var 2) ∷ verdict 1 ∷ changed true ∷ count 3 ∷ verdict 1 ∷ count 3 ∷ []
  -- the premises of the theorem
  compatible : (order document_limits (run document_limits fresh two) (pair false 1 (var 0) (array (var 1)))).reply ≡ verdict 1
  left : recovers (var 0) ≡ false
  right : recovers (array (var 1)) ≡ false

repeated : Repeated
unfolding answers two loose ℕ_discrete put size nums row tag class children subs same among meets
    code asked.among family_of belongs belongs_row sieve gathered joined_as meet ranged_at taken blank blank_row unmarked read same_shape turned
    replace followed resolve follow recovery is projects joined join allow admit bind₁ bind₀ bind zip_on decompose differ match check_pair settles
    same_place find settle_at numeric_at numeric_defaults_of verdict_code solver_of beyond variable_step number_at order run replies
repeated = record { recovered = refl; checked = refl; projection = refl; later = refl; compatible = refl; left = refl; right = refl }

-- the theorem, used: for every number m of checks
used : (m : ℕ) → SatisfiedOrder document_limits false 1 m
    (run document_limits (order document_limits (run document_limits fresh two) (pair false 1 (var 0) (array (var 1)))).session between) (var 0) (array (var 1))
used = again_pair document_limits false two (var 0) (array (var 1)) repeated.left repeated.right 1 repeated.compatible between
