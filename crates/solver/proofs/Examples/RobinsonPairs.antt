-- Robinson's theorem for each plain pair, used on pairs that the theorem on whole lists leaves out: after an incompatible pair, beside a number variable,
-- after a cancelled pair, and after all that with a recovery term, an access mark and a default.
use mathlib.Core.Path.{◌≡◌, refl, ap}
use mathlib.Core.Bool.{Bool, true, false, ◌||◌}
use mathlib.Core.List.{List, [], ◌∷◌}
use Prim.Native.Nat.{ℕ}
use native.Mathlib.Decide.{ℕ_discrete}
use native.Mathlib.Omega.{arith}
use borrow.Author.Tests.{eqb-true}
use lib.Dec.{eqb}
use Rattle.terms.specs.Term.{Term, var, size}
use Rattle.terms.specs.Tree.{unknown, nums, row, tag, class, children, subs, same}
use Rattle.terms.specs.Questions.{among, meets}
use Rattle.unify.specs.Solver.{put}
use Rattle.solver.specs.Families as asked
use Rattle.solver.specs.Families.{requested, code, family_of, belongs, belongs_row, ranged_at, taken}
use Rattle.solver.specs.Shapes.{loose, blank, blank_row, unmarked, read, read_all, same_shape, turned}
use Rattle.solver.specs.Constrain.{replace, followed, resolve, follow, recovery, is, projects, joined, join, allow, admit, bind₁, bind₀, bind, zip_on, decompose, differ, match, check_pair, settles}
use Rattle.solver.specs.Session.{Session, document_limits, fresh, same_place, find, settle_at, numeric_at, numeric_defaults_of}
use Rattle.solver.specs.Orders.{Command, variable, number, pair, numbers, Reply, term, verdict, changed, verdict_code, solver_of, beyond, variable_step, number_at, order, run, replies}
use Rattle.solver.specs.Demand3.{outside}
use Rattle.solver.specs.RobinsonPair.{PlainPair, Decided, DecidedBy}
use Rattle.solver.proofs.Examples.Sessions.{I32, builtin, array, tuple₂, set_of}
use Rattle.solver.proofs.Laws.Robinson.RobinsonPairLaws.{first_order_in, free_in, closed_in, robinson_each, not_cancelled}

clashed : List Command
clashed = variable 0 0 ∷ pair false 9 I32 (builtin 3) ∷ []

numbered : List Command
numbered = number 5 (requested 2) ∷ variable 0 0 ∷ []

cut : List Command
cut = variable 0 0 ∷ pair false 0 (var 0) I32 ∷ []

everything : List Command
everything = variable 0 0 ∷ number 5 (requested 2) ∷ variable 1 0 ∷ pair false 9 I32 (builtin 3) ∷ pair false 9 (var 0) unknown ∷ pair false 9 (var 2) (set_of 1 I32) ∷ numbers
    ∷ pair false 1 (array (var 0)) (array (builtin 3)) ∷ []

abbrev after : List Command → Session
after cs = run document_limits fresh cs

abbrev Plain : List Command → Term → Term → Type 0
Plain cs t u = PlainPair document_limits false (after cs) t u

abbrev told : List Command → Term → Term → Reply
told cs t u = (order document_limits (after cs) (pair false 9 t u)).reply

or_no : (a : Bool) → (a || false) ≡ true → a ≡ true
or_no true e = refl
or_no false e = e

record Pairs : Type 0 where
  -- what came before
  before₁ : replies document_limits fresh clashed ≡ term (var 0) ∷ verdict 0 ∷ []
  before₂ : replies document_limits fresh numbered ≡ term (var 0) ∷ term (var 1) ∷ []
  before₃ : replies document_limits fresh cut ≡ term (var 0) ∷ verdict 2 ∷ []
  before₄ : replies document_limits fresh everything ≡ term (var 0) ∷ term (var 1) ∷ term (var 2) ∷ verdict 0 ∷ verdict 1 ∷ verdict 1 ∷ changed true ∷ verdict 2 ∷ []
  -- plain pairs all the same
  plain₁ : Plain clashed (var 0) I32
  plain₂ : Plain numbered (var 1) I32
  plain₃ : Plain cut (var 0) I32
  plain₄ : Plain everything (tuple₂ (var 0) I32) (tuple₂ (array (builtin 3)) (var 1))
  -- and their answers
  answer₁ : told clashed (var 0) I32 ≡ verdict 1
  answer₂ : told numbered (var 1) I32 ≡ verdict 1
  answer₃ : told cut (var 0) I32 ≡ verdict 1
  answer₄ : told everything (tuple₂ (var 0) I32) (tuple₂ (array (builtin 3)) (var 1)) ≡ verdict 1

pairs : Pairs
unfolding clashed numbered cut everything run replies order variable_step number_at find same_place settles check_pair match differ decompose bind bind₀ bind₁ zip_on admit allow join joined same_shape same read read_all blank blank_row
    loose unmarked turned class nums row tag children subs resolve follow followed replace recovery projects is meets among beyond size put ℕ_discrete verdict_code solver_of outside
    family_of asked.among belongs belongs_row code ranged_at taken numeric_defaults_of numeric_at settle_at
pairs = record {
  before₁ = refl;
  before₂ = refl;
  before₃ = refl;
  before₄ = refl;
  plain₁ = record { known_left = refl; known_right = refl; room = refl; left = free_in loose (after clashed) 0 refl refl; right = closed_in loose (after clashed) I32 I32 refl refl refl (λ v. refl) };
  plain₂ = record { known_left = refl; known_right = refl; room = refl; left = free_in loose (after numbered) 1 refl refl; right = closed_in loose (after numbered) I32 I32 refl refl refl (λ v. refl) };
  plain₃ = record { known_left = refl; known_right = refl; room = refl; left = free_in loose (after cut) 0 refl refl; right = closed_in loose (after cut) I32 I32 refl refl refl (λ v. refl) };
  plain₄ = record {
    known_left = refl;
    known_right = refl;
    room = refl;
    left = first_order_in loose (after everything) (tuple₂ (var 0) I32) (tuple₂ (var 0) I32) refl refl refl (λ v e. ap (after everything).solver.requests (eqb-true v 0 (or_no (eqb v 0) e)));
    right = closed_in loose (after everything) (tuple₂ (array (builtin 3)) (var 1)) (tuple₂ (array (builtin 3)) I32) refl refl refl (λ v. refl);
  };
  answer₁ = refl;
  answer₂ = refl;
  answer₃ = refl;
  answer₄ = refl;
}

-- the theorem, used on them
used : (cs : List Command) (t u : Term) → Plain cs t u → told cs t u ≡ verdict 1 → DecidedBy document_limits false (after cs) 9 t u
used cs t u p e = not_cancelled document_limits false (after cs) t u (robinson_each document_limits false cs t u p) 9 (λ q. let x : ◌≡◌ {A = ℕ} 1 2 = cc (e, q) in absurd (omega arith))

record Used : Type 0 where
  after_incompatible : DecidedBy document_limits false (after clashed) 9 (var 0) I32
  beside_a_number : DecidedBy document_limits false (after numbered) 9 (var 1) I32
  after_cancelled : DecidedBy document_limits false (after cut) 9 (var 0) I32
  after_everything : DecidedBy document_limits false (after everything) 9 (tuple₂ (var 0) I32) (tuple₂ (array (builtin 3)) (var 1))

each_used : Used
each_used = record {
  after_incompatible = used clashed (var 0) I32 pairs.plain₁ pairs.answer₁;
  beside_a_number = used numbered (var 1) I32 pairs.plain₂ pairs.answer₂;
  after_cancelled = used cut (var 0) I32 pairs.plain₃ pairs.answer₃;
  after_everything = used everything (tuple₂ (var 0) I32) (tuple₂ (array (builtin 3)) (var 1)) pairs.plain₄ pairs.answer₄;
}

-- Another answer contradicts the statement, whatever session follows: 0 to ?0 and I32 after an incompatible pair, 1 to I32 and I64 after a cancelled one.
never_zero : (y : Session) → ¬ Decided (after clashed) y (var 0) I32 (verdict 0 ≡ verdict 1) (verdict 0 ≡ verdict 0)
unfolding replace
never_zero y d = d.clashing.0 refl (λ v. I32) refl

never_one : (y : Session) → ¬ Decided (after cut) y I32 (builtin 3) (verdict 1 ≡ verdict 1) (verdict 1 ≡ verdict 0)
unfolding replace
never_one y d = let e : ◌≡◌ {A = Term} I32 (builtin 3) = (d.unifiable.0 refl).1 in let x : ◌≡◌ {A = ℕ} 2 3 = cc (e) in absurd (omega arith)
