-- The sessions of `Sessions`, run on the Rust's solver, and pairs given to Robinson's algorithm, by computation.
use mathlib.Core.Path.{◌≡◌, refl}
use mathlib.Core.List.{[], ◌∷◌}
use mathlib.Core.Bool.{true, false}
use mathlib.Core.Option.{none, some}
use native.Mathlib.Decide.{ℕ_discrete, dec_le}
use Rattle.terms.specs.Term.{var, node, end, num, sub, size}
use Rattle.terms.specs.Tree.{unknown, nums, row, tag, class, children, subs, same, same_numbers, nominal_of}
use Rattle.terms.specs.Questions.{among, meets}
use Rattle.terms.specs.Substitution.{substitute_once}
use Rattle.unify.specs.RustMaps.{look, insert, place, sorted, look_site}
use Rattle.solver.specs.Families.{requested}
use Rattle.solver.specs.Shapes.{blank, blank_row, turned}
use Rattle.solver.specs.Constrain.{replace, recovery, is, zip_on}
use Rattle.solver.specs.Orders.{variable, number, hole, defer, pair, resolving, numbers, nevers, revision}
use Rattle.solver.specs.Orders.{term, verdict, changed, count, nothing, beyond}
use Rattle.solver.specs.Robinson.{value, has, images, others, or_else, disagreement, ordered, unifier, without, replacing, step3, step2, again, rounds, unification}
use Rattle.solver.specs.Rust as rust
use Rattle.solver.specs.Rust.{default, answers}
use Rattle.solver.proofs.Examples.Sessions.{builtin, I32, array, tuple₂, set_of, map_of, struct_of, projected}

record Answers : Type 0 where
  bar : answers default (variable 7 0 ∷ variable 8 0 ∷ pair false 9 (array (var 0)) (array (tuple₂ (var 1) I32)) ∷ pair false 9 (var 1) (array (var 0)) ∷ resolving (var 0) ∷ revision ∷ [])
      ≡ some (term (var 0) ∷ term (var 1) ∷ verdict 1 ∷ verdict 0 ∷ term (tuple₂ (var 1) I32) ∷ count 1 ∷ [])
  checks : answers default (variable 7 0 ∷ variable 8 0 ∷ pair false 1 (array (var 0)) (array (tuple₂ (var 1) I32)) ∷ revision ∷ pair false 2 (array (var 0)) (array (tuple₂ (var 1) I32)) ∷ revision ∷ [])
      ≡ some (term (var 0) ∷ term (var 1) ∷ verdict 2 ∷ count 0 ∷ verdict 1 ∷ count 1 ∷ [])
  access : answers default (pair false 9 (set_of 0 I32) (set_of 1 I32) ∷ pair false 9 (map_of 0 I32 I32) (map_of 1 I32 I32) ∷ pair false 9 (node 0 (num 0 (sub I32 end))) (node 0 (num 1 (sub I32 end))) ∷ [])
      ≡ some (verdict 1 ∷ verdict 1 ∷ verdict 0 ∷ [])
  projections : answers default (variable 7 0 ∷ pair false 9 (projected (var 0)) (projected I32) ∷ pair false 9 (projected (var 0)) (projected (var 0)) ∷ revision ∷ [])
      ≡ some (term (var 0) ∷ verdict 0 ∷ verdict 1 ∷ count 0 ∷ [])
  tuples : answers default (number 7 (requested 2) ∷ pair false 9 (var 0) (tuple₂ I32 I32) ∷ resolving (var 0) ∷ []) ≡ some (term (var 0) ∷ verdict 0 ∷ term (var 0) ∷ [])
  unknowns : answers default (variable 7 0 ∷ pair false 9 (var 0) (array unknown) ∷ pair false 9 (array unknown) (array I32) ∷ resolving (var 0) ∷ pair false 9 (var 0) I32 ∷ resolving (var 0) ∷ [])
      ≡ some (term (var 0) ∷ verdict 1 ∷ verdict 1 ∷ term (var 0) ∷ verdict 1 ∷ term I32 ∷ [])
  families : answers default (number 1 (requested 8) ∷ number 2 (requested 9) ∷ pair false 9 (var 0) (var 1) ∷ pair false 9 (var 0) (builtin 8) ∷ number 3 (requested 4) ∷ pair false 9 (var 0) (var 2) ∷ pair false 9 (var 1) (builtin 10) ∷ numbers ∷ resolving (tuple₂ (var 0) (var 1)) ∷ revision ∷ [])
      ≡ some (term (var 0) ∷ term (var 1) ∷ verdict 0 ∷ verdict 0 ∷ term (var 2) ∷ verdict 1 ∷ verdict 0 ∷ changed true ∷ term (tuple₂ (builtin 8) (builtin 9)) ∷ count 3 ∷ [])
  parts : answers default (variable 1 0 ∷ variable 2 0 ∷ pair false 2 (struct_of (var 0) (var 1)) (struct_of I32 I32) ∷ resolving (tuple₂ (var 0) (var 1)) ∷ [])
      ≡ some (term (var 0) ∷ term (var 1) ∷ verdict 2 ∷ term (tuple₂ I32 (var 1)) ∷ [])
  nevermore : answers default (hole 7 ∷ number 7 (requested 2) ∷ hole 7 ∷ defer (var 1) ∷ nevers ∷ nevers ∷ resolving (var 1) ∷ variable 7 1 ∷ number 7 (requested 9) ∷ [])
      ≡ some (term (var 0) ∷ term (var 1) ∷ term (var 0) ∷ nothing ∷ changed true ∷ changed false ∷ term (builtin 10) ∷ term (var 1) ∷ term (builtin 10) ∷ [])
  -- at an id that is no index the Rust panics
  panics : answers default (variable 7 0 ∷ resolving (var 1) ∷ []) ≡ none

answers_are : Answers
unfolding answers rust.answer rust.and_then rust.with_answer rust.with_term rust.with_verdict rust.variable_entry rust.hole_entry rust.returning rust.numeric_entry rust.diverge rust.with_binding rust.binding rust.next rust.rounds
    rust.same_kind rust.takes rust.admissible rust.hand_on rust.bind rust.if_admissible rust.if_numeric rust.same_nominal rust.alike rust.same_shape_rust rust.if_shape rust.arms rust.while_pending rust.default_root rust.numeric_defaults rust.never_defaults
    look insert place sorted look_site ℕ_discrete dec_le nums row tag class children subs same same_numbers nominal_of among meets substitute_once turned recovery is zip_on beyond
answers_are = record {
  bar = refl;
  checks = refl;
  access = refl;
  projections = refl;
  tuples = refl;
  unknowns = refl;
  families = refl;
  parts = refl;
  nevermore = refl;
  panics = refl;
}

record Ends : Type 0 where
  -- Array(?0) and Array(Tuple(?1, I32))
  found : unification (array (var 0)) (array (tuple₂ (var 1) I32)) ≡ unifier ((0, tuple₂ (var 1) I32) ∷ [])
  -- Tuple(?0, ?2) and Tuple(?1, Array(?0))
  twice : unification (tuple₂ (var 0) (var 2)) (tuple₂ (var 1) (array (var 0))) ≡ unifier ((0, var 1) ∷ (2, array (var 1)) ∷ [])
  -- Tuple(?0, ?0) and Tuple(?1, Array(?1)): ?1 occurs in Array(?1)
  occurring : unification (tuple₂ (var 0) (var 0)) (tuple₂ (var 1) (array (var 1))) ≡ without
  -- Array(I32) and I32
  clashing : unification (array I32) I32 ≡ without

ends_are : Ends
unfolding rounds again step2 step3 replacing value has images others or_else disagreement ordered replace size same blank blank_row meets is
ends_are = record { found = refl; twice = refl; occurring = refl; clashing = refl }
