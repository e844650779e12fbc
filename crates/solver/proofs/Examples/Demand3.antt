-- Demand 3 used on two sessions: its premises can be met, on both sides of the first sentence.
use mathlib.Core.Path.{◌≡◌, refl, sym, ◌∙◌}
use mathlib.Core.Bool.{Bool, true, false}
use mathlib.Core.List.{List, [], ◌∷◌}
use Prim.Native.Nat.{ℕ, ◌≤◌, ◌<◌}
use native.Mathlib.Decide.{ℕ_discrete}
use native.Mathlib.Omega.{arith}
use Rattle.terms.specs.Term.{Term, var, size}
use Rattle.terms.specs.Tree.{nums, row, tag, class, children, subs, same}
use Rattle.terms.specs.Questions.{among, meets}
use Rattle.terms.specs.Shape.{kind_of, many_terms}
use Rattle.terms.specs.Formed.{Formed, TakesNumber, after_number, TakesTerm, after_term}
use Rattle.terms.proofs.Laws.General.Bools.{never_false}
use Rattle.unify.specs.Solver.{put}
use Rattle.solver.specs.Families as asked
use Rattle.solver.specs.Families.{requested, code, family_of, belongs, belongs_row, ranged_at, taken}
use Rattle.solver.specs.Shapes.{loose, blank, blank_row, unmarked, read, same_shape, turned}
use Rattle.solver.specs.Constrain.{replace, followed, resolve, follow, recovery, is, projects, joined, join, allow, admit, bind₁, bind₀, bind, zip_on, decompose, differ, match, check_pair, settles}
use Rattle.solver.specs.Session.{document_limits, same_place, issued, find, settle_at, numeric_at, numeric_defaults_of}
use Rattle.solver.specs.Orders.{Command, variable, number, pair, numbers, verdict_code, solver_of, beyond, variable_step, number_at, order}
use Rattle.solver.specs.Demand3.{accepted, says, placed, requested_by, posed_by, strict_by, beginning, history, outside, OnlyBy, Premises, Assigns, RespectsFamilies, MakesEqual}
use Rattle.solver.proofs.Examples.Sessions.{I32, builtin, array, tuple₂, set_of}
use Rattle.solver.proofs.Laws.Theory.Demand3Laws.{demand_3}

pub formed_array : (t : Term) → Formed t → Formed (array t)
unfolding Formed kind_of TakesTerm after_term
formed_array t f = (refl, (tt, f, refl))

pub formed_tuple : (t u : Term) → Formed t → Formed u → Formed (tuple₂ t u)
unfolding Formed kind_of TakesNumber after_number many_terms TakesTerm after_term
formed_tuple t u f g = (refl, (omega arith, (tt, f, (tt, g, refl))))

pub formed_set : (a : ℕ) (t : Term) → a < 2 → Formed t → Formed (set_of a t)
unfolding Formed kind_of TakesNumber after_number TakesTerm after_term
formed_set a t l f = (refl, (l, (tt, f, refl)))

pub formed_builtin : (c : ℕ) → c < 32 → Formed (builtin c)
unfolding Formed kind_of TakesNumber after_number
formed_builtin c l = (refl, (l, refl))

pub formed_var : (v : ℕ) → v ≤ 4294967295 → Formed (var v)
unfolding Formed
formed_var v l = l

-- document 01's session, but for its orders 5 and 8
bar : List Command
bar = variable 7 0 ∷ variable 8 0 ∷ pair false 9 (array (var 0)) (array (tuple₂ (var 1) I32)) ∷ pair false 9 (var 1) (array (var 0)) ∷ []

-- a number variable, a variable in a Set of either access, and a default that finds nothing to bind
level : List Command
level = number 1 (requested 2) ∷ variable 2 0 ∷ pair false 9 (tuple₂ (var 0) (set_of 0 (var 1))) (tuple₂ (builtin 4) (set_of 1 (array (var 0)))) ∷ numbers ∷ []

bar_premises : Premises document_limits bar
unfolding bar level history order variable_step number_at find same_place settles check_pair match differ decompose bind bind₀ bind₁ zip_on admit allow join joined same_shape same read blank blank_row loose unmarked turned class nums
    row tag children subs resolve follow followed replace recovery projects is meets among beyond size put ℕ_discrete verdict_code solver_of accepted says requested_by posed_by strict_by placed outside
    family_of asked.among belongs belongs_row code ranged_at taken numeric_defaults_of numeric_at settle_at
bar_premises = record {
  allowed = (tt, (tt, (tt, (tt, tt))));
  pairs = (
    (formed_var 1 (omega arith), refl),
    (formed_array (var 0) (formed_var 0 (omega arith)), refl),
    (
      (formed_array (var 0) (formed_var 0 (omega arith)), refl),
      (formed_array (tuple₂ (var 1) I32) (formed_tuple (var 1) I32 (formed_var 1 (omega arith)) (formed_builtin 2 (omega arith))), refl),
      tt,
    ),
  );
  none_cancelled = refl;
}

level_premises : Premises document_limits level
unfolding bar level history order variable_step number_at find same_place settles check_pair match differ decompose bind bind₀ bind₁ zip_on admit allow join joined same_shape same read blank blank_row loose unmarked turned class nums
    row tag children subs resolve follow followed replace recovery projects is meets among beyond size put ℕ_discrete verdict_code solver_of accepted says requested_by posed_by strict_by placed outside
    family_of asked.among belongs belongs_row code ranged_at taken numeric_defaults_of numeric_at settle_at
level_premises = record {
  allowed = (refl, (tt, (tt, (refl, tt))));
  pairs = (
    (formed_tuple (var 0) (set_of 0 (var 1)) (formed_var 0 (omega arith)) (formed_set 0 (var 1) (omega arith) (formed_var 1 (omega arith))), refl),
    (formed_tuple (builtin 4) (set_of 1 (array (var 0))) (formed_builtin 4 (omega arith)) (formed_set 1 (array (var 0)) (omega arith) (formed_array (var 0) (formed_var 0 (omega arith)))), refl),
    tt,
  );
  none_cancelled = refl;
}

-- what is answered
record Answered : Type 0 where
  bar_no : (history document_limits beginning bar).incompatible ≡ true
  level_yes : (history document_limits beginning level).incompatible ≡ false

answered : Answered
unfolding bar level history order variable_step number_at find same_place settles check_pair match differ decompose bind bind₀ bind₁ zip_on admit allow join joined same_shape same read blank blank_row loose unmarked turned class nums
    row tag children subs resolve follow followed replace recovery projects is meets among beyond size put ℕ_discrete verdict_code solver_of accepted says requested_by posed_by strict_by placed outside
    family_of asked.among belongs belongs_row code ranged_at taken numeric_defaults_of numeric_at settle_at
answered = record { bar_no = refl; level_yes = refl }

-- by which order
record PosedLoosely : Type 0 where
  bars : OnlyBy false (history document_limits beginning bar).by
  levels : OnlyBy false (history document_limits beginning level).by

posed_loosely : PosedLoosely
unfolding bar level history order variable_step number_at find same_place settles check_pair match differ decompose bind bind₀ bind₁ zip_on admit allow join joined same_shape same read blank blank_row loose unmarked turned class nums
    row tag children subs resolve follow followed replace recovery projects is meets among beyond size put ℕ_discrete verdict_code solver_of accepted says requested_by posed_by strict_by placed outside
    family_of asked.among belongs belongs_row code ranged_at taken numeric_defaults_of numeric_at settle_at
posed_loosely = record { bars = (refl, (refl, tt)); levels = (refl, tt) }

abbrev None : List Command → Type 0
None cs =
    let h = history document_limits beginning cs in
    (θ : ℕ → Term) → Assigns (issued h.session) θ → RespectsFamilies θ h.requests → ¬ MakesEqual loose θ h.posed

-- so no assignment makes the pairs of the first equal, and for the second it is not so
bar_none : None bar
bar_none = (demand_3 document_limits false bar posed_loosely.bars bar_premises).first.0 answered.bar_no

apart : (b : Bool) → b ≡ false → b ≡ true → ⊥
apart b p q = never_false (sym q ∙ p)

level_some : ¬ None level
level_some f = apart (history document_limits beginning level).incompatible answered.level_yes ((demand_3 document_limits false level posed_loosely.levels level_premises).first.1 f)
