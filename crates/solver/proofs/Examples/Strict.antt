-- Strict pairs, and lists that mix them with pairs of order 4: sessions by computation, and the theorems used on them.
use mathlib.Core.Path.{◌≡◌, refl}
use mathlib.Core.Bool.{true, false}
use mathlib.Core.List.{List, [], ◌∷◌}
use Prim.Native.Nat.{ℕ, ◌<◌}
use native.Mathlib.Decide.{ℕ_discrete}
use native.Mathlib.Omega.{arith}
use Rattle.terms.specs.Term.{Term, var, node, end, num, sub, size}
use Rattle.terms.specs.Tree.{nums, row, tag, class, children, subs, same}
use Rattle.terms.specs.Questions.{among, meets}
use Rattle.terms.proofs.Laws.General.Bools.{never_true}
use Rattle.unify.specs.Solver.{put}
use Rattle.solver.specs.Shapes.{loose, exact, notion, blank, blank_row, unmarked, read, read_all, same_shape, turned}
use Rattle.solver.specs.Constrain.{replace, followed, resolve, follow, recovery, is, projects, joined, join, allow, admit, bind₁, bind₀, bind, zip_on, decompose, differ, match, check_pair, settles}
use Rattle.solver.specs.Session.{document_limits, same_place, issued, find, fresh}
use Rattle.solver.specs.Orders.{Command, variable, pair, resolving, revision, Reply, term, verdict, count, verdict_code, solver_of, beyond, variable_step, order, replies}
use Rattle.solver.specs.Demand3.{History, accepted, says, requested_by, posed_by, strict_by, beginning, history, outside, Plain, Premises, Assigns, RespectsFamilies, MakesEqual, OnlyBy, EachBy, KeepsHalf, Unequal}
use Rattle.solver.proofs.Examples.Sessions.{I32, array, set_of, map_of}
use Rattle.solver.proofs.Examples.Demand3.{formed_set, formed_builtin, formed_var}
use Rattle.solver.proofs.Laws.Theory.Demand3Laws.{demand_3, mixed_half, mixed_pair}

answers : List Command → List Reply
answers cs = replies document_limits fresh cs

record Examples : Type 0 where
  -- where the access clashes, the parts do not meet: ?0 stays free
  clash : answers (variable 0 0 ∷ pair true 9 (set_of 0 (var 0)) (set_of 1 I32) ∷ resolving (var 0) ∷ revision ∷ []) ≡ term (var 0) ∷ verdict 0 ∷ term (var 0) ∷ count 0 ∷ []
  loosely : answers (variable 0 0 ∷ pair false 9 (set_of 0 (var 0)) (set_of 1 I32) ∷ resolving (var 0) ∷ revision ∷ []) ≡ term (var 0) ∷ verdict 1 ∷ term I32 ∷ count 1 ∷ []
  -- where it is the same they do
  binds : answers (variable 0 0 ∷ pair true 9 (set_of 1 (var 0)) (set_of 1 I32) ∷ resolving (var 0) ∷ []) ≡ term (var 0) ∷ verdict 1 ∷ term I32 ∷ []
  inner : answers (variable 0 0 ∷ pair true 9 (array (map_of 0 (var 0) I32)) (array (map_of 0 I32 (var 0))) ∷ resolving (var 0) ∷ []) ≡ term (var 0) ∷ verdict 1 ∷ term I32 ∷ []
  -- Sets and Maps; the access of a Reference counts by either order
  sets : answers (pair true 9 (set_of 0 I32) (set_of 1 I32) ∷ []) ≡ verdict 0 ∷ []
  maps : answers (pair true 9 (map_of 0 I32 I32) (map_of 1 I32 I32) ∷ []) ≡ verdict 0 ∷ []
  references : answers (pair true 9 (node 0 (num 0 (sub I32 end))) (node 0 (num 1 (sub I32 end))) ∷ []) ≡ verdict 0 ∷ []
  -- a binding keeps the access of the term that it was bound to, whichever order posed it
  mix : answers (variable 0 0 ∷ pair false 9 (var 0) (set_of 0 I32) ∷ pair false 9 (var 0) (set_of 1 I32) ∷ pair true 9 (var 0) (set_of 1 I32) ∷ pair true 9 (var 0) (set_of 0 I32) ∷ resolving (var 0) ∷ revision ∷ [])
      ≡ term (var 0) ∷ verdict 1 ∷ verdict 1 ∷ verdict 0 ∷ verdict 1 ∷ term (set_of 0 I32) ∷ count 1 ∷ []

examples : Examples
unfolding answers loose exact ℕ_discrete put size nums row tag class children subs same among meets blank blank_row unmarked read same_shape turned
    replace followed resolve follow recovery is projects joined join allow admit bind₁ bind₀ bind zip_on decompose differ match check_pair settles
    same_place find verdict_code solver_of beyond variable_step order replies
examples = record { clash = refl; loosely = refl; binds = refl; inner = refl; sets = refl; maps = refl; references = refl; mix = refl }

-- ---- the theorems, used

-- strict pairs alone, a mix in which no pair is incompatible, and one in which one is
strict : List Command
strict = variable 0 0 ∷ pair true 9 (var 0) (set_of 0 I32) ∷ pair true 9 (var 0) (set_of 1 I32) ∷ []

mixed : List Command
mixed = variable 0 0 ∷ pair false 9 (var 0) (set_of 0 I32) ∷ pair true 9 (var 0) (set_of 0 I32) ∷ []

apart : List Command
apart = variable 0 0 ∷ pair false 9 (var 0) (set_of 0 I32) ∷ pair true 9 (var 0) (set_of 1 I32) ∷ []

abbrev after : List Command → History
after cs = history document_limits beginning cs

record Answered : Type 0 where
  strict_only : OnlyBy true (after strict).by
  strict_no : (after strict).incompatible ≡ true
  mixed_by : (after mixed).by ≡ true ∷ false ∷ []
  mixed_yes : (after mixed).incompatible ≡ false
  -- a strict pair posed after the mix, and one of order 4
  clashing : says 0 (order document_limits (after mixed).session (pair true 9 (var 0) (set_of 1 I32))).reply ≡ true
  meeting : says 0 (order document_limits (after mixed).session (pair false 9 (var 0) (set_of 1 I32))).reply ≡ false
  -- In a mix the first sentence does not hold: the second pair is incompatible, and yet an assignment makes both equal, each by its own order.
  apart_no : (after apart).incompatible ≡ true
  apart_each : EachBy (λ v. set_of 1 I32) (after apart).by (after apart).posed

answered : Answered
unfolding strict mixed apart history order variable_step find same_place settles check_pair match differ decompose bind bind₀ bind₁ zip_on admit allow join joined same_shape same read read_all blank blank_row loose exact unmarked turned
    class nums row tag children subs resolve follow followed replace recovery projects is meets among beyond size put ℕ_discrete verdict_code solver_of accepted says requested_by posed_by strict_by
answered = record {
  strict_only = (refl, (refl, tt));
  strict_no = refl;
  mixed_by = refl;
  mixed_yes = refl;
  clashing = refl;
  meeting = refl;
  apart_no = refl;
  apart_each = (refl, (refl, tt));
}

plain_set : (a : ℕ) → a < 2 → Plain (set_of a I32)
unfolding meets outside among
plain_set a l = (formed_set a I32 l (formed_builtin 2 (omega arith)), refl)

plain_variable : Plain (var 0)
unfolding meets outside
plain_variable = (formed_var 0 (omega arith), refl)

record Met : Type 0 where
  stricts : Premises document_limits strict
  mixes : Premises document_limits mixed

met : Met
unfolding strict mixed history order variable_step find same_place settles check_pair match differ decompose bind bind₀ bind₁ zip_on admit allow join joined same_shape same read blank blank_row loose exact unmarked turned
    class nums row tag children subs resolve follow followed replace recovery projects is meets among beyond size put ℕ_discrete verdict_code solver_of accepted says requested_by posed_by
met = record {
  stricts = record {
    allowed = (tt, (tt, (tt, tt)));
    pairs = (plain_variable, plain_set 1 (omega arith), (plain_variable, plain_set 0 (omega arith), tt));
    none_cancelled = refl;
  };
  mixes = record {
    allowed = (tt, (tt, (tt, tt)));
    pairs = (plain_variable, plain_set 0 (omega arith), (plain_variable, plain_set 0 (omega arith), tt));
    none_cancelled = refl;
  };
}

-- with access included no assignment makes both strict pairs equal
strict_none : (θ : ℕ → Term) → Assigns (issued (after strict).session) θ → RespectsFamilies θ (after strict).requests → ¬ MakesEqual (notion true) θ (after strict).posed
strict_none = (demand_3 document_limits true strict answered.strict_only met.stricts).first.0 answered.strict_no

-- the half that the mix keeps
half : KeepsHalf (after mixed)
half = mixed_half document_limits mixed met.mixes

-- and a pair after it: none that agrees exactly makes it equal strictly, and one does by order 4
record Next : Type 0 where
  none_strictly : Unequal (after mixed) true (var 0) (set_of 1 I32)
  some_loosely : ¬ Unequal (after mixed) false (var 0) (set_of 1 I32)

next : Next
unfolding mixed history order variable_step find same_place settles check_pair match differ decompose bind bind₀ bind₁ zip_on admit allow join joined same_shape same read blank blank_row loose exact unmarked turned
    class nums row tag children subs resolve follow followed replace recovery projects is meets among beyond size put ℕ_discrete verdict_code solver_of accepted says requested_by posed_by
next = record {
  none_strictly = (mixed_pair document_limits mixed met.mixes true 9 (var 0) (set_of 1 I32) plain_variable (plain_set 1 (omega arith)) refl refl).0 answered.clashing;
  some_loosely = λ f. never_true ((mixed_pair document_limits mixed met.mixes false 9 (var 0) (set_of 1 I32) plain_variable (plain_set 1 (omega arith)) refl refl).1 f);
}
