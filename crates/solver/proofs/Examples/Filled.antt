-- Numeric defaults after compatible pairs: the theorem used on a list with ranges, joins and a strict pair; and why fallbacks are asked for.
use mathlib.Core.Path.{◌≡◌, refl, sym, ap, ◌∙◌}
use mathlib.Core.Bool.{true, false, ◌||◌}
use mathlib.Core.List.{List, [], ◌∷◌}
use mathlib.Core.Logic.{◌⊎◌, inl, inr, ◌≢◌}
use mathlib.Core.Option.{Option, none, some}
use Prim.Native.Nat.{ℕ}
use native.Mathlib.Decide.{ℕ_discrete}
use native.Mathlib.Omega.{arith}
use lib.Dec.{eqb, ltb}
use Rattle.terms.specs.Term.{var, size}
use Rattle.terms.specs.Tree.{nums, row, tag, class, children, subs, same}
use Rattle.terms.specs.Questions.{among, meets}
use Rattle.terms.proofs.Laws.General.Bools.{never_true}
use Rattle.unify.specs.Term.{clash}
use Rattle.unify.specs.Solver.{put}
use Rattle.unify.proofs.Sound.{put_cases}
use Rattle.solver.specs.Families as asked
use Rattle.solver.specs.Families.{I16, I64, U8, U16, U32, U64, code, family_of, belongs, belongs_row, sieve, gathered, below, lowest, highest}
use Rattle.solver.specs.Families.{Request, requested, request_of, joined_as, meet, first_of, chosen, ranged_at, family_at, taken}
use Rattle.solver.specs.Shapes.{loose, exact, blank, blank_row, unmarked, read, same_shape, turned}
use Rattle.solver.specs.Constrain.{replace, followed, resolve, resolved, follow, recovery, is, projects, joined, join, allow, admit, bind₁, bind₀, bind, zip_on, decompose, differ, match, check_pair, settles}
use Rattle.solver.specs.Session.{document_limits, same_place, find, Session, settle_at, numeric_at, numeric_defaults_of}
use Rattle.solver.specs.Orders.{Command, variable, number, pair, numbers, verdict_code, solver_of, beyond, variable_step, number_at, order}
use Rattle.solver.specs.Demand3.{History, accepted, says, placed, requested_by, posed_by, strict_by, beginning, history, outside, integer_or_f64, AllProper, Fallbacks, Filled, Premises}
use Rattle.solver.proofs.Examples.Sessions.{I32, builtin, set_of}
use Rattle.solver.proofs.Examples.Demand3.{formed_set, formed_var}
use Rattle.solver.proofs.Examples.Ranges.{plus, made, range}
use Rattle.solver.proofs.Laws.Theory.FilledLaws.{defaults_leave}

after : List Command → History
after cs = history document_limits beginning cs

-- and order 6
filling : List Command → Session
filling cs = (order document_limits (after cs).session numbers).session

-- a plain I8, 0 to 200 with fallback I8, a variable; the first two joined, and the third by a strict pair
clean : List Command
clean = number 1 (requested 0) ∷ range 2 0 (plus 0) (plus 200) ∷ variable 3 0 ∷ pair false 9 (var 0) (var 1) ∷ pair true 9 (set_of 1 (var 2)) (set_of 1 (var 0)) ∷ []

abbrev wide : Request
wide = record { fallback = 0; family = record { one = I16; more = asked.I32 ∷ I64 ∷ U8 ∷ U16 ∷ U32 ∷ U64 ∷ [] }; ranged = true }

-- a plain request with fallback F32
single : List Command
single = number 1 (requested 8) ∷ []

record Clean : Type 0 where
  proper : AllProper clean
  premises : Premises document_limits clean
  compatible : (after clean).incompatible ≡ false
  requests : (after clean).requests ≡ put (put (λ v. none) 0 (some (requested 0))) 1 (some wide)
  -- what they are after order 6: not I8, which the range does not admit
  first : resolved (filling clean).solver (var 0) ≡ I32
  second : resolved (filling clean).solver (var 1) ≡ I32
  third : resolved (filling clean).solver (var 2) ≡ I32

clean_is : Clean
unfolding after filling clean made history order variable_step number_at find same_place settles check_pair match differ decompose bind bind₀ bind₁ zip_on admit allow join joined same_shape same read blank blank_row loose exact unmarked
    turned class nums row tag children subs resolve follow followed replace recovery projects is meets among beyond size put ℕ_discrete verdict_code solver_of accepted says requested_by posed_by strict_by placed outside
    code asked.among family_of belongs belongs_row sieve gathered below lowest highest request_of joined_as meet first_of chosen ranged_at family_at taken numeric_defaults_of numeric_at settle_at
clean_is = record {
  proper = (inl refl, (inr (plus 0, plus 200, refl), (tt, (tt, (tt, tt)))));
  premises = record {
    allowed = (refl, (refl, (tt, (tt, (tt, tt)))));
    pairs = (
      (formed_set 1 (var 2) (omega arith) (formed_var 2 (omega arith)), refl),
      (formed_set 1 (var 0) (omega arith) (formed_var 0 (omega arith)), refl),
      ((formed_var 0 (omega arith), refl), (formed_var 1 (omega arith), refl), tt),
    );
    none_cancelled = refl;
  };
  compatible = refl;
  requests = refl;
  first = refl;
  second = refl;
  third = refl;
}

fallbacks : Fallbacks (after clean).requests
unfolding integer_or_f64
fallbacks v r e = second (put_cases (put (λ v. none) 0 (some (requested 0))) 1 wide v r (ap (λ (f : ℕ → Option Request). f v) (sym clean_is.requests) ∙ e))
  where
    first : ((v ≡ 0) × (requested 0 ≡ r)) ⊎ ((v ≢ 0) × (◌≡◌ {A = Option Request} none (some r))) → r.ranged ≡ false → (ltb r.fallback 8 || eqb r.fallback 9) ≡ true
    first (inl q) p = ap (λ (x : Request). ltb x.fallback 8 || eqb x.fallback 9) (sym q.1)
    first (inr q) p = clash (cc q.1)

    second : ((v ≡ 1) × (wide ≡ r)) ⊎ ((v ≢ 1) × (put (λ v. none) 0 (some (requested 0)) v ≡ some r)) → r.ranged ≡ false → (ltb r.fallback 8 || eqb r.fallback 9) ≡ true
    second (inl q) p = never_true (sym (ap (λ (x : Request). x.ranged) q.1 ∙ p))
    second (inr q) p = first (put_cases (λ v. none) 0 (requested 0) v r q.1) p

-- THE THEOREM, USED
clean_filled : Filled (after clean) (filling clean)
unfolding after filling
clean_filled = defaults_leave document_limits clean clean_is.proper clean_is.premises fallbacks clean_is.compatible

-- WITHOUT THE PREMISE ON FALLBACKS it is not so: the variable is F32 after order 6, which its family, the integers, does not admit
record Single : Type 0 where
  proper : AllProper single
  premises : Premises document_limits single
  compatible : (after single).incompatible ≡ false
  requested_so : (after single).requests 0 ≡ some (requested 8)
  given : resolved (filling single).solver (var 0) ≡ builtin 8
  missing : belongs (family_of 8) (builtin 8) ≡ false
  fallback : integer_or_f64 8 ≡ false

single_is : Single
unfolding after filling single history order number_at find same_place resolve follow followed replace put ℕ_discrete accepted says requested_by posed_by strict_by placed
    code asked.among family_of belongs belongs_row ranged_at taken numeric_defaults_of numeric_at settle_at integer_or_f64
single_is = record {
  proper = (inl refl, tt);
  premises = record { allowed = (refl, tt); pairs = tt; none_cancelled = refl };
  compatible = refl;
  requested_so = refl;
  given = refl;
  missing = refl;
  fallback = refl;
}

single_unfilled : ¬ Filled (after single) (filling single)
single_unfilled x = never_true (sym single_is.missing ∙ sym (ap (belongs (family_of 8)) single_is.given) ∙ x.typed 0 (requested 8) single_is.requested_so)
