-- Sessions with order 21: numbers known as a range, by computation.
use mathlib.Core.Path.{◌≡◌, refl}
use mathlib.Core.Bool.{true, false}
use mathlib.Core.List.{List, [], ◌∷◌}
use mathlib.Core.Option.{Option, none, some}
use Prim.Native.Nat.{ℕ}
use native.Mathlib.Decide.{ℕ_discrete}
use Rattle.terms.specs.Term.{var, size}
use Rattle.terms.specs.Tree.{nums, row, tag, class, children, subs, same}
use Rattle.terms.specs.Questions.{among, meets}
use Rattle.unify.specs.Solver.{put}
use Rattle.solver.specs.Families as asked
use Rattle.solver.specs.Families.{Numeric, I8, I16, I64, U8, U16, U32, U64, code, family_of, belongs, belongs_row, sieve, gathered, Bound, below, lowest, highest}
use Rattle.solver.specs.Families.{Request, requested, request_of, joined_as, meet, first_of, chosen, ranged_at, family_at, taken}
use Rattle.solver.specs.Shapes.{loose, exact, blank, blank_row, unmarked, read, same_shape, turned}
use Rattle.solver.specs.Constrain.{replace, followed, resolve, follow, recovery, is, projects, joined, join, allow, admit, bind₁, bind₀, bind, zip_on, decompose, differ, match, check_pair, settles}
use Rattle.solver.specs.Session.{document_limits, same_place, find, fresh, deferring, settle_at, numeric_at, never_at, numeric_defaults_of, never_defaults_of}
use Rattle.solver.specs.Orders.{Command, variable, number, pair, resolving, defer, numbers, nevers, revision, unread}
use Rattle.solver.specs.Orders.{Reply, term, verdict, changed, count, nothing, refused, verdict_code, solver_of, beyond, variable_step, number_at, order, replies}
use Rattle.solver.proofs.Examples.Sessions.{I32, builtin, tuple₂}

abbrev pub plus : ℕ → Bound
plus n = record { minus = false; size = n }

abbrev pub less : ℕ → Bound
less n = record { minus = true; size = n }

-- order 21: a site, a fallback and two bounds
unfoldable pub made : ℕ → Option Request → Command
made site none = unread 13
made site (some r) = number site r

abbrev pub range : ℕ → ℕ → Bound → Bound → Command
range site c low high = made site (request_of c low high)

-- a request of these types, with fallback F64, which none of them is
abbrev of : Numeric → List Numeric → Request
of x l = record { fallback = 9; family = record { one = x; more = l }; ranged = true }

answers : List Command → List Reply
answers cs = replies document_limits fresh cs

record Ranges : Type 0 where
  -- the fallback is that of the variable whose turn it is, and what is admitted is read at the end of its chain: a plain U8 that was bound to a range below zero
  by_end : answers (number 0 (requested 4) ∷ range 1 2 (less 1) (plus 0) ∷ pair false 9 (var 0) (var 1) ∷ numbers ∷ resolving (var 1) ∷ [])
      ≡ term (var 0) ∷ term (var 1) ∷ verdict 1 ∷ changed true ∷ term I32 ∷ []
  by_turn : answers (range 0 5 (plus 0) (plus 10) ∷ variable 1 0 ∷ range 2 4 (plus 0) (plus 10) ∷ pair false 9 (var 0) (var 1) ∷ pair false 9 (var 2) (var 1) ∷ numbers ∷ resolving (var 1) ∷ [])
      ≡ term (var 0) ∷ term (var 1) ∷ term (var 2) ∷ verdict 1 ∷ verdict 1 ∷ changed true ∷ term (builtin 5) ∷ []
  -- a range for a variable that is bound to another already: that one does not learn of it. It admits I8, the fallback,
  late : answers (number 0 (requested 2) ∷ number 1 (requested 2) ∷ pair false 9 (var 0) (var 1) ∷ range 0 0 (plus 0) (plus 200) ∷ numbers ∷ resolving (var 1) ∷ [])
      ≡ term (var 0) ∷ term (var 1) ∷ verdict 1 ∷ term (var 1) ∷ changed true ∷ term (builtin 0) ∷ []
  -- and not F64, so that the first of the list is taken;
  late_float : answers (number 0 (requested 2) ∷ number 1 (requested 2) ∷ pair false 9 (var 0) (var 1) ∷ range 0 9 (plus 0) (plus 200) ∷ numbers ∷ resolving (var 1) ∷ [])
      ≡ term (var 0) ∷ term (var 1) ∷ verdict 1 ∷ term (var 1) ∷ changed true ∷ term I32 ∷ []
  -- where nothing is requested of it, the own types count
  late_free : answers (variable 0 1 ∷ variable 1 0 ∷ pair false 9 (var 0) (var 1) ∷ range 0 0 (plus 0) (plus 200) ∷ numbers ∷ resolving (var 1) ∷ [])
      ≡ term (var 0) ∷ term (var 1) ∷ verdict 1 ∷ term (var 1) ∷ changed true ∷ term I32 ∷ []
  -- floats alone are admitted there: none of the list is, and the fallback is taken
  late_none : answers (number 0 (requested 9) ∷ number 1 (requested 9) ∷ pair false 9 (var 0) (var 1) ∷ range 0 0 (plus 0) (plus 200) ∷ numbers ∷ resolving (var 1) ∷ [])
      ≡ term (var 0) ∷ term (var 1) ∷ verdict 1 ∷ term (var 1) ∷ changed true ∷ term (builtin 0) ∷ []
  -- 0 to 200 does not admit I8; order 1 after it makes the variable plain again
  narrow : answers (range 0 2 (plus 0) (plus 200) ∷ pair false 9 (var 0) (builtin 0) ∷ pair false 9 (var 0) (builtin 4) ∷ []) ≡ term (var 0) ∷ verdict 0 ∷ verdict 1 ∷ []
  plain_again : answers (range 0 2 (plus 0) (plus 200) ∷ number 0 (requested 2) ∷ pair false 9 (var 0) (builtin 0) ∷ []) ≡ term (var 0) ∷ term (var 0) ∷ verdict 1 ∷ []
  -- minus zero is zero; low above high, and a range that no type holds, are refused
  zeros : answers (range 0 4 (less 0) (plus 255) ∷ range 1 4 (plus 0) (less 0) ∷ range 2 4 (plus 2) (plus 1) ∷ range 2 4 (less 1) (plus 9223372036854775808) ∷ numbers ∷ resolving (tuple₂ (var 0) (var 1)) ∷ [])
      ≡ term (var 0) ∷ term (var 1) ∷ refused 13 ∷ refused 13 ∷ changed true ∷ term (tuple₂ (builtin 4) (builtin 4)) ∷ []
  -- 2^31 leaves I64, U32, U64, and a range below zero leaves I64 of them: for the fallback U32 too
  one_left : answers (range 0 6 (plus 2147483648) (plus 2147483648) ∷ range 1 6 (less 1) (plus 0) ∷ pair false 9 (var 0) (var 1) ∷ pair false 9 (var 0) I32 ∷ pair false 9 (var 1) (builtin 6) ∷ numbers ∷ resolving (var 0) ∷ revision ∷ [])
      ≡ term (var 0) ∷ term (var 1) ∷ verdict 1 ∷ verdict 0 ∷ verdict 0 ∷ changed true ∷ term (builtin 3) ∷ count 2 ∷ []
  -- and of U64 alone none; F64 and F32 are in no range. What was incompatible binds nothing
  none_left : answers (range 0 6 (plus 9223372036854775808) (plus 18446744073709551615) ∷ range 1 6 (less 1) (plus 0) ∷ pair false 9 (var 0) (var 1) ∷ number 2 (requested 9) ∷ pair false 9 (var 2) (var 1) ∷ pair false 9 (var 1) (var 2) ∷ pair false 9 (var 1) (builtin 8) ∷ revision ∷ [])
      ≡ term (var 0) ∷ term (var 1) ∷ verdict 0 ∷ term (var 2) ∷ verdict 0 ∷ verdict 0 ∷ verdict 0 ∷ count 0 ∷ []
  -- a join marks the variable left free: I8 is not taken there, neither by one that was joined before nor by one joined later
  marked : answers (number 0 (requested 0) ∷ number 1 (requested 0) ∷ range 2 0 (plus 0) (plus 200) ∷ pair false 9 (var 0) (var 1) ∷ pair false 9 (var 2) (var 1) ∷ pair false 9 (var 1) (builtin 0) ∷ numbers ∷ resolving (var 0) ∷ [])
      ≡ term (var 0) ∷ term (var 1) ∷ term (var 2) ∷ verdict 1 ∷ verdict 1 ∷ verdict 0 ∷ changed true ∷ term I32 ∷ []
  -- "never defaults may bind a number variable"
  never_range : answers (range 0 2 (plus 0) (plus 200) ∷ defer (var 0) ∷ nevers ∷ resolving (var 0) ∷ []) ≡ term (var 0) ∷ nothing ∷ changed true ∷ term (builtin 10) ∷ []
  -- "else the first admitted of": by ranges I32, I64 and U64, since who holds a range of another holds it too
  by_ranges : answers (range 0 9 (plus 0) (plus 10) ∷ range 1 9 (plus 0) (plus 2147483648) ∷ range 2 9 (plus 9223372036854775808) (plus 9223372036854775808) ∷ numbers ∷ resolving (tuple₂ (var 0) (var 1)) ∷ resolving (var 2) ∷ [])
      ≡ term (var 0) ∷ term (var 1) ∷ term (var 2) ∷ changed true ∷ term (tuple₂ I32 (builtin 3)) ∷ term (builtin 7) ∷ []
  -- and each of the list where those before it are not admitted
  listed : answers (
      number 0 (of I8 (I16 ∷ asked.I32 ∷ I64 ∷ U8 ∷ U16 ∷ U32 ∷ U64 ∷ [])) ∷ number 1 (of I8 (I16 ∷ I64 ∷ U8 ∷ U16 ∷ U32 ∷ U64 ∷ [])) ∷ number 2 (of I8 (I16 ∷ U8 ∷ U16 ∷ U32 ∷ U64 ∷ []))
      ∷ number 3 (of I8 (I16 ∷ U8 ∷ U16 ∷ U64 ∷ [])) ∷ number 4 (of I8 (I16 ∷ U8 ∷ U16 ∷ [])) ∷ number 5 (of I16 (U8 ∷ U16 ∷ [])) ∷ number 6 (of I16 (U16 ∷ [])) ∷ number 7 (of U16 []) ∷ numbers
      ∷ resolving (tuple₂ (tuple₂ (tuple₂ (var 0) (var 1)) (tuple₂ (var 2) (var 3))) (tuple₂ (tuple₂ (var 4) (var 5)) (tuple₂ (var 6) (var 7)))) ∷ [])
      ≡ term (var 0) ∷ term (var 1) ∷ term (var 2) ∷ term (var 3) ∷ term (var 4) ∷ term (var 5) ∷ term (var 6) ∷ term (var 7) ∷ changed true
      ∷ term (tuple₂ (tuple₂ (tuple₂ I32 (builtin 3)) (tuple₂ (builtin 6) (builtin 7))) (tuple₂ (tuple₂ (builtin 0) (builtin 4)) (tuple₂ (builtin 1) (builtin 5)))) ∷ []

ranges : Ranges
unfolding answers made loose exact ℕ_discrete put size nums row tag class children subs same among meets
    code asked.among family_of belongs belongs_row sieve gathered below lowest highest request_of joined_as meet first_of chosen ranged_at family_at taken
    blank blank_row unmarked read same_shape turned replace followed resolve follow recovery is projects joined join allow admit bind₁ bind₀ bind zip_on decompose differ match check_pair settles
    same_place find deferring settle_at numeric_at never_at numeric_defaults_of never_defaults_of verdict_code solver_of beyond variable_step number_at order replies
ranges = record {
  by_end = refl;
  by_turn = refl;
  late = refl;
  late_float = refl;
  late_free = refl;
  late_none = refl;
  narrow = refl;
  plain_again = refl;
  zeros = refl;
  one_left = refl;
  none_left = refl;
  marked = refl;
  never_range = refl;
  by_ranges = refl;
  listed = refl;
}
