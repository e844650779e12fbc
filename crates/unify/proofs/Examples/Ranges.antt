-- Requests with ranges on Kagari's heads: an instance of `Sig`, so that demand 3 and what defaults leave hold of it; and worked ranges and sessions.
use mathlib.Core.Path.{◌≡◌, refl, ap, ap₂, sym, ◌∙◌, subst}
use mathlib.Core.Logic.{◌⊎◌, inl, inr, ◌↔◌, ◌≢◌}
use mathlib.Core.Bool.{Bool, true, false, ◌&&◌, ◌||◌, cond}
use mathlib.Core.Option.{Option, none, some}
use mathlib.Core.List.{List, [], ◌∷◌}
use Prim.Native.Nat.{ℕ}
use native.Mathlib.Decide.{ℕ_discrete, dec_lt}
use lib.Dec.{eqb}
use borrow.Author.Tests.{eqb-true}
use Rattle.unify.specs.Term.{Term, var, node, nil, width, clash, sub, in?, same?}
use Rattle.unify.specs.Solver.{Sig, put, admit, join, joined, allow, any_soft, zip_on}
use Rattle.unify.specs.Meaning.{Under, Plain}
use Rattle.unify.specs.Expansion.{resolve, expand}
use Rattle.unify.specs.Orders.{fresh, settle, issued?, Demand3}
use Rattle.unify.proofs.Demand.{Premises}
use Rattle.unify.specs.Table.{answer, walk, tie₁, tie₀, tie, part₁, part, differ, match, turn, settles}
use Rattle.unify.specs.Session.{Command, variable, number, pair, resolving, numbers, revision, session_begin, sheet, AllAllowed}
use Rattle.unify.specs.Session.{Reply, term, verdict, changed, count, verdict_of, variable_at, if_issued, reply, replies, is_same}
use Rattle.unify.specs.Session.{fill, number_one, never_one, fill_numbers, fill_nevers, deferring, serve_variable, serve_hole, serve_number, serve_defer, lift, serve_pair, obey}
use Rattle.unify.proofs.Sound.{put_cases}
use Rattle.unify.proofs.Whole.{whole_demand_3}
use Rattle.unify.specs.Mixes.{By, Mixing, also, noted, mix, mix_begin, AllAllowedBy, MixPremises}
use Rattle.unify.specs.Filled.{AllGood, FilledBy}
use Rattle.unify.proofs.FilledLaws.{defaults_leave}
use Rattle.unify.specs.Ranged.{I8, I16, I32, I64, U8, U16, U32, U64, code, among, Family, admits, integers, family_of, sieve, gathered, Bound, below, lowest, highest}
use Rattle.unify.specs.Ranged.{Request, requested, request_of, joined_as, meet, first_of, chosen, ranged_at, family_at, taken, Good}
use Rattle.unify.proofs.RangedLaws.{never_true, both, Meets, meets, misses, admits_one, range_good, plain_good, good_meet, taken_in}
use Rattle.unify.proofs.Examples.Kagari.{Head, head, head_discrete, list_discrete, kagari_soft, kagari_rigid, kagari_shape, kagari_some_plain, loose, arity, never_head, is}

-- ---- the signature

unfoldable pub bare : List ℕ → Bool
bare [] = true
bare (x ∷ l) = false

unfoldable pub admits_head : Family → Head → Bool
admits_head f (head t c l) = eqb t 4 && (bare l && admits f c)

abbrev pub builtin : ℕ → Head
builtin c = head 4 c []

pub is_builtin : (f : Family) (h : Head) → admits_head f h ≡ true → (c : ℕ) × (h ≡ builtin c) × (admits f c ≡ true)
unfolding admits_head bare
is_builtin f (head t c []) e = let x = both (eqb t 4) (admits f c) e in (c, ap (λ (k : ℕ). head k c []) (eqb-true t 4 x.0), x.1)
is_builtin f (head t c (y ∷ l)) e = never_true (both (eqb t 4) false e).1

pub builtin_plain : (c : ℕ) → (kagari_soft (builtin c) ≡ false) × (kagari_rigid (builtin c) ≡ false) × (kagari_shape (builtin c) 0 ≡ true)
unfolding kagari_soft kagari_rigid kagari_shape arity ℕ_discrete dec_lt
builtin_plain c = (refl, refl, refl)

pub meet_some : (r s e : Request) → meet r s ≡ some e → (h : Head) → (admits_head e.family h ≡ true) ↔ ((admits_head r.family h ≡ true) × (admits_head s.family h ≡ true))
unfolding admits_head bare
meet_some r s e p h = (there, back)
  where
    m : Meets r s e
    m = meets r s e p

    there : admits_head e.family h ≡ true → (admits_head r.family h ≡ true) × (admits_head s.family h ≡ true)
    there a =
        let x = is_builtin e.family h a in
        let y = both (admits r.family x.0) (admits s.family x.0) (sym (m.types x.0) ∙ x.2) in
        (ap (admits_head r.family) x.1 ∙ y.0, ap (admits_head s.family) x.1 ∙ y.1)

    back : (admits_head r.family h ≡ true) × (admits_head s.family h ≡ true) → admits_head e.family h ≡ true
    back a =
        let x = is_builtin r.family h a.0 in
        let b : admits s.family x.0 ≡ true = sym (ap (admits_head s.family) x.1) ∙ a.1 in
        ap (admits_head e.family) x.1 ∙ m.types x.0 ∙ ap₂ ◌&&◌ x.2 b

pub meet_none : (r s : Request) → meet r s ≡ none → (h : Head) → admits_head r.family h ≡ true → ¬ (admits_head s.family h ≡ true)
unfolding admits_head bare
meet_none r s p h a b =
    let x = is_builtin r.family h a in
    misses r s p x.0 x.2 (sym (ap (admits_head s.family) x.1) ∙ b)

pub one_ok : (f : Family) → admits_head f (builtin (code f.one)) ≡ true
unfolding admits_head bare
one_ok f = admits_one f

abbrev pub ranges : Sig
ranges = record {
  Head = Head;
  head? = head_discrete;
  soft = kagari_soft;
  rigid = kagari_rigid;
  shape = kagari_shape;
  some_head = head 4 2 [];
  some_plain = kagari_some_plain;
  Fam = Request;
  admits = λ r h. admits_head r.family h;
  meet = meet;
  meet_some = meet_some;
  meet_none = meet_none;
  pick = λ r. builtin (code r.family.one);
  pick_ok = λ r. one_ok r.family;
  pick_plain = λ r. builtin_plain (code r.family.one);
}

-- the head that a default takes
abbrev pub default : Request → Option Request → Head
default r o = builtin (taken r o)

pub good_default : (f g : Request) → Good f → Good g → Under ranges g f
    → (admits_head g.family (default f (some g)) ≡ true) × Plain ranges (node (default f (some g)) nil)
unfolding admits_head bare width
good_default f g x y u = (taken_in f g x y (λ c a. u (builtin c) a), let p = builtin_plain (taken f (some g)) in (p.0, p.1, p.2, tt))

-- ---- the theorems

-- access is no part of a builtin
loose_admits : (f : Family) (h : Head) → admits_head f (loose h) ≡ admits_head f h
unfolding admits_head loose
loose_admits f (head t m l) = go (ℕ_discrete t 10) (ℕ_discrete t 11)
  where
    go : (b : Dec (t ≡ 10)) (c : Dec (t ≡ 11)) → (eqb t 4 && (bare l && admits f (cond (is b || is c) 0 m))) ≡ (eqb t 4 && (bare l && admits f m))
    go (yes b) c = rw b
    go (no b) (yes c) = rw c
    go (no b) (no c) = refl

-- strict, or not
unfoldable pub norm : Bool → Head → Head
norm true h = h
norm false h = loose h

pub norm_respects : (b : Bool) (r : Request) (h k : Head) → norm b h ≡ norm b k → admits_head r.family h ≡ admits_head r.family k
unfolding norm
norm_respects true r h k p = ap (admits_head r.family) p
norm_respects false r h k p = sym (loose_admits r.family h) ∙ ap (admits_head r.family) p ∙ loose_admits r.family k

-- DEMAND 3 WITH RANGES, for sessions of one notion of equal shape
pub ranged_demand_3 : (b : Bool) (cs : List (Command ranges)) → AllAllowed ranges default never_head (norm b) (fresh ranges (session_begin ranges default never_head)) cs
    → Premises ranges (norm b) (norm_respects b) (sheet ranges default never_head (norm b) cs)
    → Demand3 ranges (norm b) (sheet ranges default never_head (norm b) cs) (λ v. answer ranges (sheet ranges default never_head (norm b) cs).state.table (var v))
ranged_demand_3 b = whole_demand_3 ranges default never_head (norm b) (norm_respects b)

-- DEFAULTS AFTER COMPATIBLE PAIRS, with ranges, strict and loose pairs mixed
pub ranged_defaults : (cs : List (By ranges Bool)) → AllAllowedBy ranges default never_head Bool norm (mix_begin ranges default never_head Bool norm) cs
    → (let x = mix ranges default never_head Bool norm (mix_begin ranges default never_head Bool norm) cs in
    MixPremises ranges default never_head Bool norm x → AllGood ranges Good x.run.asked → x.run.wrong ≡ false → FilledBy ranges default never_head Bool norm x)
ranged_defaults = defaults_leave ranges default never_head Bool norm norm_respects Good good_meet good_default

-- ---- worked

abbrev plus : ℕ → Bound
plus n = record { minus = false; size = n }

abbrev less : ℕ → Bound
less n = record { minus = true; size = n }

abbrev asking : Family → ℕ → Bool → Request
asking f c b = record { fallback = c; family = f; ranged = b }

-- 0 to 200 with fallback I8; -5 to 5 with fallback U8
abbrev wide : Request
wide = asking (record { one = I16; more = I32 ∷ I64 ∷ U8 ∷ U16 ∷ U32 ∷ U64 ∷ [] }) 0 true

abbrev signed : Request
signed = asking (record { one = I8; more = I16 ∷ I32 ∷ I64 ∷ [] }) 4 true

record Worked : Type 0 where
  -- 0 to 200, whatever the fallback: no I8
  bytes : request_of 0 (plus 0) (plus 200) ≡ some wide
  -- minus zero is zero
  zero_is : request_of 9 (less 0) (plus 255) ≡ request_of 9 (plus 0) (plus 255)
  zero_high : request_of 9 (plus 0) (less 0) ≡ request_of 9 (plus 0) (plus 0)
  -- -1 to 2^63: no type; -2^63 to 2^63 - 1: I64; 2^63: U64
  none_holds : request_of 2 (less 1) (plus 9223372036854775808) ≡ none
  only_i64 : request_of 2 (less 9223372036854775808) (plus 9223372036854775807) ≡ some (asking (record { one = I64; more = [] }) 2 true)
  only_u64 : request_of 2 (plus 9223372036854775808) (plus 9223372036854775808) ≡ some (asking (record { one = U64; more = [] }) 2 true)
  above : request_of 2 (plus 2) (plus 1) ≡ none
  -- other requests of the sessions below
  signed_is : request_of 4 (less 5) (plus 5) ≡ some signed
  below_is : request_of 2 (less 1) (plus 0) ≡ some (asking signed.family 2 true)
  small_is : request_of 5 (plus 0) (plus 10) ≡ some (asking integers 5 true)

worked : Worked
unfolding request_of joined_as gathered sieve below lowest highest
worked = record { bytes = refl; zero_is = refl; zero_high = refl; none_holds = refl; only_i64 = refl; only_u64 = refl; above = refl; signed_is = refl; below_is = refl; small_is = refl }

answers : List (Command ranges) → List (Reply ranges)
answers cs = replies ranges default never_head loose (fresh ranges (session_begin ranges default never_head)) cs

abbrev builtin_term : ℕ → Term Head
builtin_term c = node (builtin c) nil

record Sessions : Type 0 where
  -- a plain I8 is bound to a range that does not hold it: the default of the first goes by the end of its chain, and takes I32, not I8
  chain : answers (number 1 (requested 0) ∷ number 2 wide ∷ pair 9 (var 0) (var 1) ∷ numbers ∷ resolving (var 0) ∷ revision ∷ [])
      ≡ term (var 0) ∷ term (var 1) ∷ verdict 1 ∷ changed true ∷ term (builtin_term 2) ∷ count 2 ∷ []
  -- a range below zero: what the end admits is I8, I16, I32, I64, and not the fallback U8
  below-zero : answers (number 0 (requested 4) ∷ number 1 (asking signed.family 2 true) ∷ pair 9 (var 0) (var 1) ∷ numbers ∷ resolving (var 1) ∷ [])
      ≡ term (var 0) ∷ term (var 1) ∷ verdict 1 ∷ changed true ∷ term (builtin_term 2) ∷ []
  -- the fallback is that of the variable whose turn it is, the end's request says what is admitted: U16, not U8
  turns : answers (number 0 (asking integers 5 true) ∷ variable 1 0 ∷ number 2 (asking integers 4 true) ∷ pair 9 (var 0) (var 1) ∷ pair 9 (var 2) (var 1) ∷ numbers ∷ resolving (var 1) ∷ [])
      ≡ term (var 0) ∷ term (var 1) ∷ term (var 2) ∷ verdict 1 ∷ verdict 1 ∷ changed true ∷ term (builtin_term 5) ∷ []
  -- a range requested of a variable that is bound already: the end, which has a plain request, does not learn of it; one without request does
  late : answers (number 0 (requested 2) ∷ number 1 (requested 2) ∷ pair 9 (var 0) (var 1) ∷ number 0 wide ∷ numbers ∷ resolving (var 1) ∷ [])
      ≡ term (var 0) ∷ term (var 1) ∷ verdict 1 ∷ term (var 1) ∷ changed true ∷ term (builtin_term 0) ∷ []
  late_free : answers (variable 0 1 ∷ variable 1 0 ∷ pair 9 (var 0) (var 1) ∷ number 0 wide ∷ numbers ∷ resolving (var 1) ∷ [])
      ≡ term (var 0) ∷ term (var 1) ∷ verdict 1 ∷ term (var 1) ∷ changed true ∷ term (builtin_term 2) ∷ []
  -- (a range took part in the own request: what the end admits is I32, not the fallback F64)
  late_float : answers (number 0 (requested 2) ∷ number 1 (requested 2) ∷ pair 9 (var 0) (var 1) ∷ number 0 (asking wide.family 9 true) ∷ numbers ∷ resolving (var 1) ∷ [])
      ≡ term (var 0) ∷ term (var 1) ∷ verdict 1 ∷ term (var 1) ∷ changed true ∷ term (builtin_term 2) ∷ []
  -- a range over an end that admits floats alone: nothing of the list is admitted, and the fallback is taken
  late_none : answers (number 0 (requested 9) ∷ number 1 (requested 9) ∷ pair 9 (var 0) (var 1) ∷ number 0 wide ∷ numbers ∷ resolving (var 1) ∷ [])
      ≡ term (var 0) ∷ term (var 1) ∷ verdict 1 ∷ term (var 1) ∷ changed true ∷ term (builtin_term 0) ∷ []
  -- a plain request after a range makes the variable plain again
  plain_again : answers (number 0 wide ∷ number 0 (requested 2) ∷ pair 9 (var 0) (builtin_term 0) ∷ [])
      ≡ term (var 0) ∷ term (var 0) ∷ verdict 1 ∷ []
  -- three variables: the two ranges leave I16, I32, I64, and the fallback of the first, I64, is among them; U8 is not
  meeting : answers (number 1 (requested 3) ∷ number 2 wide ∷ number 3 signed ∷ pair 9 (var 1) (var 2) ∷ pair 9 (var 0) (var 1) ∷ pair 9 (var 2) (builtin_term 4) ∷ numbers ∷ resolving (var 1) ∷ [])
      ≡ term (var 0) ∷ term (var 1) ∷ term (var 2) ∷ verdict 1 ∷ verdict 1 ∷ verdict 0 ∷ changed true ∷ term (builtin_term 3) ∷ []
  -- a join marks its end: I8, requested plainly and bound to an end that was plain until a range joined it, is not taken
  marked : answers (number 1 (requested 0) ∷ number 2 (requested 2) ∷ number 3 wide ∷ pair 9 (var 2) (var 1) ∷ pair 9 (var 0) (var 1) ∷ numbers ∷ resolving (var 1) ∷ [])
      ≡ term (var 0) ∷ term (var 1) ∷ term (var 2) ∷ verdict 1 ∷ verdict 1 ∷ changed true ∷ term (builtin_term 2) ∷ []
  -- F64 meets no range; a range of I64 alone meets none of U64 alone
  apart : answers (number 1 (requested 9) ∷ number 2 wide ∷ pair 9 (var 0) (var 1) ∷ number 3 (asking (record { one = I64; more = [] }) 2 true) ∷ number 4 (asking (record { one = U64; more = [] }) 2 true) ∷ pair 9 (var 2) (var 3) ∷ numbers ∷ resolving (var 3) ∷ [])
      ≡ term (var 0) ∷ term (var 1) ∷ verdict 0 ∷ term (var 2) ∷ term (var 3) ∷ verdict 0 ∷ changed true ∷ term (builtin_term 7) ∷ []

sessions : Sessions
unfolding answers loose head_discrete list_discrete kagari_soft kagari_rigid ℕ_discrete dec_lt
    code among sieve gathered joined_as meet first_of chosen ranged_at family_at taken family_of admits_head bare
    sub in? same? put admit join joined allow any_soft zip_on issued? resolve expand walk tie₁ tie₀ tie part₁ part differ match turn settles
    obey serve_variable serve_number serve_hole serve_defer serve_pair deferring lift settle fill number_one never_one fill_numbers fill_nevers
    verdict_of variable_at if_issued reply replies is_same
sessions = record { chain = refl; below-zero = refl; turns = refl; late = refl; late_free = refl; late_float = refl; late_none = refl; plain_again = refl; meeting = refl; marked = refl; apart = refl }

-- The premises of `ranged_defaults` are met: a plain request with fallback I8, and one from 0 to 200, joined by a strict pair.
abbrev joining : List (By ranges Bool)
joining = (false, number 1 (requested 0)) ∷ (false, number 2 wide) ∷ (true, pair 9 (var 0) (var 1)) ∷ []

abbrev joined_run : Mixing ranges default never_head Bool norm
joined_run = mix ranges default never_head Bool norm (mix_begin ranges default never_head Bool norm) joining

good_wide : Good wide
unfolding request_of joined_as gathered sieve below lowest highest
good_wide = range_good 0 (plus 0) (plus 200) wide refl

good_plain : Good (requested 0)
unfolding family_of among code
good_plain = plain_good 0 refl

filled_so : FilledBy ranges default never_head Bool norm joined_run
unfolding norm head_discrete list_discrete kagari_soft kagari_rigid ℕ_discrete dec_lt
    code among sieve gathered joined_as meet family_of admits_head bare
    sub in? same? put admit join joined allow any_soft zip_on issued? resolve expand walk tie₁ tie₀ tie part₁ part differ match turn settles
    obey serve_number serve_pair lift settle mix also noted
filled_so = ranged_defaults joining (refl, (refl, (tt, tt))) (refl, (tt, tt, tt)) goods refl
  where
    first : (v : ℕ) (f : Request) → ((v ≡ 0) × (requested 0 ≡ f)) ⊎ ((v ≢ 0) × (◌≡◌ {A = Option Request} none (some f))) → Good f
    first v f (inl q) = subst (λ (r : Request). Good r) q.1 good_plain
    first v f (inr q) = clash (cc q.1)

    second : (v : ℕ) (f : Request) → ((v ≡ 1) × (wide ≡ f)) ⊎ ((v ≢ 1) × (put (λ w. none) 0 (some (requested 0)) v ≡ some f)) → Good f
    second v f (inl q) = subst (λ (r : Request). Good r) q.1 good_wide
    second v f (inr q) = first v f (put_cases (λ w. none) 0 (requested 0) v f q.1)

    goods : AllGood ranges Good joined_run.run.asked
    goods v f p = second v f (put_cases (put (λ w. none) 0 (some (requested 0))) 1 wide v f p)
