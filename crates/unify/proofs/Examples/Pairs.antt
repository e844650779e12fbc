-- `RobinsonPair` for Kagari's terms, by both notions; worked pairs after orders that the theorem on whole lists leaves out; and pairs that show what
-- each premise is for.
use mathlib.Core.Path.{◌≡◌, refl, ap, ◌∙◌}
use mathlib.Core.Logic.{◌⊎◌, inl, inr}
use mathlib.Core.Bool.{true}
use mathlib.Core.Option.{Option, none}
use mathlib.Core.List.{List, [], ◌∷◌}
use Prim.Native.Nat.{ℕ, ◌<◌}
use native.Mathlib.Decide.{ℕ_discrete, dec_lt, dec_le}
use native.Mathlib.Omega.{arith}
use Rattle.unify.specs.Term.{Term, var, node, nil, ◌▸◌, In, width, sub, in?, same?}
use Rattle.unify.specs.Solver.{put, admit, join, joined, allow, any_soft, zip_on}
use Rattle.unify.specs.Expansion.{resolve, expand}
use Rattle.unify.specs.Orders.{Issued, fresh, settle, issued?}
use Rattle.unify.specs.Table.{answer, walk, tie₁, tie₀, tie, part₁, part, differ, match, turn, settles}
use Rattle.unify.specs.Session.{Command, variable, number, pair, numbers, session_begin, sheet}
use Rattle.unify.specs.Session.{Reply, term, verdict, changed, verdict_of, variable_at, if_issued, reply, replies, is_same}
use Rattle.unify.specs.Session.{fill, number_one, never_one, fill_numbers, fill_nevers, deferring, serve_variable, serve_hole, serve_number, serve_defer, lift, serve_pair, obey, obey_all}
use Rattle.unify.specs.Robinson1965.{Outcome, unifier, without, value, has?, images, others, disagreement, replace, step3, step2, again, rounds, unification, ordered, above, occurring, or_else}
use Rattle.unify.proofs.RobinsonPair.{Simple, PlainPair, DecidesPair, RobinsonDecides, robinson_each, decides_at}
use Rattle.unify.proofs.PlainLists.{SimplePairs, plain_lists}
use Rattle.unify.proofs.Examples.Kagari.{Head, head, head_discrete, list_discrete, kagari, kagari_soft, kagari_rigid, kagari_admits, kagari_meet, floating, in_family, loose, loose_respects, exact, exact_respects, fallback, never_head, kagari_sheet, I32, array, tuple₂, set_of}

-- ---- the theorem for them

-- order 4, up to Set and Map access; then with access included
pub kagari_each : (cs : List (Command kagari)) (t u : Term Head) → PlainPair kagari loose loose_respects fallback never_head (kagari_sheet cs) t u
    → RobinsonDecides kagari loose loose_respects fallback never_head (kagari_sheet cs) t u
kagari_each = robinson_each kagari loose loose_respects fallback never_head

pub kagari_strict_each : (cs : List (Command kagari)) (t u : Term Head) → PlainPair kagari exact exact_respects fallback never_head (sheet kagari fallback never_head exact cs) t u
    → RobinsonDecides kagari exact exact_respects fallback never_head (sheet kagari fallback never_head exact cs) t u
kagari_strict_each = robinson_each kagari exact exact_respects fallback never_head

-- what defaults take is plain
simple_builtin : (c : ℕ) → Simple kagari loose (node (head 4 c []) nil)
unfolding kagari_soft kagari_rigid loose ℕ_discrete
simple_builtin c = (refl, refl, refl, tt)

pub kagari_plain_lists : (cs : List (Command kagari)) (t u : Term Head)
    → SimplePairs kagari loose (kagari_sheet cs).posed → Simple kagari loose t → Simple kagari loose u → Issued (kagari_sheet cs).count t → Issued (kagari_sheet cs).count u
    → ((v : ℕ) → In v (answer kagari (kagari_sheet cs).state.table t) ⊎ In v (answer kagari (kagari_sheet cs).state.table u) → (kagari_sheet cs).state.table.fam v ≡ none)
    → RobinsonDecides kagari loose loose_respects fallback never_head (kagari_sheet cs) t u
kagari_plain_lists = plain_lists kagari loose fallback never_head (λ f o. simple_builtin f) (simple_builtin 10) loose_respects

-- ---- worked

abbrev I64 : Term Head
I64 = node (head 4 3 []) nil

abbrev unknown : Term Head
unknown = node (head 2 0 []) nil

-- after an incompatible pair; after a cancelled one; with a number variable elsewhere
abbrev clashed : List (Command kagari)
clashed = variable 0 0 ∷ pair 9 I32 I64 ∷ []

abbrev cut : List (Command kagari)
cut = variable 0 0 ∷ pair 0 (var 0) I32 ∷ []

abbrev numbered : List (Command kagari)
numbered = number 5 2 ∷ variable 0 0 ∷ []

-- after all that: an incompatible pair, a recovery term, an access mark, and a default that bound ?1 to I32
abbrev everything : List (Command kagari)
everything = variable 0 0 ∷ number 5 2 ∷ variable 1 0 ∷ pair 9 I32 I64 ∷ pair 9 (var 0) unknown ∷ pair 9 (var 2) (set_of 1 I32) ∷ numbers ∷ pair 1 (array (var 0)) (array I64) ∷ []

answers : List (Command kagari) → List (Reply kagari)
answers cs = replies kagari fallback never_head loose (fresh kagari (session_begin kagari fallback never_head)) cs

abbrev says : List (Command kagari) → Term Head → Term Head → Reply kagari
says cs t u = reply kagari fallback never_head loose (kagari_sheet cs) (pair 9 t u)

abbrev then : List (Command kagari) → Term Head → Term Head → Term Head → Term Head
then cs t u w = answer kagari (obey kagari fallback never_head loose (kagari_sheet cs) (pair 9 t u)).state.table w

abbrev algorithm : Term Head → Term Head → Outcome Head
algorithm t u = unification head_discrete t u

abbrev Plainly : List (Command kagari) → Term Head → Term Head → Type 0
Plainly cs t u = PlainPair kagari loose loose_respects fallback never_head (kagari_sheet cs) t u

record Pairs : Type 0 where
  -- what came before
  before₁ : answers clashed ≡ term (var 0) ∷ verdict 0 ∷ []
  before₂ : answers cut ≡ term (var 0) ∷ verdict 2 ∷ []
  before₃ : answers numbered ≡ term (var 0) ∷ term (var 1) ∷ []
  before₄ : answers everything ≡ term (var 0) ∷ term (var 1) ∷ term (var 2) ∷ verdict 0 ∷ verdict 1 ∷ verdict 1 ∷ changed true ∷ verdict 2 ∷ []
  -- plain pairs all the same
  plain₁ : Plainly clashed (var 0) I32
  plain₂ : Plainly cut (var 0) I32
  plain₃ : Plainly numbered (var 1) I32
  plain₄ : Plainly everything (tuple₂ (var 0) I32) (tuple₂ (array I64) (var 1))
  plain₅ : Plainly clashed (var 0) (array (var 0))
  -- and their answers
  answer₁ : says clashed (var 0) I32 ≡ verdict 1
  answer₂ : says cut (var 0) I32 ≡ verdict 1
  answer₃ : says numbered (var 1) I32 ≡ verdict 1
  answer₄ : says everything (tuple₂ (var 0) I32) (tuple₂ (array I64) (var 1)) ≡ verdict 1
  answer₅ : says clashed (var 0) (array (var 0)) ≡ verdict 0
  resolved₄ : then everything (tuple₂ (var 0) I32) (tuple₂ (array I64) (var 1)) (array (var 0)) ≡ array (array I64)

array_below : (w N : ℕ) → w < N → Issued N (array (var w))
array_below w N l v (inl q) = omega arith
array_below w N l v (inr q) = absurd q

array_unasked : (w : ℕ) (fam : ℕ → Option ℕ) → fam w ≡ none → (v : ℕ) → In v (array (var w)) → fam v ≡ none
array_unasked w fam p v (inl q) = ap fam q ∙ p
array_unasked w fam p v (inr q) = absurd q

left_below : (N : ℕ) → 0 < N → Issued N (tuple₂ (var 0) I32)
left_below N l v (inl q) = omega arith
left_below N l v (inr (inl q)) = absurd q
left_below N l v (inr (inr q)) = absurd q

left_unasked : (fam : ℕ → Option ℕ) → fam 0 ≡ none → (v : ℕ) → In v (tuple₂ (var 0) I32) → fam v ≡ none
left_unasked fam p v (inl q) = ap fam q ∙ p
left_unasked fam p v (inr (inl q)) = absurd q
left_unasked fam p v (inr (inr q)) = absurd q

right_below : (N : ℕ) → 1 < N → Issued N (tuple₂ (array I64) (var 1))
right_below N l v (inl (inl q)) = absurd q
right_below N l v (inl (inr q)) = absurd q
right_below N l v (inr (inl q)) = omega arith
right_below N l v (inr (inr q)) = absurd q

right_closed : (fam : ℕ → Option ℕ) (v : ℕ) → In v (tuple₂ (array I64) I32) → fam v ≡ none
right_closed fam v (inl (inl q)) = absurd q
right_closed fam v (inl (inr q)) = absurd q
right_closed fam v (inr (inl q)) = absurd q
right_closed fam v (inr (inr q)) = absurd q

pairs : Pairs
unfolding answers loose head_discrete list_discrete kagari_soft kagari_rigid kagari_admits kagari_meet floating in_family ℕ_discrete dec_lt
    sub in? same? put admit join joined allow any_soft zip_on issued? resolve expand walk tie₁ tie₀ tie part₁ part differ match turn settles
    obey obey_all serve_variable serve_number serve_hole serve_defer serve_pair deferring lift settle fill number_one never_one fill_numbers fill_nevers
    verdict_of variable_at if_issued reply replies is_same
pairs = record {
  before₁ = refl;
  before₂ = refl;
  before₃ = refl;
  before₄ = refl;
  plain₁ = record { issued_left = λ v e. omega arith; issued_right = λ v e. absurd e; left = (tt, λ v e. refl); right = ((refl, refl, refl, tt), λ v e. absurd e) };
  plain₂ = record { issued_left = λ v e. omega arith; issued_right = λ v e. absurd e; left = (tt, λ v e. refl); right = ((refl, refl, refl, tt), λ v e. absurd e) };
  plain₃ = record {
    issued_left = λ v e. omega arith;
    issued_right = λ v e. absurd e;
    left = (tt, λ v e. ap (kagari_sheet numbered).state.table.fam e);
    right = ((refl, refl, refl, tt), λ v e. absurd e);
  };
  plain₄ = record {
    issued_left = left_below 3 (omega arith);
    issued_right = right_below 3 (omega arith);
    left = ((refl, refl, refl, (tt, ((refl, refl, refl, tt), tt))), left_unasked (kagari_sheet everything).state.table.fam refl);
    right = ((refl, refl, refl, ((refl, refl, refl, ((refl, refl, refl, tt), tt)), ((refl, refl, refl, tt), tt))), right_closed (kagari_sheet everything).state.table.fam);
  };
  plain₅ = record {
    issued_left = λ v e. omega arith;
    issued_right = array_below 0 1 (omega arith);
    left = (tt, λ v e. refl);
    right = ((refl, refl, refl, (tt, tt)), array_unasked 0 (kagari_sheet clashed).state.table.fam refl);
  };
  answer₁ = refl;
  answer₂ = refl;
  answer₃ = refl;
  answer₄ = refl;
  answer₅ = refl;
  resolved₄ = refl;
}

-- the theorem, used on them: whatever was answered before, these are Robinson's answers
abbrev Decides : List (Command kagari) → Term Head → Term Head → Type 0
Decides cs t u = DecidesPair kagari loose loose_respects fallback never_head (kagari_sheet cs) 9 t u

settled : (cs : List (Command kagari)) (t u : Term Head) → Plainly cs t u → (d : ℕ) → d < 2 → says cs t u ≡ verdict d → Decides cs t u
settled cs t u p d l e = decides_at kagari loose loose_respects fallback never_head (kagari_sheet cs) t u (kagari_each cs t u p) 9
    (λ q. let x : d ≡ 2 = cc (e, q) in absurd (omega arith))

record Used : Type 0 where
  after_incompatible : Decides clashed (var 0) I32
  after_cancelled : Decides cut (var 0) I32
  beside_a_number : Decides numbered (var 1) I32
  after_everything : Decides everything (tuple₂ (var 0) I32) (tuple₂ (array I64) (var 1))
  clashing_again : Decides clashed (var 0) (array (var 0))

used : Used
used = record {
  after_incompatible = settled clashed (var 0) I32 pairs.plain₁ 1 (omega arith) pairs.answer₁;
  after_cancelled = settled cut (var 0) I32 pairs.plain₂ 1 (omega arith) pairs.answer₂;
  beside_a_number = settled numbered (var 1) I32 pairs.plain₃ 1 (omega arith) pairs.answer₃;
  after_everything = settled everything (tuple₂ (var 0) I32) (tuple₂ (array I64) (var 1)) pairs.plain₄ 1 (omega arith) pairs.answer₄;
  clashing_again = settled clashed (var 0) (array (var 0)) pairs.plain₅ 0 (omega arith) pairs.answer₅;
}

abbrev project : Term Head → Term Head
project t = node (head 18 0 []) (t ▸ nil)

-- The algorithm on these, as they resolve; and what each premise is for: where it fails, the answer may be another than the algorithm's.
record Paper : Type 0 where
  paper₁ : algorithm (var 0) I32 ≡ unifier ((0, I32) ∷ [])
  paper₄ : algorithm (tuple₂ (var 0) I32) (tuple₂ (array I64) I32) ≡ unifier ((0, array I64) ∷ [])
  paper₅ : algorithm (var 0) (array (var 0)) ≡ without
  -- a recovery term; an access mark; a number variable; a projection
  recovery : (says [] unknown I32 ≡ verdict 1) × (algorithm unknown I32 ≡ without)
  mark : (says [] (set_of 0 I32) (set_of 1 I32) ≡ verdict 1) × (algorithm (set_of 0 I32) (set_of 1 I32) ≡ without)
  numeric : (says (number 5 2 ∷ []) (var 0) (array I32) ≡ verdict 0) × (algorithm (var 0) (array I32) ≡ unifier ((0, array I32) ∷ []))
  projection : (says (variable 0 0 ∷ []) (project (var 0)) (project I32) ≡ verdict 0) × (algorithm (project (var 0)) (project I32) ≡ unifier ((0, I32) ∷ []))

paper : Paper
unfolding answers loose head_discrete list_discrete kagari_soft kagari_rigid kagari_admits kagari_meet floating in_family ℕ_discrete dec_lt
    sub in? same? put admit join joined allow any_soft zip_on issued? resolve expand walk tie₁ tie₀ tie part₁ part differ match turn settles
    obey obey_all serve_variable serve_number serve_hole serve_defer serve_pair deferring lift settle fill number_one never_one fill_numbers fill_nevers
    verdict_of variable_at if_issued reply replies is_same
    dec_le width value has? images others disagreement replace step3 step2 again rounds ordered above occurring or_else
paper = record {
  paper₁ = refl;
  paper₄ = refl;
  paper₅ = refl;
  recovery = (refl, refl);
  mark = (refl, refl);
  numeric = (refl, refl);
  projection = (refl, refl);
}
