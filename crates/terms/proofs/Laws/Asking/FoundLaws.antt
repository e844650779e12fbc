-- The walk of the questions finds a term exactly if one that counts is among those it enters: shown once, over the question number, and read off
-- for each question.
use mathlib.Core.Path.{◌≡◌, refl, sym, ap, subst, ◌∙◌}
use mathlib.Core.Logic.Iff
use mathlib.Core.Logic.{inl, inr, ◌↔◌}
use mathlib.Core.Bool.{Bool, true, false, not, ◌&&◌, ◌||◌}
use mathlib.Core.List.{List, [], ◌∷◌}
use Prim.Native.Nat.{ℕ, ◌<◌}
use native.Mathlib.Omega.{arith}
use borrow.Author.Tests.{eqb-true, eq-eqb, ne_eqb, ltb-true, lt-ltb}
use lib.Dec.{eqb, ltb}
use lib.ListN.{get_or}
use Rattle.terms.specs.Term.{Term, Parts, var, node, end, num, sub}
use Rattle.terms.specs.Shape.{layout}
use Rattle.terms.specs.Formed.{Formed, Fit}
use Rattle.terms.specs.Tree.{nums, row, tag}
use Rattle.terms.specs.Questions.{meets, meets_row, AmongEntered, AmongEnteredRow, OneCounts, Inside, UnderNoProjection, KnownIn, Parameter, contains, is_empty, first, second, parameter_of, among, counted_by, counted, entered_by, entered, asked, is_never, is_integer, is_concrete, is_unresolved, contains_unknown, contains_self_type, contains_projection, is_resolved_in, answered}
use Rattle.terms.proofs.Laws.General.Bools.{never_true, never_false, or-true, or_right, or_either, and_both, and-true}
use Rattle.terms.proofs.Laws.Asking.QuestionLaws.{builtin_row}

-- ---- the walk, whatever counts and whatever is entered

module _ (counts enters : Term → Bool) where
  mutual
    unfolding meets AmongEntered

    found : (t : Term) → meets counts enters t ≡ true → OneCounts counts enters t
    found (var v) e = (var v, refl, e)
    found (node k ps) e = elim (or_either (counts (node k ps)) (enters (node k ps) && meets_row counts enters ps) e) [
      | inl c ↦ (node k ps, inl refl, c)
      | inr c ↦ (let b = and_both (enters (node k ps)) (meets_row counts enters ps) c in let r = found_row ps b.1 in (r.0, inr (b.0, r.1), r.2))
    ]

    found_row : (ps : Parts) → meets_row counts enters ps ≡ true → (u : Term) × AmongEnteredRow enters u ps × (counts u ≡ true)
    found_row end e = never_true e
    found_row (num n ps) e = found_row ps e
    found_row (sub t ps) e = elim (or_either (meets counts enters t) (meets_row counts enters ps) e) [
      | inl c ↦ (let r = found t c in (r.0, inl r.1, r.2))
      | inr c ↦ (let r = found_row ps c in (r.0, inr r.1, r.2))
    ]

  mutual
    unfolding meets AmongEntered

    met : (t u : Term) → AmongEntered enters u t → counts u ≡ true → meets counts enters t ≡ true
    met (var v) u a c = cc
    met (node k ps) u (inl a) c = or-true (counts (node k ps)) (enters (node k ps) && meets_row counts enters ps) (cc)
    met (node k ps) u (inr a) c = or_right (counts (node k ps)) (enters (node k ps) && meets_row counts enters ps) (and-true (enters (node k ps)) (meets_row counts enters ps) a.0 (met_row ps u a.1 c))

    met_row : (ps : Parts) (u : Term) → AmongEnteredRow enters u ps → counts u ≡ true → meets_row counts enters ps ≡ true
    met_row end u a c = absurd a
    met_row (num n ps) u a c = met_row ps u a c
    met_row (sub t ps) u (inl a) c = or-true (meets counts enters t) (meets_row counts enters ps) (met t u a c)
    met_row (sub t ps) u (inr a) c = or_right (meets counts enters t) (meets_row counts enters ps) (met_row ps u a c)

  pub finds_exactly : (t : Term) → (meets counts enters t ≡ true) ↔ OneCounts counts enters t
  finds_exactly t = (found t, λ r. met t r.0 r.1 r.2)

-- ---- over the question number

-- "it finds a term exactly if one that counts is among those it enters"
pub finds : (ps : List Parameter) (q : ℕ) (t : Term) → (asked ps q t ≡ true) ↔ OneCounts (counted ps q) (entered q) t
finds ps q t = finds_exactly (counted ps q) (entered q) t

contrary : {A : Type 0} (b : Bool) → (b ≡ true) ↔ A → (not b ≡ true) ↔ (A → ⊥)
contrary true f = (λ e. never_true e, λ g. absurd (g (f.0 refl)))
contrary false f = (λ e a. never_true (f.1 a), λ g. refl)

-- where the answer is the contrary of the question's
pub finds_none : (ps : List Parameter) (q : ℕ) (t : Term) → (not (asked ps q t) ≡ true) ↔ (OneCounts (counted ps q) (entered q) t → ⊥)
finds_none ps q t = contrary (asked ps q t) (finds ps q t)

-- what `ask` promises of its result
pub ask_finds : (ps : List Parameter) (q : ℕ) (t : Term) (r : Bool) → r ≡ asked ps q t → (r ≡ true) ↔ OneCounts (counted ps q) (entered q) t
ask_finds ps q t r e = subst (λ (b : Bool). (b ≡ true) ↔ OneCounts (counted ps q) (entered q) t) (sym e) (finds ps q t)

-- the seven answers of order 15: a term is found, and for `is_concrete` none is
pub answers : (q : ℕ) (t : Term) → ((q ≡ 2 → ⊥) → (answered q t ≡ true) ↔ OneCounts (counted [] q) (entered q) t)
    × (q ≡ 2 → (answered q t ≡ true) ↔ (OneCounts (counted [] q) (entered q) t → ⊥))
unfolding answered
answers q t = (λ n. rw (ne_eqb q 2 n) (finds [] q t), λ e. rw (eq-eqb q 2 e) (finds_none [] q t))

-- ---- each question

pub never_found : (t : Term) → (is_never t ≡ true) ↔ OneCounts (counted [] 0) (entered 0) t
never_found = finds [] 0

pub integer_found : (t : Term) → (is_integer t ≡ true) ↔ OneCounts (counted [] 1) (entered 1) t
integer_found = finds [] 1

pub concrete_found : (t : Term) → (is_concrete t ≡ true) ↔ (OneCounts (counted [] 2) (entered 2) t → ⊥)
concrete_found = finds_none [] 2

pub unresolved_found : (t : Term) → (is_unresolved t ≡ true) ↔ OneCounts (counted [] 3) (entered 3) t
unresolved_found = finds [] 3

pub unknown_found : (t : Term) → (contains_unknown t ≡ true) ↔ OneCounts (counted [] 4) (entered 4) t
unknown_found = finds [] 4

pub self_type_found : (t : Term) → (contains_self_type t ≡ true) ↔ OneCounts (counted [] 5) (entered 5) t
self_type_found = finds [] 5

pub projection_found : (t : Term) → (contains_projection t ≡ true) ↔ OneCounts (counted [] 6) (entered 6) t
projection_found = finds [] 6

pub resolved_found : (ps : List Parameter) (t : Term) → (is_resolved_in ps t ≡ true) ↔ (OneCounts (counted ps 7) (entered 7) t → ⊥)
resolved_found ps = finds_none ps 7

-- ---- each question in words

module _ (counts enters : Term → Bool) where
  none : (t : Term) → (OneCounts counts enters t → ⊥) ↔ ((u : Term) → AmongEntered enters u t → counts u ≡ false)
  none t = (λ n u a. go u a n (counts u) refl, λ h r. never_true (sym (h r.0 r.1) ∙ r.2))
    where
      go : (u : Term) → AmongEntered enters u t → (OneCounts counts enters t → ⊥) → (b : Bool) → counts u ≡ b → b ≡ false
      go u a n true e = absurd (n (u, a, e))
      go u a n false e = refl

  -- where no term is entered only the term itself is looked at
  itself : ((v : Term) → enters v ≡ false) → (t : Term) → OneCounts counts enters t → counts t ≡ true
  unfolding AmongEntered
  itself n (var v) r = ap counts (sym r.1) ∙ r.2
  itself n (node k ps) (u, inl a, c) = ap counts (sym a) ∙ c
  itself n (node k ps) (u, inr a, c) = never_true (sym (n (node k ps)) ∙ a.0)

-- a Builtin has its code and nothing else
builtin_form : (t : Term) → Formed t → tag t ≡ 4 → t ≡ node 4 (num (first t) end)
unfolding Formed tag first nums row
builtin_form (var v) f e = absurd (omega (arith, e))
builtin_form (node k ps) f e =
    let r = builtin_row ps (subst (λ (j : ℕ). Fit (layout j) ps) e f.1) in
    let c : get_or (nums ps) 0 0 ≡ r.0 = ap (λ (z : Parts). get_or (nums z) 0 0) r.1 in
    ap (λ (j : ℕ). node j ps) e ∙ ap (node 4) (r.1 ∙ ap (λ (n : ℕ). num n end) (sym c))

-- `is_never`: the term is Builtin Never
pub never_is : (t : Term) → Formed t → (is_never t ≡ true) ↔ (t ≡ node 4 (num 10 end))
unfolding meets counted_by entered_by tag first second nums row
never_is t f = (
  λ e.
      let b = and_both (eqb (tag t) 4) (eqb (first t) 10) (itself (counted [] 0) (entered 0) (λ v. refl) t ((never_found t).0 e)) in
      builtin_form t f (eqb-true (tag t) 4 b.0) ∙ ap (λ (c : ℕ). node 4 (num c end)) (eqb-true (first t) 10 b.1),
  λ e. ap is_never e,
)

-- `is_integer`: it is a Builtin with a code below 8
pub integer_is : (t : Term) → Formed t → (is_integer t ≡ true) ↔ ((c : ℕ) × (c < 8) × (t ≡ node 4 (num c end)))
unfolding meets counted_by entered_by tag first second nums row
integer_is t f = (
  λ e.
      let b = and_both (eqb (tag t) 4) (ltb (first t) 8) (itself (counted [] 1) (entered 1) (λ v. refl) t ((integer_found t).0 e)) in
      (first t, ltb-true (first t) 8 b.1, builtin_form t f (eqb-true (tag t) 4 b.0)),
  λ r. ap is_integer r.2 ∙ or-true (ltb r.0 8) false (lt-ltb r.0 8 r.1),
)

-- `is_concrete`: nowhere in it is an Inference, Unknown, Error, Generic, projection or SelfType
pub concrete_is : (t : Term) → (is_concrete t ≡ true) ↔ ((u : Term) → Inside u t → among (tag u) (1 ∷ 2 ∷ 3 ∷ 17 ∷ 18 ∷ 19 ∷ []) ≡ false)
unfolding counted_by entered_by
concrete_is t = Iff.trans (concrete_found t) (none (counted [] 2) (entered 2) t)

-- `is_unresolved`: somewhere in it is an Inference, Unknown or Error
pub unresolved_is : (t : Term) → (is_unresolved t ≡ true) ↔ ((u : Term) × Inside u t × (among (tag u) (1 ∷ 2 ∷ 3 ∷ []) ≡ true))
unfolding counted_by entered_by
unresolved_is t = unresolved_found t

-- `contains_unknown`: an Inference or Unknown is in it, and in no projection
pub unknown_is : (t : Term) → (contains_unknown t ≡ true) ↔ ((u : Term) × UnderNoProjection u t × (among (tag u) (1 ∷ 2 ∷ []) ≡ true))
unfolding counted_by entered_by
unknown_is t = unknown_found t

-- `contains_self_type`: somewhere in it is a SelfType
pub self_type_is : (t : Term) → (contains_self_type t ≡ true) ↔ ((u : Term) × Inside u t × (tag u ≡ 19))
unfolding counted_by entered_by
self_type_is t = (
  λ e. (let r = (self_type_found t).0 e in (r.0, r.1, eqb-true (tag r.0) 19 r.2)),
  λ r. (self_type_found t).1 (r.0, r.1, eq-eqb (tag r.0) 19 r.2),
)

-- `contains_projection`: somewhere in it is a projection
pub projection_is : (t : Term) → (contains_projection t ≡ true) ↔ ((u : Term) × Inside u t × (tag u ≡ 18))
unfolding counted_by entered_by
projection_is t = (
  λ e. (let r = (projection_found t).0 e in (r.0, r.1, eqb-true (tag r.0) 18 r.2)),
  λ r. (projection_found t).1 (r.0, r.1, eq-eqb (tag r.0) 18 r.2),
)

flags : (x y c z w : Bool) → ((x || (y && not c || z && w)) ≡ false) ↔ ((x ≡ false) × (y ≡ true → c ≡ true) × (z ≡ true → w ≡ false))
flags true y c z w = (λ e. never_false e, λ h. never_false h.0)
flags false true false z w = (λ e. never_false e, λ h. never_true (h.1 refl))
flags false true true true true = (λ e. never_false e, λ h. never_false (h.2 refl))
flags false true true true false = (λ e. (refl, λ p. refl, λ p. refl), λ h. refl)
flags false true true false w = (λ e. (refl, λ p. refl, λ p. never_true p), λ h. refl)
flags false false c true true = (λ e. never_false e, λ h. never_false (h.2 refl))
flags false false c true false = (λ e. (refl, λ p. never_true p, λ p. refl), λ h. refl)
flags false false c false w = (λ e. (refl, λ p. never_true p, λ p. never_true p), λ h. refl)

resolved_term : (ps : List Parameter) (u : Term) → (counted ps 7 u ≡ false) ↔ KnownIn ps u
unfolding counted_by
resolved_term ps u =
    let f = flags (among (tag u) (1 ∷ 2 ∷ 3 ∷ 19 ∷ [])) (eqb (tag u) 17) (contains ps (parameter_of u)) (eqb (tag u) 18) (is_empty ps) in (
      λ e. (let h = f.0 e in (h.0, λ p. h.1 (eq-eqb (tag u) 17 p), λ p. h.2 (eq-eqb (tag u) 18 p))),
      λ h. f.1 (h.0, λ p. h.1 (eqb-true (tag u) 17 p), λ p. h.2 (eqb-true (tag u) 18 p)),
    )

-- `is_resolved_in`: everything in it is resolved
pub resolved_is : (ps : List Parameter) (t : Term) → (is_resolved_in ps t ≡ true) ↔ ((u : Term) → Inside u t → KnownIn ps u)
unfolding entered_by
resolved_is ps t =
    let n = Iff.trans (resolved_found ps t) (none (counted ps 7) (entered 7) t) in
    (λ e u a. (resolved_term ps u).0 (n.0 e u a), λ h. n.1 (λ u a. (resolved_term ps u).1 (h u a)))
