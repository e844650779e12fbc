-- A solver in order over N variables, as the theory has it: what holds of its bindings, its requests, its revision, and the top of a term.
use mathlib.Core.Path.{◌≡◌, refl, sym, ap, ap₂, ◌∙◌, subst}
use mathlib.Core.Bool.{Bool, true, false, not, ◌||◌}
use mathlib.Core.List.{[]}
use mathlib.Core.Option.{Option, none, some}
use Prim.Native.Nat.{ℕ, zero, suc, ◌+◌, ◌≤◌, ◌<◌}
use native.Mathlib.Decide.{dec_lt}
use native.Mathlib.Omega.{arith}
use borrow.Author.Tests.{leb-false, lt-leb}
use Rattle.terms.specs.Term.{Term, Parts, var, node, end, num, sub, AllVars, AllVarsParts}
use Rattle.terms.specs.Questions.{meets, meets_row}
use Rattle.terms.proofs.Laws.General.Bools.{never_false}
use Rattle.unify.specs.Term as tree
use Rattle.unify.specs.Term.{In, clash, in_sub, sub_in}
use Rattle.unify.specs.Orders.{Issued}
use Rattle.unify.proofs.Lazy.{resolve_right}
use Rattle.unify.specs.Table as table
use Rattle.unify.specs.Table.{Table, taken, tally}
use Rattle.unify.proofs.Refine as refine
use Rattle.unify.proofs.Whole.{Sane}
use Rattle.unify.proofs.InOrder as theory
use Rattle.solver.specs.Shapes.{Notion, read}
use Rattle.solver.specs.Constrain.{Solver, followed, follow, resolved, top, occurs, always}
use Rattle.solver.specs.Session.{Session, issued, never}
use Rattle.solver.specs.Orders.{beyond, known}
use Rattle.solver.specs.Invariant as counting
use Rattle.solver.specs.Invariant.{bound_below}
use Rattle.solver.specs.Words.ReachContract.{Steady, Topped}
use Rattle.solver.specs.Words.ConstrainContract.{Within}
use Rattle.solver.proofs.Laws.Theory.TheoryView.{T, view, view_injective}
use Rattle.solver.proofs.Laws.Theory.Signature.{S}
use Rattle.solver.proofs.Laws.Theory.TheoryViewLaws.{viewed, all_viewed, view_resolve, view_follow, occurs_in, known_issued, unknown_issued}
use Rattle.solver.proofs.Laws.Theory.ConstrainView.{view_table, fallback}
use Rattle.solver.proofs.Laws.Theory.Demand3Laws.{respects}

-- ---- terms with variables below N

abbrev WithinParts : ℕ → Parts → Type 0
WithinParts N ps = AllVarsParts (λ v. v < N) ps

or_first : (a b : Bool) → (a || b) ≡ false → a ≡ false
or_first true b e = never_false e
or_first false b e = refl

or_second : (a b : Bool) → (a || b) ≡ false → b ≡ false
or_second true b e = never_false e
or_second false b e = e

none_of : (a b : Bool) → a ≡ false → b ≡ false → (a || b) ≡ false
none_of a b p q = rw p q

mutual
  unfolding meets beyond AllVars

  pub low_within : (N : ℕ) (t : Term) → meets (beyond N) always t ≡ false → Within N t
  low_within N (var v) e = leb-false N v e
  low_within N (node k ps) e = low_within_row N ps e

  low_within_row : (N : ℕ) (ps : Parts) → meets_row (beyond N) always ps ≡ false → WithinParts N ps
  low_within_row N end e = tt
  low_within_row N (num n ps) e = low_within_row N ps e
  low_within_row N (sub t ps) e = (
    low_within N t (or_first (meets (beyond N) always t) (meets_row (beyond N) always ps) e),
    low_within_row N ps (or_second (meets (beyond N) always t) (meets_row (beyond N) always ps) e),
  )

mutual
  unfolding meets beyond AllVars

  pub within_low : (N : ℕ) (t : Term) → Within N t → meets (beyond N) always t ≡ false
  within_low N (var v) w = lt-leb N v w
  within_low N (node k ps) w = within_low_row N ps w

  within_low_row : (N : ℕ) (ps : Parts) → WithinParts N ps → meets_row (beyond N) always ps ≡ false
  within_low_row N end w = refl
  within_low_row N (num n ps) w = within_low_row N ps w
  within_low_row N (sub t ps) w = none_of (meets (beyond N) always t) (meets_row (beyond N) always ps) (within_low N t w.0) (within_low_row N ps w.1)

-- as orders 3 to 5 test it
pub within_known : (s : Session) (t : Term) → Within (issued s) t → known s t ≡ true
within_known s t w = ap not (within_low (issued s) t w)

-- as the theory has it
pub within_issued : (N : ℕ) (t : Term) → Within N t → Issued N (view t)
within_issued N t w = known_issued N t (within_low N t w)

pub issued_within : (N : ℕ) (t : Term) → Issued N (view t) → Within N t
issued_within N t i = low_within N t (go (meets (beyond N) always t) refl)
  where
    go : (b : Bool) → meets (beyond N) always t ≡ b → b ≡ false
    go true e = absurd (unknown_issued N t e i)
    go false e = refl

pub var_within : (N v : ℕ) → Within N (var v) → v < N
unfolding AllVars
var_within N v w = w

-- ---- how many are bound

pub none_viewed : (o : Option Term) → viewed o ≡ none → o ≡ none
unfolding viewed
none_viewed none e = refl
none_viewed (some t) e = clash (cc)

pub taken_bound : (n : ℕ) (b : ℕ → Option Term) → bound_below n b ≡ taken n (all_viewed b)
unfolding bound_below taken counting.one tally viewed
taken_bound zero b = refl
taken_bound (suc n) b = ap₂ ◌+◌ (go (b n)) (taken_bound n b)
  where
    go : (o : Option Term) → counting.one o ≡ tally (viewed o)
    go none = refl
    go (some t) = refl

one_most : (o : Option Term) → counting.one o ≤ 1
unfolding counting.one
one_most none = omega arith
one_most (some t) = omega arith

pub bound_most : (n : ℕ) (b : ℕ → Option Term) → bound_below n b ≤ n
unfolding bound_below
bound_most zero b = omega arith
bound_most (suc n) b = let p = one_most (b n) in let q = bound_most n b in omega arith

-- ---- in order

-- the solver over N variables is in order
abbrev pub Ordered : ℕ → Solver → Type 0
Ordered N z = theory.InOrder S N (view_table z)

-- by any notion of equal shape
module _ (n : Notion) (codes_count : n 4 ≡ false) (N : ℕ) (z : Solver) where
  pub ordered_sane : Ordered N z → Sane S fallback never (read n) (respects n codes_count) N (view_table z)
  ordered_sane = theory.sane S fallback never (read n) (respects n codes_count) N (view_table z)

  pub sane_ordered : Sane S fallback never (read n) (respects n codes_count) N (view_table z) → Ordered N z
  sane_ordered = theory.in_order S fallback never (read n) (respects n codes_count) N (view_table z)

module _ (N : ℕ) (z : Solver) (ordered : Ordered N z) where
  abbrev Z : Table S
  Z = view_table z

  abbrev ρ : ℕ → T
  ρ = ordered.means.res

  -- what a term resolves to
  right : (t : Term) → view (resolved z t) ≡ tree.sub ρ (view t)
  right t = view_resolve z.revision z.bindings t ∙ resolve_right Z.bound Z.rev ρ ordered.stands.rep (view t)

  idem : (t : T) → tree.sub ρ (tree.sub ρ t) ≡ tree.sub ρ t
  idem = refine.idem_sub S (λ h. h) (λ f h k p. ap (S.admits f) p) N ordered.means ordered.fine

  tops_view : (t : T) → tree.sub ρ (table.top S Z t) ≡ tree.sub ρ t
  tops_view = refine.tops S Z ordered.means ordered.stands idem [] [] tt

  topped_view : (t : T) (v : ℕ) → table.top S Z t ≡ tree.var v → Z.bound v ≡ none
  topped_view = refine.topped S Z ordered.means ordered.stands idem [] [] tt

  -- a variable that resolves to itself is free
  itself : (w : ℕ) → ρ w ≡ tree.var w → z.bindings w ≡ none
  unfolding tree.sub
  itself w e = go (table.top S Z (tree.var w)) refl
    where
      go : (x : T) → table.top S Z (tree.var w) ≡ x → z.bindings w ≡ none
      go (tree.var u) q =
          let f = topped_view (tree.var w) u q in
          let r : tree.var u ≡ tree.var w = sym (ordered.stands.rep.unbound u f) ∙ ap (λ (t : T). tree.sub ρ t) (sym q) ∙ tops_view (tree.var w) ∙ e in
          let a : u ≡ w = cc in
          none_viewed (z.bindings w) (ap (λ (i : ℕ). viewed (z.bindings i)) (sym a) ∙ f)
      go (tree.node h ts) q =
          let r : tree.node h (tree.sub ρ ts) ≡ tree.var w = ap (λ (t : T). tree.sub ρ t) (sym q) ∙ tops_view (tree.var w) ∙ e in
          clash (cc)

  pub ordered_counted : bound_below N z.bindings ≡ z.revision
  ordered_counted = taken_bound N z.bindings ∙ ordered.counted.number

  pub ordered_revision : z.revision ≤ N
  ordered_revision = let p = ordered_counted in let q = bound_most N z.bindings in omega arith

  -- bound and requested variables are issued
  pub ordered_far : (v : ℕ) → N ≤ v → z.bindings v ≡ none
  ordered_far v l = none_viewed (z.bindings v) (ordered.counted.far v l)

  pub ordered_bound : (v : ℕ) (t : Term) → z.bindings v ≡ some t → v < N
  ordered_bound v t e = go (dec_lt v N)
    where
      go : Dec (v < N) → v < N
      go (yes l) = l
      go (no l) = let q = ordered_far v (omega arith) in clash (cc)

  -- a variable in a binding is bound, so it is issued, or it is left in what the bound variable resolves to
  low : (v : ℕ) (t : Term) → z.bindings v ≡ some t → (w : ℕ) → In w (view t) → w < N
  unfolding viewed
  low v t e w i = go (dec_lt w N)
    where
      go : Dec (w < N) → w < N
      go (yes l) = l
      go (no l) =
          let q : ρ w ≡ tree.var w = ordered.stands.rep.unbound w (ordered.counted.far w (omega arith)) in
          let r : ρ v ≡ tree.sub ρ (view t) = ordered.stands.rep.bound v (view t) (ap viewed e) in
          let j : In w (tree.sub ρ (view t)) = sub_in w ρ (view t) w i (subst (λ (x : T). In w x) (sym q) refl) in
          ordered.fine.within v w (ordered_bound v t e) (subst (λ (x : T). In w x) (sym r) j)

  pub ordered_within : (v : ℕ) (t : Term) → z.bindings v ≡ some t → Within N t
  ordered_within v t e = issued_within N t (λ w i. low v t e w i)

  pub ordered_steady : Steady z.revision z.bindings
  unfolding view viewed tree.sub
  ordered_steady = record {
    free = λ v e. view_injective (resolved z (var v)) (var v) (right (var v) ∙ ordered.stands.rep.unbound v (ap viewed e));
    bound = λ v t e. view_injective (resolved z (var v)) (resolved z t) (right (var v) ∙ ordered.stands.rep.bound v (view t) (ap viewed e) ∙ sym (right t));
  }

  -- a variable of what a term resolves to is unbound
  pub ordered_stays : (t : Term) (w : ℕ) → occurs w (resolved z t) ≡ true → z.bindings w ≡ none
  ordered_stays t w o =
      let i : In w (tree.sub ρ (view t)) = subst (λ (x : T). In w x) (right t) (occurs_in w (resolved z t) o) in
      let r = in_sub w ρ (view t) i in
      itself w (ordered.fine.idem r.0 w r.2)

  pub ordered_topped : Topped z.revision z.bindings
  unfolding view
  ordered_topped = record {
    tops = λ t. view_injective (resolved z (top z t)) (resolved z t)
        (right (top z t) ∙ ap (λ (x : T). tree.sub ρ x) (view_follow z.revision z.bindings t) ∙ tops_view (view t) ∙ sym (right t));
    topped = λ t v e. none_viewed (z.bindings v) (topped_view (view t) v (sym (view_follow z.revision z.bindings t) ∙ ap view e));
  }

  follow_within : (k : ℕ) (t : Term) → Within N t → Within N (follow k z.bindings t)
  unfolding follow followed
  follow_within zero t w = w
  follow_within (suc k) (var v) w = go (z.bindings v) refl (λ u h. follow_within k u h)
    where
      go : (o : Option Term) → z.bindings v ≡ o → ((u : Term) → Within N u → Within N (follow k z.bindings u)) → Within N (followed v o (λ u. follow k z.bindings u))
      go none e h = w
      go (some u) e h = h u (ordered_within v u e)
  follow_within (suc k) (node j ps) w = w

  -- the top of a term, and a variable there
  pub top_within : (t : Term) → Within N t → Within N (top z t)
  top_within t w = follow_within z.revision t w

  pub top_low : (t : Term) (v : ℕ) → Within N t → top z t ≡ var v → v < N
  top_low t v w e = var_within N v (subst (λ (u : Term). Within N u) e (top_within t w))

  pub top_free : (t : Term) (v : ℕ) → top z t ≡ var v → z.bindings v ≡ none
  top_free t v e = ordered_topped.topped t v e
