-- The Rust's `resolve` and the loop of its `constrain` go as the theory's, pass by pass, and do not panic.
use mathlib.Core.Path.{◌≡◌, refl, sym, ap, ap₂, ◌∙◌, subst}
use mathlib.Core.Bool.{Bool, true, false, not, ◌&&◌, ◌||◌, cond}
use mathlib.Core.List.{List, [], ◌∷◌, ◌++◌, map}
use mathlib.Core.Logic.{inl, inr, ◌≢◌, ite}
use mathlib.Core.Option.{Option, none, some}
use Prim.Native.Nat.{ℕ, zero, suc, ◌<◌}
use native.Mathlib.Decide.{ℕ_discrete, dec_lt}
use native.Mathlib.Omega.{arith}
use borrow.Author.Tests.{lt-ltb}
use lib.Dec.{eqb}
use lib.ListN.{length, get_or, set}
use Rattle.terms.specs.Result.{pick}
use Rattle.terms.specs.Term.{Term, Parts, var, node, end, num, sub}
use Rattle.terms.specs.Tree.{error, same, subs, nums, class, row, tag, children}
use Rattle.terms.specs.Questions.{among, meets}
use Rattle.terms.specs.Substitution.{or, substitute_once, substitute_row}
use Rattle.terms.specs.Shape.{Shape, layout}
use Rattle.terms.specs.Formed.{Formed, Fit, after_number, after_term}
use Rattle.terms.proofs.Laws.General.Bools.{never_true, and-false}
use Rattle.terms.proofs.Laws.Held.SameLaws.{same_refl, same_true}
use Rattle.terms.proofs.Laws.Replacing.SubstitutionLaws.{FormedOr, substitute_formed}
use Rattle.unify.specs.Term as tree
use Rattle.unify.specs.Term.{Sort, one, Tree, nil, ◌▸◌, In, in?, same?, clash, sub_ext, sub_in}
use Rattle.unify.specs.Solver as theory
use Rattle.unify.specs.Solver.{State, Out, cancelled, done, put, asks, any_soft}
use Rattle.unify.specs.Meaning.{Fine, Below}
use Rattle.unify.specs.Expansion.{expand}
use Rattle.unify.specs.Orders.{Issued}
use Rattle.unify.proofs.Sound.{step_right}
use Rattle.unify.proofs.Refine.{idem_sub}
use Rattle.unify.specs.RustMaps as theirs
use Rattle.unify.specs.RustMaps.{look, insert}
use Rattle.unify.proofs.RustMapLaws.{look_insert, nth_push, nth_set, nth_inside, store_set}
use Rattle.unify.proofs.RustRounds.{Holds, holds_rounds, holds_asks, holds_free, holds_bind, within}
use Rattle.solver.specs.Families as families
use Rattle.solver.specs.Families.{code, integers, floats, family_of, admits, belongs, belongs_row, Request, requested, meet}
use Rattle.solver.specs.Shapes.{blank, blank_row, loose, read, same_shape, pushed}
use Rattle.solver.specs.Constrain.{Pair, replace, replace_row, always, recovery, recovers, occurs, projects, joined, join, allow, admit, zip_on}
use Rattle.solver.specs.Orders.{beyond}
use Rattle.solver.specs.Rust.{and_then, Solver, with_numeric, with_binding, binding, next, rounds, resolve}
use Rattle.solver.specs.Rust.{Pass, continue, floating, equal, same_kind, takes, admissible, hand_on, bind, if_admissible, if_numeric, inference, same_shape_rust, if_shape, arms, compared, pass, while_pending}
use Rattle.solver.proofs.Laws.Theory.TheoryView.{T, forest, view, view_injective, view_node, Every, every_turned}
use Rattle.solver.proofs.Laws.Theory.Signature.{S, term?}
use Rattle.solver.proofs.Laws.Theory.TheoryViewLaws.{viewed, view_replace, recovers_view, occurs_in, in_occurs, unknown_issued, same_wide}
use Rattle.solver.proofs.Laws.Theory.ConstrainView.{view_pairs, admit_view, zip_view}
use Rattle.solver.proofs.Laws.Theory.Demand3Laws.{respects}
use Rattle.solver.proofs.Laws.Definition.RequestLaws.{requested_kind, meet_tests}
use Rattle.solver.proofs.Laws.Rust.RustShapes.{shape_right}

pub codes_count : loose 4 ≡ false
unfolding loose
codes_count = refl

-- ---- bindings and requests, viewed

abbrev pub view_bindings : List (Option Term) → List (Option T)
view_bindings bs = map viewed bs

pub nth_view : (bs : List (Option Term)) (v : ℕ) → get_or (view_bindings bs) v none ≡ viewed (get_or bs v none)
unfolding viewed
nth_view [] v = refl
nth_view (b ∷ bs) zero = refl
nth_view (b ∷ bs) (suc v) = nth_view bs v

pub long_view : (bs : List (Option Term)) → length (view_bindings bs) ≡ length bs
long_view [] = refl
long_view (b ∷ bs) = ap suc (long_view bs)

set_view : (bs : List (Option Term)) (v : ℕ) (t : Term) → set (view_bindings bs) v (some (view t)) ≡ view_bindings (set bs v (some t))
unfolding viewed
set_view [] v t = refl
set_view (b ∷ bs) zero t = refl
set_view (b ∷ bs) (suc v) t = ap (λ (l : List (Option T)). viewed b ∷ l) (set_view bs v t)

pub push_view : (bs : List (Option Term)) → view_bindings bs ++ (none ∷ []) ≡ view_bindings (bs ++ (none ∷ []))
unfolding viewed
push_view [] = refl
push_view (b ∷ bs) = ap (λ (l : List (Option T)). viewed b ∷ l) (push_view bs)

abbrev pub view_numeric : List (ℕ × ℕ) → List (ℕ × Request)
view_numeric ns = map (λ (p : ℕ × ℕ). (p.0, requested p.1)) ns

unfoldable pub asked : Option ℕ → Option Request
asked none = none
asked (some c) = some (requested c)

pub look_view : (ns : List (ℕ × ℕ)) (v : ℕ) → look (view_numeric ns) v ≡ asked (look ns v)
unfolding look asked
look_view [] v = refl
look_view (p ∷ ns) v = go (ℕ_discrete v p.0) (look_view ns v)
  where
    go : (d : Dec (v ≡ p.0)) → look (view_numeric ns) v ≡ asked (look ns v) → ite d (some (requested p.1)) (look (view_numeric ns) v) ≡ asked (ite d (some p.1) (look ns v))
    go (yes e) h = refl
    go (no e) h = h

insert_view : (ns : List (ℕ × ℕ)) (v c : ℕ) → insert (view_numeric ns) v (requested c) ≡ view_numeric (insert ns v c)
unfolding insert
insert_view [] v c = refl
insert_view (p ∷ ns) v c = go (ℕ_discrete v p.0) (insert_view ns v c)
  where
    go : (d : Dec (v ≡ p.0)) → insert (view_numeric ns) v (requested c) ≡ view_numeric (insert ns v c)
        → ite d ((v, requested c) ∷ view_numeric ns) ((p.0, requested p.1) ∷ insert (view_numeric ns) v (requested c)) ≡ view_numeric (ite d ((v, c) ∷ ns) (p ∷ insert ns v c))
    go (yes e) h = refl
    go (no e) h = ap (λ (l : List (ℕ × Request)). (p.0, requested p.1) ∷ l) h

-- ---- formed terms

abbrev pub FormedAll : List (Option Term) → Type 0
FormedAll bs = (v : ℕ) → FormedOr (get_or bs v none)

pub formed_push : (bs : List (Option Term)) → FormedAll bs → FormedAll (bs ++ (none ∷ []))
formed_push bs f v = subst (λ (o : Option Term). FormedOr o) (sym (nth_push bs v)) (f v)

formed_set : (bs : List (Option Term)) (v : ℕ) (t : Term) → v < length bs → Formed t → FormedAll bs → FormedAll (set bs v (some t))
unfolding put FormedOr
formed_set bs v t l g f w = subst (λ (o : Option Term). FormedOr o) (sym (nth_set bs v (some t) l w)) (go (ℕ_discrete w v))
  where
    go : (d : Dec (w ≡ v)) → FormedOr (ite d (some t) (get_or bs w none))
    go (yes e) = g
    go (no e) = f w

formed_inserted : (bs : List (Option Term)) → FormedAll bs → (t : Term) → FormedOr (binding bs t)
unfolding binding FormedOr
formed_inserted bs f (var v) = f v
formed_inserted bs f (node k ps) = tt

formed_rounds : (bs : List (Option Term)) → FormedAll bs → (f : ℕ) (t : Term) → Formed t → (u : Term) → rounds bs f t ≡ some u → Formed u
unfolding rounds and_then next
formed_rounds bs a zero t g u e = clash (cc)
formed_rounds bs a (suc f) t g u e =
    go (λ h. formed_rounds bs a f (substitute_once (binding bs) t) (substitute_formed (binding bs) (formed_inserted bs a) t g) u h) (meets (beyond (length bs)) always t) e
  where
    n : Term
    n = substitute_once (binding bs) t

    again : (rounds bs f n ≡ some u → Formed u) → (b : Bool) → pick b (some t) (rounds bs f n) ≡ some u → Formed u
    again i true h = let q : t ≡ u = cc in subst (λ (x : Term). Formed x) q g
    again i false h = i h

    go : (rounds bs f n ≡ some u → Formed u) → (b : Bool) → and_then (pick b none (some n)) (λ next. pick (same next t) (some t) (rounds bs f next)) ≡ some u → Formed u
    go i true h = clash (cc)
    go i false h = again i (same n t) h

-- every fallback is a builtin's code
abbrev pub LowAll : List (ℕ × ℕ) → Type 0
LowAll ns = (v c : ℕ) → look ns v ≡ some c → c < 32

pub low_insert : (ns : List (ℕ × ℕ)) (v c : ℕ) → c < 32 → LowAll ns → LowAll (insert ns v c)
unfolding put
low_insert ns v c l a w d e = go (ℕ_discrete w v) (ap (λ (f : ℕ → Option ℕ). f w) (sym (look_insert ns v c)) ∙ e)
  where
    go : (x : Dec (w ≡ v)) → ite x (some c) (look ns w) ≡ some d → d < 32
    go (yes p) q = let r : c ≡ d = cc in omega arith
    go (no p) q = a w d q

-- what the Rust's types say of its solver
abbrev pub Proper : Solver → Type 0
Proper z = FormedAll z.bindings × LowAll z.numeric

abbrev pub FormedPairs : List Pair → Type 0
FormedPairs [] = Unit {0}
FormedPairs (p ∷ ps) = Formed p.0 × Formed p.1 × FormedPairs ps

formed_subs : (r : Shape) (ps : Parts) → Fit r ps → Every Formed (subs ps)
unfolding Formed Every subs
formed_subs r end f = tt
formed_subs r (num n ps) f = formed_subs (after_number r n) ps f.1
formed_subs r (sub t ps) f = (f.1, formed_subs (after_term r) ps f.2)

formed_pushed : (k : ℕ) (ps : Parts) → Formed (node k ps) → Every Formed (pushed (node k ps))
unfolding Formed children row tag
formed_pushed k ps f = every_turned Formed (class k) (get_or (nums ps) 1 0) (subs ps) (formed_subs (layout k) ps f.1)

formed_zip : (l m : List Term) (ps : List Pair) → Every Formed l → Every Formed m → FormedPairs ps → FormedPairs (zip_on l m ps)
unfolding zip_on Every
formed_zip [] m ps f g h = h
formed_zip (t ∷ l) [] ps f g h = h
formed_zip (t ∷ l) (u ∷ m) ps f g h = formed_zip l m ((t, u) ∷ ps) f.1 g.1 (f.0, g.0, h)

-- ---- resolve

-- one round replaces every bound variable
module _ (bs : List (Option Term)) where
  mutual
    unfolding substitute_once replace binding

    once_replace : (t : Term) → substitute_once (binding bs) t ≡ replace (λ v. or (get_or bs v none) (var v)) t
    once_replace (var v) = refl
    once_replace (node k ps) = ap (node k) (row_replace ps)

    row_replace : (ps : Parts) → substitute_row (binding bs) ps ≡ replace_row (λ v. or (get_or bs v none) (var v)) ps
    row_replace end = refl
    row_replace (num n ps) = ap (num n) (row_replace ps)
    row_replace (sub t ps) = ap₂ sub (once_replace t) (row_replace ps)

-- what stands where the theory's reading of the Rust panics
abbrev P : T
P = view error

module _ (vs : List (Option T)) where
  abbrev Inside : {s : Sort} → Tree Term s → Type 0
  Inside t = (v : ℕ) → In v t → v < length vs

  their_round : {s : Sort} (t : Tree Term s) → Inside t → theirs.substitute_once (theirs.binding P vs) t ≡ tree.sub (λ v. expand v (get_or vs v none) (λ u. u)) t
  unfolding theirs.substitute_once theirs.binding tree.sub theirs.or_else expand
  their_round (tree.var v) l = ap (λ (o : Option T). theirs.or_else o (tree.var v)) (nth_inside vs v (some P) none (l v refl)) ∙ go (get_or vs v none)
    where
      go : (o : Option T) → theirs.or_else o (tree.var v) ≡ expand v o (λ u. u)
      go none = refl
      go (some u) = refl
  their_round (tree.node h ts) l = ap (tree.node h) (their_round ts l)
  their_round nil l = refl
  their_round (t ▸ ts) l = ap₂ ◌▸◌ (their_round t (λ v i. l v (inl i))) (their_round ts (λ v i. l v (inr i)))

module _ (bs : List (Option Term)) where
  abbrev vs : List (Option T)
  vs = view_bindings bs

  expanded : (v : ℕ) → view (or (get_or bs v none) (var v)) ≡ expand v (get_or vs v none) (λ u. u)
  unfolding viewed expand view
  expanded v = go (get_or bs v none) (get_or vs v none) (nth_view bs v)
    where
      go : (o : Option Term) (p : Option T) → p ≡ viewed o → view (or o (var v)) ≡ expand v p (λ u. u)
      go none p e = ap (λ (q : Option T). expand v q (λ u. u)) (sym e)
      go (some t) p e = ap (λ (q : Option T). expand v q (λ u. u)) (sym e)

  once_view : (t : Term) → Inside vs (view t) → view (substitute_once (binding bs) t) ≡ theirs.substitute_once (theirs.binding P vs) (view t)
  once_view t l =
      ap view (once_replace bs t) ∙ view_replace (λ v. or (get_or bs v none) (var v)) t ∙ sub_ext (view t) (λ v i. expanded v) ∙ sym (their_round vs (view t) l)

  -- no index out of range
  next_inside : (t : Term) → Inside vs (view t) → next bs t ≡ some (substitute_once (binding bs) t)
  unfolding next
  next_inside t l = go (meets (beyond (length bs)) always t) refl
    where
      go : (b : Bool) → meets (beyond (length bs)) always t ≡ b → pick b none (some (substitute_once (binding bs) t)) ≡ some (substitute_once (binding bs) t)
      go true e = absurd (unknown_issued (length bs) t e (λ v i. let a = l v i in let b = long_view bs in omega arith))
      go false e = refl

  module _ (all : (v : ℕ) (u : T) → get_or vs v none ≡ some u → Inside vs u) where
    inside_once : (t : Term) → Inside vs (view t) → Inside vs (view (substitute_once (binding bs) t))
    unfolding expand
    inside_once t l w i =
        let r = tree.in_sub w (λ v. expand v (get_or vs v none) (λ u. u)) (view t) (subst (λ (x : T). In w x) (once_view t l ∙ their_round vs (view t) l) i) in
        go r.0 (l r.0 r.1) (get_or vs r.0 none) refl r.2
      where
        go : (v : ℕ) → v < length vs → (o : Option T) → get_or vs v none ≡ o → In w (expand v o (λ u. u)) → w < length vs
        go v m none e j = omega arith
        go v m (some u) e j = all v u e w j

    rounds_view : (f : ℕ) (t : Term) → Inside vs (view t) → viewed (rounds bs f t) ≡ theirs.rounds S P vs f (view t)
    unfolding rounds theirs.rounds viewed and_then theirs.unless_same
    rounds_view zero t l = refl
    rounds_view (suc f) t l =
        ap (λ (o : Option Term). viewed (and_then o (λ next. pick (same next t) (some t) (rounds bs f next)))) (next_inside t l)
        ∙ go (same n t) refl (same? term? (view n) (view t)) (rounds_view f n (inside_once t l))
        ∙ ap (λ (x : T). theirs.unless_same S P (same? term? x (view t)) (view t) (theirs.rounds S P vs f x)) (once_view t l)
      where
        n : Term
        n = substitute_once (binding bs) t

        go : (b : Bool) → same n t ≡ b → (d : Dec (view n ≡ view t)) → viewed (rounds bs f n) ≡ theirs.rounds S P vs f (view n)
            → viewed (pick b (some t) (rounds bs f n)) ≡ theirs.unless_same S P d (view t) (theirs.rounds S P vs f (view n))
        go true e (yes d) h = refl
        go true e (no d) h = absurd (d (ap view (same_true n t e)))
        go false e (yes d) h = never_true (sym e ∙ ap (same n) (sym (view_injective n t d)) ∙ same_refl n)
        go false e (no d) h = h

-- the Rust's solver stands for a session over substitutions
abbrev pub Held : ℕ → Solver → State S → Type 0
Held N z st = Holds S N (view_bindings z.bindings) (view_numeric z.numeric) z.revision st

viewed_some : (o : Option Term) (x : T) → viewed o ≡ some x → (u : Term) × (o ≡ some u) × (view u ≡ x)
unfolding viewed
viewed_some none x e = clash (cc)
viewed_some (some u) x e = (u, refl, (cc))

module _ (N : ℕ) (z : Solver) (st : State S) (h : Held N z st) where
  abbrev zs : List (Option T)
  zs = view_bindings z.bindings

  abbrev zn : List (ℕ × Request)
  zn = view_numeric z.numeric

  -- a binding names issued variables
  bound_inside : Fine S N st → (v : ℕ) (u : T) → get_or zs v none ≡ some u → (w : ℕ) → In w u → w < length zs
  bound_inside f v u p w i = let l = h.long in let m = go (get_or zs w none) refl in omega arith
    where
      bound_below : (x : ℕ) (y : T) → get_or zs x none ≡ some y → Dec (x < N) → x < N
      bound_below x y e (yes d) = d
      bound_below x y e (no d) = clash (cc (h.counted.far x (omega arith), e))

      go : (o : Option T) → get_or zs w none ≡ o → w < N
      go none e =
          let a : In w (st.res w) = subst (λ (y : T). In w y) (sym (h.stands.rep.unbound w e)) refl in
          f.within v w (bound_below v u p (dec_lt v N)) (subst (λ (y : T). In w y) (sym (h.stands.rep.bound v u p)) (sub_in w st.res u w i a))
      go (some y) e = bound_below w y e (dec_lt w N)

  -- RESOLVING RETURNS, with what the session says
  pub resolve_held : Fine S N st → (t : Term) → Issued N (view t) → (u : Term) × (resolve z t ≡ some u) × (view u ≡ tree.sub st.res (view t))
  resolve_held f t is =
      let e = rounds_view z.bindings (bound_inside f) (suc (length z.bindings)) t (λ v i. let a = is v i in let b = h.long in omega arith) in
      let l : theirs.rounds S P zs (suc (length z.bindings)) (view t) ≡ theirs.rounds S P zs (suc (length zs)) (view t) = ap (λ (n : ℕ). theirs.rounds S P zs (suc n) (view t)) (sym (long_view z.bindings)) in
      viewed_some (resolve z t) (tree.sub st.res (view t)) (e ∙ l ∙ holds_rounds S N zs zn z.revision st h f P (view t) is)

-- ---- number variables

meet_requested : (c d : ℕ) → meet (requested c) (requested d) ≡ pick (equal (floating d) (floating c)) (some (requested c)) none
meet_requested c d = meet_tests (requested c) (requested d) (requested_kind c) (requested_kind d) ∙ go (eqb c 9) (eqb d 9)
  where
    go : (a b : Bool) → pick a (pick b (some (requested c)) none) (pick b none (some (requested c))) ≡ pick (equal b a) (some (requested c)) none
    go true true = refl
    go true false = refl
    go false true = refl
    go false false = refl

takes_right : (c k : ℕ) (ps : Parts) → belongs (family_of c) (node k ps) ≡ takes c k ps
unfolding belongs belongs_row takes code family_of families.among among
takes_right c k end = and-false (eqb k 4)
takes_right c k (num target end) = go (eqb c 9)
  where
    go : (a : Bool) → (eqb k 4 && admits (cond a floats integers) target)
        ≡ (eqb k 4 && pick a (among target (8 ∷ 9 ∷ [])) (among target (0 ∷ 1 ∷ 2 ∷ 3 ∷ 4 ∷ 5 ∷ 6 ∷ 7 ∷ [])))
    go true = refl
    go false = refl
takes_right c k (num target (num m ps)) = and-false (eqb k 4)
takes_right c k (num target (sub t ps)) = and-false (eqb k 4)
takes_right c k (sub t ps) = and-false (eqb k 4)

-- ---- one pass

-- the places and the deferred variables are the same
abbrev pub Kept : Solver → Solver → Type 0
Kept z y = (y.variables ≡ z.variables) × (y.holes ≡ z.holes) × (y.diverging ≡ z.diverging)

pub kept_trans : (x y z : Solver) → Kept x y → Kept y z → Kept x z
kept_trans x y z p q = (q.0 ∙ p.0, q.1 ∙ p.1, q.2 ∙ p.2)

-- a pass of the Rust's loop against a step of the theory
record Goes (N : ℕ) (z : Solver) (ok : Bool) (o : Option Pass) (y : theory.Step S) : Type 0 where
  pub out : Pass
  pub is : o ≡ some out
  pub holds : Held N out.solver y.state
  pub kept : Kept z out.solver
  pub proper : Proper out.solver
  pub pairs : FormedPairs out.pending
  pub good : out.compatible ≡ (ok && y.good)
  pub todo : view_pairs out.pending ≡ y.todo

and-true : (a : Bool) → a ≡ (a && true)
and-true true = refl
and-true false = refl

abbrev pub bound : Solver → ℕ → Term → Solver
bound z v t = record {
  variables = z.variables;
  holes = z.holes;
  bindings = set z.bindings v (some t);
  numeric = z.numeric;
  diverging = z.diverging;
  revision = suc z.revision;
}

pub bound_some : (z : Solver) (v : ℕ) (t : Term) → v < length z.bindings → with_binding z v t ≡ some (bound z v t)
unfolding with_binding
bound_some z v t l = rw (lt-ltb v (length z.bindings) l)

-- one binding more, to a resolved term
pub bound_held : (N : ℕ) (z : Solver) (st : State S) → Held N z st → ((t : T) → tree.sub st.res (tree.sub st.res t) ≡ tree.sub st.res t)
    → (v : ℕ) (t : Term) → v < N → st.res v ≡ tree.var v → tree.sub st.res (view t) ≡ view t → ¬ In v (view t)
    → Held N (bound z v t) (theory.bind S st v (view t) st.fam)
bound_held N z st h idem v t l e r i =
    let vs = view_bindings z.bindings in
    let ns = view_numeric z.numeric in
    let m = h.long in
    subst (λ (bs : List (Option T)). Holds S N bs ns (suc z.revision) (theory.bind S st v (view t) st.fam)) (sym (store_set P vs v (view t) (omega arith)) ∙ set_view z.bindings v t)
    (holds_bind S N vs ns z.revision st h P v (view t) l (holds_free S N vs ns z.revision st h v idem e) r i)

pub formed_bound : (z : Solver) (v : ℕ) (t : Term) → v < length z.bindings → Formed t → FormedAll z.bindings → FormedAll (bound z v t).bindings
formed_bound z v t l g f = formed_set z.bindings v t l g f

pub asks_held : (N : ℕ) (z : Solver) (st : State S) → Held N z st → (v c : ℕ) → Held N (with_numeric z v c) (asks S st v (requested c))
asks_held N z st h v c =
    subst (λ (ns : List (ℕ × Request)). Holds S N (view_bindings z.bindings) ns z.revision (asks S st v (requested c))) (insert_view z.numeric v c)
    (holds_asks S N (view_bindings z.bindings) (view_numeric z.numeric) z.revision st h v (requested c))

module _ (N : ℕ) (z : Solver) (st : State S) (h : Held N z st) (idem : (t : T) → tree.sub st.res (tree.sub st.res t) ≡ tree.sub st.res t)
    (fb : Proper z) (ok : Bool) (pending : List Pair) (fp : FormedPairs pending) where
  abbrev PS : List (theory.Pair S)
  PS = view_pairs pending

  abbrev n : Term → Term
  n = read loose

  skip : Goes N z ok (continue z ok pending) (record { state = st; good = true; todo = PS })
  skip = record {
    out = record { solver = z; compatible = ok; pending = pending };
    is = refl;
    holds = h;
    kept = (refl, refl, refl);
    proper = fb;
    pairs = fp;
    good = and-true ok;
    todo = refl;
  }

  fail : Goes N z ok (continue z false pending) (record { state = st; good = false; todo = PS })
  fail = record {
    out = record { solver = z; compatible = false; pending = pending };
    is = refl;
    holds = h;
    kept = (refl, refl, refl);
    proper = fb;
    pairs = fp;
    good = sym (and-false ok);
    todo = refl;
  }

  -- a variable that resolves to itself, and another term that does
  abbrev Apart : ℕ → Term → Type 0
  Apart v t = (v < N) × (st.res v ≡ tree.var v) × (tree.sub st.res (view t) ≡ view t) × (var v ≢ t)

  occurs_goes : (v : ℕ) (t : Term) → Apart v t → Formed t → (y : Solver) (fam : ℕ → Option Request) → Kept z y → Proper y
      → Held N y (record { res = st.res; fam = fam; rev = st.rev }) → (In v (view t) → Held N y st) → (d : Dec (In v (view t)))
      → Goes N z ok (bind y ok pending v t (occurs v t)) (theory.assign₁ S st v (view t) PS (some fam) d)
  unfolding bind theory.assign₁ and_then
  occurs_goes v t a g y fam k fy h₁ h₂ (yes i) =
      subst (λ (b : Bool). Goes N z ok (bind y ok pending v t b) (record { state = st; good = false; todo = PS })) (sym (in_occurs v t i))
      (record {
        out = record { solver = y; compatible = false; pending = pending };
        is = refl;
        holds = h₂ i;
        kept = k;
        proper = fy;
        pairs = fp;
        good = sym (and-false ok);
        todo = refl;
      })
  occurs_goes v t a g y fam k fy h₁ h₂ (no i) = go (occurs v t) refl
    where
      st₁ : State S
      st₁ = record { res = st.res; fam = fam; rev = st.rev }

      low : v < length y.bindings
      low = let m = h₁.long in let o = long_view y.bindings in let l = a.0 in omega arith

      go : (b : Bool) → occurs v t ≡ b → Goes N z ok (bind y ok pending v t b) (record { state = theory.bind S st v (view t) fam; good = true; todo = PS })
      go true e = absurd (i (occurs_in v t e))
      go false e = record {
        out = record { solver = bound y v t; compatible = ok; pending = pending };
        is = ap (λ (o : Option Solver). and_then o (λ x. continue x ok pending)) (bound_some y v t low);
        holds = bound_held N y st₁ h₁ idem v t a.0 a.1 a.2 i;
        kept = k;
        proper = (formed_bound y v t low g fy.0, fy.1);
        pairs = fp;
        good = and-true ok;
        todo = refl;
      }

  -- what was requested of a variable
  fam_at : (v : ℕ) → st.fam v ≡ asked (look z.numeric v)
  fam_at v = ap (λ (f : ℕ → Option Request). f v) (sym h.stands.fams) ∙ look_view z.numeric v

  -- a number variable. The Rust hands the fallback on before it looks whether v occurs; in a variable other than v it does not.
  kind_goes : (v : ℕ) (t : Term) → Apart v t → Formed t → (c : ℕ) → c < 32
      → Goes N z ok (if_admissible z ok pending v t c (admissible z c t)) (theory.assign₁ S st v (view t) PS (admit st.fam (some (requested c)) t) (in? v (view t)))
  unfolding if_admissible admissible hand_on admit join joined allow asked same_kind theory.assign₁ view
  kind_goes v (var w) a g c lc =
      subst (λ (o : Option Request). Goes N z ok (if_admissible z ok pending v (var w) c (same_kind c (look z.numeric w))) (theory.assign₁ S st v (view (var w)) PS (join st.fam (requested c) w o) (in? v (view (var w)))))
      (sym (fam_at w)) (go (look z.numeric w))
    where
      handed : Goes N z ok (if_admissible z ok pending v (var w) c true) (theory.assign₁ S st v (view (var w)) PS (some (put st.fam w (some (requested c)))) (in? v (view (var w))))
      handed =
          occurs_goes v (var w) a g (with_numeric z w c) (put st.fam w (some (requested c))) (refl, refl, refl) (fb.0, low_insert z.numeric w c lc fb.1) (asks_held N z st h w c)
          (λ i. absurd (a.3 (ap var i))) (in? v (view (var w)))

      refuse : Goes N z ok (if_admissible z ok pending v (var w) c false) (theory.assign₁ S st v (view (var w)) PS none (in? v (view (var w))))
      refuse = fail

      kinds : (b : Bool) → Goes N z ok (if_admissible z ok pending v (var w) c b) (theory.assign₁ S st v (view (var w)) PS (joined st.fam w (pick b (some (requested c)) none)) (in? v (view (var w))))
      kinds true = handed
      kinds false = refuse

      go : (o : Option ℕ) → Goes N z ok (if_admissible z ok pending v (var w) c (same_kind c o)) (theory.assign₁ S st v (view (var w)) PS (join st.fam (requested c) w (asked o)) (in? v (view (var w))))
      go none = handed
      go (some d) =
          subst (λ (o : Option Request). Goes N z ok (if_admissible z ok pending v (var w) c (equal (floating d) (floating c))) (theory.assign₁ S st v (view (var w)) PS (joined st.fam w o) (in? v (view (var w)))))
          (sym (meet_requested c d)) (kinds (equal (floating d) (floating c)))
  kind_goes v (node k ps) a g c lc =
      subst (λ (b : Bool). Goes N z ok (if_admissible z ok pending v (node k ps) c (takes c k ps)) (theory.assign₁ S st v (view (node k ps)) PS (allow st.fam b) (in? v (view (node k ps)))))
      (sym (takes_right c k ps)) (go (takes c k ps))
    where
      refuse : Goes N z ok (if_admissible z ok pending v (node k ps) c false) (theory.assign₁ S st v (view (node k ps)) PS none (in? v (view (node k ps))))
      refuse = fail

      go : (b : Bool) → Goes N z ok (if_admissible z ok pending v (node k ps) c b) (theory.assign₁ S st v (view (node k ps)) PS (allow st.fam b) (in? v (view (node k ps))))
      go true = occurs_goes v (node k ps) a g z st.fam (refl, refl, refl) fb h (λ i. h) (in? v (view (node k ps)))
      go false = refuse

  inference_goes : (v : ℕ) (t : Term) → Apart v t → Formed t → Goes N z ok (inference z ok pending v t) (theory.assign S st v (view t) PS)
  unfolding theory.assign theory.assign₀ if_numeric admit asked
  inference_goes v t a g = subst (λ (b : Bool). Goes N z ok (inference z ok pending v t) (theory.assign₀ S st v (view t) PS b)) (recovers_view t) (go (recovers t))
    where
      numeric : (o : Option ℕ) → look z.numeric v ≡ o → Goes N z ok (if_numeric z ok pending v t o) (theory.assign₁ S st v (view t) PS (admit st.fam (asked o) t) (in? v (view t)))
      numeric none e = occurs_goes v t a g z st.fam (refl, refl, refl) fb h (λ i. h) (in? v (view t))
      numeric (some c) e = kind_goes v t a g c (fb.1 v c e)

      go : (b : Bool) → Goes N z ok (pick b (continue z ok pending) (if_numeric z ok pending v t (look z.numeric v))) (theory.assign₀ S st v (view t) PS b)
      go true = skip
      go false =
          subst (λ (o : Option (ℕ → Option Request)). Goes N z ok (if_numeric z ok pending v t (look z.numeric v)) (theory.assign₁ S st v (view t) PS o (in? v (view t))))
          (ap (λ (o : Option Request). admit st.fam o t) (sym (fam_at v)) ∙ sym (admit_view st.fam (st.fam v) t)) (numeric (look z.numeric v) refl)

  -- two nodes
  module _ (k j : ℕ) (ps qs : Parts) (fk : Formed (node k ps)) (fj : Formed (node j qs)) (ne : node k ps ≢ node j qs) where
    abbrev H : Term
    H = node k (blank_row ps)

    abbrev K : Term
    K = node j (blank_row qs)

    abbrev ts : Tree Term tree.many
    ts = forest (map view (pushed (node k ps)))

    abbrev us : Tree Term tree.many
    us = forest (map view (pushed (node j qs)))

    shape_goes : (b : Bool) (d : Dec (n H ≡ n K)) (s : Bool) → (s ≡ true → n H ≡ n K) → (n H ≡ n K → s ≡ true)
        → Goes N z ok (if_shape z ok pending (node k ps) (node j qs) (not b && s)) (theory.split S n st H K ts us PS false b d)
    unfolding if_shape theory.split theory.split₁
    shape_goes true d s f g = fail
    shape_goes false (yes e) true f g =
        subst (λ (o : Option (List (theory.Pair S))). Goes N z ok (continue z ok (zip_on (pushed (node k ps)) (pushed (node j qs)) pending)) (theory.split₁ S st PS o))
        (sym (zip_view (pushed (node k ps)) (pushed (node j qs)) pending (same_wide loose k j ps qs e)))
        (record {
          out = record { solver = z; compatible = ok; pending = zip_on (pushed (node k ps)) (pushed (node j qs)) pending };
          is = refl;
          holds = h;
          kept = (refl, refl, refl);
          proper = fb;
          pairs = formed_zip (pushed (node k ps)) (pushed (node j qs)) pending (formed_pushed k ps fk) (formed_pushed j qs fj) fp;
          good = and-true ok;
          todo = refl;
        })
    shape_goes false (yes e) false f g = never_true (g e)
    shape_goes false (no e) true f g = absurd (e (f refl))
    shape_goes false (no e) false f g = fail

    recovery_goes : (b : Bool) (d : Dec (n H ≡ n K)) → Goes N z ok (continue z ok pending) (theory.split S n st H K ts us PS true b d)
    unfolding theory.split
    recovery_goes b d = skip

    nodes_goes : Goes N z ok (pick (recovery (node k ps) || recovery (node j qs)) (continue z ok pending) (arms z ok pending (node k ps) (node j qs)))
        (theory.unequal S n st (view (node k ps)) (view (node j qs)) PS)
    unfolding theory.unequal arms recovery projects same_shape blank
    nodes_goes =
        subst (λ (x : T). Goes N z ok (pick (recovery (node k ps) || recovery (node j qs)) (continue z ok pending) (arms z ok pending (node k ps) (node j qs))) (theory.unequal S n st x (view (node j qs)) PS)) (sym (view_node k ps))
        (subst (λ (x : T). Goes N z ok (pick (recovery (node k ps) || recovery (node j qs)) (continue z ok pending) (arms z ok pending (node k ps) (node j qs))) (theory.unequal S n st (tree.node H ts) x PS)) (sym (view_node j qs))
        (go (recovery (node k ps) || recovery (node j qs))))
      where
        d : Dec (n H ≡ n K)
        d = term? (n H) (n K)

        shapes : Goes N z ok (if_shape z ok pending (node k ps) (node j qs) (same_shape_rust (node k ps) (node j qs))) (theory.split S n st H K ts us PS false (projects H) d)
        shapes =
            subst (λ (b : Bool). Goes N z ok (if_shape z ok pending (node k ps) (node j qs) b) (theory.split S n st H K ts us PS false (projects H) d)) (sym (shape_right k j ps qs fk fj ne))
            (shape_goes (projects H) d (same_shape loose (node k ps) (node j qs))
            (λ e. same_true (n H) (n K) e) (λ e. ap (same (n H)) (sym e) ∙ same_refl (n H)))

        go : (a : Bool) → Goes N z ok (pick a (continue z ok pending) (if_shape z ok pending (node k ps) (node j qs) (same_shape_rust (node k ps) (node j qs))))
            (theory.split S n st H K ts us PS a (projects H) d)
        go true = recovery_goes (projects H) d
        go false = shapes

  -- a recovery term is met first by the Rust, and inside the other arm by the theory
  soft_assign : (v k : ℕ) (ps : Parts) → recovery (node k ps) ≡ true → theory.assign S st v (view (node k ps)) PS ≡ record { state = st; good = true; todo = PS }
  unfolding theory.assign theory.assign₀ meets
  soft_assign v k ps e =
      let a : recovers (node k ps) ≡ true = rw e in
      let b : any_soft S (view (node k ps)) ≡ true = sym (recovers_view (node k ps)) ∙ a in
      ap (theory.assign₀ S st v (view (node k ps)) PS) b

  abbrev Fixed : Term → Type 0
  Fixed t = ((v : ℕ) → In v (view t) → v < N) × (tree.sub st.res (view t) ≡ view t) × Formed t

  unequal_goes : (l r : Term) → Fixed l → Fixed r → l ≢ r
      → Goes N z ok (pick (recovery l || recovery r) (continue z ok pending) (arms z ok pending l r)) (theory.unequal S n st (view l) (view r) PS)
  unfolding theory.unequal arms recovery view tree.sub
  unequal_goes (var v) (var w) a b ne = inference_goes v (var w) (a.0 v refl, a.1, b.1, ne) b.2
  unequal_goes (var v) (node k ps) a b ne = go (recovery (node k ps)) refl
    where
      go : (c : Bool) → recovery (node k ps) ≡ c → Goes N z ok (pick c (continue z ok pending) (inference z ok pending v (node k ps))) (theory.assign S st v (view (node k ps)) PS)
      go true e = subst (λ (y : theory.Step S). Goes N z ok (continue z ok pending) y) (sym (soft_assign v k ps e)) skip
      go false e = inference_goes v (node k ps) (a.0 v refl, a.1, b.1, ne) b.2
  unequal_goes (node k ps) (var v) a b ne = go (recovery (node k ps)) refl
    where
      go : (c : Bool) → recovery (node k ps) ≡ c → Goes N z ok (pick (c || false) (continue z ok pending) (inference z ok pending v (node k ps))) (theory.assign S st v (view (node k ps)) PS)
      go true e = subst (λ (y : theory.Step S). Goes N z ok (continue z ok pending) y) (sym (soft_assign v k ps e)) skip
      go false e = inference_goes v (node k ps) (b.0 v refl, b.1, a.1, λ q. ne (sym q)) a.2
  unequal_goes (node k ps) (node j qs) a b ne = nodes_goes k j ps qs a.2 b.2 ne

  compared_goes : (l r : Term) → Fixed l → Fixed r → (d : Dec (view l ≡ view r)) → Goes N z ok (compared z ok pending l r) (theory.compare S n st (view l) (view r) PS d)
  unfolding theory.compare
  compared_goes l r a b (yes d) =
      let e : same l r ≡ true = ap (same l) (sym (view_injective l r d)) ∙ same_refl l in
      subst (λ (c : Bool). Goes N z ok (pick c (continue z ok pending) (pick (recovery l || recovery r) (continue z ok pending) (arms z ok pending l r))) (record { state = st; good = true; todo = PS })) (sym e) skip
  compared_goes l r a b (no d) = go (same l r) refl
    where
      go : (c : Bool) → same l r ≡ c → Goes N z ok (pick c (continue z ok pending) (pick (recovery l || recovery r) (continue z ok pending) (arms z ok pending l r))) (theory.unequal S n st (view l) (view r) PS)
      go true e = absurd (d (ap view (same_true l r e)))
      go false e = unequal_goes l r a b (λ q. d (ap view q))

  -- the Rust resolves both sides first, as the theory does
  pass_goes : Fine S N st → (l r : Term) → Issued N (view l) → Issued N (view r) → Formed l → Formed r → Goes N z ok (pass z ok pending l r) (theory.step S n st (view l) (view r) PS)
  unfolding theory.step and_then
  pass_goes f l r il ir fl fr =
      let a = resolve_held N z st h f l il in
      let b = resolve_held N z st h f r ir in
      let e : pass z ok pending l r ≡ compared z ok pending a.0 b.0 =
      ap (λ (o : Option Term). and_then o (λ l. and_then (resolve z r) (λ r. compared z ok pending l r))) a.1
      ∙ ap (λ (o : Option Term). and_then o (λ r. compared z ok pending a.0 r)) b.1 in
      let x = compared_goes a.0 b.0 (fixed l a.0 a.2 il (formed_rounds z.bindings fb.0 (suc (length z.bindings)) l fl a.0 a.1))
      (fixed r b.0 b.2 ir (formed_rounds z.bindings fb.0 (suc (length z.bindings)) r fr b.0 b.1)) (same? term? (view a.0) (view b.0)) in
      let y = subst (λ (t : T). Goes N z ok (compared z ok pending a.0 b.0) (theory.compare S n st t (view b.0) PS (same? term? t (view b.0)))) a.2 x in
      let w = subst (λ (u : T). Goes N z ok (compared z ok pending a.0 b.0) (theory.compare S n st (tree.sub st.res (view l)) u PS (same? term? (tree.sub st.res (view l)) u))) b.2 y in
      subst (λ (o : Option Pass). Goes N z ok o (theory.compare S n st (tree.sub st.res (view l)) (tree.sub st.res (view r)) PS (same? term? (tree.sub st.res (view l)) (tree.sub st.res (view r))))) (sym e) w
    where
      fixed : (t u : Term) → view u ≡ tree.sub st.res (view t) → Issued N (view t) → Formed u → Fixed u
      fixed t u e i g = (
        (λ v j. within S N st f (view t) i v (subst (λ (x : T). In v x) e j)),
        ap (λ (x : T). tree.sub st.res x) e ∙ idem (view t) ∙ sym e,
        g,
      )

-- ---- the loop

-- the two loops end alike
abbrev pub MeetsOut : ℕ → Solver → Out Solver → Out (State S) → Type 0
MeetsOut N z₀ (cancelled z) (cancelled s) = Held N z s × Kept z₀ z × Proper z
MeetsOut N z₀ (cancelled z) (done s c) = ⊥
MeetsOut N z₀ (done z b) (cancelled s) = ⊥
MeetsOut N z₀ (done z b) (done s c) = Held N z s × Kept z₀ z × Proper z × (b ≡ c)

pub record Meets (N : ℕ) (z₀ : Solver) (o : Option (Out Solver)) (p : Out (State S)) : Type 0 where
  pub out : Out Solver
  pub is : o ≡ some out
  pub meets : MeetsOut N z₀ out p

pub while_goes : (k N : ℕ) (z₀ z : Solver) (st : State S) (ok : Bool) (ps : List Pair) → Kept z₀ z → Held N z st → Fine S N st → Below S N (view_pairs ps) → Proper z → FormedPairs ps
    → Meets N z₀ (while_pending k z ok ps) (theory.constrain S (read loose) k st ok (view_pairs ps))
unfolding while_pending theory.constrain and_then
while_goes zero N z₀ z st ok [] e h f b fb fp = record { out = done z ok; is = refl; meets = (h, e, fb, refl) }
while_goes zero N z₀ z st ok (p ∷ ps) e h f b fb fp = record { out = cancelled z; is = refl; meets = (h, e, fb) }
while_goes (suc k) N z₀ z st ok [] e h f b fb fp = record { out = done z ok; is = refl; meets = (h, e, fb, refl) }
while_goes (suc k) N z₀ z st ok (p ∷ ps) e h f b fb fp =
    let y = theory.step S (read loose) st (view p.0) (view p.1) (view_pairs ps) in
    let g : Goes N z ok (pass z ok ps p.0 p.1) y = pass_goes N z st h (idem_sub S (read loose) (respects loose codes_count) N st f) fb ok ps fp.2 f p.0 p.1 b.0 b.1 fp.0 fp.1 in
    let x = g.out in
    let r = step_right S (read loose) (respects loose codes_count) N st f (view_pairs ps) b.2 (view p.0) (view p.1) b.0 b.1 in
    let i = while_goes k N z₀ x.solver y.state x.compatible x.pending (kept_trans z₀ z x.solver e g.kept) g.holds r.fine
    (subst (λ (qs : List (theory.Pair S)). Below S N qs) (sym g.todo) r.below) g.proper g.pairs in
    record {
      out = i.out;
      is = ap (λ (o : Option Pass). and_then o (λ x. while_pending k x.solver x.compatible x.pending)) g.is ∙ i.is;
      meets = subst (λ (o : Out (State S)). MeetsOut N z₀ i.out o) (ap₂ (theory.constrain S (read loose) k y.state) g.good g.todo) i.meets;
    }
