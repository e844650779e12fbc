-- What a check of `constrain` comes to, and that it leaves a solver in order.
use mathlib.Core.Path.{◌≡◌, refl, sym, ap, ◌∙◌, subst}
use mathlib.Core.Bool.{Bool, true, false, ◌||◌}
use mathlib.Core.List.{List, [], ◌∷◌, ◌++◌}
use mathlib.Core.Logic.{◌⊎◌, inl, inr}
use mathlib.Core.Option.{Option, none, some}
use Prim.Native.Nat.{ℕ, zero, suc, ◌<◌}
use lib.ListN.{get_or, take, drop}
use Rattle.terms.specs.Term.{Term, Parts, var, node, end, num, sub, AllVars, AllVarsParts}
use Rattle.terms.specs.Tree.{same, nums, row, tag, class, children, subs}
use Rattle.unify.specs.Term.{clash}
use Rattle.unify.specs.Solver as theory
use Rattle.unify.specs.Solver.{put, put_other}
use Rattle.unify.specs.Meaning.{Below}
use Rattle.unify.proofs.Sound.{step_right}
use Rattle.unify.specs.Table as table
use Rattle.unify.specs.Table.{Table}
use Rattle.unify.proofs.Refine as refine
use Rattle.unify.proofs.Refine.{Alike}
use Rattle.unify.proofs.InOrder.{InOrder}
use Rattle.solver.specs.Shapes.{Notion, read, same_shape, turned, pushed}
use Rattle.solver.specs.Constrain.{Solver, resolved, top, recovery, recovers, occurs, projects, Requests, Pair, admit, Check, passed, failed, bound, bind₁, bind₀, bind, zip_on, decompose, differ, match, check_pair}
use Rattle.solver.specs.Words.ConstrainContract.{Within, AllWithin}
use Rattle.solver.proofs.Laws.Theory.TheoryView.{T, view}
use Rattle.solver.proofs.Laws.Theory.Signature.{S}
use Rattle.solver.proofs.Laws.Theory.ConstrainView.{view_table, view_pairs, turn_view}
use Rattle.solver.proofs.Laws.Theory.Demand3Laws.{respects}
use Rattle.solver.proofs.Laws.Definition.SolverInvariantLaws.{within_issued, Ordered, top_within, top_free}

-- ---- what a turn comes to, case by case

module _ (n : Notion) (z : Solver) (t u : Term) (ps : List Pair) where
  pub turn_same : same (resolved z t) (resolved z u) ≡ true → check_pair n z t u ps ≡ passed z ps
  unfolding check_pair match
  turn_same e = rw e

  pub turn_differ : same (resolved z t) (resolved z u) ≡ false → check_pair n z t u ps ≡ differ n z (top z t) (top z u) ps
  unfolding check_pair match
  turn_differ e = rw e

  -- a variable at the top of the first, or only of the second
  pub turn_left : (v : ℕ) → same (resolved z t) (resolved z u) ≡ false → top z t ≡ var v → check_pair n z t u ps ≡ bind z v (top z u) ps
  unfolding differ
  turn_left v e p = turn_differ e ∙ ap (λ (x : Term). differ n z x (top z u) ps) p

  pub turn_right : (k : ℕ) (rs : Parts) (v : ℕ) → same (resolved z t) (resolved z u) ≡ false → top z t ≡ node k rs → top z u ≡ var v → check_pair n z t u ps ≡ bind z v (top z t) ps
  unfolding differ
  turn_right k rs v e p q =
      turn_differ e ∙ ap (λ (x : Term). differ n z x (top z u) ps) p ∙ ap (λ (x : Term). differ n z (node k rs) x ps) q
      ∙ ap (λ (x : Term). bind z v x ps) (sym p)

  pub turn_nodes : (k j : ℕ) (rs qs : Parts) → same (resolved z t) (resolved z u) ≡ false → top z t ≡ node k rs → top z u ≡ node j qs
      → check_pair n z t u ps ≡ decompose z (top z t) (top z u) ps (recovery (top z t) || recovery (top z u)) (projects (top z t)) (same_shape n (top z t) (top z u))
  unfolding differ
  turn_nodes k j rs qs e p q = turn_differ e ∙ go (top z t) (top z u) p q
    where
      go : (x y : Term) → x ≡ node k rs → y ≡ node j qs → differ n z x y ps ≡ decompose z x y ps (recovery x || recovery y) (projects x) (same_shape n x y)
      go (var v) y a b = clash (cc)
      go (node i xs) (var v) a b = clash (cc)
      go (node i xs) (node h ys) a b = refl

module _ (z : Solver) (v : ℕ) (t : Term) (ps : List Pair) where
  pub bind_recovers : recovers (resolved z t) ≡ true → bind z v t ps ≡ passed z ps
  unfolding bind bind₀
  bind_recovers e = rw e

  pub bind_refused : recovers (resolved z t) ≡ false → admit z.requests (z.requests v) t ≡ none → bind z v t ps ≡ failed z ps
  unfolding bind bind₀ bind₁
  bind_refused e a = rw (e, a)

  pub bind_occurs : recovers (resolved z t) ≡ false → occurs v (resolved z t) ≡ true → bind z v t ps ≡ failed z ps
  unfolding bind bind₀ bind₁
  bind_occurs e o = rw (e, o) (go (admit z.requests (z.requests v) t))
    where
      go : (a : Option Requests) → bind₁ z v t ps a true ≡ failed z ps
      go none = refl
      go (some rs) = refl

  pub bind_bound : (rs : Requests) → recovers (resolved z t) ≡ false → admit z.requests (z.requests v) t ≡ some rs → occurs v (resolved z t) ≡ false
      → bind z v t ps ≡ bound z v t rs ps
  unfolding bind bind₀ bind₁
  bind_bound rs e a o = rw (e, a, o)

module _ (z : Solver) (t u : Term) (ps : List Pair) where
  pub part_recovers : (p s : Bool) → decompose z t u ps true p s ≡ passed z ps
  unfolding decompose
  part_recovers p s = refl

  pub part_projects : (s : Bool) → decompose z t u ps false true s ≡ failed z ps
  unfolding decompose
  part_projects s = refl

  pub part_pushes : decompose z t u ps false false true ≡ passed z (zip_on (pushed t) (pushed u) ps)
  unfolding decompose
  part_pushes = refl

  pub part_unlike : decompose z t u ps false false false ≡ failed z ps
  unfolding decompose
  part_unlike = refl

-- ---- what a turn does to the solver, in any case

-- a variable at the top of one of two terms, and the other term
abbrev pub Beside : Term → Term → ℕ → Term → Type 0
Beside t u v w = ((t ≡ var v) × (w ≡ u)) ⊎ ((u ≡ var v) × (w ≡ t))

-- nothing but the answer; the children pushed; a binding
abbrev pub Came : Solver → Term → Term → List Pair → Check → Type 0
Came z t u ps x =
    ((x.state ≡ z) × (x.todo ≡ ps))
    ⊎ (((x.state ≡ z) × (x.todo ≡ zip_on (pushed t) (pushed u) ps))
    ⊎ ((v : ℕ) × (w : Term) × (rs : Requests) × Beside t u v w × (admit z.requests (z.requests v) w ≡ some rs) × (x ≡ bound z v w rs ps)))

module _ (z : Solver) (t u : Term) (ps : List Pair) where
  bind_came : (v : ℕ) (w : Term) → Beside t u v w → Came z t u ps (bind z v w ps)
  unfolding bind bind₀ bind₁
  bind_came v w s = soft (recovers (resolved z w))
    where
      go : (a : Option Requests) (o : Bool) → admit z.requests (z.requests v) w ≡ a → Came z t u ps (bind₁ z v w ps a o)
      go none o e = inl (refl, refl)
      go (some rs) true e = inl (refl, refl)
      go (some rs) false e = inr (inr (v, w, rs, s, e, refl))

      soft : (b : Bool) → Came z t u ps (bind₀ z v w ps b)
      soft true = inl (refl, refl)
      soft false = go (admit z.requests (z.requests v) w) (occurs v (resolved z w)) refl

  part_came : (a b c : Bool) → Came z t u ps (decompose z t u ps a b c)
  unfolding decompose
  part_came true b c = inl (refl, refl)
  part_came false true c = inl (refl, refl)
  part_came false false true = inr (inl (refl, refl))
  part_came false false false = inl (refl, refl)

differ_came : (n : Notion) (z : Solver) (t u : Term) (ps : List Pair) → Came z t u ps (differ n z t u ps)
unfolding differ
differ_came n z (var v) u ps = bind_came z (var v) u ps v u (inl (refl, refl))
differ_came n z (node k rs) (var v) ps = bind_came z (node k rs) (var v) ps v (node k rs) (inr (refl, refl))
differ_came n z (node k rs) (node j qs) ps =
    part_came z (node k rs) (node j qs) ps (recovery (node k rs) || recovery (node j qs)) (projects (node k rs)) (same_shape n (node k rs) (node j qs))

pub turn_came : (n : Notion) (z : Solver) (t u : Term) (ps : List Pair) → Came z (top z t) (top z u) ps (check_pair n z t u ps)
unfolding check_pair match
turn_came n z t u ps = go (same (resolved z t) (resolved z u))
  where
    go : (b : Bool) → Came z (top z t) (top z u) ps (match n z t u ps b)
    go true = inl (refl, refl)
    go false = differ_came n z (top z t) (top z u) ps

-- the pairs pending after it
pub turn_todo : (n : Notion) (z : Solver) (t u : Term) (ps : List Pair)
    → ((check_pair n z t u ps).todo ≡ ps) ⊎ ((check_pair n z t u ps).todo ≡ zip_on (pushed (top z t)) (pushed (top z u)) ps)
turn_todo n z t u ps = go (turn_came n z t u ps)
  where
    go : Came z (top z t) (top z u) ps (check_pair n z t u ps) → ((check_pair n z t u ps).todo ≡ ps) ⊎ ((check_pair n z t u ps).todo ≡ zip_on (pushed (top z t)) (pushed (top z u)) ps)
    go (inl a) = inl a.1
    go (inr (inl a)) = inr a.1
    go (inr (inr a)) = inl (ap (λ (x : Check). x.todo) a.5)

-- ---- pairs within N

abbrev pub EachWithin : ℕ → List Term → Type 0
EachWithin N [] = Unit {0}
EachWithin N (t ∷ ts) = Within N t × EachWithin N ts

module _ (N : ℕ) where
  each_append : (l m : List Term) → EachWithin N l → EachWithin N m → EachWithin N (l ++ m)
  each_append [] m a b = b
  each_append (t ∷ l) m a b = (a.0, each_append l m a.1 b)

  each_take : (k : ℕ) (l : List Term) → EachWithin N l → EachWithin N (take k l)
  each_take zero l a = tt
  each_take (suc k) [] a = tt
  each_take (suc k) (t ∷ l) a = (a.0, each_take k l a.1)

  each-drop : (k : ℕ) (l : List Term) → EachWithin N l → EachWithin N (drop k l)
  each-drop zero l a = a
  each-drop (suc k) [] a = tt
  each-drop (suc k) (t ∷ l) a = each-drop k l a.1

  each_turned : (c k : ℕ) (l : List Term) → EachWithin N l → EachWithin N (turned c k l)
  unfolding turned
  each_turned zero k l a = a
  each_turned (suc zero) k l a = each_append (drop k l) (take k l) (each-drop k l a) (each_take k l a)
  each_turned (suc (suc c)) k l a = a

  each_subs : (ps : Parts) → AllVarsParts (λ v. v < N) ps → EachWithin N (subs ps)
  unfolding subs AllVars
  each_subs end w = tt
  each_subs (num k ps) w = each_subs ps w
  each_subs (sub t ps) w = (w.0, each_subs ps w.1)

  each_child : (t : Term) → Within N t → EachWithin N (children t)
  unfolding children AllVars
  each_child (var v) w = tt
  each_child (node k ps) w = each_subs ps w

  -- the children as they are pushed, and in pairs
  pub pushed_within : (t : Term) → Within N t → EachWithin N (pushed t)
  pushed_within t w = each_turned (class (tag t)) (get_or (nums (row t)) 1 0) (children t) (each_child t w)

  pub zip_within : (l m : List Term) (ps : List Pair) → EachWithin N l → EachWithin N m → AllWithin N ps → AllWithin N (zip_on l m ps)
  unfolding zip_on
  zip_within [] m ps a b w = w
  zip_within (t ∷ l) [] ps a b w = w
  zip_within (t ∷ l) (u ∷ m) ps a b w = zip_within l m ((t, u) ∷ ps) a.1 b.1 (a.0, b.0, w)

  -- as the theory has it
  within_below : (ps : List Pair) → AllWithin N ps → Below S N (view_pairs ps)
  within_below [] w = tt
  within_below (p ∷ ps) w = (within_issued N p.0 w.0, within_issued N p.1 w.1, within_below ps w.2)

alike_refl : (ρ : ℕ → T) (ps : List (theory.Pair S)) → Alike S ρ ps ps
alike_refl ρ [] = tt
alike_refl ρ (p ∷ ps) = (refl, refl, alike_refl ρ ps)

-- ---- a turn leaves the solver in order

module _ (n : Notion) (codes_count : n 4 ≡ false) (N : ℕ) (z : Solver) (ordered : Ordered N z) where
  abbrev Z : Table S
  Z = view_table z

  table_ordered : (t u : T) (ps : List (theory.Pair S)) → Below S N ((t, u) ∷ ps) → InOrder S N (table.turn S (read n) Z t u ps).state
  table_ordered t u ps b =
      let s = ordered.means in
      let r = respects n codes_count in
      let g = refine.turn_follows S Z s ordered.stands (refine.idem_sub S (read n) r N s ordered.fine) ps ps (alike_refl s.res ps) (read n) t u t u refl refl in
      let y = step_right S (read n) r N s ordered.fine ps b.2 t u b.0 b.1 in
      record {
        means = (theory.step S (read n) s t u ps).state;
        stands = g.stands;
        counted = refine.turn_counted S N Z ordered.counted ps (read n) t u
            (refine.reach S (read n) r N Z s ordered.stands ordered.fine t t refl b.0)
            (refine.reach S (read n) r N Z s ordered.stands ordered.fine u u refl b.1);
        fine = y.fine;
      }

  -- AFTER A TURN the solver is in order, and the pairs pending are within N.
  pub turn_ordered : (t u : Term) (ps : List Pair) → Within N t → Within N u → AllWithin N ps → Ordered N (check_pair n z t u ps).state
  turn_ordered t u ps a b w =
      subst (λ (x : table.Turn S). InOrder S N x.state) (turn_view n z t u ps)
      (table_ordered (view t) (view u) (view_pairs ps) (within_below N ((t, u) ∷ ps) (a, b, w)))

  pub turn_within : (t u : Term) (ps : List Pair) → Within N t → Within N u → AllWithin N ps → AllWithin N (check_pair n z t u ps).todo
  turn_within t u ps a b w = go (turn_todo n z t u ps)
    where
      go : ((check_pair n z t u ps).todo ≡ ps) ⊎ ((check_pair n z t u ps).todo ≡ zip_on (pushed (top z t)) (pushed (top z u)) ps) → AllWithin N (check_pair n z t u ps).todo
      go (inl e) = subst (AllWithin N) (sym e) w
      go (inr e) = subst (AllWithin N) (sym e)
          (zip_within N (pushed (top z t)) (pushed (top z u)) ps
          (pushed_within N (top z t) (top_within N z ordered t a))
          (pushed_within N (top z u) (top_within N z ordered u b)) w)

  -- what is bound stays bound
  kept_other : (x v : ℕ) (w t : Term) → z.bindings x ≡ none → z.bindings v ≡ some t → put z.bindings x (some w) v ≡ some t
  kept_other x v w t f e = put_other z.bindings x (some w) v (λ p. let q = ap z.bindings p in clash (cc)) ∙ e

  pub turn_extends : (t u : Term) (ps : List Pair) (v : ℕ) (s : Term) → z.bindings v ≡ some s → (check_pair n z t u ps).state.bindings v ≡ some s
  turn_extends t u ps v s e = go (turn_came n z t u ps)
    where
      free : (x : ℕ) (w : Term) → Beside (top z t) (top z u) x w → z.bindings x ≡ none
      free x w (inl p) = top_free N z ordered t x p.0
      free x w (inr p) = top_free N z ordered u x p.0

      go : Came z (top z t) (top z u) ps (check_pair n z t u ps) → (check_pair n z t u ps).state.bindings v ≡ some s
      go (inl p) = ap (λ (y : Solver). y.bindings v) p.0 ∙ e
      go (inr (inl p)) = ap (λ (y : Solver). y.bindings v) p.0 ∙ e
      go (inr (inr p)) = ap (λ (y : Check). y.state.bindings v) p.5 ∙ kept_other p.0 v p.1 s (free p.0 p.1 p.3) e
