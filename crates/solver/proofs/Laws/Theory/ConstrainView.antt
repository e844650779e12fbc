-- `constrain` and the defaults on terms, viewed, are those of the theory's table.
use mathlib.Core.Path.{◌≡◌, refl, sym, ap, ap₂, ◌∙◌, subst}
use mathlib.Core.Bool.{Bool, true, false, ◌&&◌, ◌||◌}
use mathlib.Core.List.{List, [], ◌∷◌, map}
use mathlib.Core.Option.{Option, none, some}
use Prim.Native.Nat.{ℕ, zero, suc}
use native.Mathlib.Omega.{arith}
use lib.Dec.{eqb}
use lib.ListN.{length, get_or}
use Rattle.terms.specs.Term.{Term, Parts, var, node, end, num, sub}
use Rattle.terms.specs.Tree.{same, class, nums}
use Rattle.terms.proofs.Laws.General.Bools.{never_true, and-false}
use Rattle.terms.proofs.Laws.Held.SameLaws.{same_refl, same_true}
use Rattle.unify.specs.Term as tree
use Rattle.unify.specs.Term.{nil, In, in?, same?}
use Rattle.unify.specs.Solver as theory
use Rattle.unify.specs.Solver.{Out, cancelled, done, put, any_soft}
use Rattle.unify.specs.Table as table
use Rattle.unify.specs.Table.{Table, answer}
use Rattle.unify.specs.Session as session
use Rattle.solver.specs.Families.{Family, Request, belongs, belongs_row, meet, taken, default_of}
use Rattle.solver.specs.Shapes.{Notion, blank, blank_row, read, same_shape, turned, pushed}
use Rattle.solver.specs.Constrain.{Solver, resolved, top, recovery, recovers, occurs, projects, Requests, Pair, joined, join, allow, admit, Check, bind₁, bind₀, bind, zip_on, decompose, differ, match, check_pair, settles}
use Rattle.solver.specs.Session.{never, settle_at, numeric_at, never_at, numeric_defaults_of, never_defaults_of}
use Rattle.solver.proofs.Laws.Theory.TheoryView.{T, forest, view, views, view_injective, view_node, turned_length}
use Rattle.solver.proofs.Laws.Theory.Signature.{S, term?}
use Rattle.solver.proofs.Laws.Theory.TheoryViewLaws.{all_viewed, put_viewed, view_resolve, view_follow, recovers_view, occurs_in, in_occurs, same_wide}

abbrev pub view_table : Solver → Table S
view_table z = record { bound = all_viewed z.bindings; fam = z.requests; rev = z.revision }

abbrev pub view_pair : Pair → theory.Pair S
view_pair p = (view p.0, view p.1)

abbrev pub view_pairs : List Pair → List (theory.Pair S)
view_pairs ps = map view_pair ps

abbrev view_turn : Check → table.Turn S
view_turn x = record { state = view_table x.state; good = x.good; todo = view_pairs x.todo }

unfoldable pub view_out : Out Solver → Out (Table S)
view_out (cancelled z) = cancelled (view_table z)
view_out (done z b) = done (view_table z) b

-- ---- number variables

join_view : (rs : Requests) (r : Request) (w : ℕ) (o : Option Request) → theory.join S rs r w o ≡ join rs r w o
unfolding theory.join join theory.joined joined
join_view rs r w none = refl
join_view rs r w (some s) = go (meet r s)
  where
    go : (o : Option Request) → theory.joined S rs w o ≡ joined rs w o
    go none = refl
    go (some e) = refl

allow_view : (rs : Requests) (b : Bool) → theory.allow S rs b ≡ allow rs b
unfolding theory.allow allow
allow_view rs true = refl
allow_view rs false = refl

-- a builtin has no children
no_children : (f : Family) (ps : Parts) (t : T) (ts : List T) → views ps ≡ t ∷ ts → belongs_row f ps ≡ false
unfolding belongs_row views
no_children f end t ts e = refl
no_children f (num c end) t ts e = absurd (let z : ◌≡◌ {A = ℕ} 0 1 = cc in omega arith)
no_children f (num c (num d ps)) t ts e = refl
no_children f (num c (sub u ps)) t ts e = refl
no_children f (sub u ps) t ts e = refl

blank_none : (ps : Parts) → views ps ≡ [] → blank_row ps ≡ ps
unfolding views blank_row
blank_none end e = refl
blank_none (num n ps) e = ap (num n) (blank_none ps e)
blank_none (sub t ps) e = absurd (let z : ◌≡◌ {A = ℕ} 0 1 = cc in omega arith)

turned_nil : {A : Type 0} (c n : ℕ) (l : List A) → l ≡ [] → turned c n l ≡ []
unfolding turned
turned_nil zero n l e = e
turned_nil (suc zero) zero l e = rw e
turned_nil (suc zero) (suc n) l e = rw e
turned_nil (suc (suc x)) n l e = e

turned_cons : {A : Type 0} (c n : ℕ) (x : A) (l : List A) → (y : A) × (m : List A) × (turned c n (x ∷ l) ≡ y ∷ m)
turned_cons {A = A} c n x l = go (turned c n (x ∷ l)) refl
  where
    go : (r : List A) → turned c n (x ∷ l) ≡ r → (y : A) × (m : List A) × (turned c n (x ∷ l) ≡ y ∷ m)
    go [] e = absurd (let q = turned_length c n (x ∷ l) in let w : length (turned c n (x ∷ l)) ≡ 0 = ap length e in omega arith)
    go (y ∷ m) e = (y, m, e)

admit_node : (rs : Requests) (r : Request) (k : ℕ) (ps : Parts) (l : List T) → views ps ≡ l
    → theory.admit S rs (some r) (tree.node (node k (blank_row ps)) (forest (turned (class k) (get_or (nums ps) 1 0) l))) ≡ allow rs (belongs r.family (node k ps))
unfolding theory.admit forest belongs allow
admit_node rs r k ps [] e =
    ap (λ (m : List T). theory.admit S rs (some r) (tree.node (node k (blank_row ps)) (forest m))) (turned_nil (class k) (get_or (nums ps) 1 0) [] refl)
    ∙ allow_view rs (belongs r.family (node k (blank_row ps))) ∙ ap (λ (qs : Parts). allow rs (belongs r.family (node k qs))) (blank_none ps e)
admit_node rs r k ps (t ∷ ts) e =
    let x = turned_cons (class k) (get_or (nums ps) 1 0) t ts in
    ap (λ (m : List T). theory.admit S rs (some r) (tree.node (node k (blank_row ps)) (forest m))) x.2
    ∙ sym (ap (λ (b : Bool). allow rs (eqb k 4 && b)) (no_children r.family ps t ts e) ∙ ap (allow rs) (and-false (eqb k 4)))

pub admit_view : (rs : Requests) (o : Option Request) (t : Term) → theory.admit S rs o (view t) ≡ admit rs o t
unfolding theory.admit admit view
admit_view rs none t = refl
admit_view rs (some r) (var w) = join_view rs r w (rs w)
admit_view rs (some r) (node k ps) = admit_node rs r k ps (views ps) refl

-- ---- a variable

module _ (z : Solver) (v : ℕ) (t : Term) (ps : List Pair) where
  abbrev Z : Table S
  Z = view_table z

  abbrev PS : List (theory.Pair S)
  PS = view_pairs ps

  tie₁_view : (u : T) (d : Dec (In v u)) (o : Bool) → (o ≡ true → In v u) → (In v u → o ≡ true) → (rs : Option Requests)
      → table.tie₁ S Z v (view t) u PS rs d ≡ view_turn (bind₁ z v t ps rs o)
  unfolding table.tie₁ bind₁
  tie₁_view u d o a b none = refl
  tie₁_view u (yes i) true a b (some rs) = refl
  tie₁_view u (yes i) false a b (some rs) = never_true (b i)
  tie₁_view u (no i) true a b (some rs) = absurd (i (a refl))
  tie₁_view u (no i) false a b (some rs) =
      ap (λ (f : ℕ → Option T). record { state = record { bound = f; fam = rs; rev = suc z.revision }; good = true; todo = PS }) (put_viewed z.bindings v t)

  answer_view : answer S Z (view t) ≡ view (resolved z t)
  answer_view = sym (view_resolve z.revision z.bindings t)

  tie₀_view : (b : Bool) → table.tie₀ S Z v (view t) PS b ≡ view_turn (bind₀ z v t ps b)
  unfolding table.tie₀ bind₀
  tie₀_view true = refl
  tie₀_view false =
      ap (λ (rs : Option Requests). table.tie₁ S Z v (view t) (answer S Z (view t)) PS rs (in? v (answer S Z (view t)))) (admit_view z.requests (z.requests v) t)
      ∙ tie₁_view (answer S Z (view t)) (in? v (answer S Z (view t))) (occurs v (resolved z t))
      (λ e. subst (λ (u : T). In v u) (sym answer_view) (occurs_in v (resolved z t) e))
      (λ i. in_occurs v (resolved z t) (subst (λ (u : T). In v u) answer_view i))
      (admit z.requests (z.requests v) t)

  pub tie_view : table.tie S Z v (view t) PS ≡ view_turn (bind z v t ps)
  unfolding table.tie bind
  tie_view =
      ap (table.tie₀ S Z v (view t) PS) (ap (λ (u : T). any_soft S u) answer_view ∙ sym (recovers_view (resolved z t)))
      ∙ tie₀_view (recovers (resolved z t))

-- ---- two nodes

pub zip_view : (l m : List Term) (ps : List Pair) → length l ≡ length m → theory.zip_on S (forest (map view l)) (forest (map view m)) (view_pairs ps) ≡ some (view_pairs (zip_on l m ps))
unfolding theory.zip_on zip_on forest
zip_view [] [] ps e = refl
zip_view [] (u ∷ m) ps e = absurd (omega arith)
zip_view (t ∷ l) [] ps e = absurd (omega arith)
zip_view (t ∷ l) (u ∷ m) ps e = zip_view l m ((t, u) ∷ ps) (omega arith)

module _ (n : Notion) where
  module _ (z : Solver) (k j : ℕ) (rs qs : Parts) (ps : List Pair) where
    abbrev H : Term
    H = node k (blank_row rs)

    abbrev K : Term
    K = node j (blank_row qs)

    part_view : (a b : Bool) (d : Dec (read n H ≡ read n K)) (s : Bool) → (s ≡ true → read n H ≡ read n K) → (read n H ≡ read n K → s ≡ true)
        → table.part S (read n) (view_table z) H K (forest (map view (pushed (node k rs)))) (forest (map view (pushed (node j qs)))) (view_pairs ps) a b d
        ≡ view_turn (decompose z (node k rs) (node j qs) ps a b s)
    unfolding table.part decompose table.part₁
    part_view true b d s f g = refl
    part_view false true d s f g = refl
    part_view false false (yes e) true f g = ap (table.part₁ S (view_table z) (view_pairs ps)) (zip_view (pushed (node k rs)) (pushed (node j qs)) ps (same_wide n k j rs qs e))
    part_view false false (yes e) false f g = never_true (g e)
    part_view false false (no e) true f g = absurd (e (f refl))
    part_view false false (no e) false f g = refl

  differ_view : (z : Solver) (t u : Term) (ps : List Pair) → table.differ S (read n) (view_table z) (view t) (view u) (view_pairs ps) ≡ view_turn (differ n z t u ps)
  unfolding table.differ differ view recovery projects same_shape blank
  differ_view z (var v) u ps = tie_view z v u ps
  differ_view z (node k rs) (var v) ps = tie_view z v (node k rs) ps
  differ_view z (node k rs) (node j qs) ps =
      ap₂ (λ (x y : T). table.differ S (read n) (view_table z) x y (view_pairs ps)) (view_node k rs) (view_node j qs)
      ∙ part_view z k j rs qs ps (recovery (node k rs) || recovery (node j qs)) (projects (node k rs))
      (term? (read n (node k (blank_row rs))) (read n (node j (blank_row qs))))
      (same_shape n (node k rs) (node j qs))
      (λ e. same_true (read n (node k (blank_row rs))) (read n (node j (blank_row qs))) e)
      (λ e. ap (same (read n (node k (blank_row rs)))) (sym e) ∙ same_refl (read n (node k (blank_row rs))))

  module _ (z : Solver) (t u : Term) (ps : List Pair) where
    match_view : (a b x y : T) (d : Dec (a ≡ b)) (s : Bool) → (s ≡ true → a ≡ b) → (a ≡ b → s ≡ true) → x ≡ view (top z t) → y ≡ view (top z u)
        → table.match S (read n) (view_table z) x y a b (view_pairs ps) d ≡ view_turn (match n z t u ps s)
    unfolding table.match match
    match_view a b x y (yes e) true f g p q = refl
    match_view a b x y (yes e) false f g p q = never_true (g e)
    match_view a b x y (no e) true f g p q = absurd (e (f refl))
    match_view a b x y (no e) false f g p q =
        ap₂ (λ (x y : T). table.differ S (read n) (view_table z) x y (view_pairs ps)) p q ∙ differ_view z (top z t) (top z u) ps

    pub turn_view : table.turn S (read n) (view_table z) (view t) (view u) (view_pairs ps) ≡ view_turn (check_pair n z t u ps)
    unfolding table.turn check_pair
    turn_view =
        let a = view_resolve z.revision z.bindings t in
        let b = view_resolve z.revision z.bindings u in
        match_view (answer S (view_table z) (view t)) (answer S (view_table z) (view u)) (table.top S (view_table z) (view t)) (table.top S (view_table z) (view u))
        (same? term? (answer S (view_table z) (view t)) (answer S (view_table z) (view u)))
        (same (resolved z t) (resolved z u))
        (λ e. sym a ∙ ap view (same_true (resolved z t) (resolved z u) e) ∙ b)
        (λ e. ap (same (resolved z t)) (sym (view_injective (resolved z t) (resolved z u) (a ∙ e ∙ sym b))) ∙ same_refl (resolved z t))
        (sym (view_follow z.revision z.bindings t)) (sym (view_follow z.revision z.bindings u))

  -- as many checks, the same answer, and the same session after it
  pub settles_view : (k : ℕ) (z : Solver) (ok : Bool) (ps : List Pair) → table.settles S (read n) k (view_table z) ok (view_pairs ps) ≡ view_out (settles n k z ok ps)
  unfolding table.settles settles view_out
  settles_view zero z ok [] = refl
  settles_view zero z ok (p ∷ ps) = refl
  settles_view (suc k) z ok [] = refl
  settles_view (suc k) z ok (p ∷ ps) =
      let x = check_pair n z p.0 p.1 ps in
      ap (λ (y : table.Turn S). table.settles S (read n) k y.state (ok && y.good) y.todo) (turn_view z p.0 p.1 ps)
      ∙ settles_view k x.state (ok && x.good) x.todo

-- ---- defaults

-- by the request of the variable whose turn it is and that of the end of its chain
abbrev pub fallback : Request → Option Request → Term
fallback r o = default_of r o

pub leaf_view : (c : ℕ) → view (node 4 (num c end)) ≡ tree.node (node 4 (num c end)) nil
unfolding view blank_row turned class forest nums
leaf_view c = refl

-- the builtin of the code c w, where w is the variable at the end
module _ (z : Solver) (c : ℕ → ℕ) where
  pub fill_view : (t : Term) → session.fill S fallback never (view_table z) (λ w. node 4 (num (c w) end)) (view t) ≡ view_table (settle_at z (λ w. node 4 (num (c w) end)) t)
  unfolding session.fill settle_at view
  fill_view (var w) =
      ap (λ (f : ℕ → Option T). record { bound = f; fam = z.requests; rev = suc z.revision })
      (ap (λ (t : T). put (all_viewed z.bindings) w (some t)) (sym (leaf_view (c w))) ∙ put_viewed z.bindings w (node 4 (num (c w) end)))
  fill_view (node k ps) = refl

  pub at_view : (v : ℕ)
      → session.fill S fallback never (view_table z) (λ w. node 4 (num (c w) end)) (table.top S (view_table z) (tree.var v)) ≡ view_table (settle_at z (λ w. node 4 (num (c w) end)) (top z (var v)))
  unfolding view
  at_view v =
      ap (session.fill S fallback never (view_table z) (λ w. node 4 (num (c w) end))) (sym (view_follow z.revision z.bindings (var v)))
      ∙ fill_view (top z (var v))

numeric_view : (z : Solver) (v : ℕ) (o : Option Request) → session.number_one S fallback never (view_table z) v o ≡ view_table (numeric_at z v o)
unfolding session.number_one numeric_at
numeric_view z v none = refl
numeric_view z v (some r) = at_view z (λ w. taken r (z.requests w)) v

never_view : (z : Solver) (v : ℕ) (b : Bool) → session.never_one S fallback never (view_table z) v b ≡ view_table (never_at z v b)
unfolding session.never_one never_at
never_view z v false = refl
never_view z v true = at_view z (λ w. 10) v

pub numerics_view : (n v : ℕ) (z : Solver) → session.fill_numbers S fallback never n v (view_table z) ≡ view_table (numeric_defaults_of n v z)
unfolding session.fill_numbers numeric_defaults_of
numerics_view zero v z = refl
numerics_view (suc n) v z = ap (session.fill_numbers S fallback never n (suc v)) (numeric_view z v (z.requests v)) ∙ numerics_view n (suc v) (numeric_at z v (z.requests v))

pub nevers_view : (d : ℕ → Bool) (n v : ℕ) (z : Solver) → session.fill_nevers S fallback never d n v (view_table z) ≡ view_table (never_defaults_of d n v z)
unfolding session.fill_nevers never_defaults_of
nevers_view d zero v z = refl
nevers_view d (suc n) v z = ap (session.fill_nevers S fallback never d n (suc v)) (never_view z v (d v)) ∙ nevers_view d n (suc v) (never_at z v (d v))
