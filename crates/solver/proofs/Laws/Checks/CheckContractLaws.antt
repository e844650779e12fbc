-- What `unify_variable`, `decompose` and `check_pair` ask of the words, and what each of their answers leaves.
use mathlib.Core.Path.{◌≡◌, refl, sym, ap, ap₂, ◌∙◌, subst}
use mathlib.Core.Bool.{Bool, true, false, ◌||◌}
use mathlib.Core.List.{List}
use mathlib.Core.Option.{Option, none, some}
use Prim.Native.Nat.{ℕ, ◌+◌, ◌^◌, ◌≤◌, ◌<◌}
use native.Mathlib.Omega.{arith}
use lib.Dec.{eqb}
use lib.ListN.{length, get_or}
use Rattle.std.specs.Prelude.{Some, None}
use Rattle.std.specs.Option.{option_eq}
use Rattle.std.specs.declared.option.Option as rust
use Rattle.terms.specs.Term.{Term, Parts, var, node, AllVars, Held}
use Rattle.terms.specs.Tree.{same, children}
use Rattle.terms.specs.Questions.{among}
use Rattle.terms.proofs.Laws.General.Bools.{or-true, or-false}
use Rattle.terms.proofs.Laws.Held.HeldLaws.{head_kind, items_some, held_first}
use Rattle.solver.specs.declared.Solver.{Solver}
use Rattle.solver.specs.declared.Checked.{Checked}
use Rattle.solver.specs.declared.Builtin.{Builtin}
use Rattle.solver.specs.declared.ChainEnd.{ChainEnd}
use Rattle.solver.specs.declared.ChainEnd.TheVariants.{At, Default}
use Rattle.solver.specs.Shapes.{Notion, same_shape}
use Rattle.solver.specs.Constrain as solving
use Rattle.solver.specs.Constrain.{Pair, Requests, follow, resolve, resolved, top, check_pair, recovery, recovers, occurs, projects, admit, bind, decompose}
use Rattle.solver.specs.Session.{Session, issued, with_solver}
use Rattle.solver.specs.Words.ReachContract.{Steady, Topped}
use Rattle.solver.specs.Words.Bindings.{HeldBindings}
use Rattle.solver.specs.Words.ChainEnds.{HeldEnd, Inside, variable_in, code_in, is_code, is_builtin}
use Rattle.terms.proofs.Laws.Held.SameLaws.{same_refl}
use Rattle.unify.specs.Term.{clash}
use Rattle.solver.specs.Words.ChainRecord.{Last, chain_ends}
use Rattle.solver.specs.Words.SessionRepresentation.{end_words, Represents}
use Rattle.solver.proofs.Laws.Definition.ChainRecordLaws.{in_order_coming}
use Rattle.solver.specs.Words.MethodContract.{Beside, is_some, bound_to}
use Rattle.solver.specs.Words.PendingContract.{PushedPairs, Twins}
use Rattle.solver.specs.Words.ConstrainContract.{Within, Waiting, Facing, Nodes, Met, Due, After}
use Rattle.solver.proofs.Laws.Definition.InOrderLaws.{in_order_ordered}
use Rattle.solver.proofs.Laws.Definition.SolverInvariantLaws.{Ordered, ordered_steady, ordered_topped, ordered_revision, top_within, top_low, top_free}
use Rattle.solver.proofs.Laws.Definition.CheckStepLaws.{turn_same, turn_left, turn_right, turn_nodes, bind_recovers, bind_refused, bind_occurs, bind_bound, part_recovers, part_projects, part_pushes, part_unlike}
use Rattle.solver.proofs.Laws.Resolving.AskLaws.{two_up}
use Rattle.solver.proofs.Laws.Resolving.ChainEndLaws.{variable_told, node_told}
use Rattle.solver.proofs.Laws.Checks.DefaultCheckLaws.{comes, answered, default_left, default_right, default_both}
use Rattle.solver.proofs.Laws.Checks.CheckStepWords.{after_passed, after_failed, after_bound, after_pushed}

-- ---- places

pub held_place : (ks vs : List ℕ) (p : ℕ) (t : Term) → Held ks vs p t → p < length ks
held_place ks vs p t h = omega (arith, h.within, items_some t)

-- ---- a variable meets a term

module _ {x : Solver} {ks vs ts : List ℕ} {s : Session} {v : ℕ} {q : ChainEnd} {t : Term} (F : Facing x ks vs ts s v q t) where
  pub facing_low : v < x.variables
  facing_low = omega (arith, F.low, F.represents.fits.variables)

  pub facing_issued : v < x.issued
  facing_issued = omega (arith, F.low, F.represents.issued)

  pub facing_bind : Inside (length ks) q × (length ks < 2 ^ 32) × (x.revision < 2 ^ 33)
  facing_bind = (F.inside, omega (arith, F.represents.short), omega (arith, F.represents.revision, F.counted, F.represents.fits.variables, F.represents.narrow))

none_of : (o : Option Requests) → is_some o ≡ false → o ≡ none
none_of none e = refl
none_of (some rs) e = absurd (let z : ◌≡◌ {A = ℕ} 0 1 = cc in omega arith)

some_of : (o : Option Requests) → is_some o ≡ true → (rs : Requests) × (o ≡ some rs)
some_of none e = absurd (let z : ◌≡◌ {A = ℕ} 0 1 = cc in omega arith)
some_of (some rs) e = (rs, refl)

module _ {x : Solver} {ks vs ts : List ℕ} {s : Session} {v : ℕ} {q : ChainEnd} {t : Term} (F : Facing x ks vs ts s v q t) {st : List ℕ} {count : ℕ} {ps : List Pair} (W : Waiting ks vs st count ps) {a b : Term} where
  pub assign_recovers : recovers (resolved s.solver t) ≡ true → After x ks vs ts ts st st s a b count (bind s.solver v t ps) (record { solver = x; good = true; count = count })
  assign_recovers e = after_passed x ks vs ts st s count ps F.represents W a b (bind_recovers s.solver v t ps e)

  pub assign_refused : recovers (resolved s.solver t) ≡ false → is_some (admit s.solver.requests (s.solver.requests v) t) ≡ false
      → After x ks vs ts ts st st s a b count (bind s.solver v t ps) (record { solver = x; good = false; count = count })
  assign_refused e f =
      after_failed x ks vs ts st s count ps F.represents W a b (bind_refused s.solver v t ps e (none_of (admit s.solver.requests (s.solver.requests v) t) f))

  pub assign_occurs : recovers (resolved s.solver t) ≡ false → occurs v (resolved s.solver t) ≡ true
      → After x ks vs ts ts st st s a b count (bind s.solver v t ps) (record { solver = x; good = false; count = count })
  assign_occurs e f = after_failed x ks vs ts st s count ps F.represents W a b (bind_occurs s.solver v t ps e f)

  pub assign_bound : recovers (resolved s.solver t) ≡ false → is_some (admit s.solver.requests (s.solver.requests v) t) ≡ true → occurs v (resolved s.solver t) ≡ false
      → {y : Solver} {us : List ℕ}
      → ((rs : Requests) → admit s.solver.requests (s.solver.requests v) t ≡ some rs → Represents y ks vs us (with_solver s (bound_to s.solver v t rs)))
      → Beside x y ts us → After x ks vs ts us st st s a b count (bind s.solver v t ps) (record { solver = y; good = true; count = count })
  assign_bound e f g {y} {us} l d =
      let r = some_of (admit s.solver.requests (s.solver.requests v) t) f in
      after_bound x ks vs ts st s count ps F.represents W a b (bound_to s.solver v t r.0) (bind_bound s.solver v t ps r.0 e r.1 g) refl y us (l r.0 r.1)
      d.variables d.nodes d.size d.rest

-- ---- two nodes

or-none : (a b : Bool) → (a || b) ≡ (a || (b || false))
or-none true b = refl
or-none false true = refl
or-none false false = refl

-- the kind of a node's head, which is two more than its tag, says whether it is an Unknown or Error, or a projection
pub kind_recovery : (ks vs : List ℕ) (p k : ℕ) (ps : Parts) → Held ks vs p (node k ps) → (eqb (get_or ks p 0) 4 || eqb (get_or ks p 0) 5) ≡ recovery (node k ps)
unfolding recovery among head_kind
kind_recovery ks vs p k ps h =
    let e = (held_first ks vs p (node k ps) h).0 in
    ap₂ ◌||◌ (ap (λ (i : ℕ). eqb i 4) e ∙ two_up k 2) (ap (λ (i : ℕ). eqb i 5) e ∙ two_up k 3) ∙ or-none (eqb k 2) (eqb k 3)

-- whether a held term is a recovery term or a builtin, by its kind and its code
module _ (ks vs : List ℕ) (q c : ℕ) (t : Term) (h : Held ks vs q t) where
  kind_recovers : (eqb (get_or ks q 0) 4 || eqb (get_or ks q 0) 5) ≡ recovery t
  unfolding recovery head_kind
  kind_recovers = go t h
    where
      go : (y : Term) → Held ks vs q y → (eqb (get_or ks q 0) 4 || eqb (get_or ks q 0) 5) ≡ recovery y
      go (var v) h = ap (λ (i : ℕ). eqb i 4 || eqb i 5) (held_first ks vs q (var v) h).0
      go (node k ps) h = kind_recovery ks vs q k ps h

  pub met_recovers : {b : Bool} → b ≡ (eqb (get_or ks q 0) 4 || eqb (get_or ks q 0) 5) → b ≡ true → b ≡ (recovery t || is_builtin c t)
  met_recovers e d = d ∙ sym (or-true (recovery t) (is_builtin c t) (sym kind_recovers ∙ sym e ∙ d))

  pub met_code : {b r : Bool} {o : rust.Option ℕ} → b ≡ (eqb (get_or ks q 0) 4 || eqb (get_or ks q 0) 5) → b ≡ false → o ≡ code_in t → r ≡ option_eq eqb o (Some c)
      → r ≡ (recovery t || is_builtin c t)
  unfolding is_code
  met_code {b} {r} {o} e d f g = g ∙ code_eq o ∙ ap (is_code c) f ∙ sym (or-false (recovery t) (is_builtin c t) (sym kind_recovers ∙ sym e ∙ d))
    where
      code_eq : (o : rust.Option ℕ) → option_eq eqb o (Some c) ≡ is_code c o
      code_eq None = refl
      code_eq (Some d) = refl

pub kind_projects : (ks vs : List ℕ) (p k : ℕ) (ps : Parts) → Held ks vs p (node k ps) → eqb (get_or ks p 0) 20 ≡ projects (node k ps)
unfolding projects head_kind
kind_projects ks vs p k ps h = ap (λ (i : ℕ). eqb i 20) (held_first ks vs p (node k ps) h).0 ∙ two_up k 18

module _ (n : Notion) {x : Solver} {ks vs ts : List ℕ} {s : Session} {i j count : ℕ} {t u : Term} (L : Represents x ks vs ts s) (N : Nodes x ks vs i j count t u) {st : List ℕ} {ps : List Pair}
    (W : Waiting ks vs st count ps) where
  abbrev goal : solving.Check
  goal = decompose s.solver t u ps (recovery t || recovery u) (projects t) (same_shape n t u)

  -- what was read of the heads
  abbrev soft : Bool
  soft = (eqb (get_or ks i 0) 4 || eqb (get_or ks i 0) 5) || (eqb (get_or ks j 0) 4 || eqb (get_or ks j 0) 5)

  heads : soft ≡ (recovery t || recovery u)
  heads = ap₂ ◌||◌
      (kind_recovery ks vs i N.tag N.row (subst (λ (y : Term). Held ks vs i y) N.left N.at_left) ∙ ap recovery (sym N.left))
      (kind_recovery ks vs j N.other N.behind (subst (λ (y : Term). Held ks vs j y) N.right N.at_right) ∙ ap recovery (sym N.right))

  enters : eqb (get_or ks i 0) 20 ≡ projects t
  enters = kind_projects ks vs i N.tag N.row (subst (λ (y : Term). Held ks vs i y) N.left N.at_left) ∙ ap projects (sym N.left)

  pub apart_recovers : soft ≡ true → After x ks vs ts ts st st s t u count goal (record { solver = x; good = true; count = count })
  apart_recovers e =
      after_passed x ks vs ts st s count ps L W t u
      (ap (λ (b : Bool). decompose s.solver t u ps b (projects t) (same_shape n t u)) (sym heads ∙ e) ∙ part_recovers s.solver t u ps (projects t) (same_shape n t u))

  pub apart_projects : soft ≡ false → eqb (get_or ks i 0) 20 ≡ true → After x ks vs ts ts st st s t u count goal (record { solver = x; good = false; count = count })
  apart_projects e f =
      after_failed x ks vs ts st s count ps L W t u
      (ap (λ (b : Bool). decompose s.solver t u ps b (projects t) (same_shape n t u)) (sym heads ∙ e)
      ∙ ap (λ (b : Bool). decompose s.solver t u ps false b (same_shape n t u)) (sym enters ∙ f) ∙ part_projects s.solver t u ps (same_shape n t u))

  opened : soft ≡ false → eqb (get_or ks i 0) 20 ≡ false → goal ≡ decompose s.solver t u ps false false (same_shape n t u)
  opened e f =
      ap (λ (b : Bool). decompose s.solver t u ps b (projects t) (same_shape n t u)) (sym heads ∙ e)
      ∙ ap (λ (b : Bool). decompose s.solver t u ps false b (same_shape n t u)) (sym enters ∙ f)

  -- the shapes, as they are asked of two held nodes
  abbrev Shapes : Bool → Type 0
  Shapes r = (k l : ℕ) (rs qs : Parts) → Held ks vs i (node k rs) → Held ks vs j (node l qs) → r ≡ same_shape n (node k rs) (node l qs)

  shapes : (r : Bool) → Shapes r → same_shape n t u ≡ r
  shapes r h =
      ap₂ (same_shape n) N.left N.right
      ∙ sym (h N.tag N.other N.row N.behind (subst (λ (y : Term). Held ks vs i y) N.left N.at_left) (subst (λ (y : Term). Held ks vs j y) N.right N.at_right))

  pub apart_unlike : soft ≡ false → eqb (get_or ks i 0) 20 ≡ false → {r : Bool} → r ≡ false → Shapes r → After x ks vs ts ts st st s t u count goal (record { solver = x; good = false; count = count })
  apart_unlike e f {r} g h =
      after_failed x ks vs ts st s count ps L W t u
      (opened e f ∙ ap (λ (b : Bool). decompose s.solver t u ps false false b) (shapes r h ∙ g) ∙ part_unlike s.solver t u ps)

  -- the children pushed, as two held nodes have them
  abbrev Pushed : List ℕ → ℕ → Type 0
  Pushed st' top = (k l : ℕ) (rs qs : Parts) → Held ks vs i (node k rs) → Held ks vs j (node l qs) → PushedPairs ks vs i j (node k rs) (node l qs) count st st' top

  pub apart_pushes : soft ≡ false → eqb (get_or ks i 0) 20 ≡ false → {r : Bool} → r ≡ true → Shapes r → {st' : List ℕ} {top : ℕ} → length st' ≡ length st → Pushed st' top
      → After x ks vs ts ts st st' s t u count goal (record { solver = x; good = true; count = top })
  apart_pushes e f {r} g h {st'} {top} c p =
      after_pushed x ks vs ts st s count ps L W t u
      (opened e f ∙ ap (λ (b : Bool). decompose s.solver t u ps false false b) (shapes r h ∙ g) ∙ part_pushes s.solver t u ps) i j N st' top c
      (subst (λ (y : Term). PushedPairs ks vs i j y u count st st' top) (sym N.left)
      (subst (λ (y : Term). PushedPairs ks vs i j (node N.tag N.row) y count st st' top) (sym N.right)
      (p N.tag N.other N.row N.behind (subst (λ (y : Term). Held ks vs i y) N.left N.at_left) (subst (λ (y : Term). Held ks vs j y) N.right N.at_right))))

module _ {x : Solver} {ks vs : List ℕ} {i j count : ℕ} {t u : Term} (N : Nodes x ks vs i j count t u) where
  pub nodes_places : (i < length ks) × (j < length ks)
  nodes_places = (held_place ks vs i t N.at_left, held_place ks vs j u N.at_right)

  -- two nodes whose shapes agree, and the room for their children
  pub nodes_twins : (n : Notion) {r : Bool} → r ≡ true → ((k l : ℕ) (rs qs : Parts) → Held ks vs i (node k rs) → Held ks vs j (node l qs) → r ≡ same_shape n (node k rs) (node l qs))
      → {size : ℕ} → x.nodes ≤ size
      → (w : Twins ks vs i j) × (count + length (children (node w.tag w.left)) ≤ size)
  unfolding children
  nodes_twins n {r} g h {size} l =
      let a = subst (λ (y : Term). Held ks vs i y) N.left N.at_left in
      let b = subst (λ (y : Term). Held ks vs j y) N.right N.at_right in (
        record {
          notion = n;
          tag = N.tag;
          other = N.other;
          left = N.row;
          right = N.behind;
          held_left = a;
          held_right = b;
          alike = sym (h N.tag N.other N.row N.behind a b) ∙ g;
        },
        omega (arith, N.room),
      )

-- ---- two ends

-- both are at places
pub met_nodes : {x : Solver} {ks vs : List ℕ} {i j count : ℕ} {t u : Term} → Met x ks vs (At i) (At j) count t u → Nodes x ks vs i j count t u
met_nodes M =
    record { tag = M.tag; row = M.row; left = M.left; other = M.other; behind = M.behind; right = M.right; at_left = M.at_left; at_right = M.at_right; room = M.room }

module _ (n : Notion) (codes : n 4 ≡ false) {x : Solver} {ks vs ts : List ℕ} {s : Session} {count : ℕ} {t u : Term} (L : Represents x ks vs ts s) {st : List ℕ} {ps : List Pair}
    (W : Waiting ks vs st count ps) where
  answers : (g : Bool) → comes n s.solver ps t u ≡ answered s.solver ps g → After x ks vs ts ts st st s t u count (comes n s.solver ps t u) (record { solver = x; good = g; count = count })
  answers true e = after_passed x ks vs ts st s count ps L W t u e
  answers false e = after_failed x ks vs ts st s count ps L W t u e

  -- one is a default, or both are
  pub apart_right : {i : ℕ} {b : Builtin} → Met x ks vs (At i) (Default b) count t u → {g : Bool} → ((y : Term) → Held ks vs i y → g ≡ (recovery y || is_builtin b.code y))
      → After x ks vs ts ts st st s t u count (comes n s.solver ps t u) (record { solver = x; good = g; count = count })
  apart_right {b = b} M {g} f =
      answers g (ap (comes n s.solver ps t) M.at_right.1 ∙ default_right n codes s.solver ps b.code t ∙ ap (answered s.solver ps) (sym (f t M.at_left)))

  pub apart_left : {b : Builtin} {j : ℕ} → Met x ks vs (Default b) (At j) count t u → {g : Bool} → ((y : Term) → Held ks vs j y → g ≡ (recovery y || is_builtin b.code y))
      → After x ks vs ts ts st st s t u count (comes n s.solver ps t u) (record { solver = x; good = g; count = count })
  apart_left {b} M {g} f =
      answers g (ap (λ (y : Term). comes n s.solver ps y u) M.at_left.1 ∙ default_left n codes s.solver ps b.code u ∙ ap (answered s.solver ps) (sym (f u M.at_right)))

  pub apart_both : {b d : Builtin} → Met x ks vs (Default b) (Default d) count t u
      → After x ks vs ts ts st st s t u count (comes n s.solver ps t u) (record { solver = x; good = eqb b.code d.code; count = count })
  apart_both {b} {d} M =
      answers (eqb b.code d.code) (ap₂ (comes n s.solver ps) M.at_left.1 M.at_right.1 ∙ default_both n codes s.solver ps b.code d.code)

-- ---- a pair is due

module _ {x : Solver} {ks vs ts : List ℕ} {s : Session} {i j count : ℕ} {t u : Term} (D : Due x ks vs ts s i j count t u) where
  abbrev z : solving.Solver
  z = s.solver

  order : Ordered (issued s) z
  order = in_order_ordered (issued s) z D.ordered

  -- the counter is the revision
  due_steady : Steady z.revision z.bindings
  due_steady = ordered_steady (issued s) z order

  pub due_places : (i < length ks) × (j < length ks)
  due_places = (held_place ks vs i t D.left.held, held_place ks vs j u D.right.held)

  -- what `same_terms` answers
  pub due_same : {r : Bool}
      → ((t u : Term) (b : ℕ → Option Term) → Held ks vs i t → Held ks vs j u → HeldBindings ks vs (end_words x.variables ts) (chain_ends x.revision b) → Steady x.revision b → Topped x.revision b → r ≡ same (resolve x.revision b t) (resolve x.revision b u))
      → same (resolved z t) (resolved z u) ≡ r
  due_same f =
      let e = D.represents.revision in
      sym (f t u z.bindings D.left.held D.right.held (subst (λ (k : ℕ). HeldBindings ks vs (end_words x.variables ts) (chain_ends k z.bindings)) (sym e) D.represents.ends) (subst (λ (k : ℕ). Steady k z.bindings) (sym e) due_steady)
      (subst (λ (k : ℕ). Topped k z.bindings) (sym e) (ordered_topped (issued s) z order))
      ∙ ap (λ (k : ℕ). same (resolve k z.bindings t) (resolve k z.bindings u)) e)

  pub turned_same : (n : Notion) {st : List ℕ} {ps : List Pair} → Waiting ks vs st count ps → same (resolved z t) (resolved z u) ≡ true
      → After x ks vs ts ts st st s (top z t) (top z u) count (check_pair n z t u ps) (record { solver = x; good = true; count = count })
  turned_same n {st} {ps} W e = after_passed x ks vs ts st s count ps D.represents W (top z t) (top z u) (turn_same n z t u ps e)

  -- what `shallow_resolve` finds of the place p, and `variable_of` tells of an end
  abbrev Finds : ℕ → ChainEnd → Type 0
  Finds p a = (t : Term) (b : ℕ → Option Term) (n : ℕ) → Held ks vs p t → HeldBindings ks vs (end_words x.variables ts) (chain_ends n b) → HeldEnd ks vs (follow n b t) a

  abbrev Tells : ChainEnd → rust.Option ℕ → Type 0
  Tells a o = (t : Term) → HeldEnd ks vs t a → o ≡ variable_in t

  found : (p : ℕ) (a : ChainEnd) (y : Term) → Held ks vs p y → Finds p a → HeldEnd ks vs (top z y) a
  found p a y h f = f y z.bindings z.revision h D.represents.ends

  abbrev Left : (us st₀ st : List ℕ) → Checked → solving.Check → Type 0
  Left us st₀ st r w = After x ks vs ts us st₀ st s (top z t) (top z u) count w r

  -- the tops of the two terms are the ends a and b
  module _ (a b : ChainEnd) (top_i : Finds i a) (top_j : Finds j b) where
    at_a : HeldEnd ks vs (top z t) a
    at_a = found i a t D.left.held top_i

    at_b : HeldEnd ks vs (top z u) b
    at_b = found j b u D.right.held top_j

    -- another variable, or a node, where the two terms differ
    last_of : (y w : Term) (v : ℕ) → (resolved z y ≡ resolved z w → ⊥) → top z y ≡ var v → Last z.bindings v (top z w)
    last_of y w v d e = go (top z w) refl
      where
        tops : (c : Term) → resolved z (top z c) ≡ resolved z c
        tops = (ordered_topped (issued s) z order).tops

        go : (c : Term) → top z w ≡ c → Last z.bindings v c
        go (node k ps) q = tt
        go (var n) q = (
          top_free (issued s) z order w n q,
          λ f.
              let g : top z y ≡ top z w = e ∙ ap var (sym f) ∙ sym q in
              d (sym (tops y) ∙ ap (resolved z) g ∙ tops w),
        )

    apart : same (resolved z t) (resolved z u) ≡ false → resolved z t ≡ resolved z u → ⊥
    apart d e =
        let r : true ≡ false = sym (same_refl (resolved z u)) ∙ sym (ap (λ (c : Term). same c (resolved z u)) e) ∙ d in
        clash (cc (r))

    pub due_left : {o : rust.Option ℕ} {v : ℕ} → same (resolved z t) (resolved z u) ≡ false → Tells a o → o ≡ Some v → Inside (length ks) b → Facing x ks vs ts s v b (top z u)
    due_left {o} {v} d f e l =
        let p = variable_told (top z t) v (sym (f (top z t) at_a) ∙ e) in
        record {
          represents = D.represents;
          steady = due_steady;
          coming = in_order_coming (issued s) z D.ordered;
          counted = ordered_revision (issued s) z order;
          free = top_free (issued s) z order t v p;
          last = last_of t u v (apart d) p;
          low = top_low (issued s) z order t v D.left.within p;
          inside = l;
          held = at_b;
          within = top_within (issued s) z order u D.right.within;
        }

    pub due_right : {o : rust.Option ℕ} {v : ℕ} → same (resolved z t) (resolved z u) ≡ false → Tells b o → o ≡ Some v → Inside (length ks) a → Facing x ks vs ts s v a (top z t)
    due_right {o} {v} d f e l =
        let p = variable_told (top z u) v (sym (f (top z u) at_b) ∙ e) in
        record {
          represents = D.represents;
          steady = due_steady;
          coming = in_order_coming (issued s) z D.ordered;
          counted = ordered_revision (issued s) z order;
          free = top_free (issued s) z order u v p;
          last = last_of u t v (λ e. apart d (sym e)) p;
          low = top_low (issued s) z order u v D.right.within p;
          inside = l;
          held = at_a;
          within = top_within (issued s) z order t D.left.within;
        }

    pub due_nodes : {o p : rust.Option ℕ} → Tells a o → o ≡ None → Tells b p → p ≡ None → Inside (length ks) a → Inside (length ks) b
        → Met x ks vs a b count (top z t) (top z u)
    due_nodes f e g d l m =
        let p = node_told (top z t) (sym (f (top z t) at_a) ∙ e) in
        let q = node_told (top z u) (sym (g (top z u) at_b) ∙ d) in
        record {
          tag = p.0;
          row = p.1;
          left = p.2;
          other = q.0;
          behind = q.1;
          right = q.2;
          inside_left = l;
          inside_right = m;
          at_left = at_a;
          at_right = at_b;
          room = D.room p.0 p.1 p.2;
        }

    -- what the definition does
    module _ (n : Notion) (ps : List Pair) {us st₀ st : List ℕ} {r : Checked} (differ : same (resolved z t) (resolved z u) ≡ false) where
      pub turned_left : {o : rust.Option ℕ} {v : ℕ} → Tells a o → o ≡ Some v → Left us st₀ st r (bind z v (top z u) ps) → Left us st₀ st r (check_pair n z t u ps)
      turned_left {o} {v} f e h =
          subst (Left us st₀ st r) (sym (turn_left n z t u ps v differ (variable_told (top z t) v (sym (f (top z t) at_a) ∙ e)))) h

      pub turned_right : {o q : rust.Option ℕ} {v : ℕ} → Tells a o → o ≡ None → Tells b q → q ≡ Some v → Left us st₀ st r (bind z v (top z t) ps)
          → Left us st₀ st r (check_pair n z t u ps)
      turned_right {o} {q} {v} f e g d h =
          let p = node_told (top z t) (sym (f (top z t) at_a) ∙ e) in
          subst (Left us st₀ st r) (sym (turn_right n z t u ps p.0 p.1 v differ p.2 (variable_told (top z u) v (sym (g (top z u) at_b) ∙ d)))) h

      pub turned_nodes : {o q : rust.Option ℕ} → Tells a o → o ≡ None → Tells b q → q ≡ None
          → Left us st₀ st r (decompose z (top z t) (top z u) ps (recovery (top z t) || recovery (top z u)) (projects (top z t)) (same_shape n (top z t) (top z u))) → Left us st₀ st r (check_pair n z t u ps)
      turned_nodes f e g d h =
          let p = node_told (top z t) (sym (f (top z t) at_a) ∙ e) in
          let q = node_told (top z u) (sym (g (top z u) at_b) ∙ d) in
          subst (Left us st₀ st r) (sym (turn_nodes n z t u ps p.0 q.0 p.1 q.1 differ p.2 q.2)) h
