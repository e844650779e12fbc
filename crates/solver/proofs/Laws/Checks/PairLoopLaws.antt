-- The loop of `constrain`: what it carries from check to check.
use mathlib.Core.Path.{◌≡◌, refl, sym, ap, ◌∙◌, subst}
use mathlib.Core.Bool.{Bool, true, false, not, ◌&&◌}
use mathlib.Core.List.{List, [], ◌∷◌, ◌++◌}
use mathlib.Core.Logic.{◌⊎◌, inl, inr}
use mathlib.Core.Option.{Option, none, some}
use Prim.Native.Nat.{ℕ, zero, suc, ◌+◌, ◌*◌, ◌-◌, ◌≤◌, ◌<◌}
use native.Mathlib.Omega.{arith}
use lib.ListN.{length, get_or, take, length-append}
use lib.Seq.{take-take, take-append-le, drop_at, length-take-le}
use Rattle.terms.specs.Term.{Term, Parts, var, node, end, num, Held}
use Rattle.terms.specs.Tree.{subs, children}
use Rattle.unify.specs.Solver.{Out, cancelled, done}
use Rattle.solver.specs.declared.Solver.{Solver}
use Rattle.solver.specs.declared.Checked.{Checked}
use Rattle.solver.specs.declared.Verdict.{Verdict}
use Rattle.solver.specs.declared.Verdict.TheVariants.{Incompatible, Compatible, Cancelled}
use Rattle.solver.specs.Shapes.{Notion}
use Rattle.solver.specs.Constrain as solving
use Rattle.solver.specs.Constrain.{Pair, check_pair, top, follow, followed, settles, constrain}
use Rattle.solver.specs.Session.{Session, issued, with_solver}
use Rattle.solver.specs.Invariant.{InOrder}
use Rattle.solver.specs.Orders.{solver_of, verdict_code}
use Rattle.solver.specs.Words.ReachContract.{Steady}
use Rattle.solver.specs.Words.Bindings.{builtin, placed, coded, HeldBinding, HeldBindings}
use Rattle.solver.specs.Words.Worklist.{Zero}
use Rattle.solver.specs.Words.SessionRepresentation.{Represents, binding_words, verdict_number}
use Rattle.solver.specs.Words.PendingContract.{left_of, PushedPairs, Laid, Taken}
use Rattle.solver.specs.Words.ResolveFrames.{Cleared}
use Rattle.solver.specs.Words.ConstrainContract.{AllWithin, pending_from, Waiting, Known, CheckRoom, Due, Stays, Pushes, ChangesCounted, After, Constrained}
use Rattle.solver.specs.Words.TableLayout.{lasting_words}
use Rattle.solver.proofs.Laws.Definition.InOrderLaws.{in_order_ordered, ordered_in_order}
use Rattle.solver.proofs.Laws.Definition.SolverInvariantLaws.{ordered_steady}
use Rattle.solver.proofs.Laws.Definition.CheckStepLaws.{turn_ordered, turn_within, turn_extends}
use Rattle.solver.proofs.Laws.Resolving.TopLaws.{follow_node}
use Rattle.solver.proofs.Laws.Table.RepresentationLaws.{lent_scratch}
use Rattle.solver.proofs.Laws.Checks.PendingLaws.{Stacked}
use Rattle.solver.proofs.Laws.Checks.StackLaws.{laid_left, laid_right, Stack, stack_start, stack_empty, stack_some, stack_agree, stack_extends, stack-pop, stack_room, stack_push, begins_some, stack_bound}

-- the top of a held term is held somewhere, or is a builtin
abbrev Somewhere : List ℕ → List ℕ → Term → Type 0
Somewhere ks vs t = ((a : ℕ) × Held ks vs a t) ⊎ ((c : ℕ) × (t ≡ builtin c))

pub follow_held : (ks vs bs : List ℕ) (b : ℕ → Option Term) → HeldBindings ks vs bs b → (n i : ℕ) (t : Term) → Held ks vs i t → Somewhere ks vs (follow n b t)
unfolding follow followed
follow_held ks vs bs b h zero i t g = inl (i, g)
follow_held ks vs bs b h (suc n) i (node k ps) g = inl (i, g)
follow_held ks vs bs b h (suc n) i (var v) g = go (λ j u q. follow_held ks vs bs b h n j u q) (b v) (h.words v)
  where
    go : ((j : ℕ) (u : Term) → Held ks vs j u → Somewhere ks vs (follow n b u)) → (o : Option Term) → HeldBinding ks vs o (get_or bs v 0)
        → Somewhere ks vs (followed v o (λ u. follow n b u))
    go ih none e = inl (i, g)
    go ih (some u) (placed p e q) = ih p u q
    go ih (some u) (coded c l e f) = inr (c, ap (follow n b) f ∙ follow_node n b 4 (num c end))

-- `goal` is what the definition gives for the pair that `constrain` was given; what is left comes to the same. ts are the words of the table, and
-- st those of the pending pairs.
pub record Going (n : Notion) (x₀ : Solver) (ks vs : List ℕ) (s : Session) (goal : Out solving.Solver) (x : Solver) (ts st : List ℕ) (left count : ℕ) (ok : Bool) : Type 0 where
  pub solver : solving.Solver
  pub pairs : List Pair
  pub represents : Represents x ks vs ts (with_solver s solver)
  pub ordered : InOrder (issued s) solver
  pub within : AllWithin (issued s) pairs
  pub stack : Stack ks vs solver.bindings st count pairs
  pub blank : (i : ℕ) → count ≤ i → get_or st i 0 ≡ 0
  pub same : settles n left solver ok pairs ≡ goal
  pub variables : x.variables ≡ x₀.variables
  pub nodes : x.nodes ≡ x₀.nodes

-- ---- the start

-- the words of the table before the pending pairs
pub table_of : {x : Solver} {ks vs ws ts : List ℕ} {s : Session} → Represents x ks vs ws s → ts ≡ take (pending_from x) ws → Represents x ks vs ts s
table_of {x} {ks} {vs} {ws} {ts} {s} lent e =
    lent_scratch x ks vs ws ts s lent (sym (ap (take (pending_from x)) e ∙ take-take (pending_from x) (pending_from x) ws (omega arith)))
    (omega (arith, lent.room, ap length e, length-take-le (pending_from x) ws lent.room))

-- there is room for the pair
pub start_room : {x : Solver} {ks vs ts : List ℕ} {s : Session} {p : ℕ} {t : Term} → Represents x ks vs ts s → Known ks vs s p t → 0 < x.nodes
start_room {ks = ks} {vs = vs} {p = p} {t = t} L k = omega (arith, begins_some ks vs p t k.held, L.begun, L.fits.nodes)

module _ {n : Notion} {x : Solver} {ks vs ts st : List ℕ} {s : Session} (ordered : InOrder (issued s) s.solver) (lent : Represents x ks vs ts s) (clear : Zero st)
    {p q : ℕ} {t u : Term} (left : Known ks vs s p t) (right : Known ks vs s q u) {st' : List ℕ} {count : ℕ} (laid : Laid (p ∷ []) (q ∷ []) 0 st st' count) where
  -- the pair that `constrain` was given is the only one
  pub going_start : {k : ℕ} → Going n x ks vs s (constrain n k s.solver t u) x ts st' k count true
  going_start {k} = record {
    solver = s.solver;
    pairs = (t, u) ∷ [];
    represents = lent;
    ordered = ordered;
    within = (left.within, right.within, tt);
    stack = subst (λ (c : ℕ). Stack ks vs s.solver.bindings st' c ((t, u) ∷ [])) (sym laid.size)
        (stack_start ks vs s.solver.bindings st' t u
        (subst (λ (i : ℕ). Held ks vs i t) (sym (laid_left laid 0 (omega arith))) left.held)
        (subst (λ (i : ℕ). Held ks vs i u) (sym (laid_right laid 0 (omega arith))) right.held));
    blank = λ i h. laid.above i h ∙ clear i;
    same = refl;
    variables = refl;
    nodes = refl;
  }

-- ---- a pair is taken

-- the pair that is next, with what is pending below it, in the words st'
pub record Picked (n : Notion) (x₀ : Solver) (ks vs : List ℕ) (s : Session) (goal : Out solving.Solver) (x : Solver) (ts st st' : List ℕ) (left count : ℕ) (ok : Bool) (i j : ℕ) : Type 0 where
  pub solver : solving.Solver
  pub pair : Pair
  pub rest : List Pair
  pub due : Due x ks vs ts (with_solver s solver) i j count pair.0 pair.1
  pub waits : Waiting ks vs st' count rest
  pub within : AllWithin (issued s) (pair ∷ rest)
  pub stack : Stack ks vs solver.bindings st (suc count) (pair ∷ rest)
  pub agrees : (m : ℕ) → m < count → get_or st' m 0 ≡ get_or st m 0
  pub same : settles n (suc left) solver ok (pair ∷ rest) ≡ goal
  pub variables : x.variables ≡ x₀.variables
  pub nodes : x.nodes ≡ x₀.nodes

module _ (n : Notion) (x₀ : Solver) (ks vs : List ℕ) (s : Session) (goal : Out solving.Solver) (x : Solver) (ts st st' : List ℕ) (left count : ℕ) (ok : Bool) (i j : ℕ)
    (G : Going n x₀ ks vs s goal x ts st (suc left) (suc count) ok) (off : Taken count st st' i j) where
  abbrev z : solving.Solver
  z = G.solver

  taken_room : (p : Pair) (rest : List Pair) → Stack ks vs z.bindings st (suc count) (p ∷ rest) → (k : ℕ) (row : Parts) → top z p.0 ≡ node k row
      → count + length (subs row) ≤ x.nodes
  unfolding children subs
  taken_room p rest S k row e =
      let B = stack_bound ks vs z.revision steady S in
      elim (follow_held ks vs (binding_words x.variables ts) z.bindings G.represents.bindings z.revision (left_of (get_or st count 0)) p.0 S.held.0) [
        | inl h ↦
            let g : Held ks vs h.0 (node k row) = subst (λ (t : Term). Held ks vs h.0 t) e h.1 in
            let r = stack_room ks vs S z.revision h.0 k row e g z.revision steady in
            omega (arith, r, G.represents.begun, G.represents.fits.nodes)
        | inr c ↦
            let q : node k row ≡ builtin c.0 = sym e ∙ c.1 in
            let f : row ≡ num c.0 end = cc in
            rw f (omega (arith, B, G.represents.begun, G.represents.fits.nodes))
      ]
    where
      steady : Steady z.revision z.bindings
      steady = ordered_steady (issued s) z (in_order_ordered (issued s) z G.ordered)

  taken_blank : (m : ℕ) → count ≤ m → get_or st' m 0 ≡ 0
  taken_blank m h = go (native.Mathlib.Decide.ℕ_discrete m count)
    where
      go : Dec (m ≡ count) → get_or st' m 0 ≡ 0
      go (yes e) = ap (λ (k : ℕ). get_or st' k 0) e ∙ off.gone
      go (no e) = off.above m (omega arith) ∙ G.blank m (omega arith)

  taken_of : (p : Pair) (rest : List Pair) → G.pairs ≡ p ∷ rest → Stack ks vs z.bindings st (suc count) (p ∷ rest) → Picked n x₀ ks vs s goal x ts st st' left count ok i j
  taken_of p rest e S =
      let w : AllWithin (issued s) (p ∷ rest) = subst (λ (l : List Pair). AllWithin (issued s) l) e G.within in
      record {
        solver = z;
        pair = p;
        rest = rest;
        due = record {
          represents = G.represents;
          ordered = G.ordered;
          left = record { held = subst (λ (m : ℕ). Held ks vs m p.0) (sym off.left) S.held.0; within = w.0 };
          right = record { held = subst (λ (m : ℕ). Held ks vs m p.1) (sym off.right) S.held.1; within = w.1 };
          room = λ k row q. taken_room p rest S k row q;
        };
        waits = record { pairs = (stack_agree ks vs off.below (stack-pop ks vs S)).held; blank = taken_blank };
        within = w;
        stack = S;
        agrees = off.below;
        same = ap (λ (l : List Pair). settles n (suc left) z ok l) (sym e) ∙ G.same;
        variables = G.variables;
        nodes = G.nodes;
      }

  pub going_picked : Picked n x₀ ks vs s goal x ts st st' left count ok i j
  going_picked =
      let h = stack_some ks vs (omega arith) G.stack in
      taken_of h.0 h.1 h.2 (subst (λ (m : ℕ). Stack ks vs z.bindings st m (h.0 ∷ h.1)) (omega arith) h.3)

-- ---- a check is over

module _ (n : Notion) (codes_count : n 4 ≡ false) (x₀ : Solver) (ks vs : List ℕ) (s : Session) (goal : Out solving.Solver) (x : Solver) (ts st st' : List ℕ) (left count : ℕ) (ok : Bool) (i j : ℕ)
    (T : Picked n x₀ ks vs s goal x ts st st' left count ok i j) (us after : List ℕ) (r : Checked)
    (A : After x ks vs ts us st' after (with_solver s T.solver) (top T.solver T.pair.0) (top T.solver T.pair.1) count (check_pair n T.solver T.pair.0 T.pair.1 T.rest) r) where
  abbrev came : solving.Check
  came = check_pair n T.solver T.pair.0 T.pair.1 T.rest

  abbrev few : ℕ → List ℕ → Type 0
  few c l = (c ≡ 1) ⊎ Stacked ks vs T.solver.bindings (λ m. left_of (get_or l m 0)) c

  next_few : Stays st' after count r.count ⊎ Pushes x ks vs (top T.solver T.pair.0) (top T.solver T.pair.1) st' after count r.count → few r.count after
  next_few (inl q) = rw (q.0, q.1) (stack_agree ks vs {st' = st'} T.agrees (stack-pop ks vs T.stack)).few
  next_few (inr q) =
      let k = q.nodes in
      (stack_push ks vs st st' T.stack T.agrees T.solver.revision q.left q.right k.tag k.row (top T.solver T.pair.1) k.left
      (subst (λ (t : Term). Held ks vs q.left t) k.left k.at_left) after r.count
      (subst (λ (t : Term). PushedPairs ks vs q.left q.right t (top T.solver T.pair.1) count st' after r.count) k.left q.pushed)).few

  pub going_next : Going n x₀ ks vs s goal r.solver us after left r.count (ok && r.good)
  unfolding settles
  going_next =
      let o = in_order_ordered (issued s) T.solver T.due.ordered in
      let w = T.within in
      record {
        solver = came.state;
        pairs = came.todo;
        represents = A.represents;
        ordered = ordered_in_order (issued s) came.state (turn_ordered n codes_count (issued s) T.solver o T.pair.0 T.pair.1 T.rest w.0 w.1 w.2);
        within = turn_within n codes_count (issued s) T.solver o T.pair.0 T.pair.1 T.rest w.0 w.1 w.2;
        stack = stack_extends ks vs (λ v t e. turn_extends n codes_count (issued s) T.solver o T.pair.0 T.pair.1 T.rest v t e) (record {
          held = A.waiting.pairs;
          few = next_few A.stack;
        });
        blank = A.waiting.blank;
        same = ap (λ (g : Bool). settles n left came.state (ok && g) came.todo) A.good ∙ T.same;
        variables = A.variables ∙ T.variables;
        nodes = A.nodes ∙ T.nodes;
      }

-- ---- the end

abbrev pub told : Bool → Verdict
told true = Compatible
told false = Incompatible

-- whether no pair was found incompatible so far
abbrev pub agreed : Verdict → Bool
agreed Compatible = true
agreed Incompatible = false
agreed Cancelled = false

-- The loop is over: ws were the words of the table and its scratch before, ts the table's then, and us are the table's now.
module _ {n : Notion} {x₀ : Solver} {ks vs ts : List ℕ} (ws : List ℕ) {s : Session} {goal : Out solving.Solver} {x : Solver} {us st : List ℕ} {left count : ℕ} {ok : Bool}
    (G : Going n x₀ ks vs s goal x us st left count ok) (C : ChangesCounted x₀ x ts us) (front : ts ≡ take (pending_from x₀) ws) (long : length us ≡ pending_from x₀) where
  settled_none : (k : ℕ) (ps : List Pair) → ps ≡ [] → settles n k G.solver ok ps ≡ done G.solver ok
  unfolding settles
  settled_none zero [] e = refl
  settled_none (suc k) [] e = refl
  settled_none k (p ∷ ps) e = absurd (Rattle.unify.specs.Term.clash (cc))

  -- the table and the pending pairs are one again
  joined : (st' : List ℕ) (k : ℕ) → k ≤ length us → take k (us ++ st') ≡ take k us
  joined st' k h = take-append-le k us st' h

  ended : (st' : List ℕ) (o : Out solving.Solver) (v : Verdict) → o ≡ goal → solver_of o ≡ G.solver → verdict_number v ≡ verdict_code o → Zero st'
      → Constrained x₀ ks vs ws (us ++ st') s goal (record { solver = x; verdict = v })
  ended st' o v e f g h = record {
    represents = subst (λ (z : solving.Solver). Represents x ks vs (us ++ st') (with_solver s z)) (sym f ∙ ap solver_of e)
        (lent_scratch x ks vs us (us ++ st') (with_solver s G.solver) G.represents (sym (joined st' (lasting_words x.variables) G.represents.room))
        (omega (arith, G.represents.room, length-append us st')));
    verdict = g ∙ ap verdict_code e;
    blank = subst Zero (sym (drop_at us st' (pending_from x₀) long)) h;
    variables = G.variables;
    nodes = G.nodes;
    counted = record {
      rises = C.rises;
      quiet = λ q.
          joined st' (pending_from x₀) (omega (arith, long)) ∙ C.quiet q ∙ ap (take (pending_from x₀)) front
          ∙ take-take (pending_from x₀) (pending_from x₀) ws (omega arith);
    };
  }

  number_told : (b : Bool) → verdict_number (told b) ≡ verdict_code (done G.solver b)
  unfolding verdict_code
  number_told true = refl
  number_told false = refl

  pub going_end : count ≡ 0 → Constrained x₀ ks vs ws (us ++ st) s goal (record { solver = x; verdict = told ok })
  unfolding solver_of
  going_end e =
      let S = subst (λ (c : ℕ). Stack ks vs G.solver.bindings st c G.pairs) e G.stack in
      ended st (done G.solver ok) (told ok) (sym (settled_none left G.pairs (stack_empty ks vs S)) ∙ G.same) refl (number_told ok)
      (λ i. G.blank i (omega arith))

  settled_some : (ps : List Pair) → (p : Pair) (rest : List Pair) → ps ≡ p ∷ rest → settles n 0 G.solver ok ps ≡ cancelled G.solver
  unfolding settles
  settled_some ps p rest e = ap (λ (l : List Pair). settles n 0 G.solver ok l) e

  -- cancelled: the pairs that are left were cleared
  wiped_blank : {st' : List ℕ} → Cleared count st st' → Zero st'
  wiped_blank {st' = st'} w i = go (native.Mathlib.Decide.dec_lt i count)
    where
      go : Dec (i < count) → get_or st' i 0 ≡ 0
      go (yes l) = w.zeros i l
      go (no l) = w.others i (omega arith) ∙ G.blank i (omega arith)

  pub going_cancel : left ≡ 0 → 0 < count → {st' : List ℕ} → Cleared count st st'
      → Constrained x₀ ks vs ws (us ++ st') s goal (record { solver = x; verdict = Cancelled })
  unfolding solver_of verdict_code
  going_cancel e l {st'} w =
      let p = stack_some ks vs l G.stack in
      let q : cancelled G.solver ≡ goal = sym (settled_some G.pairs p.0 p.1 p.2) ∙ ap (λ (k : ℕ). settles n k G.solver ok G.pairs) (sym e) ∙ G.same in
      ended st' (cancelled G.solver) Cancelled q refl refl (wiped_blank w)

-- ---- the loop as a whole

-- what the loop carries, for every session that its start holds; there is one
pub record Loop (n : Notion) (x₀ : Solver) (ks vs ts₀ st₀ : List ℕ) (left₀ count₀ : ℕ) (ok₀ : Bool) (x : Solver) (ts st work : List ℕ) (left count : ℕ) (ok : Bool) : Type 0 where
  pub carries : (s : Session) (goal : Out solving.Solver) → Going n x₀ ks vs s goal x₀ ts₀ st₀ left₀ count₀ ok₀ → Going n x₀ ks vs s goal x ts st left count ok
  pub some : (s : Session) × (goal : Out solving.Solver) × Going n x₀ ks vs s goal x₀ ts₀ st₀ left₀ count₀ ok₀
  pub room : CheckRoom x₀ ks st work
  pub counted : ChangesCounted x₀ x ts₀ ts

pub loop_start : {n : Notion} {x₀ : Solver} {ks vs ts st work : List ℕ} {left count : ℕ} {ok : Bool} {s : Session} {goal : Out solving.Solver}
    → Going n x₀ ks vs s goal x₀ ts st left count ok → CheckRoom x₀ ks st work → Loop n x₀ ks vs ts st left count ok x₀ ts st work left count ok
loop_start {s = s} {goal = goal} g S = record {
  carries = λ s goal g. g;
  some = (s, goal, g);
  room = S;
  counted = record { rises = omega arith; quiet = λ e. refl };
}

module _ {n : Notion} {x₀ : Solver} {ks vs ts₀ st₀ : List ℕ} {left₀ count₀ : ℕ} {ok₀ : Bool} {x : Solver} {ts st work : List ℕ} {left count : ℕ} {ok : Bool}
    (L : Loop n x₀ ks vs ts₀ st₀ left₀ count₀ ok₀ x ts st work left count ok) where
  present : Going n x₀ ks vs L.some.0 L.some.1 x ts st left count ok
  present = L.carries L.some.0 L.some.1 L.some.2

  -- the pairs have room
  pub loop_room : count ≤ length st
  loop_room =
      let G = present in
      let b = stack_bound ks vs G.solver.revision (ordered_steady (issued L.some.0) G.solver (in_order_ordered (issued L.some.0) G.solver G.ordered)) G.stack in
      omega (arith, G.represents.begun, G.represents.fits.nodes, G.nodes, L.room.pairs)

  -- a pair is taken off
  module _ {st' : List ℕ} {i j : ℕ} (more : left ≡ 0 → ⊥) (pending : 0 < count) (size : length st' ≡ length st) (off : Taken (count - 1) st st' i j) where
    pick : (s : Session) (goal : Out solving.Solver) → Going n x₀ ks vs s goal x₀ ts₀ st₀ left₀ count₀ ok₀ → Picked n x₀ ks vs s goal x ts st st' (left - 1) (count - 1) ok i j
    pick s goal g =
        going_picked n x₀ ks vs s goal x ts st st' (left - 1) (count - 1) ok i j
        (subst (λ (c : ℕ). Going n x₀ ks vs s goal x ts st (suc (left - 1)) c ok) (omega arith)
        (subst (λ (l : ℕ). Going n x₀ ks vs s goal x ts st l count ok) (omega arith) (L.carries s goal g))) off

    pub loop_due : (s : Session) × (t u : Term) × Due x ks vs ts s i j (count - 1) t u
    loop_due = let T = pick L.some.0 L.some.1 L.some.2 in (with_solver L.some.0 T.solver, T.pair.0, T.pair.1, T.due)

    pub loop_scratch : CheckRoom x ks st' work
    loop_scratch =
        let G = present in
        let S = L.room in
        let v = G.variables in
        let d = G.nodes in
        record { pairs = omega (arith, S.pairs); few = S.few; links = omega (arith, S.links); marks = omega (arith, S.marks); clear = S.clear }

    -- and checked
    pub loop_next : n 4 ≡ false → {us after scratch : List ℕ} {r : Checked} → length after ≡ length st' → length scratch ≡ length work → Zero scratch
        → ((s : Session) (t u : Term) (ps : List Pair) → Due x ks vs ts s i j (count - 1) t u → Waiting ks vs st' (count - 1) ps
        → After x ks vs ts us st' after s (top s.solver t) (top s.solver u) (count - 1) (check_pair n s.solver t u ps) r)
        → (next : Bool) → next ≡ (ok && r.good) → Loop n x₀ ks vs ts₀ st₀ left₀ count₀ ok₀ r.solver us after scratch (left - 1) r.count next
    loop_next codes_count {us} {after} {scratch} {r} e f z A next q =
        let S = L.room in
        record {
          carries = λ s goal g.
              let T = pick s goal g in
              subst (λ (b : Bool). Going n x₀ ks vs s goal r.solver us after (left - 1) r.count b) (sym q)
              (going_next n codes_count x₀ ks vs s goal x ts st st' (left - 1) (count - 1) ok i j T us after r (A (with_solver s T.solver) T.pair.0 T.pair.1 T.rest T.due T.waits));
          some = L.some;
          room = record { pairs = omega (arith, S.pairs); few = S.few; links = omega (arith, S.links); marks = omega (arith, S.marks); clear = z };
          counted =
              let T = pick L.some.0 L.some.1 L.some.2 in
              let B = (A (with_solver L.some.0 T.solver) T.pair.0 T.pair.1 T.rest T.due T.waits).counted in
              let v = present.variables in
              record {
                rises = omega (arith, L.counted.rises, B.rises);
                quiet = λ e.
                    subst (λ (m : ℕ). take (lasting_words m) us ≡ take (lasting_words m) ts) v (B.quiet (omega (arith, L.counted.rises, B.rises)))
                    ∙ L.counted.quiet (omega (arith, L.counted.rises, B.rises));
              };
        }

pub and-false : (a b : Bool) → not b ≡ true → false ≡ (a && b)
and-false true true e = e
and-false true false e = refl
and-false false b e = refl

pub and-true : (a b : Bool) → not b ≡ false → a ≡ (a && b)
and-true true true e = refl
and-true true false e = e
and-true false b e = refl
