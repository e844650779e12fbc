-- Linking one place below another keeps the links and the queue in order, and what each outcome of a join tells.
use mathlib.Core.Bool.{Bool, true, false}
use mathlib.Core.List.{List}
use mathlib.Core.Logic.{◌⊎◌, inl, inr}
use mathlib.Core.Path.{◌≡◌, refl, sym, ap, ◌∙◌}
use Prim.Native.Nat.{ℕ, zero, suc, ◌+◌, ◌-◌, ◌*◌, ◌/◌, ◌≤◌, ◌<◌}
use native.Mathlib.Omega.{arith}
use native.Mathlib.Decide.{ℕ_discrete, dec_lt}
use lib.Dec.{eqb}
use lib.ListN.{length, get_or, set, length-set, get_or-eq_default}
use borrow.Author.Tests.{eq-eqb, ne_eqb}
use lib.Seq.{get_or-set_same, get_or-set_other}
use Rattle.terms.specs.Term.{Term, Parts, var, node, end, num, sub, Held}
use Rattle.terms.proofs.Laws.General.Bools.{never_true}
use Rattle.terms.proofs.Laws.Held.HeldLaws.{head_kind, head_value, held_first}
use Rattle.solver.specs.Constrain.{replace}
use Rattle.solver.specs.Words.Bindings.{builtin}
use Rattle.solver.specs.Words.Worklist.{Zero}
use Rattle.solver.specs.Words.SessionRepresentation.{begins}
use Rattle.solver.specs.Words.CongruenceClasses.{Wired, Keeps, Advanced, Clearing, Unlinking, Up, here, climb, Standing, Coincide, Pairwise, Linked, same_var, same_code, same_class, Edge, Fair, Honest, Outcome, Matched}
use Rattle.solver.specs.Words.Halves.{low_half, high_half, halves}
use Rattle.solver.proofs.Laws.Equality.HalfLaws.{halves_length, half_inside, word_gone, word_else}
use Rattle.solver.proofs.Laws.Equality.Pigeonhole.{pigeon_begins, begins_more}
use Rattle.solver.proofs.Laws.Equality.ClassesCoincide.{rows_map, held_same}

-- ---- the links and the queue

-- a token that begins a term is one of the tokens
pub begun_below : (ks : List ℕ) (x : ℕ) → 1 ≤ get_or ks x 0 → x < length ks
begun_below ks x h = go (dec_lt x (length ks))
  where
    go : Dec (x < length ks) → x < length ks
    go (yes l) = l
    go (no l) = absurd (omega (arith, get_or-eq_default ks 0 {n = x} (omega arith)))

module _ (ks par queue : List ℕ) (top : ℕ) (w : Wired ks par queue top) where
  -- a place that is linked is a node
  hung_node : (x n : ℕ) → get_or par x 0 ≡ n → 0 < n → 2 ≤ get_or ks x 0
  hung_node x zero e h = absurd (omega arith)
  hung_node x (suc n) e h = (w.nodes x n (omega arith)).0

  queue_node : (i : ℕ) → i < top → 1 ≤ get_or ks (low_half (get_or queue i 0)) 0
  queue_node i h = omega (arith, hung_node (low_half (get_or queue i 0)) (high_half (get_or queue i 0) + 1) (w.listed i h).1 (omega arith))

  pub queue_below : (i : ℕ) → i < top → low_half (get_or queue i 0) < length ks
  queue_below i h = begun_below ks (low_half (get_or queue i 0)) (queue_node i h)

  -- no more places are linked than begin a term
  pub top_below : top ≤ begins ks
  top_below = pigeon_begins ks top (λ i. low_half (get_or queue i 0)) queue_below w.apart queue_node

  -- a class has only nodes where it has one
  pub up_node : {a r : ℕ} → Up par a r → 2 ≤ get_or ks a 0 → 2 ≤ get_or ks r 0
  up_node here h = h
  up_node (climb {a} {b} e p) h = up_node p (w.nodes a b e).1

  module _ (x y : ℕ) (inside : x < length ks) (root : get_or par x 0 ≡ 0) (lower : y < x) (kx : 2 ≤ get_or ks x 0) (ky : 2 ≤ get_or ks y 0) where
    fresh : (i : ℕ) → i < top → low_half (get_or queue i 0) ≡ x → ⊥
    fresh i h e = omega (arith, (w.listed i h).1, ap (λ (z : ℕ). get_or par z 0) e)

    -- the queue has room for one more
    pub top_less : top < begins ks
    top_less = begins_more ks top (λ i. low_half (get_or queue i 0)) x queue_below w.apart queue_node inside (omega arith) fresh

    par' : List ℕ
    par' = set par x (y + 1)

    queue' : List ℕ
    queue' = set queue top (x + 65536 * y)

    par_at : get_or par' x 0 ≡ y + 1
    unfolding par'
    par_at = get_or-set_same par x (y + 1) 0 (omega (arith, w.size))

    par_else : (z : ℕ) → (z ≡ x → ⊥) → get_or par' z 0 ≡ get_or par z 0
    unfolding par'
    par_else z h = get_or-set_other par x z (y + 1) 0 h

    queue_at : get_or queue' top 0 ≡ x + 65536 * y
    unfolding queue'
    queue_at = get_or-set_same queue top (x + 65536 * y) 0 (omega (arith, top_less, w.room))

    low_at : low_half (x + 65536 * y) ≡ x
    low_at = omega (arith, w.small)

    high_at : high_half (x + 65536 * y) ≡ y
    high_at = omega (arith, w.small)

    queue_else : (i : ℕ) → (i ≡ top → ⊥) → get_or queue' i 0 ≡ get_or queue i 0
    unfolding queue'
    queue_else i h = get_or-set_other queue top i (x + 65536 * y) 0 h

    queue_front : (i : ℕ) → i < top → get_or queue' i 0 ≡ get_or queue i 0
    queue_front i h = queue_else i (λ e. omega arith)

    falls' : (z : ℕ) → Dec (z ≡ x) → get_or par' z 0 ≤ z
    falls' z (yes e) = rw e (omega (arith, par_at))
    falls' z (no e) = omega (arith, par_else z e, w.falls z)

    nodes' : (z u : ℕ) → Dec (z ≡ x) → get_or par' z 0 ≡ u + 1 → (2 ≤ get_or ks z 0) × (2 ≤ get_or ks u 0)
    nodes' z u (yes e) h =
        let q : u ≡ y = omega (arith, par_at, ap (λ (v : ℕ). get_or par' v 0) e) in
        rw (e, q) (kx, ky)
    nodes' z u (no e) h = w.nodes z u (sym (par_else z e) ∙ h)

    listed' : (i : ℕ) → i < top + 1 → Dec (i ≡ top)
        → (low_half (get_or queue' i 0) < length par') × (get_or par' (low_half (get_or queue' i 0)) 0 ≡ high_half (get_or queue' i 0) + 1)
    unfolding par'
    listed' i h (yes e) = rw (e, queue_at, low_at, high_at) (omega (arith, length-set par x (y + 1), w.size), par_at)
    listed' i h (no e) =
        let k : i < top = omega arith in
        rw (queue_front i k) (omega (arith, (w.listed i k).0, length-set par x (y + 1)), par_else (low_half (get_or queue i 0)) (fresh i k) ∙ (w.listed i k).1)

    apart' : (i j : ℕ) → i < j → j < top + 1 → Dec (j ≡ top) → low_half (get_or queue' i 0) ≡ low_half (get_or queue' j 0) → ⊥
    apart' i j h k (yes e) q =
        fresh i (omega arith) (ap low_half (sym (queue_front i (omega arith))) ∙ q ∙ ap (λ (z : ℕ). low_half (get_or queue' z 0)) e ∙ ap low_half queue_at ∙ low_at)
    apart' i j h k (no e) q =
        w.apart i j h (omega arith) (ap low_half (sym (queue_front i (omega arith))) ∙ q ∙ ap low_half (queue_front j (omega arith)))

    cover' : (z : ℕ) → Dec (z ≡ x) → 0 < get_or par' z 0 → (i : ℕ) × (i < top + 1) × (low_half (get_or queue' i 0) ≡ z)
    cover' z (yes e) h = (top, omega arith, ap low_half queue_at ∙ low_at ∙ sym e)
    cover' z (no e) h =
        let q = w.cover z (omega (arith, par_else z e)) in
        (q.0, omega (arith, q.1), ap low_half (queue_front q.0 q.1) ∙ q.2)

    pub advanced_link : Advanced ks par queue top (set par x (y + 1)) (set queue top (x + 65536 * y)) (top + 1)
    unfolding par' queue'
    advanced_link = record {
      wired = record {
        size = omega (arith, length-set par x (y + 1), w.size);
        small = w.small;
        room = omega (arith, w.room, length-set queue top (x + 65536 * y));
        falls = λ z. falls' z (ℕ_discrete z x);
        nodes = λ z u. nodes' z u (ℕ_discrete z x);
        listed = λ i h. listed' i h (ℕ_discrete i top);
        apart = λ i j h k. apart' i j h k (ℕ_discrete j top);
        cover = λ z h. cover' z (ℕ_discrete z x) h;
        blank = λ i h. queue_else i (λ e. omega arith) ∙ w.blank i (omega arith);
      };
      keeps = λ z u e. par_else z (λ q. omega (arith, ap (λ (v : ℕ). get_or par v 0) q)) ∙ e;
      more = omega arith;
      front = queue_front;
    }

pub advanced_on : {ks p q p' q' p'' q'' : List ℕ} {t t' t'' : ℕ} → Advanced ks p q t p' q' t' → Advanced ks p' q' t' p'' q'' t'' → Advanced ks p q t p'' q'' t''
advanced_on m w = record {
  wired = w.wired;
  keeps = λ x y e. w.keeps x y (m.keeps x y e);
  more = omega (arith, m.more, w.more);
  front = λ i h. w.front i (omega (arith, m.more)) ∙ m.front i h;
}

-- ---- going up

pub up_snoc : (par : List ℕ) {a r : ℕ} (b : ℕ) → Up par a r → get_or par r 0 ≡ b + 1 → Up par a b
up_snoc par b here e = climb e here
up_snoc par b (climb f p) e = climb f (up_snoc par b p e)

module _ (par par' : List ℕ) (g : Keeps par par') where
  pub up_keeps : {a r : ℕ} → Up par a r → Up par' a r
  up_keeps here = here
  up_keeps (climb {a} {b} e p) = climb (g a b e) (up_keeps p)

  pub linked_keeps : (ks vs : List ℕ) (τ : Term → Term) (t u : Term) → Linked ks vs τ par t u → Linked ks vs τ par' t u
  linked_keeps ks vs τ t u (same_var v e f) = same_var v e f
  linked_keeps ks vs τ t u (same_code c e f) = same_code c e f
  linked_keeps ks vs τ t u (same_class a b r ha hb pa pb) = same_class a b r ha hb (up_keeps pa) (up_keeps pb)

  pub rows_keeps : (ks vs : List ℕ) (τ : Term → Term) (ps qs : Parts) → Pairwise (Linked ks vs τ par) ps qs → Pairwise (Linked ks vs τ par') ps qs
  rows_keeps ks vs τ ps qs h = rows_map (Linked ks vs τ par) (Linked ks vs τ par') (linked_keeps ks vs τ) ps qs h

  pub matched_keeps : (ks vs : List ℕ) (τ : Term → Term) (x y : ℕ) → Matched ks vs τ par x y → Matched ks vs τ par' x y
  matched_keeps ks vs τ x y d = record { edge = d.edge; rows = rows_keeps ks vs τ d.edge.left d.edge.right d.rows }

-- ---- what a token says of a held term

pub as_var : (ks vs : List ℕ) (p : ℕ) (t : Term) → Held ks vs p t → get_or ks p 0 < 2 → t ≡ var (get_or vs p 0)
unfolding head_kind head_value
as_var ks vs p (var v) h e = ap var (sym (held_first ks vs p (var v) h).1)
as_var ks vs p (node k ps) h e = absurd (omega (arith, (held_first ks vs p (node k ps) h).0))

pub as_node : (ks vs : List ℕ) (p : ℕ) (t : Term) → Held ks vs p t → 2 ≤ get_or ks p 0 → (k : ℕ) × (ps : Parts) × (t ≡ node k ps) × (get_or ks p 0 ≡ suc (suc k))
unfolding head_kind
as_node ks vs p (var v) h e = absurd (omega (arith, (held_first ks vs p (var v) h).0))
as_node ks vs p (node k ps) h e = (k, ps, refl, (held_first ks vs p (node k ps) h).0)

module _ (ks vs par : List ℕ) (fair : Fair ks vs par) where
  -- the tag is the same all the way up
  up_tag : {a r : ℕ} → Up par a r → (k : ℕ) (ps : Parts) → Held ks vs a (node k ps) → (qs : Parts) × Held ks vs r (node k qs)
  up_tag here k ps h = (ps, h)
  up_tag (climb {a} {b} e p) k ps h =
      let g = fair a b e in
      let q = held_same ks vs a (node k ps) (node g.tag g.left) h g.at_left in
      let z : g.tag ≡ k = cc in
      up_tag p k g.right (rw z at g.at_right)

  up_same : (σ : ℕ → Term) → Honest ks vs σ par → {a r : ℕ} → Up par a r → (t u : Term) → Held ks vs a t → Held ks vs r u → Coincide σ t u
  up_same σ ho here t u h g = ap (replace σ) (held_same ks vs _ t u h g)
  up_same σ ho (climb {a} {b} e p) t u h g =
      let f = fair a b e in
      ho a b t (node f.tag f.right) e h f.at_right ∙ up_same σ ho p (node f.tag f.right) u f.at_right g

-- ---- the outcomes of a join

module _ (σ : ℕ → Term) (τ : Term → Term) (s : Standing σ τ) where
  -- heads that stand for the same have the same first token, but for the span
  alike : (t u : Term) → ((v : ℕ) → t ≡ var v → σ v ≡ var v) → ((v : ℕ) → u ≡ var v → σ v ≡ var v) → Coincide σ t u → (head_kind t ≡ head_kind u) × (head_kind t < 2 → head_value t ≡ head_value u)
  unfolding head_kind head_value replace
  alike (var v) (var w) p q e = let z : var v ≡ var w = sym (p v refl) ∙ e ∙ q w refl in (refl, λ _. cc)
  alike (var v) (node j qs) p q e =
      let f = p v refl in
      absurd (let z : ◌≡◌ {A = ℕ} 0 1 = cc in omega arith)
  alike (node k ps) (var w) p q e =
      let f = q w refl in
      absurd (let z : ◌≡◌ {A = ℕ} 0 1 = cc in omega arith)
  alike (node k ps) (node j qs) p q e = let z : k ≡ j = cc in (ap (λ (x : ℕ). suc (suc x)) z, λ h. absurd (omega arith))

  tops_same : (t u : Term) → Coincide σ t u → replace σ (τ t) ≡ replace σ (τ u)
  tops_same t u e = s.tops t ∙ e ∙ sym (s.tops u)

  -- a top that comes to a builtin is that builtin
  to_builtin : (c : ℕ) (w : Term) → ((v : ℕ) → w ≡ var v → σ v ≡ var v) → replace σ w ≡ builtin c → w ≡ builtin c
  unfolding replace
  to_builtin c (var v) p e = let f = p v refl in absurd (let z : ◌≡◌ {A = ℕ} 0 1 = cc in omega arith)
  to_builtin c (node k end) p e = absurd (let z : ◌≡◌ {A = ℕ} 0 1 = cc in omega arith)
  to_builtin c (node k (num d end)) p e = e
  to_builtin c (node k (num d (num f ps))) p e = absurd (let z : ◌≡◌ {A = ℕ} 0 1 = cc in omega arith)
  to_builtin c (node k (num d (sub w ps))) p e = absurd (let z : ◌≡◌ {A = ℕ} 0 1 = cc in omega arith)
  to_builtin c (node k (sub w ps)) p e = absurd (let z : ◌≡◌ {A = ℕ} 0 1 = cc in omega arith)

  builtin_stays : (c : ℕ) → replace σ (builtin c) ≡ builtin c
  unfolding replace
  builtin_stays c = refl

  -- one of the tops is a builtin: they are one where the other is it, too
  module _ (ks vs par : List ℕ) (fair : Fair ks vs par) (t u : Term) (c : ℕ) (equal : Bool) where
    pub told_code_right : τ u ≡ builtin c → (equal ≡ true → τ t ≡ builtin c) → (τ t ≡ builtin c → equal ≡ true)
        → Outcome ks vs σ par par equal (Linked ks vs τ par t u) (Coincide σ t u)
    told_code_right is on off = record {
      fair = fair;
      yes = λ e. same_code c (on e) is;
      honest = λ ho e. (off (to_builtin c (τ t) (s.plain t) (tops_same t u e ∙ ap (replace σ) is ∙ builtin_stays c)), ho);
    }

    pub told_code_left : τ t ≡ builtin c → (equal ≡ true → τ u ≡ builtin c) → (τ u ≡ builtin c → equal ≡ true)
        → Outcome ks vs σ par par equal (Linked ks vs τ par t u) (Coincide σ t u)
    told_code_left is on off = record {
      fair = fair;
      yes = λ e. same_code c is (on e);
      honest = λ ho e. (off (to_builtin c (τ u) (s.plain u) (sym (tops_same t u e) ∙ ap (replace σ) is ∙ builtin_stays c)), ho);
    }

  module _ (ks vs par : List ℕ) (fair : Fair ks vs par) (t u : Term) (a b : ℕ) (ha : Held ks vs a (τ t)) (hb : Held ks vs b (τ u)) where
    heads_same : Coincide σ t u → replace σ (τ t) ≡ replace σ (τ u)
    heads_same e = tops_same t u e

    alike_at : Coincide σ t u → (get_or ks a 0 ≡ get_or ks b 0) × (get_or ks a 0 < 2 → get_or vs a 0 ≡ get_or vs b 0)
    alike_at e =
        let f = held_first ks vs a (τ t) ha in
        let g = held_first ks vs b (τ u) hb in
        let l = alike (τ t) (τ u) (s.plain t) (s.plain u) (heads_same e) in
        (f.0 ∙ l.0 ∙ sym g.0, λ h. f.1 ∙ l.1 (omega (arith, f.0)) ∙ sym g.1)

    abbrev Says : List ℕ → Bool → Type 0
    Says par' same = Outcome ks vs σ par par' same (Linked ks vs τ par' t u) (Coincide σ t u)

    pub told_kinds : (get_or ks a 0 ≡ get_or ks b 0 → ⊥) → Says par false
    told_kinds h = record { fair = fair; yes = never_true; honest = λ ho e. absurd (h (alike_at e).0) }

    pub told_apart : get_or ks a 0 < 2 → (get_or vs a 0 ≡ get_or vs b 0 → ⊥) → Says par false
    told_apart k h = record { fair = fair; yes = never_true; honest = λ ho e. absurd (h ((alike_at e).1 k)) }

    pub told_var : get_or ks a 0 < 2 → get_or ks a 0 ≡ get_or ks b 0 → get_or vs a 0 ≡ get_or vs b 0 → Says par true
    told_var k l h = record {
      fair = fair;
      yes = λ _. same_var (get_or vs a 0) (as_var ks vs a (τ t) ha k) (as_var ks vs b (τ u) hb (omega arith) ∙ ap var (sym h));
      honest = λ ho e. (refl, ho);
    }

    pub told_values : get_or ks a 0 < 2 → get_or ks a 0 ≡ get_or ks b 0 → Says par (eqb (get_or vs a 0) (get_or vs b 0))
    told_values k l = go (ℕ_discrete (get_or vs a 0) (get_or vs b 0))
      where
        go : Dec (get_or vs a 0 ≡ get_or vs b 0) → Says par (eqb (get_or vs a 0) (get_or vs b 0))
        go (yes h) = rw (eq-eqb _ _ h) (told_var k l h)
        go (no h) = rw (ne_eqb _ _ h) (told_apart k h)

    module _ (p q : ℕ) (pa : Up par a p) (qb : Up par b q) where
      pub told_class : p ≡ q → Says par true
      told_class e = record {
        fair = fair;
        yes = λ _. same_class a b q ha hb (rw e at pa) qb;
        honest = λ ho f. (refl, ho);
      }

      module _ (k : 2 ≤ get_or ks a 0) (l : get_or ks a 0 ≡ get_or ks b 0) where
        roots : Edge ks vs p q
        roots =
            let x = as_node ks vs a (τ t) ha k in
            let y = as_node ks vs b (τ u) hb (omega arith) in
            let z : y.0 ≡ x.0 = omega (arith, x.3, y.3) in
            let i = up_tag ks vs par fair pa x.0 x.1 (rw x.2 at ha) in
            let j = up_tag ks vs par fair qb x.0 y.1 (rw (y.2, z) at hb) in
            record { tag = x.0; left = i.0; right = j.0; at_left = i.1; at_right = j.1 }

        roots_same : Honest ks vs σ par → Coincide σ t u → (x y : Term) → Held ks vs p x → Held ks vs q y → Coincide σ x y
        roots_same ho e x y hx hy =
            sym (up_same ks vs par fair σ ho pa (τ t) x ha hx) ∙ heads_same e ∙ up_same ks vs par fair σ ho qb (τ u) y hb hy

turn_edge : (ks vs : List ℕ) (x y : ℕ) → Edge ks vs x y → Edge ks vs y x
turn_edge ks vs x y e = record { tag = e.tag; left = e.right; right = e.left; at_left = e.at_right; at_right = e.at_left }

-- x has been linked below y
module _ (ks vs : List ℕ) (σ : ℕ → Term) (par : List ℕ) (x y : ℕ) (inside : x < length par) (root : get_or par x 0 ≡ 0) where
  hang_cell : (z w : ℕ) → Dec (z ≡ x) → get_or (set par x (y + 1)) z 0 ≡ w + 1 → ((z ≡ x) × (w ≡ y)) ⊎ (get_or par z 0 ≡ w + 1)
  hang_cell z w (yes e) h = inl (e, omega (arith, get_or-set_same par x (y + 1) 0 inside, ap (λ (v : ℕ). get_or (set par x (y + 1)) v 0) e))
  hang_cell z w (no e) h = inr (sym (get_or-set_other par x z (y + 1) 0 e) ∙ h)

  hang_fair : Fair ks vs par → Edge ks vs x y → Fair ks vs (set par x (y + 1))
  hang_fair f e z w h = go (hang_cell z w (ℕ_discrete z x) h)
    where
      go : ((z ≡ x) × (w ≡ y)) ⊎ (get_or par z 0 ≡ w + 1) → Edge ks vs z w
      go (inl q) = rw (q.0, q.1) e
      go (inr q) = f z w q

  hang_honest : Honest ks vs σ par → ((t u : Term) → Held ks vs x t → Held ks vs y u → Coincide σ t u) → Honest ks vs σ (set par x (y + 1))
  hang_honest ho e z w t u h = go (hang_cell z w (ℕ_discrete z x) h)
    where
      go : ((z ≡ x) × (w ≡ y)) ⊎ (get_or par z 0 ≡ w + 1) → Held ks vs z t → Held ks vs w u → Coincide σ t u
      go (inl q) a b = e t u (rw q.0 at a) (rw q.1 at b)
      go (inr q) a b = ho z w t u q a b

  hang_keeps : Keeps par (set par x (y + 1))
  hang_keeps z w e = get_or-set_other par x z (y + 1) 0 (λ q. omega (arith, ap (λ (v : ℕ). get_or par v 0) q)) ∙ e

module _ (σ : ℕ → Term) (τ : Term → Term) (s : Standing σ τ) (ks vs par : List ℕ) (fair : Fair ks vs par) (t u : Term) (a b : ℕ) (ha : Held ks vs a (τ t)) (hb : Held ks vs b (τ u))
    (p q : ℕ) (pa : Up par a p) (qb : Up par b q) (k : 2 ≤ get_or ks a 0) (l : get_or ks a 0 ≡ get_or ks b 0) where
  -- the class of t has been linked below that of u, or the other way round
  pub told_left : p < length par → get_or par p 0 ≡ 0
      → Outcome ks vs σ par (set par p (q + 1)) true (Linked ks vs τ (set par p (q + 1)) t u) (Coincide σ t u)
  told_left i r =
      let g = hang_keeps ks vs σ par p q i r in record {
        fair = hang_fair ks vs σ par p q i r fair (roots σ τ s ks vs par fair t u a b ha hb p q pa qb k l);
        yes = λ _. same_class a b q ha hb (up_snoc (set par p (q + 1)) q (up_keeps par (set par p (q + 1)) g pa) (get_or-set_same par p (q + 1) 0 i)) (up_keeps par (set par p (q + 1)) g qb);
        honest = λ ho e. (refl, hang_honest ks vs σ par p q i r ho (roots_same σ τ s ks vs par fair t u a b ha hb p q pa qb k l ho e));
      }

  pub told_right : q < length par → get_or par q 0 ≡ 0
      → Outcome ks vs σ par (set par q (p + 1)) true (Linked ks vs τ (set par q (p + 1)) t u) (Coincide σ t u)
  told_right i r =
      let g = hang_keeps ks vs σ par q p i r in record {
        fair = hang_fair ks vs σ par q p i r fair (turn_edge ks vs p q (roots σ τ s ks vs par fair t u a b ha hb p q pa qb k l));
        yes = λ _. same_class a b p ha hb (up_keeps par (set par q (p + 1)) g pa) (up_snoc (set par q (p + 1)) p (up_keeps par (set par q (p + 1)) g qb) (get_or-set_same par q (p + 1) 0 i));
        honest = λ ho e. (refl, hang_honest ks vs σ par q p i r ho (λ x y hx hy. sym (roots_same σ τ s ks vs par fair t u a b ha hb p q pa qb k l ho e y x hy hx)));
      }

-- ---- clearing: the places that are still linked are listed below k

pub clear_start : (ks par queue : List ℕ) (top : ℕ) → Wired ks par queue top → Unlinking par queue top
clear_start ks par queue top w = record {
  fits = omega (arith, top_below ks par queue top w, w.room);
  inside = λ i h. (w.listed i h).0;
  hung = w.cover;
  gone = w.blank;
}

-- the last entry of a queue is set to 0
module _ (queue : List ℕ) (k : ℕ) (fits : k ≤ length queue) (some : 0 < k) where
  entry_else : (i : ℕ) → (i ≡ k - 1 → ⊥) → get_or (set queue (k - 1) 0) i 0 ≡ get_or queue i 0
  entry_else i q = get_or-set_other queue (k - 1) i 0 0 q

  entry_gone : ((i : ℕ) → k ≤ i → get_or queue i 0 ≡ 0) → (i : ℕ) → k - 1 ≤ i → get_or (set queue (k - 1) 0) i 0 ≡ 0
  entry_gone g i h = go (ℕ_discrete i (k - 1))
    where
      go : Dec (i ≡ k - 1) → get_or (set queue (k - 1) 0) i 0 ≡ 0
      go (yes q) = ap (λ (v : ℕ). get_or (set queue (k - 1) 0) v 0) q ∙ get_or-set_same queue (k - 1) 0 0 (omega arith)
      go (no q) = entry_else i q ∙ g i (omega arith)

  -- a number that is listed, and not by the last entry
  entry_left : (f : ℕ → ℕ) (z : ℕ) → (f (get_or queue (k - 1) 0) ≡ z → ⊥) → (i : ℕ) × (i < k) × (f (get_or queue i 0) ≡ z)
      → (i : ℕ) × (i < k - 1) × (f (get_or (set queue (k - 1) 0) i 0) ≡ z)
  entry_left f z other h =
      let n : h.0 ≡ k - 1 → ⊥ = λ y. other (ap (λ (v : ℕ). f (get_or queue v 0)) (sym y) ∙ h.2) in
      (h.0, before h.0 h.1 n, ap f (entry_else h.0 n) ∙ h.2)
    where
      before : (a : ℕ) → a < k → (a ≡ k - 1 → ⊥) → a < k - 1
      before a p r = omega arith

pub clear_step : (par queue : List ℕ) (k x : ℕ) → Clearing par queue k → 0 < k → x ≡ get_or queue (k - 1) 0 → Clearing (set par x 0) (set queue (k - 1) 0) (k - 1)
clear_step par queue k x w h e = record {
  fits = omega (arith, w.fits, length-set queue (k - 1) 0);
  inside = λ i q. omega (arith, w.inside i (omega arith), entry_else queue k w.fits h i (λ z. omega arith), length-set par x 0);
  hung = λ z q. hung' z (ℕ_discrete z x) q;
  gone = entry_gone queue k w.fits h w.gone;
}
  where
    hung' : (z : ℕ) → Dec (z ≡ x) → 0 < get_or (set par x 0) z 0 → (i : ℕ) × (i < k - 1) × (get_or (set queue (k - 1) 0) i 0 ≡ z)
    hung' z (yes q) g = absurd (omega (arith, ap (λ (v : ℕ). get_or (set par x 0) v 0) q, get_or-set_same par x 0 0 (omega (arith, w.inside (k - 1) (omega arith)))))
    hung' z (no q) g =
        entry_left queue k w.fits h (λ y. y) z (λ y. q (sym y ∙ sym e)) (w.hung z (omega (arith, get_or-set_other par x z 0 0 q)))

-- the word of the half x is cleared
pub clear_word : (words queue : List ℕ) (k x : ℕ) → Unlinking (halves words) queue k → 0 < k → x ≡ low_half (get_or queue (k - 1) 0)
    → Unlinking (halves (set words (x / 2) 0)) (set queue (k - 1) 0) (k - 1)
clear_word words queue k x w h e = record {
  fits = omega (arith, w.fits, length-set queue (k - 1) 0);
  inside = λ i q. rw (entry_else queue k w.fits h i (λ z. omega arith)) (omega (arith, w.inside i (omega arith), size));
  hung = λ z q. hung' z (ℕ_discrete (z / 2) (x / 2)) q;
  gone = entry_gone queue k w.fits h w.gone;
}
  where
    size : length (halves (set words (x / 2) 0)) ≡ length (halves words)
    size = omega (arith, halves_length words, halves_length (set words (x / 2) 0), length-set words (x / 2) 0)

    inside' : x / 2 < length words
    inside' = half_inside words x (rw e (w.inside (k - 1) (omega arith)))

    hung' : (z : ℕ) → Dec (z / 2 ≡ x / 2) → 0 < get_or (halves (set words (x / 2) 0)) z 0 → (i : ℕ) × (i < k - 1) × (low_half (get_or (set queue (k - 1) 0) i 0) ≡ z)
    hung' z (yes q) g = absurd (omega (arith, word_gone words (x / 2) z q inside'))
    hung' z (no q) g =
        entry_left queue k w.fits h low_half z (λ y. q (ap (λ (v : ℕ). v / 2) (sym y ∙ sym e))) (w.hung z (omega (arith, word_else words (x / 2) z q 0)))

pub clear_end : (par queue : List ℕ) → Clearing par queue 0 → Zero par × Zero queue
clear_end par queue w = (λ i. none i (get_or par i 0) refl, λ i. w.gone i (omega arith))
  where
    none : (i n : ℕ) → get_or par i 0 ≡ n → get_or par i 0 ≡ 0
    none i zero e = e
    none i (suc n) e = let h = w.hung i (omega arith) in absurd (omega (arith, h.1))

pub unlink_end : (par queue : List ℕ) → Unlinking par queue 0 → Zero par × Zero queue
unlink_end par queue w = (λ i. none i (get_or par i 0) refl, λ i. w.gone i (omega arith))
  where
    none : (i n : ℕ) → get_or par i 0 ≡ n → get_or par i 0 ≡ 0
    none i zero e = e
    none i (suc n) e = let h = w.hung i (omega arith) in absurd (omega (arith, h.1))
