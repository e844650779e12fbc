-- The pending pairs of `constrain` have different places on their left: each pending group is the rest of the children of a node, and the
-- node of a later group is strictly inside the node of an earlier one. So there are never more pending pairs than tokens begin a term.
use mathlib.Core.List.{List}
use mathlib.Core.Logic.{◌⊎◌, inl, inr}
use mathlib.Core.Option.{Option}
use mathlib.Core.Path.{◌≡◌, refl, sym, ap, ◌∙◌}
use Prim.Native.Nat.{ℕ, suc, ◌+◌, ◌-◌, ◌≤◌, ◌<◌}
use native.Mathlib.Decide.{dec_lt}
use native.Mathlib.Omega.{arith}
use lib.ListN.{length, get_or}
use Rattle.terms.specs.Term.{Term, Parts, node, Held}
use Rattle.terms.proofs.Laws.Held.HeldLaws.{kind_some, items_some, held_first}
use Rattle.solver.specs.Constrain.{follow}
use Rattle.solver.specs.Words.ReachContract.{Steady}
use Rattle.solver.specs.Words.SessionRepresentation.{begins}
use Rattle.solver.specs.Words.PendingContract.{places}
use Rattle.solver.proofs.Laws.Equality.Pigeonhole.{pigeon_begins}
use Rattle.solver.proofs.Laws.Equality.ClassesCoincide.{held_same}
use Rattle.solver.proofs.Laws.Checks.StrictSubterm.{Below, below_trans, below_extends, below_never, below_top, Extends}
use Rattle.solver.proofs.Laws.Checks.TokenNesting.{Kid, one_owner, places_rise, kids}
use Rattle.solver.proofs.Laws.Checks.RotateLaws.{Drawn}

-- a term begins with a token that begins one
pub term_begins : (ks vs : List ℕ) (p : ℕ) (t : Term) → Held ks vs p t → (p < length ks) × (1 ≤ get_or ks p 0)
term_begins ks vs p t h = (omega (arith, h.within, items_some t), omega (arith, (held_first ks vs p t h).0, kind_some t))

module _ (ks vs : List ℕ) where
  -- the node at d is strictly inside the node at a
  abbrev pub Under : (ℕ → Option Term) → ℕ → ℕ → Type 0
  Under b d a = (t u : Term) → Held ks vs a t → Held ks vs d u → Below b u t

  -- n pending pairs with f i on the left of pair i, the last to be taken first: f i begins a child of the node at own i; a later pair has
  -- another child of the same node, or a child of a node strictly inside
  pub record Stacked (b : ℕ → Option Term) (f : ℕ → ℕ) (n : ℕ) : Type 0 where
    pub own : ℕ → ℕ
    pub owned : (i : ℕ) → i < n → Kid ks vs (own i) (f i)
    pub order : (i j : ℕ) → i < j → j < n → ((own i ≡ own j) × (f i ≡ f j → ⊥)) ⊎ Under b (own j) (own i)

  pub stacked_none : (b : ℕ → Option Term) (f : ℕ → ℕ) → Stacked b f 0
  stacked_none b f = record { own = λ i. i; owned = λ i h. absurd (omega arith); order = λ i j h k. absurd (omega arith) }

  -- THE BOUND
  module _ (b : ℕ → Option Term) (f : ℕ → ℕ) (n m : ℕ) (g : Steady m b) (w : Stacked b f n) where
    lefts_apart : (i j : ℕ) → i < j → j < n → f i ≡ f j → ⊥
    lefts_apart i j h k e = go (w.order i j h k)
      where
        same : w.own i ≡ w.own j
        same = one_owner ks vs (w.own i) (w.own j) (f j) (rw e at (w.owned i (omega arith)).child) (w.owned j k).child

        go : ((w.own i ≡ w.own j) × (f i ≡ f j → ⊥)) ⊎ Under b (w.own j) (w.own i) → ⊥
        go (inl q) = q.1 e
        go (inr q) =
            let t = node (w.owned j k).tag (w.owned j k).row in
            below_never b m g t (q t t (rw same (w.owned j k).owner) (w.owned j k).owner)

    pub stacked_bound : n ≤ begins ks
    stacked_bound = pigeon_begins ks n f (λ i h. (begun i h).0) lefts_apart (λ i h. (begun i h).1)
      where
        begun : (i : ℕ) → i < n → (f i < length ks) × (1 ≤ get_or ks (f i) 0)
        begun i h = let k = w.owned i h in term_begins ks vs (f i) k.part k.held

  -- ---- the moves

  -- only the places below n count
  pub stacked_agree : (b : ℕ → Option Term) (f g : ℕ → ℕ) (n : ℕ) → ((i : ℕ) → i < n → g i ≡ f i) → Stacked b f n → Stacked b g n
  stacked_agree b f g n e w = record {
    own = w.own;
    owned = λ i h. rw (e i h) (w.owned i h);
    order = λ i j h k. rw (e i (omega arith), e j k) (w.order i j h k);
  }

  -- pairs are taken off
  unfoldable pub stacked_pop : (b : ℕ → Option Term) (f : ℕ → ℕ) (n m : ℕ) → m ≤ n → Stacked b f n → Stacked b f m
  stacked_pop b f n m l w = record { own = w.own; owned = λ i h. w.owned i (omega arith); order = λ i j h k. w.order i j h (omega arith) }

  -- bindings grow
  pub stacked_extends : (b b' : ℕ → Option Term) (f : ℕ → ℕ) (n : ℕ) → Extends b b' → Stacked b f n → Stacked b' f n
  stacked_extends b b' f n x w = record { own = w.own; owned = w.owned; order = λ i j h k. go (w.own i) (w.own j) (f i) (f j) (w.order i j h k) }
    where
      go : (a d p q : ℕ) → ((a ≡ d) × (p ≡ q → ⊥)) ⊎ Under b d a → ((a ≡ d) × (p ≡ q → ⊥)) ⊎ Under b' d a
      go a d p q (inl y) = inl y
      go a d p q (inr y) = inr (λ t u ht hu. below_extends b b' x u (y t u ht hu))

  -- the children of the node at a, in another order
  module _ (a k : ℕ) (row : Parts) (held : Held ks vs a (node k row)) (new : List ℕ) (d : Drawn (places (a + 1) row) new) where
    drawn_kid : (j : ℕ) → j < length new → Kid ks vs a (get_or new j 0)
    drawn_kid j h =
        let l : j < length (places (a + 1) row) = omega (arith, d.size) in
        rw (d.is j l) (kids ks vs a k row held (d.from j) (d.low j l))

    rises : (i j : ℕ) → i < length (places (a + 1) row) → j < length (places (a + 1) row) → (i ≡ j → ⊥) → get_or (places (a + 1) row) i 0 ≡ get_or (places (a + 1) row) j 0 → ⊥
    rises i j hi hj n e = go (dec_lt i j)
      where
        go : Dec (i < j) → ⊥
        go (yes l) = omega (arith, places_rise (a + 1) row i j l hj)
        go (no l) = omega (arith, places_rise (a + 1) row j i (omega arith) hi)

    drawn_apart : (i j : ℕ) → i < j → j < length new → get_or new i 0 ≡ get_or new j 0 → ⊥
    drawn_apart i j h g e =
        let lj : j < length (places (a + 1) row) = omega (arith, d.size) in
        let li : i < length (places (a + 1) row) = omega arith in
        rises (d.from i) (d.from j) (d.low i li) (d.low j lj) (d.apart i j h lj) (sym (d.is i li) ∙ e ∙ d.is j lj)

    -- THE FIRST TURN: the pair that `constrain` was given is taken off, and the children of the node at a are put on
    pub stacked_first : (b : ℕ → Option Term) (g : ℕ → ℕ) → ((j : ℕ) → j < length new → g j ≡ get_or new j 0) → Stacked b g (length new)
    stacked_first b g on = record {
      own = λ i. a;
      owned = λ i h. rw (on i h) (drawn_kid i h);
      order = λ i j h l. inl (refl, λ e. drawn_apart i j h l (sym (on i (omega arith)) ∙ e ∙ on j l));
    }

    -- a node's pairs are put on: the node is strictly inside the node of every pair that waits
    module _ (b : ℕ → Option Term) (f : ℕ → ℕ) (m : ℕ) (w : Stacked b f m) (under : (i : ℕ) → i < m → Under b a (w.own i)) where
      abbrev joint : (f g : ℕ → ℕ) (m i : ℕ) → Dec (i < m) → ℕ
      joint f g m i (yes h) = f i
      joint f g m i (no h) = g (i - m)

      own' : (i : ℕ) → Dec (i < m) → ℕ
      own' i d = joint w.own (λ _. a) m i d

      f' : (i : ℕ) → Dec (i < m) → ℕ
      f' i d = joint f (λ j. get_or new j 0) m i d

      kid' : (i : ℕ) (d : Dec (i < m)) → i < m + length new → Kid ks vs (own' i d) (f' i d)
      unfolding own' f'
      kid' i (yes h) l = w.owned i h
      kid' i (no h) l = drawn_kid (i - m) (omega arith)

      order' : (i j : ℕ) (p : Dec (i < m)) (q : Dec (j < m)) → i < j → j < m + length new
          → ((own' i p ≡ own' j q) × (f' i p ≡ f' j q → ⊥)) ⊎ Under b (own' j q) (own' i p)
      unfolding own' f'
      order' i j (yes p) (yes q) h l = w.order i j h q
      order' i j (yes p) (no q) h l = inr (under i p)
      order' i j (no p) (yes q) h l = absurd (p (omega arith))
      order' i j (no p) (no q) h l = inl (refl, drawn_apart (i - m) (j - m) (omega arith) (omega arith))

      -- the list after the push, as any g that has f below m and the new places from m on
      stacked_push : (g : ℕ → ℕ) → ((i : ℕ) → i < m → g i ≡ f i) → ((j : ℕ) → j < length new → g (m + j) ≡ get_or new j 0) → Stacked b g (m + length new)
      unfolding f'
      stacked_push g old on = stacked_agree b (λ i. f' i (dec_lt i m)) g (m + length new) (λ i h. agree i (dec_lt i m) h) (record {
        own = λ i. own' i (dec_lt i m);
        owned = λ i h. kid' i (dec_lt i m) h;
        order = λ i j h l. order' i j (dec_lt i m) (dec_lt j m) h l;
      })
        where
          agree : (i : ℕ) (d : Dec (i < m)) → i < m + length new → g i ≡ f' i d
          agree i (yes h) l = old i h
          agree i (no h) l =
              let e : m + (i - m) ≡ i = omega arith in
              ap g (sym e) ∙ on (i - m) (omega arith)

  -- the node that the last pair's left term stands for is strictly inside the node of every pair below it
  stacked_under : (b : ℕ → Option Term) (most : ℕ) (f : ℕ → ℕ) (m a : ℕ) (t : Term) (w : Stacked b f (suc m)) → Held ks vs (f m) t → Held ks vs a (follow most b t)
      → (i : ℕ) → i < m → Under b a (w.own i)
  stacked_under b most f m a t w ht ha i h x y hx hy = go (w.order i m h (omega arith))
    where
      last : Kid ks vs (w.own m) (f m)
      last = w.owned m (omega arith)

      step : Below b y (node last.tag last.row)
      step =
          let e : y ≡ follow most b last.part = held_same ks vs a y (follow most b t) hy ha ∙ ap (follow most b) (held_same ks vs (f m) t last.part ht last.held) in
          rw e (below_top b most last.tag last.row last.part last.has)

      go : ((w.own i ≡ w.own m) × (f i ≡ f m → ⊥)) ⊎ Under b (w.own m) (w.own i) → Below b y x
      go (inl q) =
          let e : x ≡ node last.tag last.row = held_same ks vs (w.own i) x (node last.tag last.row) hx (rw q.0 last.owner) in
          rw e step
      go (inr q) = below_trans b y (node last.tag last.row) step (q x (node last.tag last.row) hx last.owner)

  -- ONE TURN: the last pair is taken off, and the children of the node at a, which its left term stands for, are put on from m on
  pub stacked_expand : (a k : ℕ) (row : Parts) (new : List ℕ) → Drawn (places (a + 1) row) new → Held ks vs a (node k row)
      → (b : ℕ → Option Term) (most : ℕ) (f : ℕ → ℕ) (m : ℕ) (t : Term) → Stacked b f (suc m) → Held ks vs (f m) t → follow most b t ≡ node k row
      → (g : ℕ → ℕ) → ((i : ℕ) → i < m → g i ≡ f i) → ((j : ℕ) → j < length new → g (m + j) ≡ get_or new j 0) → Stacked b g (m + length new)
  unfolding stacked_pop
  stacked_expand a k row new d ha b most f m t w ht e g old on =
      stacked_push a k row ha new d b f m (stacked_pop b f (suc m) m (omega arith) w) (stacked_under b most f m a t w ht (rw e ha)) g old on
