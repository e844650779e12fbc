-- The pending pairs as `constrain` carries them from check to check.
use mathlib.Core.List.{List, [], ◌∷◌}
use mathlib.Core.Logic.{◌⊎◌, inl, inr, ⊎_elim}
use mathlib.Core.Option.{Option}
use mathlib.Core.Path.{◌≡◌, refl, sym, ap, subst, ◌∙◌}
use Prim.Native.Nat.{ℕ, zero, suc, ◌+◌, ◌-◌, ◌≤◌, ◌<◌}
use native.Mathlib.Decide.{dec_lt}
use native.Mathlib.Nat.{add-zero}
use native.Mathlib.Omega.{arith}
use lib.ListN.{length, get_or}
use Rattle.terms.specs.Term.{Term, Parts, node, Held}
use Rattle.terms.specs.Tree.{nums, row, tag, class, children, subs}
use Rattle.terms.proofs.Laws.Held.HeldLaws.{held_node}
use Rattle.solver.specs.Shapes.{pushed}
use Rattle.solver.specs.Constrain.{Pair, zip_on, follow}
use Rattle.solver.specs.Words.ReachContract.{Steady}
use Rattle.solver.specs.Words.SessionRepresentation.{begins}
use Rattle.solver.specs.Words.PendingContract.{left_of, right_of, HeldPairs, Laid, places, pushed_places, PushedPairs}
use Rattle.solver.proofs.Laws.Equality.Pigeonhole.{pigeon_begins}
use Rattle.solver.proofs.Laws.Checks.StrictSubterm.{Extends}
use Rattle.solver.proofs.Laws.Checks.RotateLaws.{Drawn, drawn_turned, turned_length, places_length, HeldAll, all_turned, all_row}
use Rattle.solver.proofs.Laws.Checks.PairWordLaws.{left_of_pair, right_of_pair}
use Rattle.solver.proofs.Laws.Checks.PendingLaws.{Stacked, stacked_none, stacked_first, stacked_expand, stacked_pop, stacked_extends, stacked_agree, stacked_bound, term_begins}

-- ---- pairs in words

-- the places of a pair that was put on are read off its word
module _ {ls rs : List ℕ} {count : ℕ} {st₀ st : List ℕ} {r : ℕ} (w : Laid ls rs count st₀ st r) where
  pub laid_left : (j : ℕ) → j < length ls → left_of (get_or st (count + j) 0) ≡ get_or ls j 0
  laid_left j h = ap left_of (w.words j h) ∙ left_of_pair (get_or ls j 0) (get_or rs j 0) (w.low j h)

  pub laid_right : (j : ℕ) → j < length ls → right_of (get_or st (count + j) 0) ≡ get_or rs j 0
  laid_right j h = ap right_of (w.words j h) ∙ right_of_pair (get_or ls j 0) (get_or rs j 0) (w.low j h)

-- only the words of the pairs count
pub pairs_agree : (ks vs st st' : List ℕ) (c : ℕ) (ps : List Pair) → ((i : ℕ) → i < c → get_or st' i 0 ≡ get_or st i 0) → HeldPairs ks vs st c ps → HeldPairs ks vs st' c ps
pairs_agree ks vs st st' zero [] e h = tt
pairs_agree ks vs st st' zero (p ∷ ps) e h = absurd h
pairs_agree ks vs st st' (suc c) [] e h = absurd h
pairs_agree ks vs st st' (suc c) (p ∷ ps) e h =
    (rw (e c (omega arith)) h.0, rw (e c (omega arith)) h.1, pairs_agree ks vs st st' c ps (λ i l. e i (omega arith)) h.2)

module _ (ks vs st : List ℕ) where
  -- the words of ls and rs, in pairs, stand from pair c on
  Puts : List ℕ → List ℕ → ℕ → Type 0
  Puts ls rs c = (j : ℕ) → j < length ls → (left_of (get_or st (c + j) 0) ≡ get_or ls j 0) × (right_of (get_or st (c + j) 0) ≡ get_or rs j 0)

  puts_next : (l r : ℕ) (ls rs : List ℕ) (c : ℕ) → Puts (l ∷ ls) (r ∷ rs) c → Puts ls rs (suc c)
  unfolding Puts
  puts_next l r ls rs c f j h =
      let e : suc c + j ≡ c + suc j = omega arith in
      let x = f (suc j) (omega arith) in
      (ap (λ (i : ℕ). left_of (get_or st i 0)) e ∙ x.0, ap (λ (i : ℕ). right_of (get_or st i 0)) e ∙ x.1)

  puts_first : (l r : ℕ) (ls rs : List ℕ) (c : ℕ) → Puts (l ∷ ls) (r ∷ rs) c → (left_of (get_or st c 0) ≡ l) × (right_of (get_or st c 0) ≡ r)
  unfolding Puts
  puts_first l r ls rs c f =
      let e : c ≡ c + 0 = omega arith in
      let x = f 0 (omega arith) in
      (ap (λ (i : ℕ). left_of (get_or st i 0)) e ∙ x.0, ap (λ (i : ℕ). right_of (get_or st i 0)) e ∙ x.1)

  held_zip : (ls rs : List ℕ) (ts us : List Term) (c : ℕ) (ps : List Pair) → HeldAll ks vs ls ts → HeldAll ks vs rs us → length ls ≡ length rs → Puts ls rs c
      → HeldPairs ks vs st c ps → HeldPairs ks vs st (c + length ls) (zip_on ts us ps)
  unfolding zip_on
  held_zip [] rs [] us c ps hl hr e f h = rw add-zero h
  held_zip [] rs (t ∷ ts) us c ps hl hr e f h = absurd hl
  held_zip (l ∷ ls) rs [] us c ps hl hr e f h = absurd hl
  held_zip (l ∷ ls) [] (t ∷ ts) us c ps hl hr e f h = absurd (omega arith)
  held_zip (l ∷ ls) (r ∷ rs) (t ∷ ts) [] c ps hl hr e f h = absurd hr
  held_zip (l ∷ ls) (r ∷ rs) (t ∷ ts) (u ∷ us) c ps hl hr e f h =
      let z : suc c + length ls ≡ c + suc (length ls) = omega arith in
      let x = puts_first l r ls rs c f in
      subst (λ (n : ℕ). HeldPairs ks vs st n (zip_on ts us ((t, u) ∷ ps))) z
      (held_zip ls rs ts us (suc c) ((t, u) ∷ ps) hl.1 hr.1 (omega arith) (puts_next l r ls rs c f) (rw x.0 hl.0, rw x.1 hr.0, h))

-- ---- the places of children

pub pushed_drawn : (a k : ℕ) (ps : Parts) → Drawn (places (a + 1) ps) (pushed_places a (node k ps))
unfolding row
pushed_drawn a k ps = drawn_turned (class (tag (node k ps))) (get_or (nums ps) 1 0) (places (a + 1) ps)

pub pushed_length : (a k : ℕ) (ps : Parts) → length (pushed_places a (node k ps)) ≡ length (children (node k ps))
unfolding row children
pushed_length a k ps = turned_length (class (tag (node k ps))) (get_or (nums ps) 1 0) (places (a + 1) ps) ∙ places_length (a + 1) ps

pub pushed_held : (ks vs : List ℕ) (a k : ℕ) (ps : Parts) → Held ks vs a (node k ps) → HeldAll ks vs (pushed_places a (node k ps)) (pushed (node k ps))
unfolding row children
pushed_held ks vs a k ps h = all_turned ks vs (class (tag (node k ps))) (get_or (nums ps) 1 0) (places (a + 1) ps) (subs ps) (all_row ks vs (a + 1) _ ps (held_node ks vs a k ps h))

-- what `push_children` leaves, from the places that it put on
module _ (ks vs : List ℕ) (a b k j : ℕ) (ps qs : Parts) (ha : Held ks vs a (node k ps)) (hb : Held ks vs b (node j qs)) (same : length (children (node k ps)) ≡ length (children (node j qs)))
    (count : ℕ) (st₀ st : List ℕ) (r : ℕ) (w : Laid (pushed_places a (node k ps)) (pushed_places b (node j qs)) count st₀ st r) where
  pub pushed_pairs : PushedPairs ks vs a b (node k ps) (node j qs) count st₀ st r
  unfolding Puts
  pushed_pairs = record {
    laid = w;
    size = omega (arith, w.size, pushed_length a k ps);
    pairs = λ l h. subst (λ (n : ℕ). HeldPairs ks vs st n (zip_on (pushed (node k ps)) (pushed (node j qs)) l)) (sym w.size)
        (held_zip ks vs st (pushed_places a (node k ps)) (pushed_places b (node j qs)) (pushed (node k ps)) (pushed (node j qs)) count l
        (pushed_held ks vs a k ps ha) (pushed_held ks vs b j qs hb) (omega (arith, pushed_length a k ps, pushed_length b j qs))
        (λ i g. (laid_left w i g, laid_right w i g)) (pairs_agree ks vs st₀ st count l w.below h));
  }

-- ---- what is carried

-- `count` pending pairs, ps, in the words st: the one that was given, or pairs whose left places differ
pub record Stack (ks vs : List ℕ) (b : ℕ → Option Term) (st : List ℕ) (count : ℕ) (ps : List Pair) : Type 0 where
  pub held : HeldPairs ks vs st count ps
  pub few : (count ≡ 1) ⊎ Stacked ks vs b (λ i. left_of (get_or st i 0)) count

module _ (ks vs : List ℕ) where
  -- the pair that is given
  pub stack_start : (b : ℕ → Option Term) (st : List ℕ) (t u : Term) → Held ks vs (left_of (get_or st 0 0)) t → Held ks vs (right_of (get_or st 0 0)) u → Stack ks vs b st 1 ((t, u) ∷ [])
  stack_start b st t u ht hu = record { held = (ht, hu, tt); few = inl refl }

  pub stack_empty : {b : ℕ → Option Term} {st : List ℕ} {ps : List Pair} → Stack ks vs b st 0 ps → ps ≡ []
  stack_empty {b} {st} {ps} s = go ps s.held
    where
      go : (l : List Pair) → HeldPairs ks vs st 0 l → l ≡ []
      go [] h = refl
      go (p ∷ l) h = absurd h

  -- some pair is the last
  pub stack_some : {b : ℕ → Option Term} {st : List ℕ} {count : ℕ} {ps : List Pair} → 0 < count → Stack ks vs b st count ps
      → (p : Pair) × (rest : List Pair) × (ps ≡ p ∷ rest) × Stack ks vs b st (suc (count - 1)) (p ∷ rest)
  stack_some {b} {st} {count} {ps} l s = go count ps l s
    where
      go : (c : ℕ) (qs : List Pair) → 0 < c → Stack ks vs b st c qs → (p : Pair) × (rest : List Pair) × (qs ≡ p ∷ rest) × Stack ks vs b st (suc (c - 1)) (p ∷ rest)
      go zero qs l s = absurd (omega arith)
      go (suc c) [] l s = absurd s.held
      go (suc c) (p ∷ qs) l s =
          let e : suc c ≡ suc (suc c - 1) = omega arith in
          (p, qs, refl, subst (λ (n : ℕ). Stack ks vs b st n (p ∷ qs)) e s)

  -- only the words of the pairs count
  pub stack_agree : {b : ℕ → Option Term} {st st' : List ℕ} {count : ℕ} {ps : List Pair} → ((i : ℕ) → i < count → get_or st' i 0 ≡ get_or st i 0)
      → Stack ks vs b st count ps → Stack ks vs b st' count ps
  stack_agree {b} {st} {st'} {count} {ps} e s = record {
    held = pairs_agree ks vs st st' count ps e s.held;
    few = ⊎_elim (λ o. inl o) (λ w. inr (stacked_agree ks vs b (λ i. left_of (get_or st i 0)) (λ i. left_of (get_or st' i 0)) count (λ i h. ap left_of (e i h)) w)) s.few;
  }

  -- bindings grow
  pub stack_extends : {b b' : ℕ → Option Term} {st : List ℕ} {count : ℕ} {ps : List Pair} → Extends b b' → Stack ks vs b st count ps → Stack ks vs b' st count ps
  stack_extends {b} {b'} {st} {count} {ps} x s = record { held = s.held; few = ⊎_elim (λ o. inl o) (λ w. inr (stacked_extends ks vs b b' (λ i. left_of (get_or st i 0)) count x w)) s.few }

  module _ {b : ℕ → Option Term} {st : List ℕ} {m : ℕ} {p : Pair} {ps : List Pair} (s : Stack ks vs b st (suc m) (p ∷ ps)) where
    f : ℕ → ℕ
    f i = left_of (get_or st i 0)

    -- the last pair is taken off
    pub stack-pop : Stack ks vs b st m ps
    unfolding f
    stack-pop = record { held = s.held.2; few = inr (⊎_elim alone (λ w. stacked_pop ks vs b f (suc m) m (omega arith) w) s.few) }
      where
        alone : suc m ≡ 1 → Stacked ks vs b f m
        alone e = let z : 0 ≡ m = omega arith in subst (λ (n : ℕ). Stacked ks vs b f n) z (stacked_none ks vs b f)

    module _ (most a k : ℕ) (row : Parts) (top : follow most b p.0 ≡ node k row) (ha : Held ks vs a (node k row)) where
      -- the children of the node that its left term stands for are put on
      expanded : (new : List ℕ) → Drawn (places (a + 1) row) new → (g : ℕ → ℕ) → ((i : ℕ) → i < m → g i ≡ f i) → ((j : ℕ) → j < length new → g (m + j) ≡ get_or new j 0)
          → Stacked ks vs b g (m + length new)
      unfolding f
      expanded new d g old on = ⊎_elim alone (λ w. stacked_expand ks vs a k row new d ha b most f m p.0 w s.held.0 top g old on) s.few
        where
          alone : suc m ≡ 1 → Stacked ks vs b g (m + length new)
          alone e =
              let z : length new ≡ m + length new = omega arith in
              subst (λ (n : ℕ). Stacked ks vs b g n) z
              (stacked_first ks vs a k row ha new d b g (λ j h. let y : j ≡ m + j = omega arith in ap g y ∙ on j h))

      -- f below m and the new places from m on
      abbrev joint : (new : List ℕ) (i : ℕ) → Dec (i < m) → ℕ
      joint new i (yes h) = f i
      joint new i (no h) = get_or new (i - m) 0

      joint_old : (new : List ℕ) (i : ℕ) (d : Dec (i < m)) → i < m → joint new i d ≡ f i
      joint_old new i (yes h) l = refl
      joint_old new i (no h) l = absurd (h l)

      joint_new : (new : List ℕ) (j : ℕ) (d : Dec (m + j < m)) → joint new (m + j) d ≡ get_or new j 0
      joint_new new j (yes h) = absurd (omega arith)
      joint_new new j (no h) = let e : m + j - m ≡ j = omega arith in ap (λ (x : ℕ). get_or new x 0) e

      -- there is room for them
      pub stack_room : (n : ℕ) → Steady n b → m + length (children (node k row)) ≤ begins ks
      stack_room n S =
          let new = pushed_places a (node k row) in
          omega (
            arith,
            pushed_length a k row,
            stacked_bound ks vs b (λ i. joint new i (dec_lt i m)) (m + length new) n S
                (expanded new (pushed_drawn a k row) (λ i. joint new i (dec_lt i m)) (λ i h. joint_old new i (dec_lt i m) h) (λ j h. joint_new new j (dec_lt (m + j) m))),
          )

  -- ONE TURN: the last pair is taken off and the children of what it stands for are put on. old has the words before the pair was taken off.
  pub stack_push : {b : ℕ → Option Term} {m : ℕ} {p : Pair} {ps : List Pair} (old st₀ : List ℕ) → Stack ks vs b old (suc m) (p ∷ ps)
      → ((i : ℕ) → i < m → get_or st₀ i 0 ≡ get_or old i 0)
      → (most a c k : ℕ) (row : Parts) (u : Term) → follow most b p.0 ≡ node k row → Held ks vs a (node k row)
      → (st : List ℕ) (r : ℕ) → PushedPairs ks vs a c (node k row) u m st₀ st r → Stack ks vs b st r (zip_on (pushed (node k row)) (pushed u) ps)
  unfolding f
  stack_push {b} {m} {p} {ps} old st₀ s same most a c k row u top ha st r w = record {
    held = w.pairs ps (pairs_agree ks vs old st₀ m ps same s.held.2);
    few = inr (subst (λ (n : ℕ). Stacked ks vs b (λ i. left_of (get_or st i 0)) n) (sym w.laid.size)
        (expanded s most a k row top ha (pushed_places a (node k row)) (pushed_drawn a k row) (λ i. left_of (get_or st i 0))
        (λ i h. ap left_of (w.laid.below i h ∙ same i h)) (λ j h. laid_left w.laid j h)));
  }

  -- a held term begins at some token
  pub begins_some : (p : ℕ) (t : Term) → Held ks vs p t → 0 < begins ks
  begins_some p t h =
      let b = term_begins ks vs p t h in
      omega (arith, pigeon_begins ks 1 (λ _. p) (λ i _. b.0) (λ i j x y. absurd (omega arith)) (λ i _. b.1))

  -- there are never more pairs than tokens begin a term
  pub stack_bound : {b : ℕ → Option Term} {st : List ℕ} {count : ℕ} {ps : List Pair} (n : ℕ) → Steady n b → Stack ks vs b st count ps → count ≤ begins ks
  stack_bound {b} {st} {count} {ps} n S s = go count ps s
    where
      alone : (c : ℕ) (p : Pair) (qs : List Pair) → Stack ks vs b st (suc c) (p ∷ qs) → suc c ≡ 1 → suc c ≤ begins ks
      alone c p qs s e = omega (arith, begins_some (left_of (get_or st c 0)) p.0 s.held.0)

      go : (c : ℕ) (qs : List Pair) → Stack ks vs b st c qs → c ≤ begins ks
      go zero qs s = omega arith
      go (suc c) [] s = absurd s.held
      go (suc c) (p ∷ qs) s = ⊎_elim (alone c p qs s) (λ w. stacked_bound ks vs b (λ i. left_of (get_or st i 0)) (suc c) n S w) s.few
