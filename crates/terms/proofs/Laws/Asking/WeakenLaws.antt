-- `can_weaken_to` by the tokens: the kinds, the two accesses, and what stands after them.
use mathlib.Core.Path.{◌≡◌, refl, sym, ap, subst, ◌∙◌}
use mathlib.Core.Bool.{Bool, true, false, not, ◌&&◌, ◌||◌}
use mathlib.Core.List.{List, [], ◌∷◌}
use mathlib.Core.Logic.{◌⊎◌, inl, inr}
use mathlib.Core.Option.{none, some}
use Prim.Native.Nat.{ℕ, zero, suc, ◌+◌, ◌-◌, ◌<◌}
use native.Mathlib.Decide.{ℕ_discrete}
use native.Mathlib.Omega.{arith}
use borrow.Author.Tests.{eq-eqb, ne_eqb}
use lib.Dec.{eqb}
use lib.ListN.{length, get_or}
use Rattle.terms.specs.Result.{pick}
use Rattle.terms.specs.Term.{Term, Parts, var, node, end, num, sub, items, part_items}
use Rattle.terms.specs.Words.Held.{Held, HeldParts}
use Rattle.terms.specs.Shape as shape
use Rattle.terms.specs.Shape.{Shape, layout}
use Rattle.terms.specs.Formed.{Formed, Fit, TakesTerm, after_number}
use Rattle.terms.specs.Tree.{nums, row, tag}
use Rattle.terms.specs.Questions.{first, among}
use Rattle.terms.specs.Comparison.{conflicts_with, rows_conflict, collection_access, read_only_view, with_first, agrees, is, can_weaken_to}
use Rattle.terms.specs.Words.CompareContract.{Rows}
use Rattle.terms.proofs.Laws.General.Bools.{never_true, and-false}
use Rattle.terms.proofs.Laws.Held.HeldLaws.{head_kind, held_first, held_node, held_num}
use Rattle.terms.proofs.Laws.Format.ShapeLaws.{More, some_done}
use Rattle.terms.proofs.Laws.Asking.ConflictLaws.{among_three, not_among}

-- ---- the definition, by the tag

eqb_swap : (b : ℕ) → eqb 0 b ≡ eqb b 0
eqb_swap zero = refl
eqb_swap (suc b) = ne_eqb 0 (suc b) (λ e. omega arith) ∙ sym (ne_eqb (suc b) 0 (λ e. omega arith))

-- the access of the view is 0
marks : (x y z : Bool) → x ≡ y → not (not x || z) ≡ (y && not z)
marks true y z e = rw (← e)
marks false y z e = rw (← e)

reference_marks : (x y v z : Bool) → v ≡ y → (o : Bool) → pick (x && y) (not (not v || z)) (false && o && not (not v || z)) ≡ (x && (y && not z))
reference_marks true true v z e o = marks v true z e
reference_marks true false v z e o = refl
reference_marks false y v z e o = refl

collection_marks : (x y v z : Bool) → v ≡ y → ((x && y) && not (not v || z)) ≡ (x && (y && not z))
collection_marks true true v z e = marks v true z e
collection_marks true false v z e = refl
collection_marks false y v z e = refl

-- two nodes of the same kind with an access mark
same_kind : (k a b : ℕ) (ps qs : Parts) → (k ≡ 0) ⊎ ((k ≡ 10) ⊎ (k ≡ 11))
    → can_weaken_to (node k (num a ps)) (node k (num b qs)) ≡ (eqb a 1 && (eqb b 0 && not (rows_conflict ps qs)))
unfolding can_weaken_to collection_access read_only_view conflicts_with nums row tag first among
same_kind k a b ps qs (inl e) = rw e (reference_marks (eqb a 1) (eqb b 0) (eqb 0 b) (rows_conflict ps qs) (eqb_swap b) false)
same_kind k a b ps qs (inr (inl e)) = rw e (collection_marks (eqb a 1) (eqb b 0) (eqb 0 b) (rows_conflict ps qs) (eqb_swap b))
same_kind k a b ps qs (inr (inr e)) = rw e (collection_marks (eqb a 1) (eqb b 0) (eqb 0 b) (rows_conflict ps qs) (eqb_swap b))

-- ---- a term without an access mark

-- the tag of a Reference, Map or Set, from the kind of the head
access_tag : (k : ℕ) → among (suc (suc k)) (2 ∷ 12 ∷ 13 ∷ []) ≡ true → (k ≡ 0) ⊎ ((k ≡ 10) ⊎ (k ≡ 11))
access_tag k h = go (among_three (suc (suc k)) 2 12 13 h)
  where
    go : (suc (suc k) ≡ 2) ⊎ ((suc (suc k) ≡ 12) ⊎ (suc (suc k) ≡ 13)) → (k ≡ 0) ⊎ ((k ≡ 10) ⊎ (k ≡ 11))
    go (inl e) = inl (omega arith)
    go (inr (inl e)) = inr (inl (omega arith))
    go (inr (inr e)) = inr (inr (omega arith))

pub without_access : (t u : Term) → among (head_kind t) (2 ∷ 12 ∷ 13 ∷ []) ≡ false → false ≡ can_weaken_to t u
unfolding can_weaken_to collection_access tag head_kind among
without_access (var v) u h = refl
without_access (node k ps) u h =
    let n = not_among (suc (suc k)) 2 12 13 h in
    rw (ne_eqb k 0 (λ z. n.0 (omega arith)), ne_eqb k 10 (λ z. n.1.0 (omega arith)), ne_eqb k 11 (λ z. n.1.1 (omega arith)))

-- ---- terms of different kinds

-- one of two tests fails, so nothing is weakened
apart : (x y b c : Bool) (o : Bool) → (x && y) ≡ false → ((b && c) && o) ≡ false → pick (x && y) o (b && c && o) ≡ false
apart x y b c o h k = rw (h, k)

not_collection : (k : ℕ) → (k ≡ 10 → ⊥) → (k ≡ 11 → ⊥) → among k (10 ∷ 11 ∷ []) ≡ false
unfolding among
not_collection k a b = rw (ne_eqb k 10 a, ne_eqb k 11 b)

module _ (k j : ℕ) (ps qs : Parts) (d : k ≡ j → ⊥) where
  -- not both are References
  references : ((eqb k 0 && eqb (first (node k ps)) 1) && (eqb j 0 && eqb (first (node j qs)) 0)) ≡ false
  references = go (ℕ_discrete k 0) (ℕ_discrete j 0)
    where
      go : Dec (k ≡ 0) → Dec (j ≡ 0) → ((eqb k 0 && eqb (first (node k ps)) 1) && (eqb j 0 && eqb (first (node j qs)) 0)) ≡ false
      go (yes a) (yes b) = absurd (d (a ∙ sym b))
      go (yes a) (no b) = rw (ne_eqb j 0 b) (and-false (eqb k 0 && eqb (first (node k ps)) 1))
      go (no a) b = rw (ne_eqb k 0 a)

  -- a Map against a Set conflicts
  collections : (is (collection_access (node k ps)) 1 && is (collection_access (node j qs)) 0 && agrees (read_only_view (node k ps)) (node j qs)) ≡ false
  unfolding collection_access read_only_view conflicts_with row tag among
  collections = go (ℕ_discrete k 10) (ℕ_discrete k 11) (ℕ_discrete j 10) (ℕ_discrete j 11)
    where
      go : Dec (k ≡ 10) → Dec (k ≡ 11) → Dec (j ≡ 10) → Dec (j ≡ 11)
          → (is (pick (among k (10 ∷ 11 ∷ [])) (some (first (node k ps))) none) 1 && is (pick (among j (10 ∷ 11 ∷ [])) (some (first (node j qs))) none) 0 && agrees (pick (among k (0 ∷ 10 ∷ 11 ∷ [])) (some (node k (with_first 0 ps))) none) (node j qs)) ≡ false
      go (yes a) b (yes c) e = absurd (d (a ∙ sym c))
      go (yes a) b (no c) (yes e) = rw (a, e) (and-false (eqb (first (node 10 ps)) 1 && eqb (first (node 11 qs)) 0))
      go (yes a) b (no c) (no e) = rw (not_collection j c e) (ap (λ (x : Bool). x && agrees (pick (among k (0 ∷ 10 ∷ 11 ∷ [])) (some (node k (with_first 0 ps))) none) (node j qs)) (and-false (is (pick (among k (10 ∷ 11 ∷ [])) (some (first (node k ps))) none) 1)))
      go (no a) (yes b) c (yes e) = absurd (d (b ∙ sym e))
      go (no a) (yes b) (yes c) (no e) = rw (b, c) (and-false (eqb (first (node 11 ps)) 1 && eqb (first (node 10 qs)) 0))
      go (no a) (yes b) (no c) (no e) = rw (not_collection j c e) (ap (λ (x : Bool). x && agrees (pick (among k (0 ∷ 10 ∷ 11 ∷ [])) (some (node k (with_first 0 ps))) none) (node j qs)) (and-false (is (pick (among k (10 ∷ 11 ∷ [])) (some (first (node k ps))) none) 1)))
      go (no a) (no b) c e = rw (not_collection k a b)

pub kinds_apart : (t u : Term) → (head_kind t ≡ head_kind u → ⊥) → false ≡ can_weaken_to t u
unfolding can_weaken_to collection_access tag head_kind among
kinds_apart (var v) u d = refl
kinds_apart (node k ps) (var w) d =
    sym (apart (eqb k 0 && eqb (first (node k ps)) 1) false (is (collection_access (node k ps)) 1) false (agrees (read_only_view (node k ps)) (var w))
    (and-false (eqb k 0 && eqb (first (node k ps)) 1)) (ap (λ (x : Bool). x && agrees (read_only_view (node k ps)) (var w)) (and-false (is (collection_access (node k ps)) 1))))
kinds_apart (node k ps) (node j qs) d =
    let n : k ≡ j → ⊥ = λ e. d (ap (λ (x : ℕ). suc (suc x)) e) in
    sym (apart (eqb k 0 && eqb (first (node k ps)) 1) (eqb j 0 && eqb (first (node j qs)) 0) (is (collection_access (node k ps)) 1) (is (collection_access (node j qs)) 0) (agrees (read_only_view (node k ps)) (node j qs))
    (references k j ps qs n) (collections k j ps qs n))

-- ---- two terms of one kind with a mark

-- a formed term whose head has an access mark first
pub record Marked (t : Term) : Type 0 where
  pub tag : ℕ
  pub mark : ℕ
  pub rest : Parts
  pub is : t ≡ node tag (num mark rest)
  pub which : (tag ≡ 0) ⊎ ((tag ≡ 10) ⊎ (tag ≡ 11))
  pub kind : head_kind t ≡ suc (suc tag)
  pub fit : Fit (after_number (layout tag) mark) rest

-- the layouts of the three begin with a code
coded : (k : ℕ) → (k ≡ 0) ⊎ ((k ≡ 10) ⊎ (k ≡ 11)) → (r : Shape) × (layout k ≡ shape.code 2 r)
coded k (inl e) = (shape.term shape.done, rw e)
coded k (inr (inl e)) = (shape.term (shape.term shape.done), rw e)
coded k (inr (inr e)) = (shape.term shape.done, rw e)

row_marked : (k : ℕ) (ps : Parts) → (k ≡ 0) ⊎ ((k ≡ 10) ⊎ (k ≡ 11)) → Fit (layout k) ps → (m : ℕ) × (rest : Parts) × (ps ≡ num m rest) × Fit (after_number (layout k) m) rest
unfolding Fit TakesTerm More
row_marked k end w f = let c = coded k w in absurd (some_done (shape.code 2 c.0) tt (sym c.1 ∙ f))
row_marked k (num m ps) w f = (m, ps, refl, f.1)
row_marked k (sub t ps) w f = let c = coded k w in absurd (subst (λ (r : Shape). TakesTerm r) c.1 f.0)

pub marked : (t : Term) → Formed t → among (head_kind t) (2 ∷ 12 ∷ 13 ∷ []) ≡ true → Marked t
unfolding Formed head_kind among
marked (var v) f h = never_true h
marked (node k ps) f h =
    let w = access_tag k h in
    let r = row_marked k ps w f.1 in
    record { tag = k; mark = r.0; rest = r.1; is = ap (λ (x : Parts). node k x) r.2; which = w; kind = refl; fit = r.3 }

module _ (ks vs : List ℕ) (p n : ℕ) (t : Term) (h : Held ks vs p t) (m : Marked t) (e : n ≡ length (items t)) where
  here : Held ks vs p (node m.tag (num m.mark m.rest))
  here = subst (λ (x : Term). Held ks vs p x) m.is h

  marked_length : n ≡ suc (suc (length (part_items m.rest)))
  unfolding items
  marked_length = e ∙ ap (λ (x : Term). length (items x)) m.is

  pub marked_long : n < 2 → ⊥
  marked_long l = omega (arith, marked_length)

  behind : HeldParts ks vs (p + 1) (p + length (items (node m.tag (num m.mark m.rest)))) (num m.mark m.rest)
  behind = held_node ks vs p m.tag (num m.mark m.rest) here

  pub mark_at : get_or vs (p + 1) 0 ≡ m.mark
  mark_at = (held_num ks vs (p + 1) _ m.mark m.rest behind).1

  pub rest_at : HeldParts ks vs (p + 2) (p + n) m.rest
  rest_at =
      let r = (held_num ks vs (p + 1) _ m.mark m.rest behind).2 in
      let a : p + 1 + 1 ≡ p + 2 = omega arith in
      let b : p + length (items (node m.tag (num m.mark m.rest))) ≡ p + n = ap (λ (x : ℕ). p + x) (sym (e ∙ ap (λ (x : Term). length (items x)) m.is)) in
      subst (λ (x : ℕ). HeldParts ks vs x (p + n) m.rest) a (subst (λ (x : ℕ). HeldParts ks vs (p + 1 + 1) x m.rest) b r)

module _ (t u : Term) (a : Marked t) (b : Marked u) (e : head_kind t ≡ head_kind u) where
  same_tag : a.tag ≡ b.tag
  same_tag = omega (arith, a.kind, b.kind)

  weakened : can_weaken_to t u ≡ (eqb a.mark 1 && (eqb b.mark 0 && not (rows_conflict a.rest b.rest)))
  weakened =
      ap (λ (x : Term). can_weaken_to x u) a.is
      ∙ ap (λ (x : Term). can_weaken_to (node a.tag (num a.mark a.rest)) x) (b.is ∙ ap (λ (k : ℕ). node k (num b.mark b.rest)) (sym same_tag))
      ∙ same_kind a.tag a.mark b.mark a.rest b.rest a.which

  pub unmutable : (a.mark ≡ 1 → ⊥) → false ≡ can_weaken_to t u
  unmutable d = sym (weakened ∙ rw (ne_eqb a.mark 1 d))

  pub unshared : a.mark ≡ 1 → (b.mark ≡ 0 → ⊥) → false ≡ can_weaken_to t u
  unshared p d = sym (weakened ∙ rw (eq-eqb a.mark 1 p, ne_eqb b.mark 0 d))

  pub rests : a.mark ≡ 1 → b.mark ≡ 0 → can_weaken_to t u ≡ not (rows_conflict a.rest b.rest)
  rests p q = weakened ∙ rw (eq-eqb a.mark 1 p, eq-eqb b.mark 0 q)

  -- what stands after the marks, as two rows
  pub rest_rows : (ks vs : List ℕ) (i ae j be : ℕ) → HeldParts ks vs i ae a.rest → HeldParts ks vs j be b.rest → Rows ks vs i ae j be (rows_conflict a.rest b.rest)
  unfolding after_number
  rest_rows ks vs i ae j be hl hr =
      let c = coded a.tag a.which in
      record {
        shape = c.0;
        left = a.rest;
        right = b.rest;
        held_left = hl;
        held_right = hr;
        fit_left = subst (λ (r : Shape). Fit (after_number r a.mark) a.rest) c.1 a.fit;
        fit_right = subst (λ (r : Shape). Fit (after_number r b.mark) b.rest) (ap layout (sym same_tag) ∙ c.1) b.fit;
        same = refl;
      }

-- ---- the two terms as they are held

-- two terms of one kind with marks, which end at d and e
pub record Two (ks vs : List ℕ) (p d q e : ℕ) (t u : Term) : Type 0 where
  pub left : Marked t
  pub right : Marked u
  pub kinds : head_kind t ≡ head_kind u
  pub held_left : Held ks vs p t
  pub held_right : Held ks vs q u
  pub end_left : d ≡ p + length (items t)
  pub end_right : e ≡ q + length (items u)

module _ {ks vs : List ℕ} {p q : ℕ} (t u : Term) (ht : Held ks vs p t) (hu : Held ks vs q u) {k l : ℕ} (ek : k ≡ get_or ks p 0) (el : l ≡ get_or ks q 0) where
  kind_left : k ≡ head_kind t
  kind_left = ek ∙ (held_first ks vs p t ht).0

  kind_right : l ≡ head_kind u
  kind_right = el ∙ (held_first ks vs q u hu).0

  pub held_apart : (k ≡ l → ⊥) → false ≡ can_weaken_to t u
  held_apart d = kinds_apart t u (λ e. d (kind_left ∙ e ∙ sym kind_right))

  module _ {r : Bool} (er : r ≡ among k (2 ∷ 12 ∷ 13 ∷ [])) where
    access : among (head_kind t) (2 ∷ 12 ∷ 13 ∷ []) ≡ r
    access = sym (er ∙ ap (λ (x : ℕ). among x (2 ∷ 12 ∷ 13 ∷ [])) kind_left)

    pub held_without : r ≡ false → false ≡ can_weaken_to t u
    held_without e = without_access t u (access ∙ e)

    -- both have marks
    pub two : k ≡ l → r ≡ true → Formed t → Formed u → {d e : ℕ} → d ≡ p + length (items t) → e ≡ q + length (items u) → Two ks vs p d q e t u
    two same y ft fu a b =
        let k = sym kind_left ∙ same ∙ kind_right in
        record {
          left = marked t ft (access ∙ y);
          right = marked u fu (ap (λ (x : ℕ). among x (2 ∷ 12 ∷ 13 ∷ [])) (sym k) ∙ access ∙ y);
          kinds = k;
          held_left = ht;
          held_right = hu;
          end_left = a;
          end_right = b;
        }

module _ {ks vs : List ℕ} {p d q e : ℕ} {t u : Term} (x : Two ks vs p d q e t u) where
  pub left_long : d - p < 2 → ⊥
  left_long l = marked_long ks vs p (length (items t)) t x.held_left x.left refl (omega (arith, x.end_left, l))

  pub right_long : e - q < 2 → ⊥
  right_long l = marked_long ks vs q (length (items u)) u x.held_right x.right refl (omega (arith, x.end_right, l))

  module _ {v : ℕ} (ev : v ≡ get_or vs (p + 1) 0) where
    mark_left : v ≡ x.left.mark
    mark_left = ev ∙ mark_at ks vs p (length (items t)) t x.held_left x.left refl

    pub not_mutable : (v ≡ 1 → ⊥) → false ≡ can_weaken_to t u
    not_mutable n = unmutable t u x.left x.right x.kinds (λ z. n (mark_left ∙ z))

    module _ (one : v ≡ 1) {w : ℕ} (ew : w ≡ get_or vs (q + 1) 0) where
      mark_right : w ≡ x.right.mark
      mark_right = ew ∙ mark_at ks vs q (length (items u)) u x.held_right x.right refl

      pub not_shared : (w ≡ 0 → ⊥) → false ≡ can_weaken_to t u
      not_shared n = unshared t u x.left x.right x.kinds (sym mark_left ∙ one) (λ z. n (mark_right ∙ z))

      -- what stands after the marks
      rest_left : HeldParts ks vs (p + 2) d x.left.rest
      rest_left = subst (λ (i : ℕ). HeldParts ks vs (p + 2) i x.left.rest) (sym x.end_left) (rest_at ks vs p (length (items t)) t x.held_left x.left refl)

      rest_right : HeldParts ks vs (q + 2) e x.right.rest
      rest_right = subst (λ (i : ℕ). HeldParts ks vs (q + 2) i x.right.rest) (sym x.end_right) (rest_at ks vs q (length (items u)) u x.held_right x.right refl)

      -- r says whether that conflicts
      pub by_rest : w ≡ 0 → {r : Bool} → ((whole : Bool) → Rows ks vs (p + 2) d (q + 2) e whole → r ≡ whole) → not r ≡ can_weaken_to t u
      by_rest z f =
          ap not (f _ (rest_rows t u x.left x.right x.kinds ks vs (p + 2) d (q + 2) e rest_left rest_right))
          ∙ sym (rests t u x.left x.right x.kinds (sym mark_left ∙ one) (sym mark_right ∙ z))
