-- A result has at most one level more than the levels that its visit was given: every child is visited, since the order of the visits comes to every
-- place. So 66 levels are enough to compare or to write the result of a whole walk.
use mathlib.Core.Path.{◌≡◌, refl, sym, ap, ◌∙◌}
use mathlib.Core.Bool.{Bool, true, false}
use mathlib.Core.List.{List, [], ◌∷◌}
use mathlib.Core.Option.{Option, none, some}
use Prim.Native.Nat.{ℕ, zero, suc, min, ◌+◌, ◌-◌, ◌≤◌, ◌<◌}
use native.Mathlib.Omega.{arith}
use native.Mathlib.Decide.{ℕ_discrete}
use borrow.Author.Tests.{ltb-true, ltb-false}
use lib.Dec.{ltb}
use lib.ListN.{length, get_or, set, length-set}
use lib.Seq.{get_or-set_same, get_or-set_other}
use Rattle.terms.specs.Term.{Term, Parts, var, node, end, num, sub, depth, depths}
use Rattle.terms.specs.Tree.{error, nums, subs, fill, children, with_kids, row, tag, class, nominal_slot, projection_slot, slot_by, slot, same}
use Rattle.terms.specs.Normal.{Out, Row, visit_kids, follow, settle, walk_by}
use Rattle.terms.proofs.Laws.Normalising.SlotLaws.{nominal_member, nominal_argument, projection_argument, projection_receiver, projection_member, projection_interface}

-- ---- every place comes

abbrev Comes : (ℕ → ℕ) → ℕ → ℕ → Type 0
Comes at c i = (j : ℕ) × (j < c) × (at j ≡ i)

pub less : (a b : ℕ) {A : Type 0} → (a < b → A) → (b ≤ a → A) → A
less a b {A} f g = by (ltb a b) refl
  where
    by : (x : Bool) → ltb a b ≡ x → A
    by true e = f (ltb-true a b e)
    by false e = g (ltb-false a b e)

nominal_onto : (n c i : ℕ) → n ≤ c → i < c → Comes (nominal_slot n c) c i
nominal_onto n c i le lt =
    less i n (λ h. (i + (c - n), omega arith, sym (nominal_argument n 0 c (i + (c - n)) i (omega arith) (omega arith))))
    (λ h. (i - n, omega arith, sym (nominal_member n 0 c (i - n) i (omega arith) (omega arith))))

projection_onto : (n m c i : ℕ) → 1 + n + m ≤ c → i < c → Comes (projection_slot n m c) c i
projection_onto n m c i le lt =
    less i 1 (λ h. (c - (1 + n + m), omega arith, sym (projection_receiver n m c (c - (1 + n + m)) i (omega arith) refl (omega arith))))
    (λ a. less i (1 + n)
    (λ h. (i - 1 + (c - n), omega arith, sym (projection_interface n m c (i - 1 + (c - n)) i (omega arith) (λ z. omega arith) (omega arith) (omega arith))))
    (λ b. less i (1 + n + m)
    (λ h. (i - (1 + n) + (c - (n + m)), omega arith, sym (projection_member n m c (i - (1 + n) + (c - (n + m))) i (omega arith) (λ z. omega arith) (omega arith) (omega arith))))
    (λ h. (i - (1 + n + m), omega arith, sym (projection_argument n m c (i - (1 + n + m)) i (omega arith) (omega arith))))))

slot_onto : (x n m c i : ℕ) → i < c → Comes (slot_by x n m c) c i
unfolding slot_by
slot_onto zero n m c i lt = (i, lt, refl)
slot_onto (suc zero) n m c i lt = nominal_onto (min n c) c i (omega arith) lt
slot_onto (suc (suc x)) n m c i lt = projection_onto (min n (c - 1)) (min m (c - 1 - min n (c - 1))) c i (omega arith) lt

-- ---- every child is visited

module _ (f : Term → ℕ → ℕ → Out) (d : ℕ) (bound : (t : Term) (v c : ℕ) → depth (f t v c).term ≤ d) (at : ℕ → ℕ) where
  abbrev Low : Row → ℕ → Type 0
  Low s i = depth (get_or s.terms i error) ≤ d

  after : Row → ℕ → Row
  after s j =
      let w = f (get_or s.terms (at j) error) s.visits s.count in
      record { terms = set s.terms (at j) w.term; visits = w.visits; count = w.count }

  visit_long : (r j : ℕ) (s : Row) → length (visit_kids f at r j s).terms ≡ length s.terms
  unfolding visit_kids after
  visit_long zero j s = refl
  visit_long (suc r) j s = visit_long r (suc j) (after s j) ∙ length-set s.terms (at j) _

  after_low : (s : Row) (j i : ℕ) → i < length s.terms → Low s i → Low (after s j) i
  unfolding after
  after_low s j i lt h = by (ℕ_discrete i (at j))
    where
      by : Dec (i ≡ at j) → Low (after s j) i
      by (yes e) = rw (e, get_or-set_same s.terms (at j) (f (get_or s.terms (at j) error) s.visits s.count).term error (omega arith)) (bound _ _ _)
      by (no e) = rw (get_or-set_other s.terms (at j) i (f (get_or s.terms (at j) error) s.visits s.count).term error e) h

  after_hit : (s : Row) (j : ℕ) → at j < length s.terms → Low (after s j) (at j)
  unfolding after
  after_hit s j lt = rw (get_or-set_same s.terms (at j) (f (get_or s.terms (at j) error) s.visits s.count).term error lt) (bound _ _ _)

  visit_low : (r j : ℕ) (s : Row) (i : ℕ) → i < length s.terms → Low s i → Low (visit_kids f at r j s) i
  unfolding visit_kids after
  visit_low zero j s i lt h = h
  visit_low (suc r) j s i lt h =
      visit_low r (suc j) (after s j) i (omega (arith, length-set s.terms (at j) (f (get_or s.terms (at j) error) s.visits s.count).term)) (after_low s j i lt h)

  visit_hit : (r j : ℕ) (s : Row) (k : ℕ) → j ≤ k → k < j + r → at k < length s.terms → Low (visit_kids f at r j s) (at k)
  unfolding visit_kids after
  visit_hit zero j s k a b lt = absurd (omega arith)
  visit_hit (suc r) j s k a b lt =
      let l = length-set s.terms (at j) (f (get_or s.terms (at j) error) s.visits s.count).term in
      by (ℕ_discrete k j) (λ e. visit_hit r (suc j) (after s j) k (omega arith) (omega arith) (omega arith))
    where
      by : Dec (k ≡ j) → ((k ≡ j → ⊥) → Low (visit_kids f at (suc r) j s) (at k)) → Low (visit_kids f at (suc r) j s) (at k)
      by (yes e) g =
          let l = length-set s.terms (at j) (f (get_or s.terms (at j) error) s.visits s.count).term in
          let q = ap at e in
          rw e (visit_low r (suc j) (after s j) (at j) (omega arith) (after_hit s j (omega arith)))
      by (no e) g = g e

-- ---- levels of a node

depths_fill : (ps : Parts) (l : List Term) (d : ℕ) → length l ≡ length (subs ps) → ((i : ℕ) → i < length l → depth (get_or l i error) ≤ d) → depths (fill ps l) ≤ d
unfolding depth subs fill
depths_fill end l d e h = omega arith
depths_fill (num n ps) l d e h = depths_fill ps l d e h
depths_fill (sub t ps) [] d e h = absurd (omega arith)
depths_fill (sub t ps) (u ∷ l) d e h =
    let a = h 0 (omega arith) in
    let b = depths_fill ps l d (omega arith) (λ i lt. h (suc i) (omega arith)) in
    omega arith

depth_with : (t : Term) (l : List Term) (d : ℕ) → length l ≡ length (children t) → ((i : ℕ) → i < length l → depth (get_or l i error) ≤ d) → depth (with_kids t l) ≤ suc d
unfolding depth children with_kids
depth_with (var v) l d e h = omega arith
depth_with (node k ps) l d e h = let q = depths_fill ps l d e h in omega arith

depth_error : depth error ≡ 1
unfolding depth
depth_error = refl

-- a node whose children have all been visited
pub node_depth : (f : Term → ℕ → ℕ → Out) (d : ℕ) → ((t : Term) (v c : ℕ) → depth (f t v c).term ≤ d) → (t : Term) (v c : ℕ)
    → depth (with_kids t (visit_kids f (slot t) (length (children t)) 0 (record { terms = children t; visits = v; count = c })).terms) ≤ suc d
node_depth f d bound t v c =
    let n = length (children t) in
    let s : Row = record { terms = children t; visits = v; count = c } in
    let r = visit_kids f (slot t) n 0 s in
    let long = visit_long f d bound (slot t) n 0 s in
    depth_with t r.terms d long (λ i lt.
    let k = slot_onto (class (tag t)) (get_or (nums (row t)) 1 0) (get_or (nums (row t)) 2 0) n i (omega arith) in
    rw k.2 at (visit_hit f d bound (slot t) n 0 s k.0 (omega arith) (omega (arith, k.1)) (omega (arith, k.2))))

-- ---- the walk

module _ (find : Term → Option Term) where
  settle_depth : (f : Term → ℕ → ℕ → Out) (d : ℕ) → ((t : Term) (v c : ℕ) → depth (f t v c).term ≤ d) → 1 ≤ d → (t : Term) → depth t ≤ suc d → (o : Option Term) (v c : ℕ)
      → depth (settle f t o v c).term ≤ suc d
  settle_depth f d bound one t h none v c = h
  settle_depth f d bound one t h (some u) v c = by (same u t)
    where
      by : (b : Bool) → depth (follow f b u v c).term ≤ suc d
      by true = omega (arith, depth_error)
      by false = let q = bound u v c in omega arith

  pub walk_depth : (l : ℕ) (t : Term) (v c : ℕ) → depth (walk_by find l t v c).term ≤ suc l
  unfolding walk_by
  walk_depth zero t v c = omega (arith, depth_error)
  walk_depth (suc l) t zero c = omega (arith, depth_error)
  walk_depth (suc l) t (suc v) c =
      let s : Row = record { terms = children t; visits = v; count = c + length (children t) } in
      let r = visit_kids (walk_by find l) (slot t) (length (children t)) 0 s in
      settle_depth (walk_by find l) (suc l) (walk_depth l) (omega arith) (with_kids t r.terms) (node_depth (walk_by find l) (suc l) (walk_depth l) t v (c + length (children t)))
      (find (with_kids t r.terms)) r.visits r.count
