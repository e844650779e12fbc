-- A row scanned from its front: numbers, keys and children by place. Each scan says what is left of the row.
use mathlib.Core.Path.{◌≡◌, refl, sym, ap, ap₂, ◌∙◌}
use mathlib.Core.Bool.{Bool}
use mathlib.Core.List.{List, [], ◌∷◌}
use mathlib.Core.Option.{none, some}
use Prim.Native.Nat.{ℕ, zero, suc, ◌+◌, ◌-◌, ◌≤◌, ◌<◌}
use native.Mathlib.Decide.{dec_lt}
use native.Mathlib.Omega.{arith}
use lib.ListN.{length, get_or, drop, length-drop, get_elem?, get_or-eq_default}
use Rattle.terms.specs.declared.RowWalk.{RowWalk}
use Rattle.terms.specs.declared.Token.{Token}
use Rattle.terms.specs.Words.Tokens.{Area}
use Rattle.terms.specs.Term.{Term, Parts, var, node, end, num, sub}
use Rattle.terms.specs.Words.Held.{span}
use Rattle.terms.specs.Words.RowsContract.{Moves}
use Rattle.terms.specs.Tree.{error, nums, subs, children, row}
use Rattle.terms.specs.Words.Arena.{head_of, kids_of, Tree, Parted, EndAt, RowAt, NumberHere, NumberAt, KeyOf}
use Rattle.terms.proofs.Laws.Held.HeldLaws.{span_one}
use Rattle.terms.proofs.Laws.Normalising.ArenaLaws.{parted_over, parted_number, parted_child, tree_row}
use Rattle.std.specs.Prelude.{Option, Some, None, min, unwrap_or}
use Rattle.terms.specs.declared.Seen.{Seen}
use Rattle.terms.specs.Words.Lent.{shown}

-- ---- a term's row, from its first token's kind and value

module _ (a : Area) (p e : ℕ) where
  -- no term ends past the tokens, so one that is cut is whole
  pub end_is : {k v l : ℕ} → k ≡ get_or a.kinds p 0 → v ≡ get_or a.vals p 0 → (1 ≤ span k v → l ≡ span k v) → length a.kinds < 4294967296 → e ≡ min (p + l) 4294967295
      → EndAt a p e
  end_is ek ev el f o = record {
    small = omega arith;
    is = λ s h.
        let u = ap₂ span ek ev in
        let z = el (omega (arith, u)) in
        omega (arith, u, z);
  }

  pub row_is : EndAt a p e → RowAt a p (p + 1) e
  row_is i = record {
    small = i.small;
    is = λ hs cs S c t w.
        let r = tree_row a hs cs S w refl refl in
        rw (← (i.is r.0 r.1)) at r.2;
  }

-- ---- the scan

-- w is the whole row; P says how what is left belongs to it
pub record Scanned (a : Area) (hs cs : List ℕ) (S : ℕ → Bool) (c e q : ℕ) (w : Parts) (P : ℕ → Parts → Parts → Type 0) : Type 0 where
  pub passed : ℕ
  pub left : Parts
  pub rest : Parted a hs cs S c e q passed left
  pub so : P passed w left

pub record Scan (a : Area) (h e q : ℕ) (P : ℕ → Parts → Parts → Type 0) : Type 0 where
  pub small : e < 4294967296
  pub is : (hs cs : List ℕ) (S : ℕ → Bool) (c : ℕ) (t : Term) → Tree a hs cs S h c t → Scanned a hs cs S c e q (row t) P

pub scan_start : {a : Area} {h e q : ℕ} {P : ℕ → Parts → Parts → Type 0} → RowAt a h q e → ((w : Parts) → P 0 w w) → Scan a h e q P
scan_start r f = record { small = r.small; is = λ hs cs S c t w. record { passed = 0; left = row t; rest = r.is hs cs S c t w; so = f (row t) } }

-- in a row that ends at e a walk came to the token k, v at q, and goes on at r
pub record Came (a : Area) (e q k v r : ℕ) : Type 0 where
  pub before : q < e
  pub kind : k ≡ get_or a.kinds q 0
  pub value : v ≡ get_or a.vals q 0
  pub rises : q < r
  pub behind : 1 ≤ span k v → r ≡ q + span k v

-- a number is one token
pub came_number : {a : Area} {e q k v r : ℕ} → Came a e q k v r → k ≡ 0 → r ≡ q + 1
came_number {k = k} {v = v} m z =
    let n = span_one k v (omega (arith, z)) in
    omega (arith, m.behind (omega (arith, n)), n)

module _ {a : Area} {h e q : ℕ} {P : ℕ → Parts → Parts → Type 0} (s : Scan a h e q P) where
  -- the row is used up
  pub scan_over : e ≤ q → (hs cs : List ℕ) (S : ℕ → Bool) (c : ℕ) (t : Term) → Tree a hs cs S h c t → (n : ℕ) × P n (row t) end
  scan_over le hs cs S c t w = let x = s.is hs cs S c t w in (x.passed, rw (parted_over a hs cs S x.rest le) at x.so)

  module _ {k v r : ℕ} (m : Came a e q k v r) where
    pub scan_here : k ≡ 0 → (hs cs : List ℕ) (S : ℕ → Bool) (c : ℕ) (t : Term) → Tree a hs cs S h c t → (n : ℕ) × (r : Parts) × P n (row t) (num v r)
    scan_here z hs cs S c t w =
        let x = s.is hs cs S c t w in
        let y = parted_number a hs cs S x.rest m.before m.kind m.value z in
        (x.passed, y.rest, rw y.is at x.so)

    pub scan_number : k ≡ 0 → (Q : ℕ → Parts → Parts → Type 0) → ((n : ℕ) (w r : Parts) → P n w (num v r) → Q n w r) → Scan a h e r Q
    scan_number z Q f = record {
      small = s.small;
      is = λ hs cs S c t w.
          let x = s.is hs cs S c t w in
          let y = parted_number a hs cs S x.rest m.before m.kind m.value z in
          record { passed = x.passed; left = y.rest; rest = rw (came_number m z) y.behind; so = f x.passed (row t) y.rest (rw y.is at x.so) };
    }

    pub scan_child : (k ≡ 0 → ⊥) → (Q : ℕ → Parts → Parts → Type 0) → ((n : ℕ) (w : Parts) (u : Term) (r : Parts) → P n w (sub u r) → Q (n + 1) w r) → Scan a h e r Q
    scan_child z Q f = record {
      small = s.small;
      is = λ hs cs S c t w.
          let x = s.is hs cs S c t w in
          let y = parted_child a hs cs S x.rest m.before m.kind m.value z in
          record {
            passed = x.passed + 1;
            left = y.rest;
            rest = rw (m.behind y.some) y.behind;
            so = f x.passed (row t) y.term y.rest (rw y.is at x.so);
          };
    }

-- ---- a walk over the tokens that are seen

pub came : (x : Seen) (s : RowWalk) → s.seen ≡ x → (q : ℕ) (y : Token) (t : RowWalk) → Moves s (Some (q, y)) t → Came (shown x) s.end s.at y.kind y.value t.at
came x s w q y t m = record {
  before = m.0.1;
  kind = m.0.2 ∙ ap (λ (e : Seen). get_or (shown e).kinds s.at 0) w;
  value = m.0.3 ∙ ap (λ (e : Seen). get_or (shown e).vals s.at 0) w;
  rises = m.0.4;
  behind = m.0.5;
}

module _ (x : Seen) (s : RowWalk) (w : s.seen ≡ x) (q : ℕ) (y : Token) (t : RowWalk) (m : Moves s (Some (q, y)) t) where
  pub over_here : (q ≡ s.at) × (s.at < s.end) × (y.kind ≡ get_or (shown x).kinds s.at 0) × (y.value ≡ get_or (shown x).vals s.at 0)
  over_here = (m.0.0, m.0.1, m.0.2 ∙ ap (λ (e : Seen). get_or (shown e).kinds s.at 0) w, m.0.3 ∙ ap (λ (e : Seen). get_or (shown e).vals s.at 0) w)

  pub over_on : t.seen ≡ x
  over_on = m.2 ∙ w

  pub over_width : 1 ≤ span y.kind y.value → t.at - s.at ≡ span y.kind y.value
  over_width i = omega (arith, m.0.5 i)

  -- behind a child, and behind a number
  pub over_child : s.at + (t.at - s.at) ≡ t.at
  over_child = omega (arith, m.0.4)

  pub over_number : y.kind ≡ 0 → s.at + 1 ≡ t.at
  over_number z =
      let n = span_one y.kind y.value (omega (arith, z)) in
      omega (arith, m.0.5 (omega (arith, n)), n)

-- ---- a walk over the row of the term at h, which stands there

pub record Walking (x : Seen) (h : ℕ) (s : RowWalk) (P : ℕ → Parts → Parts → Type 0) : Type 0 where
  pub scan : Scan (shown x) h s.end s.at P
  pub over : s.seen ≡ x

pub walk_start : {x : Seen} {h : ℕ} {s : RowWalk} {P : ℕ → Parts → Parts → Type 0} → RowAt (shown x) h s.at s.end → s.seen ≡ x → ((w : Parts) → P 0 w w) → Walking x h s P
walk_start r e f = record { scan = scan_start r f; over = e }

pub walk_on : {x : Seen} {h : ℕ} {s : RowWalk} {P Q : ℕ → Parts → Parts → Type 0} → Walking x h s P → (q : ℕ) (y : Token) (t : RowWalk) → Moves s (Some (q, y)) t
    → Scan (shown x) h s.end t.at Q → Walking x h t Q
walk_on w q y t m d = record { scan = rw (m.1) d; over = m.2 ∙ w.over }

-- ---- the i-th number: the left-th of what is left

abbrev pub Wanted : (i left n : ℕ) → Parts → Parts → Type 0
Wanted i left n w r = get_or (nums w) i 0 ≡ get_or (nums r) left 0

nums_num : (n : ℕ) (ps : Parts) → nums (num n ps) ≡ n ∷ nums ps
unfolding nums
nums_num n ps = refl

nums_sub : (t : Term) (ps : Parts) → nums (sub t ps) ≡ nums ps
unfolding nums
nums_sub t ps = refl

nums_end : nums end ≡ []
unfolding nums
nums_end = refl

module _ (i left : ℕ) {a : Area} {h e q : ℕ} (s : Scan a h e q (Wanted i left)) where
  pub number_over : e ≤ q → NumberAt a h i None
  number_over le = λ hs cs S c t w.
      let x = scan_over s le hs cs S c t w in
      x.1 ∙ ap (λ (l : List ℕ). get_or l left 0) nums_end

  module _ {k v r : ℕ} (m : Came a e q k v r) where
    pub number_here : k ≡ 0 → left ≡ 0 → NumberHere a h i q
    number_here z zl = record {
      kind = sym m.kind ∙ z;
      is = λ hs cs S c t w.
          let x = scan_here s m z hs cs S c t w in
          sym m.value ∙ sym (x.2 ∙ ap (λ (j : ℕ). get_or (nums (num v x.1)) j 0) zl ∙ ap (λ (l : List ℕ). get_or l 0 0) (nums_num v x.1));
    }

    pub number_next : k ≡ 0 → {n : ℕ} → left ≡ suc n → Scan a h e r (Wanted i n)
    number_next z {n} en =
        scan_number s m z (Wanted i n) (λ l w r x. x ∙ ap (λ (j : ℕ). get_or (nums (num v r)) j 0) en ∙ ap (λ (l : List ℕ). get_or l (suc n) 0) (nums_num v r))

    pub number_pass : (k ≡ 0 → ⊥) → Scan a h e r (Wanted i left)
    number_pass z = scan_child s m z (Wanted i left) (λ n w u r x. x ∙ ap (λ (l : List ℕ). get_or l left 0) (nums_sub u r))

-- a place past all tokens stands for the number that there is not
pub number_from : (a : Area) (h i : ℕ) (r : Option ℕ) (p d : ℕ) → p ≡ unwrap_or r d → length a.kinds ≤ d → length a.vals ≤ d → NumberAt a h i r → NumberHere a h i p
number_from a h i (Some q) p d e lk lv n = rw e n
number_from a h i None p d e lk lv n = record {
  kind = get_or-eq_default a.kinds 0 (omega (arith, e));
  is = λ hs cs S c t w. get_or-eq_default a.vals 0 (omega (arith, e)) ∙ sym (n hs cs S c t w);
}

-- ---- a key: k numbers have been passed, and none from the third on was x

pub record Passed (x k n : ℕ) (w r : Parts) : Type 0 where
  pub left : drop k (nums w) ≡ nums r
  pub none : (j : ℕ) → 3 + j < k → get_or (nums w) (3 + j) 0 ≡ x → ⊥

pub passed_start : (x : ℕ) (w : Parts) → Passed x 0 0 w w
passed_start x w = record { left = refl; none = λ j lt. absurd (omega arith) }

pub drop_next : {A : Type 0} (d : A) (k : ℕ) (l : List A) (v : A) (m : List A) → drop k l ≡ v ∷ m
    → (k < length l) × (get_or l k d ≡ v) × (drop (k + 1) l ≡ m) × (get_elem? l k ≡ some v)
drop_next d zero [] v m e = absurd (let z : ◌≡◌ {A = ℕ} 0 1 = cc in omega arith)
drop_next d zero (y ∷ l) v m e = (omega arith, cc, cc, cc)
drop_next d (suc k) [] v m e = absurd (let z : ◌≡◌ {A = ℕ} 0 1 = cc in omega arith)
drop_next d (suc k) (y ∷ l) v m e =
    let r = drop_next d k l v m e in
    let q : suc k + 1 ≡ suc (k + 1) = omega arith in
    (omega (arith, r.0), r.1, rw q r.2, r.3)

passed_num : (x k n : ℕ) (w : Parts) (v : ℕ) (r : Parts) → Passed x k n w (num v r) → (k < length (nums w)) × (get_or (nums w) k 0 ≡ v) × (drop (k + 1) (nums w) ≡ nums r)
passed_num x k n w v r p = let y = drop_next 0 k (nums w) v (nums r) (p.left ∙ nums_num v r) in (y.0, y.1, y.2)

-- the number at k is no key, or another
passed_next : (x k n : ℕ) (w : Parts) (v : ℕ) (r : Parts) → (3 ≤ k → v ≡ x → ⊥) → Passed x k n w (num v r) → Passed x (k + 1) n w r
passed_next x k n w v r ne p =
    let y = passed_num x k n w v r p in
    record { left = y.2; none = λ j lt z. go j lt z (dec_lt (3 + j) k) }
  where
    go : (j : ℕ) → 3 + j < k + 1 → get_or (nums w) (3 + j) 0 ≡ x → Dec (3 + j < k) → ⊥
    go j lt z (yes l) = p.none j l z
    go j lt z (no l) =
        let o : 3 + j ≡ k = omega arith in
        ne (omega arith) (sym (passed_num x k n w v r p).1 ∙ ap (λ (i : ℕ). get_or (nums w) i 0) (sym o) ∙ z)

module _ {a : Area} {h e q x k : ℕ} (s : Scan a h e q (Passed x k)) where
  pub key_over : e ≤ q → KeyOf a h x None
  key_over le = record {
    is = λ hs cs S c t w j lt z.
        let y = scan_over s le hs cs S c t w in
        let l = length-drop k (nums (row t)) in
        y.1.none j (omega (arith, ap length (y.1.left ∙ nums_end))) z;
  }

  module _ {j v r : ℕ} (m : Came a e q j v r) where
    pub key_here : j ≡ 0 → v ≡ x → 3 ≤ k → KeyOf a h x (Some (k - 3))
    key_here z vx k3 = record {
      is = λ hs cs S c t w.
          let y = scan_here s m z hs cs S c t w in
          let p = passed_num x k y.0 (row t) v y.1 y.2 in
          let o : 3 + (k - 3) ≡ k = omega arith in
          (rw o p.0, rw o (p.1 ∙ vx), λ i li. y.2.none i (omega arith));
    }

    pub key_next : j ≡ 0 → (3 ≤ k → v ≡ x → ⊥) → Scan a h e r (Passed x (k + 1))
    key_next z ne = scan_number s m z (Passed x (k + 1)) (λ n w r p. passed_next x k n w v r ne p)

    pub key_pass : (j ≡ 0 → ⊥) → Scan a h e r (Passed x k)
    key_pass z = scan_child s m z (Passed x k) (λ n w u r p. record { left = p.left ∙ nums_sub u r; none = p.none })

-- ---- the i-th child: n children have been passed

pub record Counted (m n : ℕ) (w r : Parts) : Type 0 where
  pub count : n ≡ m
  pub left : drop m (subs w) ≡ subs r

pub counted_start : (w : Parts) → Counted 0 0 w w
counted_start w = record { count = refl; left = refl }

pub subs_num : (n : ℕ) (ps : Parts) → subs (num n ps) ≡ subs ps
unfolding subs
subs_num n ps = refl

pub subs_sub : (t : Term) (ps : Parts) → subs (sub t ps) ≡ t ∷ subs ps
unfolding subs
subs_sub t ps = refl

pub subs_end : subs end ≡ []
unfolding subs
subs_end = refl

pub children_row : (t : Term) → subs (row t) ≡ children t
unfolding subs row children
children_row (var v) = refl
children_row (node k ps) = refl

pub elem_none : (i : ℕ) (l : List Term) → length l ≤ i → get_elem? l i ≡ none
elem_none i [] h = refl
elem_none zero (x ∷ l) h = absurd (omega arith)
elem_none (suc i) (x ∷ l) h = elem_none i l (omega arith)

module _ {a : Area} {h e q i : ℕ} (s : Scan a h e q (Counted i)) where
  pub child_over : (j : ℕ) → i ≤ j → e ≤ q → (hs cs : List ℕ) (S : ℕ → Bool) (c : ℕ) (t : Term) → Tree a hs cs S h c t → get_elem? (children t) j ≡ none
  child_over j ij le hs cs S c t w =
      let y = scan_over s le hs cs S c t w in
      let l = length-drop i (subs (row t)) in
      elem_none j (children t) (omega (arith, ap length (y.1.left ∙ subs_end), ap length (children_row t)))

  module _ {k v r : ℕ} (m : Came a e q k v r) where
    pub child_number : k ≡ 0 → Scan a h e r (Counted i)
    child_number z = scan_number s m z (Counted i) (λ n w r p. record { count = p.count; left = p.left ∙ subs_num v r })

    module _ (z : k ≡ 0 → ⊥) where
      pub child_next : Scan a h e r (Counted (i + 1))
      child_next = scan_child s m z (Counted (i + 1)) (λ n w u r p.
          record { count = ap (λ (j : ℕ). j + 1) p.count; left = (drop_next error i (subs w) u (subs r) (p.left ∙ subs_sub u r)).2 })

      pub child_found : (hs cs : List ℕ) (S : ℕ → Bool) (c : ℕ) (t : Term) → Tree a hs cs S h c t → {x y : ℕ} → x ≡ head_of hs c q i → y ≡ kids_of cs c i
          → (u : Term) × (get_elem? (children t) i ≡ some u) × Tree a hs cs S x y u
      child_found hs cs S c t w ex ey =
          let b = s.is hs cs S c t w in
          let d = parted_child a hs cs S b.rest m.before m.kind m.value z in (
            d.term,
            ap (λ (l : List Term). get_elem? l i) (sym (children_row t))
                ∙ (drop_next error i (subs (row t)) d.term (subs d.rest) (b.so.left ∙ ap subs d.is ∙ subs_sub d.term d.rest)).3,
            rw (ex, ey, ← b.so.count) d.tree,
          )
