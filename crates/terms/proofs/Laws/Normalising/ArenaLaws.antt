-- Trees in words: what a content stands for, taken apart token by token, kept where the records that it looks at are kept, and built anew over other
-- children.
use mathlib.Core.Path.{◌≡◌, refl, sym, ap, ◌∙◌}
use mathlib.Core.Bool.{Bool, true, false, ◌||◌}
use mathlib.Core.List.{List, [], ◌∷◌}
use mathlib.Core.Logic.{⊎_elim, ◌⊎◌, inl, inr}
use Prim.Native.Nat.{ℕ, zero, suc, ◌+◌, ◌≤◌, ◌<◌}
use native.Mathlib.Numerals.{add-one}
use native.Mathlib.Omega.{arith}
use borrow.Author.Tests.{lt-ltb, le-leb, ltb-true, leb-true}
use lib.Dec.{ltb, leb}
use lib.ListN.{length, get_or}
use Rattle.terms.specs.Words.Tokens.{Area}
use Rattle.terms.specs.Term.{Term, Parts, var, node, end, num, sub, items}
use Rattle.terms.specs.Words.Held.{Held, HeldParts, span}
use Rattle.terms.specs.Tree.{error, subs, fill, children, with_kids, row}
use Rattle.terms.specs.Words.Arena.{head_of, kids_of, Marked, Tree, variable, branch, Parted, over, number, child, grow, Below}
use Rattle.terms.proofs.Laws.Held.HeldLaws.{head_kind, head_value, held_first, kind_some, span_one, span_node, items_some, held_num, held_sub, held_node}
use Rattle.terms.proofs.Laws.Held.SameLaws.{both, span_held}

-- ---- marks

or_left : (a b : Bool) → a ≡ true → (a || b) ≡ true
or_left a b e = rw e

or_right : (a b : Bool) → b ≡ true → (a || b) ≡ true
or_right true b e = refl
or_right false b e = e

or_case : (a b : Bool) → (a || b) ≡ true → (a ≡ true) ⊎ (b ≡ true)
or_case true b e = inl refl
or_case false b e = inr e

module _ (S : ℕ → Bool) (a b i : ℕ) where
  pub grow_old : S i ≡ true → grow S a b i ≡ true
  unfolding grow
  grow_old e = or_left (S i) _ e

  pub grow_new : a ≤ i → i < b → grow S a b i ≡ true
  unfolding grow
  grow_new h k = or_right (S i) _ (rw (le-leb a i h, lt-ltb i b k))

  pub grow_case : grow S a b i ≡ true → (S i ≡ true) ⊎ ((a ≤ i) × (i < b))
  unfolding grow
  grow_case e =
      ⊎_elim (λ x. inl x) (λ y. let q = both (leb a i) (ltb i b) y in inr (leb-true a i q.0, ltb-true i b q.1)) (or_case (S i) _ e)

pub grow_below : (S : ℕ → Bool) (n a b : ℕ) → Below S n → n ≤ b → Below (grow S a b) b
grow_below S n a b h k i e = ⊎_elim (λ x. let q = h i x in omega arith) (λ y. y.1) (grow_case S a b i e)

-- ---- trees kept

-- the records marked by S are the same, and marked by S' too
pub record Keeps (hs cs : List ℕ) (S : ℕ → Bool) (hs' cs' : List ℕ) (S' : ℕ → Bool) : Type 0 where
  pub marks : (i : ℕ) → S i ≡ true → S' i ≡ true
  pub heads : (i : ℕ) → S i ≡ true → get_or hs' i 0 ≡ get_or hs i 0
  pub kids : (i : ℕ) → S i ≡ true → get_or cs' i 0 ≡ get_or cs i 0

pub wider : (hs cs : List ℕ) (S S' : ℕ → Bool) → ((i : ℕ) → S i ≡ true → S' i ≡ true) → Keeps hs cs S hs cs S'
wider hs cs S S' f = record { marks = f; heads = λ i m. refl; kids = λ i m. refl }

module _ (a : Area) (hs cs : List ℕ) (S : ℕ → Bool) (hs' cs' : List ℕ) (S' : ℕ → Bool) (k : Keeps hs cs S hs' cs' S') where
  mutual
    pub tree_kept : {h c : ℕ} {t : Term} → Tree a hs cs S h c t → Tree a hs' cs' S' h c t
    tree_kept (variable e f l) = variable e f l
    tree_kept (branch e f o l p) = branch e f o l (parted_kept p)

    pub parted_kept : {c e q n : ℕ} {ps : Parts} → Parted a hs cs S c e q n ps → Parted a hs' cs' S' c e q n ps
    parted_kept (over e) = over e
    parted_kept (number lt e f p) = number lt e f (parted_kept p)
    parted_kept (child {c = zero} {n = n} {t = t} lt e f o m w p) = child {c = zero} {n = n} {t = t} lt e f o tt (tree_kept w) (parted_kept p)
    parted_kept (child {c = suc d} {n = n} {t = t} lt e f o m w p) =
        child {c = suc d} {n = n} {t = t} lt e f o (k.marks (d + n) m) (rw (k.heads (d + n) m, k.kids (d + n) m) (tree_kept w)) (parted_kept p)

-- ---- terms that the area holds

module _ (a : Area) (hs cs : List ℕ) (S : ℕ → Bool) where
  mutual
    unfolding head_kind head_value items

    pub held_tree : (t : Term) (p : ℕ) → Held a.kinds a.vals p t → Tree a hs cs S p 0 t
    held_tree (var v) p h = let f = held_first a.kinds a.vals p (var v) h in variable f.0 f.1 h.within
    held_tree (node k ps) p h =
        let f = held_first a.kinds a.vals p (node k ps) h in
        branch {k = k} (f.0 ∙ omega arith) f.1 (omega arith) h.within (held_parted ps (p + 1) (p + length (items (node k ps))) 0 (held_node a.kinds a.vals p k ps h))

    pub held_parted : (ps : Parts) (q e n : ℕ) → HeldParts a.kinds a.vals q e ps → Parted a hs cs S 0 e q n ps
    held_parted end q e n h = over {e = e} {q = q} (omega (arith, h.ends))
    held_parted (num v ps) q e n h =
        let f = held_num a.kinds a.vals q e v ps h in
        number {e = e} {q = q} (omega (arith, h.ends)) f.0 f.1 (held_parted ps (q + 1) e n f.2)
    held_parted (sub t ps) q e n h =
        let f = held_sub a.kinds a.vals q e t ps h in
        let l = span_held a.kinds a.vals q t f.0 in
        child {c = 0} {e = e} {q = q} {n = n} {t = t} (omega (arith, f.1.ends, items_some t)) (λ z. omega (arith, (held_first a.kinds a.vals q t f.0).0, kind_some t)) l (items_some t) tt
        (held_tree t q f.0) (held_parted ps (q + length (items t)) e (n + 1) f.1)

-- ---- a row taken apart by its first token

module _ (a : Area) (hs cs : List ℕ) (S : ℕ → Bool) where
  pub parted_over : {c e q n : ℕ} {ps : Parts} → Parted a hs cs S c e q n ps → e ≤ q → ps ≡ end
  parted_over (over z) h = refl
  parted_over (number lt z f p) h = absurd (omega arith)
  parted_over (child lt z f o m w p) h = absurd (omega arith)

  pub parted_more : {c e q n : ℕ} {ps : Parts} → Parted a hs cs S c e q n ps → q < e → ps ≡ end → ⊥
  parted_more (over z) h y = omega arith
  parted_more (number lt z f p) h y = let x : ◌≡◌ {A = ℕ} 0 1 = cc in omega arith
  parted_more (child lt z f o m w p) h y = let x : ◌≡◌ {A = ℕ} 0 1 = cc in omega arith

  -- a number, whose value is v
  pub record Number (c e q n : ℕ) (ps : Parts) (v : ℕ) : Type 0 where
    pub rest : Parts
    pub is : ps ≡ num v rest
    pub behind : Parted a hs cs S c e (q + 1) n rest

  pub parted_number : {c e q n : ℕ} {ps : Parts} → Parted a hs cs S c e q n ps → q < e → {k v : ℕ} → k ≡ get_or a.kinds q 0 → v ≡ get_or a.vals q 0 → k ≡ 0
      → Number c e q n ps v
  parted_number (over z) h ek ev y = absurd (omega arith)
  parted_number (number {ps = r} lt z f p) h ek ev y = record { rest = r; is = ap (λ (x : ℕ). num x r) (sym f ∙ sym ev); behind = p }
  parted_number (child lt z f o m w p) h ek ev y = absurd (z (sym ek ∙ y))

  -- a child, whose first token has the kind k and the value v
  pub record Child (c e q n : ℕ) (ps : Parts) (k v : ℕ) : Type 0 where
    pub term : Term
    pub rest : Parts
    pub is : ps ≡ sub term rest
    pub some : 1 ≤ span k v
    pub mark : Marked S c n
    pub tree : Tree a hs cs S (head_of hs c q n) (kids_of cs c n) term
    pub behind : Parted a hs cs S c e (q + span k v) (n + 1) rest

  pub parted_child : {c e q n : ℕ} {ps : Parts} → Parted a hs cs S c e q n ps → q < e → {k v : ℕ} → k ≡ get_or a.kinds q 0 → v ≡ get_or a.vals q 0
      → (k ≡ 0 → ⊥) → Child c e q n ps k v
  parted_child (over z) h ek ev y = absurd (omega arith)
  parted_child (number lt z f p) h ek ev y = absurd (y (ek ∙ z))
  parted_child (child {l = l} {t = t} {ps = r} lt z f o m w p) h {k = k} {v = v} ek ev y =
      let g : span k v ≡ l = rw (ek, ev) f in
      record { term = t; rest = r; is = refl; some = omega arith; mark = m; tree = w; behind = rw g p }

-- ---- a tree's first token and its row

module _ (a : Area) (hs cs : List ℕ) (S : ℕ → Bool) where
  pub tree_kind : {h c : ℕ} {t : Term} → Tree a hs cs S h c t → {k : ℕ} → k ≡ get_or a.kinds h 0 → k ≡ head_kind t
  unfolding head_kind
  tree_kind (variable e f l) ek = ek ∙ e
  tree_kind (branch e f o l p) ek = ek ∙ e ∙ omega arith

  pub tree_row : {h c : ℕ} {t : Term} → Tree a hs cs S h c t → {k v : ℕ} → k ≡ get_or a.kinds h 0 → v ≡ get_or a.vals h 0
      → (1 ≤ span k v) × (h + span k v ≤ length a.kinds) × Parted a hs cs S c (h + span k v) (h + 1) 0 (row t)
  unfolding row
  tree_row (variable e f l) {k = k} {v = v} ek ev =
      let g : span k v ≡ 1 = span_one k v (omega arith) in
      (omega arith, omega arith, rw g (over refl))
  tree_row (branch {l = b} e f o l p) {k = k} {v = v} ek ev =
      let g : span k v ≡ b = span_node k v (omega arith) ∙ ev ∙ f in
      (omega arith, omega arith, rw g p)

-- ---- a tree with other children, which stand at the records from k on

module _ (a : Area) (hs cs : List ℕ) (S : ℕ → Bool) (hs' cs' : List ℕ) (S' : ℕ → Bool) (k : ℕ) where
  -- the n-th child and those after it
  abbrev Kids : ℕ → List Term → Type 0
  Kids n ts = (j : ℕ) → j < length ts → (S' (k + (n + j)) ≡ true) × Tree a hs' cs' S' (get_or hs' (k + (n + j)) 0) (get_or cs' (k + (n + j)) 0) (get_or ts j error)

  kids_first : (n : ℕ) (t : Term) (ts : List Term) → Kids n (t ∷ ts) → (S' (k + n) ≡ true) × Tree a hs' cs' S' (get_or hs' (k + n) 0) (get_or cs' (k + n) 0) t
  kids_first n t ts f =
      let e : k + (n + 0) ≡ k + n = omega arith in
      rw e at (f 0 (omega arith))

  kids_next : (n : ℕ) (t : Term) (ts : List Term) → Kids n (t ∷ ts) → Kids (n + 1) ts
  kids_next n t ts f j lt =
      let e : k + (n + suc j) ≡ k + (n + 1 + j) = omega arith in
      rw e at (f (suc j) (omega arith))

  parted_anew : {c e q n : ℕ} {ps : Parts} → Parted a hs cs S c e q n ps → (ts : List Term) → length ts ≡ length (subs ps) → Kids n ts
      → Parted a hs' cs' S' (suc k) e q n (fill ps ts)
  unfolding subs fill
  parted_anew (over z) ts l f = over z
  parted_anew (number {ps = r} lt z g p) ts l f = number {ps = fill r ts} lt z g (parted_anew p ts l f)
  parted_anew (child lt z g o m w p) [] l f = absurd (omega arith)
  parted_anew (child {n = n} {ps = r} lt z g o m w p) (u ∷ ts) l f =
      let x = kids_first n u ts f in
      child {t = u} {ps = fill r ts} lt z g o x.0 x.1 (parted_anew p ts (omega arith) (kids_next n u ts f))

  pub tree_anew : {h c : ℕ} {t : Term} → Tree a hs cs S h c t → (ts : List Term) → length ts ≡ length (children t)
      → ((j : ℕ) → j < length ts → (S' (k + j) ≡ true) × Tree a hs' cs' S' (get_or hs' (k + j) 0) (get_or cs' (k + j) 0) (get_or ts j error))
      → Tree a hs' cs' S' h (k + 1) (with_kids t ts)
  unfolding children with_kids
  tree_anew (variable e f l) ts z g = variable e f l
  tree_anew (branch {ps = ps} e f o l p) ts z g =
      branch {c = k + 1} {ps = fill ps ts} e f o l (rw add-one (parted_anew p ts z (λ j lt. let q : k + (0 + j) ≡ k + j = omega arith in rw q (g j lt))))
