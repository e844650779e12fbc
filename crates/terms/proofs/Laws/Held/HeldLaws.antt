-- Terms and rows in the areas, taken apart token by token; and the tokens tell the term.
use mathlib.Core.Path.{◌≡◌, refl, sym, ap, ◌∙◌}
use mathlib.Core.List.{List, [], ◌∷◌, ◌++◌}
use Prim.Native.Nat.{ℕ, zero, suc, pred, ◌+◌, ◌-◌, ◌≤◌, ◌<◌}
use native.Mathlib.Nat.{add-zero, add-suc, suc-add, zero-add}
use native.Mathlib.Numerals.{add-one}
use native.Mathlib.Omega.{arith}
use lib.ListN.{length, get_or, length-append}
use Rattle.terms.specs.declared.Part.{Part}
use Rattle.terms.specs.Words.Lent.{AgreeIn, toks_in}
use Rattle.terms.specs.Words.Tokens.{Agree, Item, item, spell, toks}
use Rattle.terms.specs.Term.{Term, Parts, var, node, end, num, sub, items, part_items}
use Rattle.terms.specs.Words.Held.{Held, HeldParts, span}

-- ---- spans

pub span_one : (k v : ℕ) → k < 2 → span k v ≡ 1
unfolding span
span_one zero v h = refl
span_one (suc zero) v h = refl
span_one (suc (suc k)) v h = absurd (omega arith)

pub span_node : (k v : ℕ) → 2 ≤ k → span k v ≡ v
unfolding span
span_node zero v h = absurd (omega arith)
span_node (suc zero) v h = absurd (omega arith)
span_node (suc (suc k)) v h = refl

-- ---- the first token of a term

unfoldable pub head_kind : Term → ℕ
head_kind (var v) = 1
head_kind (node k ps) = suc (suc k)

unfoldable pub head_value : Term → ℕ
head_value (var v) = v
head_value (node k ps) = suc (length (part_items ps))

pub head_rest : Term → List Item
head_rest (var v) = []
head_rest (node k ps) = part_items ps

pub items_cons : (t : Term) → items t ≡ item (head_kind t) (head_value t) ∷ head_rest t
unfolding items head_kind head_value head_rest
items_cons (var v) = refl
items_cons (node k ps) = refl

pub kind_some : (t : Term) → 1 ≤ head_kind t
unfolding head_kind
kind_some (var v) = omega arith
kind_some (node k ps) = omega arith

-- a term's span is the number of its tokens
pub span_is : (t : Term) → span (head_kind t) (head_value t) ≡ length (items t)
unfolding head_kind head_value span items
span_is (var v) = refl
span_is (node k ps) = refl

pub toks_cons : (ks vs : List ℕ) (a c : ℕ) → 0 < c → toks ks vs a c ≡ item (get_or ks a 0) (get_or vs a 0) ∷ toks ks vs (suc a) (pred c)
unfolding spell
toks_cons ks vs a zero h = absurd (omega arith)
toks_cons ks vs a (suc c) h = refl

pub items_some : (t : Term) → 0 < length (items t)
items_some t = rw (items_cons t) (omega arith)

pub held_first : (ks vs : List ℕ) (p : ℕ) (t : Term) → Held ks vs p t → (get_or ks p 0 ≡ head_kind t) × (get_or vs p 0 ≡ head_value t)
held_first ks vs p t h =
    let e = sym (toks_cons ks vs p (length (items t)) (items_some t)) ∙ h.tokens ∙ items_cons t in
    (cc, cc)

-- ---- the tokens say which term it is

pub split_append : (a a' b b' : List Item) → length a ≡ length a' → a ++ b ≡ a' ++ b' → (a ≡ a') × (b ≡ b')
split_append [] [] b b' l e = (refl, e)
split_append [] (x ∷ a') b b' l e = absurd (omega arith)
split_append (x ∷ a) [] b b' l e = absurd (omega arith)
split_append (x ∷ a) (y ∷ a') b b' l e =
    let h : x ≡ y = cc in
    let r : a ++ b ≡ a' ++ b' = cc in
    let s = split_append a a' b b' (omega arith) r in
    (cc, s.1)

-- no number token begins a term, and no term has no token
not_number : (t : Term) (n : ℕ) (l m : List Item) → item 0 n ∷ l ≡ items t ++ m → ⊥
not_number t n l m e =
    let q : item 0 n ∷ l ≡ item (head_kind t) (head_value t) ∷ (head_rest t ++ m) = e ∙ ap (λ (x : List Item). x ++ m) (items_cons t) in
    let z : 0 ≡ head_kind t = cc in
    omega (arith, kind_some t)

not_empty : (t : Term) (m : List Item) → [] ≡ items t ++ m → ⊥
not_empty t m e = omega (arith, ap length e, length-append (items t) m, items_some t)

mutual
  unfolding items

  items_inj : (t u : Term) (l m : List Item) → items t ++ l ≡ items u ++ m → (t ≡ u) × (l ≡ m)
  items_inj (var v) (var w) l m e = (cc, cc)
  items_inj (var v) (node k ps) l m e = absurd (let z : 1 ≡ suc (suc k) = cc in omega arith)
  items_inj (node k ps) (var w) l m e = absurd (let z : suc (suc k) ≡ 1 = cc in omega arith)
  items_inj (node k ps) (node j qs) l m e =
      let s = split_append (part_items ps) (part_items qs) l m (cc) (cc) in
      let r = parts_inj ps qs s.0 in
      (cc, s.1)

  parts_inj : (ps qs : Parts) → part_items ps ≡ part_items qs → ps ≡ qs
  parts_inj end end e = refl
  parts_inj end (num n qs) e = absurd (omega (arith, ap length e))
  parts_inj end (sub t qs) e = absurd (not_empty t (part_items qs) e)
  parts_inj (num n ps) end e = absurd (omega (arith, ap length e))
  parts_inj (num n ps) (num m qs) e = let r = parts_inj ps qs (cc) in cc
  parts_inj (num n ps) (sub t qs) e = absurd (not_number t n (part_items ps) (part_items qs) e)
  parts_inj (sub t ps) end e = absurd (not_empty t (part_items ps) (sym e))
  parts_inj (sub t ps) (num n qs) e = absurd (not_number t n (part_items qs) (part_items ps) (sym e))
  parts_inj (sub t ps) (sub u qs) e =
      let s = items_inj t u (part_items ps) (part_items qs) e in
      let r = parts_inj ps qs s.1 in
      cc

pub items_injective : (t u : Term) → items t ≡ items u → t ≡ u
items_injective t u e = (items_inj t u [] [] (ap (λ (l : List Item). l ++ []) e)).0

-- ---- rows

module _ (ks vs : List ℕ) where
  pub toks_add : (a m n : ℕ) → toks ks vs a (m + n) ≡ toks ks vs a m ++ toks ks vs (a + m) n
  unfolding spell
  toks_add a zero n = rw (zero-add, add-zero)
  toks_add a (suc m) n = rw (suc-add, add-suc, ← suc-add) (ap {B = List Item} (λ l. item (get_or ks a 0) (get_or vs a 0) ∷ l) (toks_add (suc a) m n))

  toks_length : (a m : ℕ) → length (toks ks vs a m) ≡ m
  unfolding spell
  toks_length a zero = refl
  toks_length a (suc m) = ap suc (toks_length (suc a) m)

  -- a row that begins with a number, and one that begins with a term
  pub held_num : (a e n : ℕ) (ps : Parts) → HeldParts ks vs a e (num n ps) → (get_or ks a 0 ≡ 0) × (get_or vs a 0 ≡ n) × HeldParts ks vs (a + 1) e ps
  unfolding items spell
  held_num a e n ps h =
      let q = h.tokens in
      (cc, cc, record { tokens = rw add-one (cc); ends = omega (arith, h.ends); within = h.within })

  pub held_sub : (a e : ℕ) (t : Term) (ps : Parts) → HeldParts ks vs a e (sub t ps) → Held ks vs a t × HeldParts ks vs (a + length (items t)) e ps
  unfolding items
  held_sub a e t ps h =
      let l = length-append (items t) (part_items ps) in
      let q : toks ks vs a (length (items t)) ++ toks ks vs (a + length (items t)) (length (part_items ps)) ≡ items t ++ part_items ps
      = sym (toks_add a (length (items t)) (length (part_items ps))) ∙ ap (toks ks vs a) (sym l) ∙ h.tokens in
      let s = split_append (toks ks vs a (length (items t))) (items t) (toks ks vs (a + length (items t)) (length (part_items ps))) (part_items ps) (toks_length a (length (items t))) q in (
        record { tokens = s.0; within = omega (arith, h.ends, h.within, l) },
        record { tokens = s.1; ends = omega (arith, h.ends, l); within = h.within },
      )

  -- a node's row
  pub held_node : (p k : ℕ) (ps : Parts) → Held ks vs p (node k ps) → HeldParts ks vs (p + 1) (p + length (items (node k ps))) ps
  unfolding items spell
  held_node p k ps h =
      let q = h.tokens in
      record { tokens = rw add-one (cc); ends = omega arith; within = h.within }

  -- what stands first in a row, by its token
  pub row_end : (i e : ℕ) (ps : Parts) → HeldParts ks vs i e ps → e ≤ i → ps ≡ end
  unfolding items
  row_end i e end h m = refl
  row_end i e (num n ps) h m = absurd (omega (arith, h.ends))
  row_end i e (sub t ps) h m = absurd (omega (arith, h.ends, length-append (items t) (part_items ps), items_some t))

  sub_kind : (i e : ℕ) (t : Term) (ps : Parts) → HeldParts ks vs i e (sub t ps) → 1 ≤ get_or ks i 0
  sub_kind i e t ps h = omega (arith, (held_first ks vs i t (held_sub i e t ps h).0).0, kind_some t)

  pub end_ends : (i e : ℕ) → HeldParts ks vs i e end → i ≡ e
  unfolding items
  end_ends i e h = omega (arith, h.ends)

  pub row_num : (i e : ℕ) (ps : Parts) → HeldParts ks vs i e ps → i < e → get_or ks i 0 ≡ 0
      → (n : ℕ) × (r : Parts) × (ps ≡ num n r) × (get_or vs i 0 ≡ n) × HeldParts ks vs (i + 1) e r
  row_num i e end h m k = absurd (omega (arith, end_ends i e h))
  row_num i e (num n ps) h m k = let q = held_num i e n ps h in (n, ps, refl, q.1, q.2)
  row_num i e (sub t ps) h m k = absurd (omega (arith, sub_kind i e t ps h))

  pub row_sub : (i e : ℕ) (ps : Parts) → HeldParts ks vs i e ps → i < e → (get_or ks i 0 ≡ 0 → ⊥)
      → (t : Term) × (r : Parts) × (ps ≡ sub t r) × Held ks vs i t × HeldParts ks vs (i + length (items t)) e r
  row_sub i e end h m k = absurd (omega (arith, end_ends i e h))
  row_sub i e (num n ps) h m k = absurd (k (held_num i e n ps h).0)
  row_sub i e (sub t ps) h m k = let q = held_sub i e t ps h in (t, ps, refl, q.0, q.1)

-- ---- two runs

agree_first : (ws : List ℕ) (a b c : ℕ) → Agree ws a b (suc c) → get_or ws a 0 ≡ get_or ws b 0
agree_first ws a b c f =
    let p : a + 0 ≡ a = omega arith in
    let q : b + 0 ≡ b = omega arith in
    rw (p, q) at (f 0 (omega arith))

agree_rest : (ws : List ℕ) (a b c : ℕ) → Agree ws a b (suc c) → Agree ws (suc a) (suc b) c
agree_rest ws a b c f i lt =
    let p : suc a + i ≡ a + suc i = omega arith in
    let q : suc b + i ≡ b + suc i = omega arith in
    rw (p, q) (f (suc i) (omega arith))

agree_more : (ws : List ℕ) (a b c : ℕ) → get_or ws a 0 ≡ get_or ws b 0 → Agree ws (suc a) (suc b) c → Agree ws a b (suc c)
agree_more ws a b c e f zero lt =
    let p : a + 0 ≡ a = omega arith in
    let q : b + 0 ≡ b = omega arith in
    rw (p, q) e
agree_more ws a b c e f (suc i) lt =
    let p : a + suc i ≡ suc a + i = omega arith in
    let q : b + suc i ≡ suc b + i = omega arith in
    rw (p, q) (f i (omega arith))

module _ (ks vs : List ℕ) where
  -- two runs are the same where their kinds and their values are
  pub toks_agree : (a b c : ℕ) → Agree ks a b c → Agree vs a b c → toks ks vs a c ≡ toks ks vs b c
  unfolding spell
  toks_agree a b zero k v = refl
  toks_agree a b (suc c) k v =
      let x = agree_first ks a b c k in
      let y = agree_first vs a b c v in
      let z = toks_agree (suc a) (suc b) c (agree_rest ks a b c k) (agree_rest vs a b c v) in
      cc

  pub agree_toks : (a b c : ℕ) → toks ks vs a c ≡ toks ks vs b c → Agree ks a b c × Agree vs a b c
  unfolding spell
  agree_toks a b zero e = (λ i lt. absurd (omega arith), λ i lt. absurd (omega arith))
  agree_toks a b (suc c) e =
      let r = agree_toks (suc a) (suc b) c (cc) in
      (agree_more ks a b c (cc) r.0, agree_more vs a b c (cc) r.1)

  -- two parts are the same where their kinds and their values are
  pub parts_agree : (a b : Part) → AgreeIn ks a b → AgreeIn vs a b → toks_in ks vs a ≡ toks_in ks vs b
  parts_agree a b k v = toks_agree a.from b.from (a.end - a.from) k.1 v.1 ∙ ap (toks ks vs b.from) k.0

  pub agree_parts : (a b : Part) → toks_in ks vs a ≡ toks_in ks vs b → AgreeIn ks a b × AgreeIn vs a b
  agree_parts a b e =
      let n : a.end - a.from ≡ b.end - b.from = sym (toks_length ks vs a.from (a.end - a.from)) ∙ ap length e ∙ toks_length ks vs b.from (b.end - b.from) in
      let x = agree_toks a.from b.from (a.end - a.from) (e ∙ ap (toks ks vs b.from) (sym n)) in
      ((n, x.0), (n, x.1))
