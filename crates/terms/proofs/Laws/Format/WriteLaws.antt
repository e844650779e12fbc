-- Laws of writing: tokens, runs of them, and the bytes of a term that the areas hold.
use mathlib.Core.Path.{◌≡◌, refl, sym, ap, ◌∙◌}
use mathlib.Core.List.{List, [], ◌∷◌, ◌++◌, append_assoc, append-nil}
use Prim.Native.Nat.{ℕ, zero, suc, ◌+◌, ◌-◌, ◌*◌, ◌/◌, ◌%◌, ◌^◌, ◌≤◌, ◌<◌}
use native.Mathlib.Decide.{dec_lt}
use native.Mathlib.Nat.{add-zero, add-suc, suc-add, zero-add}
use native.Mathlib.Numerals.{add-one}
use native.Mathlib.Omega.{arith}
use lib.ListN.{length, get_or, length-append}
use lib.Seq.{sets, length-sets}
use Rattle.terms.specs.Number.{shortest}
use Rattle.terms.specs.Words.Tokens.{Item, item, spell, toks}
use Rattle.terms.specs.Term.{Term, Parts, var, node, end, num, sub, items, part_items, bytes, part_bytes, Held}
use Rattle.terms.specs.Words.TokenBytes.{plain, spelt}
use Rattle.terms.proofs.Laws.Numbers.Shortest.{shortest_last, shortest_more}

pub sets_append : (a b l : List ℕ) (i : ℕ) → sets l i (a ++ b) ≡ sets (sets l i a) (i + length a) b
sets_append [] b l i = rw add-zero
sets_append (x ∷ a) b l i = rw (add-suc, ← suc-add) (sets_append a b (lib.ListN.set l i x) (suc i))

-- a writer's state: rem is left to write at i, and then all that was to be written at `at` is written
pub record Left (out₀ : List ℕ) (at : ℕ) (whole out : List ℕ) (i : ℕ) (rem : List ℕ) : Type 0 where
  pub place : i + length rem ≡ at + length whole
  pub same : sets out i rem ≡ sets out₀ at whole
  pub long : length out ≡ length out₀

module _ (out₀ : List ℕ) (at : ℕ) (whole : List ℕ) where
  pub start : (rem : List ℕ) → rem ≡ whole → Left out₀ at whole out₀ at rem
  start rem e = record { place = rw e; same = rw e; long = refl }

  pub advance : (out : List ℕ) (i : ℕ) (rem x rest out' : List ℕ) (j : ℕ) → Left out₀ at whole out i rem
      → rem ≡ x ++ rest → j ≡ i + length x → out' ≡ sets out i x → Left out₀ at whole out' j rest
  advance out i rem x rest out' j h e ej eo = record {
    place = omega (arith, h.place, ap length e, length-append x rest);
    same = rw (eo, ej) (sym (sets_append x rest out i) ∙ ap (λ (l : List ℕ). sets out i l) (sym e) ∙ h.same);
    long = ap length eo ∙ length-sets out i x ∙ h.long;
  }

  pub written : (out : List ℕ) (i : ℕ) (rem : List ℕ) → Left out₀ at whole out i rem → rem ≡ []
      → (i ≡ at + length whole) × (out ≡ sets out₀ at whole)
  written out i rem h e =
      (omega (arith, h.place, ap length e), sym (ap (λ (l : List ℕ). sets out i l) e) ∙ h.same)

-- one token
pub plain_number : (k v : ℕ) → k ≡ 0 → plain k v ≡ shortest v
unfolding plain
plain_number k v h = rw h

pub plain_var : (k v : ℕ) → k ≡ 1 → plain k v ≡ 1 ∷ shortest v
unfolding plain
plain_var k v h = rw h

pub plain_head : (k v : ℕ) → 2 ≤ k → plain k v ≡ ((k - 2) % 256) ∷ []
unfolding plain
plain_head zero v h = absurd (omega arith)
plain_head (suc zero) v h = absurd (omega arith)
plain_head (suc (suc k)) v h = ap {B = List ℕ} (λ j. (j % 256) ∷ []) (omega arith)

-- a form is not empty
pub some_byte : (v : ℕ) → 1 ≤ length (shortest v)
some_byte v = go (dec_lt v 128)
  where
    go : Dec (v < 128) → 1 ≤ length (shortest v)
    go (yes h) = omega (arith, ap length (shortest_last v h))
    go (no h) = omega (arith, ap length (shortest_more v (omega arith)))

-- one group more for a number 128 times as large
short : (k m v : ℕ) → v < 128 * m → ((u : ℕ) → u < m → length (shortest u) ≤ k) → length (shortest v) ≤ 1 + k
short k m v h ih = go (dec_lt v 128)
  where
    go : Dec (v < 128) → length (shortest v) ≤ 1 + k
    go (yes p) = omega (arith, ap length (shortest_last v p))
    go (no p) = omega (arith, ap length (shortest_more v (omega arith)), ih (v / 128) (omega arith))

-- a word has at most five bytes
pub short_word : (v : ℕ) → v < 2 ^ 32 → length (shortest v) ≤ 5
short_word v h =
    short 4 33554432 v (omega arith) (λ u g. short 3 262144 u (omega arith) (λ u g. short 2 2048 u (omega arith) (λ u g. short 1 16 u (omega arith) (λ u g. omega (arith, ap length (shortest_last u (omega arith)))))))

pub plain_some : (k v : ℕ) → 1 ≤ length (plain k v)
unfolding plain
plain_some zero v = some_byte v
plain_some (suc zero) v = omega arith
plain_some (suc (suc k)) v = omega arith

pub plain_short : (k v : ℕ) → v < 2 ^ 32 → length (plain k v) ≤ 6
unfolding plain
plain_short zero v h = omega (arith, short_word v h)
plain_short (suc zero) v h = omega (arith, short_word v h)
plain_short (suc (suc k)) v h = omega arith

-- a run
module _ {A : Type 0} (f : ℕ → ℕ → List A) (ks vs : List ℕ) where
  spell_suc : (a c : ℕ) → spell f ks vs a (suc c) ≡ f (get_or ks a 0) (get_or vs a 0) ++ spell f ks vs (suc a) c
  unfolding spell
  spell_suc a c = refl

  pub spell_none : (a c : ℕ) → c ≡ 0 → spell f ks vs a c ≡ []
  unfolding spell
  spell_none a c h = rw h

  pub spell_step : (p e : ℕ) → p < e → spell f ks vs p (e - p) ≡ f (get_or ks p 0) (get_or vs p 0) ++ spell f ks vs (p + 1) (e - (p + 1))
  spell_step p e h =
      let m : e - p ≡ suc (e - (p + 1)) = omega arith in
      ap (λ (c : ℕ). spell f ks vs p c) m ∙ spell_suc p (e - (p + 1)) ∙ ap (λ (q : ℕ). f (get_or ks p 0) (get_or vs p 0) ++ spell f ks vs q (e - (p + 1))) (sym (add-one p))

  pub spell_more : (a i c : ℕ) → i < c
      → spell f ks vs (a + i) (c - i) ≡ f (get_or ks (a + i) 0) (get_or vs (a + i) 0) ++ spell f ks vs (a + (i + 1)) (c - (i + 1))
  spell_more a i c h =
      let m : c - i ≡ suc (c - (i + 1)) = omega arith in
      let q : a + (i + 1) ≡ suc (a + i) = omega arith in
      rw (m, q) (spell_suc (a + i) (c - (i + 1)))

  pub length_step : (p e : ℕ) → p < e
      → length (spell f ks vs p (e - p)) ≡ length (f (get_or ks p 0) (get_or vs p 0)) + length (spell f ks vs (p + 1) (e - (p + 1)))
  length_step p e h = ap length (spell_step p e h) ∙ length-append (f (get_or ks p 0) (get_or vs p 0)) (spell f ks vs (p + 1) (e - (p + 1)))

pub spelt_short : (ks vs : List ℕ) → ((i : ℕ) → get_or vs i 0 < 2 ^ 32) → (a c : ℕ) → length (spelt ks vs a c) ≤ 6 * c
unfolding spell
spelt_short ks vs w a zero = omega arith
spelt_short ks vs w a (suc c) =
    omega (arith, length-append (plain (get_or ks a 0) (get_or vs a 0)) (spelt ks vs (suc a) c), plain_short (get_or ks a 0) (get_or vs a 0) (w a), spelt_short ks vs w (suc a) c)

-- a run in two parts
pub spelt_add : (ks vs : List ℕ) (a m n : ℕ) → spelt ks vs a (m + n) ≡ spelt ks vs a m ++ spelt ks vs (a + m) n
unfolding spell
spelt_add ks vs a zero n = rw (zero-add, add-zero)
spelt_add ks vs a (suc m) n = rw (suc-add, add-suc, ← suc-add, append_assoc) (ap (λ (l : List ℕ). plain (get_or ks a 0) (get_or vs a 0) ++ l) (spelt_add ks vs (suc a) m n))

-- ---- the bytes of a term that the areas hold

-- the bytes of a list of tokens
unfoldable over : List Item → List ℕ
over [] = []
over (item k v ∷ l) = plain k v ++ over l

over-append : (l m : List Item) → over (l ++ m) ≡ over l ++ over m
unfolding over
over-append [] m = refl
over-append (item k v ∷ l) m = rw (over-append l m) (sym (append_assoc (plain k v) (over l) (over m)))

spelt_over : (ks vs : List ℕ) (a c : ℕ) → spelt ks vs a c ≡ over (toks ks vs a c)
unfolding over spell
spelt_over ks vs a zero = refl
spelt_over ks vs a (suc c) = rw (spelt_over ks vs (suc a) c)

-- equal tokens write the same
pub spelt_toks : (ks vs js us : List ℕ) (a b c : ℕ) → toks ks vs a c ≡ toks js us b c → spelt ks vs a c ≡ spelt js us b c
spelt_toks ks vs js us a b c e = spelt_over ks vs a c ∙ ap over e ∙ sym (spelt_over js us b c)

mutual
  unfolding over items bytes plain

  over_items : (t : Term) → over (items t) ≡ bytes t
  over_items (var v) = append-nil (1 ∷ shortest v)
  over_items (node k ps) = ap (λ (l : List ℕ). (k % 256) ∷ l) (over_parts ps)

  over_parts : (ps : Parts) → over (part_items ps) ≡ part_bytes ps
  over_parts end = refl
  over_parts (num n ps) = ap (λ (l : List ℕ). shortest n ++ l) (over_parts ps)
  over_parts (sub t ps) = over-append (items t) (part_items ps) ∙ rw (over_items t, over_parts ps)

pub held_bytes : (ks vs : List ℕ) (p : ℕ) (t : Term) → Held ks vs p t → spelt ks vs p (length (items t)) ≡ bytes t
held_bytes ks vs p t h = spelt_over ks vs p (length (items t)) ∙ ap over h.tokens ∙ over_items t

-- the tokens after a head write what follows its tag
pub held_row : (ks vs : List ℕ) (p k : ℕ) (ps : Parts) → Held ks vs p (node k ps) → spelt ks vs (p + 1) (length (part_items ps)) ≡ part_bytes ps
unfolding items spell
held_row ks vs p k ps h =
    let e : toks ks vs (suc p) (length (part_items ps)) ≡ part_items ps = tail (get_or ks p 0) (get_or vs p 0) (suc (suc k)) (suc (length (part_items ps))) _ _ h.tokens in
    ap (λ (q : ℕ). spelt ks vs q (length (part_items ps))) (add-one p) ∙ spelt_over ks vs (suc p) (length (part_items ps)) ∙ ap over e ∙ over_parts ps
  where
    tail : (a b c d : ℕ) (l m : List Item) → item a b ∷ l ≡ item c d ∷ m → l ≡ m
    tail a b c d l m e = cc
