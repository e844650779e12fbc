-- Tokens stored one run after the other in areas that hold nothing from a place on, and cleared again.
use mathlib.Core.Path.{◌≡◌, refl, sym, ap, ◌∙◌}
use mathlib.Core.Bool.{Bool, true, false}
use mathlib.Core.List.{List, [], ◌∷◌, ◌++◌}
use Prim.Native.Nat.{ℕ, zero, suc, ◌+◌, ◌-◌, ◌*◌, ◌≤◌, ◌<◌}
use native.Mathlib.Decide.{dec_lt}
use native.Mathlib.Omega.{arith}
use borrow.Author.Tests.{le-leb}
use lib.Dec.{leb}
use lib.ListN.{length, length-append, get_or, set, drop}
use lib.Seq.{set_comm, set-get_or, get_or-drop, get_or-set_same}
use Rattle.solver.specs.TermTypes.{Place}
use Rattle.solver.specs.Terms.Result.{pick}
use Rattle.solver.specs.Terms.Tokens.{Item, item, Area, area, put, puts, zeros, blank, before}
use Rattle.solver.specs.Terms.ReadContract.{Only}
use Rattle.solver.proofs.Terms.StoreLaws.{puts_append, cover, only_wider, only_kinds, only_vals, only_before}
use Rattle.solver.specs.Words.Worklist.{Zero}
use Rattle.sheet.specs.Words.FieldLayout.{Free, Stored, Ample}

-- ---- runs that do not meet

put_puts : (l : List Item) (d : Area) (i o k v : ℕ) → i < o → puts (put d i k v) o l ≡ put (puts d o l) i k v
unfolding puts
put_puts [] d i o k v h = refl
put_puts (item a b ∷ l) d i o k v h =
    rw (set_comm d.kinds i o k a (omega arith), set_comm d.vals i o v b (omega arith)) (put_puts l (put d o a b) i (suc o) k v (omega arith))

puts_blank : (l : List Item) (d : Area) (i j k : ℕ) → i + length l ≤ j → puts (blank d j k) i l ≡ blank (puts d i l) j k
unfolding puts
puts_blank [] d i j k h = refl
puts_blank (item a b ∷ l) d i j k h =
    ap (λ (x : Area). puts x (suc i) l) (sym (put_puts (zeros k) d i j a b (omega arith))) ∙ puts_blank l (put d i a b) (suc i) j k (omega arith)

zeros_length : (n : ℕ) → length (zeros n) ≡ n
unfolding zeros
zeros_length zero = refl
zeros_length (suc n) = ap suc (zeros_length n)

zeros_more : (m k : ℕ) → zeros (m + k) ≡ zeros m ++ zeros k
unfolding zeros
zeros_more zero k = let e : 0 + k ≡ k = omega arith in rw e
zeros_more (suc m) k = let e : suc m + k ≡ suc (m + k) = omega arith in rw e (ap (λ (l : List Item). item 0 0 ∷ l) (zeros_more m k))

blank-more : (d : Area) (n m k j : ℕ) → j ≡ n + m → blank d n (m + k) ≡ blank (blank d n m) j k
blank-more d n m k j e =
    ap (λ (l : List Item). puts d n l) (zeros_more m k) ∙ puts_append (zeros m) d n j (zeros k) (omega (arith, zeros_length m))

-- ---- areas that hold nothing from a place on

pub free_later : (d : Area) (n m : ℕ) → Free n d → n ≤ m → Free m d
free_later d n m f h k = sym (ap (λ (x : Area). blank x m k) (f (m - n))) ∙ sym (blank-more d n (m - n) k m (omega arith)) ∙ f (m - n + k)

pub free_puts : (l : List Item) (d : Area) (i j : ℕ) → j ≡ i + length l → Free i d → Free j (puts d i l)
free_puts l d i j e f k =
    sym (puts_blank l d i j k (omega arith)) ∙ ap (λ (x : Area). puts x i l) (free_later d i j f (omega arith) k)

-- the same in words
pub zero_free : (n : ℕ) (d : Area) → Zero (drop n d.kinds) → Zero (drop n d.vals) → Free n d
unfolding puts zeros
zero_free n d hk hv zero = refl
zero_free n d hk hv (suc k) =
    let same : put d n 0 0 ≡ d = pair (word d.kinds (hk 0)) (word d.vals (hv 0)) in
    ap (λ (x : Area). blank x (suc n) k) same ∙ zero_free (suc n) d (later d.kinds hk) (later d.vals hv) k
  where
    pair : {ks js vs us : List ℕ} → ks ≡ js → vs ≡ us → area ks vs ≡ area js us
    pair h k = rw (h, k)

    word : (l : List ℕ) → get_or (drop n l) 0 0 ≡ 0 → set l n 0 ≡ l
    word l h =
        let z : get_or l n 0 ≡ 0 = ap (λ (i : ℕ). get_or l i 0) (omega arith) ∙ sym (get_or-drop n l 0 0) ∙ h in
        ap (λ (v : ℕ). set l n v) (sym z) ∙ set-get_or l n 0

    later : (l : List ℕ) → Zero (drop n l) → Zero (drop (suc n) l)
    later l h i =
        let e : suc n + i ≡ n + suc i = omega arith in
        get_or-drop (suc n) l i 0 ∙ ap (λ (j : ℕ). get_or l j 0) e ∙ sym (get_or-drop n l (suc i) 0) ∙ h (suc i)

get_d_over : (l : List ℕ) (i : ℕ) → length l ≤ i → get_or l i 0 ≡ 0
get_d_over [] i h = refl
get_d_over (x ∷ l) zero h = absurd (omega arith)
get_d_over (x ∷ l) (suc i) h = get_d_over l i (omega arith)

zero_word : (l : List ℕ) (i : ℕ) → set l i 0 ≡ l → get_or l i 0 ≡ 0
zero_word l i e = go (dec_lt i (length l))
  where
    go : Dec (i < length l) → get_or l i 0 ≡ 0
    go (yes h) = ap (λ (x : List ℕ). get_or x i 0) (sym e) ∙ get_or-set_same l i 0 0 h
    go (no h) = get_d_over l i (omega arith)

pub free_kinds : (n : ℕ) (d : Area) → Free n d → Zero (drop n d.kinds)
unfolding puts zeros
free_kinds n d f i = get_or-drop n d.kinds i 0 ∙ zero_word d.kinds (n + i) (ap (λ (x : Area). x.kinds) (free_later d n (n + i) f (omega arith) 1))

pub free_vals : (n : ℕ) (d : Area) → Free n d → Zero (drop n d.vals)
unfolding puts zeros
free_vals n d f i = get_or-drop n d.vals i 0 ∙ zero_word d.vals (n + i) (ap (λ (x : Area). x.vals) (free_later d n (n + i) f (omega arith) 1))

-- ---- stored

module _ (p q : Place) (d : Area) (f : Free p.top d) where
  -- nothing
  pub stored_none : q.top ≡ p.top → q.nodes ≡ p.nodes → q.limit ≡ p.limit → Stored p q d d [] 0
  unfolding puts zeros
  stored_none t n l = record {
    whole = λ h. refl;
    only = refl;
    free = rw t f;
    limit = l;
    tokens = omega arith;
    counts = omega arith;
  }

  -- a run, or nothing of it past the limit
  pub stored_kept : (e : Area) (ws : List Item) (n : ℕ) → q.top ≡ p.top + length ws → q.nodes ≡ p.nodes + n → q.limit ≡ p.limit
      → e ≡ pick (leb (p.nodes + n) p.limit) (puts d p.top ws) (blank d p.top (length ws)) → Stored p q d e ws n
  stored_kept e ws n t c l k = record {
    whole = λ h. k ∙ (rw (le-leb (p.nodes + n) p.limit (omega arith)));
    only = rw k (only (leb (p.nodes + n) p.limit));
    free = rw k (free (leb (p.nodes + n) p.limit));
    limit = l;
    tokens = t;
    counts = c;
  }
    where
      only : (on : Bool) → Only p.top (length ws) d (pick on (puts d p.top ws) (blank d p.top (length ws)))
      only true = cover ws d p.top p.top (length ws) (omega arith) (omega arith)
      only false = cover (zeros (length ws)) d p.top p.top (length ws) (omega arith) (omega (arith, zeros_length (length ws)))

      free : (on : Bool) → Free q.top (pick on (puts d p.top ws) (blank d p.top (length ws)))
      free true = free_puts ws d p.top q.top t f
      free false = rw (f (length ws)) (free_later d p.top q.top f (omega arith))

  -- cleared again
  pub stored_undo : (e : Area) (ws : List Item) (n k : ℕ) → Stored p q d e ws n → k ≡ q.top - p.top → blank e p.top k ≡ d
  stored_undo e ws n k x h =
      let m : k ≡ length ws = omega (arith, x.tokens) in
      rw m (x.only ∙ f (length ws))

-- one run and then another
pub stored_then : (p q r : Place) (d e f : Area) (ws us : List Item) (n m : ℕ) → Stored p q d e ws n → Stored q r e f us m → Stored p r d f (ws ++ us) (n + m)
stored_then p q r d e f ws us n m x y =
    let len : length (ws ++ us) ≡ length ws + length us = length-append ws us in
    record {
      whole = λ h.
          y.whole (omega (arith, x.limit))
          ∙ ap (λ (z : Area). puts z q.top us) (x.whole (omega (arith, y.counts)))
          ∙ sym (puts_append ws d p.top q.top us x.tokens);
      only = only_wider e f q.top (length us) y.only p.top (length (ws ++ us)) (omega (arith, x.tokens)) (omega (arith, x.tokens)) ∙ only_wider d e p.top (length ws) x.only p.top (length (ws ++ us)) (omega arith) (omega arith);
      free = y.free;
      limit = y.limit ∙ x.limit;
      tokens = omega (arith, x.tokens, y.tokens);
      counts = omega (arith, x.counts, y.counts);
    }

-- the same tokens and nodes, told another way
pub stored_as : (p q : Place) (d e : Area) (ws us : List Item) (n m : ℕ) → ws ≡ us → n ≡ m → Stored p q d e ws n → Stored p q d e us m
stored_as p q d e ws us n m h k x = rw (← h, ← k) x

-- what is known of the areas after
module _ (p q : Place) (d e : Area) (ws : List Item) (n : ℕ) (x : Stored p q d e ws n) where
  pub stored_kinds : length e.kinds ≡ length d.kinds
  stored_kinds = only_kinds d e p.top (length ws) x.only

  pub stored_vals : length e.vals ≡ length d.vals
  stored_vals = only_vals d e p.top (length ws) x.only

  pub stored_before : before p.top e ≡ before p.top d
  stored_before = only_before d e p.top (length ws) x.only

  -- and of the place, where a byte was taken for each two tokens and for each node
  pub ample_after : (s : List ℕ) → Ample s p → length ws + 2 * p.at ≤ 2 * q.at → n + p.at ≤ q.at → q.at ≤ length s → Ample s q
  ample_after s a t c i = record {
    inside = i;
    tokens = omega (arith, a.tokens, a.inside, x.tokens);
    counts = omega (arith, a.counts, a.inside, x.counts);
  }
