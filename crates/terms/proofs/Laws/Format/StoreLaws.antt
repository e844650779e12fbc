-- Runs of stores into the two areas.
use mathlib.Core.Path.{◌≡◌, refl, sym, ap, ◌∙◌}
use mathlib.Core.Bool.{Bool, true, false}
use mathlib.Core.List.{List, [], ◌∷◌, ◌++◌, append_assoc}
use Prim.Native.Nat.{ℕ, zero, suc, min, ◌+◌, ◌-◌, ◌≤◌, ◌<◌}
use native.Mathlib.Decide.{dec_lt}
use native.Mathlib.Omega.{arith}
use borrow.Rule.Slice.PartMut.{put_mid, Post-is}
use lib.ListN.{length, set, replicate, length-set, take, drop, length-replicate}
use lib.Seq.{sets, sets-eq, set_out, set_comm, set-set, take-set-le}
use Rattle.terms.specs.Words.Tokens.{put_if, Item, item, Area, area, put, puts, zeros, blank, before}
use Rattle.terms.specs.Words.ReadContract.{Only}

-- one store before a run of stores after it, or after
put_puts : (l : List Item) (d : Area) (i o k v : ℕ) → i < o → puts (put d i k v) o l ≡ put (puts d o l) i k v
unfolding puts
put_puts [] d i o k v h = refl
put_puts (item a b ∷ l) d i o k v h =
    rw (set_comm d.kinds i o k a (omega arith), set_comm d.vals i o v b (omega arith)) (put_puts l (put d o a b) i (suc o) k v (omega arith))

-- a node's head stored after its parts, which stand after it
pub head_last : (l : List Item) (d : Area) (i k v : ℕ) → put (puts d (i + 1) l) i k v ≡ puts d i (item k v ∷ l)
unfolding puts
head_last l d i k v = sym (put_puts l d i (i + 1) k v (omega arith)) ∙ ap (λ (n : ℕ). puts (put d i k v) n l) (omega arith)

-- one run and the next
pub puts_append : (l : List Item) (d : Area) (i j : ℕ) (m : List Item) → j ≡ i + length l → puts d i (l ++ m) ≡ puts (puts d i l) j m
unfolding puts
puts_append [] d i j m h = ap (λ (k : ℕ). puts d k m) (omega arith)
puts_append (item a b ∷ l) d i j m h = puts_append l (put d i a b) (suc i) j m (omega arith)

-- what stands before a run
pub before_puts : (l : List Item) (d : Area) (n i : ℕ) → n ≤ i → before n (puts d i l) ≡ before n d
unfolding puts
before_puts [] d n i h = refl
before_puts (item a b ∷ l) d n i h =
    before_puts l (put d i a b) n (suc i) (omega arith)
    ∙ rw (take-set-le n d.kinds i a h, take-set-le n d.vals i b h)

pub area_same : {ks js vs us : List ℕ} → ks ≡ js → vs ≡ us → area ks vs ≡ area js us
area_same h k = rw (h, k)

-- a run of stores changes no length
pub length_kinds : (l : List Item) (d : Area) (i : ℕ) → length (puts d i l).kinds ≡ length d.kinds
unfolding puts
length_kinds [] d i = refl
length_kinds (item a b ∷ l) d i = length_kinds l (put d i a b) (suc i) ∙ simp length-set

pub length_vals : (l : List Item) (d : Area) (i : ℕ) → length (puts d i l).vals ≡ length d.vals
unfolding puts
length_vals [] d i = refl
length_vals (item a b ∷ l) d i = length_vals l (put d i a b) (suc i) ∙ simp length-set

-- ---- clearing

-- tokens that are cleared afterwards may have been stored or not
cover_one : (n : ℕ) (d : Area) (i j k v : ℕ) → j ≤ i → i < j + n → blank (put d i k v) j n ≡ blank d j n
unfolding puts zeros
cover_one zero d i j k v h l = absurd (omega arith)
cover_one (suc n) d i j k v h l = go (dec_lt j i) (cover_one n (put d j 0 0) i (suc j) k v)
  where
    go : Dec (j < i) → (suc j ≤ i → i < suc j + n → blank (put (put d j 0 0) i k v) (suc j) n ≡ blank (put d j 0 0) (suc j) n)
        → blank (put (put d i k v) j 0 0) (suc j) n ≡ blank (put d j 0 0) (suc j) n
    go (yes p) ih = rw (set_comm d.kinds i j k 0 (λ e. omega arith), set_comm d.vals i j v 0 (λ e. omega arith)) (ih (omega arith) (omega arith))
    go (no p) ih = let e : i ≡ j = omega arith in rw (e, set-set d.kinds j k 0, set-set d.vals j v 0)

pub cover : (l : List Item) (d : Area) (i j n : ℕ) → j ≤ i → i + length l ≤ j + n → blank (puts d i l) j n ≡ blank d j n
unfolding puts
cover [] d i j n h k = refl
cover (item a b ∷ l) d i j n h k = cover l (put d i a b) (suc i) j n (omega arith) (omega arith) ∙ cover_one n d i j a b h (omega arith)

zeros_length : (n : ℕ) → length (zeros n) ≡ n
unfolding zeros
zeros_length zero = refl
zeros_length (suc n) = ap suc (zeros_length n)

module _ (d e : Area) (i n : ℕ) (o : Only i n d e) where
  -- the same in a wider part
  pub only_wider : (j m : ℕ) → j ≤ i → i + n ≤ j + m → Only j m d e
  only_wider j m h k =
      let w : i + length (zeros n) ≤ j + m = omega (arith, zeros_length n) in
      sym (cover (zeros n) e i j m h w) ∙ ap (λ (x : Area). blank x j m) o ∙ cover (zeros n) d i j m h w

  pub only_kinds : length e.kinds ≡ length d.kinds
  only_kinds = sym (length_kinds (zeros n) e i) ∙ ap (λ (x : Area). length x.kinds) o ∙ length_kinds (zeros n) d i

  pub only_vals : length e.vals ≡ length d.vals
  only_vals = sym (length_vals (zeros n) e i) ∙ ap (λ (x : Area). length x.vals) o ∙ length_vals (zeros n) d i

  -- what stands before it
  pub only_before : before i e ≡ before i d
  only_before = sym (before_puts (zeros n) e i i (omega arith)) ∙ ap (λ (x : Area). before i x) o ∙ before_puts (zeros n) d i i (omega arith)

-- one token stored or not
pub only_one : (on : Bool) (d : Area) (i k v : ℕ) → Only i 1 d (put_if on d i k v)
only_one true d i k v = cover_one 1 d i i k v (omega arith) (omega arith)
only_one false d i k v = refl

-- ---- words cleared

-- tokens cleared are words cleared in both areas
blank_lists : (n : ℕ) (d : Area) (i : ℕ) → blank d i n ≡ area (sets d.kinds i (replicate n 0)) (sets d.vals i (replicate n 0))
unfolding puts zeros
blank_lists zero d i = refl
blank_lists (suc n) d i = blank_lists n (put d i 0 0) (suc i)

-- both areas cleared from i up to i + n
pub blank_areas : (ks vs js us : List ℕ) (i n : ℕ) → js ≡ sets ks i (replicate (i + n - i) 0) → us ≡ sets vs i (replicate (i + n - i) 0)
    → area js us ≡ blank (area ks vs) i n
blank_areas ks vs js us i n k v =
    let m : i + n - i ≡ n = omega arith in
    area_same (rw m at k) (rw m at v) ∙ sym (blank_lists n (area ks vs) i)

-- stores past the end change nothing
sets_out : (vs l : List ℕ) (i : ℕ) → length l ≤ i → sets l i vs ≡ l
sets_out [] l i h = refl
sets_out (a ∷ vs) l i h = rw (set_out l i a h) (sets_out vs l (suc i) (omega arith))

-- what is cleared past the end changes nothing
cleared_to : (l : List ℕ) (i m n : ℕ) → m ≤ n → length l ≤ i + m → sets l i (replicate n 0) ≡ sets l i (replicate m 0)
cleared_to l i zero n h k = sets_out (replicate n 0) l i (omega arith)
cleared_to l i (suc m) zero h k = absurd (omega arith)
cleared_to l i (suc m) (suc n) h k = cleared_to (set l i 0) (suc i) m n (omega arith) (omega (arith, length-set l i 0))

-- a part of the words filled with 0
pub cleared_part : (l : List ℕ) (from end stop : ℕ) → stop ≡ min end (length l) → from < stop
    → put_mid from (stop - from) l (replicate (stop - from) 0) ≡ sets l from (replicate (end - from) 0)
cleared_part l from end stop e h =
    let r : List ℕ = replicate (stop - from) 0 in
    let n : length r ≡ stop - from = length-replicate (stop - from) 0 in
    let m : from + length r ≡ stop = omega (arith, n) in
    ap (λ (z : List ℕ). take from l ++ (r ++ z)) (Post-is from stop l (omega arith))
    ∙ sym (append_assoc (take from l) r (drop stop l))
    ∙ ap (λ (k : ℕ). take from l ++ r ++ drop k l) (sym m)
    ∙ sym (sets-eq r l from (omega (arith, e, m)))
    ∙ whole (dec_lt stop end)
  where
    whole : Dec (stop < end) → sets l from (replicate (stop - from) 0) ≡ sets l from (replicate (end - from) 0)
    whole (yes k) = sym (cleared_to l from (stop - from) (end - from) (omega arith) (omega (arith, e)))
    whole (no k) = let z : stop ≡ end = omega (arith, e) in ap (λ (x : ℕ). sets l from (replicate (x - from) 0)) z

-- nothing to fill: all that is to clear is past the end
pub cleared_none : (l : List ℕ) (from end stop : ℕ) → stop ≡ min end (length l) → stop ≤ from → l ≡ sets l from (replicate (end - from) 0)
cleared_none l from end stop e h = go (dec_lt from end)
  where
    go : Dec (from < end) → l ≡ sets l from (replicate (end - from) 0)
    go (yes k) = sym (sets_out (replicate (end - from) 0) l from (omega arith))
    go (no k) = let z : end - from ≡ 0 = omega arith in rw z refl
