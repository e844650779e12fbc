-- The words of requests: the types that one admits are the bits of its mask, two that meet leave the bits of both, and what a default takes is read from
-- two words.
use mathlib.Core.Path.{◌≡◌, refl, sym, ap, ap₂, ◌∙◌, subst}
use mathlib.Core.Bool.{Bool, true, false, ◌&&◌, ◌||◌, cond}
use mathlib.Core.Logic.{◌⊎◌, inl, inr}
use mathlib.Core.List.{List, [], ◌∷◌}
use mathlib.Core.Option.{Option, none, some}
use Prim.Native.Nat.{ℕ, zero, suc, ◌+◌, ◌-◌, ◌*◌, ◌/◌, ◌%◌, ◌^◌, ◌≤◌, ◌<◌}
use native.Mathlib.Nat.{div-eq_of_lt, lt_of_lt_of_le, pow-suc, div-one}
use native.Mathlib.Omega.{arith}
use native.Mathlib.Decide.{ℕ_discrete, dec_lt}
use borrow.Author.Tests.{eq-eqb, ne_eqb, eqb-false, lt-ltb, le-ltb}
use Rattle.std.specs.Prelude.{Some, None, MatchOption, unwrap_or}
use Rattle.std.specs.declared.option.Option as rust
use Rattle.std.specs.declared.num.NonZeroU32.{NonZeroU32}
use Rattle.std.specs.Int.NonZero.{non_zero_u32_get}
use lib.Bits.{bit_and, bit_or, and_shr, and_mod, and_le_l, and_le_r, and_mask, or_add_and, or_lt, or_zero_r}
use lib.Pow.{pow_pos, pow_mono, shr-shr}
use lib.Dec.{eqb, ltb}
use lib.ListN.{length, get_or, set}
use lib.Seq.{get_or-set_same, get_or-set_other}
use Rattle.terms.proofs.Laws.General.Bools.{and-false, or-true, or_right}
use Rattle.std.proofs.Math.Bool.{or_self}
use Rattle.unify.specs.Solver.{put, put_same, put_other}
use Rattle.unify.proofs.RangedLaws.{sieve_among}
use Rattle.solver.specs.Families.{Numeric, I8, I16, I32, I64, U8, U16, U32, U64, code, among, Family, numerics, admits, integers, family_of, sieve, gathered}
use Rattle.solver.specs.Families.{Bound, at_most, holds, Request, requested, joined_as, request_of, meet, preference, first_of, chosen, ranged_at, family_at, taken}
use Rattle.solver.specs.Constrain.{Requests}
use Rattle.solver.specs.Words.SessionRepresentation.{every_numeric, bit, types_in, family_in, masked_family, RequestWord, request_in, HeldRequest, flag}
use Rattle.solver.specs.Words.MethodContract.{word_of, mask_in, joined_word, mask_of}

-- ---- bits

pub bit_and_lem : (a b i : ℕ) → bit (bit_and a b) i ≡ (bit a i && bit b i)
unfolding bit
bit_and_lem a b i =
    ap (λ (x : ℕ). eqb (x % 2) 1) (and_shr a b i) ∙ ap (λ (x : ℕ). eqb x 1) (and_mod (a / 2 ^ i) (b / 2 ^ i) 1)
    ∙ go (a / 2 ^ i % 2) (b / 2 ^ i % 2) (omega arith) (omega arith)
  where
    go : (x y : ℕ) → x < 2 → y < 2 → eqb (bit_and x y) 1 ≡ (eqb x 1 && eqb y 1)
    go zero y h k = refl
    go (suc zero) zero h k = refl
    go (suc zero) (suc zero) h k = refl
    go (suc zero) (suc (suc y)) h k = absurd (omega arith)
    go (suc (suc x)) y h k = absurd (omega arith)

bit_half : (m i : ℕ) → bit (m / 2) i ≡ bit m (suc i)
unfolding bit
bit_half m i = ap (λ (x : ℕ). eqb (x % 2) 1) (shr-shr m 1 i ∙ ap (λ (k : ℕ). m / 2 ^ k) (omega arith))

-- a number with no bit is 0
bits_none : (k m : ℕ) → m < 2 ^ k → ((i : ℕ) → i < k → bit m i ≡ false) → m ≡ 0
unfolding bit
bits_none zero m l h = omega arith
bits_none (suc k) m l h =
    let p = pow-suc 2 k in
    let e : m / 2 ≡ 0 = bits_none k (m / 2) (omega (arith, p)) (λ i j. bit_half m i ∙ h (suc i) (omega arith)) in
    let d = eqb-false (m / 1 % 2) 1 (h 0 (omega arith)) in
    let q : m / 1 ≡ m = div-one m in
    let f : m % 2 ≡ 1 → ⊥ = rw q at d in
    omega arith

-- bits from 10 on
pub bit_high : (m c : ℕ) → m < 1024 → 10 ≤ c → bit m c ≡ false
unfolding bit
bit_high m c l h = ap (λ (x : ℕ). eqb (x % 2) 1) (div-eq_of_lt (lt_of_lt_of_le {m = 2 ^ 10} l (pow_mono h)))

-- ---- the types of a mask

every_low : (c : ℕ) → c < 10 → among c every_numeric ≡ true
unfolding among code
every_low zero l = refl
every_low (suc zero) l = refl
every_low (suc (suc zero)) l = refl
every_low (suc (suc (suc zero))) l = refl
every_low (suc (suc (suc (suc zero)))) l = refl
every_low (suc (suc (suc (suc (suc zero))))) l = refl
every_low (suc (suc (suc (suc (suc (suc zero)))))) l = refl
every_low (suc (suc (suc (suc (suc (suc (suc zero))))))) l = refl
every_low (suc (suc (suc (suc (suc (suc (suc (suc zero)))))))) l = refl
every_low (suc (suc (suc (suc (suc (suc (suc (suc (suc zero))))))))) l = refl
every_low (suc (suc (suc (suc (suc (suc (suc (suc (suc (suc c)))))))))) l = absurd (omega arith)

sieve_same : (p q : Numeric → Bool) → ((x : Numeric) → p x ≡ q x) → (l : List Numeric) → sieve p l ≡ sieve q l
unfolding sieve
sieve_same p q h [] = refl
sieve_same p q h (x ∷ l) = rw (h x, sieve_same p q h l)

sieve_twice : (p q : Numeric → Bool) (l : List Numeric) → sieve q (sieve p l) ≡ sieve (λ x. p x && q x) l
unfolding sieve
sieve_twice p q [] = refl
sieve_twice p q (x ∷ l) = go (p x) (sieve_twice p q l)
  where
    go : (b : Bool) → sieve q (sieve p l) ≡ sieve (λ x. p x && q x) l
        → sieve q (cond b (x ∷ sieve p l) (sieve p l)) ≡ cond (b && q x) (x ∷ sieve (λ x. p x && q x) l) (sieve (λ x. p x && q x) l)
    go true h = rw h
    go false h = h

-- a mask within the ten bits, with one of them
abbrev pub Mask : ℕ → Type 0
Mask m = (m ≡ 0 → ⊥) × (m < 1024)

module _ (m : ℕ) (M : Mask m) where
  types_some : types_in m ≡ [] → ⊥
  unfolding among
  types_some e =
      M.0 (bits_none 10 m M.1 (λ i l. ap (λ (b : Bool). b && bit m i) (sym (every_low i l)) ∙ sym (sieve_among (bit m) i every_numeric) ∙ ap (among i) e))

  types_family : numerics (masked_family m) ≡ types_in m
  unfolding family_in
  types_family = go (types_in m) types_some
    where
      go : (l : List Numeric) → (l ≡ [] → ⊥) → numerics (family_in l) ≡ l
      go [] n = absurd (n refl)
      go (x ∷ l) n = refl

  -- WHAT A MASK ADMITS ARE ITS BITS
  pub admits_mask : (c : ℕ) → admits (masked_family m) c ≡ bit m c
  admits_mask c = ap (among c) types_family ∙ sieve_among (bit m) c every_numeric ∙ go (dec_lt c 10)
    where
      go : Dec (c < 10) → (among c every_numeric && bit m c) ≡ bit m c
      go (yes l) = ap (λ (b : Bool). b && bit m c) (every_low c l)
      go (no l) = rw (bit_high m c M.1 (omega arith)) (and-false (among c every_numeric))

  pub types_gathered : gathered (types_in m) ≡ some (masked_family m)
  unfolding family_in gathered
  types_gathered = go (types_in m) types_some
    where
      go : (l : List Numeric) → (l ≡ [] → ⊥) → gathered l ≡ some (family_in l)
      go [] n = absurd (n refl)
      go (x ∷ l) n = refl

-- two masks leave the bits of both
types_both : (m n : ℕ) → Mask m → Mask n → sieve (λ x. admits (masked_family n) (code x)) (numerics (masked_family m)) ≡ types_in (bit_and m n)
types_both m n M N =
    ap (sieve (λ x. admits (masked_family n) (code x))) (types_family m M)
    ∙ sieve_twice (λ x. bit m (code x)) (λ x. admits (masked_family n) (code x)) every_numeric
    ∙ sieve_same (λ x. bit m (code x) && admits (masked_family n) (code x)) (λ x. bit (bit_and m n) (code x))
    (λ x. ap (λ (b : Bool). bit m (code x) && b) (admits_mask n N (code x)) ∙ sym (bit_and_lem m n (code x))) every_numeric

-- ---- the mask of a word

pub mask_ranged : (w : ℕ) → 32 < w → (w - 33) / 32 % 256 ≡ mask_in w
unfolding mask_in
mask_ranged w l = rw (lt-ltb 32 w l)

pub mask_floats : (w : ℕ) → w ≤ 32 → w ≡ 10 → 768 ≡ mask_in w
unfolding mask_in
mask_floats w l e = rw (le-ltb 32 w l, eq-eqb w 10 e)

pub mask_integers : (w : ℕ) → w ≤ 32 → (w ≡ 10 → ⊥) → 255 ≡ mask_in w
unfolding mask_in
mask_integers w l e = rw (le-ltb 32 w l, ne_eqb w 10 e)

plain_mask : (w : ℕ) → w ≤ 32 → (mask_in w ≡ 255) ⊎ (mask_in w ≡ 768)
plain_mask w l = go (ℕ_discrete w 10)
  where
    go : Dec (w ≡ 10) → (mask_in w ≡ 255) ⊎ (mask_in w ≡ 768)
    go (yes e) = inr (sym (mask_floats w l e))
    go (no e) = inl (sym (mask_integers w l e))

pub mask_low : (w : ℕ) → mask_in w < 1024
mask_low w = go (dec_lt 32 w)
  where
    plain : (mask_in w ≡ 255) ⊎ (mask_in w ≡ 768) → mask_in w < 1024
    plain (inl e) = omega arith
    plain (inr e) = omega arith

    go : Dec (32 < w) → mask_in w < 1024
    go (yes l) = let e = mask_ranged w l in omega arith
    go (no l) = plain (plain_mask w (omega arith))

pub masks : (w : ℕ) → RequestWord w → Mask (mask_in w)
masks w W = (go (dec_lt 32 w), mask_low w)
  where
    plain : (mask_in w ≡ 255) ⊎ (mask_in w ≡ 768) → mask_in w ≡ 0 → ⊥
    plain (inl e) z = omega arith
    plain (inr e) z = omega arith

    go : Dec (32 < w) → mask_in w ≡ 0 → ⊥
    go (yes l) z = let e = mask_ranged w l in let a = W.mask l in let b = W.most in omega arith
    go (no l) z = plain (plain_mask w (omega arith)) z

-- what a word requests, by its parts
abbrev pub parted : ℕ → Request
parted w = record { fallback = (w - 1) % 32; family = masked_family (mask_in w); ranged = ltb 32 w }

pub in_parts : (w : ℕ) → RequestWord w → request_in w ≡ parted w
unfolding request_in family_of family_in sieve bit code
in_parts w W = go (dec_lt 32 w)
  where
    go : Dec (32 < w) → request_in w ≡ parted w
    go (yes l) =
        let b = W.most in
        let e : (w - 33) / 32 ≡ mask_in w = (let q : (w - 33) / 32 ≡ (w - 33) / 32 % 256 = omega arith in q) ∙ mask_ranged w l in
        rw (lt-ltb 32 w l, e)
    go (no l) = rw (le-ltb 32 w (omega arith)) (plain (ℕ_discrete w 10))
      where
        e : w - 1 ≡ (w - 1) % 32
        e = let p = W.some in omega arith

        plain : Dec (w ≡ 10) → requested (w - 1) ≡ record { fallback = (w - 1) % 32; family = masked_family (mask_in w); ranged = false }
        plain (yes p) = rw (← e, ← mask_floats w (omega arith) p, eq-eqb (w - 1) 9 (omega arith))
        plain (no p) = rw (← e, ← mask_integers w (omega arith) p, ne_eqb (w - 1) 9 (λ q. p (let z = W.some in omega arith)))

pub word_admits : (w : ℕ) → RequestWord w → (c : ℕ) → admits (request_in w).family c ≡ bit (mask_in w) c
word_admits w W c = ap (λ (r : Request). admits r.family c) (in_parts w W) ∙ admits_mask (mask_in w) (masks w W) c

-- ---- two words

-- the two sorts of a pair: both plain, or with a range
or_plain : (a b : ℕ) → bit_or a b < 64 → (a < 64) × (b < 64)
or_plain a b l =
    let e = or_add_and a b in
    let p = and_le_l a b in
    let q = and_le_r a b in
    (omega arith, omega arith)

or_ranged : (a b : ℕ) → 64 ≤ bit_or a b → (64 ≤ a) ⊎ (64 ≤ b)
or_ranged a b l = go (dec_lt a 64) (dec_lt b 64)
  where
    go : Dec (a < 64) → Dec (b < 64) → (64 ≤ a) ⊎ (64 ≤ b)
    go (no p) q = inl (omega arith)
    go (yes p) (no q) = inr (omega arith)
    go (yes p) (yes q) = absurd (omega (arith, or_lt 6 a b p q))

-- below 64 there are only plain words
plain_word : (w : ℕ) → RequestWord w → w < 64 → w ≤ 32
plain_word w W l = go (dec_lt 32 w)
  where
    go : Dec (32 < w) → w ≤ 32
    go (yes p) = absurd (omega (arith, W.mask p))
    go (no p) = omega arith

byte_mask : (w : ℕ) → 64 ≤ w → mask_in w < 256
byte_mask w l = let e = mask_ranged w (omega arith) in omega arith

pub joined_plain : (a b : ℕ) → bit_or a b < 64 → a ≡ joined_word a b
unfolding joined_word
joined_plain a b l = rw (lt-ltb (bit_or a b) 64 l)

pub joined_ranged : (a b : ℕ) → 64 ≤ bit_or a b → 33 + (a - 1) % 32 + 32 * bit_and (mask_in a) (mask_in b) ≡ joined_word a b
unfolding joined_word
joined_ranged a b l = rw (le-ltb (bit_or a b) 64 l)

-- the parts of a word with a range
module _ (c m : ℕ) (low : c < 32) (byte : m < 256) where
  ranged_fallback : (33 + c + 32 * m - 1) % 32 ≡ c
  ranged_fallback = omega arith

  ranged_mask : mask_in (33 + c + 32 * m) ≡ m
  ranged_mask = sym (mask_ranged (33 + c + 32 * m) (omega arith)) ∙ omega arith

  ranged_word : (m ≡ 0 → ⊥) → RequestWord (33 + c + 32 * m)
  ranged_word n = record { some = omega arith; mask = λ l. omega arith; most = omega arith }

  ranged_parts : (n : m ≡ 0 → ⊥) → request_in (33 + c + 32 * m) ≡ record { fallback = c; family = masked_family m; ranged = true }
  ranged_parts n =
      in_parts (33 + c + 32 * m) (ranged_word n)
      ∙ rw (ranged_fallback, ranged_mask, lt-ltb 32 (33 + c + 32 * m) (omega arith))

-- a variable with no request takes the word
pub joined-none : (a : ℕ) → RequestWord a → joined_word a 0 ≡ a
joined-none a A = go (dec_lt (bit_or a 0) 64)
  where
    go : Dec (bit_or a 0 < 64) → joined_word a 0 ≡ a
    go (yes l) = sym (joined_plain a 0 l)
    go (no l) =
        let o = or_zero_r a in
        let e = mask_ranged a (omega arith) in
        let n : bit_and (mask_in a) 255 ≡ mask_in a % 256 = and_mask (mask_in a) 8 in
        let f : 255 ≡ mask_in 0 = mask_integers 0 (omega arith) (λ q. omega arith) in
        let p = A.most in
        sym (joined_ranged a 0 (omega arith)) ∙ rw (← f, n) (omega arith)

module _ (a b : ℕ) (A : RequestWord a) (B : RequestWord b) where
  meet_parts : meet (request_in a) (request_in b) ≡ joined_as ((a - 1) % 32) (ltb 32 a || ltb 32 b) (gathered (types_in (bit_and (mask_in a) (mask_in b))))
  unfolding meet
  meet_parts =
      ap₂ meet (in_parts a A) (in_parts b B)
      ∙ ap (λ (l : List Numeric). joined_as ((a - 1) % 32) (ltb 32 a || ltb 32 b) (gathered l)) (types_both (mask_in a) (mask_in b) (masks a A) (masks b B))

  -- NO BIT IN COMMON: no type is left
  pub words_apart : bit_and (mask_in a) (mask_in b) ≡ 0 → meet (request_in a) (request_in b) ≡ none
  unfolding joined_as gathered sieve bit code
  words_apart e = meet_parts ∙ ap (λ (m : ℕ). joined_as ((a - 1) % 32) (ltb 32 a || ltb 32 b) (gathered (types_in m))) e

  module _ (n : bit_and (mask_in a) (mask_in b) ≡ 0 → ⊥) where
    common : Mask (bit_and (mask_in a) (mask_in b))
    common = (n, let p = and_le_l (mask_in a) (mask_in b) in let q = (masks a A).1 in omega arith)

    -- what a word must be that both leave
    left_is : (j : ℕ) → request_in j ≡ record { fallback = (a - 1) % 32; family = masked_family (bit_and (mask_in a) (mask_in b)); ranged = ltb 32 a || ltb 32 b }
        → meet (request_in a) (request_in b) ≡ some (request_in j)
    unfolding joined_as
    left_is j e = meet_parts ∙ ap (joined_as ((a - 1) % 32) (ltb 32 a || ltb 32 b)) (types_gathered (bit_and (mask_in a) (mask_in b)) common) ∙ ap some (sym e)

    both_plain : a ≤ 32 → b ≤ 32 → bit_and (mask_in a) (mask_in b) ≡ mask_in a
    both_plain p q = go (mask_in a) (mask_in b) (plain_mask a p) (plain_mask b q) n
      where
        go : (x y : ℕ) → (x ≡ 255) ⊎ (x ≡ 768) → (y ≡ 255) ⊎ (y ≡ 768) → (bit_and x y ≡ 0 → ⊥) → bit_and x y ≡ x
        go x y (inl e) (inl f) n = rw (e, f)
        go x y (inr e) (inr f) n = rw (e, f)
        go x y (inl e) (inr f) n = absurd (n (rw (e, f)))
        go x y (inr e) (inl f) n = absurd (n (rw (e, f)))

    -- THE JOINED WORD is what both leave
    pub words_meet : RequestWord (joined_word a b) × (meet (request_in a) (request_in b) ≡ some (request_in (joined_word a b)))
    words_meet = go (dec_lt (bit_or a b) 64)
      where
        go : Dec (bit_or a b < 64) → RequestWord (joined_word a b) × (meet (request_in a) (request_in b) ≡ some (request_in (joined_word a b)))
        go (yes l) =
            let k = or_plain a b l in
            let p = plain_word a A k.0 in
            let q = plain_word b B k.1 in
            rw (← joined_plain a b l) (A, left_is a (in_parts a A ∙ rw (both_plain p q, le-ltb 32 a p, le-ltb 32 b q)))
        go (no l) =
            let o = or_ranged a b (omega arith) in
            let m = bit_and (mask_in a) (mask_in b) in
            let c = (a - 1) % 32 in
            let j = 33 + c + 32 * m in
            rw (← joined_ranged a b (omega arith))
            (ranged_word c m (omega arith) (byte o) n, left_is j (ranged_parts c m (omega arith) (byte o) n ∙ rw (marked o)))
          where
            byte : (64 ≤ a) ⊎ (64 ≤ b) → bit_and (mask_in a) (mask_in b) < 256
            byte (inl p) = omega (arith, byte_mask a p, and_le_l (mask_in a) (mask_in b))
            byte (inr p) = omega (arith, byte_mask b p, and_le_r (mask_in a) (mask_in b))

            marked : (64 ≤ a) ⊎ (64 ≤ b) → (ltb 32 a || ltb 32 b) ≡ true
            marked (inl p) = or-true (ltb 32 a) (ltb 32 b) (lt-ltb 32 a (omega arith))
            marked (inr p) = or_right (ltb 32 a) (ltb 32 b) (lt-ltb 32 b (omega arith))

-- ---- requests that are held

pub held_none : (o : Option Request) (word : ℕ) → HeldRequest o word → word ≡ 0 → o ≡ none
held_none none word h e = refl
held_none (some r) word h e = absurd (let p = h.0.some in omega arith)

pub held_some : (o : Option Request) (word : ℕ) → HeldRequest o word → (word ≡ 0 → ⊥) → RequestWord word × (o ≡ some (request_in word))
held_some none word h n = absurd (n h)
held_some (some r) word h n = (h.0, ap some h.1)

-- one request more
pub put_held : (rs : Requests) (ws : List ℕ) (v word : ℕ) (r : Request) → ((w : ℕ) → HeldRequest (rs w) (get_or ws w 0)) → v < length ws → HeldRequest (some r) word
    → (w : ℕ) → HeldRequest (put rs v (some r) w) (get_or (set ws v word) w 0)
put_held rs ws v word r h l a w = go (ℕ_discrete w v)
  where
    go : Dec (w ≡ v) → HeldRequest (put rs v (some r) w) (get_or (set ws v word) w 0)
    go (yes e) =
        subst (λ (x : Option Request). HeldRequest x (get_or (set ws v word) w 0)) (sym (ap (put rs v (some r)) e ∙ put_same rs v (some r)))
        (subst (λ (x : ℕ). HeldRequest (some r) x) (sym (ap (λ (i : ℕ). get_or (set ws v word) i 0) e ∙ get_or-set_same ws v word 0 l)) a)
    go (no e) =
        subst (λ (x : Option Request). HeldRequest x (get_or (set ws v word) w 0)) (sym (put_other rs v (some r) w e))
        (subst (λ (x : ℕ). HeldRequest (rs w) x) (sym (get_or-set_other ws v w word 0 e)) (h w))

-- order 1
pub plain_is : (c : ℕ) → c < 32 → request_in (c + 1) ≡ requested c
unfolding request_in
plain_is c l = rw (le-ltb 32 (c + 1) (omega arith)) (ap requested (let e : c + 1 - 1 ≡ c = omega arith in e))

-- ---- order 21

bit_first : (b : Bool) (m : ℕ) → bit (flag b + 2 * m) 0 ≡ b
unfolding bit
bit_first true m = eq-eqb ((1 + 2 * m) / 1 % 2) 1 (rw (div-one (1 + 2 * m)) (omega arith))
bit_first false m = ne_eqb ((0 + 2 * m) / 1 % 2) 1 (λ e. let f : (0 + 2 * m) % 2 ≡ 1 = rw (div-one (0 + 2 * m)) at e in omega arith)

bit_next : (b : Bool) (m i : ℕ) → bit (flag b + 2 * m) (suc i) ≡ bit m i
bit_next b m i = sym (bit_half (flag b + 2 * m) i) ∙ ap (λ (x : ℕ). bit x i) (go b)
  where
    go : (b : Bool) → (flag b + 2 * m) / 2 ≡ m
    go true = omega arith
    go false = omega arith

-- the mask of a test has the bits of the types that pass it
module _ (p : Numeric → Bool) where
  digits : List Numeric → ℕ
  digits [] = 0
  digits (x ∷ l) = flag (p x) + 2 * digits l

  in_digits : mask_of p ≡ digits (numerics integers)
  unfolding digits
  in_digits = omega arith

  flag_low : (b : Bool) → flag b ≤ 1
  flag_low true = omega arith
  flag_low false = omega arith

  byte_of : mask_of p < 256
  byte_of =
      omega (arith, flag_low (p I8), flag_low (p I16), flag_low (p I32), flag_low (p I64), flag_low (p U8), flag_low (p U16), flag_low (p U32), flag_low (p U64))

  -- the bit i of digits is the test of the type at i
  nth : List Numeric → ℕ → Bool
  nth [] i = false
  nth (x ∷ l) zero = p x
  nth (x ∷ l) (suc i) = nth l i

  bit_digits : (l : List Numeric) (i : ℕ) → bit (digits l) i ≡ nth l i
  unfolding digits nth bit
  bit_digits [] i = ap (λ (x : ℕ). eqb (x % 2) 1) (div-eq_of_lt (pow_pos i))
  bit_digits (x ∷ l) zero = bit_first (p x) (digits l)
  bit_digits (x ∷ l) (suc i) = bit_next (p x) (digits l) i ∙ bit_digits l i

  types_of : types_in (mask_of p) ≡ sieve p (numerics integers)
  unfolding nth sieve code
  types_of =
      ap types_in in_digits
      ∙ sieve_same (λ x. bit (digits (numerics integers)) (code x)) (λ x. nth (numerics integers) (code x)) (λ x. bit_digits (numerics integers) (code x)) every_numeric

module _ (c : ℕ) (low high : Bound) where
  abbrev range_mask : ℕ
  range_mask = mask_of (holds low high)

  gathered_of : at_most low high ≡ true → request_of c low high ≡ joined_as c true (gathered (types_in range_mask))
  unfolding request_of
  gathered_of e = rw (e, types_of (holds low high))

  pub range_none : (m : ℕ) → at_most low high ≡ true → m ≡ range_mask → m ≡ 0 → none ≡ request_of c low high
  unfolding joined_as gathered sieve bit code
  range_none m e f z = sym (gathered_of e ∙ ap (λ (n : ℕ). joined_as c true (gathered (types_in n))) (sym f ∙ z))

  pub range_is : (m : ℕ) → c < 32 → at_most low high ≡ true → m ≡ range_mask → (m ≡ 0 → ⊥) → some (request_in (33 + c + 32 * m)) ≡ request_of c low high
  unfolding joined_as
  range_is m l e f n =
      let b : m < 256 = omega (arith, byte_of (holds low high)) in
      ap some (ranged_parts c m l b n)
      ∙ sym (gathered_of e ∙ ap (λ (n : ℕ). joined_as c true (gathered (types_in n))) (sym f) ∙ ap (joined_as c true) (types_gathered m (n, omega arith)))

-- ---- words that are not 0

-- the word that a number of the table is
pub word_new : (o : rust.Option NonZeroU32) (n : ℕ) → MatchOption o (n ≡ 0) (λ x. non_zero_u32_get x ≡ n) → word_of o ≡ n
word_new None n h = sym h
word_new (Some x) n h = h

-- ---- defaults

-- the word e is what a default of the word `own` goes by where o is asked of the end of its chain
pub record AtEnd (own : ℕ) (o : Option Request) (e : ℕ) : Type 0 where
  pub word : RequestWord e
  pub family : family_at (request_in own) o ≡ (request_in e).family
  pub ranged : ranged_at (request_in own) o ≡ ((request_in own).ranged || (request_in e).ranged)

-- the word of the end, or the own one where it has none
pub at_end : (own : NonZeroU32) (last : rust.Option NonZeroU32) (o : Option Request) → RequestWord (non_zero_u32_get own) → HeldRequest o (word_of last)
    → AtEnd (non_zero_u32_get own) o (non_zero_u32_get (unwrap_or last own))
unfolding family_at ranged_at
at_end own None none W h = record { word = W; family = refl; ranged = sym (or_self (request_in (non_zero_u32_get own)).ranged) }
at_end own None (some r) W h = absurd (omega (arith, h.0.some))
at_end own (Some x) none W h = absurd (omega (arith, x.ok, h))
at_end own (Some x) (some r) W h = rw h.1 (record { word = h.0; family = refl; ranged = refl })

module _ (own e : ℕ) (o : Option Request) (W : RequestWord own) (E : AtEnd own o e) where
  range_took : ranged_at (request_in own) o ≡ (ltb 32 own || ltb 32 e)
  range_took = E.ranged ∙ ap₂ ◌||◌ (ap (λ (r : Request). r.ranged) (in_parts own W)) (ap (λ (r : Request). r.ranged) (in_parts e E.word))

  -- what is admitted
  pub end_admits : (c : ℕ) → admits (family_at (request_in own) o) c ≡ bit (mask_in e) c
  end_admits c = ap (λ (f : Family). admits f c) E.family ∙ word_admits e E.word c

  fallback_is : (request_in own).fallback ≡ (own - 1) % 32
  fallback_is = ap (λ (r : Request). r.fallback) (in_parts own W)

  -- where no range took part
  pub taken_plain : bit_or own e < 64 → (own - 1) % 32 ≡ taken (request_in own) o
  unfolding taken
  taken_plain l =
      let k = or_plain own e l in
      sym (rw (range_took, le-ltb 32 own (plain_word own W k.0), le-ltb 32 e (plain_word e E.word k.1)) fallback_is)

  taken_ranged : 64 ≤ bit_or own e
      → taken (request_in own) o ≡ cond (bit (mask_in e) ((own - 1) % 32)) ((own - 1) % 32) (first_of ((own - 1) % 32) (family_at (request_in own) o) preference)
  unfolding taken chosen
  taken_ranged l =
      ap (λ (b : Bool). cond b (chosen (request_in own).fallback (family_at (request_in own) o)) (request_in own).fallback) (range_took ∙ go (or_ranged own e l))
      ∙ ap (λ (c : ℕ). chosen c (family_at (request_in own) o)) fallback_is
      ∙ ap (λ (b : Bool). cond b ((own - 1) % 32) (first_of ((own - 1) % 32) (family_at (request_in own) o) preference)) (end_admits ((own - 1) % 32))
    where
      go : (64 ≤ own) ⊎ (64 ≤ e) → (ltb 32 own || ltb 32 e) ≡ true
      go (inl p) = or-true (ltb 32 own) (ltb 32 e) (lt-ltb 32 own (omega arith))
      go (inr p) = or_right (ltb 32 own) (ltb 32 e) (lt-ltb 32 e (omega arith))

  pub taken_fallback : 64 ≤ bit_or own e → bit (mask_in e) ((own - 1) % 32) ≡ true → (own - 1) % 32 ≡ taken (request_in own) o
  taken_fallback l q = sym (taken_ranged l ∙ rw q)

  pub taken_first : (r : ℕ) → 64 ≤ bit_or own e → bit (mask_in e) ((own - 1) % 32) ≡ false
      → ((f : Family) → ((c : ℕ) → admits f c ≡ bit (mask_in e) c) → r ≡ first_of ((own - 1) % 32) f preference) → r ≡ taken (request_in own) o
  taken_first r l q h = h (family_at (request_in own) o) end_admits ∙ sym (taken_ranged l ∙ rw q)
