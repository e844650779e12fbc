-- The shortest form: one group and the rest, and reading it back.
use mathlib.Core.Path.{◌≡◌, refl, sym, ap, ap₂, ◌∙◌}
use mathlib.Core.Bool.{Bool, true, false, ◌&&◌}
use mathlib.Core.List.{List, [], ◌∷◌, ◌++◌}
use Prim.Native.Nat.{ℕ, zero, suc, ◌+◌, ◌-◌, ◌*◌, ◌/◌, ◌%◌, ◌≤◌, ◌<◌}
use native.Mathlib.Nat.{mul_assoc, add-mul, mul_comm, mul-le-mul_right}
use native.Mathlib.Omega.{arith}
use native.Mathlib.Decide.{dec_lt}
use borrow.Author.Tests.{lt-ltb, le-ltb, leb-true, leb-false, eq-eqb}
use lib.Dec.{ltb, leb, eqb}
use lib.ListN.{length, drop, get_or}
use lib.Seq.{drop-append_seam, drop-drop}
use Rattle.terms.specs.Result.{Result, got, refused, pick}
use Rattle.terms.specs.Number.{groups, number, digits, shortest}
use Rattle.terms.proofs.Laws.Numbers.NumberBoundLaws.{bounds}
use Rattle.terms.proofs.Laws.Numbers.NumberStepLaws.{step_more, step_last, step_zero}

-- the fuel does not matter where there is enough
digits_fuel : (f g v : ℕ) → v ≤ f → v ≤ g → digits f v ≡ digits g v
unfolding digits
digits_fuel zero zero v h k = refl
digits_fuel zero (suc g) v h k = simp (lt-ltb v 128 (omega arith))
digits_fuel (suc f) zero v h k = simp (lt-ltb v 128 (omega arith))
digits_fuel (suc f) (suc g) v h k = go (dec_lt v 128) (λ p. digits_fuel f g (v / 128) (omega arith) (omega arith))
  where
    go : Dec (v < 128) → (128 ≤ v → digits f (v / 128) ≡ digits g (v / 128)) → digits (suc f) v ≡ digits (suc g) v
    go (yes p) ih = simp (lt-ltb v 128 p)
    go (no p) ih = simp (le-ltb v 128 (omega arith), ih (omega arith))

pub shortest_last : (v : ℕ) → v < 128 → shortest v ≡ v ∷ []
unfolding shortest digits
shortest_last zero h = refl
shortest_last (suc v) h = simp (lt-ltb (suc v) 128 h)

pub shortest_more : (v : ℕ) → 128 ≤ v → shortest v ≡ (v % 128 + 128) ∷ shortest (v / 128)
unfolding shortest digits
shortest_more zero h = absurd (omega arith)
shortest_more (suc v) h = simp (le-ltb (suc v) 128 h, digits_fuel v (suc v / 128) (suc v / 128) (omega arith) (omega arith))

le_group : (v : ℕ) → 128 ≤ v → v % 128 + 128 ≤ v
le_group v h = omega arith

-- one group and the rest of a value, at a weight
weigh : (v w : ℕ) → (v % 128 + 128 - 128) * w + v / 128 * (w * 128) ≡ v * w
weigh v w =
    let low : v % 128 + 128 - 128 ≡ v % 128 = omega arith in
    let high : v / 128 * (w * 128) ≡ v / 128 * 128 * w = rw (mul_comm w 128, mul_assoc) in
    let whole : v % 128 + v / 128 * 128 ≡ v = omega arith in
    rw (low, high, ← add-mul, whole)

-- A form read where the groups before have the value a and a group counts w. Only the first group may be a last 0.
read_back : (f most a w at v : ℕ) (rest : List ℕ) → v < f → a + v * w ≤ most → (v ≡ 0 → w ≤ 1)
    → groups most a w at (shortest v ++ rest) ≡ got (a + v * w) (at + length (shortest v))
read_back zero most a w at v rest h k n = absurd (omega arith)
read_back (suc f) most a w at v rest h k n =
    go (dec_lt v 128) (dec_lt 0 v) (λ d a' w' e. read_back f most a' w' (at + 1) (v / 128) rest (omega arith) e (λ z. absurd (omega arith)))
  where
    go : Dec (v < 128) → Dec (0 < v)
        → (128 ≤ v → (a' w' : ℕ) → a' + v / 128 * w' ≤ most → groups most a' w' (at + 1) (shortest (v / 128) ++ rest) ≡ got (a' + v / 128 * w') (at + 1 + length (shortest (v / 128))))
        → groups most a w at (shortest v ++ rest) ≡ got (a + v * w) (at + length (shortest v))
    go (yes p) (yes q) ih = rw (shortest_last v p) (step_last most a w at v rest k p (λ z. omega arith))
    go (yes p) (no q) ih = rw (shortest_last v p) (step_zero most a w at v rest k (omega arith) (n (omega arith)))
    go (no p) q ih =
        let m : 128 ≤ v = omega arith in
        let b : ℕ = v % 128 + 128 in
        let a' : ℕ = a + (b - 128) * w in
        let same : a' + v / 128 * (w * 128) ≡ a + v * w = omega (arith, weigh v w) in
        let fits : a + b * w ≤ most = omega (arith, mul-le-mul_right w (le_group v m)) in
        rw (shortest_more v m) (step_more most a w at b (shortest (v / 128) ++ rest) fits (omega arith)
        ∙ ih m a' (w * 128) (omega arith) ∙ ap₂ got same (omega arith))

-- what was written is read back, and nothing of what follows
pub round_trip : (most v : ℕ) (before rest : List ℕ) → v ≤ most
    → number most (before ++ (shortest v ++ rest)) (length before) ≡ got v (length before + length (shortest v))
round_trip most v before rest h =
    rw (drop-append_seam before (shortest v ++ rest))
    (read_back (suc v) most 0 1 (length before) v rest (omega arith) (omega arith) (λ z. omega arith) ∙ ap (λ (x : ℕ). got x (length before + length (shortest v))) (omega arith))

-- the same at any position whose bytes begin with the form
pub number_at : (most v at : ℕ) (s rest : List ℕ) → drop at s ≡ shortest v ++ rest → v ≤ most → number most s at ≡ got v (at + length (shortest v))
number_at most v at s rest e h =
    rw e (read_back (suc v) most 0 1 at v rest (omega arith) (omega arith) (λ z. omega arith) ∙ ap (λ (x : ℕ). got x (at + length (shortest v))) (omega arith))

-- ---- nothing but the shortest form is read

-- every byte is one
unfoldable pub Octets : List ℕ → Type 0
Octets [] = Unit {0}
Octets (b ∷ bs) = (b < 256) × Octets bs

pub octets_drop : (n : ℕ) (s : List ℕ) → Octets s → Octets (drop n s)
unfolding Octets
octets_drop zero s o = o
octets_drop (suc n) [] o = o
octets_drop (suc n) (b ∷ s) o = octets_drop n s o.1

-- a list whose every entry is below 256
pub octets : (s : List ℕ) → ((i : ℕ) → get_or s i 0 < 256) → Octets s
unfolding Octets
octets [] h = tt
octets (b ∷ s) h = (h 0, octets s (λ i. h (suc i)))

-- what was read as x where the groups before have the value a and a group counts w
record Taken (a w : ℕ) (bs : List ℕ) (x : ℕ) : Type 0 where
  value : ℕ
  whole : x ≡ a + value * w
  positive : 1 < w → 0 < value
  rest : List ℕ
  bytes : bs ≡ shortest value ++ rest

never : {A : Type 0} (c x n : ℕ) → ◌≡◌ {A = Result ℕ} (refused c) (got x n) → A
never c x n e = let z : ◌≡◌ {A = ℕ} 0 1 = cc in absurd (omega arith)

-- a group with more to follow is a value's lowest
lowest : (b u : ℕ) → 128 ≤ b → b < 256 → (b - 128 + u * 128) % 128 + 128 ≡ b
lowest b u h k = omega arith

higher : (b u : ℕ) → 128 ≤ b → b < 256 → (b - 128 + u * 128) / 128 ≡ u
higher b u h k = omega arith

gather : (a b u w : ℕ) → a + (b - 128) * w + u * (w * 128) ≡ a + (b - 128 + u * 128) * w
gather a b u w = let e = add-mul (b - 128) (u * 128) w in let m : u * 128 * w ≡ u * (w * 128) = rw (mul_assoc u 128 w, mul_comm 128 w) in omega arith

-- a last group that is not padding
positive_group : (b : ℕ) (more : Bool) → more ≡ true → (eqb b 0 && more) ≡ false → 0 < b
positive_group zero more m z = let e : ◌≡◌ {A = Bool} true false = rw (m, eq-eqb 0 0 refl) at z in absurd (differ e)
  where
    differ : ◌≡◌ {A = Bool} true false → ⊥
    differ e = let z : ◌≡◌ {A = ℕ} 0 1 = cc in omega arith
positive_group (suc b) more m z = omega arith

take_groups : (most a w at : ℕ) (bs : List ℕ) (x n : ℕ) → Octets bs → 0 < w → groups most a w at bs ≡ got x n → Taken a w bs x
unfolding groups Octets
take_groups most a w at [] x n o p e = never 1 x n e
take_groups most a w at (b ∷ bs) x n o p e =
    go (ltb most (a + b * w)) (leb 128 b) (eqb b 0 && ltb 1 w) refl refl e (take_groups most (a + (b - 128) * w) (w * 128) (at + 1) bs x n o.1 (omega arith))
  where
    go : (over more padded : Bool) → leb 128 b ≡ more → (eqb b 0 && ltb 1 w) ≡ padded
        → pick over (refused 3) (pick more (groups most (a + (b - 128) * w) (w * 128) (at + 1) bs) (pick padded (refused 3) (got (a + b * w) (at + 1)))) ≡ got x n
        → (groups most (a + (b - 128) * w) (w * 128) (at + 1) bs ≡ got x n → Taken (a + (b - 128) * w) (w * 128) bs x)
        → Taken a w (b ∷ bs) x
    go true more padded m z e ih = never 3 x n e
    go false true padded m z e ih =
        let r = ih e in
        let h : 128 ≤ b = leb-true 128 b m in
        let u : ℕ = b - 128 + r.value * 128 in
        let big : 128 ≤ u = omega (arith, r.positive (omega arith)) in
        record {
          value = u;
          whole = r.whole ∙ gather a b r.value w;
          positive = λ q. omega arith;
          rest = r.rest;
          bytes = rw (shortest_more u big, lowest b r.value h o.0, higher b r.value h o.0) (ap (λ (l : List ℕ). b ∷ l) r.bytes);
        }
    go false false true m z e ih = never 3 x n e
    go false false false m z e ih =
        let low : b < 128 = leb-false 128 b m in
        record {
          value = b;
          whole = (cc);
          positive = λ q. nonzero q z;
          rest = bs;
          bytes = rw (shortest_last b low);
        }
      where
        nonzero : 1 < w → (eqb b 0 && ltb 1 w) ≡ false → 0 < b
        nonzero q z = positive_group b (ltb 1 w) (lt-ltb 1 w q) z

-- A number that is read stands there in its shortest form, and nothing of what follows is taken.
pub number_took : (most at v n : ℕ) (s : List ℕ) → Octets s → number most s at ≡ got v n → drop at s ≡ shortest v ++ drop n s
number_took most at v n s o e =
    let r = take_groups most 0 1 at (drop at s) v n (octets_drop at s o) (omega arith) e in
    let same : r.value ≡ v = omega (arith, r.whole) in
    let here : drop at s ≡ shortest v ++ r.rest = rw same at r.bytes in
    let small : v ≤ most = (bounds most 0 1 at (drop at s) v n e).small in
    let next : n ≡ at + length (shortest v) = same_next v n (at + length (shortest v)) (sym e ∙ number_at most v at s r.rest here small) in
    let after : drop n s ≡ r.rest = ap (λ (k : ℕ). drop k s) next ∙ sym (drop-drop (length (shortest v)) at s) ∙ ap (λ (l : List ℕ). drop (length (shortest v)) l) here ∙ drop-append_seam (shortest v) r.rest in
    here ∙ ap (λ (l : List ℕ). shortest v ++ l) (sym after)
  where
    same_next : (v n m : ℕ) → ◌≡◌ {A = Result ℕ} (got v n) (got v m) → n ≡ m
    same_next v n m e = cc
