-- The pigeonhole law: n different numbers below m are at most m; and different tokens that begin a term are at most as many as begin one.
use mathlib.Core.Path.{◌≡◌, sym, ◌∙◌}
use mathlib.Core.List.{List, [], ◌∷◌}
use Prim.Native.Nat.{ℕ, zero, suc, ◌+◌, ◌≤◌, ◌<◌}
use native.Mathlib.Omega.{arith}
use native.Mathlib.Decide.{ℕ_discrete, dec_lt}
use borrow.Author.Tests.{ne_eqb}
use lib.Dec.{eqb}
use lib.ListN.{length, get_or}
use Rattle.terms.specs.Result.{pick}
use Rattle.solver.specs.Words.SessionRepresentation.{begins}

-- f i for i < n are below m, and different
pub record Apart (f : ℕ → ℕ) (n m : ℕ) : Type 0 where
  pub below : (i : ℕ) → i < n → f i < m
  pub apart : (i j : ℕ) → i < j → j < n → f i ≡ f j → ⊥

-- where f i is m, take x for it
abbrev swap : (a m x : ℕ) → Dec (a ≡ m) → ℕ
swap a m x (yes e) = x
swap a m x (no e) = a

swap_below : (a m x : ℕ) (d : Dec (a ≡ m)) → a < suc m → (a ≡ m → x < m) → swap a m x d < m
swap_below a m x (yes e) h g = g e
swap_below a m x (no e) h g = omega arith

swap_apart : (a b m x : ℕ) (d : Dec (a ≡ m)) (e : Dec (b ≡ m)) → (a ≡ b → ⊥) → (a ≡ x → ⊥) → (b ≡ x → ⊥) → swap a m x d ≡ swap b m x e → ⊥
swap_apart a b m x (yes p) (yes q) h g k e = h (p ∙ sym q)
swap_apart a b m x (yes p) (no q) h g k e = k (sym e)
swap_apart a b m x (no p) (yes q) h g k e = g e
swap_apart a b m x (no p) (no q) h g k e = h e

pub pigeon : (m n : ℕ) (f : ℕ → ℕ) → Apart f n m → n ≤ m
pigeon m zero f a = omega arith
pigeon zero (suc n) f a = absurd (omega (arith, a.below 0 (omega arith)))
pigeon (suc m) (suc n) f a =
    let r = pigeon m n (λ i. swap (f i) m (f n) (ℕ_discrete (f i) m)) (record {
      below = λ i h. swap_below (f i) m (f n) (ℕ_discrete (f i) m) (a.below i (omega arith))
          (λ e. omega (arith, a.below n (omega arith), diff i h e));
      apart = λ i j h k. swap_apart (f i) (f j) m (f n) (ℕ_discrete (f i) m) (ℕ_discrete (f j) m) (a.apart i j h (omega arith)) (a.apart i n (omega arith) (omega arith)) (a.apart j n k (omega arith));
    }) in
    omega arith
  where
    diff : (i : ℕ) → i < n → f i ≡ m → f n ≡ m → ⊥
    diff i h e g = a.apart i n h (omega arith) (e ∙ sym g)

-- a number below m that is not among them leaves room for it
abbrev more : (f : ℕ → ℕ) (n x i : ℕ) → Dec (i < n) → ℕ
more f n x i (yes h) = f i
more f n x i (no h) = x

more_below : (f : ℕ → ℕ) (n m x i : ℕ) (d : Dec (i < n)) → Apart f n m → x < m → more f n x i d < m
more_below f n m x i (yes h) a g = a.below i h
more_below f n m x i (no h) a g = g

more_apart : (f : ℕ → ℕ) (n m x i j : ℕ) (d : Dec (i < n)) (e : Dec (j < n)) → Apart f n m → ((k : ℕ) → k < n → f k ≡ x → ⊥)
    → i < j → j < suc n → more f n x i d ≡ more f n x j e → ⊥
more_apart f n m x i j (yes p) (yes q) a g h k z = a.apart i j h q z
more_apart f n m x i j (yes p) (no q) a g h k z = g i p z
more_apart f n m x i j (no p) e a g h k z = p (omega arith)

-- ---- tokens that begin a term

-- how many of the first i tokens begin a term
unfoldable rank : List ℕ → ℕ → ℕ
rank [] i = 0
rank (k ∷ ks) zero = 0
rank (k ∷ ks) (suc i) = pick (eqb k 0) 0 1 + rank ks i

rank_here : (ks : List ℕ) (i : ℕ) → 1 ≤ get_or ks i 0 → rank ks i < begins ks
unfolding rank begins
rank_here [] i h = absurd (omega arith)
rank_here (k ∷ ks) zero h = rw (ne_eqb k 0 (λ e. omega arith)) (omega arith)
rank_here (k ∷ ks) (suc i) h = omega (arith, rank_here ks i h)

rank_less : (ks : List ℕ) (i j : ℕ) → 1 ≤ get_or ks i 0 → i < j → rank ks i < rank ks j
unfolding rank
rank_less [] i j h l = absurd (omega arith)
rank_less (k ∷ ks) i zero h l = absurd (omega arith)
rank_less (k ∷ ks) zero (suc j) h l = rw (ne_eqb k 0 (λ e. omega arith)) (omega arith)
rank_less (k ∷ ks) (suc i) (suc j) h l = omega (arith, rank_less ks i j h (omega arith))

-- different tokens that begin a term
pub pigeon_begins : (ks : List ℕ) (n : ℕ) (f : ℕ → ℕ) → ((i : ℕ) → i < n → f i < length ks) → ((i j : ℕ) → i < j → j < n → f i ≡ f j → ⊥)
    → ((i : ℕ) → i < n → 1 ≤ get_or ks (f i) 0) → n ≤ begins ks
pigeon_begins ks n f below apart t = pigeon (begins ks) n (λ i. rank ks (f i)) (record {
  below = λ i h. rank_here ks (f i) (t i h);
  apart = λ i j h k e. split i j h k e (dec_lt (f i) (f j)) (dec_lt (f j) (f i));
})
  where
    split : (i j : ℕ) → i < j → j < n → rank ks (f i) ≡ rank ks (f j) → Dec (f i < f j) → Dec (f j < f i) → ⊥
    split i j h k e (yes p) q = omega (arith, rank_less ks (f i) (f j) (t i (omega arith)) p)
    split i j h k e (no p) (yes q) = omega (arith, rank_less ks (f j) (f i) (t j k) q)
    split i j h k e (no p) (no q) = apart i j h k (omega arith)

-- and one more that is not among them
pub begins_more : (ks : List ℕ) (n : ℕ) (f : ℕ → ℕ) (x : ℕ) → ((i : ℕ) → i < n → f i < length ks) → ((i j : ℕ) → i < j → j < n → f i ≡ f j → ⊥)
    → ((i : ℕ) → i < n → 1 ≤ get_or ks (f i) 0) → x < length ks → 1 ≤ get_or ks x 0 → ((i : ℕ) → i < n → f i ≡ x → ⊥) → n < begins ks
begins_more ks n f x below apart t lx kx g =
    pigeon_begins ks (suc n) (λ i. more f n x i (dec_lt i n))
    (λ i h. more_below f n (length ks) x i (dec_lt i n) a lx)
    (λ i j h k. more_apart f n (length ks) x i j (dec_lt i n) (dec_lt j n) a g h k)
    (λ i h. kind i (dec_lt i n))
  where
    a : Apart f n (length ks)
    a = record { below = below; apart = apart }

    kind : (i : ℕ) (d : Dec (i < n)) → 1 ≤ get_or ks (more f n x i d) 0
    kind i (yes h) = t i h
    kind i (no h) = kx
