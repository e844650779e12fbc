-- Laws of marks and queue.
use mathlib.Core.List.{List, [], ◌∷◌, ◌++◌}
use mathlib.Core.Logic.{◌⊎◌, inl, inr, ⊎_elim}
use mathlib.Core.Path.{◌≡◌, refl, sym, subst, ◌∙◌}
use Prim.Native.Nat.{ℕ, zero, suc, ◌+◌, ◌<◌, ◌≤◌}
use native.Mathlib.Omega.{arith}
use native.Mathlib.Decide.{ℕ_discrete}
use lib.ListN.{length, get_or, set, take, drop, length-set}
use lib.Seq.{get_or-set_same, get_or-set_other, get_or-drop}
use Rattle.solver.specs.Words.Worklist.{sum, Zero, Work, Grown}
use Rattle.solver.specs.Words.CongruenceClasses.{Clearing}

sum_set : (l : List ℕ) (i : ℕ) → i < length l → get_or l i 0 ≡ 0 → sum (set l i 1) ≡ sum l + 1
unfolding sum
sum_set [] i lt e = absurd (omega arith)
sum_set (x ∷ xs) zero lt e = omega arith
sum_set (x ∷ xs) (suc i) lt e = omega (arith, sum_set xs i (omega arith) e)

sum-le : (l : List ℕ) → ((v : ℕ) → get_or l v 0 ≤ 1) → sum l ≤ length l
unfolding sum
sum-le [] b = omega arith
sum-le (x ∷ xs) b = omega (arith, b 0, sum-le xs (λ v. b (suc v)))

sum-zero : (l : List ℕ) → Zero l → sum l ≡ 0
unfolding sum
sum-zero [] z = refl
sum-zero (x ∷ xs) z = omega (arith, z 0, sum-zero xs (λ v. z (suc v)))

-- a number whose mark is 1 is in the table
pub in_range : (l : List ℕ) (v : ℕ) → get_or l v 0 ≡ 1 → v < length l
in_range [] v e = absurd (omega arith)
in_range (x ∷ xs) zero e = omega arith
in_range (x ∷ xs) (suc v) e = omega (arith, in_range xs v e)

-- a mark that is set is 1 there and as it was elsewhere
marked_here : (l : List ℕ) (v : ℕ) → v < length l → get_or (set l v 1) v 0 ≡ 1
marked_here l v lt = get_or-set_same l v 1 0 lt

marked_more : (l : List ℕ) (v u : ℕ) → get_or l u 0 ≡ 1 → get_or (set l v 1) u 0 ≡ 1
marked_more l v u e = go (ℕ_discrete u v)
  where
    go : Dec (u ≡ v) → get_or (set l v 1) u 0 ≡ 1
    go (yes p) = rw p (marked_here l v (rw p at (in_range l u e)))
    go (no p) = get_or-set_other l v u 1 0 p ∙ e

-- no mark and an empty queue
pub work_none : (marks queue : List ℕ) → Zero marks → Zero queue → Work marks queue 0
work_none marks queue z y =
    record {
      bits = λ v. omega (arith, z v);
      counted = sym (sum-zero marks z);
      queued = λ k lt. absurd (omega arith);
      found = λ v e. absurd (omega (arith, z v));
      blank = λ k _. y k;
    }

module _ {marks queue : List ℕ} {top : ℕ} (W : Work marks queue top) where
  pub top-le : top ≤ length marks
  top-le = omega (arith, W.counted, sum-le marks W.bits)

  pub entry_in : (k : ℕ) → k < top → get_or queue k 0 < length marks
  entry_in k lt = in_range marks (get_or queue k 0) (W.queued k lt)

  -- v is marked now
  module _ (v : ℕ) (lt : v < length marks) (e : get_or marks v 0 ≡ 0) where
    bits_after : (u : ℕ) → Dec (u ≡ v) → get_or (set marks v 1) u 0 ≤ 1
    bits_after u (yes p) = rw p (omega (arith, marked_here marks v lt))
    bits_after u (no p) = omega (arith, get_or-set_other marks v u 1 0 p, W.bits u)

    pub room_left : top < length marks
    room_left =
        omega (arith, W.counted, sum_set marks v lt e, length-set marks v 1, sum-le (set marks v 1) (λ u. bits_after u (ℕ_discrete u v)))

    module _ (q : top < length queue) where
      queued_after : (k : ℕ) → k < top + 1 → Dec (k ≡ top) → get_or (set marks v 1) (get_or (set queue top v) k 0) 0 ≡ 1
      queued_after k l (yes p) = rw (p, get_or-set_same queue top v 0 q) (marked_here marks v lt)
      queued_after k l (no p) = rw (get_or-set_other queue top k v 0 p) (marked_more marks v (get_or queue k 0) (W.queued k (omega arith)))

      found_after : (u : ℕ) → get_or (set marks v 1) u 0 ≡ 1 → Dec (u ≡ v) → (k : ℕ) × (k < top + 1) × (get_or (set queue top v) k 0 ≡ u)
      found_after u m (yes p) = (top, omega arith, get_or-set_same queue top v 0 q ∙ sym p)
      found_after u m (no p) =
          let f = W.found u (sym (get_or-set_other marks v u 1 0 p) ∙ m) in
          let l = f.1 in
          (f.0, omega arith, get_or-set_other queue top f.0 v 0 (λ x. omega arith) ∙ f.2)

      work_new : Work (set marks v 1) (set queue top v) (top + 1)
      work_new =
          record {
            bits = λ u. bits_after u (ℕ_discrete u v);
            counted = omega (arith, W.counted, sum_set marks v lt e);
            queued = λ k l. queued_after k l (ℕ_discrete k top);
            found = λ u m. found_after u m (ℕ_discrete u v);
            blank = λ k l. get_or-set_other queue top k v 0 (λ x. omega arith) ∙ W.blank k (omega arith);
          }

      only_after : (In : ℕ → Type 0) → In v → (u : ℕ) → get_or (set marks v 1) u 0 ≡ 1 → Dec (u ≡ v) → (get_or marks u 0 ≡ 1) ⊎ In u
      only_after In i u m (yes p) = inr (subst In (sym p) i)
      only_after In i u m (no p) = inl (sym (get_or-set_other marks v u 1 0 p) ∙ m)

      pub grown_new : (In : ℕ → Type 0) → In v → ((u : ℕ) → In u → u ≡ v) → Grown In marks queue top (set marks v 1) (set queue top v) (top + 1)
      grown_new In i one =
          record {
            work = work_new;
            same = λ k l. get_or-set_other queue top k v 0 (λ x. omega arith);
            longer = omega arith;
            old = λ u m. marked_more marks v u m;
            all = λ u l j. rw (one u j) (marked_here marks v lt);
            only = λ u m. only_after In i u m (ℕ_discrete u v);
          }

  -- nothing is marked: the table has none of the set, or it was marked
  pub grown_none : (In : ℕ → Type 0) → ((u : ℕ) → u < length marks → In u → get_or marks u 0 ≡ 1) → Grown In marks queue top marks queue top
  grown_none In a =
      record { work = W; same = λ k l. refl; longer = omega arith; old = λ u m. m; all = a; only = λ u m. inl m }

  pub marked : (v : ℕ) → (get_or marks v 0 ≡ 0 → ⊥) → get_or marks v 0 ≡ 1
  marked v p = omega (arith, W.bits v)

-- one set, and then another
pub grown_then : (P Q R : ℕ → Type 0) {m₀ q₀ m₁ q₁ m₂ q₂ : List ℕ} {t₀ t₁ t₂ : ℕ}
    → Grown P m₀ q₀ t₀ m₁ q₁ t₁ → Grown Q m₁ q₁ t₁ m₂ q₂ t₂ → length m₂ ≡ length m₁
    → ((u : ℕ) → R u → P u ⊎ Q u) → ((u : ℕ) → P u → R u) → ((u : ℕ) → Q u → R u) → Grown R m₀ q₀ t₀ m₂ q₂ t₂
grown_then P Q R G H l split left right =
    record {
      work = H.work;
      same = λ k x. let y = G.longer in H.same k (omega arith) ∙ G.same k x;
      longer = omega (arith, G.longer, H.longer);
      old = λ u m. H.old u (G.old u m);
      all = λ u x r. ⊎_elim (λ p. H.old u (G.all u (omega arith) p)) (λ q. H.all u x q) (split u r);
      only = λ u m. ⊎_elim (λ n. ⊎_elim (λ o. inl o) (λ p. inr (left u p)) (G.only u n)) (λ q. inr (right u q)) (H.only u m);
    }

-- marks and a queue can be cleared
pub clearing : {marks queue : List ℕ} {top : ℕ} → Work marks queue top → top ≤ length queue → Clearing marks queue top
clearing {marks} W f =
    record {
      fits = f;
      inside = entry_in W;
      hung = λ v l. W.found v (marked W v (λ (e : get_or marks v 0 ≡ 0). omega (arith, e)));
      gone = W.blank;
    }

-- ---- words that are 0, cut in two and joined

pub zero_take : (n : ℕ) (w : List ℕ) → Zero w → Zero (take n w)
zero_take zero w z i = refl
zero_take (suc n) [] z i = refl
zero_take (suc n) (x ∷ xs) z zero = z 0
zero_take (suc n) (x ∷ xs) z (suc i) = zero_take n xs (λ j. z (suc j)) i

pub zero_drop : (n : ℕ) (w : List ℕ) → Zero w → Zero (drop n w)
zero_drop n w z i = get_or-drop n w i 0 ∙ z (n + i)

pub zero_joined : (v w : List ℕ) → Zero v → Zero w → Zero (v ++ w)
zero_joined [] w y z i = z i
zero_joined (x ∷ xs) w y z zero = y 0
zero_joined (x ∷ xs) w y z (suc i) = zero_joined xs w (λ j. y (suc j)) z i
