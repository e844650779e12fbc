-- The record of chains as words: a pass over ends and tails, a step at a time.
use mathlib.Core.Path.{◌≡◌, refl, sym, ap, ◌∙◌, subst}
use mathlib.Core.Bool.{Bool, true, false, ◌&&◌}
use mathlib.Core.List.{List}
use Prim.Native.Nat.{ℕ, suc, ◌+◌, ◌*◌, ◌<◌, ◌≤◌}
use native.Mathlib.Decide.{ℕ_discrete, dec_lt}
use native.Mathlib.Omega.{arith}
use borrow.Author.Tests.{lt-ltb, le-ltb, eqb-true, eq-eqb}
use lib.Dec.{eqb, ltb}
use lib.ListN.{length, get_or, set, take, drop, length-set}
use lib.Seq.{get_or-set_same, get_or-set_other, take-set-le, drop-set-lt}
use Rattle.terms.specs.Result.{pick}
use Rattle.solver.specs.Words.TableLayout.{ends_from, tails_from, unused_from, lasting_words}
use Rattle.solver.specs.Words.ChainRecord.{named}
use Rattle.solver.specs.Words.ChainWords.{names, ChainsMoved, TailsSet}

module _ (m v : ℕ) (ts : List ℕ) where
  -- none of the first 0 variables, and of one more
  pub names_none : (u : ℕ) → names m 0 v ts u ≡ false
  unfolding names
  names_none u = rw (le-ltb u 0 (omega arith)) refl

  pub names_past : (n u : ℕ) → n ≤ u → names m n v ts u ≡ false
  unfolding names
  names_past n u h = rw (le-ltb u n h) refl

  pub names_more : (n u : ℕ) → (u ≡ n → ⊥) → names m (n + 1) v ts u ≡ names m n v ts u
  unfolding names
  names_more n u d = go (dec_lt u n)
    where
      go : Dec (u < n) → names m (n + 1) v ts u ≡ names m n v ts u
      go (yes l) = rw (lt-ltb u n l, lt-ltb u (n + 1) (omega arith)) refl
      go (no l) = rw (le-ltb u n (omega arith), le-ltb u (n + 1) (omega arith)) refl

  pub names_last : (n : ℕ) → names m (n + 1) v ts n ≡ eqb (named (get_or ts (tails_from m + n) 0)) (suc v)
  unfolding names
  names_last n = rw (lt-ltb n (n + 1) (omega arith)) refl

  pub names_here : (n u : ℕ) → u < n → names m n v ts u ≡ eqb (named (get_or ts (tails_from m + u) 0)) (suc v)
  unfolding names
  names_here n u h = rw (lt-ltb u n h) refl

module _ {m v : ℕ} {ts : List ℕ} where
  module _ {end tail : ℕ} where
    pub chains_start : ChainsMoved m 0 v end tail ts ts
    chains_start = record {
      size = refl;
      ends = λ u h. rw (names_none m v ts u) refl;
      tails = λ u h. rw (names_none m v ts u) refl;
      front = refl;
      rest = refl;
    }

    module _ {n : ℕ} {us : List ℕ} (low : n < m) (room : lasting_words m ≤ length ts) (M : ChainsMoved m n v end tail ts us) where
      -- the tail that is looked at is that of before
      pub chains_here : get_or us (tails_from m + n) 0 ≡ get_or ts (tails_from m + n) 0
      chains_here = M.tails n low ∙ rw (names_past m v ts n n (omega arith)) refl

      -- it names v
      pub chains_named : eqb (named (get_or us (tails_from m + n) 0)) (suc v) ≡ true
          → ChainsMoved m (n + 1) v end tail ts (set (set us (ends_from m + n) end) (tails_from m + n) tail)
      chains_named e =
          let mid = set us (ends_from m + n) end in
          let hit : names m (n + 1) v ts n ≡ true = names_last m v ts n ∙ ap (λ (x : ℕ). eqb (named x) (suc v)) (sym chains_here) ∙ e in
          let s = M.size in
          record {
            size = length-set mid (tails_from m + n) tail ∙ length-set us (ends_from m + n) end ∙ M.size;
            ends = λ u h. get_or-set_other mid (tails_from m + n) (ends_from m + u) tail 0 (λ q. omega arith) ∙ one_end hit u h (ℕ_discrete u n);
            tails = λ u h. one_tail hit u h (ℕ_discrete u n);
            front = take-set-le (ends_from m) mid (tails_from m + n) tail (omega arith) ∙ take-set-le (ends_from m) us (ends_from m + n) end (omega arith) ∙ M.front;
            rest = drop-set-lt (unused_from m) mid (tails_from m + n) tail (omega arith) ∙ drop-set-lt (unused_from m) us (ends_from m + n) end (omega arith) ∙ M.rest;
          }
        where
          one_end : names m (n + 1) v ts n ≡ true → (u : ℕ) → u < m → Dec (u ≡ n)
              → get_or (set us (ends_from m + n) end) (ends_from m + u) 0 ≡ pick (names m (n + 1) v ts u) end (get_or ts (ends_from m + u) 0)
          one_end hit u h (yes q) = let s = M.size in rw (q, hit) (get_or-set_same us (ends_from m + n) end 0 (omega arith))
          one_end hit u h (no q) = rw (names_more m v ts n u q) (get_or-set_other us (ends_from m + n) (ends_from m + u) end 0 (λ c. q (omega arith)) ∙ M.ends u h)

          one_tail : names m (n + 1) v ts n ≡ true → (u : ℕ) → u < m → Dec (u ≡ n)
              → get_or (set (set us (ends_from m + n) end) (tails_from m + n) tail) (tails_from m + u) 0 ≡ pick (names m (n + 1) v ts u) tail (get_or ts (tails_from m + u) 0)
          one_tail hit u h (yes q) =
              let s = M.size in
              rw (q, hit) (get_or-set_same (set us (ends_from m + n) end) (tails_from m + n) tail 0 (omega (arith, length-set us (ends_from m + n) end)))
          one_tail hit u h (no q) =
              rw (names_more m v ts n u q)
              (get_or-set_other (set us (ends_from m + n) end) (tails_from m + n) (tails_from m + u) tail 0 (λ c. q (omega arith))
              ∙ get_or-set_other us (ends_from m + n) (tails_from m + u) end 0 (λ c. omega arith) ∙ M.tails u h)

      -- it does not
      pub chains_other : eqb (named (get_or us (tails_from m + n) 0)) (suc v) ≡ false → ChainsMoved m (n + 1) v end tail ts us
      chains_other e =
          let miss : names m (n + 1) v ts n ≡ false = names_last m v ts n ∙ ap (λ (x : ℕ). eqb (named x) (suc v)) (sym chains_here) ∙ e in
          record {
            size = M.size;
            ends = λ u h. M.ends u h ∙ ap (λ (b : Bool). pick b end (get_or ts (ends_from m + u) 0)) (same miss u (ℕ_discrete u n));
            tails = λ u h. M.tails u h ∙ ap (λ (b : Bool). pick b tail (get_or ts (tails_from m + u) 0)) (same miss u (ℕ_discrete u n));
            front = M.front;
            rest = M.rest;
          }
        where
          same : names m (n + 1) v ts n ≡ false → (u : ℕ) → Dec (u ≡ n) → names m n v ts u ≡ names m (n + 1) v ts u
          same miss u (yes q) = ap (λ (x : ℕ). names m n v ts x) q ∙ names_past m v ts n n (omega arith) ∙ sym (ap (λ (x : ℕ). names m (n + 1) v ts x) q ∙ miss)
          same miss u (no q) = sym (names_more m v ts n u q)

    -- where v's tail alone names v, its two words are all that moves
    pub chains_alone : {n : ℕ} → v < n → n ≤ m → lasting_words m ≤ length ts → eqb (named (get_or ts (tails_from m + v) 0)) (suc v) ≡ true
        → ((u : ℕ) → names m n v ts u ≡ true → u ≡ v) → ChainsMoved m n v end tail ts (set (set ts (ends_from m + v) end) (tails_from m + v) tail)
    chains_alone {n} low most room own only =
        let mid = set ts (ends_from m + v) end in
        record {
          size = length-set mid (tails_from m + v) tail ∙ length-set ts (ends_from m + v) end;
          ends = λ u h. get_or-set_other mid (tails_from m + v) (ends_from m + u) tail 0 (λ q. omega arith) ∙ one_end u h (ℕ_discrete u v);
          tails = λ u h. one_tail u h (ℕ_discrete u v);
          front = take-set-le (ends_from m) mid (tails_from m + v) tail (omega arith) ∙ take-set-le (ends_from m) ts (ends_from m + v) end (omega arith);
          rest = drop-set-lt (unused_from m) mid (tails_from m + v) tail (omega arith) ∙ drop-set-lt (unused_from m) ts (ends_from m + v) end (omega arith);
        }
      where
        at_v : names m n v ts v ≡ true
        at_v = names_here m v ts n v low ∙ own

        miss : (u : ℕ) → (u ≡ v → ⊥) → names m n v ts u ≡ false
        miss u q = go (names m n v ts u) refl
          where
            go : (b : Bool) → names m n v ts u ≡ b → b ≡ false
            go true e = absurd (q (only u e))
            go false e = refl

        one_end : (u : ℕ) → u < m → Dec (u ≡ v) → get_or (set ts (ends_from m + v) end) (ends_from m + u) 0 ≡ pick (names m n v ts u) end (get_or ts (ends_from m + u) 0)
        one_end u h (yes q) = rw (q, at_v) (get_or-set_same ts (ends_from m + v) end 0 (omega arith))
        one_end u h (no q) = rw (miss u q) (get_or-set_other ts (ends_from m + v) (ends_from m + u) end 0 (λ c. q (omega arith)))

        one_tail : (u : ℕ) → u < m → Dec (u ≡ v)
            → get_or (set (set ts (ends_from m + v) end) (tails_from m + v) tail) (tails_from m + u) 0 ≡ pick (names m n v ts u) tail (get_or ts (tails_from m + u) 0)
        one_tail u h (yes q) =
            rw (q, at_v) (get_or-set_same (set ts (ends_from m + v) end) (tails_from m + v) tail 0 (omega (arith, length-set ts (ends_from m + v) end)))
        one_tail u h (no q) =
            rw (miss u q)
            (get_or-set_other (set ts (ends_from m + v) end) (tails_from m + v) (tails_from m + u) tail 0 (λ c. q (omega arith))
            ∙ get_or-set_other ts (ends_from m + v) (tails_from m + u) end 0 (λ c. omega arith))

  module _ {tail : ℕ} where
    pub tails_start : TailsSet m 0 v tail ts ts
    tails_start = record { size = refl; tails = λ u h. rw (names_none m v ts u) refl; front = refl; rest = refl }

    module _ {n : ℕ} {us : List ℕ} (low : n < m) (room : lasting_words m ≤ length ts) (M : TailsSet m n v tail ts us) where
      pub tails_here : get_or us (tails_from m + n) 0 ≡ get_or ts (tails_from m + n) 0
      tails_here = M.tails n low ∙ rw (names_past m v ts n n (omega arith)) refl

      pub tails_named : eqb (named (get_or us (tails_from m + n) 0)) (suc v) ≡ true → TailsSet m (n + 1) v tail ts (set us (tails_from m + n) tail)
      tails_named e =
          let hit : names m (n + 1) v ts n ≡ true = names_last m v ts n ∙ ap (λ (x : ℕ). eqb (named x) (suc v)) (sym tails_here) ∙ e in
          let s = M.size in
          record {
            size = length-set us (tails_from m + n) tail ∙ M.size;
            tails = λ u h. one hit u h (ℕ_discrete u n);
            front = take-set-le (tails_from m) us (tails_from m + n) tail (omega arith) ∙ M.front;
            rest = drop-set-lt (unused_from m) us (tails_from m + n) tail (omega arith) ∙ M.rest;
          }
        where
          one : names m (n + 1) v ts n ≡ true → (u : ℕ) → u < m → Dec (u ≡ n)
              → get_or (set us (tails_from m + n) tail) (tails_from m + u) 0 ≡ pick (names m (n + 1) v ts u) tail (get_or ts (tails_from m + u) 0)
          one hit u h (yes q) = let s = M.size in rw (q, hit) (get_or-set_same us (tails_from m + n) tail 0 (omega arith))
          one hit u h (no q) = rw (names_more m v ts n u q) (get_or-set_other us (tails_from m + n) (tails_from m + u) tail 0 (λ c. q (omega arith)) ∙ M.tails u h)

      pub tails_other : eqb (named (get_or us (tails_from m + n) 0)) (suc v) ≡ false → TailsSet m (n + 1) v tail ts us
      tails_other e =
          let miss : names m (n + 1) v ts n ≡ false = names_last m v ts n ∙ ap (λ (x : ℕ). eqb (named x) (suc v)) (sym tails_here) ∙ e in
          record {
            size = M.size;
            tails = λ u h. M.tails u h ∙ ap (λ (b : Bool). pick b tail (get_or ts (tails_from m + u) 0)) (same miss u (ℕ_discrete u n));
            front = M.front;
            rest = M.rest;
          }
        where
          same : names m (n + 1) v ts n ≡ false → (u : ℕ) → Dec (u ≡ n) → names m n v ts u ≡ names m (n + 1) v ts u
          same miss u (yes q) = ap (λ (x : ℕ). names m n v ts x) q ∙ names_past m v ts n n (omega arith) ∙ sym (ap (λ (x : ℕ). names m (n + 1) v ts x) q ∙ miss)
          same miss u (no q) = sym (names_more m v ts n u q)
