-- A session alone in its areas: words cleared, and a fresh session.
use mathlib.Core.Path.{◌≡◌, refl, sym, subst, ◌∙◌}
use mathlib.Core.List.{List}
use Prim.Native.Nat.{ℕ, zero, suc, ◌+◌, ◌^◌, ◌≤◌, ◌<◌}
use native.Mathlib.Decide.{dec_lt}
use native.Mathlib.Omega.{arith}
use lib.ListN.{length, get_or, take, drop, replicate, length-replicate, get_or-replicate}
use lib.Seq.{ext_get_or, get_or-drop, length-take-le}
use Rattle.solver.specs.declared.Limits.{Limits}
use Rattle.solver.specs.Session.{fresh}
use Rattle.solver.specs.Words.ResolveFrames.{Cleared}
use Rattle.solver.specs.Words.SessionRepresentation.{unused_words}
use Rattle.solver.specs.Words.SessionsContract.{Holds, counters}
use Rattle.solver.specs.Words.Worklist.{Zero}
use Rattle.solver.specs.Words.TableLayout.{unused_from, unused_count, lasting_words}
use Rattle.solver.proofs.Laws.Resolving.WorklistLaws.{zero_drop}
use Rattle.solver.proofs.Laws.Table.ColumnLaws.{column_read, rest_read}
use Rattle.solver.proofs.Laws.Table.RepresentationLaws.{lent_fresh}

-- ---- words all 0

pub all_zero : (l : List ℕ) (n : ℕ) → length l ≡ n → ((j : ℕ) → j < n → get_or l j 0 ≡ 0) → l ≡ replicate n 0
all_zero l n e z =
    ext_get_or 0 l (replicate n 0) (e ∙ sym (length-replicate n 0)) (λ i h. z i (omega arith) ∙ sym (get_or-replicate n i 0 0 (omega arith)))

pub zero_all : (n : ℕ) → Zero (replicate n 0)
zero_all zero i = refl
zero_all (suc n) zero = refl
zero_all (suc n) (suc i) = zero_all n i

pub zero_cleared : (l : List ℕ) (n : ℕ) → l ≡ replicate n 0 → Zero l
zero_cleared l n e = subst Zero (sym e) (zero_all n)

-- the words in use were cleared, and the others were 0
pub used_cleared : (n : ℕ) (l₀ l : List ℕ) → length l ≡ length l₀ → Zero (drop n l₀) → Cleared n l₀ l → l ≡ replicate (length l₀) 0
used_cleared n l₀ l e z c = all_zero l (length l₀) e (λ j h. go j (dec_lt j n))
  where
    go : (j : ℕ) → Dec (j < n) → get_or l j 0 ≡ 0
    go j (yes p) = c.zeros j p
    go j (no p) = c.others j (omega arith) ∙ rest_read n l₀ z j (omega arith)

-- of a table only the columns in use are not 0
pub unused_zero : (m : ℕ) (ts : List ℕ) → Zero (unused_words m ts) → Zero (drop (lasting_words m) ts) → Zero (drop (unused_from m) ts)
unused_zero m ts u z v = get_or-drop (unused_from m) ts v 0 ∙ go (dec_lt v (unused_count m))
  where
    go : Dec (v < unused_count m) → get_or ts (unused_from m + v) 0 ≡ 0
    go (yes p) = sym (column_read (unused_count m) (unused_from m) ts (unused_from m + v) v refl p) ∙ u v
    go (no p) = rest_read (lasting_words m) ts z (unused_from m + v) (omega arith)

-- ---- a fresh session

pub holds_fresh : (limits : Limits) (a b ts : List ℕ) → Zero a → Zero b → Zero ts → limits.variables < 65536 → lasting_words limits.variables ≤ length ts
    → Holds (counters limits) a b ts fresh
holds_fresh limits a b ts za zb zt narrow room =
    record {
      represents = lent_fresh (counters limits) (take 0 a) (take 0 b) ts refl refl refl refl (length-take-le 0 a (omega arith)) (length-take-le 0 b (omega arith)) narrow room zt;
      kinds = za;
      vals = zb;
      blank = zero_drop (lasting_words limits.variables) ts zt;
    }
