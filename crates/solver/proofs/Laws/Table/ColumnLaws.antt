-- Laws of a table's columns: the column at o is the m words from o on, `take m (drop o ts)`. A place i of the table that is word v of it is
-- given by the equation i ≡ o + v.
use mathlib.Core.List.{List, [], ◌∷◌}
use mathlib.Core.Path.{◌≡◌, sym, ap, ◌∙◌}
use Prim.Native.Nat.{ℕ, zero, suc, ◌+◌, ◌-◌, ◌<◌, ◌≤◌}
use native.Mathlib.Omega.{arith}
use lib.ListN.{length, get_or, set, take, drop, length-drop}
use lib.Seq.{get_or-take, get_or-drop, length-take-le, take-set-lt, take-set-le, drop-set-lt, drop-set-add, take-take, take-nil}
use Rattle.solver.specs.Words.Worklist.{Zero}
use Rattle.solver.proofs.Laws.Resolving.WorklistLaws.{zero_take, zero_drop}

-- the m words from o on are among the first o + m
take_drop : (m o : ℕ) (l : List ℕ) → take m (drop o (take (o + m) l)) ≡ take m (drop o l)
take_drop m zero l = take-take m (0 + m) l (omega arith)
take_drop m (suc o) [] = ap (λ (l : List ℕ). take m (drop (suc o) l)) (take-nil (suc o + m))
take_drop m (suc o) (x ∷ xs) =
    let e : suc o + m ≡ suc (o + m) = omega arith in
    ap (λ (k : ℕ). take m (drop (suc o) (take k (x ∷ xs)))) e ∙ take_drop m o xs

-- ---- reading

module _ (m o : ℕ) (ts : List ℕ) where
  pub column_read : (i v : ℕ) → i ≡ o + v → v < m → get_or (take m (drop o ts)) v 0 ≡ get_or ts i 0
  column_read i v e h = get_or-take m (drop o ts) v 0 h ∙ get_or-drop o ts v 0 ∙ ap (λ (k : ℕ). get_or ts k 0) (sym e)

  pub column_length : o + m ≤ length ts → length (take m (drop o ts)) ≡ m
  column_length h = length-take-le m (drop o ts) (omega (arith, length-drop o ts))

  pub column_zero : Zero ts → Zero (take m (drop o ts))
  column_zero z = zero_take m (drop o ts) (zero_drop o ts z)

  -- ---- writing

  -- in the column, and before or after it
  pub column_write : (i v x : ℕ) → i ≡ o + v → v < m → take m (drop o (set ts i x)) ≡ set (take m (drop o ts)) v x
  column_write i v x e h =
      ap (λ (k : ℕ). take m (drop o (set ts k x))) e ∙ ap (λ (l : List ℕ). take m l) (drop-set-add o ts v x) ∙ take-set-lt m (drop o ts) v x h

  pub column_before : (i x : ℕ) → i < o → take m (drop o (set ts i x)) ≡ take m (drop o ts)
  column_before i x h = ap (λ (l : List ℕ). take m l) (drop-set-lt o ts i x h)

  pub column_behind : (i x : ℕ) → o + m ≤ i → take m (drop o (set ts i x)) ≡ take m (drop o ts)
  column_behind i x h =
      let e : i ≡ o + (i - o) = omega arith in
      ap (λ (k : ℕ). take m (drop o (set ts k x))) e ∙ ap (λ (l : List ℕ). take m l) (drop-set-add o ts (i - o) x)
      ∙ take-set-le m (drop o ts) (i - o) x (omega arith)

-- tables with the same first k words have the same columns there
pub column_same : (m o k : ℕ) (ts ts' : List ℕ) → take k ts ≡ take k ts' → o + m ≤ k → take m (drop o ts) ≡ take m (drop o ts')
column_same m o k ts ts' e h =
    sym (take_drop m o ts)
    ∙ ap (λ (l : List ℕ). take m (drop o l)) (sym (take-take (o + m) k ts h) ∙ ap (λ (l : List ℕ). take (o + m) l) e ∙ take-take (o + m) k ts' h)
    ∙ take_drop m o ts'

-- ---- what stands from k on

module _ (k : ℕ) (ts : List ℕ) where
  -- all 0 from k on
  pub rest_read : Zero (drop k ts) → (i : ℕ) → k ≤ i → get_or ts i 0 ≡ 0
  rest_read z i h =
      let e : i ≡ k + (i - k) = omega arith in
      ap (λ (n : ℕ). get_or ts n 0) e ∙ sym (get_or-drop k ts (i - k) 0) ∙ z (i - k)
