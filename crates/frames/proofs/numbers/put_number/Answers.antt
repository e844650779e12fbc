-- Four bytes in the place of four are four writes.
use Rattle.std.proofs.Common.{◌≡◌, refl, ap, ◌+◌, ◌-◌, ◌≤◌, ℕ, zero, suc, length, set, List, ◌∷◌, [], arith}
use borrow.Rule.Slice.PartMut.{put_mid}
use Rattle.frames.proofs.numbers.put_number.Goals as goal

shifted : (i : ℕ) → (suc i + 1 ≡ suc (i + 1)) × (suc i + 2 ≡ suc (i + 2)) × (suc i + 3 ≡ suc (i + 3))
shifted i = (omega arith, omega arith, omega arith)

four : (i : ℕ) (s : List ℕ) (a b c d : ℕ) → i + 4 ≤ length s
    → put_mid i 4 s (a ∷ b ∷ c ∷ d ∷ []) ≡ set (set (set (set s i a) (i + 1) b) (i + 2) c) (i + 3) d
four zero (w ∷ x ∷ y ∷ z ∷ s) a b c d h = refl
four (suc i) (x ∷ s) a b c d h = rw ((shifted i).0, (shifted i).1, (shifted i).2) (ap (λ t. x ∷ t) (four i s a b c d (omega arith)))
four i s a b c d h = absurd (omega arith)

pub returns : goal.returns
returns c =
    let width : c.args.i + 4 - c.args.i ≡ 4 = omega arith in
    rw (c.copy_from_slice.ensures.after, c.to_le_bytes.ensures, width) (four _ _ _ _ _ _ c.requires)
