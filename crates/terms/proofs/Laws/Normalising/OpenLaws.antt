-- The children of a content put into records, one after the other.
use mathlib.Core.Path.{◌≡◌, refl, sym, ap, ◌∙◌}
use mathlib.Core.Bool.{Bool}
use mathlib.Core.List.{List}
use Prim.Native.Nat.{ℕ, ◌+◌, ◌≤◌, ◌<◌}
use native.Mathlib.Omega.{arith}
use borrow.Author.Count.{below_more}
use borrow.Author.Tests.{lt-ltb, ne_eqb}
use lib.ListN.{length, get_or, set, drop, length-set}
use lib.Seq.{get_or-set_same, get_or-set_other}
use Rattle.terms.specs.Words.Tokens.{Area}
use Rattle.terms.specs.Term.{Term, Parts}
use Rattle.terms.specs.Words.QuestionsContract.{tag_of}
use Rattle.terms.specs.Tree.{error, subs, children, row, class, slot_by}
use Rattle.terms.specs.Words.Arena.{head_of, kids_of, Tree, Parted, Below, RowAt, TagAt, ValueAt, Counts, Frame, Frames, Filled, Overfull, Ordered}
use Rattle.terms.proofs.Laws.Asking.QuestionLaws.{tag_kind}
use Rattle.terms.proofs.Laws.Normalising.ArenaLaws.{Keeps, tree_kept, parted_kept, parted_over, parted_number, parted_child, tree_kind}
use Rattle.terms.proofs.Laws.Normalising.ScanLaws.{Came, came_number, drop_next, subs_num, subs_sub, subs_end, children_row}

-- ---- frames

pub frame_same : (hs : List ℕ) (a b : ℕ) → Frame hs hs a b
frame_same hs a b = record { long = refl; below = λ i lt. refl; above = λ i le. refl }

-- a store after a and before b
pub frame_set : (hs₀ hs : List ℕ) (a b c i x : ℕ) → Frame hs₀ hs a b → a ≤ i → i < c → b ≤ c → Frame hs₀ (set hs i x) a c
frame_set hs₀ hs a b c i x f l u w = record {
  long = length-set hs i x ∙ f.long;
  below = λ j lt. get_or-set_other hs i j x 0 (λ e. omega arith) ∙ f.below j lt;
  above = λ j le. get_or-set_other hs i j x 0 (λ e. omega arith) ∙ f.above j (omega arith);
}

-- one frame after the other, within wider bounds
pub frame_then : (hs₀ hs hs' : List ℕ) (a b c d x y : ℕ) → Frame hs₀ hs a b → Frame hs hs' c d → x ≤ a → x ≤ c → b ≤ y → d ≤ y → Frame hs₀ hs' x y
frame_then hs₀ hs hs' a b c d x y f g xa xc by dy = record {
  long = g.long ∙ f.long;
  below = λ i lt. g.below i (omega arith) ∙ f.below i (omega arith);
  above = λ i le. g.above i (omega arith) ∙ f.above i (omega arith);
}

pub frames_same : (hs cs : List ℕ) (a b : ℕ) → Frames hs cs hs cs a b
frames_same hs cs a b = record { heads = frame_same hs a b; kids = frame_same cs a b }

pub frames_set : (hs₀ cs₀ hs cs : List ℕ) (a b c i x y : ℕ) → Frames hs₀ cs₀ hs cs a b → a ≤ i → i < c → b ≤ c → Frames hs₀ cs₀ (set hs i x) (set cs i y) a c
frames_set hs₀ cs₀ hs cs a b c i x y f l u w =
    record { heads = frame_set hs₀ hs a b c i x f.heads l u w; kids = frame_set cs₀ cs a b c i y f.kids l u w }

pub frames_then : (hs₀ cs₀ hs cs hs' cs' : List ℕ) (a b c d x y : ℕ) → Frames hs₀ cs₀ hs cs a b → Frames hs cs hs' cs' c d → x ≤ a → x ≤ c → b ≤ y → d ≤ y
    → Frames hs₀ cs₀ hs' cs' x y
frames_then hs₀ cs₀ hs cs hs' cs' a b c d x y f g xa xc by dy = record {
  heads = frame_then hs₀ hs hs' a b c d x y f.heads g.heads xa xc by dy;
  kids = frame_then cs₀ cs cs' a b c d x y f.kids g.kids xa xc by dy;
}

-- one frame after the other, from the same record on
pub frames_next : (hs₀ cs₀ hs cs hs' cs' : List ℕ) (a b c : ℕ) → Frames hs₀ cs₀ hs cs a b → Frames hs cs hs' cs' a c → b ≤ c → Frames hs₀ cs₀ hs' cs' a c
frames_next hs₀ cs₀ hs cs hs' cs' a b c f g le = frames_then hs₀ cs₀ hs cs hs' cs' a b a c a c f g (omega arith) (omega arith) le (omega arith)

pub frames_wider : (hs₀ cs₀ hs cs : List ℕ) (a b c : ℕ) → Frames hs₀ cs₀ hs cs a b → b ≤ c → Frames hs₀ cs₀ hs cs a c
frames_wider hs₀ cs₀ hs cs a b c f le = record {
  heads = record { long = f.heads.long; below = f.heads.below; above = λ i l. f.heads.above i (omega arith) };
  kids = record { long = f.kids.long; below = f.kids.below; above = λ i l. f.kids.above i (omega arith) };
}

-- trees of records below next stay where only records from next on change
pub keeps_below : (hs cs hs' cs' : List ℕ) (S : ℕ → Bool) (next b : ℕ) → Below S next → Frames hs cs hs' cs' next b → Keeps hs cs S hs' cs' S
keeps_below hs cs hs' cs' S next b l f = record {
  marks = λ i m. m;
  heads = λ i m. f.heads.below i (l i m);
  kids = λ i m. f.kids.below i (l i m);
}

-- ---- the loop

-- n children stand in records, and those of `left` are to come
pub record OpeningAt (a : Area) (c e next : ℕ) (hs cs : List ℕ) (S : ℕ → Bool) (t : Term) (q n : ℕ) : Type 0 where
  pub left : Parts
  pub rest : Parted a hs cs S c e q n left
  pub order : drop n (children t) ≡ subs left
  pub total : n + length (subs left) ≡ length (children t)
  pub each : (j : ℕ) → j < n → Tree a hs cs S (get_or hs (next + j) 0) (get_or cs (next + j) 0) (get_or (children t) j error)

pub record Opening (a : Area) (hs₀ cs₀ : List ℕ) (h c e next : ℕ) (hs cs : List ℕ) (q n : ℕ) : Type 0 where
  pub small : e < 4294967296
  pub few : n ≤ q
  pub frames : Frames hs₀ cs₀ hs cs next (next + n)
  pub is : (S : ℕ → Bool) (t : Term) → Below S next → Tree a hs₀ cs₀ S h c t → OpeningAt a c e next hs cs S t q n

module _ {a : Area} {hs₀ cs₀ : List ℕ} {h c e next q : ℕ} where
  pub opening_start : RowAt a h q e → Opening a hs₀ cs₀ h c e next hs₀ cs₀ q 0
  opening_start r = record {
    small = r.small;
    few = omega arith;
    frames = frames_same hs₀ cs₀ next (next + 0);
    is = λ S t b w. record {
      left = row t;
      rest = r.is hs₀ cs₀ S c t w;
      order = sym (children_row t);
      total = omega (arith, ap length (children_row t));
      each = λ j lt. absurd (omega arith);
    };
  }

  module _ {hs cs : List ℕ} {n : ℕ} (o : Opening a hs₀ cs₀ h c e next hs cs q n) where
    pub opening_done : e ≤ q → {most : ℕ} → next + n ≤ most → Filled a hs₀ cs₀ hs cs h c next most n
    opening_done le fits = record {
      bound = fits;
      frames = o.frames;
      done = λ S t b w.
          let x = o.is S t b w in
          record { count = omega (arith, x.total, ap (λ (r : Parts). length (subs r)) (parted_over a hs cs S x.rest le), ap length subs_end); each = x.each };
    }

    module _ {k v r : ℕ} (m : Came a e q k v r) where
      pub opening_number : k ≡ 0 → Opening a hs₀ cs₀ h c e next hs cs r n
      opening_number z = record {
        small = o.small;
        few = omega (arith, o.few, m.rises);
        frames = o.frames;
        is = λ S t b w.
            let x = o.is S t b w in
            let y = parted_number a hs cs S x.rest m.before m.kind m.value z in
            let u = ap subs y.is ∙ subs_num v y.rest in
            record { left = y.rest; rest = rw (came_number m z) y.behind; order = x.order ∙ u; total = omega (arith, x.total, ap length u); each = x.each };
      }

      module _ (z : k ≡ 0 → ⊥) where
        -- one child more than there is room for
        pub opening_stop : {most : ℕ} → most ≤ next + n → next + n ≤ most → Overfull a hs₀ cs₀ hs cs h c next most
        opening_stop {most} le fits = record {
          frames = frames_wider hs₀ cs₀ hs cs next (next + n) most o.frames fits;
          stopped = λ S t b w.
              let x = o.is S t b w in
              let d = parted_child a hs cs S x.rest m.before m.kind m.value z in
              let u = drop_next error n (children t) d.term (subs d.rest) (x.order ∙ ap subs d.is ∙ subs_sub d.term d.rest) in
              omega (arith, u.0);
        }

        pub opening_child : {x y : ℕ} → x ≡ head_of hs c q n → y ≡ kids_of cs c n → next + n < length hs → next + n < length cs
            → Opening a hs₀ cs₀ h c e next (set hs (next + n) x) (set cs (next + n) y) r (n + 1)
        opening_child {x} {y} ex ey lh lc = record {
          small = o.small;
          few = omega (arith, o.few, m.rises);
          frames = frames_set hs₀ cs₀ hs cs next (next + n) (next + (n + 1)) (next + n) x y o.frames (omega arith) (omega arith) (omega arith);
          is = λ S t b w.
              let p = o.is S t b w in
              let d = parted_child a hs cs S p.rest m.before m.kind m.value z in
              let u = ap subs d.is ∙ subs_sub d.term d.rest in
              let f = drop_next error n (children t) d.term (subs d.rest) (p.order ∙ u) in
              let tr : Tree a hs cs S x y d.term = rw (ex, ey) d.tree in
              let kp = keeps_below hs cs (set hs (next + n) x) (set cs (next + n) y) S next (next + n + 1) b
              (frames_set hs cs hs cs next (next + n) (next + n + 1) (next + n) x y (frames_same hs cs next (next + n)) (omega arith) (omega arith) (omega arith)) in
              record {
                left = d.rest;
                rest = rw (m.behind d.some) (parted_kept a hs cs S (set hs (next + n) x) (set cs (next + n) y) S kp d.behind);
                order = f.2;
                total = omega (arith, p.total, ap length u);
                each = below_more _ _
                    (λ j i. rw (get_or-set_other hs (next + n) (next + j) x 0 (λ u. omega arith), get_or-set_other cs (next + n) (next + j) y 0 (λ u. omega arith))
                    (tree_kept a hs cs S (set hs (next + n) x) (set cs (next + n) y) S kp (p.each j i)))
                    (rw (get_or-set_same hs (next + n) x 0 lh, get_or-set_same cs (next + n) y 0 lc, f.1)
                    (tree_kept a hs cs S (set hs (next + n) x) (set cs (next + n) y) S kp tr));
              };
        }

-- ---- the order of the visits

pub tag_at_kind : (a : Area) (h p k r : ℕ) → p ≡ h → k ≡ get_or a.kinds p 0 → r ≡ tag_of k → TagAt a h r
tag_at_kind a h p k r ep ek er = record {
  is = λ hs cs S c t w. er ∙ ap tag_of (tree_kind a hs cs S w (ek ∙ ap (λ (i : ℕ). get_or a.kinds i 0) ep)) ∙ tag_kind t;
}

-- the counts, from the two numbers found
pub counted : (a : Area) (h n m : ℕ) → (n < 4294967296) × ValueAt a h 1 n → (m < 4294967296) × ValueAt a h 2 m → Counts a h n m
counted a h n m x y = record { few = x.0; low = y.0; arguments = x.1; members = y.1 }

pub ordered : (a : Area) (h k n m : ℕ) → TagAt a h k → ValueAt a h 1 n → ValueAt a h 2 m → Ordered a h k n m
ordered a h k n m x y z = record { is = λ hs cs S c t w j. rw (x.is hs cs S c t w, y.is hs cs S c t w, z.is hs cs S c t w) }

-- below the tag 12 in byte order, whatever the counts
pub ordered_plain : (a : Area) (h k n m : ℕ) → TagAt a h k → k < 12 → Ordered a h k n m
unfolding class slot_by
ordered_plain a h k n m x lt = record {
  is = λ hs cs S c t w j.
      let e = x.is hs cs S c t w in
      let z : class k ≡ 0 = rw (ne_eqb k 18 (omega arith), lt-ltb k 12 lt) in
      rw (sym e, z);
}
