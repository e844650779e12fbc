-- Sums over the children of a node: the order of the visits comes to each place once, so a sum in that order is the sum in byte order.
use mathlib.Core.Path.{◌≡◌, refl, sym, ap, ap₂, ◌∙◌}
use mathlib.Core.Bool.{Bool}
use mathlib.Core.List.{List, [], ◌∷◌}
use Prim.Native.Nat.{ℕ, zero, suc, min, ◌+◌, ◌-◌, ◌*◌, ◌^◌, ◌≤◌, ◌<◌}
use native.Mathlib.Omega.{arith}
use borrow.Author.Tests.{lt-ltb, le-ltb}
use lib.Dec.{ltb}
use lib.ListN.{length, get_or, length-append}
use Rattle.terms.specs.Result.{pick}
use Rattle.terms.specs.Number.{shortest}
use Rattle.terms.specs.Term.{Term, Parts, var, node, end, num, sub, items, bytes, part_bytes, Held}
use Rattle.terms.specs.Tree.{error, subs, fill, children, with_kids, row, nominal_slot, projection_slot, slot_by}
use Rattle.terms.specs.Words.Tokens.{Area}
use Rattle.terms.specs.Words.Held.{span}
use Rattle.terms.specs.Words.TokenBytes.{plain, spelt}
use Rattle.terms.specs.Words.Arena.{own, own_nums, OwnAt, RowAt, Tree, variable, branch}
use Rattle.terms.proofs.Laws.Format.WriteLaws.{plain_short, held_bytes}
use Rattle.terms.proofs.Laws.Held.SameLaws.{span_held}
use Rattle.terms.proofs.Laws.Normalising.ScanLaws.{Scan, Came, came_number, scan_start, scan_over, scan_number, scan_child}
use Rattle.terms.proofs.Laws.Normalising.DepthLaws.{less}
use Rattle.terms.proofs.Laws.Normalising.SlotLaws.{nominal_member, nominal_argument, projection_argument, projection_receiver, projection_member, projection_interface}

-- ---- each place comes once

-- when a place comes: in the order of a nominal, and of a projection
unfoldable back_nominal : ℕ → ℕ → ℕ → ℕ
back_nominal n c i = pick (ltb i n) (i + (c - n)) (i - n)

unfoldable back_projection : ℕ → ℕ → ℕ → ℕ → ℕ
back_projection n m c i =
    pick (ltb i 1) (c - (1 + n + m))
    (pick (ltb i (1 + n)) (i - 1 + (c - n)) (pick (ltb i (1 + n + m)) (i - (1 + n) + (c - (n + m))) (i - (1 + n + m))))

module _ (n c j i : ℕ) (le : n ≤ c) (lt : j < c) (e : i ≡ nominal_slot n c j) where
  nominal_back : back_nominal n c i ≡ j
  unfolding back_nominal
  nominal_back =
      less j (c - n)
      (λ h. let s : i ≡ n + j = e ∙ sym (nominal_member n 0 c j (n + j) h refl) in rw (le-ltb i n (omega arith)) (omega arith))
      (λ h. let s : i ≡ j - (c - n) = e ∙ sym (nominal_argument n 0 c j (j - (c - n)) h refl) in rw (lt-ltb i n (omega arith)) (omega arith))

module _ (n m c j i : ℕ) (le : 1 + n + m ≤ c) (lt : j < c) (e : i ≡ projection_slot n m c j) where
  back_argument : j < c - (1 + n + m) → back_projection n m c i ≡ j
  unfolding back_projection
  back_argument h =
      let s : i ≡ 1 + n + m + j = e ∙ sym (projection_argument n m c j (1 + n + m + j) h refl) in
      rw (le-ltb i 1 (omega arith), le-ltb i (1 + n) (omega arith), le-ltb i (1 + n + m) (omega arith)) (omega arith)

  back_receiver : j ≡ c - (1 + n + m) → back_projection n m c i ≡ j
  unfolding back_projection
  back_receiver h =
      let s : i ≡ 0 = e ∙ sym (projection_receiver n m c j 0 (omega arith) h refl) in
      rw (lt-ltb i 1 (omega arith)) (sym h)

  back_member : c - (1 + n + m) < j → j < c - n → back_projection n m c i ≡ j
  unfolding back_projection
  back_member h l =
      let s : i ≡ j + (1 + n) - (c - (n + m)) = e ∙ sym (projection_member n m c j _ (omega arith) (λ z. omega arith) l refl) in
      rw (le-ltb i 1 (omega arith), le-ltb i (1 + n) (omega arith), lt-ltb i (1 + n + m) (omega arith)) (omega arith)

  back_interface : c - (1 + n + m) < j → c - n ≤ j → back_projection n m c i ≡ j
  unfolding back_projection
  back_interface h l =
      let s : i ≡ j + 1 - (c - n) = e ∙ sym (projection_interface n m c j _ (omega arith) (λ z. omega arith) l refl) in
      rw (le-ltb i 1 (omega arith), lt-ltb i (1 + n) (omega arith)) (omega arith)

  projection_back : back_projection n m c i ≡ j
  projection_back =
      less j (c - (1 + n + m)) back_argument
      (λ h. less (c - (1 + n + m)) j (λ l. less j (c - n) (λ k. back_member l k) (λ k. back_interface l k)) (λ l. back_receiver (omega arith)))

pub slot_once : (x n m c j k : ℕ) → j < c → k < c → slot_by x n m c j ≡ slot_by x n m c k → j ≡ k
unfolding slot_by
slot_once zero n m c j k hj hk e = e
slot_once (suc zero) n m c j k hj hk e =
    let a = min n c in
    let le : a ≤ c = omega arith in
    sym (nominal_back a c j (nominal_slot a c k) le hj (sym e)) ∙ nominal_back a c k (nominal_slot a c k) le hk refl
slot_once (suc (suc x)) n m c j k hj hk e =
    let a = min n (c - 1) in
    let b = min m (c - 1 - a) in
    let le : 1 + a + b ≤ c = omega arith in
    sym (projection_back a b c j (projection_slot a b c k) le hj (sym e)) ∙ projection_back a b c k (projection_slot a b c k) le hk refl

-- ---- sums

-- of w at the places that come j-th, (j + 1)-th, .., r of them
unfoldable pub total : (ℕ → ℕ) → (ℕ → ℕ) → ℕ → ℕ → ℕ
total w at j zero = 0
total w at j (suc r) = w (at j) + total w at (suc j) r

pub total_split : (w at : ℕ → ℕ) (n r q j : ℕ) → n ≡ r + q → total w at j n ≡ total w at j r + total w at (j + r) q
unfolding total
total_split w at n zero q j e =
    let x : n ≡ q = omega arith in
    let y : j + 0 ≡ j = omega arith in
    omega (arith, ap (λ (k : ℕ). total w at j k) x, ap (λ (i : ℕ). total w at i q) y)
total_split w at zero (suc r) q j e = absurd (omega arith)
total_split w at (suc n) (suc r) q j e =
    let x : suc j + r ≡ j + suc r = omega arith in
    omega (arith, total_split w at n r q (suc j) (omega arith), ap (λ (i : ℕ). total w at i q) x)

pub total_same : (w v at to : ℕ → ℕ) (r j b : ℕ) → ((i : ℕ) → i < r → w (at (j + i)) ≡ v (to (b + i))) → total w at j r ≡ total v to b r
unfolding total
total_same w v at to zero j b f = refl
total_same w v at to (suc r) j b f =
    let x : j + 0 ≡ j = omega arith in
    let y : b + 0 ≡ b = omega arith in
    let one : w (at j) ≡ v (to b) = ap (λ (k : ℕ). w (at k)) (sym x) ∙ f 0 (omega arith) ∙ ap (λ (k : ℕ). v (to k)) y in
    omega (arith, one, total_same w v at to r (suc j) (suc b) (λ i lt. next i (f (suc i) (omega arith))))
  where
    next : (i : ℕ) → w (at (j + suc i)) ≡ v (to (b + suc i)) → w (at (suc j + i)) ≡ v (to (suc b + i))
    next i e =
        let x : suc j + i ≡ j + suc i = omega arith in
        let y : suc b + i ≡ b + suc i = omega arith in
        ap (λ (k : ℕ). w (at k)) x ∙ e ∙ ap (λ (k : ℕ). v (to k)) (sym y)

pub total_none : (w at : ℕ → ℕ) (j : ℕ) → total w at j 0 ≡ 0
unfolding total
total_none w at j = refl

-- one more
pub total_last : (w at : ℕ → ℕ) (j : ℕ) → total w at 0 (j + 1) ≡ total w at 0 j + w (at j)
unfolding total
total_last w at j =
    let x : 0 + j ≡ j = omega arith in
    omega (arith, total_split w at (j + 1) j 1 0 refl, ap (λ (k : ℕ). w (at k)) x)

-- in byte order
abbrev pub plainly : ℕ → ℕ
plainly i = i

module _ (w : ℕ → ℕ) where
  abbrev sum : ℕ → ℕ → ℕ
  sum b r = total w plainly b r

  block : (at : ℕ → ℕ) (j b r : ℕ) → ((i : ℕ) → i < r → at (j + i) ≡ b + i) → total w at j r ≡ sum b r
  block at j b r f = total_same w w at plainly r j b (λ i lt. ap w (f i lt))

  nominal_total : (n c : ℕ) → n ≤ c → total w (nominal_slot n c) 0 c ≡ sum 0 c
  nominal_total n c le =
      let r = c - n in
      let x : 0 + n ≡ n = omega arith in
      omega (
        arith,
        total_split w (nominal_slot n c) c r n 0 (omega arith),
        block (nominal_slot n c) 0 n r (λ i lt. sym (nominal_member n 0 c (0 + i) (n + i) (omega arith) (omega arith))),
        block (nominal_slot n c) (0 + r) 0 n (λ i lt. sym (nominal_argument n 0 c (0 + r + i) (0 + i) (omega arith) (omega arith))),
        total_split w plainly c n r 0 (omega arith),
        ap (λ (b : ℕ). sum b r) x,
      )

  -- the places of a projection with a arguments
  module _ (n m a : ℕ) where
    abbrev c : ℕ
    c = a + 1 + m + n

    abbrev at : ℕ → ℕ
    at = projection_slot n m c

    arguments : total w at 0 a ≡ sum (1 + n + m) a
    arguments = block at 0 (1 + n + m) a (λ i lt. sym (projection_argument n m c (0 + i) (1 + n + m + i) (omega arith) (omega arith)))

    receiver : total w at a 1 ≡ sum 0 1
    receiver = block at a 0 1 (λ i lt. sym (projection_receiver n m c (a + i) (0 + i) (omega arith) (omega arith) (omega arith)))

    members : total w at (a + 1) m ≡ sum (1 + n) m
    members = block at (a + 1) (1 + n) m (λ i lt. sym (projection_member n m c (a + 1 + i) (1 + n + i) (omega arith) (λ z. omega arith) (omega arith) (omega arith)))

    interface : total w at (a + 1 + m) n ≡ sum 1 n
    interface = block at (a + 1 + m) 1 n (λ i lt. sym (projection_interface n m c (a + 1 + m + i) (1 + i) (omega arith) (λ z. omega arith) (omega arith) (omega arith)))

    visited : total w at 0 c ≡ total w at 0 a + total w at a 1 + total w at (a + 1) m + total w at (a + 1 + m) n
    visited =
        let x : 0 + a ≡ a = omega arith in
        let y : 0 + (a + 1) ≡ a + 1 = omega arith in
        let z : 0 + (a + 1 + m) ≡ a + 1 + m = omega arith in
        omega (
          arith,
          total_split w at c (a + 1 + m) n 0 refl,
          total_split w at (a + 1 + m) (a + 1) m 0 refl,
          total_split w at (a + 1) a 1 0 refl,
          ap (λ (i : ℕ). total w at i 1) x,
          ap (λ (i : ℕ). total w at i m) y,
          ap (λ (i : ℕ). total w at i n) z,
        )

    in_order : sum 0 c ≡ sum 0 1 + sum 1 n + sum (1 + n) m + sum (1 + n + m) a
    in_order =
        let x : 0 + 1 ≡ 1 = omega arith in
        let y : 0 + (1 + n) ≡ 1 + n = omega arith in
        let z : 0 + (1 + n + m) ≡ 1 + n + m = omega arith in
        omega (
          arith,
          total_split w plainly c (1 + n + m) a 0 (omega arith),
          total_split w plainly (1 + n + m) (1 + n) m 0 refl,
          total_split w plainly (1 + n) 1 n 0 refl,
          ap (λ (b : ℕ). sum b n) x,
          ap (λ (b : ℕ). sum b m) y,
          ap (λ (b : ℕ). sum b a) z,
        )

    projection_total : total w at 0 c ≡ sum 0 c
    projection_total = omega (arith, arguments, receiver, members, interface, visited, in_order)

  pub slots_total : (x n m c : ℕ) → total w (slot_by x n m c) 0 c ≡ sum 0 c
  unfolding slot_by
  slots_total zero n m c = block (λ i. i) 0 0 c (λ i lt. refl)
  slots_total (suc zero) n m c = nominal_total (min n c) c (omega arith)
  slots_total (suc (suc x)) n m zero = total_same w w (slot_by (suc (suc x)) n m 0) plainly 0 0 0 (λ i lt. absurd (omega arith))
  slots_total (suc (suc x)) n m (suc c') =
      turned (min n (suc c' - 1)) (min m (suc c' - 1 - min n (suc c' - 1))) (omega arith)
    where
      turned : (a b : ℕ) → 1 + a + b ≤ suc c' → total w (projection_slot a b (suc c')) 0 (suc c') ≡ sum 0 (suc c')
      turned a b le =
          let z : suc c' - (1 + a + b) + 1 + b + a ≡ suc c' = omega arith in
          rw z at (projection_total a b (suc c' - (1 + a + b)))

-- ---- the bytes of a node with other children

abbrev pub length_at : List Term → ℕ → ℕ
length_at ts i = length (bytes (get_or ts i error))

fill_bytes : (ps : Parts) (ts : List Term) → length ts ≡ length (subs ps) → length (part_bytes (fill ps ts)) ≡ own_nums ps + total (length_at ts) plainly 0 (length (subs ps))
unfolding bytes own_nums fill subs total
fill_bytes end ts e = refl
fill_bytes (num n ps) ts e = omega (arith, length-append (shortest n) (part_bytes (fill ps ts)), fill_bytes ps ts e)
fill_bytes (sub t ps) [] e = absurd (omega arith)
fill_bytes (sub t ps) (u ∷ ts) e =
    omega (
      arith,
      length-append (bytes u) (part_bytes (fill ps ts)),
      fill_bytes ps ts (omega arith),
      total_same (length_at (u ∷ ts)) (length_at ts) plainly plainly (length (subs ps)) 1 0 (λ i lt. shift i),
    )
  where
    shift : (i : ℕ) → length_at (u ∷ ts) (1 + i) ≡ length_at ts (0 + i)
    shift i =
        let x : 1 + i ≡ suc i = omega arith in
        let y : 0 + i ≡ i = omega arith in
        rw (x, y)

pub with_bytes : (t : Term) (ts : List Term) → length ts ≡ length (children t) → length (bytes (with_kids t ts)) ≡ own t + total (length_at ts) plainly 0 (length (children t))
unfolding bytes own with_kids children total
with_bytes (var v) ts e = omega arith
with_bytes (node k ps) ts e = omega (arith, fill_bytes ps ts e)

pub error_bytes : 1 ≡ length (bytes error)
unfolding bytes
error_bytes = refl

-- ---- a term's own bytes, by its first token and the numbers of its row

own_tree : (a : Area) (hs cs : List ℕ) (S : ℕ → Bool) {h c : ℕ} {t : Term} → Tree a hs cs S h c t → own t ≡ length (plain (get_or a.kinds h 0) (get_or a.vals h 0)) + own_nums (row t)
unfolding own own_nums row plain
own_tree a hs cs S (variable {v = v} k e l) = rw (k, e) (omega arith)
own_tree a hs cs S (branch {k = k} e f o b p) =
    let x : k + 2 ≡ suc (suc k) = omega arith in
    rw (e, x) (omega arith)

pub token_few : (k v m : ℕ) → m ≡ length (plain k v) → v < 2 ^ 32 → m ≤ 6
token_few k v m e f = omega (arith, plain_short k v f)

-- n bytes are counted, of which b are the first token's
abbrev Counted : (b n i : ℕ) → Parts → Parts → Type 0
Counted b n i w r = b + own_nums w ≡ n + own_nums r

nums_bytes : (k v : ℕ) (r : Parts) → k ≡ 0 → own_nums (num v r) ≡ length (plain k v) + own_nums r
unfolding own_nums plain
nums_bytes k v r z = rw z

subs_bytes : (t : Term) (r : Parts) → own_nums (sub t r) ≡ own_nums r
unfolding own_nums
subs_bytes t r = refl

end_bytes : own_nums end ≡ 0
unfolding own_nums
end_bytes = refl

pub record Owning (a : Area) (h b e q n : ℕ) : Type 0 where
  pub scan : Scan a h e q (Counted b n)
  -- six bytes a token at most
  pub few : n + 6 * (e - q) ≤ 6 * (e + 1)

module _ {a : Area} {h b e q : ℕ} where
  pub owning_start : RowAt a h q e → b ≤ 6 → Owning a h b e q b
  owning_start r f = record { scan = scan_start r (λ w. refl); few = omega arith }

  module _ {n : ℕ} (s : Owning a h b e q n) where
    module _ {k v r : ℕ} (m : Came a e q k v r) where
      pub owning_number : k ≡ 0 → v < 2 ^ 32 → {l : ℕ} → l ≡ length (plain k v) → Owning a h b e r (n + l)
      owning_number z f {l} el = record {
        scan = scan_number s.scan m z (Counted b (n + l)) (λ i w r x. omega (arith, x, nums_bytes k v r z, el));
        few = omega (arith, s.few, m.before, came_number m z, plain_short k v f, el);
      }

      pub owning_child : (k ≡ 0 → ⊥) → Owning a h b e r n
      owning_child z = record { scan = scan_child s.scan m z (Counted b n) (λ i w u r x. omega (arith, x, subs_bytes u r)); few = omega (arith, s.few, m.rises) }

    pub owning_done : e ≤ q → {k v : ℕ} → k ≡ get_or a.kinds h 0 → v ≡ get_or a.vals h 0 → b ≡ length (plain k v) → OwnAt a h n × (n < 34359738368)
    owning_done le {k = k} {v = v} ek ev eb = (
      record {
        is = λ hs cs S c t w.
            let x = scan_over s.scan le hs cs S c t w in
            let y = own_tree a hs cs S w in
            let z : length (plain k v) ≡ length (plain (get_or a.kinds h 0) (get_or a.vals h 0)) = rw (ek, ev) in
            omega (arith, x.1, y, z, eb, end_bytes);
      },
      omega (arith, s.few, s.scan.small),
    )

-- ---- a term that the lent tokens hold

pub lent_bytes : (ks vs : List ℕ) (h n : ℕ) {k v : ℕ} → k ≡ get_or ks h 0 → v ≡ get_or vs h 0 → n ≡ span k v → (t : Term) → Held ks vs h t
    → length (spelt ks vs h (h + n - h)) ≡ length (bytes t)
lent_bytes ks vs h n ek ev en t w =
    let s : h + n - h ≡ length (items t) = omega (arith, en ∙ ap₂ span ek ev ∙ span_held ks vs h t w) in
    ap (λ (m : ℕ). length (spelt ks vs h m)) s ∙ ap length (held_bytes ks vs h t w)
