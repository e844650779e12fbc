-- Trees whose children are as in the source are terms that the tokens hold; where their tokens are lent, the lent areas hold them.
use mathlib.Core.Path.{◌≡◌, refl, sym, ap, ◌∙◌}
use mathlib.Core.Bool.{Bool}
use mathlib.Core.List.{List, ◌∷◌}
use Prim.Native.Nat.{ℕ, zero, suc, ◌+◌, ◌≤◌, ◌<◌}
use native.Mathlib.Decide.{dec_lt}
use native.Mathlib.Numerals.{add-one}
use native.Mathlib.Omega.{arith}
use lib.ListN.{length, get_or, length-append, get_or-eq_default}
use Rattle.terms.specs.Words.Tokens.{Area, Item, item, spell}
use Rattle.terms.specs.Term.{Term, Parts, node, num, sub, items, part_items}
use Rattle.terms.specs.Words.Held.{Held, HeldParts, span}
use Rattle.std.specs.declared.option.Option as rust
use Rattle.terms.specs.declared.Origin.{Origin}
use Rattle.terms.specs.Words.VirtualTokens.{size_of, view, Sight}
use Rattle.terms.specs.Words.Arena.{Tree, variable, branch, Parted, over, number, child}
use Rattle.terms.proofs.Laws.Held.HeldLaws.{span_one, toks_add}
use Rattle.terms.proofs.Laws.Held.SameLaws.{span_held}
use Rattle.terms.proofs.Laws.Normalising.VirtualTokenLaws.{seen_lent, seen_toks}

-- ---- rows put together

module _ (ks vs : List ℕ) where
  -- a number before a row
  join_num : (q e n : ℕ) (ps : Parts) → get_or ks q 0 ≡ 0 → get_or vs q 0 ≡ n → HeldParts ks vs (q + 1) e ps → HeldParts ks vs q e (num n ps)
  unfolding items spell
  join_num q e n ps k v h = record { tokens = rw (k, v) (ap (λ (l : List Item). item 0 n ∷ l) (rw add-one at h.tokens)); ends = omega (arith, h.ends); within = h.within }

  -- a term before a row
  join_sub : (q e : ℕ) (t : Term) (ps : Parts) → Held ks vs q t → HeldParts ks vs (q + length (items t)) e ps → HeldParts ks vs q e (sub t ps)
  unfolding items
  join_sub q e t ps w h =
      let l = length-append (items t) (part_items ps) in
      record { tokens = rw (l, toks_add ks vs q (length (items t)) (length (part_items ps)), w.tokens, h.tokens); ends = omega (arith, h.ends, l); within = h.within }

  -- a node over its row
  join_node : (p k l : ℕ) (ps : Parts) → get_or ks p 0 ≡ k + 2 → get_or vs p 0 ≡ l → HeldParts ks vs (p + 1) (p + l) ps → Held ks vs p (node k ps)
  unfolding items spell
  join_node p k l ps ek ev h =
      let f : get_or ks p 0 ≡ suc (suc k) = omega arith in
      let g : get_or vs p 0 ≡ suc (length (part_items ps)) = omega (arith, h.ends) in
      record { tokens = rw (f, g) (ap (λ (m : List Item). item (suc (suc k)) (suc (length (part_items ps))) ∷ m) (rw add-one at h.tokens)); within = omega (arith, h.ends, h.within) }

-- ---- a tree as in the source

module _ (a : Area) (hs cs : List ℕ) (S : ℕ → Bool) where
  mutual
    unfolding items spell

    -- the tokens hold a tree whose child word is 0, and its row
    pub tree_flat : {h c : ℕ} {t : Term} → Tree a hs cs S h c t → c ≡ 0 → Held a.kinds a.vals h t
    tree_flat (variable e f l) y = record { tokens = rw (e, f); within = l }
    tree_flat (branch {h = h} {k = k} {l = l} {ps = ps} e f o b p) y = join_node a.kinds a.vals h k l ps e f (row_flat p y b)

    pub row_flat : {c e q n : ℕ} {ps : Parts} → Parted a hs cs S c e q n ps → c ≡ 0 → e ≤ length a.kinds → HeldParts a.kinds a.vals q e ps
    row_flat (over {e = e} {q = q} z) y b = record { tokens = refl; ends = omega arith; within = b }
    row_flat (number {e = e} {q = q} {v = v} {ps = ps} lt z f p) y b = join_num a.kinds a.vals q e v ps z f (row_flat p y b)
    row_flat (child {c = zero} {e = e} {q = q} {l = l} {t = t} {ps = ps} lt z f o m w p) y b =
        let r = tree_flat w refl in
        let s : l ≡ length (items t) = sym f ∙ span_held a.kinds a.vals q t r in
        join_sub a.kinds a.vals q e t ps r (rw s at (row_flat p refl b))
    row_flat (child {c = suc d} lt z f o m w p) y b = absurd (omega arith)

-- a term whose tokens are lent begins at one of them
pub lent_first : (ks vs : List ℕ) (h : ℕ) → h + span (get_or ks h 0) (get_or vs h 0) ≤ length ks → h < length ks
lent_first ks vs h le = go (dec_lt h (length ks))
  where
    go : Dec (h < length ks) → h < length ks
    go (yes lt) = lt
    go (no n) =
        let k : get_or ks h 0 ≡ 0 = get_or-eq_default ks 0 (omega arith) in
        omega (arith, span_one (get_or ks h 0) (get_or vs h 0) (omega (arith, k)))

-- the lent areas hold a tree whose child word is 0 and whose tokens are lent
pub tree_held : (ks vs : List ℕ) (g : rust.Option Origin) → Sight ks vs g → (hs cs : List ℕ) (S : ℕ → Bool) (h : ℕ) (t : Term) → h + span (get_or ks h 0) (get_or vs h 0) ≤ length ks
    → Tree (view ks vs g) hs cs S h 0 t → Held ks vs h t
tree_held ks vs g s hs cs S h t le w =
    let f = tree_flat (view ks vs g) hs cs S w refl in
    let lt = lent_first ks vs h le in
    let k = seen_lent ks g 5 20 h lt in
    let v = seen_lent vs g 1 (size_of g) h (omega (arith, s.pairs)) in
    let n : span (get_or ks h 0) (get_or vs h 0) ≡ length (items t) = rw (k, v) at (span_held (view ks vs g).kinds (view ks vs g).vals h t f) in
    record { tokens = sym (seen_toks ks vs g s h (length (items t)) (omega arith)) ∙ f.tokens; within = omega arith }

-- a span is a word where the value is one
pub span_small : (k v b : ℕ) → v < b → 1 < b → span k v < b
unfolding span
span_small zero v b h o = o
span_small (suc zero) v b h o = o
span_small (suc (suc k)) v b h o = h
