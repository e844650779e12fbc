-- Order 19: the projection made anew stands among the tokens that are seen, and what is found by cases.
use mathlib.Core.Path.{◌≡◌, refl, sym, ap, ◌∙◌}
use mathlib.Core.Bool.{Bool, true, false}
use mathlib.Core.List.{List, [], ◌∷◌, ◌++◌}
use mathlib.Core.Option.{none, some}
use Prim.Native.Nat.{ℕ, zero, suc, ◌+◌, ◌-◌, ◌*◌, ◌/◌, ◌%◌, ◌≤◌, ◌<◌}
use native.Mathlib.Nat.{mul-add-div_right, mul-add-mod_self_right, mod-eq_of_lt, div-eq_of_lt, mul-le-mul_right, suc-mul}
use native.Mathlib.Numerals.{add-one}
use native.Mathlib.Omega.{arith}
use borrow.Author.Tests.{eq-eqb, ne_eqb, lt-ltb, le-ltb}
use lib.Dec.{eqb, ltb}
use native.Mathlib.Decide.{dec_lt}
use Rattle.std.specs.Bool.{then_some}
use Rattle.std.specs.Prelude.{unwrap_or}
use lib.ListN.{length, get_or, length-append, get_or-eq_default, get_elem?}
use Rattle.std.specs.Prelude.{Option, Some}
use Rattle.terms.specs.declared.Origin.{Origin}
use Rattle.terms.specs.declared.Spot.{Spot}
use Rattle.terms.specs.declared.Spot.TheVariants.{Lent, Error, Head, Nowhere}
use Rattle.terms.specs.Words.Tokens.{Area, Item, item, spell, toks}
use Rattle.terms.specs.Term.{Term, Parts, var, node, end, num, sub, ◌+++◌, items, part_items, depth, depths}
use Rattle.terms.specs.Words.Held.{Held}
use Rattle.terms.specs.Words.VirtualTokens.{width, size_of, copied, word_at, count, view, Sight, Located, LentAt}
use Rattle.terms.specs.Tree.{nums, subs, children, row, tag, member_of, arguments_of}
use Rattle.terms.specs.Comparison.{no_terms}
use Rattle.terms.specs.Normal.{member_from}
use Rattle.terms.specs.Lookup.{made, unless, output, through, HeldGiven}
use Rattle.terms.proofs.Laws.Held.HeldLaws.{toks_add, held_node}
use Rattle.terms.proofs.Laws.Held.SameLaws.{same_refl, not_same}
use Rattle.terms.proofs.Laws.Normalising.AlikeLaws.{depth_row}
use Rattle.terms.proofs.Laws.Normalising.ScanLaws.{children_row}
use Rattle.terms.specs.Words.Arena.{Tree}
use Rattle.terms.proofs.Laws.Normalising.ArenaLaws.{held_tree}
use Rattle.terms.proofs.Laws.Format.ReadSequenceLaws.{items_append}
use Rattle.terms.proofs.Laws.Normalising.VirtualTokenLaws.{width_is, width_some, seen_length, toks_same, spot_word, located_head, located_copy, copied_owner, copied_interface, copied_member, copied_last, view_held}

-- ---- the lent token of a number

module _ (ks vs : List ℕ) (g : Option Origin) (s : Sight ks vs g) (p : ℕ) where
  word_of : (sp : Spot) → Located g (length ks) p sp → (get_or (view ks vs g).kinds p 0 ≡ word_at ks 5 20 sp) × (get_or (view ks vs g).vals p 0 ≡ word_at vs 1 (size_of g) sp)
  word_of sp l = (spot_word ks g 5 20 (length ks) p sp l refl, spot_word vs g 1 (size_of g) (length ks) p sp l s.pairs)

  -- past the lent tokens every word is 0
  past : (i : ℕ) → length ks ≤ i → (get_or ks i 0 ≡ 0) × (get_or vs i 0 ≡ 0)
  past i le = (get_or-eq_default ks 0 le, get_or-eq_default vs 0 (omega (arith, s.pairs)))

  pub lent_here : (q : ℕ) → Located g (length ks) p (Lent q) → LentAt ks vs g p (unwrap_or (then_some (ltb q (length ks)) q) (length ks))
  lent_here q l = go (dec_lt q (length ks))
    where
      w : (get_or (view ks vs g).kinds p 0 ≡ word_at ks 5 20 (Lent q)) × (get_or (view ks vs g).vals p 0 ≡ word_at vs 1 (size_of g) (Lent q))
      w = word_of (Lent q) l

      go : Dec (q < length ks) → LentAt ks vs g p (unwrap_or (then_some (ltb q (length ks)) q) (length ks))
      go (yes lt) = rw (lt-ltb q (length ks) lt) (record { within = omega arith; same = λ z. (sym w.0 ∙ z, sym w.1) })
      go (no le) = rw (le-ltb q (length ks) (omega arith)) (record {
        within = omega arith;
        same = λ z. ((past (length ks) (omega arith)).0, (past (length ks) (omega arith)).1 ∙ sym (w.1 ∙ (past q (omega arith)).1));
      })

  -- what is not lent has no lent token's value
  pub lent_none : (sp : Spot) → ((q : ℕ) → sp ≡ Lent q → ⊥) → Located g (length ks) p sp → LentAt ks vs g p (length ks)
  lent_none (Lent q) n l = absurd (n q refl)
  lent_none Error n l = let w = word_of Error l in record { within = omega arith; same = λ z. absurd (omega (arith, w.0)) }
  lent_none (Head m) n l = let w = word_of (Head m) l in record { within = omega arith; same = λ z. absurd (omega (arith, w.0)) }
  lent_none Nowhere n l = let w = word_of Nowhere l in record { within = omega arith; same = λ z. ((past (length ks) (omega arith)).0, (past (length ks) (omega arith)).1 ∙ sym w.1) }

-- ---- the projection for the token t

module _ (g : Origin) (len t : ℕ) (le : t ≤ len) where
  -- it stands within the tokens that are seen
  pub made_within : len + 1 + t * (width g) + (width g) ≤ count len (Some g)
  made_within =
      let a = mul-le-mul_right (width g) le in
      let b : (len + 1) * (width g) ≡ len * (width g) + (width g) = rw add-one (suc-mul len (width g)) in
      omega arith

  -- its r-th token is a copy
  pub made_spot : (r : ℕ) → r < (width g) → (q : ℕ) → q ≡ len + 1 + t * (width g) + r → (r ≡ 0 → Located (Some g) len q (Head (width g))) × ((r ≡ 0 → ⊥) → (p : ℕ) → p ≡ copied g len r t → Located (Some g) len q (Lent p))
  made_spot r lt q e =
      let d : q - (len + 1) ≡ t * (width g) + r = omega arith in
      let z = width_some g in
      let m : r ≡ (q - (len + 1)) % (width g) = sym (rw d (mul-add-mod_self_right t (width g) r ∙ mod-eq_of_lt lt)) in
      let v : t ≡ (q - (len + 1)) / (width g) = sym (rw d (mul-add-div_right z t r ∙ ap (λ (n : ℕ). t + n) (div-eq_of_lt lt) ∙ omega arith)) in
      (λ o. located_head g len q (omega arith) r t m v le o (width g) refl, λ o p ep. located_copy g len q (omega arith) r t m v le o p ep)

module _ (ks vs : List ℕ) (g : Origin) (s : Sight ks vs (Some g)) (i : Parts) (owner : Term) (h : HeldGiven ks vs g i owner) (t : ℕ) (le : t ≤ length ks) where
  abbrev area : Area
  area = view ks vs (Some g)

  abbrev base : ℕ
  base = length ks + 1 + t * (width g)

  -- the two words of a copy
  copy : (r q p : ℕ) → r < (width g) → (r ≡ 0 → ⊥) → q ≡ base + r → p ≡ copied g (length ks) r t → (get_or area.kinds q 0 ≡ get_or ks p 0) × (get_or area.vals q 0 ≡ get_or vs p 0)
  copy r q p lt o e c = word_of ks vs (Some g) s q (Lent p) ((made_spot g (length ks) t le r lt q e).1 o p c)

  head_word : (get_or area.kinds base 0 ≡ 20) × (get_or area.vals base 0 ≡ (width g))
  head_word = word_of ks vs (Some g) s base (Head (width g)) ((made_spot g (length ks) t le 0 (omega (arith, width_is g)) base (omega arith)).0 refl)

  owner_word : (j : ℕ) → j < g.span → (get_or area.kinds (suc base + j) 0 ≡ get_or ks (g.owner + j) 0) × (get_or area.vals (suc base + j) 0 ≡ get_or vs (g.owner + j) 0)
  owner_word j lt =
      copy (1 + j) (suc base + j) (g.owner + j) (omega (arith, width_is g)) (λ z. omega arith) (omega arith)
      (copied_owner g (length ks) (1 + j) t (g.owner + j) (omega arith) (omega arith))

  interface_word : (j : ℕ) → j < g.row
      → (get_or area.kinds (suc base + g.span + j) 0 ≡ get_or ks (g.interface + 1 + j) 0) × (get_or area.vals (suc base + g.span + j) 0 ≡ get_or vs (g.interface + 1 + j) 0)
  interface_word j lt =
      copy (1 + g.span + j) (suc base + g.span + j) (g.interface + 1 + j) (omega (arith, width_is g)) (λ z. omega arith) (omega arith)
      (copied_interface g (length ks) (1 + g.span + j) t (g.interface + 1 + j) (omega arith) (omega arith) (omega arith))

  member_word : (get_or area.kinds (suc base + g.span + g.row) 0 ≡ get_or ks t 0) × (get_or area.vals (suc base + g.span + g.row) 0 ≡ get_or vs t 0)
  member_word =
      copy (1 + g.span + g.row) (suc base + g.span + g.row) t (omega (arith, width_is g)) (λ z. omega arith) (omega arith)
      (copied_member g (length ks) (1 + g.span + g.row) t t (omega arith) (omega arith) (omega arith) refl)

  last_word : (get_or area.kinds (suc (suc base + g.span + g.row)) 0 ≡ get_or ks (length ks) 0) × (get_or area.vals (suc (suc base + g.span + g.row)) 0 ≡ get_or vs (length ks) 0)
  last_word =
      copy (2 + g.span + g.row) (suc (suc base + g.span + g.row)) (length ks) (omega (arith, width_is g)) (λ z. omega arith) (omega arith)
      (copied_last g (length ks) (2 + g.span + g.row) t (length ks) (omega arith) (omega arith) (λ z. omega arith) refl)

  owner_toks : toks area.kinds area.vals (suc base) g.span ≡ items owner
  owner_toks =
      toks_same area.kinds area.vals ks vs (suc base) g.owner g.span (λ j lt. (owner_word j lt).0) (λ j lt. (owner_word j lt).1)
      ∙ ap (toks ks vs g.owner) h.span_is ∙ h.owner_held.tokens

  interface_toks : toks area.kinds area.vals (suc base + g.span) g.row ≡ part_items i
  interface_toks =
      let n = held_node ks vs g.interface 20 i h.interface_held in
      toks_same area.kinds area.vals ks vs (suc base + g.span) (g.interface + 1) g.row (λ j lt. (interface_word j lt).0) (λ j lt. (interface_word j lt).1)
      ∙ ap (toks ks vs (g.interface + 1)) h.row_is ∙ n.tokens

  module _ (k0 : get_or ks t 0 ≡ 0) (m : ℕ) (em : get_or vs t 0 ≡ m) where
    number_toks : toks area.kinds area.vals (suc base + g.span + g.row) 2 ≡ item 0 m ∷ item 0 0 ∷ []
    unfolding spell
    number_toks =
        let o = past ks vs (Some g) s base (length ks) (omega arith) in
        rw (member_word.0, member_word.1, last_word.0, last_word.1, k0, em, o.0, o.1)

    row_toks : toks area.kinds area.vals (suc base) (g.span + (g.row + 2)) ≡ items owner ++ (part_items i ++ (item 0 m ∷ item 0 0 ∷ []))
    row_toks =
        toks_add area.kinds area.vals (suc base) g.span (g.row + 2)
        ∙ rw (toks_add area.kinds area.vals (suc base + g.span) g.row 2, owner_toks, interface_toks, number_toks)

    row_items : part_items (sub owner (i +++ num m (num 0 end))) ≡ items owner ++ (part_items i ++ (item 0 m ∷ item 0 0 ∷ []))
    unfolding items
    row_items = ap (λ (l : List Item). items owner ++ l) (items_append i (num m (num 0 end)))

    row_long : length (part_items (sub owner (i +++ num m (num 0 end)))) ≡ g.span + (g.row + 2)
    row_long =
        ap length row_items ∙ length-append (items owner) (part_items i ++ (item 0 m ∷ item 0 0 ∷ []))
        ∙ omega (arith, length-append (part_items i) (item 0 m ∷ item 0 0 ∷ []), h.span_is, h.row_is)

    pub made_held : Held area.kinds area.vals base (made owner i m)
    unfolding items spell
    made_held = record {
      tokens = rw (row_long, head_word.0, head_word.1, row_toks, row_items) (ap {B = List Item} (λ n. item 20 n ∷ (items owner ++ (part_items i ++ (item 0 m ∷ item 0 0 ∷ [])))) (omega (arith, width_is g)));
      within = omega (arith, row_long, made_within g (length ks) t le, width_is g, seen_length ks (Some g) 5 20);
    }

-- ---- what is found, by the tests

elem_low : (ps : Parts) (j : ℕ) (u : Term) → get_elem? (subs ps) j ≡ some u → depth u ≤ depths ps
unfolding subs depth
elem_low end j u e = absurd (let z : ◌≡◌ {A = ℕ} 0 1 = cc in omega arith)
elem_low (num n ps) j u e = elem_low ps j u e
elem_low (sub t ps) zero u e = let z : t ≡ u = cc in omega (arith, ap depth z)
elem_low (sub t ps) (suc j) u e = let q = elem_low ps j u e in omega arith

node_is : (t : Term) → tag t ≡ 18 → node 18 (row t) ≡ t
unfolding tag row
node_is (var v) e = absurd (omega arith)
node_is (node k ps) e = ap (λ (j : ℕ). node j ps) (sym e)

-- `output`: the interface has the member, or not
pub output_known : (owner : Term) (i : Parts) (m : ℕ) (u : Term) → member_from 0 m i ≡ some u → output owner i m ≡ u
output_known owner i m u e = rw e

pub output_made : (owner : Term) (i : Parts) (m : ℕ) → member_from 0 m i ≡ none → output owner i m ≡ made owner i m
output_made owner i m e = rw e

-- the projection t has no arguments, and d and e are its declaration and the interface's
pub record Declared (t : Term) (i : Parts) (d e : ℕ) : Type 0 where
  pub bare : no_terms (arguments_of (row t)) ≡ true
  pub here : d ≡ get_or (nums (row t)) 0 0
  pub there : e ≡ get_or (nums i) 0 0

module _ (t : Term) (i : Parts) (owner : Term) where
  pub through_argument : no_terms (arguments_of (row t)) ≡ false → through i owner (row t) ≡ none
  unfolding through
  through_argument e = rw e

  module _ {d e : ℕ} (y : Declared t i d e) where
    pub through_other : (d ≡ e → ⊥) → through i owner (row t) ≡ none
    unfolding through
    through_other n = rw (y.bare, ne_eqb (get_or (nums (row t)) 0 0) (get_or (nums i) 0 0) (λ z. n (y.here ∙ z ∙ sym y.there)))

    module _ (q : d ≡ e) where
      declared : eqb (get_or (nums (row t)) 0 0) (get_or (nums i) 0 0) ≡ true
      declared = eq-eqb _ _ (sym y.here ∙ q ∙ y.there)

      pub through_bare : get_elem? (children t) 0 ≡ none → through i owner (row t) ≡ none
      unfolding through
      through_bare z = rw (y.bare, declared, children_row t, z)

      module _ {u : Term} (r : get_elem? (children t) 0 ≡ some u) where
        pub through_stranger : (u ≡ owner → ⊥) → through i owner (row t) ≡ none
        unfolding through
        through_stranger n = rw (y.bare, declared, children_row t, r, not_same u owner n)

        pub through_is : u ≡ owner → tag t ≡ 18 → through i owner (row t) ≡ unless t (output owner i (member_of (row t)))
        unfolding through
        through_is o k = rw (y.bare, declared, children_row t, r, o, same_refl owner, node_is t k)

pub receiver_low : (t u : Term) (fuel : ℕ) → get_elem? (children t) 0 ≡ some u → depth t ≤ fuel + 1 → depth u ≤ fuel
receiver_low t u fuel r low = omega (arith, elem_low (row t) 0 u (rw (children_row t) r), depth_row t)

pub unless_same : (t v : Term) → t ≡ v → unless t v ≡ none
unless_same t v z = rw (← z, same_refl t)

pub unless_found : (t v : Term) → (t ≡ v → ⊥) → unless t v ≡ some v
unless_found t v z = rw (not_same v t (λ q. z (sym q)))

-- ---- the given terms as contents

pub row_node : (k : ℕ) (ps : Parts) → row (node k ps) ≡ ps
unfolding row
row_node k ps = refl

module _ (ks vs : List ℕ) (o : Option Origin) (s : Sight ks vs o) (g : Origin) (eg : o ≡ Some g) (i : Parts) (owner : Term) (h : HeldGiven ks vs g i owner) (hs cs : List ℕ) (S : ℕ → Bool) where
  pub interface_tree : (x c : ℕ) → x ≡ g.interface → c ≡ 0 → Tree (view ks vs o) hs cs S x c (node 20 i)
  interface_tree x c e z = rw (e, z) (held_tree (view ks vs o) hs cs S (node 20 i) g.interface (view_held ks vs o s g.interface (node 20 i) h.interface_held))

  pub owner_tree : (x c : ℕ) → x ≡ g.owner → c ≡ 0 → Tree (view ks vs o) hs cs S x c owner
  owner_tree x c e z = rw (e, z) (held_tree (view ks vs o) hs cs S owner g.owner (view_held ks vs o s g.owner owner h.owner_held))

  -- the projection for the number at p
  pub made_tree : (p t x c : ℕ) → LentAt ks vs o p t → get_or (view ks vs o).kinds p 0 ≡ 0 → x ≡ length ks + 1 + t * width g → c ≡ 0
      → Tree (view ks vs o) hs cs S x c (made owner i (get_or (view ks vs o).vals p 0))
  made_tree p t x c l k e z =
      let w = l.same k in
      let u : Held (view ks vs o).kinds (view ks vs o).vals (length ks + 1 + t * width g) (made owner i (get_or (view ks vs o).vals p 0))
      = rw eg (made_held ks vs g (rw eg at s) i owner h t l.within w.0 (get_or (view ks vs (Some g)).vals p 0) (rw eg at w.1)) in
      rw (e, z) (held_tree (view ks vs o) hs cs S (made owner i (get_or (view ks vs o).vals p 0)) (length ks + 1 + t * width g) u)
