-- The loop over a layout: the fields read so far are stored and have their spots, and the rest of the layout gives the rest.
use mathlib.Core.Path.{◌≡◌, refl, sym, ap, ◌∙◌}
use mathlib.Core.List.{List, [], ◌∷◌, ◌++◌, append_assoc}
use Prim.Native.Nat.{ℕ, zero, suc, ◌+◌, ◌-◌, ◌≤◌, ◌<◌}
use native.Mathlib.Omega.{arith}
use lib.ListN.{length, length-append, get_or, drop}
use Rattle.std.proofs.lemmas.List.{drop_more, drop_all}
use Rattle.solver.specs.TermTypes.{Place, Rule}
use Rattle.solver.specs.Terms.Parser.{Result, got, refused, bind}
use Rattle.solver.specs.Terms.Tokens.{Area, blank}
use Rattle.solver.proofs.Terms.Shortest.{Octets}
use Rattle.sheet.specs.declared.FieldSpot.{FieldSpot}
use Rattle.sheet.specs.declared.FieldSpots.{FieldSpots}
use Rattle.sheet.specs.declared.Sort.{Sort}
use Rattle.sheet.specs.declared.Sort.TheVariants as sorts
use Rattle.sheet.specs.Fields as fields
use Rattle.sheet.specs.Fields.{FieldSort, Field, field, all_nodes, nodes}
use Rattle.sheet.specs.Words.FieldLayout.{sorts_by, Plain, Plains, Leading, IsLayout, field_items, all_items, Free, Stored, Ample, Spots, put_spot, no_fields, FieldsHere, FieldDone, Spotted, Unread}
use Rattle.sheet.proofs.Laws.Reading.StoredLaws.{stored_none, stored_then, stored_as, stored_undo, ample_after}
use Rattle.sheet.proofs.Laws.Reading.FieldLaws.{field_found}
use Rattle.sheet.proofs.Laws.Reading.SpotLaws.{items_more, nodes_more, spots_none, spots_more}

-- `read` are the fields read so far, the i first of the layout l. d are the areas at the start.
pub record Through (s : List ℕ) (ws : List Rule) (issued : ℕ) (l : List FieldSort) (p : Place) (d e : Area) (i : ℕ) (o : FieldSpots) (q : Place) : Type 0 where
  pub read : List Field
  pub count : i ≡ length read
  pub layout : IsLayout l
  pub whole : fields.fields s issued l p.at ≡ bind (fields.fields s issued (drop i l) q.at) (λ gs n. got (read ++ gs) n)
  pub stored : Stored p q d e (all_items read) (all_nodes read)
  pub spots : Spots s ws p.top o read
  pub ample : Ample s q

bind_got : {A : Type 0} (r : Result A) → r ≡ bind r (λ x n. got x n)
bind_got (got x n) = refl
bind_got (refused c) = refl

pub through_start : (s : List ℕ) (ws : List Rule) (issued : ℕ) (l : List FieldSort) (p : Place) (d : Area) {o : FieldSpots} → IsLayout l → Free p.top d → Ample s p → o ≡ no_fields
    → Through s ws issued l p d d 0 o p
unfolding all_items all_nodes
through_start s ws issued l p d h f a e = rw e (record {
  read = [];
  count = refl;
  layout = h;
  whole = bind_got (fields.fields s issued l p.at);
  stored = stored_none p p d f refl refl refl;
  spots = spots_none s ws p.top;
  ample = a;
})

-- ---- the i-th sort

plain_at : (l : List FieldSort) → Plains l → (i : ℕ) → Plain (get_or l i fields.ordinary)
unfolding Plains Plain
plain_at [] h i = tt
plain_at (a ∷ l) h zero = h.0
plain_at (a ∷ l) h (suc i) = plain_at l h.1 i

leading_at : (l : List FieldSort) → Leading l → (i : ℕ) → 0 < i → Plain (get_or l i fields.ordinary)
unfolding Leading Plain
leading_at [] h i k = tt
leading_at (a ∷ l) h zero k = absurd (omega arith)
leading_at (a ∷ l) h (suc i) k = plain_at l h i

sorts_long : (f : Sort → FieldSort) (l : List Sort) → length (sorts_by f l) ≡ length l
sorts_long f [] = refl
sorts_long f (a ∷ l) = ap suc (sorts_long f l)

sort_at : (f : Sort → FieldSort) (l : List Sort) (i : ℕ) → i < length l → f (get_or l i sorts.Number) ≡ get_or (sorts_by f l) i fields.ordinary
sort_at f [] i h = absurd (omega arith)
sort_at f (a ∷ l) zero h = refl
sort_at f (a ∷ l) (suc i) h = sort_at f l i (omega arith)

module _ {s : List ℕ} (octets : Octets s) {ws : List Rule} (us : List Rule) {issued : ℕ} (f : Sort → FieldSort) (c : List Sort) {p : Place} {d e : Area} {i : ℕ} {o : FieldSpots} {q : Place}
    (x : Through s ws issued (sorts_by f c) p d e i o q) (h : i < length c) where
  abbrev l : List FieldSort
  l = sorts_by f c

  abbrev met : Sort
  met = get_or c i sorts.Number

  abbrev others : List FieldSort
  others = drop (i + 1) l

  -- the fields read are fewer than five
  pub through_index : i < 5
  through_index = omega (arith, x.layout.few, sorts_long f c)

  whole_split : fields.fields s issued l p.at
      ≡ bind (bind (field s issued (f met) q.at) (λ f n. bind (fields.fields s issued others n) (λ fs m. got (f ∷ fs) m))) (λ gs n. got (x.read ++ gs) n)
  unfolding fields.fields
  whole_split =
      rw (sort_at f c i h)
      (x.whole ∙ ap (λ (k : List FieldSort). bind (fields.fields s issued k q.at) (λ gs n. got (x.read ++ gs) n)) (drop_more l i fields.ordinary (omega (arith, sorts_long f c))))

  -- a layout without rules: here are none
  pub plain_here : Plains l → Plain (f met)
  plain_here y = rw (sort_at f c i h) (plain_at l y i)

  -- one more
  pub through_more : (Plain (f met) → us ≡ ws) → (z : FieldSpot) (r : Place) (g : Area) → FieldDone s us (field s issued (f met) q.at) q e g (Spotted z r)
      → Through s us issued l p d g (i + 1) (put_spot i z o) r
  through_more w z r g (y, found, stored, inside, laid) =
      let good = field_found s octets issued (f met) q.at y r.at found in
      let both = stored_then p q r d e g (all_items x.read) (field_items y) (all_nodes x.read) (nodes y) x.stored stored in
      record {
        read = x.read ++ (y ∷ []);
        count = omega (arith, x.count, length-append x.read (y ∷ []));
        layout = x.layout;
        whole = whole_split ∙ ap (λ (y : Result Field). bind (bind y (λ f n. bind (fields.fields s issued others n) (λ fs m. got (f ∷ fs) m))) (λ gs n. got (x.read ++ gs) n)) found ∙ join x.read y (fields.fields s issued others r.at);
        stored = stored_as p r d g _ _ _ _ (sym (items_more x.read y)) (sym (nodes_more x.read y)) both;
        spots = spots_more s ws us p.top o x.read i z y x.count through_index (λ k. w (rw (sort_at f c i h) (leading_at l x.layout.leading i k))) x.spots (rw x.stored.tokens at laid);
        ample = ample_after q r e g (field_items y) (nodes y) stored s x.ample good.tokens good.counts inside;
      }
    where
      join : (fs : List Field) (f : Field) (y : Result (List Field)) → bind (bind y (λ gs m. got (f ∷ gs) m)) (λ gs n. got (fs ++ gs) n) ≡ bind y (λ gs n. got ((fs ++ (f ∷ [])) ++ gs) n)
      join fs f (got gs n) = ap (λ (k : List Field). got k n) (sym (append_assoc fs (f ∷ []) gs))
      join fs f (refused c) = refl

  -- a refusal
  pub through_stop : (m : ℕ) (g : Area) → FieldDone s us (field s issued (f met) q.at) q e g (Unread m) → fields.fields s issued l p.at ≡ refused m
  through_stop m g y =
      whole_split ∙ ap (λ (y : Result Field). bind (bind y (λ f n. bind (fields.fields s issued others n) (λ fs m. got (f ∷ fs) m))) (λ gs n. got (x.read ++ gs) n)) y.0

-- the end: nothing is left
module _ {s : List ℕ} {ws : List Rule} {issued : ℕ} (f : Sort → FieldSort) (c : List Sort) {p : Place} {d e : Area} {i : ℕ} {o : FieldSpots} {q : Place} (x : Through s ws issued (sorts_by f c) p d e i o q) where
  pub through_all : length c ≤ i → FieldsHere s ws (fields.fields s issued (sorts_by f c) p.at) p d e o q
  unfolding fields.fields
  through_all h =
      let none = drop_all i (sorts_by f c) (omega (arith, sorts_long f c)) in
      let whole : fields.fields s issued (sorts_by f c) p.at ≡ got (x.read ++ []) q.at = x.whole ∙ ap (λ (k : List FieldSort). bind (fields.fields s issued k q.at) (λ gs n. got (x.read ++ gs) n)) none in
      record { read = x.read; is = whole ∙ ap (λ (k : List Field). got k q.at) (append-nil x.read); stored = x.stored; inside = x.ample.inside; spots = x.spots }
    where
      append-nil : (k : List Field) → k ++ [] ≡ k
      append-nil [] = refl
      append-nil (y ∷ k) = ap (λ (m : List Field). y ∷ m) (append-nil k)

  -- cleared again after a refusal
  pub through_undo : (g f : Area) (k : ℕ) → Free p.top d → g ≡ e → k ≡ q.top - p.top → f ≡ blank g p.top k → f ≡ d
  through_undo g f k z same h y = y ∙ ap (λ (w : Area). blank w p.top k) same ∙ stored_undo p q d z e (all_items x.read) (all_nodes x.read) k x.stored h
