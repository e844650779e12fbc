-- An order: its kind, its fields and nothing after them; and what its reading leaves.
use mathlib.Core.Path.{◌≡◌, refl, sym, ap, subst, ◌∙◌}
use mathlib.Core.List.{List, [], ◌∷◌}
use mathlib.Core.Logic.{⊎_elim}
use mathlib.Core.Option.{Option, none, some}
use Prim.Native.Nat.{ℕ, zero, suc, ◌+◌, ◌-◌, ◌≤◌, ◌<◌}
use native.Mathlib.Decide.{dec_lt, ℕ_discrete}
use native.Mathlib.Omega.{arith}
use borrow.Author.Tests.{lt-ltb, le-ltb}
use lib.ListN.{length, get_or, drop}
use Rattle.std.specs.Prelude.{Ok}
use Rattle.solver.specs.TermTypes.{Place, Next, Stopped, Rule}
use Rattle.solver.specs.Terms.Parser.{Result, got, refused, bind, number}
use Rattle.solver.specs.Terms.Shape as shape
use Rattle.solver.specs.Terms.Shape.{ceiling}
use Rattle.solver.specs.Terms.Reading as reading
use Rattle.solver.specs.Terms.Lookup.{Pattern}
use Rattle.solver.specs.Terms.Tokens.{Area, toks}
use Rattle.solver.proofs.Terms.KeepTermLaws.{stored_at}
use Rattle.solver.proofs.Terms.NumberStepLaws.{one_group, at_byte, at-end}
use Rattle.solver.proofs.Terms.Shortest.{Octets}
use Rattle.sheet.specs.declared.FieldSpot.{FieldSpot}
use Rattle.sheet.specs.declared.FieldSpots.{FieldSpots}
use Rattle.sheet.specs.declared.OrderKind.{OrderKind}
use Rattle.sheet.specs.declared.Sort.{Sort}
use Rattle.sheet.specs.declared.Sort.TheVariants as sorts
use Rattle.sheet.specs.Fields as fields
use Rattle.sheet.specs.Fields.{Field, FieldSort, ruled, nodes, all_nodes, last, nth}
use Rattle.sheet.specs.OrderTable.{Row, row_in, layout, known, kinded_order, read_by}
use Rattle.sheet.specs.Sheet.{table, read_order}
use Rattle.sheet.specs.Words.FieldLayout.{sort_of, plain_of, Plain, Plains, field_items, all_items, Ample, IsLayout, FieldsHere, FieldDone, RulesDone, Spotted, Unread}
use Rattle.sheet.specs.Words.FieldsContract.{NumberRead}
use Rattle.sheet.specs.Words.OrderKinds.{kind_row}
use Rattle.sheet.specs.Words.OrderReaderContract.{OrderRoom, WholeOrder}
use Rattle.sheet.proofs.Laws.Reading.StoredLaws.{stored_kinds, stored_before, stored_undo}
use Rattle.sheet.proofs.Laws.Reading.FieldLaws.{parts_of, same_value, rules_found, fields_found}
use Rattle.sheet.proofs.Laws.Reading.OrderTableLaws.{layout_short, layout_leading, layout_plain, layout_ruled, spares_few}
use Rattle.sheet.proofs.Laws.Reading.SpotLaws.{RulesFit, plain_fit, rules_room, fields_followed, spots_held}
use Rattle.sheet.proofs.Laws.Reading.FitLaws.{fields_fit}

-- ---- a field of any sort

pub sort_plain : (a : Sort) → (a ≡ sorts.Rules → ⊥) → sort_of a ≡ plain_of a
unfolding plain_of
sort_plain sorts.Rules h = absurd (h refl)
sort_plain a h = refl

module _ (s : List ℕ) (us : List Rule) (issued : ℕ) (p : Place) (d e : Area) where
  pub rules_refused : (c : ℕ) → refused c ≡ number s (ceiling shape.ordinary) p.at → fields.field s issued fields.rules p.at ≡ refused c
  unfolding fields.field
  rules_refused c h = rw (← h)

  module _ (q : Place) (n : ℕ) (x : NumberRead s p (Ok n) q) where
    pub rules_field : (w : Place) (spot : FieldSpot) → spot.value ≡ n → RulesDone (fields.rule_list s issued n q.at) s q d e n us (Next w)
        → FieldDone s us (fields.field s issued fields.rules p.at) p d e (Spotted spot w)
    unfolding fields.field field_items nodes
    rules_field w spot v done =
        let (rs, found, y, inside, count, words) = subst (λ (z : Place). RulesDone (fields.rule_list s issued n q.at) s z d e n us (Next w)) x.place done in (
          ruled rs,
          rw (← x.is) (ap (λ (x : Result (List _)). bind x (λ rs j. got (ruled rs) j)) found),
          record { whole = y.whole; only = y.only; free = y.free; limit = y.limit; tokens = y.tokens; counts = y.counts },
          inside,
          (v ∙ sym count, words),
        )

    pub rules_none : (c : ℕ) → RulesDone (fields.rule_list s issued n q.at) s q d e n us (Stopped c) → FieldDone s us (fields.field s issued fields.rules p.at) p d e (Unread c)
    unfolding fields.field
    rules_none c done = (rw (← x.is) (ap (λ (x : Result (List _)). bind x (λ rs j. got (ruled rs) j)) done.0), done.1)

-- a number whose first byte is below 128 is that byte
number_one : (s : List ℕ) (at v m : ℕ) → number s (ceiling shape.ordinary) at ≡ got v m → get_or s at 0 < 128 → v ≡ get_or s at 0
number_one s at v m e l = go (dec_lt at (length s))
  where
    go : Dec (at < length s) → v ≡ get_or s at 0
    go (yes h) = same_value (sym (rw (at_byte s at h) at e) ∙ one_group (ceiling shape.ordinary) at (get_or s at 0) (drop (at + 1) s) (omega arith) l)
    go (no h) = absurd (let r = at-end s (ceiling shape.ordinary) 0 1 at (omega arith) in let z : ◌≡◌ {A = ℕ} 0 1 = cc in omega arith)

-- rules that have room, before fields that do
rules_first : (ws : List Rule) (rs : List Pattern) (fs : List Field) → length rs ≤ length ws → ((i : ℕ) → RulesFit ws (nth i fs)) → (i : ℕ) → RulesFit ws (nth i (ruled rs ∷ fs))
unfolding nth
rules_first ws rs fs h f zero = h
rules_first ws rs fs h f (suc i) = f i

-- rules whose count is one byte have room where there is room for so many
rules_few : (s : List ℕ) → Octets s → (issued : ℕ) (ws : List Rule) (l : List FieldSort) → Plains l → (at : ℕ) (fs : List Field) (n : ℕ)
    → fields.fields s issued (fields.rules ∷ l) at ≡ got fs n → get_or s at 0 < 128 → get_or s at 0 ≤ length ws → (i : ℕ) → RulesFit ws (nth i fs)
unfolding fields.fields fields.field
rules_few s octets issued ws l p at fs n e b h =
    let x = parts_of (fields.field s issued fields.rules at) _ fs n e in
    let y = parts_of (fields.fields s issued l x.1) _ fs n x.3 in
    let v = parts_of (reading.count s at) _ x.0 x.1 x.2 in
    let r = parts_of (fields.rule_list s issued v.0 v.1) _ x.0 x.1 v.3 in
    let many = (rules_found s octets issued v.0 v.1 r.0 r.1 r.2).1 in
    let is = number_one s at v.0 v.1 v.2 b in
    let all : ruled r.0 ∷ y.0 ≡ fs = ap (λ (f : Field). f ∷ y.0) (same_value r.3) ∙ same_value y.3 in
    rw (← all)
    (rules_first ws r.0 y.0 (omega arith) (plain_fit ws l y.0 p (fields_fit s issued l x.1 y.0 y.1 y.2)))

-- rules are not plain
pub not_plain : {A : Type 0} (a : Sort) → a ≡ sorts.Rules → Plain (sort_of a) → A
unfolding sort_of Plain
not_plain a e h = absurd (rw e at h)

-- ---- the fields of a kind

-- a row of the table is a layout
pub row_layout : (k : ℕ) (r : Row) → row_in table k ≡ some r → (l : List FieldSort) → l ≡ layout r → IsLayout l
row_layout k r h l e = rw e (record { few = layout_short k r h; leading = layout_leading k r h })

-- ---- the whole order

module _ (s : List ℕ) (issued : ℕ) where
  pub order_empty : length s ≡ 0 → read_order s issued ≡ refused 1
  unfolding read_order read_by
  order_empty h = rw (le-ltb 0 (length s) (omega arith))

  module _ (some_bytes : 0 < length s) where
    order_row : (o : Option Row) → row_in table (get_or s 0 0) ≡ o → read_order s issued ≡ kinded_order s issued o 1
    unfolding read_order read_by
    order_row o h = rw (lt-ltb 0 (length s) some_bytes, h)

    pub order_unlisted : row_in table (get_or s 0 0) ≡ none → read_order s issued ≡ refused 2
    unfolding kinded_order
    order_unlisted h = order_row none h

    module _ (kind : OrderKind) (listed : row_in table (get_or s 0 0) ≡ some (kind_row kind)) {l : List FieldSort} (is : l ≡ layout (kind_row kind)) where
      abbrev r : Row
      r = kind_row kind

      -- the fields of the kind
      fields_are : fields.fields s (known r issued) l 1 ≡ fields.fields s (known r issued) (layout r) 1
      fields_are = ap (λ (l : List FieldSort). fields.fields s (known r issued) l 1) is

      order_is : read_order s issued ≡ bind (fields.fields s (known r issued) l 1) (λ fs. last s (record { kind = r; fields = fs }))
      unfolding kinded_order
      order_is = order_row (some r) listed ∙ ap (λ (x : Result (List Field)). bind x (λ fs. last s (record { kind = r; fields = fs }))) (sym fields_are)

      pub order_refused : {a : ℕ} → fields.fields s (known r issued) l 1 ≡ refused a → read_order s issued ≡ refused a
      order_refused h =
          order_is ∙ ap (λ (x : Result (List Field)). bind x (λ fs. last s (record { kind = r; fields = fs }))) h

      after : (fs : List Field) (m : ℕ) → fields.fields s (known r issued) l 1 ≡ got fs m → read_order s issued ≡ last s (record { kind = r; fields = fs }) m
      after fs m h = order_is ∙ ap (λ (x : Result (List Field)). bind x (λ fs. last s (record { kind = r; fields = fs }))) h

      pub order_longer : {fs : List Field} {m : ℕ} → fields.fields s (known r issued) l 1 ≡ got fs m → m < length s → read_order s issued ≡ refused 1
      order_longer {fs} {m} h lt = after fs m h ∙ rw (lt-ltb m (length s) lt)

      order_whole : (fs : List Field) (m : ℕ) → fields.fields s (known r issued) l 1 ≡ got fs m → length s ≤ m → read_order s issued ≡ got (record { kind = r; fields = fs }) m
      order_whole fs m h le = after fs m h ∙ rw (le-ltb m (length s) le)

      -- an order that is whole
      module _ (octets : Octets s) {us : List Rule} (ws : List Rule) {top kept limit : ℕ} (d e' : Area) (room : OrderRoom s d.kinds d.vals us top kept limit) (long : length ws ≡ length us) (o : FieldSpots) (q : Place) where
        abbrev start : Place
        start = record { at = 1; top = top; nodes = kept; limit = limit }

        -- only order 20 has rules, and for those there is room
        rules_held : (fs : List Field) (m : ℕ) → fields.fields s (known r issued) (layout r) 1 ≡ got fs m → kept + all_nodes fs ≤ limit → (i : ℕ) → RulesFit ws (nth i fs)
        unfolding Plains Plain
        rules_held fs m found h = go (ℕ_discrete (get_or s 0 0) 20)
          where
            go : Dec (get_or s 0 0 ≡ 20) → (i : ℕ) → RulesFit ws (nth i fs)
            go (no l) = plain_fit ws (layout r) fs (layout_plain _ r listed l) (fields_fit s (known r issued) (layout r) 1 fs m found)
            go (yes l) =
                let told = rw (layout_ruled _ r listed l) at found in
                ⊎_elim (λ w. rules_room ws fs (omega arith)) (λ w. rules_few s octets (known r issued) ws (fields.term ∷ []) (tt, tt) 1 fs m told w.0 (omega arith)) (room.rules l)

        pub order_done : FieldsHere s ws (fields.fields s (known r issued) l 1) start d e' o q → length s ≤ q.at
            → WholeOrder s issued top kept limit d e' ws (record { kind = kind; fields = o; top = q.top; nodes = q.nodes })
        order_done x le =
            let fs = x.read in
            let found = sym fields_are ∙ x.is in
            let stored = x.stored in
            let good = fields_found s octets (known r issued) (layout r) 1 fs q.at found in
            let items = good.room in
            let fit = fields_fit s (known r issued) (layout r) 1 fs q.at found in
            let few = spares_few _ r listed in
            let fits : q.nodes ≤ limit → top + length (all_items fs) ≤ length d.kinds = λ h. omega (arith, stored.counts, room.tokens, room.within) in
            let run : q.nodes ≤ limit → toks e'.kinds e'.vals top (length (all_items fs)) ≡ all_items fs = λ h.
            rw (stored.whole (omega arith)) (stored_at (all_items fs) d top (fits h) (omega (arith, fits h, room.paired)))
            in
            let kindsLong = stored_kinds start q d e' (all_items fs) (all_nodes fs) stored in
            record {
              numbered = listed;
              said = fs;
              next = q.at;
              is = order_whole fs q.at x.is le;
              formed = good.formed;
              counts = omega (arith, stored.counts);
              tokens = omega (arith, stored.tokens);
              small = omega (arith, stored.tokens, good.tokens, room.bytes, room.tokens, room.short);
              held = λ h. spots_held e'.kinds e'.vals s ws top o fs x.spots (rules_held fs q.at found (omega (arith, stored.counts, room.within))) (fields_followed _ r listed fs fit) (run h) (omega (arith, fits h));
              fitting = fit;
              found = found;
              spots = x.spots;
              room = good.room;
              stored = λ h. stored.whole (omega arith);
              run = run;
              fits = λ h. omega (arith, fits h, stored.tokens);
              same = stored_before start q d e' (all_items fs) (all_nodes fs) stored;
              free = stored.free;
              cleared = stored_undo start q d room.free e' (all_items fs) (all_nodes fs) (q.top - top) stored (omega arith);
            }

-- what is known below, told another way
pub here_as : {s : List ℕ} {ws : List Rule} {n m : ℕ} (l : List FieldSort) (at : ℕ) {p : Place} {d e : Area} {o : FieldSpots} {q : Place} → n ≡ m → FieldsHere s ws (fields.fields s n l at) p d e o q → FieldsHere s ws (fields.fields s m l at) p d e o q
here_as l at h x = rw (← h) x

-- the place where an order's fields begin
pub ample_start : {s ks vs : List ℕ} {ws : List Rule} {top kept limit : ℕ} → OrderRoom s ks vs ws top kept limit → 0 < length s → Ample s (record { at = 1; top = top; nodes = kept; limit = limit })
ample_start x h = record {
  inside = omega arith;
  tokens = omega (arith, x.bytes, x.tokens, x.short);
  counts = omega (arith, x.bytes, x.within, x.few);
}
