-- Spots: where the fields that were read stand, and that the areas hold them there.
use mathlib.Core.Path.{◌≡◌, refl, sym, ap, ◌∙◌}
use mathlib.Core.Bool.{Bool, true, false, ◌&&◌}
use mathlib.Core.List.{List, [], ◌∷◌, ◌++◌, append_assoc}
use mathlib.Core.Option.{some}
use Prim.Native.Nat.{ℕ, zero, suc, ◌+◌, ◌*◌, ◌≤◌, ◌<◌}
use native.Mathlib.Decide.{dec_lt}
use native.Mathlib.Omega.{arith}
use borrow.Author.Tests.{ne_eqb}
use lib.ListN.{length, length-append, get_or}
use Rattle.solver.specs.Terms.Tokens.{Item, item, spell, toks}
use Rattle.solver.specs.Terms.Term.{Term, var, node, end, sub, items, part_items, size}
use Rattle.solver.specs.Terms.Tree.{put_terms}
use Rattle.solver.specs.Terms.Rows.{argument_row}
use Rattle.solver.specs.Terms.Substitution.{Receiver}
use Rattle.solver.specs.Terms.Lookup.{Pattern, HeldRule, Ruled}
use Rattle.solver.proofs.Terms.Bools.{never_true}
use Rattle.solver.proofs.Terms.KindTableLaws.{both_true}
use Rattle.solver.specs.TermTypes.{Rule}
use Rattle.sheet.specs.declared.FieldSpot.{FieldSpot}
use Rattle.sheet.specs.declared.FieldSpots.{FieldSpots}
use Rattle.sheet.specs.Fields as fields
use Rattle.sheet.specs.Fields.{FieldSort, Field, value, bounded, tree, bare, entered, received, named, listed, ruled, nodes, all_nodes, rule_nodes, nth}
use Rattle.sheet.specs.OrderTable.{Row, session_orders, row_in, layout}
use Rattle.sheet.specs.Operations.{operations}
use Rattle.sheet.specs.Sheet.{table}
use Rattle.sheet.specs.Words.FieldsHeld.{HeldField, HeldFields, Follows}
use Rattle.sheet.specs.Words.OrderGiven.{OfSort, FitsLayout}
use Rattle.sheet.specs.Words.FieldLayout.{Plain, Plains, rule_items, field_items, all_items, placed_rule, placed_rules, SpotOf, spot_at, put_spot, no_fields, start_at, Spots}
use Rattle.sheet.proofs.Laws.Reading.OrderTableLaws.{all, every_row}

-- ---- one field more

spot_same : (i : ℕ) (x : FieldSpot) (o : FieldSpots) → i < 5 → spot_at i (put_spot i x o) ≡ x
unfolding spot_at
spot_same zero x o h = refl
spot_same (suc zero) x o h = refl
spot_same (suc (suc zero)) x o h = refl
spot_same (suc (suc (suc zero))) x o h = refl
spot_same (suc (suc (suc (suc zero)))) x o h = refl
spot_same (suc (suc (suc (suc (suc i))))) x o h = absurd (omega arith)

spot_other : (j i : ℕ) (x : FieldSpot) (o : FieldSpots) → j < 5 → (i ≡ j → ⊥) → spot_at j (put_spot i x o) ≡ spot_at j o
unfolding spot_at
spot_other zero i x o h n = rw (ne_eqb i 0 n)
spot_other (suc zero) i x o h n = rw (ne_eqb i 1 n)
spot_other (suc (suc zero)) i x o h n = rw (ne_eqb i 2 n)
spot_other (suc (suc (suc zero))) i x o h n = rw (ne_eqb i 3 n)
spot_other (suc (suc (suc (suc zero)))) i x o h n = rw (ne_eqb i 4 n)
spot_other (suc (suc (suc (suc (suc j))))) i x o h n = absurd (omega arith)

nth_before : (fs : List Field) (f : Field) (j : ℕ) → j < length fs → nth j (fs ++ (f ∷ [])) ≡ nth j fs
unfolding nth
nth_before [] f j h = absurd (omega arith)
nth_before (g ∷ fs) f zero h = refl
nth_before (g ∷ fs) f (suc j) h = nth_before fs f j (omega arith)

nth_last : (fs : List Field) (f : Field) → nth (length fs) (fs ++ (f ∷ [])) ≡ f
unfolding nth
nth_last [] f = refl
nth_last (g ∷ fs) f = nth_last fs f

nth_past : (fs : List Field) (j : ℕ) → length fs ≤ j → nth j fs ≡ value 0
unfolding nth
nth_past [] j h = refl
nth_past (g ∷ fs) zero h = absurd (omega arith)
nth_past (g ∷ fs) (suc j) h = nth_past fs j (omega arith)

start_before : (fs : List Field) (f : Field) (a j : ℕ) → j < length fs → start_at a j (fs ++ (f ∷ [])) ≡ start_at a j fs
unfolding start_at
start_before [] f a j h = absurd (omega arith)
start_before (g ∷ fs) f a zero h = refl
start_before (g ∷ fs) f a (suc j) h = start_before fs f (a + length (field_items g)) j (omega arith)

start_last : (fs : List Field) (f : Field) (a : ℕ) → start_at a (length fs) (fs ++ (f ∷ [])) ≡ a + length (all_items fs)
unfolding start_at all_items
start_last [] f a = omega arith
start_last (g ∷ fs) f a = start_last fs f (a + length (field_items g)) ∙ omega (arith, length-append (field_items g) (all_items fs))

pub items_more : (fs : List Field) (f : Field) → all_items (fs ++ (f ∷ [])) ≡ all_items fs ++ field_items f
unfolding all_items
items_more [] f = append-nil (field_items f)
  where
    append-nil : (l : List Item) → l ++ [] ≡ l
    append-nil [] = refl
    append-nil (x ∷ l) = ap (λ (m : List Item). x ∷ m) (append-nil l)
items_more (g ∷ fs) f = ap (λ (m : List Item). field_items g ++ m) (items_more fs f) ∙ sym (append_assoc (field_items g) (all_items fs) (field_items f))

pub nodes_more : (fs : List Field) (f : Field) → all_nodes (fs ++ (f ∷ [])) ≡ all_nodes fs + nodes f
unfolding all_nodes
nodes_more [] f = omega arith
nodes_more (g ∷ fs) f = omega (arith, nodes_more fs f)

-- no field, no spot
pub spots_none : (s : List ℕ) (ws : List Rule) (a : ℕ) → Spots s ws a no_fields []
unfolding spot_at nth
spots_none s ws a zero h = refl
spots_none s ws a (suc zero) h = refl
spots_none s ws a (suc (suc zero)) h = refl
spots_none s ws a (suc (suc (suc zero))) h = refl
spots_none s ws a (suc (suc (suc (suc i)))) h = refl

-- one field more, at the next spot; the words may change where it is the first
pub spots_more : (s : List ℕ) (ws us : List Rule) (a : ℕ) (o : FieldSpots) (fs : List Field) (i : ℕ) (x : FieldSpot) (f : Field) → i ≡ length fs → i < 5 → (0 < i → us ≡ ws)
    → Spots s ws a o fs → SpotOf s us (a + length (all_items fs)) x f → Spots s us a (put_spot i x o) (fs ++ (f ∷ []))
spots_more s ws us a o fs i x f e h w y l j k = go (dec_lt j i) (dec_lt i j)
  where
    later : i < j → SpotOf s us (start_at a j (fs ++ (f ∷ []))) (spot_at j (put_spot i x o)) (nth j (fs ++ (f ∷ [])))
    later n =
        let z : (spot_at j o).value ≡ 0 = rw (nth_past fs j (omega arith)) at (y j k) in
        rw (spot_other j i x o k (λ e. omega arith), nth_past (fs ++ (f ∷ [])) j (omega (arith, length-append fs (f ∷ [])))) z

    go : Dec (j < i) → Dec (i < j) → SpotOf s us (start_at a j (fs ++ (f ∷ []))) (spot_at j (put_spot i x o)) (nth j (fs ++ (f ∷ [])))
    go (yes n) m = rw (spot_other j i x o k (λ e. omega arith), nth_before fs f j (omega arith), start_before fs f a j (omega arith), w (omega arith)) (y j k)
    go (no n) (yes m) = later m
    go (no n) (no m) =
        let q : j ≡ length fs = omega arith in
        let r : i ≡ j = omega arith in
        rw (r, spot_same j x o k, q, nth_last fs f, start_last fs f a) l

-- ---- held

-- a run of tokens taken apart
toks_apart : (ks vs : List ℕ) (a : ℕ) (l m : List Item) → toks ks vs a (length (l ++ m)) ≡ l ++ m → (toks ks vs a (length l) ≡ l) × (toks ks vs (a + length l) (length m) ≡ m)
unfolding spell
toks_apart ks vs a [] m e = let z : a + 0 ≡ a = omega arith in (refl, rw z e)
toks_apart ks vs a (x ∷ l) m e =
    let h : item (get_or ks a 0) (get_or vs a 0) ≡ x = cc in
    let r : toks ks vs (suc a) (length (l ++ m)) ≡ l ++ m = cc in
    let q = toks_apart ks vs (suc a) l m r in
    let z : a + suc (length l) ≡ suc a + length l = omega arith in
    (rw (h, q.0), rw z q.1)

-- ---- rules, held

size-some : (t : Term) → 1 ≤ size t
unfolding size
size-some (var v) = omega arith
size-some (node k ps) = omega arith

rule_nodes_lem : (rs : List Pattern) → 2 * length rs ≤ rule_nodes rs
unfolding rule_nodes
rule_nodes_lem [] = omega arith
rule_nodes_lem (p ∷ rs) = omega (arith, size-some p.receiver, size-some p.value, rule_nodes_lem rs)

terms_row : (ts : List Term) → put_terms ts end ≡ argument_row ts
unfolding put_terms argument_row
terms_row [] = refl
terms_row (t ∷ ts) = ap (sub t) (terms_row ts)

module _ (ks vs : List ℕ) where
  rule_held : (a : ℕ) (p : Pattern) (rs : List Pattern) → toks ks vs a (length (rule_items (p ∷ rs))) ≡ rule_items (p ∷ rs) → a + length (rule_items (p ∷ rs)) ≤ length ks
      → HeldRule ks vs (placed_rule a p) p × (toks ks vs (a + length (rule_items (p ∷ []))) (length (rule_items rs)) ≡ rule_items rs)
      × (a + length (rule_items (p ∷ [])) + length (rule_items rs) ≤ length ks)
  unfolding rule_items
  rule_held a p rs e w =
      let i = items (node 20 p.interface) in
      let r = items p.receiver in
      let l = part_items (argument_row p.arguments) in
      let v = items p.value in
      let all = i ++ (r ++ (l ++ (v ++ []))) in
      let l0 = length-append all (rule_items rs) in
      let l1 = length-append i (r ++ (l ++ (v ++ []))) in
      let l2 = length-append r (l ++ (v ++ [])) in
      let l3 = length-append l (v ++ []) in
      let l4 = length-append v [] in
      let l5 = length-append all [] in
      let x0 = toks_apart ks vs a all (rule_items rs) e in
      let x1 = toks_apart ks vs a i (r ++ (l ++ (v ++ []))) x0.0 in
      let x2 = toks_apart ks vs (a + length i) r (l ++ (v ++ [])) x1.1 in
      let x3 = toks_apart ks vs (a + length i + length r) l (v ++ []) x2.1 in
      let x4 = toks_apart ks vs (a + length i + length r + length l) v [] x3.1 in
      let n0 : a + length (all ++ []) ≡ a + length all = omega arith in (
        record {
          interface = record { tokens = x1.0; within = omega arith };
          receiver = record { tokens = x2.0; within = omega arith };
          member = refl;
          ends = a + length i + length r + length l;
          arguments = rw (terms_row p.arguments) (record { tokens = x3.0; ends = refl; within = omega arith });
          count = refl;
          value = record { tokens = x4.0; within = omega arith };
        },
        rw n0 x0.1,
        omega arith,
      )

  rules_held : (a : ℕ) (rs : List Pattern) → toks ks vs a (length (rule_items rs)) ≡ rule_items rs → a + length (rule_items rs) ≤ length ks → Ruled ks vs (placed_rules a rs) rs
  unfolding placed_rules
  rules_held a [] t w = tt
  rules_held a (p ∷ rs) t w =
      let h = rule_held a p rs t w in
      (h.0, rules_held (a + length (rule_items (p ∷ []))) rs h.1 h.2)

-- ---- fields, held

-- there is room for the rules
abbrev pub RulesFit : List Rule → Field → Type 0
RulesFit ws (value n) = Unit {0}
RulesFit ws (bounded b n) = Unit {0}
RulesFit ws (tree t) = Unit {0}
RulesFit ws (bare ps) = Unit {0}
RulesFit ws (entered es) = Unit {0}
RulesFit ws (received rs) = Unit {0}
RulesFit ws (named ps) = Unit {0}
RulesFit ws (listed ts) = Unit {0}
RulesFit ws (ruled rs) = length rs ≤ length ws

rules_fit : (ws : List Rule) (f : Field) → nodes f ≤ 2 * length ws + 1 → RulesFit ws f
unfolding nodes
rules_fit ws (value n) h = tt
rules_fit ws (bounded b n) h = tt
rules_fit ws (tree t) h = tt
rules_fit ws (bare ps) h = tt
rules_fit ws (entered es) h = tt
rules_fit ws (received rs) h = tt
rules_fit ws (named ps) h = tt
rules_fit ws (listed ts) h = tt
rules_fit ws (ruled rs) h = omega (arith, rule_nodes_lem rs)

field_held : (ks vs s : List ℕ) (ws : List Rule) (a : ℕ) (x : FieldSpot) (f : Field) → SpotOf s ws a x f → RulesFit ws f → toks ks vs a (length (field_items f)) ≡ field_items f → a + length (field_items f) ≤ length ks
    → HeldField ks vs s ws x f
unfolding field_items
field_held ks vs s ws a x (value n) l r t w = l
field_held ks vs s ws a x (bounded b n) l r t w = l
field_held ks vs s ws a x (tree u) l r t w = rw l (record { tokens = t; within = w })
field_held ks vs s ws a x (bare ps) l r t w = rw l (record { tokens = t; within = w })
field_held ks vs s ws a x (entered es) l r t w = (l.0, rw (l.1, l.2) (record { tokens = t; ends = refl; within = w }))
field_held ks vs s ws a x (received rs) l r t w = (l.0, rw (l.1, l.2) (record { tokens = t; ends = refl; within = w }))
field_held ks vs s ws a x (named ps) l r t w = l
field_held ks vs s ws a x (listed ts) l r t w = (l.0, rw (l.1, l.2) (record { tokens = t; ends = refl; within = w }))
field_held ks vs s ws a x (ruled rs) l r t w = (l.0, rw l.0 r, rw (l.0, l.1 r) (rules_held ks vs a rs t w))

-- the tokens of the i-th field
start_toks : (ks vs : List ℕ) (fs : List Field) (a i : ℕ) → toks ks vs a (length (all_items fs)) ≡ all_items fs → a + length (all_items fs) ≤ length ks
    → (toks ks vs (start_at a i fs) (length (field_items (nth i fs))) ≡ field_items (nth i fs)) × (start_at a i fs + length (field_items (nth i fs)) ≤ length ks)
unfolding all_items start_at nth field_items spell
start_toks ks vs [] a i t w = (refl, omega arith)
start_toks ks vs (f ∷ fs) a zero t w =
    let x = toks_apart ks vs a (field_items f) (all_items fs) t in
    (x.0, omega (arith, length-append (field_items f) (all_items fs)))
start_toks ks vs (f ∷ fs) a (suc i) t w =
    let x = toks_apart ks vs a (field_items f) (all_items fs) t in
    start_toks ks vs fs (a + length (field_items f)) i x.1 (omega (arith, length-append (field_items f) (all_items fs)))

nth_nodes : (fs : List Field) (i : ℕ) → nodes (nth i fs) ≤ all_nodes fs
unfolding nth all_nodes nodes
nth_nodes [] i = omega arith
nth_nodes (f ∷ fs) zero = omega arith
nth_nodes (f ∷ fs) (suc i) = omega (arith, nth_nodes fs i)

-- entries stand before receivers
abbrev pub FollowedBy : Field → Field → Type 0
FollowedBy (entered es) g = (rs : List Receiver) × (g ≡ received rs)
FollowedBy (value n) g = Unit {0}
FollowedBy (bounded b n) g = Unit {0}
FollowedBy (tree t) g = Unit {0}
FollowedBy (bare ps) g = Unit {0}
FollowedBy (received rs) g = Unit {0}
FollowedBy (named ps) g = Unit {0}
FollowedBy (listed ts) g = Unit {0}
FollowedBy (ruled rs) g = Unit {0}

abbrev After : FieldSort → List FieldSort → Type 0
After fields.entries (a ∷ l) = a ≡ fields.receivers
After fields.entries [] = ⊥
After a l = Unit {0}

unfoldable Joined : List FieldSort → Type 0
Joined [] = Unit {0}
Joined (a ∷ l) = After a l × Joined l

unfoldable after : FieldSort → List FieldSort → Bool
after fields.entries (fields.receivers ∷ l) = true
after fields.entries l = false
after a l = true

unfoldable joined : List FieldSort → Bool
joined [] = true
joined (a ∷ l) = after a l && joined l

after_of : (a : FieldSort) (l : List FieldSort) → after a l ≡ true → After a l
unfolding after
after_of fields.entries [] h = never_true h
after_of fields.entries (fields.receivers ∷ l) h = refl
after_of fields.entries (a ∷ l) h = never_true h
after_of a l h = tt

joined_of : (l : List FieldSort) → joined l ≡ true → Joined l
unfolding joined Joined
joined_of [] h = tt
joined_of (a ∷ l) h = let t = both_true (after a l) (joined l) h in (after_of a l t.0, joined_of l t.1)

layout_joined : (k : ℕ) (r : Row) → row_in table k ≡ some r → Joined (layout r)
unfolding table session_orders operations all layout joined after
layout_joined k r e = joined_of (layout r) (every_row (λ (r : Row). joined (layout r)) refl k r e)

followed : (a : FieldSort) (l : List FieldSort) (f : Field) (fs : List Field) → After a l → OfSort a f → FitsLayout l fs → FollowedBy f (nth 0 fs)
unfolding FitsLayout nth
followed fields.ordinary l f fs h x y = rw x.1 tt
followed fields.code l f fs h x y = rw x.1 tt
followed fields.bound l f fs h x y = rw x.2 tt
followed fields.term l f fs h x y = rw x.1 tt
followed fields.nominal l f fs h x y = rw x.1 tt
followed fields.receiver l f fs h x y = rw x.1 tt
followed fields.receivers l f fs h x y = rw x.1 tt
followed fields.parameters l f fs h x y = rw x.1 tt
followed fields.arguments l f fs h x y = rw x.1 tt
followed fields.rules l f fs h x y = rw x.1 tt
followed fields.entries [] f fs h x y = absurd h
followed fields.entries (a ∷ l) f [] h x y = absurd y
followed fields.entries (a ∷ l) f (g ∷ fs) h x y = rw x.1 (rw h at y.0)

each_followed : (l : List FieldSort) (fs : List Field) → Joined l → FitsLayout l fs → (i : ℕ) → FollowedBy (nth i fs) (nth (suc i) fs)
unfolding FitsLayout nth Joined
each_followed [] [] j h i = tt
each_followed [] (f ∷ fs) j h i = absurd h
each_followed (a ∷ l) [] j h i = absurd h
each_followed (a ∷ l) (f ∷ fs) j h zero = followed a l f fs j.0 h.0 h.1
each_followed (a ∷ l) (f ∷ fs) j h (suc i) = each_followed l fs j.1 h.1 i

pub fields_followed : (k : ℕ) (r : Row) → row_in table k ≡ some r → (fs : List Field) → FitsLayout (layout r) fs → (i : ℕ) → FollowedBy (nth i fs) (nth (suc i) fs)
fields_followed k r e fs h i = each_followed (layout r) fs (layout_joined k r e) h i

start_next : (fs : List Field) (a i : ℕ) → start_at a (suc i) fs ≡ start_at a i fs + length (field_items (nth i fs))
unfolding start_at nth field_items
start_next [] a i = omega arith
start_next (f ∷ []) a zero = refl
start_next (f ∷ (g ∷ fs)) a zero = refl
start_next (f ∷ fs) a (suc i) = start_next fs (a + length (field_items f)) i

laid_follows : (s : List ℕ) (ws : List Rule) (a : ℕ) (x y : FieldSpot) (f g : Field) → FollowedBy f g → SpotOf s ws a x f → SpotOf s ws (a + length (field_items f)) y g → Follows f x y
unfolding field_items
laid_follows s ws a x y (value n) g h l m = tt
laid_follows s ws a x y (bounded b n) g h l m = tt
laid_follows s ws a x y (tree t) g h l m = tt
laid_follows s ws a x y (bare ps) g h l m = tt
laid_follows s ws a x y (entered es) g h l m = l.2 ∙ sym (rw h.1 at m).1
laid_follows s ws a x y (received rs) g h l m = tt
laid_follows s ws a x y (named ps) g h l m = tt
laid_follows s ws a x y (listed ts) g h l m = tt
laid_follows s ws a x y (ruled rs) g h l m = tt

-- rules have room: there are none, or room for many
rules_none : (ws : List Rule) (a : FieldSort) (f : Field) → Plain a → OfSort a f → RulesFit ws f
unfolding Plain
rules_none ws fields.ordinary f h x = rw x.1 tt
rules_none ws fields.code f h x = rw x.1 tt
rules_none ws fields.bound f h x = rw x.2 tt
rules_none ws fields.term f h x = rw x.1 tt
rules_none ws fields.nominal f h x = rw x.1 tt
rules_none ws fields.receiver f h x = rw x.1 tt
rules_none ws fields.entries f h x = rw x.1 tt
rules_none ws fields.receivers f h x = rw x.1 tt
rules_none ws fields.parameters f h x = rw x.1 tt
rules_none ws fields.arguments f h x = rw x.1 tt
rules_none ws fields.rules f h x = absurd h

pub plain_fit : (ws : List Rule) (l : List FieldSort) (fs : List Field) → Plains l → FitsLayout l fs → (i : ℕ) → RulesFit ws (nth i fs)
unfolding FitsLayout nth Plains
plain_fit ws [] [] p h i = tt
plain_fit ws [] (f ∷ fs) p h i = absurd h
plain_fit ws (a ∷ l) [] p h i = absurd h
plain_fit ws (a ∷ l) (f ∷ fs) p h zero = rules_none ws a f p.0 h.0
plain_fit ws (a ∷ l) (f ∷ fs) p h (suc i) = plain_fit ws l fs p.1 h.1 i

pub rules_room : (ws : List Rule) (fs : List Field) → all_nodes fs ≤ 2 * length ws + 1 → (i : ℕ) → RulesFit ws (nth i fs)
rules_room ws fs h i = rules_fit ws (nth i fs) (omega (arith, nth_nodes fs i))

pub spots_held : (ks vs s : List ℕ) (ws : List Rule) (a : ℕ) (o : FieldSpots) (fs : List Field) → Spots s ws a o fs → ((i : ℕ) → RulesFit ws (nth i fs)) → ((i : ℕ) → FollowedBy (nth i fs) (nth (suc i) fs))
    → toks ks vs a (length (all_items fs)) ≡ all_items fs → a + length (all_items fs) ≤ length ks → HeldFields ks vs s ws o fs
unfolding spot_at
spots_held ks vs s ws a o fs y r n t w =
    let at : (i : ℕ) → i < 5 → HeldField ks vs s ws (spot_at i o) (nth i fs) = λ i h.
    let x = start_toks ks vs fs a i t w in
    field_held ks vs s ws (start_at a i fs) (spot_at i o) (nth i fs) (y i h) (r i) x.0 x.1
    in
    let next : (i : ℕ) → suc i < 5 → Follows (nth i fs) (spot_at i o) (spot_at (suc i) o) = λ i h.
    laid_follows s ws (start_at a i fs) (spot_at i o) (spot_at (suc i) o) (nth i fs) (nth (suc i) fs) (n i) (y i (omega arith)) (rw (start_next fs a i) at (y (suc i) h))
    in
    record { first = at 0 (omega arith); second = at 1 (omega arith); third = at 2 (omega arith); fourth = at 3 (omega arith); fifth = at 4 (omega arith); second_follows = next 0 (omega arith); fourth_follows = next 2 (omega arith) }
