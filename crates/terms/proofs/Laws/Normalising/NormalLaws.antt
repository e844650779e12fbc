-- The whole of normalising: the scan for projections, the records cleared, and the answer.
use mathlib.Core.Path.{◌≡◌, refl, sym, ap, ap₂, ◌∙◌}
use mathlib.Core.Bool.{Bool, true, false, ◌||◌}
use mathlib.Core.List.{List, [], ◌∷◌, ◌++◌}
use mathlib.Core.Option.{Option}
use Prim.Native.Nat.{ℕ, zero, suc, min, ◌+◌, ◌-◌, ◌≤◌, ◌<◌}
use native.Mathlib.Nat.{mul-le-mul}
use native.Mathlib.Decide.{dec_lt, ℕ_discrete}
use native.Mathlib.Omega.{arith}
use borrow.Author.Tests.{eq-eqb, ne_eqb, eqb-false, lt-ltb, le-ltb, ltb-true, ltb-false}
use lib.Dec.{eqb, ltb}
use lib.ListN.{length, get_or, set, length-set, get_or-eq_default}
use lib.Seq.{get_or-set_same, get_or-set_other, ext_get_or}
use Rattle.terms.specs.declared.Origin.{Origin}
use Rattle.terms.specs.declared.Content.{Content}
use Rattle.terms.specs.declared.Walked.{Walked}
use Rattle.terms.specs.declared.Ready.{Ready}
use Rattle.terms.specs.declared.Unfinished.TheVariants.{TooMany, TooLong}
use Rattle.std.specs.declared.option.Option as rust
use Rattle.std.specs.Prelude.{Some, None, Ok, Err, ok_or, nat_eq, take, drop}
use Rattle.std.specs.List.{list_any}
use Rattle.std.proofs.lemmas.List.{drop_more}
use Rattle.terms.specs.Result.{pick}
use Rattle.terms.specs.Words.Tokens.{Item, item, Area, area, put, puts, zeros, blank, spell, toks}
use Rattle.terms.specs.Term.{Term, Parts, var, node, end, num, sub, items, part_items, bytes, Held}
use Rattle.terms.specs.Words.Held.{span}
use Rattle.terms.specs.Tree.{tag}
use Rattle.terms.specs.Questions.{meets, meets_row, counted, counted_by, entered, entered_by, contains_projection}
use Rattle.terms.specs.Words.VirtualTokens.{width, view, Sight}
use Rattle.terms.specs.Normal.{Out, replacement, walk_by, normalise}
use Rattle.terms.specs.declared.LookUp.{LookUp}
use Rattle.terms.specs.Lookup.{Look, look_by, Looks, HeldGiven}
use Rattle.terms.specs.Words.Arena.{grow, Frame, Frames}
use Rattle.terms.specs.Words.WalkingContract.{Visited, Overrun, Went}
use Rattle.terms.specs.Words.NormalContract.{Zero, Sized, number_for, Answers, Leaves}
use Rattle.terms.proofs.Laws.General.Bools.{never_true, or_assoc}
use Rattle.terms.proofs.Laws.Normalising.VirtualTokenLaws.{width_is, view_held}
use Rattle.terms.proofs.Laws.Normalising.ArenaLaws.{held_tree}
use Rattle.terms.proofs.Laws.Normalising.DepthLaws.{walk_depth}
use Rattle.terms.proofs.Laws.Held.HeldLaws.{items_some}
use Rattle.terms.proofs.Laws.Held.SameLaws.{span_held}

-- ---- records cleared

-- n words from i on cleared
unfoldable wiped : List ℕ → ℕ → ℕ → List ℕ
wiped l i zero = l
wiped l i (suc n) = wiped (set l i 0) (suc i) n

blank_is : (n : ℕ) (d : Area) (i : ℕ) → blank d i n ≡ area (wiped d.kinds i n) (wiped d.vals i n)
unfolding puts zeros wiped
blank_is zero d i = refl
blank_is (suc n) d i = blank_is n (put d i 0 0) (suc i)

wiped_length : (n : ℕ) (l : List ℕ) (i : ℕ) → length (wiped l i n) ≡ length l
unfolding wiped
wiped_length zero l i = refl
wiped_length (suc n) l i = wiped_length n (set l i 0) (suc i) ∙ length-set l i 0

wiped_out : (n : ℕ) (l : List ℕ) (i j : ℕ) → (i ≤ j → j < i + n → ⊥) → get_or (wiped l i n) j 0 ≡ get_or l j 0
unfolding wiped
wiped_out zero l i j f = refl
wiped_out (suc n) l i j f =
    wiped_out n (set l i 0) (suc i) j (λ a b. f (omega arith) (omega arith)) ∙ get_or-set_other l i j 0 0 (λ e. f (omega arith) (omega arith))

wiped_in : (n : ℕ) (l : List ℕ) (i j : ℕ) → i ≤ j → j < i + n → get_or (wiped l i n) j 0 ≡ 0
unfolding wiped
wiped_in zero l i j a b = absurd (omega arith)
wiped_in (suc n) l i j a b = go (ℕ_discrete j i) (λ e. wiped_in n (set l i 0) (suc i) j (omega arith) (omega arith))
  where
    here : Dec (i < length l) → get_or (set l i 0) i 0 ≡ 0
    here (yes h) = get_or-set_same l i 0 0 h
    here (no h) = get_or-eq_default (set l i 0) 0 (omega (arith, length-set l i 0))

    go : Dec (j ≡ i) → ((j ≡ i → ⊥) → get_or (wiped (set l i 0) (suc i) n) j 0 ≡ 0) → get_or (wiped (set l i 0) (suc i) n) j 0 ≡ 0
    go (yes e) f = wiped_out n (set l i 0) (suc i) j (λ x y. omega arith) ∙ ap (λ (k : ℕ). get_or (set l i 0) k 0) e ∙ here (dec_lt i (length l))
    go (no e) f = f e

-- an area that was 0 where it was written is again as it was
wiped_back : (l₀ l : List ℕ) (n m : ℕ) → Frame l₀ l 0 n → Zero l₀ m → n ≤ m → wiped l 0 n ≡ l₀
wiped_back l₀ l n m f z le =
    ext_get_or 0 (wiped l 0 n) l₀ (wiped_length n l 0 ∙ f.long) (λ j lt. go j (dec_lt j n))
  where
    go : (j : ℕ) → Dec (j < n) → get_or (wiped l 0 n) j 0 ≡ get_or l₀ j 0
    go j (yes h) = wiped_in n l 0 j (omega arith) (omega arith) ∙ sym (z.is j (omega arith))
    go j (no h) = wiped_out n l 0 j (λ a b. omega arith) ∙ f.above j (omega arith)

pub blank_back : (hs₀ cs₀ hs cs : List ℕ) (n m : ℕ) → Frames hs₀ cs₀ hs cs 0 n → Zero hs₀ m → Zero cs₀ m → n ≤ m → blank (area hs cs) 0 n ≡ area hs₀ cs₀
blank_back hs₀ cs₀ hs cs n m f zh zc le =
    blank_is n (area hs cs) 0 ∙ ap₂ area (wiped_back hs₀ hs n m f.heads zh le) (wiped_back cs₀ cs n m f.kids zc le)

-- ---- the scan for projections

unfoldable pub has_kind : ℕ → List Item → Bool
has_kind k [] = false
has_kind k (item j v ∷ l) = eqb j k || has_kind k l

has_append : (k : ℕ) (l m : List Item) → has_kind k (l ++ m) ≡ (has_kind k l || has_kind k m)
unfolding has_kind
has_append k [] m = refl
has_append k (item j v ∷ l) m = rw (has_append k l m) (sym (or_assoc (eqb j k) (has_kind k l) (has_kind k m)))

-- a head's kind is its tag and two
kind_tag : (k : ℕ) → eqb (suc (suc k)) 20 ≡ eqb k 18
kind_tag k = go (ℕ_discrete k 18)
  where
    go : Dec (k ≡ 18) → eqb (suc (suc k)) 20 ≡ eqb k 18
    go (yes e) = eq-eqb (suc (suc k)) 20 (omega arith) ∙ sym (eq-eqb k 18 e)
    go (no e) = ne_eqb (suc (suc k)) 20 (λ z. e (omega arith)) ∙ sym (ne_eqb k 18 e)

mutual
  unfolding has_kind items meets counted_by entered_by tag

  has_term : (t : Term) → contains_projection t ≡ has_kind 20 (items t)
  has_term (var v) = refl
  has_term (node k ps) = rw (kind_tag k) (ap (λ (b : Bool). eqb k 18 || b) (has_parts ps))

  has_parts : (ps : Parts) → meets_row (counted [] 6) (entered 6) ps ≡ has_kind 20 (part_items ps)
  has_parts end = refl
  has_parts (num n ps) = has_parts ps
  has_parts (sub t ps) = rw (has_append 20 (items t) (part_items ps)) (ap₂ ◌||◌ (has_term t) (has_parts ps))

-- the kinds tell
any_kind : (ks vs : List ℕ) (q n : ℕ) → q + n ≤ length ks → list_any (λ k. nat_eq k 20) (take n (drop q ks)) ≡ has_kind 20 (toks ks vs q n)
unfolding has_kind spell
any_kind ks vs q zero h = refl
any_kind ks vs q (suc n) h =
    let r = any_kind ks vs (suc q) n (omega arith) in
    let m : q + 1 ≡ suc q = omega arith in
    rw (drop_more ks q 0 (omega arith), m, r) refl

module _ (ks vs : List ℕ) (p from l : ℕ) {k v : ℕ} (ep : from ≡ p) (ek : k ≡ get_or ks from 0) (ev : v ≡ get_or vs from 0) (el : 1 ≤ span k v → l ≡ span k v) where
  whole : (t : Term) → Held ks vs p t → (l ≡ length (items t)) × Held ks vs from t
  whole t h =
      let h' : Held ks vs from t = rw ep h in
      let s = ap₂ span ek ev ∙ span_held ks vs from t h' in
      (omega (arith, el (omega (arith, items_some t)), s), h')

  pub kinds_tell : (e : ℕ) → e ≡ from + l → (r : Bool) → r ≡ list_any (λ k. nat_eq k 20) (take (e - from) (drop from ks)) → e ≤ length ks
      → (t : Term) → Held ks vs p t → r ≡ contains_projection t
  kinds_tell e z r y f t h =
      let w = whole t h in
      let n : e - from ≡ length (items t) = omega (arith, w.0) in
      y ∙ any_kind ks vs from (e - from) (omega arith) ∙ ap (λ (c : ℕ). has_kind 20 (toks ks vs from c)) n ∙ ap (has_kind 20) w.1.tokens ∙ sym (has_term t)

  pub kinds_out : length ks < from + l → (t : Term) → Held ks vs p t → ⊥
  kinds_out o t h = let w = whole t h in omega (arith, w.0, w.1.within)

-- ---- the answer

-- the number by the definition, from the children and the bytes, and back
module _ (most len at : ℕ) (o : Out) where
  pub number_refused : most < o.count → 9 ≡ number_for most len at o
  number_refused h = rw (lt-ltb most o.count h)

  pub number_long : o.count ≤ most → len < at + length (bytes o.term) → 11 ≡ number_for most len at o
  number_long h k = rw (le-ltb most o.count h, lt-ltb len (at + length (bytes o.term)) k)

  pub number_done : o.count ≤ most → at + length (bytes o.term) ≤ len → 0 ≡ number_for most len at o
  number_done h k = rw (le-ltb most o.count h, le-ltb len (at + length (bytes o.term)) k)

  pub refused_number : 9 ≡ number_for most len at o → most < o.count
  refused_number e = go (ltb most o.count) refl (ltb len (at + length (bytes o.term))) e
    where
      go : (b : Bool) → ltb most o.count ≡ b → (c : Bool) → 9 ≡ pick {A = ℕ} b 9 (pick {A = ℕ} c 11 0) → most < o.count
      go true h c f = ltb-true most o.count h
      go false h true f = absurd (eqb-false 9 11 refl f)
      go false h false f = absurd (eqb-false 9 0 refl f)

  pub few_number : (9 ≡ number_for most len at o → ⊥) → o.count ≤ most
  few_number n = go (ltb most o.count) refl
    where
      go : (b : Bool) → ltb most o.count ≡ b → o.count ≤ most
      go true h = absurd (n (number_refused (ltb-true most o.count h)))
      go false h = ltb-false most o.count h

  pub long_number : 11 ≡ number_for most len at o → len < at + length (bytes o.term)
  long_number e = go (ltb most o.count) (ltb len (at + length (bytes o.term))) refl e
    where
      go : (b c : Bool) → ltb len (at + length (bytes o.term)) ≡ c → 11 ≡ pick {A = ℕ} b 9 (pick {A = ℕ} c 11 0) → len < at + length (bytes o.term)
      go true c h f = absurd (eqb-false 11 9 refl f)
      go false true h f = ltb-true len (at + length (bytes o.term)) h
      go false false h f = absurd (eqb-false 11 0 refl f)

  pub done_number : 0 ≡ number_for most len at o → at + length (bytes o.term) ≤ len
  done_number e = go (ltb most o.count) (ltb len (at + length (bytes o.term))) refl e
    where
      go : (b c : Bool) → ltb len (at + length (bytes o.term)) ≡ c → 0 ≡ pick {A = ℕ} b 9 (pick {A = ℕ} c 11 0) → at + length (bytes o.term) ≤ len
      go true c h f = absurd (eqb-false 0 9 refl f)
      go false true h f = absurd (eqb-false 0 11 refl f)
      go false false h f = ltb-false len (at + length (bytes o.term)) h

nothing_blank : (d : Area) → blank d 0 0 ≡ d
unfolding puts zeros
nothing_blank d = refl

module _ (levels visits : ℕ) (look : Parts → Option Term) (t : Term) where
  -- a term with no projection comes back unchanged
  pub normalise_plain : contains_projection t ≡ false → normalise levels visits look t ≡ record { term = t; visits = visits; count = 0 }
  normalise_plain e = rw e

  pub normalise_walked : contains_projection t ≡ true → normalise levels visits look t ≡ walk_by (replacement look) levels t visits 0
  normalise_walked e = rw e

areas_same : (hs cs js bs : List ℕ) → area hs cs ≡ area js bs → (hs ≡ js) × (cs ≡ bs)
areas_same hs cs js bs e = (ap (λ (d : Area). d.kinds) e, ap (λ (d : Area). d.vals) e)

-- a term that is not walked
module _ (ks vs : List ℕ) (g : rust.Option Origin) (s : Sight ks vs g) (hs cs : List ℕ) (p : ℕ) (out : List ℕ) (at levels most : ℕ) where
  pub plain_leaves : (r : rust.Option Ready) → Sized ks vs g p out at r → Leaves ks vs hs cs hs cs most (ok_or r TooLong)
  plain_leaves None z = record { same = λ n. (refl, refl); records = tt }
  plain_leaves (Some w) z = record {
    same = λ n. absurd (n refl);
    records = (omega (arith, z.2), ap (blank (area hs cs) 0) z.2 ∙ nothing_blank (area hs cs), rw z.3 s);
  }

  pub plain_answers : (t : Term) (o : Out) → Held ks vs p t → o.term ≡ t → o.count ≡ 0 → (r : rust.Option Ready) → Sized ks vs g p out at r
      → Answers ks vs hs cs out at levels most o (ok_or r TooLong)
  plain_answers t o h et ec None z = record { number = number_long most (length out) at o (omega arith) (rw et (z t h)); values = tt }
  plain_answers t o h et ec (Some w) z =
      let y = z.4 t h in
      let e = y.0 ∙ ap (λ (u : Term). length (bytes u)) (sym et) in
      record {
        number = number_done most (length out) at o (omega arith) (omega (arith, e, y.1));
        values = (
          e,
          record {
            marks = λ i. false;
            tree = rw (et, z.0, z.1, z.3) (held_tree (view ks vs g) hs cs (λ i. false) t p (view_held ks vs g s p t h));
            low = λ k. absurd (omega (arith, z.1));
          },
        );
      }

-- a term that is walked: w is what the walk gave
module _ (ks vs : List ℕ) (g : rust.Option Origin) (s : Sight ks vs g) (hs₀ cs₀ : List ℕ) (levels most : ℕ) (lookup : LookUp) (hs cs : List ℕ) (y : Content) (visits : ℕ) (w : Walked)
    (walks : Went ks vs lookup g hs₀ cs₀ hs cs y 0 levels visits most w) (fr : Frames hs₀ cs₀ hs cs 0 w.next) (zh : Zero hs₀ most) (zc : Zero cs₀ most) where
  back : blank (area hs cs) 0 w.next ≡ area hs₀ cs₀
  back = blank_back hs₀ cs₀ hs cs w.next most fr zh zc walks.within

  pub long_leaves : (hs' cs' : List ℕ) → area hs' cs' ≡ blank (area hs cs) 0 w.next → Leaves ks vs hs₀ cs₀ hs' cs' most (Err TooLong)
  long_leaves hs' cs' e = record { same = λ n. areas_same hs' cs' hs₀ cs₀ (e ∙ back); records = tt }

  pub walked_leaves : Leaves ks vs hs₀ cs₀ hs cs most (Ok (record { content = w.content; next = w.next; size = w.size; given = g }))
  walked_leaves = record { same = λ n. absurd (n refl); records = (walks.within, back, s) }

  module _ (p : ℕ) (yh : y.head ≡ p) (yk : y.kids ≡ 0) (t : Term) (look : Look) (o : Out) (h : Held ks vs p t) (k : Looks ks vs lookup look)
      (eo : o ≡ walk_by (replacement (look_by look)) levels t visits 0) (out : List ℕ) (at : ℕ) (le : at ≤ length out) where
    v : Visited (view ks vs g) hs cs (λ i. false) 0 w.content.head w.content.kids w.next w.visits w.size (walk_by (replacement (look_by look)) levels t visits 0)
    v =
        walks.done (λ i. false) t look (λ i e. never_true e)
        (rw (yh, yk) (held_tree (view ks vs g) hs₀ cs₀ (λ i. false) t p (view_held ks vs g s p t h))) k

    few : o.count ≤ most
    few = omega (arith, v.count, ap (λ (q : Out). q.count) eo, walks.within)

    sized : w.size ≡ length (bytes o.term)
    sized = v.size ∙ ap (λ (q : Out). length (bytes q.term)) (sym eo)

    pub long_answers : length out - at < w.size → (hs' cs' : List ℕ) → Answers ks vs hs' cs' out at levels most o (Err TooLong)
    long_answers z hs' cs' = record { number = number_long most (length out) at o few (omega (arith, z, sized)); values = tt }

    pub walked_answers : w.size ≤ length out - at
        → Answers ks vs hs cs out at levels most o (Ok (record { content = w.content; next = w.next; size = w.size; given = g }))
    walked_answers z = record {
      number = number_done most (length out) at o few (omega (arith, z, le, sized));
      values = (
        sized,
        record {
          marks = grow (λ i. false) 0 w.next;
          tree = rw eo v.tree;
          low = λ k. rw eo (omega (arith, walk_depth (replacement (look_by look)) levels t visits 0));
        },
      );
    }

-- the children were too many
module _ (ks vs hs₀ cs₀ hs cs : List ℕ) (most : ℕ) where
  pub over_leaves : (hs₁ cs₁ : List ℕ) → Frames hs₀ cs₀ hs₁ cs₁ 0 most → Zero hs₀ most → Zero cs₀ most → area hs cs ≡ blank (area hs₁ cs₁) 0 most → Leaves ks vs hs₀ cs₀ hs cs most (Err TooMany)
  over_leaves hs₁ cs₁ fr zh zc e = record {
    same = λ n. areas_same hs cs hs₀ cs₀ (e ∙ blank_back hs₀ cs₀ hs₁ cs₁ most most fr zh zc (omega arith));
    records = tt;
  }

  module _ (lookup : LookUp) (g : rust.Option Origin) (s : Sight ks vs g) (y : Content) (levels visits : ℕ) where
    pub over_answers : Overrun ks vs lookup g hs₀ cs₀ y 0 levels visits most → (p : ℕ) → y.head ≡ p → y.kids ≡ 0 → (t : Term) (look : Look) (o : Out) → Held ks vs p t → Looks ks vs lookup look
        → o ≡ walk_by (replacement (look_by look)) levels t visits 0 → (out : List ℕ) (at : ℕ) → Answers ks vs hs cs out at levels most o (Err TooMany)
    over_answers walks p yh yk t look o h k eo out at = record { number = number_refused most (length out) at o many; values = tt }
      where
        many : most < o.count
        many =
            rw eo (walks (λ i. false) t look (λ i e. never_true e)
            (rw (yh, yk) (held_tree (view ks vs g) hs₀ cs₀ (λ i. false) t p (view_held ks vs g s p t h))) k)

-- ---- what order 19 looks up by

pub given_sight : (ks vs : List ℕ) (g : Origin) → length vs ≡ length ks → length ks ≤ 32768 → g.span + g.row ≤ 65536 → Sight ks vs (Some g)
given_sight ks vs g e le s =
    let m = mul-le-mul {n₁ = length ks + 1} {m₁ = width g} {n₂ = 32769} {m₂ = 65539} (omega arith) (omega (arith, width_is g)) in
    record { pairs = e; few = omega arith }

-- the tokens of a term, as `span_at` tells
pub span_told : (ks vs : List ℕ) (p from l len r : ℕ) {k v : ℕ} → from ≡ p → k ≡ get_or ks from 0 → v ≡ get_or vs from 0 → (1 ≤ span k v → l ≡ span k v) → r ≡ min l len
    → (t : Term) → Held ks vs p t → length (items t) ≤ len → r ≡ length (items t)
span_told ks vs p from l len r {k = k} {v = v} ep ek ev el er t h le =
    let h' : Held ks vs from t = rw ep h in
    let s = ap₂ span ek ev ∙ span_held ks vs from t h' in
    omega (arith, el (omega (arith, items_some t)))

row_length : (k : ℕ) (i : Parts) → length (items (node k i)) ≡ suc (length (part_items i))
unfolding items
row_length k i = refl

pub given_held : (ks vs : List ℕ) (g : Origin) (whole : ℕ) → ((t : Term) → Held ks vs g.owner t → length (items t) ≤ length ks → g.span ≡ length (items t))
    → ((t : Term) → Held ks vs g.interface t → length (items t) ≤ length ks → whole ≡ length (items t)) → g.row ≡ whole - 1
    → (i : Parts) (o : Term) → Held ks vs g.owner o → Held ks vs g.interface (node 20 i) → HeldGiven ks vs g i o
given_held ks vs g whole fo fi er i o ho hi = record {
  owner_held = ho;
  interface_held = hi;
  span_is = fo o ho (omega (arith, ho.within));
  row_is = omega (arith, fi (node 20 i) hi (omega (arith, hi.within)), row_length 20 i);
}
