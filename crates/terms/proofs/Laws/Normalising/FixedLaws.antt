-- A term with no projection comes through the walk of `normalize` as it was, at the cost of a visit for each of its nodes.
use mathlib.Core.Path.{◌≡◌, refl, sym, ap, ap₂, ◌∙◌}
use mathlib.Core.Bool.{Bool, true, false, ◌||◌}
use Rattle.std.specs.declared.option.Option as rust
use Rattle.std.specs.Prelude.{Some, None, filter, take, drop}
use Rattle.std.proofs.lemmas.List.{drop_more}
use mathlib.Core.List.{List, [], ◌∷◌, ◌++◌}
use mathlib.Core.Option.{Option, none}
use Prim.Native.Nat.{ℕ, zero, suc, min, ◌+◌, ◌-◌, ◌≤◌, ◌<◌}
use native.Mathlib.Omega.{arith}
use native.Mathlib.Decide.{dec_lt, ℕ_discrete}
use borrow.Author.Tests.{ne_eqb, eq-eqb}
use lib.Dec.{eqb}
use lib.ListN.{length, get_or, set}
use lib.Seq.{set-get_or}
use Rattle.terms.specs.declared.Origin.{Origin}
use Rattle.terms.specs.declared.Content.{Content}
use Rattle.terms.specs.declared.LookUp.{LookUp}
use Rattle.terms.specs.declared.Walked.{Walked}
use Rattle.terms.specs.Words.Tokens.{Item, item, spell, toks}
use Rattle.terms.specs.Term.{Term, Parts, var, node, end, num, sub, items, part_items, bytes, size, sizes, Held}
use Rattle.terms.specs.Words.Held.{span}
use Rattle.terms.specs.Tree.{error, nums, subs, fill, children, with_kids, row, tag, class, slot}
use Rattle.terms.specs.Questions.{meets, meets_row, counted, counted_by, entered, entered_by, contains_projection}
use Rattle.terms.specs.Words.VirtualTokens.{view, Sight}
use Rattle.terms.specs.Lookup.{Look, look_by}
use Rattle.terms.specs.Words.Arena.{Tree, grow, Frames}
use Rattle.terms.specs.Words.WalkingContract.{first_of_node, Fixed, Went, Walks, used}
use Rattle.terms.specs.Normal.{Out, Row, visit_kids, rebuilt, replacement, walk_by}
use Rattle.terms.proofs.Laws.General.Bools.{never_true, never_false}
use Rattle.terms.proofs.Laws.Held.HeldLaws.{items_some}
use Rattle.terms.proofs.Laws.Held.SameLaws.{span_held}
use Rattle.terms.proofs.Laws.Normalising.SourceLaws.{tree_held}
use Rattle.terms.proofs.Laws.Normalising.ArenaLaws.{wider, tree_kept, grow_old}
use Rattle.terms.proofs.Laws.Normalising.OpenLaws.{frames_same}
use Rattle.terms.proofs.Laws.Normalising.WalkLaws.{finds}
use Rattle.terms.proofs.Laws.Normalising.SumLaws.{total, total_split, plainly}
use Rattle.terms.proofs.Laws.Normalising.SlotLaws.{class_plain, class_nominal, nominal_member, nominal_argument, slot_zero, slot_one}

-- ---- the sizes of some terms of a list

-- of r terms from b on
abbrev weigh : List Term → ℕ → ℕ → ℕ
weigh ts b r = total (λ i. size (get_or ts i error)) plainly b r

size-some : (t : Term) → 1 ≤ size t
unfolding size
size-some (var v) = omega arith
size-some (node k ps) = omega arith

weigh_some : (ts : List Term) (b r : ℕ) → r ≤ weigh ts b r
unfolding total
weigh_some ts b zero = omega arith
weigh_some ts b (suc r) = omega (arith, size-some (get_or ts b error), weigh_some ts (suc b) r)

weigh_one : (ts : List Term) (r b i : ℕ) → b ≤ i → i < b + r → size (get_or ts i error) ≤ weigh ts b r
unfolding total
weigh_one ts zero b i lo hi = absurd (omega arith)
weigh_one ts (suc r) b i lo hi = go (ℕ_discrete i b) (λ e. weigh_one ts r (suc b) i (omega arith) (omega arith))
  where
    go : Dec (i ≡ b) → ((i ≡ b → ⊥) → size (get_or ts i error) ≤ weigh ts (suc b) r) → size (get_or ts i error) ≤ weigh ts b (suc r)
    go (yes e) f = rw e (omega arith)
    go (no e) f = omega (arith, f e)

weigh_tail : (t : Term) (ts : List Term) (b r : ℕ) → weigh (t ∷ ts) (suc b) r ≡ weigh ts b r
unfolding total
weigh_tail t ts b zero = refl
weigh_tail t ts b (suc r) = ap (λ (n : ℕ). size (get_or ts b error) + n) (weigh_tail t ts (suc b) r)

weigh_all : (ps : Parts) → sizes ps ≡ weigh (subs ps) 0 (length (subs ps))
unfolding total sizes subs
weigh_all end = refl
weigh_all (num n ps) = weigh_all ps
weigh_all (sub t ps) = ap (λ (n : ℕ). size t + n) (weigh_all ps ∙ sym (weigh_tail t (subs ps) 0 (length (subs ps))))

-- a node's size
size_children : (t : Term) → size t ≡ 1 + weigh (children t) 0 (length (children t))
unfolding size children total
size_children (var v) = refl
size_children (node k ps) = ap (λ (n : ℕ). 1 + n) (weigh_all ps)

-- ---- the children, visited by an f that leaves them as they are

visit_split : (f : Term → ℕ → ℕ → Out) (at : ℕ → ℕ) (n r q j : ℕ) (s : Row) → n ≡ r + q → visit_kids f at n j s ≡ visit_kids f at q (j + r) (visit_kids f at r j s)
unfolding visit_kids
visit_split f at n zero q j s e =
    let x : n ≡ q = omega arith in
    let y : j + 0 ≡ j = omega arith in
    rw (x, y)
visit_split f at zero (suc r) q j s e = absurd (omega arith)
visit_split f at (suc n) (suc r) q j s e =
    let w = f (get_or s.terms (at j) error) s.visits s.count in
    let s' : Row = record { terms = set s.terms (at j) w.term; visits = w.visits; count = w.count } in
    let x : suc j + r ≡ j + suc r = omega arith in
    visit_split f at n r q (suc j) s' (omega arith) ∙ ap (λ (i : ℕ). visit_kids f at q i (visit_kids f at r (suc j) s')) x

-- what a visit of a term that stays gives
abbrev pub stays : Term → ℕ → ℕ → Out
stays t v c = record { term = t; visits = v - size t; count = c + (size t - 1) }

module _ (f : Term → ℕ → ℕ → Out) (at : ℕ → ℕ) (ts : List Term) where
  -- f leaves the terms from b up to e as they are
  abbrev Leaves : ℕ → ℕ → Type 0
  Leaves b e = (i v c : ℕ) → b ≤ i → i < e → size (get_or ts i error) ≤ v → f (get_or ts i error) v c ≡ stays (get_or ts i error) v c

  -- r terms from b on, which come j-th, (j + 1)-th, ..
  visit_block : (r j b v c : ℕ) → ((i : ℕ) → i < r → at (j + i) ≡ b + i) → Leaves b (b + r) → weigh ts b r ≤ v
      → visit_kids f at r j (record { terms = ts; visits = v; count = c }) ≡ record { terms = ts; visits = v - weigh ts b r; count = c + (weigh ts b r - r) }
  unfolding visit_kids total
  visit_block zero j b v c a l h =
      let x : v - 0 ≡ v = omega arith in
      let y : c + (0 - 0) ≡ c = omega arith in
      rw (x, y)
  visit_block (suc r) j b v c a l h =
      let z : j + 0 ≡ j = omega arith in
      let z' : b + 0 ≡ b = omega arith in
      let p : at j ≡ b = ap at (sym z) ∙ a 0 (omega arith) ∙ z' in
      let t = get_or ts b error in
      let s = size-some t in
      let w = weigh_some ts (suc b) r in
      let one : f t v c ≡ stays t v c = l b v c (omega arith) (omega arith) (omega arith) in
      let x : v - size t - weigh ts (suc b) r ≡ v - (size t + weigh ts (suc b) r) = omega arith in
      let y : c + (size t - 1) + (weigh ts (suc b) r - r) ≡ c + (size t + weigh ts (suc b) r - suc r) = omega arith in
      rw (p, one, set-get_or ts b error) (
      visit_block r (suc j) (suc b) (v - size t) (c + (size t - 1)) (λ i lt. next i (a (suc i) (omega arith)))
      (λ i v' c' lo hi. l i v' c' (omega arith) (omega arith)) (omega arith)
      ∙ rw (x, y)
      )
    where
      next : (i : ℕ) → at (j + suc i) ≡ b + suc i → at (suc j + i) ≡ suc b + i
      next i e =
          let x : suc j + i ≡ j + suc i = omega arith in
          rw x (omega (arith, e))

-- ---- the children of a term that is no projection

-- two blocks of r and a terms, which weigh x and y
both_count : (c x y r a n w : ℕ) → r ≤ x → a ≤ y → w ≡ y + x → n ≡ r + a → c + (x - r) + (y - a) ≡ c + (w - n)
both_count c x y r a n w h h' e q = omega arith

both_visits : (v x y w : ℕ) → w ≡ y + x → v - x - y ≡ v - w
both_visits v x y w e = omega arith

module _ (f : Term → ℕ → ℕ → Out) (t : Term) (v c : ℕ) (l : Leaves f (slot t) (children t) 0 (length (children t)))
    (h : weigh (children t) 0 (length (children t)) ≤ v) where
  abbrev n : ℕ
  n = length (children t)

  abbrev all : ℕ
  all = weigh (children t) 0 n

  -- all of them visited
  abbrev Visits : Type 0
  Visits =
      visit_kids f (slot t) n 0 (record { terms = children t; visits = v; count = c })
      ≡ record { terms = children t; visits = v - all; count = c + (all - n) }

  -- in byte order
  visits_plain : class (tag t) ≡ 0 → Visits
  visits_plain e =
      visit_block f (slot t) (children t) n 0 0 v c (λ i lt. sym (slot_zero _ _ n (0 + i) 0 (class (tag t)) e)) (λ i v' c' lo hi. l i v' c' lo (omega arith)) h

  -- first those from a on, r of them, and then the others
  visits_turned : (a r : ℕ) → n ≡ r + a → ((i : ℕ) → i < r → slot t (0 + i) ≡ a + i) → ((i : ℕ) → i < a → slot t (0 + r + i) ≡ 0 + i) → Visits
  visits_turned a r m f₁ f₂ =
      let ts = children t in
      let x : 0 + a ≡ a = omega arith in
      let w = total_split (λ i. size (get_or ts i error)) plainly n a r 0 (omega arith) ∙ ap (λ (i : ℕ). weigh ts 0 a + weigh ts i r) x in
      let p = both_visits v (weigh ts a r) (weigh ts 0 a) (weigh ts 0 n) w in
      let q = both_count c (weigh ts a r) (weigh ts 0 a) r a n (weigh ts 0 n) (weigh_some ts a r) (weigh_some ts 0 a) w m in
      visit_split f (slot t) n r a 0 _ m
      ∙ ap (visit_kids f (slot t) a (0 + r)) (visit_block f (slot t) ts r 0 a v c f₁ (λ i v' c' lo hi. l i v' c' (omega arith) (omega arith)) (omega arith))
      ∙ visit_block f (slot t) ts a (0 + r) 0 (v - weigh ts a r) (c + (weigh ts a r - r)) f₂ (λ i v' c' lo hi. l i v' c' (omega arith) (omega arith)) (omega arith)
      ∙ rw (p, q)

  -- a nominal's: members, then arguments
  visits_nominal : class (tag t) ≡ 1 → Visits
  visits_nominal e = turned (min (get_or (nums (row t)) 1 0) n) refl (omega arith)
    where
      turned : (a : ℕ) → a ≡ min (get_or (nums (row t)) 1 0) n → a ≤ n → Visits
      turned a ea le = visits_turned a (n - a) (omega arith)
          (λ i lt. sym (slot_one _ (get_or (nums (row t)) 2 0) n (0 + i) (a + i) (class (tag t)) e (rw (← ea) (nominal_member a 0 n (0 + i) (a + i) (omega arith) (omega arith)))))
          (λ i lt. sym (slot_one _ (get_or (nums (row t)) 2 0) n (0 + (n - a) + i) (0 + i) (class (tag t)) e (rw (← ea) (nominal_argument a 0 n (0 + (n - a) + i) (0 + i) (omega arith) (omega arith)))))

  visits_kids : (tag t ≡ 18 → ⊥) → Visits
  visits_kids e = low (dec_lt (tag t) 12)
    where
      high : 12 ≤ tag t → Dec (15 < tag t) → Visits
      high lo (yes h') = visits_plain (sym (class_plain (tag t) e (λ l. h')))
      high lo (no h') = visits_nominal (sym (class_nominal (tag t) e lo (omega arith)))

      low : Dec (tag t < 12) → Visits
      low (yes h') = visits_plain (sym (class_plain (tag t) e (λ l. omega (arith, h'))))
      low (no h') = high (omega arith) (dec_lt 15 (tag t))

-- ---- a term with no projection

fill_subs : (ps : Parts) → fill ps (subs ps) ≡ ps
unfolding fill subs
fill_subs end = refl
fill_subs (num n ps) = ap (num n) (fill_subs ps)
fill_subs (sub t ps) = ap (sub t) (fill_subs ps)

with_children : (t : Term) → with_kids t (children t) ≡ t
unfolding with_kids children
with_children (var v) = refl
with_children (node k ps) = ap (node k) (fill_subs ps)

left_false : (a b : Bool) → (a || b) ≡ false → a ≡ false
left_false true b e = e
left_false false b e = refl

right_false : (a b : Bool) → (a || b) ≡ false → b ≡ false
right_false true b e = absurd (never_true (sym e))
right_false false b e = e

tag_plain : (t : Term) → contains_projection t ≡ false → tag t ≡ 18 → ⊥
unfolding meets counted_by entered_by tag
tag_plain (var v) e q = omega arith
tag_plain (node k ps) e q = never_false (sym (eq-eqb k 18 q) ∙ left_false (eqb k 18) _ e)

row_plain : (ps : Parts) → meets_row (counted [] 6) (entered 6) ps ≡ false → (i : ℕ) → i < length (subs ps) → contains_projection (get_or (subs ps) i error) ≡ false
unfolding meets subs
row_plain end e i h = absurd (omega arith)
row_plain (num n ps) e i h = row_plain ps e i h
row_plain (sub t ps) e zero h = left_false _ _ e
row_plain (sub t ps) e (suc i) h = row_plain ps (right_false (contains_projection t) _ e) i (omega arith)

kids_plain : (t : Term) → contains_projection t ≡ false → (i : ℕ) → i < length (children t) → contains_projection (get_or (children t) i error) ≡ false
unfolding meets counted_by entered_by tag children
kids_plain (var v) e i h = absurd (omega arith)
kids_plain (node k ps) e i h = row_plain ps (right_false (eqb k 18) _ e) i h

not_replaced : (look : Parts → Option Term) (t : Term) → (tag t ≡ 18 → ⊥) → replacement look t ≡ none
unfolding replacement
not_replaced look t e = rw (ne_eqb (tag t) 18 e)

pub fixed_walk : (look : Parts → Option Term) (l : ℕ) (t : Term) (v c : ℕ) → contains_projection t ≡ false → size t ≤ l → size t ≤ v
    → walk_by (replacement look) l t v c ≡ stays t v c
unfolding walk_by
fixed_walk look zero t v c p hl hv = absurd (omega (arith, size-some t))
fixed_walk look (suc l) t zero c p hl hv = absurd (omega (arith, size-some t))
fixed_walk look (suc l) t (suc v) c p hl hv =
    let f = walk_by (replacement look) l in
    let ts = children t in
    let z = size_children t in
    let e = tag_plain t p in
    let s = weigh_some ts 0 (length ts) in
    let kids = visits_kids f t v (c + length ts)
    (λ i v' c' lo hi le. fixed_walk look l (get_or ts i error) v' c' (kids_plain t p i hi) (omega (arith, weigh_one ts (length ts) 0 i lo (omega arith))) le)
    (omega arith) e in
    let x : v - weigh ts 0 (length ts) ≡ suc v - size t = omega arith in
    let y : c + length ts + (weigh ts 0 (length ts) - length ts) ≡ c + (size t - 1) = omega arith in
    ap (rebuilt (replacement look) f t) kids ∙ rw (with_children t, not_replaced look t e, x, y)

-- ---- the nodes of a term, counted by its tokens

-- of a kind
unfoldable pub node_first : ℕ → ℕ
node_first zero = 0
node_first (suc k) = 1

unfoldable pub nodes : List Item → ℕ
nodes [] = 0
nodes (item k v ∷ l) = node_first k + nodes l

nodes_append : (l m : List Item) → nodes (l ++ m) ≡ nodes l + nodes m
unfolding nodes
nodes_append [] m = omega arith
nodes_append (item k v ∷ l) m = omega (arith, nodes_append l m)

mutual
  unfolding nodes node_first items size

  size_nodes : (t : Term) → size t ≡ nodes (items t)
  size_nodes (var v) = refl
  size_nodes (node k ps) = ap (λ (n : ℕ). 1 + n) (sizes_nodes ps)

  sizes_nodes : (ps : Parts) → sizes ps ≡ nodes (part_items ps)
  sizes_nodes end = refl
  sizes_nodes (num n ps) = sizes_nodes ps ∙ omega arith
  sizes_nodes (sub t ps) = omega (arith, size_nodes t, sizes_nodes ps, nodes_append (items t) (part_items ps))

first_kept : (k : ℕ) (l : List ℕ) → length (filter first_of_node (k ∷ l)) ≡ node_first k + length (filter first_of_node l)
unfolding node_first
first_kept zero l = omega arith
first_kept (suc k) l = rw (ne_eqb (suc k) 0 (λ e. omega arith)) (omega arith)

-- the kinds tell
node_kinds : (ks vs : List ℕ) (q n : ℕ) → q + n ≤ length ks → length (filter first_of_node (take n (drop q ks))) ≡ nodes (toks ks vs q n)
unfolding nodes spell
node_kinds ks vs q zero h = refl
node_kinds ks vs q (suc n) h =
    let r = node_kinds ks vs (suc q) n (omega arith) in
    let m : q + 1 ≡ suc q = omega arith in
    rw (drop_more ks q 0 (omega arith), m) (first_kept (get_or ks q 0) (take n (drop (suc q) ks)) ∙ ap (λ (c : ℕ). node_first (get_or ks q 0) + c) r)

pub nodes_few : (n : ℕ) (l : List ℕ) → length (filter first_of_node (take n l)) ≤ n
unfolding node_first
nodes_few zero l = omega arith
nodes_few (suc n) [] = omega arith
nodes_few (suc n) (zero ∷ l) = omega (arith, first_kept zero (take n l), nodes_few n l)
nodes_few (suc n) (suc k ∷ l) = omega (arith, first_kept (suc k) (take n l), nodes_few n l)

pub nodes_tell : (ks vs : List ℕ) (p from l : ℕ) {k v : ℕ} → from ≡ p → k ≡ get_or ks from 0 → v ≡ get_or vs from 0 → (1 ≤ span k v → l ≡ span k v)
    → (e : ℕ) → e ≡ from + l → (n : ℕ) → n ≡ length (filter first_of_node (take (e - from) (drop from ks))) → e ≤ length ks
    → (t : Term) → Held ks vs p t → n ≡ size t
nodes_tell ks vs p from l ep ek ev el e z n y f t h =
    let h' : Held ks vs from t = rw ep h in
    let s = ap₂ span ek ev ∙ span_held ks vs from t h' in
    let c : e - from ≡ length (items t) = omega (arith, el (omega (arith, items_some t)), s) in
    y ∙ node_kinds ks vs from (e - from) (omega arith) ∙ ap (λ (m : ℕ). nodes (toks ks vs from m)) c ∙ ap nodes h'.tokens ∙ sym (size_nodes t)

-- a term whose tokens are lent
pub lent_span : (ks vs : List ℕ) (h from l : ℕ) {k v : ℕ} → from ≡ h → k ≡ get_or ks from 0 → v ≡ get_or vs from 0 → (1 ≤ span k v → l ≡ span k v) → from + l ≤ length ks
    → h + span (get_or ks h 0) (get_or vs h 0) ≤ length ks
lent_span ks vs h from l {k = k} {v = v} ep ek ev el le = rw (← ep, ← ek, ← ev) (go (dec_lt 0 (span k v)))
  where
    go : Dec (0 < span k v) → from + span k v ≤ length ks
    go (yes s) = omega (arith, el (omega arith))
    go (no s) = omega arith

-- ---- the visit of a content that stays

module _ (ks vs : List ℕ) (lookup : LookUp) (g : rust.Option Origin) (s : Sight ks vs g) (hs cs : List ℕ) (x : Content) (next levels visits most r m : ℕ)
    (f : Fixed ks vs x r) (len : (t : Term) → Held ks vs x.head t → m ≡ length (bytes t)) (hm : m < 68719476736) (some : 0 < r) (hl : r ≤ levels) (hv : r ≤ visits) where
  walked : (S : ℕ → Bool) (t : Term) (look : Look) → Tree (view ks vs g) hs cs S x.head x.kids t
      → (walk_by (finds look) levels t visits next ≡ stays t visits next) × (r ≡ size t) × (m ≡ length (bytes t))
  walked S t look tr =
      let z : Tree (view ks vs g) hs cs S x.head 0 t = rw f.source at tr in
      let h = tree_held ks vs g s hs cs S x.head t f.lent z in
      let y = f.is t h in
      (fixed_walk (look_by look) levels t visits next y.0 (omega (arith, y.1)) (omega (arith, y.1)), y.1, len t h)

  walks_fixed : next + (r - 1) ≤ most → (w : Walked) → w ≡ record { content = x; next = next + (r - 1); visits = visits - r; size = m }
      → Went ks vs lookup g hs cs hs cs x next levels visits most w
  walks_fixed le w e = rw e (record {
    later = omega arith;
    within = le;
    fewer = omega arith;
    bounded = omega arith;
    done = λ S t look b tr z.
        let y = walked S t look tr in
        rw y.0 (record {
          tree = tree_kept (view ks vs g) hs cs S hs cs (grow S next (next + (r - 1))) (wider hs cs S (grow S next (next + (r - 1))) (λ k m. grow_old S next (next + (r - 1)) k m)) tr;
          visits = ap (λ (n : ℕ). visits - n) y.1;
          count = ap (λ (n : ℕ). next + (n - 1)) y.1;
          size = y.2;
        });
  })

  -- either way, and the records stay
  pub fixed_kept : (w : rust.Option Walked)
      → (next + (r - 1) ≤ most → w ≡ Some (record { content = x; next = next + (r - 1); visits = visits - r; size = m }))
      → (most < next + (r - 1) → w ≡ None)
      → Walks ks vs lookup g hs cs hs cs x next levels visits most w × Frames hs cs hs cs next (used most w)
  fixed_kept w fits stops = (go w fits stops (dec_lt most (next + (r - 1))), frames_same hs cs next (used most w))
    where
      go : (w : rust.Option Walked) → (next + (r - 1) ≤ most → w ≡ Some (record { content = x; next = next + (r - 1); visits = visits - r; size = m }))
          → (most < next + (r - 1) → w ≡ None) → Dec (most < next + (r - 1)) → Walks ks vs lookup g hs cs hs cs x next levels visits most w
      go w fits stops (yes m') = rw (stops m') (λ S t look b tr z. let y = walked S t look tr in rw y.0 (omega (arith, m', y.1)))
      go w fits stops (no m') = rw (fits (omega arith)) (walks_fixed (omega arith) _ refl)
