-- A visit in the arena: the children one after the other, and then the node as it is, replaced, or Error.
use mathlib.Core.Path.{◌≡◌, refl, sym, ap, ◌∙◌}
use mathlib.Core.Bool.{Bool, true}
use mathlib.Core.List.{List}
use mathlib.Core.Logic.{⊎_elim}
use mathlib.Core.Option.{Option, none, some}
use Rattle.std.specs.declared.option.Option as rust
use Rattle.std.specs.Prelude.{Some, None}
use Prim.Native.Nat.{ℕ, suc, ◌+◌, ◌-◌, ◌*◌, ◌≤◌, ◌<◌}
use native.Mathlib.Omega.{arith}
use native.Mathlib.Decide.{ℕ_discrete}
use lib.ListN.{length, get_or, set, length-set}
use lib.Seq.{get_or-set_same, get_or-set_other}
use Rattle.terms.specs.declared.Origin.{Origin}
use Rattle.terms.specs.declared.Content.{Content}
use Rattle.terms.specs.declared.Walked.{Walked}
use Rattle.terms.specs.Words.Tokens.{Area}
use Rattle.terms.specs.Term.{Term, depth, bytes}
use Rattle.terms.specs.Tree.{error, nums, row, tag, children, with_kids, class, slot_by, slot, same}
use Rattle.terms.specs.Words.VirtualTokens.{view, Sight}
use Rattle.terms.specs.Normal.{Out, Row, failed, visit_kids, follow, settle, rebuilt, replacement, walk_by}
use Rattle.terms.specs.declared.LookUp.{LookUp}
use Rattle.terms.specs.Lookup.{Look, look_by, Looks}
use Rattle.terms.specs.Words.Arena.{Tree, OwnAt, Below, grow, Frames, Opened, Ordered}
use Rattle.terms.specs.Words.WalkingContract.{Visited, Overrun, Went, Walks, used}
use Rattle.terms.proofs.Laws.Held.SameLaws.{same_refl, not_same}
use Rattle.terms.proofs.Laws.Normalising.VirtualTokenLaws.{view_error}
use Rattle.terms.proofs.Laws.Normalising.ArenaLaws.{Keeps, wider, tree_kept, held_tree, tree_anew, grow_old, grow_new, grow_case, grow_below}
use Rattle.terms.proofs.Laws.Normalising.OpenLaws.{frames_same, frames_set, frames_then}
use Rattle.terms.proofs.Laws.Normalising.DepthLaws.{node_depth, walk_depth}
use Rattle.terms.proofs.Laws.Normalising.SumLaws.{slot_once, total, total_none, total_same, total_last, slots_total, length_at, with_bytes, error_bytes}
use Rattle.terms.proofs.Laws.Normalising.VisitLaws.{first, walk_some, visit_count, walk_count, visit_step, visit_none, over_visit}

-- ---- the children of a node, visited by f

module _ (a : Area) (f : Term → ℕ → ℕ → Out) (S : ℕ → Bool) (next n : ℕ) (t : Term) (s₀ : Row) where
  -- j children have been visited; the arena is filled up to at
  pub record VisitAt (hs cs : List ℕ) (j at left base size : ℕ) : Type 0 where
    pub terms : List Term
    pub long : length terms ≡ n
    pub each : (i : ℕ) → i < n → Tree a hs cs (grow S (next + n) at) (get_or hs (next + i) 0) (get_or cs (next + i) 0) (get_or terms i error)
    pub same : visit_kids f (slot t) n 0 s₀ ≡ visit_kids f (slot t) (n - j) j (record { terms = terms; visits = left; count = at })
    -- the bytes of those that have been visited, and base more
    pub sized : size ≡ base + total (length_at terms) (slot t) 0 j

  pub visit_start : (hs cs : List ℕ) (left base : ℕ) → Opened a hs cs S next n t → s₀ ≡ record { terms = children t; visits = left; count = next + n }
      → VisitAt hs cs 0 (next + n) left base base
  visit_start hs cs left base o e = record {
    terms = children t;
    long = sym o.count;
    each = λ i lt. tree_kept a hs cs S hs cs (grow S (next + n) (next + n)) (wider hs cs S (grow S (next + n) (next + n)) (λ k m. grow_old S (next + n) (next + n) k m)) (o.each i lt);
    same = rw (← e) (ap (λ (r : ℕ). visit_kids f (slot t) r 0 s₀) (omega arith));
    sized = omega (arith, total_none (length_at (children t)) (slot t) 0);
  }

  -- where the visit of a child is too much, all is
  pub visit_over : (hs cs : List ℕ) (j at left base size i : ℕ) (w : VisitAt hs cs j at left base size) → j < n → i ≡ slot t j → ((u : Term) (v c : ℕ) → c ≤ (f u v c).count) → (most : ℕ)
      → most < (f (get_or w.terms i error) left at).count → most < (visit_kids f (slot t) n 0 s₀).count
  visit_over hs cs j at left base size i w lt islot g most m =
      let z = w.same ∙ visit_step f (slot t) (n - j) j _ (omega arith) in
      rw (z, ← islot) (omega (
        arith,
        visit_count (λ u. none) f g (slot t) (n - j - 1) (j + 1) (record {
          terms = set w.terms i (f (get_or w.terms i error) left at).term;
          visits = (f (get_or w.terms i error) left at).visits;
          count = (f (get_or w.terms i error) left at).count;
        }),
      ))

  module _ (hs cs hs' cs' : List ℕ) (j at left base size i h' c' at' left' more : ℕ) (b : Below S next) (w : VisitAt hs cs j at left base size) (lt : j < n) (en : n ≡ length (children t)) (islot : i ≡ slot t j)
      (in_row : i < n) (low : next + n ≤ at) (fr : Frames hs cs hs' cs' at at') (lh : next + i < length hs) (lc : next + i < length cs) (le : at ≤ at')
    where
      -- records of S and of the visits so far are not those of this node's children
      apart : (k : ℕ) → grow S (next + n) at k ≡ true → (k < at) × (k ≡ next + i → ⊥)
      apart k m = ⊎_elim (λ x. let q = b k x in (omega arith, λ z. omega arith)) (λ y. (y.1, λ z. omega (arith, y.0))) (grow_case S (next + n) at k m)

      apart' : (k : ℕ) → grow (grow S (next + n) at) at at' k ≡ true → k ≡ next + i → ⊥
      apart' k m = ⊎_elim (λ x. (apart k x).1) (λ y z. omega (arith, y.0)) (grow_case (grow S (next + n) at) at at' k m)

      further : (k : ℕ) → grow (grow S (next + n) at) at at' k ≡ true → grow S (next + n) at' k ≡ true
      further k m =
          ⊎_elim (λ x. ⊎_elim (λ y. grow_old S (next + n) at' k y) (λ y. grow_new S (next + n) at' k y.0 (omega (arith, y.1))) (grow_case S (next + n) at k x))
          (λ y. grow_new S (next + n) at' k (omega (arith, y.0)) y.1) (grow_case (grow S (next + n) at) at at' k m)

      abbrev stored : List ℕ
      stored = set hs' (next + i) h'

      abbrev stored' : List ℕ
      stored' = set cs' (next + i) c'

      -- a tree that the visit found in place is in place after the store of its result
      keeps_old : Keeps hs cs (grow S (next + n) at) stored stored' (grow S (next + n) at')
      keeps_old = record {
        marks = λ k m. further k (grow_old (grow S (next + n) at) at at' k m);
        heads = λ k m. let q = apart k m in get_or-set_other hs' (next + i) k h' 0 q.1 ∙ fr.heads.below k q.0;
        kids = λ k m. let q = apart k m in get_or-set_other cs' (next + i) k c' 0 q.1 ∙ fr.kids.below k q.0;
      }

      -- and so is the result
      keeps_new : Keeps hs' cs' (grow (grow S (next + n) at) at at') stored stored' (grow S (next + n) at')
      keeps_new = record {
        marks = further;
        heads = λ k m. get_or-set_other hs' (next + i) k h' 0 (apart' k m);
        kids = λ k m. get_or-set_other cs' (next + i) k c' 0 (apart' k m);
      }

      -- the bytes of the child are added
      longer : (u : Term) → more ≡ length (bytes u) → size + more ≡ base + total (length_at (set w.terms i u)) (slot t) 0 (j + 1)
      longer u e =
          let one : length_at (set w.terms i u) (slot t j) ≡ length (bytes u)
          = ap (λ (k : ℕ). length_at (set w.terms i u) k) (sym islot) ∙ ap (λ (y : Term). length (bytes y)) (get_or-set_same w.terms i u error (omega (arith, w.long))) in
          let others = total_same (length_at (set w.terms i u)) (length_at w.terms) (slot t) (slot t) j 0 0 (λ k lk. ap (λ (y : Term). length (bytes y))
          (get_or-set_other w.terms i (slot t (0 + k)) u error (λ z. once k lk z))) in
          omega (arith, w.sized, total_last (length_at (set w.terms i u)) (slot t) j, one, others, e)
        where
          once : (k : ℕ) → k < j → slot t (0 + k) ≡ i → ⊥
          once k lk z =
              let q = slot_once (class (tag t)) (get_or (nums (row t)) 1 0) (get_or (nums (row t)) 2 0) (length (children t)) (0 + k) j (omega arith) (omega arith) (z ∙ islot) in
              omega arith

      pub visit_next : Visited a hs' cs' (grow S (next + n) at) at h' c' at' left' more (f (get_or w.terms i error) left at) → VisitAt stored stored' (j + 1) at' left' base (size + more)
      visit_next v = record {
        terms = set w.terms i (f (get_or w.terms i error) left at).term;
        long = length-set w.terms i _ ∙ w.long;
        each = λ k l. at_place k l (ℕ_discrete k i);
        same = w.same ∙ visit_step f (slot t) (n - j) j _ (omega arith)
            ∙ rw (← islot, ← v.visits, ← v.count) (ap (λ (r : ℕ). visit_kids f (slot t) r (j + 1) (record { terms = set w.terms i (f (get_or w.terms i error) left at).term; visits = left'; count = at' })) (omega arith));
        sized = longer (f (get_or w.terms i error) left at).term v.size;
      }
        where
          at_place : (k : ℕ) → k < n → Dec (k ≡ i)
              → Tree a stored stored' (grow S (next + n) at') (get_or stored (next + k) 0) (get_or stored' (next + k) 0) (get_or (set w.terms i (f (get_or w.terms i error) left at).term) k error)
          at_place k l (yes e) =
              rw (e, get_or-set_same hs' (next + i) h' 0 (omega (arith, fr.heads.long)), get_or-set_same cs' (next + i) c' 0 (omega (arith, fr.kids.long)), get_or-set_same w.terms i (f (get_or w.terms i error) left at).term error (omega (arith, w.long)))
              (tree_kept a hs' cs' _ stored stored' _ keeps_new v.tree)
          at_place k l (no e) =
              rw (get_or-set_other hs' (next + i) (next + k) h' 0 (λ z. e (omega arith)), get_or-set_other cs' (next + i) (next + k) c' 0 (λ z. e (omega arith)), get_or-set_other w.terms i k (f (get_or w.terms i error) left at).term error e, fr.heads.below (next + k) (omega arith), fr.kids.below (next + k) (omega arith))
              (tree_kept a hs cs _ stored stored' _ keeps_old (w.each k l))

  -- all visited
  pub visit_done : (hs cs : List ℕ) (j at left base size : ℕ) → n ≤ j → (w : VisitAt hs cs j at left base size)
      → visit_kids f (slot t) n 0 s₀ ≡ record { terms = w.terms; visits = left; count = at }
  visit_done hs cs j at left base size le w = w.same ∙ visit_none f (slot t) (n - j) j _ (omega arith)

-- ---- the loop over the children

abbrev pub finds : Look → Term → Option Term
finds look = replacement (look_by look)

-- the places in which the children of t come, by the tag k and the counts m, l of arguments and members
abbrev pub Order : (k m l n : ℕ) → Term → Type 0
Order k m l n t = (j : ℕ) → slot_by (class k) m l n j ≡ slot t j

pub order-of : {a : Area} {hs₁ cs₁ hs cs : List ℕ} {S : ℕ → Bool} (x : Content) {k m l next n : ℕ} {t : Term} → Tree a hs₁ cs₁ S x.head x.kids t → Opened a hs cs S next n t
    → Ordered a x.head k m l → Order k m l n t
order-of {hs₁} {cs₁} {S} x {k} {m} {l} {t} w o od i = ap (λ (c : ℕ). slot_by (class k) m l c i) o.count ∙ od.is hs₁ cs₁ S x.kids t w i

module _ (ks vs : List ℕ) (lookup : LookUp) (g : rust.Option Origin) where
  -- hs₀, cs₀ have the n opened children; j of them have been visited
  pub record Walking (hs₀ cs₀ hs cs : List ℕ) (k m l next n levels visits most base j at left size : ℕ) : Type 0 where
    pub upto : j ≤ n
    pub bounded : size ≤ base + 68719476736 * (visits - 1 - left) + j
    pub low : next + n ≤ at
    pub high : at ≤ most
    pub fewer : left < visits
    pub frames : Frames hs₀ cs₀ hs cs next at
    pub is : (S : ℕ → Bool) (t : Term) (look : Look) → Below S next → Opened (view ks vs g) hs₀ cs₀ S next n t → Order k m l n t → Looks ks vs lookup look
        → VisitAt (view ks vs g) (walk_by (finds look) (levels - 1)) S next n t (first (finds look) t visits next) hs cs j at left base size

  pub walking_start : (hs cs : List ℕ) (k m l next n levels visits most base : ℕ) → next + n ≤ most → 0 < visits
      → Walking hs cs hs cs k m l next n levels visits most base 0 (next + n) (visits - 1) base
  walking_start hs cs k m l next n levels visits most base le v = record {
    upto = omega arith;
    bounded = omega arith;
    low = omega arith;
    high = le;
    fewer = omega arith;
    frames = frames_same hs cs next (next + n);
    is = λ S t look b o r q.
        visit_start (view ks vs g) (walk_by (finds look) (levels - 1)) S next n t (first (finds look) t visits next) hs cs (visits - 1) base o
        (ap (λ (c : ℕ). record { terms = children t; visits = visits - 1; count = c }) (ap (λ (x : ℕ). next + x) (sym o.count)));
  }

module _ {ks vs : List ℕ} {lookup : LookUp} {g : rust.Option Origin} {hs₀ cs₀ hs cs : List ℕ} {k m l next n levels visits most base j at left size : ℕ} (w : Walking ks vs lookup g hs₀ cs₀ hs cs k m l next n levels visits most base j at left size) (lt : j < n)
    {i : ℕ} (ei : i ≡ slot_by (class k) m l n j) (in_row : i < n) where
  abbrev marks : (ℕ → Bool) → ℕ → Bool
  marks S = grow S (next + n) at

  -- the child that is visited
  visited : (S : ℕ → Bool) (t : Term) (look : Look) (b : Below S next) (o : Opened (view ks vs g) hs₀ cs₀ S next n t) (q : Order k m l n t) (z : Looks ks vs lookup look)
      → Below (marks S) at × Tree (view ks vs g) hs cs (marks S) (get_or hs (next + i) 0) (get_or cs (next + i) 0) (get_or (w.is S t look b o q z).terms i error)
  visited S t look b o q z = (grow_below S next (next + n) at b (omega (arith, w.low)), (w.is S t look b o q z).each i in_row)

  pub walking_next : most ≤ length hs → most ≤ length cs → (hs' cs' : List ℕ) (r : Walked)
      → Went ks vs lookup g hs cs hs' cs' (record { head = get_or hs (next + i) 0; kids = get_or cs (next + i) 0 }) at (levels - 1) left most r → Frames hs cs hs' cs' at r.next
      → Walking ks vs lookup g hs₀ cs₀ (set hs' (next + i) r.content.head) (set cs' (next + i) r.content.kids) k m l next n levels visits most base (j + 1) r.next r.visits (size + r.size)
  walking_next lh lc hs' cs' r walks fr = record {
    upto = omega arith;
    bounded = omega (arith, w.bounded, w.fewer, walks.fewer, walks.bounded);
    low = omega (arith, w.low, walks.later);
    high = walks.within;
    fewer = omega (arith, w.fewer, walks.fewer);
    frames =
        frames_set hs₀ cs₀ hs' cs' next r.next r.next (next + i) r.content.head r.content.kids
        (frames_then hs₀ cs₀ hs cs hs' cs' next at at r.next next r.next w.frames fr (omega arith) (omega (arith, w.low)) walks.later (omega arith))
        (omega arith) (omega (arith, w.low, walks.later)) (omega arith);
    is = λ S t look b o q z.
        let u = w.is S t look b o q z in
        let v = visited S t look b o q z in
        visit_next (view ks vs g) (walk_by (finds look) (levels - 1)) S next n t (first (finds look) t visits next) hs cs hs' cs' j at left base size i r.content.head r.content.kids r.next r.visits r.size
        b u lt o.count (ei ∙ q j) in_row w.low fr (omega (arith, w.low, w.high)) (omega (arith, w.low, w.high)) walks.later
        (walks.done (marks S) (get_or u.terms i error) look v.0 v.1 z);
  }

  pub walking_over : Overrun ks vs lookup g hs cs (record { head = get_or hs (next + i) 0; kids = get_or cs (next + i) 0 }) at (levels - 1) left most → (S : ℕ → Bool) (t : Term) (look : Look) → Below S next → Opened (view ks vs g) hs₀ cs₀ S next n t → Order k m l n t → Looks ks vs lookup look
      → 0 < levels → most < (walk_by (finds look) levels t visits next).count
  walking_over walks S t look b o q z hl =
      let u = w.is S t look b o q z in
      let v = visited S t look b o q z in
      over_visit most (finds look) levels t visits next n hl (omega (arith, w.fewer)) o.count
      (visit_over (view ks vs g) (walk_by (finds look) (levels - 1)) S next n t (first (finds look) t visits next) hs cs j at left base size i
      u lt (ei ∙ q j) (walk_count (finds look) (levels - 1)) most (walks (marks S) (get_or u.terms i error) look v.0 v.1 z))

-- ---- the node, when its children have been visited

module _ {ks vs : List ℕ} {lookup : LookUp} {g : rust.Option Origin} {hs₁ cs₁ hs₀ cs₀ hs cs : List ℕ} (x : Content) {k m l next n levels visits most base j at left size : ℕ}
    (w : Walking ks vs lookup g hs₀ cs₀ hs cs k m l next n levels visits most base j at left size) (over : n ≤ j) (hl : 0 < levels) (ow : OwnAt (view ks vs g) x.head base)
    (hb : base + n ≤ 68719476736)
    (op : (S : ℕ → Bool) (t : Term) → Below S next → Tree (view ks vs g) hs₁ cs₁ S x.head x.kids t → Opened (view ks vs g) hs₀ cs₀ S next n t)
    (od : Ordered (view ks vs g) x.head k m l) where
  -- the node built of them, and what the definition does with it
  pub record NodeAt (S : ℕ → Bool) (t : Term) (look : Look) : Type 0 where
    pub node : Term
    pub tree : Tree (view ks vs g) hs cs (grow S next at) x.head (next + 1) node
    pub low : depth node ≤ levels + 1
    pub is : walk_by (finds look) levels t visits next ≡ settle (walk_by (finds look) (levels - 1)) node (finds look node) left at
    pub sized : size ≡ length (bytes node)

  pub node_at : (S : ℕ → Bool) (t : Term) (look : Look) → Below S next → Tree (view ks vs g) hs₁ cs₁ S x.head x.kids t → Looks ks vs lookup look → NodeAt S t look
  node_at S t look b tr z =
      let f = walk_by (finds look) (levels - 1) in
      let o = op S t b tr in
      let q = order-of x tr o od in
      let u = w.is S t look b o q z in
      let e : visit_kids f (slot t) (length (children t)) 0 (first (finds look) t visits next) ≡ record { terms = u.terms; visits = left; count = at }
      = ap (λ (c : ℕ). visit_kids f (slot t) c 0 (first (finds look) t visits next)) (sym o.count)
      ∙ visit_done (view ks vs g) f S next n t (first (finds look) t visits next) hs cs j at left base size over u in
      let d = node_depth f levels (λ y v c. omega (arith, walk_depth (finds look) (levels - 1) y v c)) t (visits - 1) (next + length (children t)) in
      let d' : depth (with_kids t u.terms) ≤ suc levels = rw (ap (λ (y : Row). y.terms) e) at d in
      record {
        node = with_kids t u.terms;
        tree =
            tree_anew (view ks vs g) hs₁ cs₁ S hs cs (grow S next at) next tr u.terms (u.long ∙ o.count)
            (λ i lt. (
              grow_new S next at (next + i) (omega arith) (omega (arith, w.low, u.long)),
              tree_kept (view ks vs g) hs cs (grow S (next + n) at) hs cs (grow S next at)
                  (wider hs cs (grow S (next + n) at) (grow S next at) (λ y mk. ⊎_elim (λ v. grow_old S next at y v) (λ v. grow_new S next at y (omega (arith, v.0)) v.1) (grow_case S (next + n) at y mk)))
                  (u.each i (omega (arith, u.long))),
            ));
        low = omega arith;
        is = walk_some (finds look) levels t visits next hl (omega (arith, w.fewer)) ∙ ap (rebuilt (finds look) f t) e;
        sized =
            let jn : j ≡ length (children t) = omega (arith, w.upto, o.count) in
            omega (
              arith,
              u.sized,
              ow.is hs₁ cs₁ S x.kids t tr,
              with_bytes t u.terms (u.long ∙ o.count),
              slots_total (length_at u.terms) (class (tag t)) (get_or (nums (row t)) 1 0) (get_or (nums (row t)) 2 0) (length (children t)),
              ap (λ (y : ℕ). total (length_at u.terms) (slot t) 0 y) jn,
            );
      }

  bounds_low : next ≤ at
  bounds_low = omega (arith, w.low)

  bounds_few : left ≤ visits
  bounds_few = omega (arith, w.fewer)

  bounds_size : size ≤ 68719476736 * (visits - left) + 1
  bounds_size = omega (arith, w.bounded, w.fewer, w.upto)

  -- it is not replaced
  pub walks_kept : (c : ℕ) → c ≡ next + 1
      → ((S : ℕ → Bool) (t : Term) (look : Look) → Tree (view ks vs g) hs cs S x.head c t → depth t ≤ levels + 1 → Looks ks vs lookup look → finds look t ≡ none)
      → (r : Walked) → r ≡ record { content = record { head = x.head; kids = c }; next = at; visits = left; size = size } → Went ks vs lookup g hs₁ cs₁ hs cs x next levels visits most r
  walks_kept c ec f r e = rw e (record {
    later = bounds_low;
    within = w.high;
    fewer = bounds_few;
    bounded = bounds_size;
    done = λ S t look b tr z.
        let v = node_at S t look b tr z in
        let tr' : Tree (view ks vs g) hs cs (grow S next at) x.head c v.node = rw ec v.tree in
        let y = v.is ∙ ap (λ (o : Option Term). settle (walk_by (finds look) (levels - 1)) v.node o left at) (f (grow S next at) v.node look tr' v.low z) in
        rw y (record { tree = tr'; visits = refl; count = refl; size = v.sized });
  })

  -- it is replaced by what stands at y
  module _ (c : ℕ) (ec : c ≡ next + 1) (y : Content)
      (f : (S : ℕ → Bool) (t : Term) (look : Look) → Tree (view ks vs g) hs cs S x.head c t → depth t ≤ levels + 1 → Looks ks vs lookup look
      → (u : Term) × (finds look t ≡ some u) × Tree (view ks vs g) hs cs S y.head y.kids u) where
    pub record Replaced (S : ℕ → Bool) (t : Term) (look : Look) : Type 0 where
      pub node : Term
      pub value : Term
      pub low : depth node ≤ levels + 1
      pub tree : Tree (view ks vs g) hs cs (grow S next at) x.head c node
      pub other : Tree (view ks vs g) hs cs (grow S next at) y.head y.kids value
      pub is : walk_by (finds look) levels t visits next ≡ follow (walk_by (finds look) (levels - 1)) (same value node) value left at

    pub replaced : (S : ℕ → Bool) (t : Term) (look : Look) → Below S next → Tree (view ks vs g) hs₁ cs₁ S x.head x.kids t → Looks ks vs lookup look → Replaced S t look
    replaced S t look b tr z =
        let v = node_at S t look b tr z in
        let tr' : Tree (view ks vs g) hs cs (grow S next at) x.head c v.node = rw ec v.tree in
        let u = f (grow S next at) v.node look tr' v.low z in
        record {
          node = v.node;
          value = u.0;
          low = v.low;
          tree = tr';
          other = u.2;
          is = v.is ∙ ap (λ (o : Option Term). settle (walk_by (finds look) (levels - 1)) v.node o left at) u.1;
        }

    -- by itself
    pub walks_itself : Sight ks vs g → ((S T : ℕ → Bool) (t u : Term) → Tree (view ks vs g) hs cs S x.head c t → Tree (view ks vs g) hs cs T y.head y.kids u → depth t ≤ levels + 1 → t ≡ u)
        → (e : Content) → e.head ≡ length ks → e.kids ≡ 0 → (r : Walked) → r ≡ record { content = e; next = at; visits = left; size = 1 }
        → Went ks vs lookup g hs₁ cs₁ hs cs x next levels visits most r
    walks_itself s q e eh ek r er = rw er (record {
      later = bounds_low;
      within = w.high;
      fewer = bounds_few;
      bounded = omega arith;
      done = λ S t look b tr z.
          let v = replaced S t look b tr z in
          let i : v.node ≡ v.value = q (grow S next at) (grow S next at) v.node v.value v.tree v.other v.low in
          let j = ap (λ (u : Term). same u v.node) (sym i) ∙ same_refl v.node in
          let o = v.is ∙ ap (λ (d : Bool). follow (walk_by (finds look) (levels - 1)) d v.value left at) j in
          rw (o, eh, ek) (record { tree = held_tree (view ks vs g) hs cs (grow S next at) error (length ks) (view_error ks vs g s); visits = refl; count = refl; size = error_bytes });
    })

    -- by another term, which is visited
    module _ (q : (S T : ℕ → Bool) (t u : Term) → Tree (view ks vs g) hs cs S x.head c t → Tree (view ks vs g) hs cs T y.head y.kids u → depth t ≤ levels + 1 → t ≡ u → ⊥)
        (hs' cs' : List ℕ) where
      follows : (S : ℕ → Bool) (t : Term) (look : Look) (v : Replaced S t look) → walk_by (finds look) levels t visits next ≡ walk_by (finds look) (levels - 1) v.value left at
      follows S t look v =
          let j = not_same v.value v.node (λ e. q (grow S next at) (grow S next at) v.node v.value v.tree v.other v.low (sym e)) in
          v.is ∙ ap (λ (d : Bool). follow (walk_by (finds look) (levels - 1)) d v.value left at) j

      pub walks_followed : (r : rust.Option Walked) → Walks ks vs lookup g hs cs hs' cs' y at (levels - 1) left most r → Walks ks vs lookup g hs₁ cs₁ hs' cs' x next levels visits most r
      walks_followed (Some r) walks = record {
        later = omega (arith, bounds_low, walks.later);
        within = walks.within;
        fewer = omega (arith, bounds_few, walks.fewer);
        bounded = omega (arith, bounds_few, walks.fewer, walks.bounded);
        done = λ S t look b tr z.
            let v = replaced S t look b tr z in
            let p = walks.done (grow S next at) v.value look (grow_below S next next at b bounds_low) v.other z in
            rw (follows S t look v) (record {
              tree = tree_kept (view ks vs g) hs' cs' (grow (grow S next at) at r.next) hs' cs' (grow S next r.next)
                  (wider hs' cs' (grow (grow S next at) at r.next) (grow S next r.next) (λ i mk.
                  ⊎_elim (λ a. ⊎_elim (λ d. grow_old S next r.next i d) (λ d. grow_new S next r.next i d.0 (omega (arith, d.1, walks.later))) (grow_case S next at i a))
                  (λ d. grow_new S next r.next i (omega (arith, d.0, bounds_low)) d.1) (grow_case (grow S next at) at r.next i mk)))
                  p.tree;
              visits = p.visits;
              count = p.count;
              size = p.size;
            });
      }
      walks_followed None walks = λ S t look b tr z.
          let v = replaced S t look b tr z in
          rw (follows S t look v) (walks (grow S next at) v.value look (grow_below S next next at b bounds_low) v.other z)

-- ---- a visit that is not made

module _ (ks vs : List ℕ) (lookup : LookUp) (g : rust.Option Origin) (s : Sight ks vs g) (hs cs : List ℕ) (x : Content) (next levels visits most : ℕ) (le : next ≤ most) where
  pub walks_failed : ((look : Look) (t : Term) → walk_by (finds look) levels t visits next ≡ failed visits next)
      → (e : Content) → e.head ≡ length ks → e.kids ≡ 0 → (r : Walked) → r ≡ record { content = e; next = next; visits = visits; size = 1 }
      → Went ks vs lookup g hs cs hs cs x next levels visits most r
  walks_failed f e eh ek r er = rw er (record {
    later = omega arith;
    within = le;
    fewer = omega arith;
    bounded = omega arith;
    done = λ S t look b tr z.
        rw (f look t, eh, ek) (record { tree = held_tree (view ks vs g) hs cs (grow S next next) error (length ks) (view_error ks vs g s); visits = refl; count = refl; size = error_bytes });
  })

-- what is used comes after what was
pub used_later : (ks vs : List ℕ) (lookup : LookUp) (g : rust.Option Origin) (hs₀ cs₀ hs cs : List ℕ) (x : Content) (next levels visits most : ℕ) → next ≤ most → (r : rust.Option Walked)
    → Walks ks vs lookup g hs₀ cs₀ hs cs x next levels visits most r → next ≤ used most r
used_later ks vs lookup g hs₀ cs₀ hs cs x next levels visits most le (Some r) w = w.later
used_later ks vs lookup g hs₀ cs₀ hs cs x next levels visits most le None w = le
