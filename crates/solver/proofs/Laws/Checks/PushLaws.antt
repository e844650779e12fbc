-- Children put on in pairs.
use mathlib.Core.Bool.{Bool, true, false, ◌&&◌}
use mathlib.Core.List.{List, [], ◌∷◌, ◌++◌, append-nil, append_assoc}
use mathlib.Core.Path.{◌≡◌, refl, sym, ap, ap₂, subst, ◌∙◌}
use Prim.Native.Nat.{ℕ, zero, suc, ◌+◌, ◌-◌, ◌≤◌, ◌<◌}
use native.Mathlib.Decide.{ℕ_discrete, dec_lt}
use native.Mathlib.Nat.{add-zero}
use native.Mathlib.Omega.{arith}
use borrow.Author.Tests.{lt-ltb, le-ltb, le-leb, lt-leb}
use lib.Dec.{leb, ltb}
use lib.ListN.{length, get_or, take, drop, length-append, length-take, length-drop, get_or-append}
use lib.Seq.{get_or-append-add}
use Rattle.terms.specs.Result.{pick}
use Rattle.terms.specs.Term.{Term, Parts, node, end, num, sub, items, Held}
use Rattle.terms.specs.declared.Part.{Part}
use Rattle.terms.specs.Words.Held.{HeldParts}
use Rattle.terms.specs.declared.PairStep.{PairStep}
use Rattle.terms.specs.declared.PairStep.TheVariants.{Numbers, Terms, Apart}
use Rattle.std.specs.Prelude.{Some}
use Rattle.terms.specs.Words.PairsContract.{NumberFirst, TermFirst, Unlike, Meets}
use Rattle.terms.proofs.Laws.General.Bools.{never_false}
use Rattle.terms.proofs.Laws.Held.PairLaws.{FirstTerm, first_number, row_term}
use Rattle.terms.specs.Tree.{nums, row, tag, class, children}
use Rattle.terms.proofs.Laws.Normalising.SlotLaws.{class_projection, class_plain as plain, class_nominal}
use Rattle.terms.proofs.Laws.Held.HeldLaws.{items_some, held_node, held_num, held_sub, row_end, row_num, row_sub}
use Rattle.solver.specs.Shapes.{same_shape, turned}
use Rattle.solver.specs.Words.PendingContract.{pair_word, Laid, places, pushed_places, PushedPairs, Twins, window, PartEnd, NumberAt}
use Rattle.solver.proofs.Laws.Equality.ClassesCoincide.{held_same}
use Rattle.solver.proofs.Laws.Checks.RotateLaws.{places_length}
use Rattle.solver.proofs.Laws.Checks.StackLaws.{pushed_pairs}
use Rattle.solver.proofs.Laws.Checks.RowsInStepLaws.{like_rows, shape_like, like_subs, like_second, like_sub, like_num_rest, like_over, unlike_rows, term_span, node_row, node_kind}

-- ---- one run of pairs after another

module _ {count : ℕ} {ts₀ : List ℕ} where
  pub laid_none : Laid [] [] count ts₀ ts₀ count
  laid_none = record {
    even = refl;
    size = omega arith;
    low = λ j h. absurd (omega arith);
    words = λ j h. absurd (omega arith);
    below = λ i h. refl;
    above = λ i h. refl;
  }

  pub laid_then : {ls rs ls' rs' ts ts' : List ℕ} {r r' : ℕ} → Laid ls rs count ts₀ ts r → Laid ls' rs' r ts ts' r' → Laid (ls ++ ls') (rs ++ rs') count ts₀ ts' r'
  laid_then {ls} {rs} {ls'} {rs'} {ts} {ts'} {r} {r'} p q =
      let a = length-append ls ls' in
      let ps = p.size in
      let qs = q.size in
      record {
        even = omega (arith, length-append rs rs', a, p.even, q.even);
        size = omega arith;
        low = λ j h. low j h (dec_lt j (length ls));
        words = λ j h. word j h (dec_lt j (length ls));
        below = λ i h. q.below i (omega arith) ∙ p.below i h;
        above = λ i h. q.above i h ∙ p.above i (omega arith);
      }
    where
      low : (j : ℕ) → j < length (ls ++ ls') → Dec (j < length ls) → get_or (ls ++ ls') j 0 < 65536
      low j h (yes l) = rw (get_or-append ls ls' 0 j l) (p.low j l)
      low j h (no l) =
          let i = j - length ls in
          let z : length ls + i ≡ j = omega arith in
          subst (λ (x : ℕ). get_or (ls ++ ls') x 0 < 65536) z (rw (get_or-append-add ls ls' i 0) (q.low i (omega (arith, length-append ls ls'))))

      word : (j : ℕ) → j < length (ls ++ ls') → Dec (j < length ls) → get_or ts' (count + j) 0 ≡ pair_word (get_or (ls ++ ls') j 0) (get_or (rs ++ rs') j 0)
      word j h (yes l) =
          q.below (count + j) (omega (arith, p.size)) ∙ p.words j l
          ∙ ap₂ pair_word (sym (get_or-append ls ls' 0 j l)) (sym (get_or-append rs rs' 0 j (omega (arith, p.even))))
      word j h (no l) =
          let i = j - length ls in
          let e : count + j ≡ r + i = omega (arith, p.size) in
          let z : length ls + i ≡ j = omega arith in
          let y : length rs + i ≡ j = omega (arith, p.even) in
          ap (λ (x : ℕ). get_or ts' x 0) e ∙ q.words i (omega (arith, length-append ls ls'))
          ∙ ap₂ pair_word (sym (get_or-append-add ls ls' i 0) ∙ ap (λ (x : ℕ). get_or (ls ++ ls') x 0) z) (sym (get_or-append-add rs rs' i 0) ∙ ap (λ (x : ℕ). get_or (rs ++ rs') x 0) y)

-- ---- those with an index from lo up to hi

pub window_append : (lo hi c : ℕ) (l m : List ℕ) → window lo hi c (l ++ m) ≡ window lo hi c l ++ window lo hi (c + length l) m
unfolding window
window_append lo hi c [] m = ap (λ (x : ℕ). window lo hi x m) (sym (add-zero c))
window_append lo hi c (x ∷ l) m =
    let h = pick (leb lo c && ltb c hi) (x ∷ []) [] in
    let e : suc c + length l ≡ c + suc (length l) = omega arith in
    ap (λ (y : List ℕ). h ++ y) (window_append lo hi (suc c) l m ∙ ap (λ (y : ℕ). window lo hi (suc c) l ++ window lo hi y m) e)
    ∙ sym (append_assoc h (window lo hi (suc c) l) (window lo hi (c + suc (length l)) m))

window_in : (lo hi c x : ℕ) (l : List ℕ) → lo ≤ c → c < hi → window lo hi c (x ∷ l) ≡ x ∷ window lo hi (suc c) l
unfolding window
window_in lo hi c x l a b = rw (le-leb lo c a, lt-ltb c hi b)

window_low : (lo hi c x : ℕ) (l : List ℕ) → c < lo → window lo hi c (x ∷ l) ≡ window lo hi (suc c) l
unfolding window
window_low lo hi c x l a = rw (lt-leb lo c a)

window_high : (lo hi c x : ℕ) (l : List ℕ) → hi ≤ c → window lo hi c (x ∷ l) ≡ window lo hi (suc c) l
unfolding window
window_high lo hi c x l a = go (leb lo c)
  where
    go : (b : Bool) → pick (b && ltb c hi) (x ∷ []) [] ++ window lo hi (suc c) l ≡ window lo hi (suc c) l
    go true = rw (le-ltb c hi a)
    go false = refl

window_none : (lo hi c : ℕ) → window lo hi c [] ≡ []
unfolding window
window_none lo hi c = refl

-- all
window_all : (lo hi c : ℕ) (l : List ℕ) → lo ≤ c → c + length l ≤ hi → window lo hi c l ≡ l
window_all lo hi c [] a b = window_none lo hi c
window_all lo hi c (x ∷ l) a b = window_in lo hi c x l a (omega arith) ∙ ap (λ (y : List ℕ). x ∷ y) (window_all lo hi (suc c) l (omega arith) (omega arith))

window_drop : (n hi c : ℕ) (l : List ℕ) → c + length l ≤ hi → window n hi c l ≡ drop (n - c) l
window_drop n hi c [] b = window_none n hi c ∙ sym (lib.Seq.drop-nil (n - c))
window_drop n hi c (x ∷ l) b = go (window_drop n hi (suc c) l (omega arith)) (dec_lt c n)
  where
    go : window n hi (suc c) l ≡ drop (n - suc c) l → Dec (c < n) → window n hi c (x ∷ l) ≡ drop (n - c) (x ∷ l)
    go ih (yes h) =
        let e : suc (n - suc c) ≡ n - c = omega arith in
        window_low n hi c x l h ∙ ih ∙ ap (λ (y : ℕ). drop y (x ∷ l)) e
    go ih (no h) =
        let e : 0 ≡ n - c = omega arith in
        window_all n hi c (x ∷ l) (omega arith) b ∙ ap (λ (y : ℕ). drop y (x ∷ l)) e

window_take : (n c : ℕ) (l : List ℕ) → window 0 n c l ≡ take (n - c) l
window_take n c [] = window_none 0 n c ∙ sym (lib.Seq.take-nil (n - c))
window_take n c (x ∷ l) = go (window_take n (suc c) l) (dec_lt c n)
  where
    go : window 0 n (suc c) l ≡ take (n - suc c) l → Dec (c < n) → window 0 n c (x ∷ l) ≡ take (n - c) (x ∷ l)
    go ih (yes h) =
        let e : suc (n - suc c) ≡ n - c = omega arith in
        window_in 0 n c x l (omega arith) h ∙ ap (λ (y : List ℕ). x ∷ y) ih ∙ ap (λ (y : ℕ). take y (x ∷ l)) e
    go ih (no h) =
        let e : n - suc c ≡ 0 = omega arith in
        let z : 0 ≡ n - c = omega arith in
        window_high 0 n c x l (omega arith) ∙ ih ∙ ap (λ (y : ℕ). take y l) e ∙ ap (λ (y : ℕ). take y (x ∷ l)) z

-- ---- one part

nothing : (lo hi c i : ℕ) → window lo hi c (places i end) ≡ []
unfolding places
nothing lo hi c i = window_none lo hi c

places_num : (i c n : ℕ) (ps r : Parts) → ps ≡ num n r → c ≡ i + 1 → places i ps ≡ places c r
unfolding places
places_num i c n ps r e f = ap (places i) e ∙ ap (λ (k : ℕ). places k r) (sym f)

places_sub : (i c : ℕ) (t : Term) (ps r : Parts) → ps ≡ sub t r → c ≡ i + length (items t) → places i ps ≡ i ∷ places c r
unfolding places
places_sub i c t ps r e f = ap (places i) e ∙ ap (λ (k : ℕ). i ∷ places k r) (sym f)

window_term : (lo hi child : ℕ) {ks vs : List ℕ} {x s : Part} {c : ℕ} {ps : Parts} → TermFirst ks vs x s c → (p : FirstTerm ks vs ps s c x.end)
    → window lo hi child (places x.from ps) ≡ window lo hi child (s.from ∷ []) ++ window lo hi (child + 1) (places c p.rest)
window_term lo hi child {x = x} {s = s} {c = c} {ps = ps} g p =
    ap (window lo hi child) (places_sub x.from c p.term ps p.rest p.is (omega (arith, g.0, g.4, p.wide)) ∙ ap (λ (k : ℕ). k ∷ places c p.rest) (sym g.0))
    ∙ window_append lo hi child (s.from ∷ []) (places c p.rest)

-- ---- the walk of `push_range`

-- a row has no more terms than tokens
pub places_few : (ks vs : List ℕ) (i e : ℕ) (ps : Parts) → HeldParts ks vs i e ps → i + length (places i ps) ≤ e
unfolding places
places_few ks vs i e end h = omega (arith, h.ends)
places_few ks vs i e (num n ps) h = omega (arith, places_few ks vs (i + 1) e ps (held_num ks vs i e n ps h).2)
places_few ks vs i e (sub t ps) h = omega (arith, places_few ks vs (i + length (items t)) e ps (held_sub ks vs i e t ps h).1, items_some t)

-- the pairs done, and the rows that are left
pub record Pushing (ks vs : List ℕ) (a b lo hi count : ℕ) (ts₀ ts : List ℕ) (i ie j je child top : ℕ) : Type 0 where
  pub given : Twins ks vs a b
  pub room : count + length (window lo hi 0 (places (a + 1) given.left)) ≤ length ts₀
  pub left : Parts
  pub right : Parts
  pub free : Bool
  pub held_left : HeldParts ks vs i ie left
  pub held_right : HeldParts ks vs j je right
  pub like : like_rows free left right ≡ true
  pub done_left : List ℕ
  pub done_right : List ℕ
  pub laid : Laid done_left done_right count ts₀ ts top
  pub split_left : window lo hi 0 (places (a + 1) given.left) ≡ done_left ++ window lo hi child (places i left)
  pub split_right : window lo hi 0 (places (b + 1) given.right) ≡ done_right ++ window lo hi child (places j right)
  pub few : child ≤ i

module _ {ks vs : List ℕ} {a b lo hi count : ℕ} {ts₀ : List ℕ} where
  pub pushing_start : (w : Twins ks vs a b) → count + length (window lo hi 0 (places (a + 1) w.left)) ≤ length ts₀
      → {ie je : ℕ} → PartEnd ks vs a (length ks) ie → PartEnd ks vs b (length ks) je → Pushing ks vs a b lo hi count ts₀ ts₀ (a + 1) ie (b + 1) je 0 count
  pushing_start w r {ie} {je} ea eb = record {
    given = w;
    room = r;
    left = w.left;
    right = w.right;
    free = w.notion w.tag;
    held_left = node_row ks vs a ie w.tag w.left ea w.held_left;
    held_right = node_row ks vs b je w.other w.right eb w.held_right;
    like = (shape_like w.notion w.tag w.other w.left w.right w.alike).1;
    done_left = [];
    done_right = [];
    laid = laid_none;
    split_left = refl;
    split_right = refl;
    few = omega arith;
  }

  module _ {ts : List ℕ} {x y : Part} {child top : ℕ} (w : Pushing ks vs a b lo hi count ts₀ ts x.from x.end y.from y.end child top) where
    -- the rows go on with the same things
    pushing_alike : Unlike ks x y → ⊥
    pushing_alike u = never_false (sym w.like ∙ unlike_rows w.free w.held_left w.held_right u)

    pushing_number : {i j c d : ℕ} → NumberFirst ks x i c → NumberFirst ks y j d → Pushing ks vs a b lo hi count ts₀ ts c x.end d y.end child top
    pushing_number {c = c} {d = d} g h =
        let p = first_number w.held_left (omega arith) g in
        let q = first_number w.held_right (omega arith) h in
        record {
          given = w.given;
          room = w.room;
          left = p.rest;
          right = q.rest;
          free = false;
          held_left = p.behind;
          held_right = q.behind;
          like = like_num_rest w.free p.value q.value p.rest q.rest (sym (ap₂ (like_rows w.free) p.is q.is) ∙ w.like);
          done_left = w.done_left;
          done_right = w.done_right;
          laid = w.laid;
          split_left = w.split_left ∙ ap (λ (l : List ℕ). w.done_left ++ window lo hi child l) (places_num x.from c p.value w.left p.rest p.is g.3);
          split_right = w.split_right ∙ ap (λ (l : List ℕ). w.done_right ++ window lo hi child l) (places_num y.from d q.value w.right q.rest q.is h.3);
          few = omega (arith, w.few, g.3);
        }

    -- the rows go on with no terms
    pub pushing_other : {o : PairStep} {c d : ℕ} → ((s t : Part) → o ≡ Terms s t → ⊥) → Meets ks vs x y (Some o) c d → Pushing ks vs a b lo hi count ts₀ ts c x.end d y.end child top
    pushing_other {o = Numbers i j} n m = pushing_number m.0 m.1
    pushing_other {o = Terms s t} n m = absurd (n s t refl)
    pushing_other {o = Apart} n m = absurd (pushing_alike m.0)

    module _ {s t : Part} {c d : ℕ} (g : TermFirst ks vs x s c) (h : TermFirst ks vs y t d) where
      left_term : FirstTerm ks vs w.left s c x.end
      left_term = row_term w.held_left g

      right_term : FirstTerm ks vs w.right t d y.end
      right_term = row_term w.held_right h

      -- there is room for the pair
      pub pushing_room : top + length (window lo hi child (s.from ∷ [])) ≤ length ts₀
      pushing_room =
          omega (
            arith,
            w.room,
            ap length w.split_left,
            length-append w.done_left (window lo hi child (places x.from w.left)),
            ap length (window_term lo hi child g left_term),
            length-append (window lo hi child (s.from ∷ [])) (window lo hi (child + 1) (places c left_term.rest)),
            w.laid.size,
          )

      pub pushing_step : {ts' : List ℕ} {child' top' : ℕ} → child' ≡ child + 1 → Laid (window lo hi child (s.from ∷ [])) (window lo hi child (t.from ∷ [])) top ts ts' top'
          → Pushing ks vs a b lo hi count ts₀ ts' c x.end d y.end child' top'
      pushing_step ec l =
          let p = left_term in
          let q = right_term in
          rw ec (record {
            given = w.given;
            room = w.room;
            left = p.rest;
            right = q.rest;
            free = false;
            held_left = p.behind;
            held_right = q.behind;
            like = sym (ap₂ (like_rows w.free) p.is q.is ∙ like_sub w.free p.term q.term p.rest q.rest) ∙ w.like;
            done_left = w.done_left ++ window lo hi child (s.from ∷ []);
            done_right = w.done_right ++ window lo hi child (t.from ∷ []);
            laid = laid_then w.laid l;
            split_left = w.split_left ∙ ap (λ (x : List ℕ). w.done_left ++ x) (window_term lo hi child g p) ∙ sym (append_assoc w.done_left (window lo hi child (s.from ∷ [])) _);
            split_right = w.split_right ∙ ap (λ (x : List ℕ). w.done_right ++ x) (window_term lo hi child h q) ∙ sym (append_assoc w.done_right (window lo hi child (t.from ∷ [])) _);
            few = omega (arith, w.few, g.0, g.1, g.4);
          })

    -- the rows are over
    pub pushing_end : x.end ≤ x.from → (k l : ℕ) (ps qs : Parts) → Held ks vs a (node k ps) → Held ks vs b (node l qs)
        → Laid (window lo hi 0 (places (a + 1) ps)) (window lo hi 0 (places (b + 1) qs)) count ts₀ ts top
    pushing_end li k l ps qs ha hb =
        let el : w.left ≡ end = row_end ks vs x.from x.end w.left w.held_left li in
        let er : w.right ≡ end = over_too el in
        let p : window lo hi 0 (places (a + 1) w.given.left) ≡ w.done_left = w.split_left ∙ ap (λ (r : Parts). w.done_left ++ window lo hi child (places x.from r)) el ∙ ap (λ (l : List ℕ). w.done_left ++ l) (nothing lo hi child x.from) ∙ append-nil w.done_left in
        let q : window lo hi 0 (places (b + 1) w.given.right) ≡ w.done_right = w.split_right ∙ ap (λ (r : Parts). w.done_right ++ window lo hi child (places y.from r)) er ∙ ap (λ (l : List ℕ). w.done_right ++ l) (nothing lo hi child y.from) ∙ append-nil w.done_right in
        let ea : ps ≡ w.given.left = node_inj (held_same ks vs a (node k ps) (node w.given.tag w.given.left) ha w.given.held_left) in
        let eb : qs ≡ w.given.right = node_inj (held_same ks vs b (node l qs) (node w.given.other w.given.right) hb w.given.held_right) in
        rw (ea, eb, p, q) w.laid
      where
        node_inj : {k l : ℕ} {ps qs : Parts} → node k ps ≡ node l qs → ps ≡ qs
        node_inj e = cc

        over_too : w.left ≡ end → w.right ≡ end
        over_too e = like_over w.free w.right (sym (ap (λ (r : Parts). like_rows w.free r w.right) e) ∙ w.like)

-- ---- the first number of a row

nums_none : (ps : Parts) → ps ≡ end → nums ps ≡ []
unfolding nums
nums_none ps e = ap nums e

nums_some : (ps r : Parts) (n : ℕ) → ps ≡ num n r → nums ps ≡ n ∷ nums r
unfolding nums
nums_some ps r n e = ap nums e

nums_past : (ps r : Parts) (t : Term) → ps ≡ sub t r → nums ps ≡ nums r
unfolding nums
nums_past ps r t e = ap nums e

-- what is left of a row has its numbers
pub record Seeking (ks vs : List ℕ) (i e : ℕ) (ps : Parts) : Type 0 where
  pub left : Parts
  pub held : HeldParts ks vs i e left
  pub same : nums ps ≡ nums left

pub seeking_step : (ks vs : List ℕ) (i e i' : ℕ) (ps : Parts) → Seeking ks vs i e ps → i < e → (get_or ks i 0 ≡ 0 → ⊥) → PartEnd ks vs i e i' → Seeking ks vs i' e ps
seeking_step ks vs i e i' ps w l k x =
    let q = row_sub ks vs i e w.left w.held l k in
    let s = term_span ks vs i q.0 q.3 in
    let n : i' ≡ i + length (items q.0) = x.is (omega (arith, s, items_some q.0)) (omega (arith, s, q.4.ends)) ∙ ap (λ (y : ℕ). i + y) s in
    rw n (record { left = q.1; held = q.4; same = w.same ∙ nums_past w.left q.1 q.0 q.2 })

pub seeking_found : (ks vs : List ℕ) (i e : ℕ) (ps : Parts) → Seeking ks vs i e ps → i < e → get_or ks i 0 ≡ 0 → NumberAt ks vs i e ps
seeking_found ks vs i e ps w l k =
    let q = row_num ks vs i e w.left w.held l k in
    record { none = λ h. absurd (omega arith); some = λ _. (q.1, q.4, w.same ∙ nums_some w.left q.1 q.0 q.2 ∙ ap (λ (n : ℕ). n ∷ nums q.1) (sym q.3)) }

pub seeking_end : (ks vs : List ℕ) (i e : ℕ) (ps : Parts) → Seeking ks vs i e ps → e ≤ i → NumberAt ks vs e e ps
seeking_end ks vs i e ps w h = record { none = λ _. w.same ∙ nums_none w.left (row_end ks vs i e w.left w.held h); some = λ l. absurd (omega arith) }

-- the second number
module _ (ks vs : List ℕ) (a e : ℕ) (we : PartEnd ks vs a (length ks) e) where
  pub second_none : (p : ℕ) → ((ps : Parts) → HeldParts ks vs (a + 1) e ps → NumberAt ks vs p e ps) → e ≤ p → (k : ℕ) (ps : Parts) → Held ks vs a (node k ps) → 0 ≡ get_or (nums ps) 1 0
  second_none p f l k ps h = sym (ap (λ (x : List ℕ). get_or x 1 0) ((f ps (node_row ks vs a e k ps we h)).none l))

  module _ (p q : ℕ) (f : (ps : Parts) → HeldParts ks vs (a + 1) e ps → NumberAt ks vs p e ps) (l : p < e) (g : (ps : Parts) → HeldParts ks vs (p + 1) e ps → NumberAt ks vs q e ps) where
    pub second_one : e ≤ q → (k : ℕ) (ps : Parts) → Held ks vs a (node k ps) → 0 ≡ get_or (nums ps) 1 0
    second_one m k ps h =
        let x = (f ps (node_row ks vs a e k ps we h)).some l in
        sym (ap (λ (y : List ℕ). get_or y 1 0) x.2 ∙ ap (λ (y : List ℕ). get_or y 0 0) ((g x.0 x.1).none m))

    pub second_some : q < e → (k : ℕ) (ps : Parts) → Held ks vs a (node k ps) → get_or vs q 0 ≡ get_or (nums ps) 1 0
    second_some m k ps h =
        let x = (f ps (node_row ks vs a e k ps we h)).some l in
        let y = (g x.0 x.1).some m in
        sym (ap (λ (z : List ℕ). get_or z 1 0) x.2 ∙ ap (λ (z : List ℕ). get_or z 0 0) y.2)

-- ---- what `push_children` does

turned_plain : (c n : ℕ) (l : List ℕ) → (c ≡ 1 → ⊥) → turned c n l ≡ l
unfolding turned
turned_plain zero n l h = refl
turned_plain (suc zero) n l h = absurd (h refl)
turned_plain (suc (suc c)) n l h = refl

turned_nominal : (c n : ℕ) (l : List ℕ) → c ≡ 1 → turned c n l ≡ drop n l ++ take n l
unfolding turned
turned_nominal c n l h = rw h

class_plain : (k : ℕ) → (12 ≤ k → 15 < k) → class k ≡ 1 → ⊥
class_plain k h e = go (ℕ_discrete k 18)
  where
    go : Dec (k ≡ 18) → ⊥
    go (yes p) = omega (arith, class_projection k p)
    go (no p) = omega (arith, plain k p h)

pushed_plain : (a k : ℕ) (ps : Parts) → (class k ≡ 1 → ⊥) → pushed_places a (node k ps) ≡ places (a + 1) ps
unfolding row tag
pushed_plain a k ps h = turned_plain (class k) (get_or (nums ps) 1 0) (places (a + 1) ps) h

pushed_nominal : (a k : ℕ) (ps : Parts) → class k ≡ 1
    → pushed_places a (node k ps) ≡ drop (get_or (nums ps) 1 0) (places (a + 1) ps) ++ take (get_or (nums ps) 1 0) (places (a + 1) ps)
unfolding row tag
pushed_nominal a k ps h = turned_nominal (class k) (get_or (nums ps) 1 0) (places (a + 1) ps) h

-- as many children as places
pub children_places : (a k : ℕ) (ps : Parts) → length (children (node k ps)) ≡ length (places (a + 1) ps)
unfolding children
children_places a k ps = sym (places_length (a + 1) ps)

module _ {ks vs : List ℕ} {a b : ℕ} (w : Twins ks vs a b) where
  pub left_few : length (places (a + 1) w.left) ≤ length ks
  left_few = omega (arith, places_few ks vs (a + 1) _ w.left (held_node ks vs a w.tag w.left w.held_left), w.held_left.within)

  -- room for all, for those from n on, and for those before n
  module _ (count size : ℕ) (room : count + length (children (node w.tag w.left)) ≤ size) where
    pub room_all : count + length (window 0 (length ks) 0 (places (a + 1) w.left)) ≤ size
    room_all =
        omega (arith, room, children_places a w.tag w.left, ap length (window_all 0 (length ks) 0 (places (a + 1) w.left) (omega arith) (omega (arith, left_few))))

    pub room_drop : (n : ℕ) → count + length (window n (length ks) 0 (places (a + 1) w.left)) ≤ size
    room_drop n =
        omega (arith, room, children_places a w.tag w.left, ap length (window_drop n (length ks) 0 (places (a + 1) w.left) (omega (arith, left_few))), length-drop (n - 0) (places (a + 1) w.left))

    pub room_take : (n top : ℕ) → top ≡ count + length (window n (length ks) 0 (places (a + 1) w.left))
        → top + length (window 0 n 0 (places (a + 1) w.left)) ≤ size
    room_take n top e =
        omega (
          arith,
          room,
          e,
          children_places a w.tag w.left,
          ap length (window_drop n (length ks) 0 (places (a + 1) w.left) (omega (arith, left_few))),
          length-drop (n - 0) (places (a + 1) w.left),
          ap length (window_take n 0 (places (a + 1) w.left)),
          length-take (n - 0) (places (a + 1) w.left),
        )

  module _ (k j : ℕ) (ps qs : Parts) (ha : Held ks vs a (node k ps)) (hb : Held ks vs b (node j qs)) where
    twins_like : (k ≡ j) × (like_rows (w.notion k) ps qs ≡ true)
    twins_like =
        let ea = held_same ks vs a (node w.tag w.left) (node k ps) w.held_left ha in
        let eb = held_same ks vs b (node w.other w.right) (node j qs) w.held_right hb in
        shape_like w.notion k j ps qs (sym (ap₂ (same_shape w.notion) ea eb) ∙ w.alike)

    same_children : length (children (node k ps)) ≡ length (children (node j qs))
    same_children = children_places a k ps ∙ places_length (a + 1) ps ∙ like_subs (w.notion k) ps qs twins_like.1 ∙ sym (places_length (b + 1) qs) ∙ sym (children_places b j qs)

    few_left : length (places (a + 1) ps) ≤ length ks
    few_left = omega (arith, places_few ks vs (a + 1) _ ps (held_node ks vs a k ps ha), ha.within)

    few_right : length (places (b + 1) qs) ≤ length ks
    few_right = omega (arith, places_few ks vs (b + 1) _ qs (held_node ks vs b j qs hb), hb.within)

    module _ {count : ℕ} {ts₀ ts : List ℕ} {r : ℕ} where
      -- other nodes
      pub pushed_once : (14 ≤ get_or ks a 0 → 17 < get_or ks a 0)
          → Laid (window 0 (length ks) 0 (places (a + 1) ps)) (window 0 (length ks) 0 (places (b + 1) qs)) count ts₀ ts r
          → PushedPairs ks vs a b (node k ps) (node j qs) count ts₀ ts r
      pushed_once h l =
          let e = node_kind ks vs a k ps ha in
          let o = class_plain k (λ g. let z = h (omega arith) in omega arith) in
          let oj : class j ≡ 1 → ⊥ = λ z. o (ap class twins_like.0 ∙ z) in
          let x = window_all 0 (length ks) 0 (places (a + 1) ps) (omega arith) (omega (arith, few_left)) ∙ sym (pushed_plain a k ps o) in
          let y = window_all 0 (length ks) 0 (places (b + 1) qs) (omega arith) (omega (arith, few_right)) ∙ sym (pushed_plain b j qs oj) in
          pushed_pairs ks vs a b k j ps qs ha hb same_children count ts₀ ts r (rw (x, y) at l)

      -- a nominal: those from n on, and then those before n
      pub pushed_twice : 14 ≤ get_or ks a 0 → get_or ks a 0 ≤ 17 → (n : ℕ) → n ≡ get_or (nums ps) 1 0 → (ts₁ : List ℕ) (top : ℕ)
          → Laid (window n (length ks) 0 (places (a + 1) ps)) (window n (length ks) 0 (places (b + 1) qs)) count ts₀ ts₁ top
          → Laid (window 0 n 0 (places (a + 1) ps)) (window 0 n 0 (places (b + 1) qs)) top ts₁ ts r
          → PushedPairs ks vs a b (node k ps) (node j qs) count ts₀ ts r
      pushed_twice lo hi n en ts₁ top p q =
          let e = node_kind ks vs a k ps ha in
          let o : class k ≡ 1 = sym (class_nominal k (λ z. omega arith) (omega arith) (omega arith)) in
          let oj : class j ≡ 1 = ap class (sym twins_like.0) ∙ o in
          let m : n ≡ get_or (nums qs) 1 0 = en ∙ like_second (w.notion k) ps qs twins_like.1 in
          let x = ap₂ ◌++◌ (window_drop n (length ks) 0 (places (a + 1) ps) (omega (arith, few_left))) (window_take n 0 (places (a + 1) ps)) ∙ both (places (a + 1) ps) en ∙ sym (pushed_nominal a k ps o) in
          let y = ap₂ ◌++◌ (window_drop n (length ks) 0 (places (b + 1) qs) (omega (arith, few_right))) (window_take n 0 (places (b + 1) qs)) ∙ both (places (b + 1) qs) m ∙ sym (pushed_nominal b j qs oj) in
          pushed_pairs ks vs a b k j ps qs ha hb same_children count ts₀ ts r (rw (x, y) at (laid_then p q))
        where
          both : (l : List ℕ) {z : ℕ} → n ≡ z → drop (n - 0) l ++ take (n - 0) l ≡ drop z l ++ take z l
          both l {z} e = let s : n - 0 ≡ z = omega arith in ap (λ (y : ℕ). drop y l ++ take y l) s
