-- Bytes sized or written, piece by piece: what is left to show.
use mathlib.Core.Path.{◌≡◌, refl, sym, ap, ap₂, ◌∙◌}
use mathlib.Core.Bool.{Bool, true, false}
use mathlib.Core.List.{List, [], ◌++◌, append-nil}
use Prim.Native.Nat.{ℕ, suc, ◌+◌, ◌-◌, ◌≤◌, ◌<◌}
use native.Mathlib.Omega.{arith}
use lib.ListN.{length, get_or, length-append}
use lib.Seq.{sets}
use Rattle.terms.specs.declared.Content.{Content}
use Rattle.terms.specs.declared.Cursor.{Cursor}
use Rattle.terms.specs.declared.Part.{Part}
use Rattle.terms.specs.Result.{pick}
use Rattle.terms.specs.Words.Tokens.{Area}
use Rattle.terms.specs.Words.Lent.{spelt_in}
use Rattle.terms.specs.Words.TokenBytes.{plain, spelt}
use Rattle.terms.specs.Term.{Term, Parts, end, num, sub, items, depth, depths, bytes, part_bytes}
use Rattle.terms.specs.Words.Held.{span}
use Rattle.terms.specs.Tree.{row}
use Rattle.terms.specs.Words.Arena.{head_of, kids_of, Tree, variable, branch, Parted, From}
use Rattle.std.specs.Prelude.{Option, Some, None}
use Rattle.std.proofs.lemmas.Option.{IfSome_then}
use Rattle.terms.specs.Words.ShowingContract.{Shows, Kept}
use Rattle.terms.proofs.Laws.Held.HeldLaws.{items_some}
use Rattle.terms.proofs.Laws.Held.SameLaws.{span_held}
use Rattle.terms.proofs.Laws.Normalising.SourceLaws as source
use Rattle.terms.proofs.Laws.Format.WriteLaws.{sets_append, spell_step, spell_none, held_bytes}
use Rattle.terms.proofs.Laws.Normalising.ArenaLaws.{parted_over, parted_number, parted_child}
use Rattle.terms.proofs.Laws.Normalising.AlikeLaws.{depths_num, depths_sub}

-- ---- the state of a writer

-- at i `rem` is left
pub record Showing (on : Bool) (o₀ : List ℕ) (at : ℕ) (whole o : List ℕ) (i : ℕ) (rem : List ℕ) : Type 0 where
  pub long : length o ≡ length o₀
  pub place : i + length rem ≡ at + length whole
  pub same : pick on (sets o i rem) o ≡ pick on (sets o₀ at whole) o₀

-- the output as it was
pub kept_at : (on : Bool) (o : List ℕ) (at i : ℕ) → at ≤ i → i ≤ length o → Kept on o o at (Some i)
kept_at on o at i le room = record { long = refl; same = λ e. refl; within = (le, room) }

pub kept_then : (on : Bool) (o₀ o o' : List ℕ) (at i : ℕ) (r : Option ℕ) → Kept on o₀ o at (Some i) → Kept on o o' i r → Kept on o₀ o' at r
kept_then on o₀ o o' at i r f g = record {
  long = g.long ∙ f.long;
  same = λ e. g.same e ∙ f.same e;
  within = IfSome_then r g.within (λ e x. (omega (arith, f.within.0, x.0), omega (arith, x.1, f.long)));
}

pub show_start : (on : Bool) (o : List ℕ) (at : ℕ) (whole : List ℕ) → Showing on o at whole o at whole
show_start on o at whole = record { long = refl; place = refl; same = refl }

module _ (on : Bool) (o₀ : List ℕ) (at : ℕ) (whole o : List ℕ) (i : ℕ) (rem : List ℕ) (w : Showing on o₀ at whole o i rem) where
  module _ (x rest : List ℕ) (e : rem ≡ x ++ rest) (o' : List ℕ) where
    place : length rem ≡ length x + length rest
    place = ap length e ∙ length-append x rest

    pub show_step : (r : ℕ) → length o' ≡ length o → Shows on o o' i x (Some r) → Showing on o₀ at whole o' r rest
    show_step r l s = record { long = l ∙ w.long; place = omega (arith, s.0, place, w.place); same = go on s.0 s.1 w.same }
      where
        go : (b : Bool) → r ≡ i + length x → o' ≡ pick b (sets o i x) o → pick b (sets o i rem) o ≡ pick b (sets o₀ at whole) o₀ → pick b (sets o' r rest) o' ≡ pick b (sets o₀ at whole) o₀
        go true er p q = rw (p, er) (sym (sets_append x rest o i) ∙ ap (λ (y : List ℕ). sets o i y) (sym e) ∙ q)
        go false er p q = p ∙ q

    -- there is no room for x, nor for all
    pub show_stop : Shows on o o' i x None → Shows on o₀ o' at whole None
    show_stop s = omega (arith, s, place, w.place, w.long)

  -- nothing is left
  pub show_end : rem ≡ [] → Shows on o₀ o at whole (Some i)
  show_end e = (omega (arith, w.place, ap length e), go on e w.same)
    where
      go : (b : Bool) → rem ≡ [] → pick b (sets o i rem) o ≡ pick b (sets o₀ at whole) o₀ → o ≡ pick b (sets o₀ at whole) o₀
      go true n q = sym (ap (λ (y : List ℕ). sets o i y) n) ∙ q
      go false n q = q

-- ---- a run of tokens

module _ (ks vs : List ℕ) (on : Bool) (o₀ : List ℕ) (at : ℕ) (x : Part) where
  -- the tokens from q on are left
  pub record Running (o : List ℕ) (i q : ℕ) : Type 0 where
    pub kept : Kept on o₀ o at (Some i)
    pub rest : Showing on o₀ at (spelt_in ks vs x) o i (spelt ks vs q (x.end - q))

module _ {ks vs : List ℕ} {on : Bool} {o₀ : List ℕ} {at : ℕ} {x : Part} {o : List ℕ} {i q : ℕ} (w : Running ks vs on o₀ at x o i q) where
  abbrev left : List ℕ
  left = spelt ks vs q (x.end - q)

  module _ (lt : q < x.end) {k v : ℕ} (ek : k ≡ get_or ks q 0) (ev : v ≡ get_or vs q 0) where
    abbrev then : List ℕ
    then = spelt ks vs (q + 1) (x.end - (q + 1))

    first : left ≡ plain k v ++ then
    first = spell_step plain ks vs q x.end lt ∙ rw (ek, ev)

    pub running_next : {o' : List ℕ} {d : ℕ} → Kept on o o' i (Some d) → Shows on o o' i (plain k v) (Some d) → Running ks vs on o₀ at x o' d (q + 1)
    running_next {o' = o'} {d = d} f s = record {
      kept = kept_then on o₀ o o' at i (Some d) w.kept f;
      rest = show_step on o₀ at (spelt_in ks vs x) o i left w.rest (plain k v) then first o' d f.long s;
    }

    pub running_stop : (o' : List ℕ) → Shows on o o' i (plain k v) None → Shows on o₀ o' at (spelt_in ks vs x) None
    running_stop o' s = show_stop on o₀ at (spelt_in ks vs x) o i left w.rest (plain k v) then first o' s

  pub running_done : x.end ≤ q → Shows on o₀ o at (spelt_in ks vs x) (Some i)
  running_done le = show_end on o₀ at (spelt_in ks vs x) o i left w.rest (spell_none plain ks vs q (x.end - q) (omega arith))

-- ---- the bytes of a tree: its first token, and its row

bytes_num : (v : ℕ) (ps : Parts) → part_bytes (num v ps) ≡ plain 0 v ++ part_bytes ps
unfolding bytes plain
bytes_num v ps = refl

bytes_sub : (t : Term) (ps : Parts) → part_bytes (sub t ps) ≡ bytes t ++ part_bytes ps
unfolding bytes
bytes_sub t ps = refl

bytes_end : part_bytes end ≡ []
unfolding bytes
bytes_end = refl

module _ (a : Area) (hs cs : List ℕ) (S : ℕ → Bool) where
  pub tree_bytes : {h c : ℕ} {t : Term} → Tree a hs cs S h c t → {k v : ℕ} → k ≡ get_or a.kinds h 0 → v ≡ get_or a.vals h 0 → bytes t ≡ plain k v ++ part_bytes (row t)
  unfolding bytes row plain
  tree_bytes (variable e f l) ek ev = rw (ek, e, ev, f) (sym (append-nil _))
  tree_bytes (branch {k = k} e f o l p) ek ev = let z : k + 2 ≡ suc (suc k) = omega arith in rw (ek, e, z)

-- ---- a tree as it stands in the source

module _ (a : Area) (hs cs : List ℕ) (S : ℕ → Bool) where
  pub tree_flat : {h c : ℕ} {t : Term} → Tree a hs cs S h c t → c ≡ 0 → (l : ℕ) {k v : ℕ} → k ≡ get_or a.kinds h 0 → v ≡ get_or a.vals h 0 → (1 ≤ span k v → l ≡ span k v)
      → spelt a.kinds a.vals h (h + l - h) ≡ bytes t
  tree_flat {h} {t = t} w c0 l ek ev el =
      let u = source.tree_flat a hs cs S w c0 in
      let s = ap₂ span ek ev ∙ span_held a.kinds a.vals h t u in
      let n : h + l - h ≡ length (items t) = omega (arith, el (omega (arith, s, items_some t)), s) in
      ap (λ (m : ℕ). spelt a.kinds a.vals h m) n ∙ held_bytes a.kinds a.vals h t u

-- ---- a row built of records

module _ (a : Area) (hs cs : List ℕ) (on : Bool) (o₀ : List ℕ) (at : ℕ) (c : Cursor) (fuel : ℕ) where
  -- the parts that are left, and the bytes shown so far
  pub record RowLeft (S : ℕ → Bool) (ps : Parts) (o : List ℕ) (i q n : ℕ) : Type 0 where
    pub left : Parts
    pub rest : Parted a hs cs S c.kids c.end q n left
    pub low : depths left ≤ fuel
    pub state : Showing on o₀ at (part_bytes ps) o i (part_bytes left)

  pub record RowShowing (o : List ℕ) (i q n : ℕ) : Type 0 where
    pub few : n ≤ q
    pub kept : Kept on o₀ o at (Some i)
    pub is : (S : ℕ → Bool) (ps : Parts) → From a hs cs S c ps → depths ps ≤ fuel → RowLeft S ps o i q n

  module _ (o : List ℕ) (i q n : ℕ) (w : RowShowing o i q n) where
    pub row_done : c.end ≤ q → (S : ℕ → Bool) (ps : Parts) → From a hs cs S c ps → depths ps ≤ fuel → Shows on o₀ o at (part_bytes ps) (Some i)
    row_done le S ps f d =
        let u = w.is S ps f d in
        show_end on o₀ at (part_bytes ps) o i (part_bytes u.left) u.state (ap part_bytes (parted_over a hs cs S u.rest le) ∙ bytes_end)

    -- what is left after a step, or that there is no room
    abbrev Stepped : (o' : List ℕ) → Option ℕ → (q n : ℕ) → Type 0
    Stepped o' (Some r) q' m = RowShowing o' r q' m
    Stepped o' None q' m = (S : ℕ → Bool) (ps : Parts) → From a hs cs S c ps → depths ps ≤ fuel → Shows on o₀ o' at (part_bytes ps) None

    abbrev Trees : Content → List ℕ → Option ℕ → Type 0
    Trees y o' r = (S : ℕ → Bool) (t : Term) → Tree a hs cs S y.head y.kids t → (0 < y.kids → depth t ≤ fuel) → Shows on o o' i (bytes t) r

    module _ (lt : q < c.end) {k v : ℕ} (ek : k ≡ get_or a.kinds q 0) (ev : v ≡ get_or a.vals q 0) (o' : List ℕ) where
      pub row_number : k ≡ 0 → (r : Option ℕ) → Kept on o o' i r → Shows on o o' i (plain k v) r → Stepped o' r (q + 1) n
      row_number y r kp sh = go r kp sh
        where
          part : (S : ℕ → Bool) (ps : Parts) → RowLeft S ps o i q n → Parts
          part S ps u = (parted_number a hs cs S u.rest lt ek ev y).rest

          bytes_are : (S : ℕ → Bool) (ps : Parts) (u : RowLeft S ps o i q n) → part_bytes u.left ≡ plain k v ++ part_bytes (part S ps u)
          bytes_are S ps u =
              let b = parted_number a hs cs S u.rest lt ek ev y in
              ap part_bytes b.is ∙ bytes_num v b.rest ∙ ap (λ (j : ℕ). plain j v ++ part_bytes b.rest) (sym y)

          go : (r : Option ℕ) → Kept on o o' i r → Shows on o o' i (plain k v) r → Stepped o' r (q + 1) n
          go (Some d) kp sh = record {
            few = omega (arith, w.few);
            kept = kept_then on o₀ o o' at i (Some d) w.kept kp;
            is = λ S ps f l.
                let u = w.is S ps f l in
                let b = parted_number a hs cs S u.rest lt ek ev y in
                record {
                  left = b.rest;
                  rest = b.behind;
                  low = omega (arith, u.low, ap depths b.is, depths_num v b.rest);
                  state = show_step on o₀ at (part_bytes ps) o i (part_bytes u.left) u.state (plain k v) (part_bytes b.rest) (bytes_are S ps u) o' d kp.long sh;
                };
          }
          go None kp sh = λ S ps f l.
              let u = w.is S ps f l in
              show_stop on o₀ at (part_bytes ps) o i (part_bytes u.left) u.state (plain k v) (part_bytes (part S ps u)) (bytes_are S ps u) o' sh

      pub row_child : (k ≡ 0 → ⊥) → (y : Content) → y.head ≡ head_of hs c.kids q n → y.kids ≡ kids_of cs c.kids n → (l : ℕ) → (1 ≤ span k v → l ≡ span k v) → 1 ≤ l
          → (r : Option ℕ) → Kept on o o' i r → Trees y o' r → Stepped o' r (q + l) (n + 1)
      row_child nk y yh yk l el l1 r kp sh = go r kp sh
        where
          shown : (r : Option ℕ) → Trees y o' r → (S : ℕ → Bool) (ps : Parts) (u : RowLeft S ps o i q n)
              → Shows on o o' i (bytes (parted_child a hs cs S u.rest lt ek ev nk).term) r
          shown r sh S ps u =
              let b = parted_child a hs cs S u.rest lt ek ev nk in
              sh S b.term (rw (yh, yk) b.tree) (λ g. omega (arith, u.low, ap depths b.is, depths_sub b.term b.rest))

          go : (r : Option ℕ) → Kept on o o' i r → Trees y o' r → Stepped o' r (q + l) (n + 1)
          go (Some d) kp sh = record {
            few = omega (arith, w.few);
            kept = kept_then on o₀ o o' at i (Some d) w.kept kp;
            is = λ S ps f z.
                let u = w.is S ps f z in
                let b = parted_child a hs cs S u.rest lt ek ev nk in
                record {
                  left = b.rest;
                  rest = rw (el b.some) b.behind;
                  low = omega (arith, u.low, ap depths b.is, depths_sub b.term b.rest);
                  state = show_step on o₀ at (part_bytes ps) o i (part_bytes u.left) u.state (bytes b.term) (part_bytes b.rest) (ap part_bytes b.is ∙ bytes_sub b.term b.rest) o' d kp.long
                      (shown (Some d) sh S ps u);
                };
          }
          go None kp sh = λ S ps f z.
              let u = w.is S ps f z in
              let b = parted_child a hs cs S u.rest lt ek ev nk in
              show_stop on o₀ at (part_bytes ps) o i (part_bytes u.left) u.state (bytes b.term) (part_bytes b.rest) (ap part_bytes b.is ∙ bytes_sub b.term b.rest) o'
              (shown None sh S ps u)

-- ---- a tree: its first token, and then its row

module _ (on : Bool) (o₀ o : List ℕ) (at : ℕ) (x rest whole : List ℕ) (e : whole ≡ x ++ rest) where
  pub shows_first : Shows on o₀ o at x None → Shows on o₀ o at whole None
  shows_first s = show_stop on o₀ at whole o₀ at whole (show_start on o₀ at whole) x rest e o s

  module _ (i : ℕ) (l : length o ≡ length o₀) (s : Shows on o₀ o at x (Some i)) where
    behind : Showing on o₀ at whole o i rest
    behind = show_step on o₀ at whole o₀ at whole (show_start on o₀ at whole) x rest e o i l s

    pub shows_then : (o' : List ℕ) (r : Option ℕ) → length o' ≡ length o → Shows on o o' i rest r → Shows on o₀ o' at whole r
    shows_then o' r l' s' = go r s'
      where
        go : (r : Option ℕ) → Shows on o o' i rest r → Shows on o₀ o' at whole r
        go (Some d) s' =
            show_end on o₀ at whole o' d [] (show_step on o₀ at whole o i rest behind rest [] (sym (append-nil rest)) o' d l' s') refl
        go None s' = show_stop on o₀ at whole o i rest behind rest [] (sym (append-nil rest)) o' s'
