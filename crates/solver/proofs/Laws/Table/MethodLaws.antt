-- The counters and the table after a method: a law for each change of the session.
use mathlib.Core.Path.{◌≡◌, refl, sym, ap, ◌∙◌, subst}
use mathlib.Core.Bool.{Bool, true, false, ◌&&◌}
use mathlib.Core.List.{List, [], ◌∷◌}
use mathlib.Core.Option.{Option, none, some}
use Prim.Native.Nat.{ℕ, zero, suc, ◌+◌, ◌-◌, ◌^◌, ◌≤◌, ◌<◌}
use native.Mathlib.Omega.{arith}
use native.Mathlib.Decide.{ℕ_discrete}
use borrow.Author.Tests.{le-leb, lt-leb, leb-true, leb-false, lt-ltb, le-ltb, ltb-true, eq-eqb, ne_eqb}
use lib.Dec.{eqb, ltb}
use lib.ListN.{length, get_or, take, drop, set, length-set}
use lib.Seq.{drop-drop, length-take-le, take-set-le, take-set-lt, drop-set-lt, get_or-set_same, get_or-set_other}
use Rattle.terms.specs.Result.{pick}
use Rattle.terms.specs.Term.{Term, var}
use Rattle.unify.specs.Solver.{put, put_same, put_other}
use Rattle.unify.specs.Term.{clash}
use Rattle.solver.specs.declared.Solver.{Solver}
use Rattle.solver.specs.declared.Defaulted.{Defaulted}
use Rattle.solver.specs.declared.Defaulted.TheVariants.{Requested, Deferred}
use Rattle.std.specs.Prelude.{Some, None, unwrap_or}
use Rattle.std.specs.Bool.{then_some}
use Rattle.std.specs.declared.option.Option as rust
use Rattle.solver.specs.declared.PlaceWords.{PlaceWords}
use Rattle.solver.specs.declared.Site.{Site}
use Rattle.solver.specs.declared.Site.TheVariants.{Slot, Hole}
use Rattle.solver.specs.Families.{Request}
use Rattle.solver.specs.Session.{Limits, VariablePlace, at, gap, same_place, Session, issued, find, with_solver, issue_at, request, deferring}
use Rattle.solver.specs.Orders.{full, variable_step, number_at, hole_at}
use Rattle.solver.specs.Invariant.{WithinLimits, InOrder}
use Rattle.solver.specs.Words.Bindings.{HeldWord, HeldBindings}
use Rattle.solver.specs.Words.ChainRecord.{chain_ends, Coming, HeldTails}
use Rattle.solver.specs.Words.ChainWords.{Near, ChainsMoved, TailsSet}
use Rattle.solver.specs.Words.Worklist.{Zero}
use Rattle.solver.specs.Words.SessionRepresentation.{limits_of, binding_words, request_words, place_words, site_words, slot_words, deferral_words, end_words, tail_words, HeldRequest, HeldPlace, HeldPlaces, Unplaced, flag, unused_words, Represents}
use Rattle.solver.specs.Words.MethodContract.{Shaped, Beside, bound_to, matches, last_match, found, placing, placed, named_of, Issued, Replied, reply_of, resolved_reply, never_word, default_word, end_word}
use Rattle.solver.specs.Words.OrderTerms.{place_of, words_of}
use Rattle.solver.specs.Words.TableLayout.{requests_from, places_from, sites_from, slots_from, deferrals_from, ends_from, tails_from, unused_from, unused_count, lasting_words}
use Rattle.solver.proofs.Laws.Definition.InOrderLaws.{find_issued}
use Rattle.solver.proofs.Laws.Definition.ChainRecordLaws.{in_order_coming, coming_issued, tails_issued}
use Rattle.solver.proofs.Laws.Resolving.BindingLaws.{bind_held}
use Rattle.solver.proofs.Laws.Table.ColumnLaws.{column_read, column_length, column_write, column_before, column_behind, column_same}
use Rattle.solver.proofs.Laws.Table.RequestWordLaws.{put_held}

-- ---- the method's table beside the columns

pub beside_same : (x : Solver) (ts : List ℕ) → Beside x x ts ts
beside_same x ts = record { variables = refl; nodes = refl; top = refl; size = refl; rest = refl }

-- one more word of a column is written
pub beside_set : (x y : Solver) (ts us : List ℕ) (j w : ℕ) → Beside x y ts us → j < lasting_words x.variables → Beside x y ts (set us j w)
beside_set x y ts us j w B l =
    record {
      variables = B.variables;
      nodes = B.nodes;
      top = B.top;
      size = length-set us j w ∙ B.size;
      rest = drop-set-lt (lasting_words x.variables) us j w l ∙ B.rest;
    }

pub beside_then : {x y z : Solver} {ts us ws : List ℕ} → Beside x y ts us → Beside y z us ws → Beside x z ts ws
beside_then {x} {y} {z} {ts} {us} {ws} B C =
    record {
      variables = C.variables ∙ B.variables;
      nodes = C.nodes ∙ B.nodes;
      top = C.top ∙ B.top;
      size = C.size ∙ B.size;
      rest = subst (λ (m : ℕ). drop (lasting_words m) ws ≡ drop (lasting_words m) us) B.variables C.rest ∙ B.rest;
    }

-- ---- tables that differ in the record of chains alone

pub near_same : (m : ℕ) (ts : List ℕ) → Near m ts ts
near_same m ts = record { size = refl; front = refl; rest = refl }

pub near_then : {m : ℕ} {ts us ws : List ℕ} → Near m ts us → Near m us ws → Near m ts ws
near_then N M = record { size = M.size ∙ N.size; front = M.front ∙ N.front; rest = M.rest ∙ N.rest }

-- a word of the two columns is written
pub near_set : (m : ℕ) (ts : List ℕ) (i w : ℕ) → ends_from m ≤ i → i < unused_from m → Near m ts (set ts i w)
near_set m ts i w h l = record { size = length-set ts i w; front = take-set-le (ends_from m) ts i w h; rest = drop-set-lt (unused_from m) ts i w l }

pub near_tails : {m n v tail : ℕ} {ts us : List ℕ} → TailsSet m n v tail ts us → Near m ts us
near_tails {m} {ts = ts} {us = us} T = record {
  size = T.size;
  front = column_same (ends_from m) 0 (tails_from m) us ts T.front (omega arith);
  rest = T.rest;
}

pub near_moved : {m n v end tail : ℕ} {ts us : List ℕ} → ChainsMoved m n v end tail ts us → Near m ts us
near_moved M = record { size = M.size; front = M.front; rest = M.rest }

module _ {m : ℕ} {ts us : List ℕ} (N : Near m ts us) where
  pub near_column : (k o : ℕ) → o + k ≤ ends_from m → take k (drop o us) ≡ take k (drop o ts)
  near_column k o h = column_same k o (ends_from m) us ts N.front h

  pub near_unused : unused_words m us ≡ unused_words m ts
  near_unused = ap (λ (l : List ℕ). take (unused_count m) l) N.rest

  pub near_rest : drop (lasting_words m) us ≡ drop (lasting_words m) ts
  near_rest =
      sym (drop-drop (unused_count m) (unused_from m) us) ∙ ap (λ (l : List ℕ). drop (unused_count m) l) N.rest ∙ drop-drop (unused_count m) (unused_from m) ts

-- the record of chains is written
pub beside_near : {x y : Solver} {ts us ws : List ℕ} → Beside x y ts us → Near x.variables us ws → Beside x y ts ws
beside_near {x} B N = record { variables = B.variables; nodes = B.nodes; top = B.top; size = N.size ∙ B.size; rest = near_rest N ∙ B.rest }

-- what the two columns hold
pub record Chained (m : ℕ) (ks vs us : List ℕ) (s : Session) : Type 0 where
  pub ends : HeldBindings ks vs (end_words m us) (chain_ends s.solver.revision s.solver.bindings)
  pub tails : HeldTails s.solver (issued s) (tail_words m us)
  pub untailed : (v : ℕ) → issued s ≤ v → get_or (tail_words m us) v 0 ≡ 0

-- ---- one law for all changes: what has changed is told

module _ (x y : Solver) (ks vs ts us : List ℕ) (s : Session) (L : Represents x ks vs ts s) (B : Beside x y ts us) where
  pub record Changed (s' : Session) : Type 0 where
    pub issued : y.issued ≡ issued s'
    pub revision : y.revision ≡ s'.solver.revision
    pub kept : y.kept ≡ s'.kept
    pub sum : s'.kept ≡ s.kept
    pub most : length s'.places ≤ x.variables
    pub bindings : HeldBindings ks vs (binding_words x.variables us) s'.solver.bindings
    pub requests : (v : ℕ) → HeldRequest (s'.solver.requests v) (get_or (request_words x.variables us) v 0)
    pub places : HeldPlaces (place_words x.variables us) (site_words x.variables us) (slot_words x.variables us) s'.places
    pub unplaced : Unplaced (length s'.places) (place_words x.variables us) (site_words x.variables us) (slot_words x.variables us)
    pub deferred : (v : ℕ) → get_or (deferral_words x.variables us) v 0 ≡ flag (s'.deferred v)
    pub chains : Chained x.variables ks vs us s'
    pub unused : unused_words x.variables us ≡ unused_words x.variables ts

  pub lent_changed : (s' : Session) → Changed s' → Represents y ks vs us s'
  lent_changed s' C =
      let e = sym B.variables in
      record {
        issued = C.issued;
        revision = C.revision;
        kept = C.kept;
        top = B.top ∙ L.top;
        vals = L.vals;
        short = L.short;
        narrow = subst (λ (m : ℕ). m < 65536) e L.narrow;
        room = omega (arith, B.variables, B.size, L.room);
        fits = record { variables = omega (arith, B.variables, C.most); nodes = omega (arith, B.nodes, C.sum, L.fits.nodes) };
        bindings = subst (λ (m : ℕ). HeldBindings ks vs (binding_words m us) s'.solver.bindings) e C.bindings;
        requests = subst (λ (m : ℕ). (v : ℕ) → HeldRequest (s'.solver.requests v) (get_or (request_words m us) v 0)) e C.requests;
        places = subst (λ (m : ℕ). HeldPlaces (place_words m us) (site_words m us) (slot_words m us) s'.places) e C.places;
        unplaced = subst (λ (m : ℕ). Unplaced (length s'.places) (place_words m us) (site_words m us) (slot_words m us)) e C.unplaced;
        deferred = subst (λ (m : ℕ). (v : ℕ) → get_or (deferral_words m us) v 0 ≡ flag (s'.deferred v)) e C.deferred;
        ends = subst (λ (m : ℕ). HeldBindings ks vs (end_words m us) (chain_ends s'.solver.revision s'.solver.bindings)) e C.chains.ends;
        tails = subst (λ (m : ℕ). HeldTails s'.solver (issued s') (tail_words m us)) e C.chains.tails;
        untailed = subst (λ (m : ℕ). (v : ℕ) → issued s' ≤ v → get_or (tail_words m us) v 0 ≡ 0) e C.chains.untailed;
        unused = subst (λ (m : ℕ). Zero (unused_words m us)) e (subst Zero (sym C.unused) L.unused);
        begun = omega (arith, L.begun, C.sum);
      }

-- a session that is held has the shape that methods ask for
pub held_shaped : {x : Solver} {ks vs ts : List ℕ} {s : Session} → Represents x ks vs ts s → Shaped x (length ts)
held_shaped L = record { issued = omega (arith, L.issued, L.fits.variables); room = L.room; narrow = L.narrow }

-- ---- places

-- a variable's words against those asked for
pub matches_same : (p q : VariablePlace) (kind site slot k s i : ℕ) → HeldPlace p kind site slot → HeldPlace q k s i → matches kind site slot k s i ≡ same_place p q
unfolding matches same_place
matches_same (at a b) (at c d) kind site slot k s i h g = rw (h.0, g.0, h.1, h.2, g.1, g.2)
matches_same (at a b) (gap c) kind site slot k s i h g = rw (h.0, g.0)
matches_same (gap a) (at c d) kind site slot k s i h g = rw (h.0, g.0)
matches_same (gap a) (gap c) kind site slot k s i h g = rw (h.0, g.0, h.1, g.1) (and-true (eqb a c))
  where
    and-true : (b : Bool) → (b && true) ≡ b
    and-true true = refl
    and-true false = refl

-- the words of a place hold it
pub place_held : (w : Site) {words : PlaceWords} → words ≡ words_of w → HeldPlace (place_of w) words.kind words.site words.slot
place_held (Slot s i) e = rw e (refl, refl, refl)
place_held (Hole s) e = rw e (refl, refl, refl)

-- by tests
module _ (kind site slot k s i : ℕ) where
  pub match_kind : (k ≡ kind → ⊥) → false ≡ matches kind site slot k s i
  unfolding matches
  match_kind e = rw (ne_eqb kind k (λ f. e (sym f)))

  pub match_site : k ≡ kind → (s ≡ site → ⊥) → false ≡ matches kind site slot k s i
  unfolding matches
  match_site e f = rw (eq-eqb kind k (sym e), ne_eqb site s (λ g. f (sym g)))

  -- another site, whatever the kind
  match_none : (s ≡ site → ⊥) → matches kind site slot k s i ≡ false
  match_none f = go (ℕ_discrete k kind)
    where
      go : Dec (k ≡ kind) → matches kind site slot k s i ≡ false
      go (yes h) = sym (match_site h f)
      go (no h) = sym (match_kind h)

  pub match_hole : k ≡ kind → s ≡ site → kind ≡ 2 → true ≡ matches kind site slot k s i
  unfolding matches
  match_hole e f g = rw (eq-eqb kind k (sym e), eq-eqb site s (sym f), eq-eqb kind 2 g)

  pub match_slot : k ≡ kind → s ≡ site → (kind ≡ 2 → ⊥) → eqb i slot ≡ matches kind site slot k s i
  unfolding matches
  match_slot e f g = rw (eq-eqb kind k (sym e), eq-eqb site s (sym f), ne_eqb kind 2 g) (go (ℕ_discrete i slot))
    where
      go : Dec (i ≡ slot) → eqb i slot ≡ eqb slot i
      go (yes h) = eq-eqb i slot h ∙ sym (eq-eqb slot i (sym h))
      go (no h) = ne_eqb i slot h ∙ sym (ne_eqb slot i (λ x. h (sym x)))

-- one variable more was looked at
module _ (kind site slot : ℕ) (ks ss is : List ℕ) (d n : ℕ) where
  pub match_here : matches kind site slot (get_or ks n 0) (get_or ss n 0) (get_or is n 0) ≡ true → last_match kind site slot ks ss is d (suc n) ≡ n
  unfolding last_match
  match_here e = rw e

  pub match_on : matches kind site slot (get_or ks n 0) (get_or ss n 0) (get_or is n 0) ≡ false
      → last_match kind site slot ks ss is d (suc n) ≡ last_match kind site slot ks ss is d n
  unfolding last_match
  match_on e = rw e

same_self : (p : VariablePlace) → same_place p p ≡ true
unfolding same_place
same_self (at s i) = rw (eq-eqb s s refl, eq-eqb i i refl)
same_self (gap s) = eq-eqb s s refl

module _ (p : VariablePlace) (kind site slot : ℕ) (h : HeldPlace p kind site slot) (ks ss is : List ℕ) (d : ℕ) where
  pub match_found : (ps : List VariablePlace) → HeldPlaces ks ss is ps → last_match kind site slot ks ss is d (length ps) ≡ found d (find p ps)
  unfolding last_match find
  match_found [] g = refl
  match_found (q ∷ ps) g =
      rw (matches_same p q kind site slot (get_or ks (length ps) 0) (get_or ss (length ps) 0) (get_or is (length ps) 0) h g.0, match_found ps g.1)
      (go (same_place p q))
    where
      go : (b : Bool) → pick b (length ps) (found d (find p ps)) ≡ found d (pick b (some (length ps)) (find p ps))
      go true = refl
      go false = refl

-- a search from the last variable down: n are left
module _ (kind site slot m : ℕ) (ts : List ℕ) (d : ℕ) where
  abbrev pub Last : ℕ → ℕ
  Last n = last_match kind site slot (place_words m ts) (site_words m ts) (slot_words m ts) d n

  abbrev pub Fits-at : ℕ → Bool
  Fits-at n = matches kind site slot (get_or ts (places_from m + n) 0) (get_or ts (sites_from m + n) 0) (get_or ts (slots_from m + n) 0)

  in_columns : (n : ℕ) → n < m → Fits-at n ≡ matches kind site slot (get_or (place_words m ts) n 0) (get_or (site_words m ts) n 0) (get_or (slot_words m ts) n 0)
  in_columns n l = rw (column_read m (places_from m) ts _ n refl l, column_read m (sites_from m) ts _ n refl l, column_read m (slots_from m) ts _ n refl l)

  pub search_hit : (a n : ℕ) → a ≡ Last n → 0 < n → n ≤ m → Fits-at (n - 1) ≡ true → n - 1 ≡ a
  search_hit a n e l o t =
      let q : n ≡ suc (n - 1) = omega arith in
      sym (e ∙ ap Last q ∙ match_here kind site slot (place_words m ts) (site_words m ts) (slot_words m ts) d (n - 1) (sym (in_columns (n - 1) (omega arith)) ∙ t))

  pub search_on : (a n : ℕ) → a ≡ Last n → 0 < n → n ≤ m → Fits-at (n - 1) ≡ false → a ≡ Last (n - 1)
  search_on a n e l o t =
      let q : n ≡ suc (n - 1) = omega arith in
      e ∙ ap Last q ∙ match_on kind site slot (place_words m ts) (site_words m ts) (slot_words m ts) d (n - 1) (sym (in_columns (n - 1) (omega arith)) ∙ t)

  -- where no variable below n has the site
  pub search_none : (n : ℕ) → n ≤ m → ((v : ℕ) → v < n → get_or ts (sites_from m + v) 0 ≡ site → ⊥) → d ≡ Last n
  unfolding last_match
  search_none zero l f = refl
  search_none (suc n) l f =
      search_none n (omega arith) (λ v h. f v (omega arith))
      ∙ sym (match_on kind site slot (place_words m ts) (site_words m ts) (slot_words m ts) d n (sym (in_columns n (omega arith)) ∙ match_none kind site slot _ _ _ (f n (omega arith))))

  pub search_answer : (r : ℕ) → r ≡ Last d → (p : VariablePlace) (ps : List VariablePlace) → HeldPlace p kind site slot → length ps ≡ d
      → HeldPlaces (place_words m ts) (site_words m ts) (slot_words m ts) ps → r ≡ found d (find p ps)
  search_answer r e p ps h l g = e ∙ ap Last (sym l) ∙ match_found p kind site slot h (place_words m ts) (site_words m ts) (slot_words m ts) d ps g

-- the words of a variable that is not issued are written
pub places_other : (ks ss is : List ℕ) (j a b c : ℕ) (ps : List VariablePlace) → length ps ≤ j → HeldPlaces ks ss is ps → HeldPlaces (set ks j a) (set ss j b) (set is j c) ps
places_other ks ss is j a b c [] l g = tt
places_other ks ss is j a b c (p ∷ ps) l g =
    let n : length ps ≡ j → ⊥ = λ e. omega arith in
    let e = get_or-set_other ks j (length ps) a 0 n in
    let f = get_or-set_other ss j (length ps) b 0 n in
    let r = get_or-set_other is j (length ps) c 0 n in
    (rw (e, f, r) g.0, places_other ks ss is j a b c ps (omega arith) g.1)

pub places_new : (ks ss is : List ℕ) (p : VariablePlace) (a b c : ℕ) (ps : List VariablePlace) → HeldPlace p a b c → length ps < length ks → length ps < length ss
    → length ps < length is → HeldPlaces ks ss is ps → HeldPlaces (set ks (length ps) a) (set ss (length ps) b) (set is (length ps) c) (p ∷ ps)
places_new ks ss is p a b c ps h l m n g = (
  rw (get_or-set_same ks (length ps) a 0 l, get_or-set_same ss (length ps) b 0 m, get_or-set_same is (length ps) c 0 n) h,
  places_other ks ss is (length ps) a b c ps (omega arith) g,
)

-- and from the next one on none is issued
pub unplaced_new : (ks ss is : List ℕ) (a b c n : ℕ) → Unplaced n ks ss is → Unplaced (suc n) (set ks n a) (set ss n b) (set is n c)
unplaced_new ks ss is a b c n u v l =
    let e : v ≡ n → ⊥ = λ q. omega arith in
    let w = u v (omega arith) in (
      get_or-set_other ks n v a 0 e ∙ w.0,
      get_or-set_other ss n v b 0 e ∙ w.1,
      get_or-set_other is n v c 0 e ∙ w.2,
    )

-- ---- the laws of the changes

module _ (x : Solver) (ks vs ts : List ℕ) (s : Session) (L : Represents x ks vs ts s) where
  abbrev m : ℕ
  m = x.variables

  fixed_deferred : (us : List ℕ) → deferral_words m us ≡ deferral_words m ts → (v : ℕ) → get_or (deferral_words m us) v 0 ≡ flag (s.deferred v)
  fixed_deferred us e v = ap (λ (l : List ℕ). get_or l v 0) e ∙ L.deferred v

  fixed_requests : (us : List ℕ) → request_words m us ≡ request_words m ts → (v : ℕ) → HeldRequest (s.solver.requests v) (get_or (request_words m us) v 0)
  fixed_requests us e v = rw e (L.requests v)

  fixed_bindings : (us : List ℕ) → binding_words m us ≡ binding_words m ts → HeldBindings ks vs (binding_words m us) s.solver.bindings
  fixed_bindings us e = rw e L.bindings

  fixed_places : (us : List ℕ) → place_words m us ≡ place_words m ts → site_words m us ≡ site_words m ts → slot_words m us ≡ slot_words m ts
      → HeldPlaces (place_words m us) (site_words m us) (slot_words m us) s.places
  fixed_places us e f g = rw (e, f, g) L.places

  fixed_unplaced : (us : List ℕ) → place_words m us ≡ place_words m ts → site_words m us ≡ site_words m ts → slot_words m us ≡ slot_words m ts
      → Unplaced (length s.places) (place_words m us) (site_words m us) (slot_words m us)
  fixed_unplaced us e f g = rw (e, f, g) L.unplaced

  -- the record where its columns are the same
  fixed_chains : (us : List ℕ) → end_words m us ≡ end_words m ts → tail_words m us ≡ tail_words m ts → Chained m ks vs us s
  fixed_chains us e f = record {
    ends = rw e L.ends;
    tails = subst (λ (l : List ℕ). HeldTails s.solver (issued s) l) (sym f) L.tails;
    untailed = λ v h. ap (λ (l : List ℕ). get_or l v 0) f ∙ L.untailed v h;
  }

  -- a new variable at the place p
  module _ (p : VariablePlace) (kind site slot : ℕ) (h : HeldPlace p kind site slot) (below : x.issued < m) (o : InOrder (issued s) s.solver) where
    abbrev placed_words : List ℕ
    placed_words = set (set (set ts (places_from m + x.issued) kind) (sites_from m + x.issued) site) (slots_from m + x.issued) slot

    abbrev written : List ℕ
    written = set placed_words (tails_from m + x.issued) (x.issued + 1)

    chained : Chained m ks vs written (issue_at s p)
    chained =
        let n = L.issued in
        let r = L.room in
        let low = L.narrow in
        let a = set ts (places_from m + x.issued) kind in
        let b = set a (sites_from m + x.issued) site in
        let tails : tail_words m written ≡ set (tail_words m ts) (issued s) (issued s + 1)
        = column_write m (tails_from m) placed_words _ x.issued (x.issued + 1) refl below
        ∙ ap (λ (l : List ℕ). set l x.issued (x.issued + 1))
        (column_before m (tails_from m) b (slots_from m + x.issued) slot (omega arith) ∙ column_before m (tails_from m) a (sites_from m + x.issued) site (omega arith)
        ∙ column_before m (tails_from m) ts (places_from m + x.issued) kind (omega arith))
        ∙ ap (λ (j : ℕ). set (tail_words m ts) j (j + 1)) n in
        let ends : end_words m written ≡ end_words m ts
        = column_behind m (ends_from m) placed_words (tails_from m + x.issued) (x.issued + 1) (omega arith)
        ∙ column_before m (ends_from m) b (slots_from m + x.issued) slot (omega arith) ∙ column_before m (ends_from m) a (sites_from m + x.issued) site (omega arith)
        ∙ column_before m (ends_from m) ts (places_from m + x.issued) kind (omega arith) in
        let size = column_length m (tails_from m) ts (omega arith) in
        let C = in_order_coming (issued s) s.solver o in
        let old = λ (u : ℕ). get_or (tail_words m ts) u 0 in
        let new = λ (u : ℕ). get_or (set (tail_words m ts) (issued s) (issued s + 1)) u 0 in
        record {
          ends = rw ends L.ends;
          tails = subst (λ (l : List ℕ). HeldTails s.solver (suc (issued s)) l) (sym tails)
              (tails_issued (issued s) s.solver C (o.unbound (issued s) (omega arith)) (o.unrequested (issued s) (omega arith)) old new L.tails
              (get_or-set_same (tail_words m ts) (issued s) (issued s + 1) 0 (omega (arith, size)) ∙ omega arith) (omega arith)
              (λ u l. get_or-set_other (tail_words m ts) (issued s) u (issued s + 1) 0 (λ q. omega arith)));
          untailed = λ u l. ap (λ (l : List ℕ). get_or l u 0) tails ∙ get_or-set_other (tail_words m ts) (issued s) u (issued s + 1) 0 (λ q. omega arith) ∙ L.untailed u (omega arith);
        }

    pub lent_issue : (y : Solver) → Beside x y ts written → y.issued ≡ x.issued + 1 → y.revision ≡ x.revision → y.kept ≡ x.kept
        → Represents y ks vs written (issue_at s p)
    lent_issue y B i r k =
        let a = set ts (places_from m + x.issued) kind in
        let b = set a (sites_from m + x.issued) site in
        let n = L.issued in
        let size = L.room in
        let lenA = length-set ts (places_from m + x.issued) kind in
        let lenB = length-set a (sites_from m + x.issued) site in
        let tail = x.issued + 1 in
        let at = tails_from m + x.issued in
        let places : place_words m written ≡ set (place_words m ts) (length s.places) kind
        = column_behind m (places_from m) placed_words at tail (omega arith) ∙ column_behind m (places_from m) b (slots_from m + x.issued) slot (omega arith) ∙ column_behind m (places_from m) a (sites_from m + x.issued) site (omega arith)
        ∙ column_write m (places_from m) ts _ x.issued kind refl below ∙ ap (λ (j : ℕ). set (place_words m ts) j kind) n in
        let sites : site_words m written ≡ set (site_words m ts) (length s.places) site
        = column_behind m (sites_from m) placed_words at tail (omega arith) ∙ column_behind m (sites_from m) b (slots_from m + x.issued) slot (omega arith) ∙ column_write m (sites_from m) a _ x.issued site refl below
        ∙ ap (λ (l : List ℕ). set l x.issued site) (column_before m (sites_from m) ts (places_from m + x.issued) kind (omega arith)) ∙ ap (λ (j : ℕ). set (site_words m ts) j site) n in
        let slots : slot_words m written ≡ set (slot_words m ts) (length s.places) slot
        = column_behind m (slots_from m) placed_words at tail (omega arith) ∙ column_write m (slots_from m) b _ x.issued slot refl below
        ∙ ap (λ (l : List ℕ). set l x.issued slot) (column_before m (slots_from m) a (sites_from m + x.issued) site (omega arith) ∙ column_before m (slots_from m) ts (places_from m + x.issued) kind (omega arith))
        ∙ ap (λ (j : ℕ). set (slot_words m ts) j slot) n in
        let bindings : binding_words m written ≡ binding_words m ts
        = take-set-le m placed_words at tail (omega arith) ∙ take-set-le m b (slots_from m + x.issued) slot (omega arith) ∙ take-set-le m a (sites_from m + x.issued) site (omega arith) ∙ take-set-le m ts (places_from m + x.issued) kind (omega arith) in
        let requests : request_words m written ≡ request_words m ts
        = column_behind m m placed_words at tail (omega arith) ∙ column_behind m m b (slots_from m + x.issued) slot (omega arith) ∙ column_behind m m a (sites_from m + x.issued) site (omega arith) ∙ column_behind m m ts (places_from m + x.issued) kind (omega arith) in
        let deferrals : deferral_words m written ≡ deferral_words m ts
        = column_behind m (deferrals_from m) placed_words at tail (omega arith) ∙ column_before m (deferrals_from m) b (slots_from m + x.issued) slot (omega arith) ∙ column_before m (deferrals_from m) a (sites_from m + x.issued) site (omega arith) ∙ column_before m (deferrals_from m) ts (places_from m + x.issued) kind (omega arith) in
        lent_changed x y ks vs ts written s L B (issue_at s p)
        (record {
          issued = omega arith;
          revision = r ∙ L.revision;
          kept = k ∙ L.kept;
          sum = refl;
          most = omega arith;
          bindings = fixed_bindings written bindings;
          requests = fixed_requests written requests;
          places =
              subst (λ (l : List ℕ). HeldPlaces l (site_words m written) (slot_words m written) (p ∷ s.places)) (sym places)
              (subst (λ (l : List ℕ). HeldPlaces (set (place_words m ts) (length s.places) kind) l (slot_words m written) (p ∷ s.places)) (sym sites)
              (subst (λ (l : List ℕ). HeldPlaces (set (place_words m ts) (length s.places) kind) (set (site_words m ts) (length s.places) site) l (p ∷ s.places)) (sym slots)
              (places_new (place_words m ts) (site_words m ts) (slot_words m ts) p kind site slot s.places h
              (omega (arith, column_length m (places_from m) ts (omega arith))) (omega (arith, column_length m (sites_from m) ts (omega arith))) (omega (arith, column_length m (slots_from m) ts (omega arith)))
              L.places)));
          unplaced = rw (places, sites, slots) (unplaced_new (place_words m ts) (site_words m ts) (slot_words m ts) kind site slot (length s.places) L.unplaced);
          deferred = fixed_deferred written deferrals;
          chains = chained;
          unused = column_before (unused_count m) (unused_from m) placed_words at tail (omega arith) ∙ column_before (unused_count m) (unused_from m) b (slots_from m + x.issued) slot (omega arith) ∙ column_before (unused_count m) (unused_from m) a (sites_from m + x.issued) site (omega arith) ∙ column_before (unused_count m) (unused_from m) ts (places_from m + x.issued) kind (omega arith);
        })

  -- v is a number variable, and the record follows
  module _ (v word : ℕ) (r : Request) (below : v < m) (held : HeldRequest (some r) word) where
    abbrev request_at : List ℕ
    request_at = set ts (requests_from m + v) word

    pub lent_request : (us : List ℕ) → Near m request_at us → Chained m ks vs us (request s v r) → Represents x ks vs us (request s v r)
    lent_request us N C =
        let w = word in
        let size = L.room in
        let places : place_words m us ≡ place_words m ts = near_column N m (places_from m) (omega arith) ∙ column_before m (places_from m) ts (m + v) w (omega arith) in
        let sites : site_words m us ≡ site_words m ts = near_column N m (sites_from m) (omega arith) ∙ column_before m (sites_from m) ts (m + v) w (omega arith) in
        let slots : slot_words m us ≡ slot_words m ts = near_column N m (slots_from m) (omega arith) ∙ column_before m (slots_from m) ts (m + v) w (omega arith) in
        lent_changed x x ks vs ts us s L (beside_near (beside_set x x ts ts (m + v) w (beside_same x ts) (omega arith)) N) (request s v r)
        (record {
          issued = L.issued;
          revision = L.revision;
          kept = L.kept;
          sum = refl;
          most = L.fits.variables;
          bindings = fixed_bindings us (near_column N m 0 (omega arith) ∙ take-set-le m ts (m + v) w (omega arith));
          requests = λ u. rw (near_column N m m (omega arith) ∙ column_write m m ts _ v w refl below) (put_held s.solver.requests (request_words m ts) v word r L.requests (omega (arith, column_length m m ts (omega arith))) held u);
          places = fixed_places us places sites slots;
          unplaced = fixed_unplaced us places sites slots;
          deferred = fixed_deferred us (near_column N m (deferrals_from m) (omega arith) ∙ column_before m (deferrals_from m) ts (m + v) w (omega arith));
          chains = C;
          unused = near_unused N ∙ column_before (unused_count m) (unused_from m) ts (m + v) w (omega arith);
        })

  -- v is deferred
  module _ (v : ℕ) (below : v < m) where
    deferred_held : (u : ℕ) → Dec (u ≡ v) → get_or (set (deferral_words m ts) v 1) u 0 ≡ flag (put s.deferred v true u)
    deferred_held u (yes e) =
        let l = L.room in
        rw (e, put_same s.deferred v true, get_or-set_same (deferral_words m ts) v 1 0 (omega (arith, column_length m (deferrals_from m) ts (omega arith))))
    deferred_held u (no e) =
        rw (put_other s.deferred v true u e, get_or-set_other (deferral_words m ts) v u 1 0 e) (L.deferred u)

    pub lent_defer : Represents x ks vs (set ts (deferrals_from m + v) 1) (deferring s (var v))
    unfolding deferring
    lent_defer =
        let us = set ts (deferrals_from m + v) 1 in
        let f = L.fits.variables in
        let r = L.room in
        lent_changed x x ks vs ts us s L (beside_set x x ts ts (deferrals_from m + v) 1 (beside_same x ts) (omega arith)) (deferring s (var v))
        (record {
          issued = L.issued;
          revision = L.revision;
          kept = L.kept;
          sum = refl;
          most = f;
          bindings = fixed_bindings us (take-set-le m ts (deferrals_from m + v) 1 (omega arith));
          requests = fixed_requests us (column_behind m m ts (deferrals_from m + v) 1 (omega arith));
          places = fixed_places us (column_behind m (places_from m) ts (deferrals_from m + v) 1 (omega arith)) (column_behind m (sites_from m) ts (deferrals_from m + v) 1 (omega arith)) (column_behind m (slots_from m) ts (deferrals_from m + v) 1 (omega arith));
          unplaced = fixed_unplaced us (column_behind m (places_from m) ts (deferrals_from m + v) 1 (omega arith)) (column_behind m (sites_from m) ts (deferrals_from m + v) 1 (omega arith)) (column_behind m (slots_from m) ts (deferrals_from m + v) 1 (omega arith));
          deferred = λ u. ap (λ (l : List ℕ). get_or l u 0) (column_write m (deferrals_from m) ts _ v 1 refl below) ∙ deferred_held u (ℕ_discrete u v);
          chains =
              let C = fixed_chains us (column_before m (ends_from m) ts (deferrals_from m + v) 1 (omega arith)) (column_before m (tails_from m) ts (deferrals_from m + v) 1 (omega arith)) in
              record { ends = C.ends; tails = C.tails; untailed = C.untailed };
          unused = column_before (unused_count m) (unused_from m) ts (deferrals_from m + v) 1 (omega arith);
        })

  -- v is bound to the term of a word, in a table whose record has followed
  module _ (v word : ℕ) (t : Term) (below : v < m) (held : HeldWord ks vs t word) where
    pub lent_bound : (y : Solver) (us : List ℕ) → Near m ts us → Beside x y ts (set us v word) → y.issued ≡ x.issued → y.revision ≡ x.revision + 1 → y.kept ≡ x.kept
        → Chained m ks vs (set us v word) (with_solver s (bound_to s.solver v t s.solver.requests))
        → Represents y ks vs (set us v word) (with_solver s (bound_to s.solver v t s.solver.requests))
    lent_bound y us N B i r k C =
        let f = L.fits.variables in
        let size = L.room in
        let places : place_words m (set us v word) ≡ place_words m ts = column_before m (places_from m) us v word (omega arith) ∙ near_column N m (places_from m) (omega arith) in
        let sites : site_words m (set us v word) ≡ site_words m ts = column_before m (sites_from m) us v word (omega arith) ∙ near_column N m (sites_from m) (omega arith) in
        let slots : slot_words m (set us v word) ≡ slot_words m ts = column_before m (slots_from m) us v word (omega arith) ∙ near_column N m (slots_from m) (omega arith) in
        lent_changed x y ks vs ts (set us v word) s L B (with_solver s (bound_to s.solver v t s.solver.requests))
        (record {
          issued = i ∙ L.issued;
          revision = omega (arith, L.revision);
          kept = k ∙ L.kept;
          sum = refl;
          most = f;
          bindings = rw (take-set-lt m us v word below, near_column N m 0 (omega arith))
              (bind_held ks vs (binding_words m ts) s.solver.bindings v word t L.bindings (omega (arith, length-take-le m ts (omega arith))) held);
          requests = fixed_requests (set us v word) (column_before m m us v word (omega arith) ∙ near_column N m m (omega arith));
          places = fixed_places (set us v word) places sites slots;
          unplaced = fixed_unplaced (set us v word) places sites slots;
          deferred = fixed_deferred (set us v word) (column_before m (deferrals_from m) us v word (omega arith) ∙ near_column N m (deferrals_from m) (omega arith));
          chains = C;
          unused = column_before (unused_count m) (unused_from m) us v word (omega arith) ∙ near_unused N;
        })

-- ---- the variable of a place

module _ (x : Solver) (ks vs ts : List ℕ) (s : Session) (L : Represents x ks vs ts s) (p : VariablePlace) (v : ℕ) (e : v ≡ found x.issued (find p s.places)) where
  not_found : x.issued ≤ v → find p s.places ≡ none
  not_found l = go (find p s.places) refl e
    where
      go : (o : Option ℕ) → find p s.places ≡ o → v ≡ found x.issued o → o ≡ none
      go none q f = refl
      go (some w) q f = absurd (omega (arith, find_issued p s.places w q, L.issued))

  is_found : v < x.issued → find p s.places ≡ some v
  is_found l = go (find p s.places) refl e
    where
      go : (o : Option ℕ) → find p s.places ≡ o → v ≡ found x.issued o → o ≡ some v
      go none q f = absurd (omega arith)
      go (some w) q f = ap some (sym f)

  -- without issuing it: none where that is past the limit
  pub placed_below : then_some (ltb v x.variables) v ≡ named_of (placed (limits_of x) s p).variable
  unfolding placing
  placed_below = go (find p s.places) refl e (full (limits_of x) s) refl
    where
      go : (o : Option ℕ) → find p s.places ≡ o → v ≡ found x.issued o → (b : Bool) → full (limits_of x) s ≡ b
          → then_some (ltb v x.variables) v ≡ named_of (placing s p o b).variable
      go (some w) q f b g = rw (lt-ltb v x.variables (omega (arith, find_issued p s.places w q, L.issued, L.fits.variables))) (ap Some f)
      go none q f true g = rw (le-ltb v x.variables (omega (arith, leb-true x.variables (length s.places) g, L.issued))) refl
      go none q f false g = rw (lt-ltb v x.variables (omega (arith, leb-false x.variables (length s.places) g, L.issued))) (ap Some (f ∙ L.issued))

  pub issued_found : v < x.issued → Issued x ks vs ts p (placed (limits_of x) s p) (Some v)
  unfolding placing
  issued_found l =
      let f = is_found l in
      rw f (record { represents = L; answer = refl; located = (f, omega (arith, L.issued)) })

  pub issued_full : x.issued ≤ v → x.variables ≤ x.issued → Issued x ks vs ts p (placed (limits_of x) s p) None
  unfolding placing
  issued_full l n =
      let f = not_found l in
      rw (f, le-leb x.variables (length s.places) (omega (arith, L.issued))) (record { represents = L; answer = refl; located = f })

  pub issued_new : (kind site slot : ℕ) → HeldPlace p kind site slot → InOrder (issued s) s.solver → x.issued ≤ v → (n : x.issued < x.variables) → (y : Solver)
      → Beside x y ts (set (set (set (set ts (places_from x.variables + x.issued) kind) (sites_from x.variables + x.issued) site) (slots_from x.variables + x.issued) slot) (tails_from x.variables + x.issued) (x.issued + 1))
      → y.issued ≡ x.issued + 1 → y.revision ≡ x.revision → y.kept ≡ x.kept
      → Issued y ks vs (set (set (set (set ts (places_from x.variables + x.issued) kind) (sites_from x.variables + x.issued) site) (slots_from x.variables + x.issued) slot) (tails_from x.variables + x.issued) (x.issued + 1)) p
      (placed (limits_of x) s p) (Some x.issued)
  unfolding placing find
  issued_new kind site slot h o l n y B i r k =
      let f = not_found l in
      rw (f, lt-leb x.variables (length s.places) (omega (arith, L.issued)))
      (record {
        represents = lent_issue x ks vs ts s L p kind site slot h n o y B i r k;
        answer = ap Some L.issued;
        located = (rw (same_self p, L.issued), omega (arith, L.issued));
      })

-- a number that is answered where it is below m
pub then_below : (v m : ℕ) (r : rust.Option ℕ) → r ≡ then_some (ltb v m) v → (w : ℕ) → r ≡ Some w → w < m
then_below v m r e w f = go (ltb v m) refl (sym f ∙ e)
  where
    go : (b : Bool) → ltb v m ≡ b → Some w ≡ then_some b v → w < m
    go true g h =
        let i : w ≡ v = cc in
        omega (arith, ltb-true v m g)
    go false g h = clash cc

-- what a search finds, as an answer and as a number
pub found_number : (r : rust.Option ℕ) (o : Option ℕ) (d : ℕ) → r ≡ named_of o → unwrap_or r d ≡ found d o
found_number r none d e = rw e
found_number r (some v) d e = rw e

pub found_low : (r : rust.Option ℕ) (d : ℕ) → ((v : ℕ) → r ≡ Some v → v < d) → unwrap_or r d ≤ d
found_low None d l = omega arith
found_low (Some v) d l = omega (arith, l v refl)

pub found_named : (v d : ℕ) (o : Option ℕ) → v ≡ found d o → v < d → Some v ≡ named_of o
found_named v d none e l = absurd (omega arith)
found_named v d (some w) e l = ap Some e

pub none_named : (d : ℕ) (o : Option ℕ) → d ≡ found d o → ((w : ℕ) → o ≡ some w → w < d) → None ≡ named_of o
none_named d none e l = refl
none_named d (some w) e l = absurd (omega (arith, l w refl))

-- the variable that a place has or would be given, told by its name
module _ (lim : Limits) (s : Session) (p : VariablePlace) (fits : WithinLimits lim s) where
  pub named_next : (v : ℕ) → Some v ≡ named_of (placed lim s p).variable → (v ≡ found (issued s) (find p s.places)) × (v < lim.variables)
  unfolding placing
  named_next v = go (find p s.places) refl (full lim s) refl
    where
      go : (o : Option ℕ) → find p s.places ≡ o → (b : Bool) → full lim s ≡ b → Some v ≡ named_of (placing s p o b).variable
          → (v ≡ found (issued s) o) × (v < lim.variables)
      go (some w) q b f e =
          let i : v ≡ w = cc in
          (i, omega (arith, find_issued p s.places w q, fits.variables))
      go none q true f e = clash cc
      go none q false f e =
          let i : v ≡ issued s = cc in
          (i, omega (arith, leb-false lim.variables (issued s) f))

  pub named_none : None ≡ named_of (placed lim s p).variable → (find p s.places ≡ none) × (full lim s ≡ true)
  unfolding placing
  named_none = go (find p s.places) (full lim s)
    where
      go : (o : Option ℕ) (b : Bool) → None ≡ named_of (placing s p o b).variable → (o ≡ none) × (b ≡ true)
      go (some w) b e = clash cc
      go none true e = (refl, refl)
      go none false e = clash cc

-- ---- orders 0 to 2

module _ (y : Solver) (ks vs us : List ℕ) (lim : Limits) (s : Session) (p : VariablePlace) where
  pub variable_replied : (a : rust.Option ℕ) → Issued y ks vs us p (placed lim s p) a → Replied y ks vs us p (variable_step lim s p (find p s.places) (full lim s)) reply_of a
  unfolding placing variable_step
  variable_replied a = go (find p s.places) (full lim s)
    where
      go : (o : Option ℕ) (b : Bool) → Issued y ks vs us p (placing s p o b) a → Replied y ks vs us p (variable_step lim s p o b) reply_of a
      go (some v) b i = record { represents = i.represents; reply = ap reply_of (sym i.answer); located = i.located }
      go none true i = record { represents = i.represents; reply = ap reply_of (sym i.answer); located = i.located }
      go none false i = record { represents = i.represents; reply = ap reply_of (sym i.answer); located = i.located }

  pub hole_replied : (a : rust.Option ℕ) → Issued y ks vs us p (placed lim s p) a
      → Replied y ks vs us p (hole_at lim s p (find p s.places) (full lim s)) (resolved_reply (hole_at lim s p (find p s.places) (full lim s)).session.solver) a
  unfolding placing hole_at
  hole_replied a = go (find p s.places) (full lim s)
    where
      go : (o : Option ℕ) (b : Bool) → Issued y ks vs us p (placing s p o b) a → Replied y ks vs us p (hole_at lim s p o b) (resolved_reply (hole_at lim s p o b).session.solver) a
      go (some v) b i = record { represents = i.represents; reply = ap (resolved_reply s.solver) (sym i.answer); located = i.located }
      go none true i = record { represents = i.represents; reply = ap (resolved_reply s.solver) (sym i.answer); located = i.located }
      go none false i = record { represents = i.represents; reply = ap (resolved_reply s.solver) (sym i.answer); located = i.located }

  -- order 1, where no variable may be issued
  pub number_full : (r : Request) → Issued y ks vs us p (placed lim s p) None
      → Replied y ks vs us p (number_at lim s p r (find p s.places) (full lim s)) (resolved_reply (number_at lim s p r (find p s.places) (full lim s)).session.solver) None
  unfolding placing number_at
  number_full r = go (find p s.places) (full lim s)
    where
      go : (o : Option ℕ) (b : Bool) → Issued y ks vs us p (placing s p o b) None → Replied y ks vs us p (number_at lim s p r o b) (resolved_reply (number_at lim s p r o b).session.solver) None
      go (some v) b i = clash (let e = i.answer in cc)
      go none true i = record { represents = i.represents; reply = refl; located = i.located }
      go none false i = clash (let e = i.answer in cc)

  -- and where the place has its variable, whose request is written: what that leaves of the words is told
  pub number_replied : (v : ℕ) (r : Request) (ws : List ℕ) → Issued y ks vs us p (placed lim s p) (Some v)
      → Coming (issued s) s.solver → ((s' : Session) → Coming (issued s') s'.solver → Represents y ks vs us s' → Represents y ks vs ws (request s' v r))
      → Replied y ks vs ws p (number_at lim s p r (find p s.places) (full lim s))
      (resolved_reply (number_at lim s p r (find p s.places) (full lim s)).session.solver) (Some v)
  unfolding placing number_at
  number_replied v r ws j C there = go (find p s.places) (full lim s) j
    where
      go : (o : Option ℕ) (b : Bool) → Issued y ks vs us p (placing s p o b) (Some v)
          → Replied y ks vs ws p (number_at lim s p r o b) (resolved_reply (number_at lim s p r o b).session.solver) (Some v)
      go (some w) b i =
          let e : v ≡ w = let q = i.answer in cc in
          rw (← e) (record { represents = there s C i.represents; reply = refl; located = i.located })
      go none true i = clash (let e = i.answer in cc)
      go none false i =
          let e : v ≡ issued s = let q = i.answer in cc in
          rw (← e) (record { represents = there (issue_at s p) (coming_issued (issued s) s.solver C) i.represents; reply = refl; located = i.located })

  pub number_none : (a : rust.Option ℕ) (r : Request) → a ≡ None → Issued y ks vs us p (placed lim s p) a
      → Replied y ks vs us p (number_at lim s p r (find p s.places) (full lim s)) (resolved_reply (number_at lim s p r (find p s.places) (full lim s)).session.solver) None
  number_none a r e i = number_full r (subst (λ (b : rust.Option ℕ). Issued y ks vs us p (placed lim s p) b) e i)

-- ---- requests on words

pub request_near : (m : ℕ) (ts : List ℕ) (v : ℕ) → v < m → get_or ts (m + v) 0 ≡ get_or (request_words m ts) v 0
request_near m ts v l = sym (column_read m m ts _ v refl l)

-- ---- words that defaults go by

module _ (which : Defaulted) (m : ℕ) (ts : List ℕ) (v : ℕ) where
  pub default_none : which ≡ Deferred → get_or ts (deferrals_from m + v) 0 ≡ 0 → 0 ≡ default_word which m ts v
  unfolding default_word never_word
  default_none b e = rw (b, e)

  pub default_never : which ≡ Deferred → (get_or ts (deferrals_from m + v) 0 ≡ 0 → ⊥) → 11 ≡ default_word which m ts v
  unfolding default_word never_word
  default_never b e = rw b (go (get_or ts (deferrals_from m + v) 0) e)
    where
      go : (d : ℕ) → (d ≡ 0 → ⊥) → 11 ≡ never_word d
      go zero n = absurd (n refl)
      go (suc d) n = refl

  pub default_request : which ≡ Requested → get_or ts (m + v) 0 ≡ default_word which m ts v
  unfolding default_word
  default_request b = rw b

  pub end_never : which ≡ Deferred → 0 ≡ end_word which m ts v
  unfolding end_word
  end_never b = rw b

  pub end_request : which ≡ Requested → get_or ts (m + v) 0 ≡ end_word which m ts v
  unfolding end_word
  end_request b = rw b
