-- Laws of a session that the counters, the areas and a table hold: the tokens that begin a term, more tokens, other scratch, and the start.
use mathlib.Core.List.{List, [], ◌∷◌, ◌++◌}
use mathlib.Core.Option.{Option, none, some}
use mathlib.Core.Path.{◌≡◌, refl, sym, ap, subst, ◌∙◌}
use Prim.Native.Nat.{ℕ, zero, suc, ◌+◌, ◌^◌, ◌<◌, ◌≤◌}
use native.Mathlib.Nat.{add-zero}
use native.Mathlib.Omega.{arith}
use lib.Dec.{eqb, eqb-suc-zero}
use lib.ListN.{length, get_or, take, drop}
use lib.Seq.{ext_get_or, get_or-take, length-take-le, take-length, take-suc}
use Rattle.terms.specs.Result.{pick}
use Rattle.terms.specs.Words.Tokens.{Item, item, spell, toks}
use Rattle.terms.specs.Term.{Term, Parts, var, node, end, num, sub, items, part_items, size, sizes, Held}
use Rattle.solver.specs.declared.Solver.{Solver}
use Rattle.solver.specs.Session.{Session, issued, fresh, keep}
use Rattle.solver.specs.Words.Bindings.{defaults, HeldWord, placed, coded, HeldBinding, HeldBindings}
use Rattle.solver.specs.Words.Worklist.{Zero}
use Rattle.solver.specs.Words.SessionRepresentation.{binding_words, end_words, HeldRequest, begins, Represents}
use Rattle.solver.specs.Words.ChainRecord.{chain_ends, HeldTails}
use Rattle.solver.proofs.Laws.Definition.ChainRecordLaws.{ends_none}
use Rattle.solver.specs.Words.TableLayout.{places_from, sites_from, slots_from, deferrals_from, ends_from, tails_from, unused_from, unused_count, lasting_words}
use Rattle.solver.proofs.Laws.Table.ColumnLaws.{column_same, column_zero}

-- ---- the tokens that begin a term

-- how many items of a run do
unfoldable heads : List Item → ℕ
heads [] = 0
heads (item k v ∷ l) = pick (eqb k 0) 0 1 + heads l

heads_append : (l m : List Item) → heads (l ++ m) ≡ heads l + heads m
unfolding heads
heads_append [] m = omega arith
heads_append (item k v ∷ l) m = omega (arith, heads_append l m)

mutual
  unfolding heads items size

  heads_items : (t : Term) → heads (items t) ≡ size t
  heads_items (var v) = refl
  heads_items (node k ps) = rw (eqb-suc-zero (suc k)) (omega (arith, heads_parts ps))

  heads_parts : (ps : Parts) → heads (part_items ps) ≡ sizes ps
  heads_parts end = refl
  heads_parts (num n ps) = omega (arith, heads_parts ps)
  heads_parts (sub t ps) = omega (arith, heads_append (items t) (part_items ps), heads_items t, heads_parts ps)

begins_snoc : (l : List ℕ) (k : ℕ) → begins (l ++ (k ∷ [])) ≡ begins l + pick (eqb k 0) 0 1
unfolding begins
begins_snoc [] k = omega arith
begins_snoc (x ∷ xs) k = omega (arith, begins_snoc xs k)

-- a run of tokens has as many as its items say
begins_run : (ks vs : List ℕ) (a c : ℕ) → a + c ≤ length ks → begins (take (a + c) ks) ≡ begins (take a ks) + heads (toks ks vs a c)
unfolding heads spell
begins_run ks vs a zero h = ap (λ (k : ℕ). begins (take k ks)) (add-zero a) ∙ sym (add-zero (begins (take a ks)))
begins_run ks vs a (suc c) h =
    let e : a + suc c ≡ suc a + c = omega arith in
    let s : begins (take (suc a) ks) ≡ begins (take a ks) + pick (eqb (get_or ks a 0) 0) 0 1
    = ap begins (take-suc ks a 0 (omega arith)) ∙ begins_snoc (take a ks) (get_or ks a 0) in
    ap (λ (k : ℕ). begins (take k ks)) e ∙ omega (arith, begins_run ks vs (suc a) c (omega arith), s)

-- those of a term are its nodes, and those of a row the nodes of its terms
pub begins_items : (ks vs : List ℕ) (p : ℕ) (t : Term) → Held ks vs p t → begins (take (p + length (items t)) ks) ≡ begins (take p ks) + size t
begins_items ks vs p t h =
    begins_run ks vs p (length (items t)) h.within ∙ ap (λ (l : List Item). begins (take p ks) + heads l) h.tokens
    ∙ ap (λ (n : ℕ). begins (take p ks) + n) (heads_items t)

-- ---- more tokens

-- the areas ks₀ and vs₀ are the start of ks and vs
pub record Longer (ks₀ vs₀ ks vs : List ℕ) : Type 0 where
  pub longer : length ks₀ ≤ length ks
  pub kinds : (i : ℕ) → i < length ks₀ → get_or ks i 0 ≡ get_or ks₀ i 0
  pub vals : (i : ℕ) → i < length ks₀ → get_or vs i 0 ≡ get_or vs₀ i 0

-- so are the first n tokens of two areas
pub longer_take : (ks vs : List ℕ) (n : ℕ) → n ≤ length ks → Longer (take n ks) (take n vs) ks vs
longer_take ks vs n h =
    let l = length-take-le n ks h in
    record {
      longer = omega arith;
      kinds = λ i x. sym (get_or-take n ks i 0 (omega arith));
      vals = λ i x. sym (get_or-take n vs i 0 (omega arith));
    }

module _ {ks₀ vs₀ ks vs : List ℕ} (G : Longer ks₀ vs₀ ks vs) where
  toks_longer : (a c : ℕ) → a + c ≤ length ks₀ → toks ks vs a c ≡ toks ks₀ vs₀ a c
  unfolding spell
  toks_longer a zero h = refl
  toks_longer a (suc c) h = rw (G.kinds a (omega arith), G.vals a (omega arith), toks_longer (suc a) c (omega arith))

  pub held_longer : (p : ℕ) (t : Term) → Held ks₀ vs₀ p t → Held ks vs p t
  held_longer p t h = record { tokens = toks_longer p (length (items t)) h.within ∙ h.tokens; within = omega (arith, h.within, G.longer) }

  word_longer : (t : Term) (word : ℕ) → HeldWord ks₀ vs₀ t word → HeldWord ks vs t word
  word_longer t word (placed p e h) = placed p e (held_longer p t h)
  word_longer t word (coded c l e f) = coded c l e f

  pub bindings_longer : length ks < defaults → (bs : List ℕ) (b : ℕ → Option Term) → HeldBindings ks₀ vs₀ bs b → HeldBindings ks vs bs b
  bindings_longer short bs b h = record { short = short; words = λ v. go v (b v) (h.words v) }
    where
      go : (v : ℕ) (o : Option Term) → HeldBinding ks₀ vs₀ o (get_or bs v 0) → HeldBinding ks vs o (get_or bs v 0)
      go v none w = w
      go v (some t) w = word_longer t (get_or bs v 0) w

  pub start_longer : take (length ks₀) ks ≡ ks₀
  start_longer =
      let l = length-take-le (length ks₀) ks G.longer in
      ext_get_or 0 (take (length ks₀) ks) ks₀ l (λ i x. get_or-take (length ks₀) ks i 0 (omega arith) ∙ G.kinds i (omega arith))

  -- two terms, as order 4 has them
  pub begins_pair : (t u : Term) → Held ks vs (length ks₀) t → Held ks vs (length ks₀ + length (items t)) u
      → length ks ≡ length ks₀ + length (items t) + length (items u) → begins ks ≡ begins ks₀ + (size t + size u)
  begins_pair t u h k e =
      ap begins (sym (take-length ks) ∙ ap (λ (n : ℕ). take n ks) e)
      ∙ omega (arith, begins_items ks vs (length ks₀ + length (items t)) u k, begins_items ks vs (length ks₀) t h, ap begins start_longer)

  -- a session stays held where n nodes more are kept
  pub lent_more : {x : Solver} {ts : List ℕ} {s : Session} → Represents x ks₀ vs₀ ts s → (n : ℕ)
      → length vs ≡ length ks → length ks < defaults → begins ks ≡ begins ks₀ + n → s.kept + n ≤ x.nodes
      → Represents (record { variables = x.variables; nodes = x.nodes; issued = x.issued; revision = x.revision; kept = x.kept + n; top = length ks })
      ks vs ts (keep s s.solver n)
  lent_more {x} {ts} {s} L n l short b room =
      record {
        issued = L.issued;
        revision = L.revision;
        kept = omega (arith, L.kept);
        top = refl;
        vals = l;
        short = short;
        narrow = L.narrow;
        room = L.room;
        fits = record { variables = L.fits.variables; nodes = room };
        bindings = bindings_longer short (binding_words x.variables ts) s.solver.bindings L.bindings;
        requests = L.requests;
        places = L.places;
        unplaced = L.unplaced;
        deferred = L.deferred;
        ends = bindings_longer short (end_words x.variables ts) (chain_ends s.solver.revision s.solver.bindings) L.ends;
        tails = L.tails;
        untailed = L.untailed;
        unused = L.unused;
        begun = omega (arith, b, L.begun);
      }

-- ---- other scratch

pub lent_scratch : (x : Solver) (ks vs ts ts' : List ℕ) (s : Session) → Represents x ks vs ts s
    → take (lasting_words x.variables) ts ≡ take (lasting_words x.variables) ts' → lasting_words x.variables ≤ length ts' → Represents x ks vs ts' s
lent_scratch x ks vs ts ts' s L e r =
    record {
      issued = L.issued;
      revision = L.revision;
      kept = L.kept;
      top = L.top;
      vals = L.vals;
      short = L.short;
      narrow = L.narrow;
      room = r;
      fits = L.fits;
      bindings = subst (λ (l : List ℕ). HeldBindings ks vs l s.solver.bindings) (same 0 (omega arith)) L.bindings;
      requests = λ v. subst (λ (l : List ℕ). HeldRequest (s.solver.requests v) (get_or l v 0)) (same m (omega arith)) (L.requests v);
      places = rw (← (same (places_from m) (omega arith)), ← (same (sites_from m) (omega arith)), ← (same (slots_from m) (omega arith))) L.places;
      unplaced = rw (← (same (places_from m) (omega arith)), ← (same (sites_from m) (omega arith)), ← (same (slots_from m) (omega arith))) L.unplaced;
      deferred = λ v. ap (λ (l : List ℕ). get_or l v 0) (sym (same (deferrals_from m) (omega arith))) ∙ L.deferred v;
      ends = subst (λ (l : List ℕ). HeldBindings ks vs l (chain_ends s.solver.revision s.solver.bindings)) (same (ends_from m) (omega arith)) L.ends;
      tails = subst (λ (l : List ℕ). HeldTails s.solver (issued s) l) (same (tails_from m) (omega arith)) L.tails;
      untailed = λ v h. ap (λ (l : List ℕ). get_or l v 0) (sym (same (tails_from m) (omega arith))) ∙ L.untailed v h;
      unused = λ v. ap (λ (l : List ℕ). get_or l v 0) (sym (column_same (unused_count m) (unused_from m) (lasting_words m) ts ts' e (omega arith))) ∙ L.unused v;
      begun = L.begun;
    }
  where
    m : ℕ
    m = x.variables

    same : (o : ℕ) → o + x.variables ≤ lasting_words x.variables → take x.variables (drop o ts) ≡ take x.variables (drop o ts')
    same o h = column_same x.variables o (lasting_words x.variables) ts ts' e h

-- ---- the start

begins_none : (ks : List ℕ) → length ks ≡ 0 → begins ks ≡ 0
unfolding begins
begins_none [] e = refl
begins_none (k ∷ ks) e = absurd (omega arith)

-- nothing issued, bound or kept: no tokens, and the table is all 0
pub lent_fresh : (x : Solver) (ks vs ts : List ℕ) → x.issued ≡ 0 → x.revision ≡ 0 → x.kept ≡ 0 → x.top ≡ 0
    → length ks ≡ 0 → length vs ≡ 0 → x.variables < 65536 → lasting_words x.variables ≤ length ts → Zero ts
    → Represents x ks vs ts fresh
lent_fresh x ks vs ts i r k t lk lv narrow room z =
    record {
      issued = i;
      revision = r;
      kept = k;
      top = t ∙ sym lk;
      vals = lv ∙ sym lk;
      short = omega arith;
      narrow = narrow;
      room = room;
      fits = record { variables = omega arith; nodes = omega arith };
      bindings = record { short = omega arith; words = λ v. column_zero x.variables 0 ts z v };
      requests = λ v. column_zero x.variables x.variables ts z v;
      places = tt;
      unplaced = λ v _. (column_zero x.variables (places_from x.variables) ts z v, column_zero x.variables (sites_from x.variables) ts z v, column_zero x.variables (slots_from x.variables) ts z v);
      deferred = λ v. column_zero x.variables (deferrals_from x.variables) ts z v;
      ends = record {
        short = omega arith;
        words = λ v. subst (λ (o : Option Term). HeldBinding ks vs o (get_or (end_words x.variables ts) v 0)) (sym (ends_none 0 (λ u. none) v refl)) (column_zero x.variables (ends_from x.variables) ts z v);
      };
      tails = λ v h. absurd (omega arith);
      untailed = λ v _. column_zero x.variables (tails_from x.variables) ts z v;
      unused = λ v. column_zero (unused_count x.variables) (unused_from x.variables) ts z v;
      begun = begins_none ks lk;
    }
