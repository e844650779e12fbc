-- The record of chains in the table: after a binding, and after a request.
use mathlib.Core.Path.{◌≡◌, refl, sym, ap, ◌∙◌, subst}
use mathlib.Core.Bool.{Bool, true, false, ◌&&◌}
use mathlib.Core.List.{List}
use mathlib.Core.Logic.{◌≢◌}
use mathlib.Core.Option.{Option, none, some}
use Prim.Native.Nat.{ℕ, suc, ◌+◌, ◌*◌, ◌/◌, ◌%◌, ◌<◌, ◌≤◌}
use native.Mathlib.Numerals.{add-one}
use Rattle.std.specs.Prelude.{Some, None}
use native.Mathlib.Decide.{ℕ_discrete, dec_lt}
use native.Mathlib.Omega.{arith}
use borrow.Author.Tests.{eqb-true, eqb-false, eq-eqb, ne_eqb}
use lib.Dec.{eqb}
use lib.ListN.{length, get_or, set, get_or-eq_default, length-take, length-set}
use lib.Seq.{get_or-set_same, get_or-set_other, length-take-le, take-set-le}
use Rattle.terms.specs.Result.{pick}
use Rattle.terms.specs.Term.{Term, Parts, var, node}
use Rattle.unify.specs.Solver.{put}
use Rattle.unify.specs.Term.{clash}
use Rattle.solver.specs.declared.Solver.{Solver}
use Rattle.solver.specs.Families.{Request, admits}
use Rattle.solver.specs.Constrain.{top}
use Rattle.solver.specs.Session.{Session, issued, with_solver, request}
use Rattle.solver.specs.Words.Bindings.{HeldWord, HeldBinding, HeldBindings}
use Rattle.solver.specs.Words.MethodContract.{Beside, bound_to, mask_in}
use Rattle.solver.specs.Words.ChainEnds.{variable_in}
use Rattle.solver.specs.Words.Masks.{bit}
use Rattle.solver.specs.Words.TableLayout.{requests_from, ends_from, tails_from, lasting_words}
use Rattle.solver.specs.Words.ChainRecord.{chain_ends, Coming, Last, named, family_mask, shared, HeldFamily, HeldTail, HeldTails}
use Rattle.solver.specs.Words.ChainWords.{Near, names, ChainsMoved, TailsSet}
use Rattle.solver.specs.Words.SessionRepresentation.{end_words, tail_words, RequestWord, request_in, Represents}
use Rattle.solver.proofs.Laws.Definition.ChainRecordLaws.{tail_names, tail_named, plain_tail, plain_named, plain_family, end_named, end_unnamed, tails_after, tails_asked}
use Rattle.solver.proofs.Laws.Resolving.TopLaws.{free_stays}
use Rattle.solver.proofs.Laws.Table.ColumnLaws.{column_read, column_length, column_write, column_before, column_behind, column_same}
use Rattle.solver.proofs.Laws.Table.ChainWordLaws.{names_past, names_here}
use Rattle.solver.proofs.Laws.Table.RequestWordLaws.{mask_low, word_admits}
use Rattle.solver.proofs.Laws.Resolving.ChainEndLaws.{variable_told, node_told}
use Rattle.solver.proofs.Laws.Table.MethodLaws.{near_same, near_then, near_set, near_moved, near_tails, Chained, beside_set, beside_near, lent_request, lent_bound}

-- past the last word of a column there is 0
pub past_column : (m : ℕ) (l : List ℕ) (u : ℕ) → m ≤ u → get_or (lib.ListN.take m l) u 0 ≡ 0
past_column m l u h = get_or-eq_default (lib.ListN.take m l) 0 {n = u} (omega (arith, length-take m l))

module _ (x : Solver) (ks vs ts : List ℕ) (s : Session) (L : Represents x ks vs ts s) (C : Coming (issued s) s.solver) where
  abbrev m : ℕ
  m = x.variables

  abbrev old : ℕ → ℕ
  old u = get_or (tail_words m ts) u 0

  tail_read : (u : ℕ) → u < m → get_or ts (tails_from m + u) 0 ≡ old u
  tail_read u h = sym (column_read m (tails_from m) ts _ u refl h)

  -- which tails name v
  named_yes : (v u : ℕ) → names m x.issued v ts u ≡ true → (u < issued s) × (named (old u) ≡ suc v)
  named_yes v u e = go (dec_lt u x.issued)
    where
      go : Dec (u < x.issued) → (u < issued s) × (named (old u) ≡ suc v)
      go (yes l) =
          let i = L.issued in
          let f = L.fits.variables in
          (omega arith, eqb-true (named (old u)) (suc v) (ap (λ (w : ℕ). eqb (named w) (suc v)) (sym (tail_read u (omega arith))) ∙ sym (names_here m v ts x.issued u l) ∙ e))
      go (no l) = clash (cc (e, names_past m v ts x.issued u (omega arith)))

  named_no : (v u : ℕ) → u < issued s → names m x.issued v ts u ≡ false → named (old u) ≡ suc v → ⊥
  named_no v u h e q =
      let i = L.issued in
      let f = L.fits.variables in
      let b : names m x.issued v ts u ≡ true = names_here m v ts x.issued u (omega arith) ∙ eq-eqb _ (suc v) (ap named (tail_read u (omega arith)) ∙ q) in
      clash (cc (e, b))

  named_so : (v u : ℕ) → named (old u) ≡ suc v → u < issued s
  named_so v u q = go (dec_lt u (issued s))
    where
      go : Dec (u < issued s) → u < issued s
      go (yes l) = l
      go (no l) = let z = L.untailed u (omega arith) in absurd (omega arith)

  -- the end of a chain whose tail names v
  ends_there : (v u : ℕ) → named (old u) ≡ suc v → top s.solver (var u) ≡ var v
  ends_there v u q = tail_names s.solver (issued s) u (top s.solver (var u)) (old u) v (L.tails u (named_so v u q)) q

  ends_else : (v u : ℕ) → v < issued s → names m x.issued v ts u ≡ false → top s.solver (var u) ≢ var v
  ends_else v u h e q = go (dec_lt u (issued s))
    where
      go : Dec (u < issued s) → ⊥
      go (yes l) = named_no v u l e (tail_named s.solver (issued s) u (top s.solver (var u)) (old u) v (L.tails u l) q)
      go (no l) =
          let f = free_stays s.solver.revision s.solver.bindings u (C.far u (omega arith)) in
          let g : var u ≡ var v = sym f ∙ q in
          let i : u ≡ v = cc (g) in
          omega arith

  -- ---- a binding

  module _ (v end tail : ℕ) (t : Term) (p : s.solver.bindings v ≡ none) (l : Last s.solver.bindings v t) (low : v < issued s) (H : HeldWord ks vs t end)
      (us : List ℕ) (M : ChainsMoved m x.issued v end tail ts us) where
    end_word_at : (u : ℕ) → get_or (end_words m us) u 0 ≡ pick (names m x.issued v ts u) end (get_or (end_words m ts) u 0)
    end_word_at u = go (dec_lt u m)
      where
        go : Dec (u < m) → get_or (end_words m us) u 0 ≡ pick (names m x.issued v ts u) end (get_or (end_words m ts) u 0)
        go (yes h) =
            column_read m (ends_from m) us _ u refl h ∙ M.ends u h
            ∙ ap (λ (w : ℕ). pick (names m x.issued v ts u) end w) (sym (column_read m (ends_from m) ts _ u refl h))
        go (no h) =
            let i = L.issued in
            let f = L.fits.variables in
            past_column m _ u (omega arith)
            ∙ sym (ap (λ (b : Bool). pick b end (get_or (end_words m ts) u 0)) (names_past m v ts x.issued u (omega arith)) ∙ past_column m _ u (omega arith))

    tail_word_at : (u : ℕ) → get_or (tail_words m us) u 0 ≡ pick (names m x.issued v ts u) tail (old u)
    tail_word_at u = go (dec_lt u m)
      where
        go : Dec (u < m) → get_or (tail_words m us) u 0 ≡ pick (names m x.issued v ts u) tail (old u)
        go (yes h) =
            column_read m (tails_from m) us _ u refl h ∙ M.tails u h
            ∙ ap (λ (w : ℕ). pick (names m x.issued v ts u) tail w) (tail_read u h)
        go (no h) =
            let i = L.issued in
            let f = L.fits.variables in
            past_column m _ u (omega arith) ∙ sym (ap (λ (b : Bool). pick b tail (old u)) (names_past m v ts x.issued u (omega arith)) ∙ past_column m _ u (omega arith))

    ends_held : HeldBindings ks vs (end_words m us) (chain_ends (suc s.solver.revision) (put s.solver.bindings v (some t)))
    ends_held = record { short = L.short; words = λ u. go u (names m x.issued v ts u) refl }
      where
        go : (u : ℕ) (b : Bool) → names m x.issued v ts u ≡ b
            → HeldBinding ks vs (chain_ends (suc s.solver.revision) (put s.solver.bindings v (some t)) u) (get_or (end_words m us) u 0)
        go u true e =
            let d = ends_there v u (named_yes v u e).1 in
            subst (λ (o : Option Term). HeldBinding ks vs o (get_or (end_words m us) u 0))
            (sym (end_named s.solver.bindings v t p l s.solver.revision C.free u d))
            (subst (λ (w : ℕ). HeldWord ks vs t w) (sym (end_word_at u ∙ ap (λ (b : Bool). pick b end (get_or (end_words m ts) u 0)) e)) H)
        go u false e =
            subst (λ (o : Option Term). HeldBinding ks vs o (get_or (end_words m us) u 0))
            (sym (end_unnamed s.solver.bindings v t p l s.solver.revision C.free u (ends_else v u low e)))
            (subst (λ (w : ℕ). HeldBinding ks vs (chain_ends s.solver.revision s.solver.bindings u) w)
            (sym (end_word_at u ∙ ap (λ (b : Bool). pick b end (get_or (end_words m ts) u 0)) e)) (L.ends.words u))

    -- of a tail that names v, and of another
    tail_yes : (u : ℕ) → named (old u) ≡ suc v → get_or (tail_words m us) u 0 ≡ tail
    tail_yes u q = tail_word_at u ∙ go (names m x.issued v ts u) refl
      where
        go : (b : Bool) → names m x.issued v ts u ≡ b → pick (names m x.issued v ts u) tail (old u) ≡ tail
        go true e = ap (λ (b : Bool). pick b tail (old u)) e
        go false e = absurd (named_no v u (named_so v u q) e q)

    tail_no : (u : ℕ) → (named (old u) ≡ suc v → ⊥) → get_or (tail_words m us) u 0 ≡ old u
    tail_no u n = tail_word_at u ∙ go (names m x.issued v ts u) refl
      where
        go : (b : Bool) → names m x.issued v ts u ≡ b → pick (names m x.issued v ts u) tail (old u) ≡ old u
        go true e = absurd (n (named_yes v u e).1)
        go false e = ap (λ (b : Bool). pick b tail (old u)) e

    tail_far : (u : ℕ) → issued s ≤ u → get_or (tail_words m us) u 0 ≡ 0
    tail_far u h = tail_no u (λ q. let b = named_so v u q in omega arith) ∙ L.untailed u h

    -- to a node
    pub bound_node : (k : ℕ) (ps : Parts) → t ≡ node k ps → tail ≡ 0 → Chained m ks vs us (with_solver s (bound_to s.solver v t s.solver.requests))
    bound_node k ps e z = record {
      ends = ends_held;
      tails = tails_after (issued s) s.solver C v t p l low old (λ u. get_or (tail_words m us) u 0) L.tails
          (record {
            node = λ j qs _ u q. tail_yes u q ∙ z;
            variable = λ w f u q. clash (cc (e, f));
            shares = λ w f. clash (cc (e, f));
            others = λ u n _. tail_no u n;
          })
          (λ w f. clash (cc (e, f)));
      untailed = tail_far;
    }

    -- to a variable, which is shared from now on
    pub bound_variable : (w : ℕ) → t ≡ var w → w < issued s → tail ≡ plain_tail (old w)
        → Chained m ks vs (set us (tails_from m + w) (tail + 67108864)) (with_solver s (bound_to s.solver v t s.solver.requests))
    bound_variable w e h z = record {
      ends = subst (λ (l : List ℕ). HeldBindings ks vs l (chain_ends (suc s.solver.revision) (put s.solver.bindings v (some t)))) (sym same_ends) ends_held;
      tails = tails_after (issued s) s.solver C v t p l low old new L.tails
          (record {
            node = λ k ps f u q. clash (cc (e, f));
            variable = λ y f u q. let g : w ≡ y = one y f in new_else u (apart u q) ∙ tail_yes u q ∙ z ∙ ap (λ (i : ℕ). plain_tail (old i)) g;
            shares = λ y f. let g : w ≡ y = one y f in subst (λ (i : ℕ). new i ≡ plain_tail (old i) + 67108864) g (new_here ∙ ap (λ (i : ℕ). i + 67108864) z);
            others = λ u n k. new_else u (λ q. k (e ∙ ap var (sym q))) ∙ tail_no u n;
          })
          (λ y f. subst (λ (i : ℕ). i < issued s) (one y f) h);
      untailed = λ u k. new_else u (λ q. omega arith) ∙ tail_far u k;
    }
      where
        ws : List ℕ
        ws = set us (tails_from m + w) (tail + 67108864)

        below : w < m
        below = let f = L.fits.variables in omega arith

        size : length us ≡ length ts
        size = M.size

        same_ends : end_words m (set us (tails_from m + w) (tail + 67108864)) ≡ end_words m us
        same_ends = column_behind m (ends_from m) us (tails_from m + w) (tail + 67108864) (omega arith)

        tails_set : tail_words m (set us (tails_from m + w) (tail + 67108864)) ≡ set (tail_words m us) w (tail + 67108864)
        tails_set = column_write m (tails_from m) us _ w (tail + 67108864) refl below

        new : ℕ → ℕ
        new u = get_or (tail_words m (set us (tails_from m + w) (tail + 67108864))) u 0

        one : (y : ℕ) → t ≡ var y → w ≡ y
        one y f = let g : var w ≡ var y = sym e ∙ f in cc (g)

        -- w is free, and no tail of its own names v
        apart : (u : ℕ) → named (old u) ≡ suc v → u ≢ w
        apart u q d =
            let f = subst (λ (c : Term). Last s.solver.bindings v c) e l in
            let g : var w ≡ var v = sym (free_stays s.solver.revision s.solver.bindings w f.0) ∙ ap (λ (i : ℕ). top s.solver (var i)) (sym d) ∙ ends_there v u q in
            f.1 (let i : w ≡ v = cc (g) in i)

        new_here : new w ≡ tail + 67108864
        new_here =
            let r = L.room in
            ap (λ (l : List ℕ). get_or l w 0) tails_set ∙ get_or-set_same (tail_words m us) w (tail + 67108864) 0 (omega (arith, column_length m (tails_from m) us (omega (arith, M.size))))

        new_else : (u : ℕ) → u ≢ w → new u ≡ get_or (tail_words m us) u 0
        new_else u d = ap (λ (l : List ℕ). get_or l u 0) tails_set ∙ get_or-set_other (tail_words m us) w u (tail + 67108864) 0 d

  -- ---- a request

  -- a variable whose chain ends at another one shares with none
  unshared : (v u : ℕ) → named (old u) ≡ suc v → u ≢ v → shared (old u) ≡ 0
  unshared v u q d =
      let h = named_so v u q in
      let e = ends_there v u q in
      let H = subst (λ (c : Term). HeldTail s.solver (issued s) u c (old u)) e (L.tails u h) in
      go H.2.most (λ f. H.2.yes f)
    where
      go : shared (old u) ≤ 1 → (shared (old u) ≡ 1 → (w : ℕ) × (w < issued s) × (w ≡ u → ⊥) × (top s.solver (var w) ≡ var u)) → shared (old u) ≡ 0
      go l f = by (ℕ_discrete (shared (old u)) 1)
        where
          by : Dec (shared (old u) ≡ 1) → shared (old u) ≡ 0
          by (yes y) =
              let w = f y in
              let b = free_stays s.solver.revision s.solver.bindings u (C.free (var w.0) u w.3) in
              let g : var u ≡ var v = sym b ∙ ends_there v u q in
              absurd (d (let i : u ≡ v = cc (g) in i))
          by (no n) = omega arith

  -- r is requested of v: its mask, and the tail that those have which end at v
  module _ (v word : ℕ) (r : Request) (low : v < issued s) (mask : ℕ) (small : mask < 1024) (held : (c : ℕ) → bit mask c ≡ admits r.family c) where
    abbrev asked_at : List ℕ
    asked_at = set ts (requests_from m + v) word

    abbrev tail_now : ℕ
    tail_now = suc v + 65536 * mask

    inside : v < m
    inside = let f = L.fits.variables in omega arith

    tails_kept : tail_words m asked_at ≡ tail_words m ts
    tails_kept = column_before m (tails_from m) ts (requests_from m + v) word (omega (arith, inside))

    ends_kept : end_words m asked_at ≡ end_words m ts
    ends_kept = column_before m (ends_from m) ts (requests_from m + v) word (omega (arith, inside))

    now_named : (f : ℕ) → named (tail_now + 67108864 * f) ≡ suc v
    now_named f = let i = inside in let b = L.narrow in omega arith

    now_family : (f : ℕ) → family_mask (tail_now + 67108864 * f) ≡ mask
    now_family f = let i = inside in let b = L.narrow in omega arith

    now_shared : (f : ℕ) → shared (tail_now + 67108864 * f) ≡ f
    now_shared f = let i = inside in let b = L.narrow in omega arith

    -- v is bound, so no chain ends there
    pub asked_bound : (named (old v) ≡ suc v → ⊥) → Chained m ks vs asked_at (request s v r)
    asked_bound n = record {
      ends = subst (λ (l : List ℕ). HeldBindings ks vs l (chain_ends s.solver.revision s.solver.bindings)) (sym ends_kept) L.ends;
      tails = subst (λ (l : List ℕ). HeldTails (request s v r).solver (issued s) l) (sym tails_kept)
          (tails_asked (issued s) s.solver v r old old L.tails (λ u q. absurd (none u q)) (λ u d. refl));
      untailed = λ u h. ap (λ (l : List ℕ). get_or l u 0) tails_kept ∙ L.untailed u h;
    }
      where
        none : (u : ℕ) → named (old u) ≡ suc v → ⊥
        none u q =
            let f = free_stays s.solver.revision s.solver.bindings v (C.free (var u) v (ends_there v u q)) in
            n (tail_named s.solver (issued s) v (top s.solver (var v)) (old v) v (L.tails v low) f)

    -- v is free, and its family has this mask already
    pub asked_same : named (old v) ≡ suc v → family_mask (old v) ≡ mask → Chained m ks vs asked_at (request s v r)
    asked_same own f = record {
      ends = subst (λ (l : List ℕ). HeldBindings ks vs l (chain_ends s.solver.revision s.solver.bindings)) (sym ends_kept) L.ends;
      tails = subst (λ (l : List ℕ). HeldTails (request s v r).solver (issued s) l) (sym tails_kept)
          (tails_asked (issued s) s.solver v r old old L.tails (λ u q. (q, like u q, refl)) (λ u d. refl));
      untailed = λ u h. ap (λ (l : List ℕ). get_or l u 0) tails_kept ∙ L.untailed u h;
    }
      where
        at_v : (u : ℕ) → named (old u) ≡ suc v → HeldFamily (s.solver.requests v) (family_mask (old u))
        at_v u q = (subst (λ (c : Term). HeldTail s.solver (issued s) u c (old u)) (ends_there v u q) (L.tails u (named_so v u q))).1

        like : (u : ℕ) → named (old u) ≡ suc v → HeldFamily (some r) (family_mask (old u))
        like u q = go (s.solver.requests v) (at_v u q) (at_v v own)
          where
            go : (o : Option Request) → HeldFamily o (family_mask (old u)) → HeldFamily o (family_mask (old v)) → HeldFamily (some r) (family_mask (old u))
            go none a b c = ap (λ (k : ℕ). bit k c) (a ∙ sym b ∙ f) ∙ held c
            go (some y) a b c = a c ∙ sym (b c) ∙ ap (λ (k : ℕ). bit k c) f ∙ held c

    -- v is free: the tails that name it are set, its own with what it shares
    pub asked_free : (us : List ℕ) → length us ≡ length ts → end_words m us ≡ end_words m asked_at
        → ((u : ℕ) → named (old u) ≡ suc v → (u ≡ v → ⊥) → get_or (tail_words m us) u 0 ≡ tail_now)
        → ((u : ℕ) → (named (old u) ≡ suc v → ⊥) → get_or (tail_words m us) u 0 ≡ old u)
        → named (old v) ≡ suc v
        → Chained m ks vs (set us (tails_from m + v) (tail_now + 67108864 * shared (old v))) (request s v r)
    asked_free us size ends those others own = record {
      ends = subst (λ (l : List ℕ). HeldBindings ks vs l (chain_ends s.solver.revision s.solver.bindings)) (sym (same_ends ∙ ends ∙ ends_kept)) L.ends;
      tails = tails_asked (issued s) s.solver v r old new L.tails (λ u q. named_new u q (ℕ_discrete u v)) (λ u n. new_else u (λ d. n (ap (λ (i : ℕ). named (old i)) d ∙ own)) ∙ others u n);
      untailed = λ u h. new_else u (λ d. omega arith) ∙ others u (λ q. let b = named_so v u q in omega arith) ∙ L.untailed u h;
    }
      where
        word' : ℕ
        word' = tail_now + 67108864 * shared (old v)

        new : ℕ → ℕ
        new u = get_or (tail_words m (set us (tails_from m + v) word')) u 0

        same_ends : end_words m (set us (tails_from m + v) word') ≡ end_words m us
        same_ends = column_behind m (ends_from m) us (tails_from m + v) word' (omega (arith, inside))

        tails_set : tail_words m (set us (tails_from m + v) word') ≡ set (tail_words m us) v word'
        tails_set = column_write m (tails_from m) us _ v word' refl inside

        new_else : (u : ℕ) → u ≢ v → new u ≡ get_or (tail_words m us) u 0
        new_else u d = ap (λ (l : List ℕ). get_or l u 0) tails_set ∙ get_or-set_other (tail_words m us) v u word' 0 d

        new_here : new v ≡ word'
        new_here =
            let b = L.room in
            ap (λ (l : List ℕ). get_or l v 0) tails_set ∙ get_or-set_same (tail_words m us) v word' 0 (omega (arith, inside, column_length m (tails_from m) us (omega (arith, size))))

        new_family : (u : ℕ) → family_mask (new u) ≡ mask → HeldFamily (some r) (family_mask (new u))
        new_family u e c = ap (λ (k : ℕ). bit k c) e ∙ held c

        named_new : (u : ℕ) → named (old u) ≡ suc v → Dec (u ≡ v) → (named (new u) ≡ suc v) × HeldFamily (some r) (family_mask (new u)) × (shared (new u) ≡ shared (old u))
        named_new u q (yes d) =
            let e : new u ≡ word' = ap new d ∙ new_here in
            (ap named e ∙ now_named (shared (old v)), new_family u (ap family_mask e ∙ now_family (shared (old v))), ap shared e ∙ now_shared (shared (old v)) ∙ ap (λ (i : ℕ). shared (old i)) (sym d))
        named_new u q (no d) =
            let e : new u ≡ tail_now + 67108864 * 0 = new_else u d ∙ those u q d ∙ omega arith in
            (ap named e ∙ now_named 0, new_family u (ap family_mask e ∙ now_family 0), ap shared e ∙ now_shared 0 ∙ sym (unshared v u q d))

    -- no other chain ends there
    pub asked_alone : named (old v) ≡ suc v → shared (old v) ≡ 0
        → Chained m ks vs (set asked_at (tails_from m + v) (tail_now + 67108864 * shared (old v))) (request s v r)
    asked_alone own f =
        asked_free asked_at (length-set ts (requests_from m + v) word) refl (λ u q d. absurd (alone u q d))
        (λ u n. ap (λ (l : List ℕ). get_or l u 0) tails_kept) own
      where
        alone : (u : ℕ) → named (old u) ≡ suc v → (u ≡ v → ⊥) → ⊥
        alone u q d =
            let e = tail_names s.solver (issued s) v (top s.solver (var v)) (old v) v (L.tails v low) own in
            let H = subst (λ (c : Term). HeldTail s.solver (issued s) v c (old v)) e (L.tails v low) in
            H.2.no f u (named_so v u q) d (ends_there v u q)

    -- others end there, too
    pub asked_shared : named (old v) ≡ suc v → (us : List ℕ) → TailsSet m x.issued v tail_now asked_at us
        → Chained m ks vs (set us (tails_from m + v) (tail_now + 67108864 * shared (old v))) (request s v r)
    asked_shared own us T =
        asked_free us (T.size ∙ length-set ts (requests_from m + v) word) (column_same m (ends_from m) (tails_from m) us asked_at T.front (omega arith))
        (λ u q d. word_at u ∙ ap (λ (b : Bool). pick b tail_now (old u)) (yes_names u q))
        (λ u n. word_at u ∙ ap (λ (b : Bool). pick b tail_now (old u)) (no_names u n)) own
      where
        word_at : (u : ℕ) → get_or (tail_words m us) u 0 ≡ pick (names m x.issued v asked_at u) tail_now (old u)
        word_at u = go (dec_lt u m)
          where
            go : Dec (u < m) → get_or (tail_words m us) u 0 ≡ pick (names m x.issued v asked_at u) tail_now (old u)
            go (yes h) =
                column_read m (tails_from m) us _ u refl h ∙ T.tails u h
                ∙ ap (λ (w : ℕ). pick (names m x.issued v asked_at u) tail_now w) (sym (column_read m (tails_from m) asked_at _ u refl h) ∙ ap (λ (l : List ℕ). get_or l u 0) tails_kept)
            go (no h) =
                let i = L.issued in
                let f = L.fits.variables in
                past_column m _ u (omega arith) ∙ sym (ap (λ (b : Bool). pick b tail_now (old u)) (names_past m v asked_at x.issued u (omega arith)) ∙ past_column m _ u (omega arith))

        read : (u : ℕ) → u < m → get_or asked_at (tails_from m + u) 0 ≡ old u
        read u h = sym (column_read m (tails_from m) asked_at _ u refl h) ∙ ap (λ (l : List ℕ). get_or l u 0) tails_kept

        yes_names : (u : ℕ) → named (old u) ≡ suc v → names m x.issued v asked_at u ≡ true
        yes_names u q =
            let h = named_so v u q in
            let i = L.issued in
            let f = L.fits.variables in
            names_here m v asked_at x.issued u (omega arith) ∙ eq-eqb _ (suc v) (ap named (read u (omega arith)) ∙ q)

        no_names : (u : ℕ) → (named (old u) ≡ suc v → ⊥) → names m x.issued v asked_at u ≡ false
        no_names u n = go (dec_lt u x.issued)
          where
            go : Dec (u < x.issued) → names m x.issued v asked_at u ≡ false
            go (yes l) =
                let i = L.issued in
                let f = L.fits.variables in
                names_here m v asked_at x.issued u l ∙ ne_eqb _ (suc v) (λ q. n (sym (ap named (read u (omega arith))) ∙ q))
            go (no l) = names_past m v asked_at x.issued u (omega arith)

  -- ---- what `put_request` leaves

  module _ (v word : ℕ) (low : v < issued s) (W : RequestWord word) where
    abbrev requested : List ℕ
    requested = set ts (requests_from m + v) word

    abbrev own : ℕ
    own = get_or requested (tails_from m + v) 0

    abbrev tail_put : ℕ
    tail_put = v + 1 + 65536 * (mask_in word % 1024)

    below : v < m
    below = let f = L.fits.variables in omega arith

    own_old : own ≡ old v
    own_old = get_or-set_other ts (requests_from m + v) (tails_from m + v) word 0 (λ e. omega (arith, below)) ∙ tail_read v below

    small : mask_in word % 1024 < 1024
    small = omega arith

    mask_held : (c : ℕ) → bit (mask_in word % 1024) c ≡ admits (request_in word).family c
    mask_held c = let b = mask_low word in let e : mask_in word % 1024 ≡ mask_in word = omega arith in ap (λ (k : ℕ). bit k c) e ∙ sym (word_admits word W c)

    named_own : eqb (named own) (suc v) ≡ true → named (old v) ≡ suc v
    named_own e = ap named (sym own_old) ∙ eqb-true (named own) (suc v) e

    pub put_bound : eqb (named own) (suc v) ≡ false → Represents x ks vs requested (request s v (request_in word))
    put_bound e =
        lent_request x ks vs ts s L v word (request_in word) below (W, refl) requested (near_same m requested)
        (asked_bound v word (request_in word) low (mask_in word % 1024) small mask_held (λ q. eqb-false (named own) (suc v) e (ap named own_old ∙ q)))

    pub put_same : eqb (named own) (suc v) ≡ true → own % 67108864 ≡ tail_put → Represents x ks vs requested (request s v (request_in word))
    put_same e f =
        lent_request x ks vs ts s L v word (request_in word) below (W, refl) requested (near_same m requested)
        (asked_same v word (request_in word) low (mask_in word % 1024) small mask_held (named_own e)
        (ap family_mask (sym own_old) ∙ (let b = below in let n = L.narrow in let k = small in omega arith)))

    put_word : suc v + 65536 * (mask_in word % 1024) + 67108864 * shared (old v) ≡ tail_put + 67108864 * (own / 67108864)
    put_word = ap (λ (k : ℕ). suc v + 65536 * (mask_in word % 1024) + 67108864 * shared k) (sym own_old) ∙ ap (λ (k : ℕ). k + 65536 * (mask_in word % 1024) + 67108864 * (own / 67108864)) (sym (add-one v))

    put_at : (us : List ℕ) → Near m requested us
        → Chained m ks vs (set us (tails_from m + v) (suc v + 65536 * (mask_in word % 1024) + 67108864 * shared (old v))) (request s v (request_in word))
        → Represents x ks vs (set us (tails_from m + v) (tail_put + 67108864 * (own / 67108864))) (request s v (request_in word))
    put_at us N H =
        let b = below in
        subst (λ (k : ℕ). Represents x ks vs (set us (tails_from m + v) k) (request s v (request_in word))) put_word
        (lent_request x ks vs ts s L v word (request_in word) below (W, refl) _
        (near_then N (near_set m us (tails_from m + v) (suc v + 65536 * (mask_in word % 1024) + 67108864 * shared (old v)) (omega arith) (omega arith))) H)

    pub put_alone : eqb (named own) (suc v) ≡ true → own < 67108864
        → Represents x ks vs (set requested (tails_from m + v) (tail_put + 67108864 * (own / 67108864))) (request s v (request_in word))
    put_alone e l =
        put_at requested (near_same m requested)
        (asked_alone v word (request_in word) low (mask_in word % 1024) small mask_held (named_own e) (ap shared (sym own_old) ∙ omega arith))

    pub put_shared : eqb (named own) (suc v) ≡ true → (us : List ℕ) → TailsSet m x.issued v tail_put requested us
        → Represents x ks vs (set us (tails_from m + v) (tail_put + 67108864 * (own / 67108864))) (request s v (request_in word))
    put_shared e us T =
        put_at us (near_tails T)
        (asked_shared v word (request_in word) low (mask_in word % 1024) small mask_held (named_own e) us
        (subst (λ (k : ℕ). TailsSet m x.issued v (k + 65536 * (mask_in word % 1024)) requested us) (add-one v) T))

  -- ---- what `put_binding` leaves

  module _ (v end : ℕ) (t : Term) (p : s.solver.bindings v ≡ none) (l : Last s.solver.bindings v t) (low : v < issued s) (H : HeldWord ks vs t end) where
    in_table : v < m
    in_table = let f = L.fits.variables in omega arith

    named_here : named (old v) ≡ suc v
    named_here = tail_named s.solver (issued s) v (top s.solver (var v)) (old v) v (L.tails v low) (free_stays s.solver.revision s.solver.bindings v p)

    -- v's tail names it, and alone where it is not shared
    pub moves_own : eqb (named (get_or ts (tails_from m + v) 0)) (suc v) ≡ true
    moves_own = eq-eqb _ (suc v) (ap named (tail_read v in_table) ∙ named_here)

    pub moves_alone : shared (get_or ts (tails_from m + v) 0) ≡ 0 → (u : ℕ) → names m x.issued v ts u ≡ true → u ≡ v
    moves_alone f u e = go (ℕ_discrete u v)
      where
        go : Dec (u ≡ v) → u ≡ v
        go (yes d) = d
        go (no d) =
            let n = named_yes v u e in
            let q = free_stays s.solver.revision s.solver.bindings v p in
            let T = subst (λ (c : Term). HeldTail s.solver (issued s) v c (old v)) q (L.tails v low) in
            absurd (T.2.no (ap shared (sym (tail_read v in_table)) ∙ f) u n.0 d (ends_there v u n.1))

    module _ (y : Solver) (a : y.variables ≡ x.variables) (b : y.nodes ≡ x.nodes) (c : y.top ≡ x.top) (i : y.issued ≡ x.issued) (r : y.revision ≡ x.revision + 1) (k : y.kept ≡ x.kept) where
      put_on : (us : List ℕ) → Near m ts us → Chained m ks vs us (with_solver s (bound_to s.solver v t s.solver.requests))
          → Represents y ks vs (set us v end) (with_solver s (bound_to s.solver v t s.solver.requests))
      put_on us N D =
          let B : Beside x y ts us = beside_near (record { variables = a; nodes = b; top = c; size = refl; rest = refl }) N in
          lent_bound x ks vs ts s L v end t in_table H y us N (beside_set x y ts us v end B (omega (arith, in_table))) i r k
          (record {
            ends = subst (λ (l : List ℕ). HeldBindings ks vs l (chain_ends (suc s.solver.revision) (put s.solver.bindings v (some t)))) (sym (column_before m (ends_from m) us v end (omega (arith, in_table)))) D.ends;
            tails = subst (λ (l : List ℕ). HeldTails (bound_to s.solver v t s.solver.requests) (issued s) l) (sym (column_before m (tails_from m) us v end (omega (arith, in_table)))) D.tails;
            untailed = λ u h. ap (λ (l : List ℕ). get_or l u 0) (column_before m (tails_from m) us v end (omega (arith, in_table))) ∙ D.untailed u h;
          })

      -- to a node
      pub put_node : None ≡ variable_in t → (us : List ℕ) → ChainsMoved m x.issued v end 0 ts us
          → Represents y ks vs (set us v end) (with_solver s (bound_to s.solver v t s.solver.requests))
      put_node e us M =
          let n = node_told t (sym e) in
          put_on us (near_moved M) (bound_node v end 0 t p l low H us M n.0 n.1 n.2 refl)

      -- to a variable
      pub put_variable : (w : ℕ) → Some w ≡ variable_in t → w < issued s → (us : List ℕ)
          → ChainsMoved m x.issued v end (get_or ts (tails_from m + w) 0 % 67108864) ts us
          → Represents y ks vs (set (set us (tails_from m + w) (get_or ts (tails_from m + w) 0 % 67108864 + 67108864)) v end) (with_solver s (bound_to s.solver v t s.solver.requests))
      put_variable w e h us M =
          let f = L.fits.variables in
          let u : w < m = omega arith in
          put_on (set us (tails_from m + w) (get_or ts (tails_from m + w) 0 % 67108864 + 67108864))
          (near_then (near_moved M) (near_set m us (tails_from m + w) (get_or ts (tails_from m + w) 0 % 67108864 + 67108864) (omega arith) (omega arith)))
          (bound_variable v end (get_or ts (tails_from m + w) 0 % 67108864) t p l low H us M w (variable_told t w (sym e)) h (ap plain_tail (tail_read w u)))
