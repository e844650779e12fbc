-- What the tokens of a held term write, bound variables replaced, is the bytes of the resolved term.
use mathlib.Core.Path.{◌≡◌, refl, sym, ap, ◌∙◌}
use mathlib.Core.List.{List, [], ◌∷◌, append-nil}
use mathlib.Core.Option.{Option, none, some}
use Rattle.std.proofs.Math.Option.{some-ne-none}
use borrow.Author.Tests.{lt-ltb}
use Prim.Native.Nat.{ℕ, zero, suc, pred, ◌+◌, ◌-◌, ◌%◌, ◌≤◌, ◌<◌}
use native.Mathlib.Numerals.{add-one}
use native.Mathlib.Omega.{arith}
use lib.ListN.{length, get_or}
use Rattle.terms.specs.Number.{digits, shortest}
use Rattle.terms.specs.Words.Tokens.{one, toks}
use Rattle.terms.specs.Term.{Term, Parts, var, node, end, num, sub, items, part_items, bytes, part_bytes, Held}
use Rattle.terms.specs.Words.Held.{span}
use Rattle.terms.specs.Words.TokenBytes.{plain}
use Rattle.terms.proofs.Laws.Format.WriteLaws.{spell_none, plain_short}
use Rattle.terms.proofs.Laws.Held.HeldLaws.{span_is, items_some, held_first}
use Rattle.std.specs.declared.option.Option as rust
use Rattle.std.specs.Prelude.{Some, None}
use Rattle.std.specs.Option.{UnwrapsOrElse}
use Rattle.solver.specs.declared.Run.{Run}
use Rattle.solver.specs.declared.Stand.{Stand}
use Rattle.solver.specs.declared.Bindings.{Bindings}
use Rattle.solver.specs.Words.Lent.{standing_bytes}
use Rattle.solver.specs.Constrain.{replace, replace_row, followed, resolve}
use Rattle.solver.specs.Words.ResolveWalk.{run_in, run_len, inner, Named, default_in, standing, walk, walked, over, flat_bytes, resolved_bytes}
use Rattle.solver.specs.Words.Bindings.{defaults, builtin, HeldBinding, HeldBindings, placed, coded}
use Rattle.solver.proofs.Laws.Resolving.OverLaws.{over-append, over-over, spell_over}
use Rattle.solver.proofs.Laws.Resolving.DefaultWordLaws.{default_low, default_code}
use Rattle.solver.proofs.Laws.Resolving.FrameLaws.{run_none, run_at, run_default, inner_var, default_var, default_in_low, walk_leaf, walk_into}

-- g writes a variable as the bytes of the term that h puts in its place, and any other token as it stands
module _ (g : ℕ → ℕ → List ℕ) (h : ℕ → Term) (gn : (v : ℕ) → g 0 v ≡ shortest v) (gv : (v : ℕ) → g 1 v ≡ bytes (h v))
    (gk : (k s : ℕ) → g (suc (suc k)) s ≡ (k % 256) ∷ []) where
  mutual
    unfolding over items bytes replace

    over_term : (t : Term) → over g (items t) ≡ bytes (replace h t)
    over_term (var v) = rw (gv v, append-nil)
    over_term (node k ps) = rw (gk k (suc (length (part_items ps))), over_parts ps)

    over_parts : (ps : Parts) → over g (part_items ps) ≡ part_bytes (replace_row h ps)
    over_parts end = refl
    over_parts (num n ps) = rw (gn n, over_parts ps)
    over_parts (sub t ps) = rw (over-append g (items t) (part_items ps), over_term t, over_parts ps)

-- ---- what a variable stands for, at most n bindings deep

mutual
  unfolding replace

  pub replace_var : (t : Term) → replace var t ≡ t
  replace_var (var v) = refl
  replace_var (node k ps) = ap (node k) (replace_var_row ps)

  replace_var_row : (ps : Parts) → replace_row var ps ≡ ps
  replace_var_row end = refl
  replace_var_row (num n ps) = ap (num n) (replace_var_row ps)
  replace_var_row (sub t ps) = rw (replace_var t, replace_var_row ps)

unfoldable deref : (ℕ → Option Term) → ℕ → ℕ → Term
deref b zero v = var v
deref b (suc n) v = followed v (b v) (λ u. resolve n b u)

resolve_deref : (b : ℕ → Option Term) (n : ℕ) (t : Term) → replace (deref b n) t ≡ resolve n b t
unfolding deref resolve
resolve_deref b zero t = replace_var t
resolve_deref b (suc n) t = refl

-- the run that a word names where a term is held
pub run_held : (ks vs : List ℕ) (p : ℕ) (t : Term) → Held ks vs p t → run_len ks vs (p + 1) ≡ length (items t)
run_held ks vs p t h =
    let q = held_first ks vs p t h in
    let s : span (get_or ks p 0) (get_or vs p 0) ≡ length (items t) = rw (q.0, q.1) (span_is t) in
    run_at ks vs (p + 1) p refl (rw s h.within) ∙ s

-- the run that a variable bound to a held term stands for
held_run : (ks vs bs : List ℕ) (v p : ℕ) (t : Term) → get_or bs v 0 ≡ p + 1 → Held ks vs p t → length (items t) ≡ inner ks vs bs 1 v
held_run ks vs bs v p t e h = sym (inner_var ks vs bs 1 v refl ∙ ap (run_len ks vs) e ∙ run_held ks vs p t h)

-- ---- a token that is not entered

over-one : (k v : ℕ) → over plain (one k v) ≡ plain k v
unfolding over
over-one k v = append-nil (plain k v)

pub standing_token : (k v : ℕ) (o : Option ℕ) → o ≡ none → flat_bytes (standing one o k v) ≡ plain k v
standing_token k v none e = over-one k v
standing_token k v (some c) e = absurd (some-ne-none c e)

pub standing_code : (k v : ℕ) (o : Option ℕ) (c : ℕ) → o ≡ some c → flat_bytes (standing one o k v) ≡ bytes (builtin c)
unfolding over plain bytes
standing_code k v o c e = rw e

-- the bytes of a builtin
pub builtin_bytes : (c : ℕ) → c < 128 → bytes (builtin c) ≡ 4 ∷ c ∷ []
unfolding bytes shortest digits
builtin_bytes zero h = refl
builtin_bytes (suc c) h = rw (lt-ltb (suc c) 128 h)

pub builtin_length : (c : ℕ) → c < 128 → length (bytes (builtin c)) ≡ 2
builtin_length c h = ap length (builtin_bytes c h)

-- a token that is not entered has at most six bytes
module _ (x : Bindings) (c : Stand) where
  abbrev here : Option ℕ
  here = default_in x.bound.now (x.most - c.depth) (get_or x.tokens.kinds.now c.at 0) (get_or x.tokens.vals.now c.at 0)

  short_as : (o : Option ℕ) → here ≡ o → length (standing_bytes x c) ≤ 6
  short_as none e =
      omega (
        arith,
        ap length (standing_token (get_or x.tokens.kinds.now c.at 0) (get_or x.tokens.vals.now c.at 0) here e),
        plain_short (get_or x.tokens.kinds.now c.at 0) (get_or x.tokens.vals.now c.at 0) (x.tokens.narrow.fits c.at),
      )
  short_as (some d) e =
      omega (
        arith,
        ap length (standing_code (get_or x.tokens.kinds.now c.at 0) (get_or x.tokens.vals.now c.at 0) here d e),
        builtin_length d (omega (arith, default_in_low x.bound.now (x.most - c.depth) (get_or x.tokens.kinds.now c.at 0) (get_or x.tokens.vals.now c.at 0) d e)),
      )

  pub standing_short : length (standing_bytes x c) ≤ 6
  standing_short = short_as here refl

-- a builtin has no variables
pub resolve_builtin : (n : ℕ) (b : ℕ → Option Term) (c : ℕ) → resolve n b (builtin c) ≡ builtin c
unfolding resolve replace
resolve_builtin zero b c = refl
resolve_builtin (suc n) b c = refl

-- ---- what a held term writes with bound variables replaced

module _ (ks vs bs : List ℕ) (b : ℕ → Option Term) (held : HeldBindings ks vs bs b) where
  -- what a token writes, as `walk` has it
  deep : ℕ → ℕ → ℕ → List ℕ
  deep n k v = over plain (walk one [] ks vs bs n k v)

  deep_number : (n v : ℕ) → deep n 0 v ≡ shortest v
  unfolding deep walk inner plain default_in
  deep_number zero v = over-one 0 v
  deep_number (suc n) v = over-one 0 v

  deep_head : (n k s : ℕ) → deep n (suc (suc k)) s ≡ (k % 256) ∷ []
  unfolding deep walk inner plain default_in
  deep_head zero k s = over-one (suc (suc k)) s
  deep_head (suc n) k s = over-one (suc (suc k)) s

  plain_bytes : (v : ℕ) → plain 1 v ≡ bytes (var v)
  unfolding plain bytes
  plain_bytes v = refl

  deep_zero : (v : ℕ) → deep 0 1 v ≡ bytes (var v)
  unfolding deep walk
  deep_zero v = over-one 1 v ∙ plain_bytes v

  run_writes : (n : ℕ) → ((v : ℕ) → deep n 1 v ≡ bytes (deref b n v)) → (p : ℕ) (t : Term) → Held ks vs p t
      → flat_bytes (walked ks vs bs n p (length (items t))) ≡ bytes (resolve n b t)
  unfolding deep
  run_writes n hv p t h =
      ap (over plain) (spell_over (walk one [] ks vs bs n) ks vs p (length (items t)))
      ∙ over-over plain (walk one [] ks vs bs n) (toks ks vs p (length (items t)))
      ∙ ap (over (deep n)) h.tokens
      ∙ over_term (deep n) (deref b n) (deep_number n) hv (deep_head n) t
      ∙ ap bytes (resolve_deref b n t)

  -- a variable that is not bound, and one that is
  deep_none : (n v : ℕ) → get_or bs v 0 ≡ 0 → deep (suc n) 1 v ≡ plain 1 v
  unfolding deep
  deep_none n v e =
      let i : 0 ≡ inner ks vs bs 1 v = sym (inner_var ks vs bs 1 v refl ∙ ap (run_len ks vs) e ∙ run_none ks vs) in
      ap (over plain) (walk_leaf one [] ks vs bs (suc n) 1 v 0 (λ _. i) refl)
      ∙ standing_token 1 v _ (default_var bs (suc n) 1 v (λ z. omega arith) refl ∙ default_low (get_or bs v 0) (omega arith))

  deep_code : (n v c : ℕ) → c < 32 → get_or bs v 0 ≡ defaults + c → deep (suc n) 1 v ≡ bytes (builtin c)
  unfolding deep
  deep_code n v c l e =
      let i : 0 ≡ inner ks vs bs 1 v = sym (inner_var ks vs bs 1 v refl ∙ run_default ks vs (get_or bs v 0) held.short (omega arith)) in
      ap (over plain) (walk_leaf one [] ks vs bs (suc n) 1 v 0 (λ _. i) refl)
      ∙ standing_code 1 v _ c (default_var bs (suc n) 1 v (λ z. omega arith) refl ∙ default_code (get_or bs v 0) c l e)

  deep_some : (n v p : ℕ) (t : Term) → get_or bs v 0 ≡ p + 1 → Held ks vs p t
      → deep (suc n) 1 v ≡ flat_bytes (walked ks vs bs n p (length (items t)))
  unfolding deep
  deep_some n v p t e h =
      let m : suc n - 1 ≡ n = omega arith in
      let q : pred (get_or bs v 0) ≡ p = omega arith in
      ap (over plain) (walk_into one [] ks vs bs (suc n) 1 v (length (items t)) (λ z. absurd (omega arith)) (λ _. held_run ks vs bs v p t e h) (items_some t) ∙ rw (m, q))

  deep_cell : (n v : ℕ) → ((w : ℕ) → deep n 1 w ≡ bytes (deref b n w)) → (o : Option Term) → HeldBinding ks vs o (get_or bs v 0)
      → deep (suc n) 1 v ≡ bytes (followed v o (λ u. resolve n b u))
  unfolding followed
  deep_cell n v hv none e = deep_none n v e ∙ plain_bytes v
  deep_cell n v hv (some t) (placed p e h) = deep_some n v p t e h ∙ run_writes n hv p t h
  deep_cell n v hv (some t) (coded c l e f) = deep_code n v c l e ∙ ap bytes (sym (resolve_builtin n b c) ∙ ap (resolve n b) (sym f))

  deep_var : (n v : ℕ) → deep n 1 v ≡ bytes (deref b n v)
  unfolding deref
  deep_var zero v = deep_zero v
  deep_var (suc n) v = deep_cell n v (deep_var n) (b v) (held.words v)

  pub resolved_bytes_lem : (n p : ℕ) (t : Term) → Held ks vs p t → resolved_bytes ks vs bs n p ≡ bytes (resolve n b t)
  resolved_bytes_lem n p t h =
      let e : run_len ks vs (suc p) ≡ length (items t) = ap (run_len ks vs) (sym (add-one p)) ∙ run_held ks vs p t h in
      ap (λ (c : ℕ). flat_bytes (walked ks vs bs n p c)) e ∙ run_writes n (deep_var n) p t h

-- the bytes of the run that is named for the term at p
pub named_bytes : {ks vs : List ℕ} (bs : List ℕ) (n p : ℕ) {at len : ℕ} → Named ks vs (p + 1) at len → flat_bytes (walked ks vs bs n at len) ≡ resolved_bytes ks vs bs n p
named_bytes {ks = ks} {vs = vs} bs n p {at = at} {len = zero} h =
    let e : run_len ks vs (suc p) ≡ 0 = ap (run_len ks vs) (sym (add-one p)) ∙ sym h.size in
    ap flat_bytes (spell_none (walk one [] ks vs bs n) ks vs at 0 refl ∙ sym (spell_none (walk one [] ks vs bs n) ks vs p (run_len ks vs (suc p)) e))
named_bytes {ks = ks} {vs = vs} bs n p {at = at} {len = suc len} h =
    let e : suc len ≡ run_len ks vs (suc p) = h.size ∙ ap (run_len ks vs) (add-one p) in
    let q : at ≡ p = omega (arith, h.place (omega arith)) in
    ap (λ (c : ℕ). flat_bytes (walked ks vs bs n at c)) e ∙ ap (λ (a : ℕ). flat_bytes (walked ks vs bs n a (run_len ks vs (suc p)))) q

-- the run of an answer, or the empty one
pub named_or_empty : {ks vs : List ℕ} {word : ℕ} (o : rust.Option Run) (r : Run) → Named ks vs word (run_in o).at (run_in o).len
    → UnwrapsOrElse o (Rattle.solver.specs.contracts.RunDefault.TheImpl.is_default-value).it r → Named ks vs word r.at r.len
named_or_empty (Some x) r h e = rw e h
named_or_empty None r h e = let x : r.at ≡ 0 = cc in let y : r.len ≡ 0 = cc in rw (x, y) h
