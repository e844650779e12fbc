-- The end of a chain: the word that holds it, and the variable or the builtin that it is, by its tokens.
use mathlib.Core.Path.{◌≡◌, refl, sym, ap, ap₂, subst, ◌∙◌}
use mathlib.Core.Bool.{Bool, true, false}
use mathlib.Core.List.{List}
use Prim.Native.Nat.{ℕ, ◌+◌, ◌≤◌}
use native.Mathlib.Omega.{arith}
use native.Mathlib.Decide.{ℕ_discrete}
use borrow.Author.Tests.{eq-eqb, ne_eqb, eqb-true}
use lib.Dec.{eqb}
use lib.ListN.{length, get_or}
use Rattle.std.specs.declared.option.Option as rust
use Rattle.std.specs.Prelude.{Some, None}
use Rattle.terms.specs.Result.{pick}
use Rattle.terms.specs.Term.{Term, Parts, var, node, end, num, sub, items, Held}
use Rattle.terms.proofs.Laws.Held.HeldLaws.{head_kind, head_value, held_first, held_node, held_num, row_num, row_end}
use Rattle.unify.specs.Term.{clash}
use Rattle.solver.specs.declared.ChainEnd.{ChainEnd}
use Rattle.solver.specs.declared.ChainEnd.TheVariants.{At, Default}
use Rattle.solver.specs.Words.Bindings.{builtin, HeldWord, placed, coded}
use Rattle.solver.specs.Words.ChainEnds.{HeldEnd, chain_word, variable_in, code_row, code_in}

-- ---- its word

pub end_word_held : (ks vs : List ℕ) (t : Term) (q : ChainEnd) → HeldEnd ks vs t q → HeldWord ks vs t (chain_word q)
end_word_held ks vs t (At p) h = placed p refl h
end_word_held ks vs t (Default b) h = coded b.code h.0 refl h.1

-- ---- the variable that it is

pub variable_told : (t : Term) (v : ℕ) → variable_in t ≡ Some v → t ≡ var v
variable_told (var w) v e = let q : w ≡ v = cc in ap var q
variable_told (node k ps) v e = clash (cc)

pub node_told : (t : Term) → variable_in t ≡ None → (k : ℕ) × (ps : Parts) × (t ≡ node k ps)
node_told (var v) e = clash (cc)
node_told (node k ps) e = (k, ps, refl)

module _ (ks vs : List ℕ) (q : ℕ) where
  pub variable_here : (t : Term) → Held ks vs q t → get_or ks q 0 ≡ 1 → Some (get_or vs q 0) ≡ variable_in t
  unfolding head_kind head_value
  variable_here (var v) h e = ap Some (held_first ks vs q (var v) h).1
  variable_here (node k ps) h e = absurd (omega (arith, (held_first ks vs q (node k ps) h).0))

  pub variable_none : (t : Term) → Held ks vs q t → (get_or ks q 0 ≡ 1 → ⊥) → None ≡ variable_in t
  unfolding head_kind
  variable_none (var v) h e = absurd (e (held_first ks vs q (var v) h).0)
  variable_none (node k ps) h e = refl

-- ---- the code of the builtin that it is

pub code_builtin : (c : ℕ) → code_in (builtin c) ≡ Some c
unfolding code_in code_row
code_builtin c = refl

row_told : (ps : Parts) (c : ℕ) → code_row ps ≡ Some c → ps ≡ num c end
unfolding code_row
row_told end c e = clash (cc)
row_told (num d end) c e = let q : d ≡ c = cc in ap (λ (i : ℕ). num i end) q
row_told (num d (num f ps)) c e = clash (cc)
row_told (num d (sub t ps)) c e = clash (cc)
row_told (sub t ps) c e = clash (cc)

-- a term that has the code is the builtin
pub code_told : (t : Term) (c : ℕ) → code_in t ≡ Some c → t ≡ builtin c
unfolding code_in
code_told (var v) c e = clash (cc)
code_told (node k ps) c e = go (eqb k 4) refl e
  where
    go : (b : Bool) → eqb k 4 ≡ b → pick b (code_row ps) None ≡ Some c → node k ps ≡ builtin c
    go true q f = ap₂ node (eqb-true k 4 q) (row_told ps c f)
    go false q f = clash (cc)

none_or_builtin : (ps : Parts) → ((c : ℕ) → ps ≡ num c end → ⊥) → None ≡ code_row ps
unfolding code_row
none_or_builtin end n = refl
none_or_builtin (num c end) n = absurd (n c refl)
none_or_builtin (num c (num d ps)) n = refl
none_or_builtin (num c (sub t ps)) n = refl
none_or_builtin (sub t ps) n = refl

-- a term that is no builtin has none
pub code_none : (t : Term) → ((c : ℕ) → t ≡ builtin c → ⊥) → None ≡ code_in t
unfolding code_in
code_none (var v) n = refl
code_none (node k ps) n = go (ℕ_discrete k 4)
  where
    go : Dec (k ≡ 4) → None ≡ pick (eqb k 4) (code_row ps) None
    go (yes e) = rw (eq-eqb k 4 e) (none_or_builtin ps (λ c f. n c (ap (λ (j : ℕ). node j ps) e ∙ ap (node 4) f)))
    go (no e) = rw (ne_eqb k 4 e)

module _ (ks vs : List ℕ) (q : ℕ) where
  -- the tokens of a builtin
  pub record Coded (c : ℕ) : Type 0 where
    pub head : get_or ks q 0 ≡ 6
    pub span : get_or vs q 0 ≡ 2
    pub room : q + 2 ≤ length ks
    pub number : get_or ks (q + 1) 0 ≡ 0
    pub code : get_or vs (q + 1) 0 ≡ c

  pub coded_words : (c : ℕ) → Held ks vs q (builtin c) → Coded c
  unfolding head_kind head_value items
  coded_words c h =
      let f = held_first ks vs q (node 4 (num c end)) h in
      let r = held_num ks vs (q + 1) _ c end (held_node ks vs q 4 (num c end) h) in
      record { head = f.0; span = f.1; room = h.within; number = r.0; code = r.1 }

  -- a term with these tokens is a builtin
  pub coded_is : get_or ks q 0 ≡ 6 → get_or vs q 0 ≡ 2 → get_or ks (q + 1) 0 ≡ 0 → (t : Term) → Held ks vs q t → t ≡ builtin (get_or vs (q + 1) 0)
  unfolding head_kind head_value items
  coded_is a b d (var w) h = absurd (omega (arith, (held_first ks vs q (var w) h).0))
  coded_is a b d (node k ps) h =
      let f = held_first ks vs q (node k ps) h in
      let e : k ≡ 4 = omega (arith, f.0) in
      let g = held_node ks vs q k ps h in
      let r = row_num ks vs (q + 1) _ ps g (omega (arith, f.1)) d in
      let z : r.1 ≡ end = row_end ks vs (q + 1 + 1) _ r.1 r.4 (omega (arith, f.1)) in
      rw (e, r.2, z, r.3)

  -- the code at q, by these tokens
  pub code_here : get_or ks q 0 ≡ 6 → get_or vs q 0 ≡ 2 → get_or ks (q + 1) 0 ≡ 0 → (t : Term) → Held ks vs q t → Some (get_or vs (q + 1) 0) ≡ code_in t
  code_here a b d t h = sym (ap code_in (coded_is a b d t h) ∙ code_builtin (get_or vs (q + 1) 0))

  pub code_other : ((c : ℕ) → Coded c → ⊥) → (t : Term) → Held ks vs q t → None ≡ code_in t
  code_other n t h = code_none t (λ c e. n c (coded_words c (subst (λ (u : Term). Held ks vs q u) e h)))
