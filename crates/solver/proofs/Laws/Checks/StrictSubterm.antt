-- A term strictly inside another one, bound variables followed: it stays so as bindings grow, and no term is inside itself.
use mathlib.Core.Path.{◌≡◌, refl, ap}
use mathlib.Core.Option.{Option, none, some}
use Prim.Native.Nat.{ℕ, zero, suc, ◌+◌, ◌≤◌, ◌<◌}
use native.Mathlib.Omega.{arith}
use Rattle.terms.specs.Term.{Term, Parts, var, node, num, sub, size, sizes}
use Rattle.solver.specs.Constrain.{replace, replace_row, followed, resolve, follow}
use Rattle.solver.specs.Words.ReachContract.{Steady}
use Rattle.solver.proofs.Laws.Resolving.ReachLaws.{by_variable}

-- s is one of the terms of a row
pub data HasPart (s : Term) : Parts → Type 0 where
  first : {ps : Parts} → HasPart s (sub s ps)
  past_num : {n : ℕ} {ps : Parts} → HasPart s ps → HasPart s (num n ps)
  past_sub : {t : Term} {ps : Parts} → HasPart s ps → HasPart s (sub t ps)

-- from s down to u: through bound variables, and to parts of nodes
pub data Leads (b : ℕ → Option Term) (u : Term) : Term → Type 0 where
  at : Leads b u u
  through : (v : ℕ) (s : Term) → b v ≡ some s → Leads b u s → Leads b u (var v)
  down : (k : ℕ) (ps : Parts) (s : Term) → HasPart s ps → Leads b u s → Leads b u (node k ps)

-- u is strictly inside the node t
pub data Below (b : ℕ → Option Term) (u : Term) : Term → Type 0 where
  inside : (k : ℕ) (ps : Parts) (s : Term) → HasPart s ps → Leads b u s → Below b u (node k ps)

leads_trans : (b : ℕ → Option Term) (u w : Term) {s : Term} → Leads b w s → Leads b u w → Leads b u s
leads_trans b u w at q = q
leads_trans b u w (through v s e p) q = through v s e (leads_trans b u w p q)
leads_trans b u w (down k ps s h p) q = down k ps s h (leads_trans b u w p q)

below_leads : (b : ℕ → Option Term) (u : Term) {t : Term} → Below b u t → Leads b u t
below_leads b u (inside k ps s h p) = down k ps s h p

pub below_trans : (b : ℕ → Option Term) (u w : Term) {t : Term} → Below b u w → Below b w t → Below b u t
below_trans b u w p (inside k ps s h q) = inside k ps s h (leads_trans b u w q (below_leads b u p))

-- bindings grow
abbrev pub Extends : (ℕ → Option Term) → (ℕ → Option Term) → Type 0
Extends b b' = (v : ℕ) (t : Term) → b v ≡ some t → b' v ≡ some t

module _ (b b' : ℕ → Option Term) (x : Extends b b') (u : Term) where
  leads_extends : {s : Term} → Leads b u s → Leads b' u s
  leads_extends at = at
  leads_extends (through v s e p) = through v s (x v s e) (leads_extends p)
  leads_extends (down k ps s h p) = down k ps s h (leads_extends p)

  pub below_extends : {t : Term} → Below b u t → Below b' u t
  below_extends (inside k ps s h p) = inside k ps s h (leads_extends p)

-- ---- no term is inside itself: sizes, bound variables replaced, fall

part_size : (f : ℕ → Term) {s : Term} {ps : Parts} → HasPart s ps → size (replace f s) ≤ sizes (replace_row f ps)
unfolding size replace
part_size f first = omega arith
part_size f (past_num h) = part_size f h
part_size f (past_sub h) = omega (arith, part_size f h)

node_size : (f : ℕ → Term) (k : ℕ) (ps : Parts) → size (replace f (node k ps)) ≡ 1 + sizes (replace_row f ps)
unfolding size replace
node_size f k ps = refl

module _ (b : ℕ → Option Term) (n : ℕ) (g : Steady n b) (u : Term) where
  -- a part is smaller than its node, bound variables replaced
  part_less : (k : ℕ) (ps : Parts) (s : Term) → HasPart s ps → size (resolve n b s) < size (resolve n b (node k ps))
  part_less k ps s h =
      let f : ℕ → Term = λ v. resolve n b (var v) in
      omega (arith, part_size f h, node_size f k ps, ap size (by_variable n b s), ap size (by_variable n b (node k ps)))

  leads_size : {s : Term} → Leads b u s → size (resolve n b u) ≤ size (resolve n b s)
  leads_size at = omega arith
  leads_size (through v s e p) = omega (arith, leads_size p, ap size (g.bound v s e))
  leads_size (down k ps s h p) = omega (arith, leads_size p, part_less k ps s h)

  below_size : {t : Term} → Below b u t → size (resolve n b u) < size (resolve n b t)
  below_size (inside k ps s h p) = omega (arith, leads_size p, part_less k ps s h)

pub below_never : (b : ℕ → Option Term) (n : ℕ) → Steady n b → (t : Term) → Below b t t → ⊥
below_never b n g t h = omega (arith, below_size b n g t h)

-- what a part of a node stands for is strictly inside the node
top_cell : (b : ℕ → Option Term) (m v : ℕ) → ((s : Term) → Leads b (follow m b s) s) → (o : Option Term) → b v ≡ o → Leads b (followed v o (λ u. follow m b u)) (var v)
unfolding followed
top_cell b m v ih none e = at
top_cell b m v ih (some s) e = through v s e (ih s)

leads_top : (b : ℕ → Option Term) (m : ℕ) (s : Term) → Leads b (follow m b s) s
unfolding follow
leads_top b zero s = at
leads_top b (suc m) (var v) = top_cell b m v (leads_top b m) (b v) refl
leads_top b (suc m) (node k ps) = at

pub below_top : (b : ℕ → Option Term) (m k : ℕ) (ps : Parts) (s : Term) → HasPart s ps → Below b (follow m b s) (node k ps)
below_top b m k ps s h = inside k ps s h (leads_top b m s)
