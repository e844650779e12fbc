-- Room for tokens where a number that names a definition takes two of them: 8 words for each node are enough. Each of several terms leaves 3 words over,
-- and a rule leaves 1. Order 17 has two bare nominals, whose heads are no nodes and have 5 tokens each. They fit by the levels: a term leaves a word over
-- for each leaf, and it has at most so many nodes for each leaf as it may have levels. No code uses this yet: an id is one token.
use mathlib.Core.Path.{◌≡◌, refl}
use mathlib.Core.Bool.{Bool, true, false}
use mathlib.Core.List.{List, [], ◌∷◌}
use Prim.Native.Nat.{ℕ, zero, suc, max, ◌+◌, ◌*◌, ◌≤◌, ◌<◌}
use native.Mathlib.Nat.{le-max_left, le-max_right, mul-le-mul_left}
use native.Mathlib.Omega.{arith}
use borrow.Author.Tests.{leb-true, leb-false}
use lib.Dec.{leb}
use lib.ListN.{length}
use Rattle.terms.specs.Term.{Term, Parts, var, node, end, num, sub, size, sizes, depth, depths}
use Rattle.terms.specs.Shape.{nominal, done}
use Rattle.terms.specs.Formed.{Formed, Fit, Each}
use Rattle.terms.specs.Lookup.{Pattern, FormedPattern}
use Rattle.terms.proofs.Laws.Format.TokenCountLaws.{weight, leaves, row_leaves, leaves_bound, tokens_bound, bare_leaves_bound, two}

-- ---- terms, each formed

unfoldable pub sum_of : (Term → ℕ) → List Term → ℕ
sum_of f [] = 0
sum_of f (t ∷ ts) = f t + sum_of f ts

pub terms_room : (ts : List Term) → Each Formed ts → sum_of (weight 2) ts + 3 * length ts ≤ 8 * sum_of size ts
unfolding sum_of Each
terms_room [] f = omega arith
terms_room (t ∷ ts) f = omega (arith, tokens_bound 2 two t f.0, terms_room ts f.1)

-- terms with n nodes in all take at most 8 n - 3 tokens: 16,381 where n is 2,048, and 65,533 where it is 8,192
pub some_terms_room : (n : ℕ) (t : Term) (ts : List Term) → Each Formed (t ∷ ts) → sum_of size (t ∷ ts) ≤ n → sum_of (weight 2) (t ∷ ts) + 3 ≤ 8 * n
some_terms_room n t ts f h = omega (arith, terms_room (t ∷ ts) f)

-- ---- a bare nominal, which stands under the tag 20, and a rule

pub nominal_room : (ps : Parts) → Fit (nominal done) ps → weight 2 (node 20 ps) + row_leaves ps ≤ 8 * sizes ps + 5
unfolding weight
nominal_room ps f = bare_leaves_bound 2 two ps f

pub rule_room : (p : Pattern) → FormedPattern p
    → weight 2 (node 20 p.interface) + weight 2 p.receiver + sum_of (weight 2) p.arguments + weight 2 p.value + 1
    ≤ 8 * (sizes p.interface + size p.receiver + sum_of size p.arguments + size p.value)
rule_room p f =
    omega (
      arith,
      nominal_room p.interface f.interface,
      tokens_bound 2 two p.receiver f.receiver,
      terms_room p.arguments f.arguments,
      tokens_bound 2 two p.value f.value,
    )

-- ---- levels

-- one level more: x terms with n leaves, and the node that has them, which is a leaf where there are none
over : (l n x : ℕ) → x ≤ l * n → 1 + x ≤ suc l * max 1 n
over l zero x h = omega (arith, mul-le-mul_left (suc l) (le-max_left 1 zero))
over l (suc n) x h = omega (arith, mul-le-mul_left (suc l) (le-max_right 1 (suc n)))

-- at most l nodes for each leaf of a term of l levels
mutual
  unfolding size depth leaves

  pub level_nodes : (l : ℕ) (t : Term) → depth t ≤ l → size t ≤ l * leaves t
  level_nodes l (var v) h = omega arith
  level_nodes zero (node k ps) h = absurd (omega arith)
  level_nodes (suc l) (node k ps) h = over l (row_leaves ps) (sizes ps) (level_row_nodes l ps (omega arith))

  pub level_row_nodes : (l : ℕ) (ps : Parts) → depths ps ≤ l → sizes ps ≤ l * row_leaves ps
  level_row_nodes l end h = omega arith
  level_row_nodes l (num n ps) h = level_row_nodes l ps h
  level_row_nodes l (sub t ps) h = omega (arith, level_nodes l t (omega arith), level_row_nodes l ps (omega arith))

-- ---- order 17: two bare nominals and a term

module _ (ps qs : Parts) (t : Term) where
  abbrev pub pair_tokens : ℕ
  pair_tokens = weight 2 (node 20 ps) + weight 2 (node 20 qs) + weight 2 t

  abbrev pub pair_nodes : ℕ
  pair_nodes = sizes ps + sizes qs + size t

  abbrev pub pair_leaves : ℕ
  pair_leaves = row_leaves ps + row_leaves qs + leaves t

  pub pair_leaves_bound : Fit (nominal done) ps → Fit (nominal done) qs → Formed t → pair_tokens + pair_leaves ≤ 8 * pair_nodes + 8
  pair_leaves_bound f g h = omega (arith, nominal_room ps f, nominal_room qs g, leaves_bound 2 two t h)

  pub pair_nodes_bound : (l : ℕ) → depths ps ≤ l → depths qs ≤ l → depth t ≤ l → pair_nodes ≤ l * pair_leaves
  pair_nodes_bound l a b c = omega (arith, level_row_nodes l ps a, level_row_nodes l qs b, level_nodes l t c)

  module _ (f : Fit (nominal done) ps) (g : Fit (nominal done) qs) (h : Formed t) where
    -- where n nodes are more than seven times the levels, 8 n words are enough
    pub pair_room : (l n : ℕ) → depths ps ≤ l → depths qs ≤ l → depth t ≤ l → 7 * l < n → pair_nodes ≤ n → pair_tokens ≤ 8 * n
    pair_room l n a b c k m = by (leb pair_leaves 7) refl
      where
        by : (x : Bool) → leb pair_leaves 7 ≡ x → pair_tokens ≤ 8 * n
        by true e = omega (arith, pair_leaves_bound f g h, pair_nodes_bound l a b c, mul-le-mul_left l (leb-true pair_leaves 7 e))
        by false e = omega (arith, pair_leaves_bound f g h, leb-false pair_leaves 7 e)

    -- within 200 levels: an area of 16,384 words has room beside 2,048 nodes, and one of 65,536 beside 8,192
    pub pair_fits : depths ps ≤ 200 → depths qs ≤ 200 → depth t ≤ 200 → (pair_nodes ≤ 2048 → pair_tokens ≤ 16381) × (pair_nodes ≤ 8192 → pair_tokens ≤ 65503)
    pair_fits a b c =
        let l = pair_leaves_bound f g h in
        let n = pair_nodes_bound 200 a b c in
        (λ m. omega (arith, l, n), λ m. omega (arith, l, n))
