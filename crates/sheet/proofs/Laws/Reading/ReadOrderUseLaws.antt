-- What a caller has of an order that was read: its fields are formed, one by one and as the laws of terms ask it; its tokens, and how many of them begin
-- a term.
use mathlib.Core.Path.{◌≡◌, refl, sym, ap, ◌∙◌}
use mathlib.Core.Bool.{false}
use mathlib.Core.List.{List, [], ◌∷◌, ◌++◌}
use Prim.Native.Nat.{ℕ, zero, suc, ◌+◌, ◌-◌, ◌≤◌}
use native.Mathlib.Omega.{arith}
use borrow.Author.Tests.{ne_eqb}
use lib.Dec.{eqb}
use lib.ListN.{length}
use Rattle.solver.specs.Terms.Tokens.{Item, item, Area, zeros}
use Rattle.solver.specs.Terms.Term.{Term, Parts, var, node, end, num, sub, items, part_items, size, sizes}
use Rattle.solver.specs.Terms.Held.{HeldParts}
use Rattle.solver.proofs.Terms.StoreLaws.{length_kinds, length_vals}
use Rattle.solver.specs.Words.SessionRepresentation.{begins}
use Rattle.solver.specs.TermTypes.{Rule}
use Rattle.sheet.specs.declared.Order.{Order}
use Rattle.sheet.specs.Fields.{Field, value, tree, nth}
use Rattle.sheet.specs.Words.FieldsFormed.{FormedField, FormedFields}
use Rattle.sheet.specs.Words.FieldLayout.{field_items, all_items}
use Rattle.sheet.specs.Words.OrderReaderContract.{WholeOrder}

-- ---- formed

module _ (known : ℕ) where
  -- a field that the order has not is value 0
  pub nth_formed : (fs : List Field) (i : ℕ) → FormedFields known fs → FormedField known (nth i fs)
  unfolding nth FormedFields
  nth_formed [] i h = omega arith
  nth_formed (f ∷ fs) zero h = h.0
  nth_formed (f ∷ fs) (suc i) h = nth_formed fs i h.1

-- ---- the words of stored tokens

unfoldable pub kind_words : List Item → List ℕ
kind_words [] = []
kind_words (item k v ∷ l) = k ∷ kind_words l

-- ---- how many begin a term

pub begins_append : (l m : List ℕ) → begins (l ++ m) ≡ begins l + begins m
unfolding begins
begins_append [] m = omega arith
begins_append (k ∷ l) m = omega (arith, begins_append l m)

words_append : (l m : List Item) → kind_words (l ++ m) ≡ kind_words l ++ kind_words m
unfolding kind_words
words_append [] m = refl
words_append (item k v ∷ l) m = ap (λ (x : List ℕ). k ∷ x) (words_append l m)

abbrev pub heads : List Item → ℕ
heads l = begins (kind_words l)

pub heads_append : (l m : List Item) → heads (l ++ m) ≡ heads l + heads m
heads_append l m = ap begins (words_append l m) ∙ begins_append (kind_words l) (kind_words m)

mutual
  unfolding items size begins kind_words

  pub heads_term : (t : Term) → heads (items t) ≡ size t
  heads_term (var v) = refl
  heads_term (node k ps) =
      let z : eqb (suc (suc k)) 0 ≡ false = ne_eqb (suc (suc k)) 0 (λ e. omega arith) in
      rw z (ap (λ (n : ℕ). 1 + n) (heads_row ps))

  pub heads_row : (ps : Parts) → heads (part_items ps) ≡ sizes ps
  heads_row end = refl
  heads_row (num n ps) = omega (arith, heads_row ps)
  heads_row (sub t ps) = omega (arith, heads_append (items t) (part_items ps), heads_term t, heads_row ps)

-- ---- an order, and one within the limit

module _ (s : List ℕ) (issued top kept limit : ℕ) (d e : Area) (ws : List Rule) (o : Order) (x : WholeOrder s issued top kept limit d e ws o) where
  -- the areas are as long as they were
  pub order_long : (length e.kinds ≡ length d.kinds) × (length e.vals ≡ length d.vals)
  order_long = (
    sym (length_kinds (zeros (o.top - top)) e top) ∙ ap (λ (y : Area). length y.kinds) x.cleared,
    sym (length_vals (zeros (o.top - top)) e top) ∙ ap (λ (y : Area). length y.vals) x.cleared,
  )

module _ (s : List ℕ) (issued top kept limit : ℕ) (d e : Area) (ws : List Rule) (o : Order) (x : WholeOrder s issued top kept limit d e ws o) (h : o.nodes ≤ limit) where
  -- two terms after a number: order 4
  pub pair_row : (n : ℕ) (t u : Term) → x.said ≡ value n ∷ tree t ∷ tree u ∷ [] → HeldParts e.kinds e.vals top o.top (sub t (sub u end))
  unfolding all_items field_items items
  pair_row n t u is =
      let same : all_items x.said ≡ items t ++ (items u ++ []) = ap all_items is in
      record { tokens = rw same at (x.run h); ends = sym (rw same at x.tokens); within = x.fits h }
