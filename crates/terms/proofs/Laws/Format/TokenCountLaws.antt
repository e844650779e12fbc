-- How many tokens a formed term has. A number that names a definition may one day take several tokens, so the law is over the width w of such
-- a number, which is 1 now: a term has at most 2w + 4 tokens for each node, less w, and less one for each leaf.
use mathlib.Core.Path.{◌≡◌, refl}
use mathlib.Core.Bool.{Bool, true}
use Prim.Native.Nat.{ℕ, zero, suc, max, ◌+◌, ◌*◌, ◌≤◌}
use native.Mathlib.Nat.{mul-add, mul-one}
use native.Mathlib.Omega.{arith}
use borrow.Author.Tests.{leb-true, le-leb}
use lib.Dec.{leb}
use lib.ListN.{length, length-append}
use Rattle.terms.specs.Term.{Term, Parts, var, node, end, num, sub, items, part_items, size, sizes}
use Rattle.terms.specs.Shape as shape
use Rattle.terms.specs.Shape.{Shape, Sort, layout, layouts, nominal, many_terms, many_members}
use Rattle.terms.specs.Formed.{Formed, Fit, TakesNumber, TakesTerm, after_number, after_term}
use Rattle.terms.proofs.Laws.Format.KindTableLaws.{all, all-at}

-- the tokens of a number that comes next in a row
unfoldable pub width : ℕ → Shape → ℕ
width w shape.done = 1
width w (shape.code limit r) = 1
width w (shape.number shape.definition r) = w
width w (shape.number shape.ordinary r) = 1
width w (shape.term r) = 1
width w (shape.terms r) = 1
width w (shape.members r) = 1
width w (shape.member n least r) = w

-- the tokens of a term where a number that names a definition takes w
unfoldable mutual
  pub weight : ℕ → Term → ℕ
  weight w (var v) = 1
  weight w (node k ps) = suc (weights w (layout k) ps)

  pub weights : ℕ → Shape → Parts → ℕ
  weights w r end = 0
  weights w r (num n ps) = width w r + weights w (after_number r n) ps
  weights w r (sub t ps) = weight w t + weights w (after_term r) ps

-- the leaves of a term, which are its variables and the nodes with no term inside; and those of the terms of a row
unfoldable mutual
  pub leaves : Term → ℕ
  leaves (var v) = 1
  leaves (node k ps) = max 1 (row_leaves ps)

  pub row_leaves : Parts → ℕ
  row_leaves end = 0
  row_leaves (num n ps) = row_leaves ps
  row_leaves (sub t ps) = leaves t + row_leaves ps

-- the numbers of a row, those of its pairs aside but for the one that comes next
unfoldable own : ℕ → Shape → ℕ
unfolding width
own w shape.done = 0
own w (shape.code limit r) = 1 + own w r
own w (shape.number f r) = width w (shape.number f r) + own w r
own w (shape.term r) = own w r
own w (shape.terms r) = 1 + own w r
own w (shape.members r) = 1 + own w r
own w (shape.member n least r) = w + own w r

-- what the terms that a row has in any case leave over
unfoldable spare : ℕ → Shape → ℕ
spare w shape.done = 0
spare w (shape.code limit r) = spare w r
spare w (shape.number f r) = spare w r
spare w (shape.term r) = w + spare w r
spare w (shape.terms r) = spare w r
spare w (shape.members r) = spare w r
spare w (shape.member n least r) = w + spare w r

-- 1 where a row has a term in any case, and so a leaf
unfoldable sure : Shape → ℕ
sure shape.done = 0
sure (shape.code limit r) = sure r
sure (shape.number f r) = sure r
sure (shape.term r) = 1
sure (shape.terms r) = sure r
sure (shape.members r) = sure r
sure (shape.member n least r) = 1

-- the test of a row, and of the table
unfoldable fitting : ℕ → Shape → Bool
unfolding own spare sure
fitting w r = leb (own w r) (spare w r + sure r + w + 2)

unfoldable pub Fitting : ℕ → Type 0
unfolding fitting
Fitting w = all (fitting w) layouts ≡ true

-- ---- leaves

pub leaves_some : (t : Term) → 1 ≤ leaves t
unfolding leaves
leaves_some (var v) = omega arith
leaves_some (node k ps) = omega arith

sure_most : (r : Shape) → sure r ≤ 1
unfolding sure
sure_most shape.done = omega arith
sure_most (shape.code limit r) = sure_most r
sure_most (shape.number f r) = sure_most r
sure_most (shape.term r) = omega arith
sure_most (shape.terms r) = sure_most r
sure_most (shape.members r) = sure_most r
sure_most (shape.member n least r) = omega arith

sure_terms : (n : ℕ) (r : Shape) → sure r ≤ sure (many_terms n r)
unfolding sure many_terms
sure_terms zero r = omega arith
sure_terms (suc n) r = sure_most r

sure_members : (n least : ℕ) (r : Shape) → sure r ≤ sure (many_members n least r)
unfolding sure many_members
sure_members zero least r = omega arith
sure_members (suc n) least r = sure_most r

sure_number : (r : Shape) (n : ℕ) → TakesNumber r n → sure r ≤ sure (after_number r n)
unfolding TakesNumber after_number sure
sure_number shape.done n t = absurd t
sure_number (shape.code limit r) n t = omega arith
sure_number (shape.number f r) n t = omega arith
sure_number (shape.term r) n t = absurd t
sure_number (shape.terms r) n t = sure_terms n r
sure_number (shape.members r) n t = sure_members n 0 r
sure_number (shape.member k least r) n t = omega arith

sure_leaves : (ps : Parts) (r : Shape) → Fit r ps → sure r ≤ row_leaves ps
unfolding Fit leaves sure
sure_leaves end r f = rw f (omega arith)
sure_leaves (num n ps) r f = omega (arith, sure_number r n f.0, sure_leaves ps (after_number r n) f.1)
sure_leaves (sub t ps) r f = omega (arith, sure_most r, leaves_some t)

-- ---- tokens

module _ (w : ℕ) where
  own_terms : (n : ℕ) (r : Shape) → own w (many_terms n r) ≡ own w r
  unfolding own many_terms
  own_terms zero r = refl
  own_terms (suc n) r = own_terms n r

  spare_terms : (n : ℕ) (r : Shape) → spare w r ≤ spare w (many_terms n r)
  unfolding spare many_terms
  spare_terms zero r = omega arith
  spare_terms (suc n) r = omega (arith, spare_terms n r)

  spare_members : (n least : ℕ) (r : Shape) → own w (many_members n least r) + spare w r ≤ own w r + spare w (many_members n least r)
  unfolding own spare many_members
  spare_members zero least r = omega arith
  spare_members (suc n) least r = omega arith

  -- one number, and what follows it: x tokens and l leaves
  step_number : (r : Shape) (n x l y : ℕ) → TakesNumber r n
      → x + l + spare w (after_number r n) ≤ own w (after_number r n) + y → width w r + x + l + spare w r ≤ own w r + y
  unfolding TakesNumber after_number own spare width
  step_number shape.done n x l y t h = absurd t
  step_number (shape.code limit r) n x l y t h = omega arith
  step_number (shape.number f r) n x l y t h = omega arith
  step_number (shape.term r) n x l y t h = absurd t
  step_number (shape.terms r) n x l y t h = omega (arith, own_terms n r, spare_terms n r)
  step_number (shape.members r) n x l y t h = omega (arith, spare_members n 0 r)
  step_number (shape.member k least r) n x l y t h = omega (arith, spare_members k (n + 1) r)

  -- one term of x tokens and l leaves, and what follows it: y tokens and m leaves
  step_term : (r : Shape) (x l z y m u : ℕ) → TakesTerm r → x + l + w ≤ z → y + m + spare w (after_term r) ≤ own w (after_term r) + u
      → x + y + (l + m) + spare w r ≤ own w r + (z + u)
  unfolding TakesTerm after_term own spare
  step_term shape.done x l z y m u t h k = absurd t
  step_term (shape.code limit r) x l z y m u t h k = absurd t
  step_term (shape.number f r) x l z y m u t h k = absurd t
  step_term (shape.term r) x l z y m u t h k = omega arith
  step_term (shape.terms r) x l z y m u t h k = absurd t
  step_term (shape.members r) x l z y m u t h k = absurd t
  step_term (shape.member n least r) x l z y m u t h k = absurd t

  done_left : (r : Shape) (y : ℕ) → r ≡ shape.done → 0 + 0 + spare w r ≤ own w r + y
  unfolding own spare
  done_left r y e = rw e (omega arith)

  module _ (fits : Fitting w) where
    row_fits : (k : ℕ) → own w (layout k) ≤ spare w (layout k) + sure (layout k) + w + 2
    unfolding Fitting fitting
    row_fits k = leb-true (own w (layout k)) (spare w (layout k) + sure (layout k) + w + 2) (all-at (fitting w) layouts k shape.done fits (trivial w))
      where
        trivial : (w : ℕ) → fitting w shape.done ≡ true
        trivial w = le-leb 0 (0 + 0 + w + 2) (omega arith)

    mutual
      unfolding Formed Fit weight size leaves

      pub leaves_bound : (t : Term) → Formed t → weight w t + leaves t + w ≤ (2 * w + 4) * size t
      leaves_bound (var v) f = omega (arith, mul-one (2 * w + 4))
      leaves_bound (node k ps) f =
          let h = row_leaves_bound ps (layout k) f.1 in
          omega (arith, row_fits k, h, sure_most (layout k), sure_leaves ps (layout k) f.1, mul-add (2 * w + 4) 1 (sizes ps), mul-one (2 * w + 4))

      row_leaves_bound : (ps : Parts) (r : Shape) → Fit r ps → weights w r ps + row_leaves ps + spare w r ≤ own w r + (2 * w + 4) * sizes ps
      row_leaves_bound end r f = done_left r ((2 * w + 4) * 0) f
      row_leaves_bound (num n ps) r f =
          step_number r n (weights w (after_number r n) ps) (row_leaves ps) ((2 * w + 4) * sizes ps) f.0 (row_leaves_bound ps (after_number r n) f.1)
      row_leaves_bound (sub t ps) r f =
          rw (mul-add (2 * w + 4) (size t) (sizes ps))
          (step_term r (weight w t) (leaves t) ((2 * w + 4) * size t) (weights w (after_term r) ps) (row_leaves ps) ((2 * w + 4) * sizes ps) f.0
          (leaves_bound t f.1) (row_leaves_bound ps (after_term r) f.2))

    -- less w + 1, since there is a leaf
    pub tokens_bound : (t : Term) → Formed t → weight w t + (w + 1) ≤ (2 * w + 4) * size t
    tokens_bound t f = omega (arith, leaves_bound t f, leaves_some t)

    -- a bare nominal, its head included: w + 3 tokens of its own
    pub bare_leaves_bound : (ps : Parts) → Fit (nominal shape.done) ps
        → suc (weights w (nominal shape.done) ps) + row_leaves ps ≤ (2 * w + 4) * sizes ps + (w + 3)
    unfolding own spare width
    bare_leaves_bound ps f = omega (arith, row_leaves_bound ps (nominal shape.done) f)

    pub bare_bound : (ps : Parts) → Fit (nominal shape.done) ps → suc (weights w (nominal shape.done) ps) ≤ (2 * w + 4) * sizes ps + (w + 3)
    bare_bound ps f = omega (arith, bare_leaves_bound ps f)

-- ---- the two widths

pub one : Fitting 1
unfolding Fitting fitting own spare sure width all
one = refl

pub two : Fitting 2
unfolding Fitting fitting own spare sure width all
two = refl

width_one : (r : Shape) → width 1 r ≡ 1
unfolding width
width_one shape.done = refl
width_one (shape.code limit r) = refl
width_one (shape.number shape.definition r) = refl
width_one (shape.number shape.ordinary r) = refl
width_one (shape.term r) = refl
width_one (shape.terms r) = refl
width_one (shape.members r) = refl
width_one (shape.member n least r) = refl

-- at width 1 the weight is the number of tokens
mutual
  unfolding weight items

  pub weight_one : (t : Term) → weight 1 t ≡ length (items t)
  weight_one (var v) = refl
  weight_one (node k ps) = omega (arith, weights_one ps (layout k))

  pub weights_one : (ps : Parts) (r : Shape) → weights 1 r ps ≡ length (part_items ps)
  weights_one end r = refl
  weights_one (num n ps) r = omega (arith, width_one r, weights_one ps (after_number r n))
  weights_one (sub t ps) r = omega (arith, length-append (items t) (part_items ps), weight_one t, weights_one ps (after_term r))

-- a greater width makes no term lighter
module _ (v w : ℕ) (h : v ≤ w) where
  width_grows : (r : Shape) → width v r ≤ width w r
  unfolding width
  width_grows shape.done = omega arith
  width_grows (shape.code limit r) = omega arith
  width_grows (shape.number shape.definition r) = h
  width_grows (shape.number shape.ordinary r) = omega arith
  width_grows (shape.term r) = omega arith
  width_grows (shape.terms r) = omega arith
  width_grows (shape.members r) = omega arith
  width_grows (shape.member n least r) = h

  mutual
    unfolding weight

    pub weight_grows : (t : Term) → weight v t ≤ weight w t
    weight_grows (var n) = omega arith
    weight_grows (node k ps) = omega (arith, weights_grow ps (layout k))

    pub weights_grow : (ps : Parts) (r : Shape) → weights v r ps ≤ weights w r ps
    weights_grow end r = omega arith
    weights_grow (num n ps) r = omega (arith, width_grows r, weights_grow ps (after_number r n))
    weights_grow (sub t ps) r = omega (arith, weight_grows t, weights_grow ps (after_term r))
