-- The tokens that normalising sees. First come the lent ones, then one that is Error. For order 19 follow the projections that may be made anew, each
-- `width` tokens long: one for each lent token t and one more, with the value of t as its member. Order 20 is given nothing and makes none.
use Rattle.std.specs.Prelude.{◌≡◌, List, [], ◌∷◌, ℕ, zero, suc, ◌+◌, ◌-◌, ◌*◌, ◌/◌, ◌%◌, ◌<◌, ◌≤◌, eqb, ltb, leb, length, get_or, Option, Some, None}
use Rattle.terms.specs.declared.LookUp.{LookUp}
use Rattle.terms.specs.declared.LookUp.TheVariants.{Rules, Given}
use Rattle.terms.specs.declared.Origin.{Origin}
use Rattle.terms.specs.declared.Spot.{Spot}
use Rattle.terms.specs.declared.Spot.TheVariants.{Lent, Error, Head, Nowhere}
use Rattle.terms.specs.Result.{pick}
use Rattle.terms.specs.Words.Tokens.{Area, area}

-- f a, f (a + 1), .., n of them
unfoldable pub tabulate : (ℕ → ℕ) → ℕ → ℕ → List ℕ
tabulate f a zero = []
tabulate f a (suc n) = f a ∷ tabulate f (suc a) n

-- how many tokens a projection has that is made anew, and how many where nothing is given
unfoldable pub width : Origin → ℕ
width g = g.span + g.row + 3

-- what a lookup gives the tokens to be made from
abbrev pub given_of : LookUp → Option Origin
given_of (Rules ws) = None
given_of (Given g) = Some g

abbrev pub size_of : Option Origin → ℕ
size_of None = 0
size_of (Some g) = width g

-- Which lent token stands r-th, from 1, after the head of the projection for t: the owner's tokens, the interface's row, the token t, and a number 0,
-- which is what stands past the lent tokens.
abbrev pub copied : Origin → (len r t : ℕ) → ℕ
copied g len r t =
    pick (leb r g.span) (g.owner + r - 1)
    (pick (leb r (g.span + g.row)) (g.interface + (r - g.span)) (pick (eqb r (g.span + g.row + 1)) t len))

-- the r-th word of the projection for t, whose first is f
abbrev pub made_token : List ℕ → Origin → (f r t : ℕ) → ℕ
made_token ws g f r t = pick (ltb (length ws) t) 0 (pick (eqb r 0) f (get_or ws (copied g (length ws) r t) 0))

-- the word at d of those that are made anew
abbrev pub made_at : List ℕ → Option Origin → (f d : ℕ) → ℕ
made_at ws None f d = 0
made_at ws (Some g) f d = made_token ws g f (d % width g) (d / width g)

-- the q-th word: of a lent token, of Error, whose word is e, or of a projection, whose first word is f
unfoldable pub seen_at : List ℕ → Option Origin → (e f q : ℕ) → ℕ
seen_at ws g e f q =
    pick (ltb q (length ws)) (get_or ws q 0)
    (pick (eqb q (length ws)) e (made_at ws g f (q - (length ws + 1))))

-- where the q-th token is from: a lent one, Error, the head of a projection, or nowhere
abbrev pub word_at : List ℕ → (e f : ℕ) → Spot → ℕ
word_at ws e f (Lent p) = get_or ws p 0
word_at ws e f Error = e
word_at ws e f (Head n) = f
word_at ws e f Nowhere = 0

-- the tokens that a head tells are those of a projection
abbrev pub sized : Option Origin → Spot → Type 0
sized g (Head n) = n ≡ size_of g
sized g _ = Unit {0}

pub record Located (g : Option Origin) (len q : ℕ) (r : Spot) : Type 0 where
  pub width : sized g r
  pub is : (ws : List ℕ) (e f : ℕ) → length ws ≡ len → seen_at ws g e f q ≡ word_at ws e f r

abbrev pub count : ℕ → Option Origin → ℕ
count len g = len + 1 + (len + 1) * size_of g

unfoldable pub seen : List ℕ → Option Origin → (e f : ℕ) → List ℕ
seen ws g e f = tabulate (seen_at ws g e f) 0 (count (length ws) g)

-- Error is kind 5, of one token; a projection is kind 20
abbrev pub view : List ℕ → List ℕ → Option Origin → Area
view ks vs g = area (seen ks g 5 20) (seen vs g 1 (size_of g))

-- the places of all these tokens are words
pub record Sight (ks vs : List ℕ) (g : Option Origin) : Type 0 where
  pub pairs : length vs ≡ length ks
  pub few : count (length ks) g < 4294967296

-- the number at p has the value of the lent token r, or r is the place after the lent ones and the number is 0
pub record LentAt (ks vs : List ℕ) (g : Option Origin) (p r : ℕ) : Type 0 where
  pub within : r ≤ length ks
  pub same : get_or (view ks vs g).kinds p 0 ≡ 0 → (get_or ks r 0 ≡ 0) × (get_or vs r 0 ≡ get_or (view ks vs g).vals p 0)
