-- The pending pairs of `constrain` as words: a word a pair, the last pair to be taken first; the places of a node's children, in the order in
-- which they are pushed; and two rows walked in step.
use Rattle.std.specs.Prelude.{Bool, true, false, not, ◌&&◌, ◌||◌, List, [], ◌∷◌, ◌++◌, ◌≡◌, ℕ, zero, suc, ◌+◌, ◌*◌, ◌/◌, ◌%◌, ◌≤◌, ◌<◌, eqb, leb, ltb, length, get_or}
use Rattle.terms.specs.Result.{pick}
use Rattle.terms.specs.Term.{Term, Parts, node, end, num, sub, items, Held}
use Rattle.terms.specs.Words.Held.{HeldParts, span}
use Rattle.terms.specs.Tree.{nums, row, tag, class, children}
use Rattle.solver.specs.declared.Access.{Access}
use Rattle.solver.specs.declared.Access.TheVariants.{Ignored, Compared}
use Rattle.solver.specs.Shapes.{Notion, same_shape, turned, pushed}
use Rattle.solver.specs.Constrain.{Pair, zip_on}

-- whether the notion of equal shape is the strict one
abbrev pub strict_of : Access → Bool
strict_of Ignored = false
strict_of Compared = true

-- ---- pairs

-- a pair as a word: its left place, which is below 65,536, and 65,536 times its right place
abbrev pub pair_word : ℕ → ℕ → ℕ
pair_word l r = l + 65536 * r

-- the places read off the word of a pair
abbrev pub left_of : ℕ → ℕ
left_of w = w % 65536

abbrev pub right_of : ℕ → ℕ
right_of w = w / 65536

-- the pairs ps stand in the words: pair j in the word j
abbrev pub HeldPairs : List ℕ → List ℕ → List ℕ → ℕ → List Pair → Type 0
HeldPairs ks vs st zero [] = Unit {0}
HeldPairs ks vs st zero (p ∷ ps) = ⊥
HeldPairs ks vs st (suc j) [] = ⊥
HeldPairs ks vs st (suc j) (p ∷ ps) = Held ks vs (left_of (get_or st j 0)) p.0 × Held ks vs (right_of (get_or st j 0)) p.1 × HeldPairs ks vs st j ps

-- the places of ls and of rs were put on, in pairs, on top of the `count` pairs of the words st₀: pair j in the word count + j; r is the number of
-- pairs after it
pub record Laid (ls rs : List ℕ) (count : ℕ) (st₀ st : List ℕ) (r : ℕ) : Type 0 where
  pub even : length rs ≡ length ls
  pub size : r ≡ count + length ls
  pub low : (j : ℕ) → j < length ls → get_or ls j 0 < 65536
  pub words : (j : ℕ) → j < length ls → get_or st (count + j) 0 ≡ pair_word (get_or ls j 0) (get_or rs j 0)
  pub below : (i : ℕ) → i < count → get_or st i 0 ≡ get_or st₀ i 0
  pub above : (i : ℕ) → r ≤ i → get_or st i 0 ≡ get_or st₀ i 0

-- pair m was taken off, and its word set to 0
pub record Taken (m : ℕ) (st₀ st : List ℕ) (x y : ℕ) : Type 0 where
  pub left : x ≡ left_of (get_or st₀ m 0)
  pub right : y ≡ right_of (get_or st₀ m 0)
  pub gone : get_or st m 0 ≡ 0
  pub below : (i : ℕ) → i < m → get_or st i 0 ≡ get_or st₀ i 0
  pub above : (i : ℕ) → m + 1 ≤ i → get_or st i 0 ≡ get_or st₀ i 0

-- ---- the places of children

-- the places of the terms of a row that begins at i
unfoldable pub places : ℕ → Parts → List ℕ
places i end = []
places i (num n ps) = places (i + 1) ps
places i (sub t ps) = i ∷ places (i + length (items t)) ps

-- the places of the children of the term at a, as they are pushed
abbrev pub pushed_places : ℕ → Term → List ℕ
pushed_places a t = turned (class (tag t)) (get_or (nums (row t)) 1 0) (places (a + 1) (row t))

-- what is pushed for the nodes t at a and u at b: their children in pairs
pub record PushedPairs (ks vs : List ℕ) (a b : ℕ) (t u : Term) (count : ℕ) (st₀ st : List ℕ) (r : ℕ) : Type 0 where
  pub laid : Laid (pushed_places a t) (pushed_places b u) count st₀ st r
  pub size : r ≡ count + length (children t)
  pub pairs : (ps : List Pair) → HeldPairs ks vs st₀ count ps → HeldPairs ks vs st r (zip_on (pushed t) (pushed u) ps)

-- two nodes of one shape
pub record Twins (ks vs : List ℕ) (a b : ℕ) : Type 0 where
  pub notion : Notion
  pub tag : ℕ
  pub other : ℕ
  pub left : Parts
  pub right : Parts
  pub held_left : Held ks vs a (node tag left)
  pub held_right : Held ks vs b (node other right)
  pub alike : same_shape notion (node tag left) (node other right) ≡ true

-- of a list whose first has the index c, those with an index from lo up to hi
unfoldable pub window : ℕ → ℕ → ℕ → List ℕ → List ℕ
window lo hi c [] = []
window lo hi c (x ∷ l) = pick (leb lo c && ltb c hi) (x ∷ []) [] ++ window lo hi (suc c) l

-- ---- two rows in step

-- whether two parts agree, by the kinds and values of their first tokens: number against number, equal where it counts; term against term
unfoldable pub agree : Bool → ℕ → ℕ → ℕ → ℕ → Bool
agree free k v j w = pick (eqb k 0) (eqb j 0 && (free || eqb v w)) (not (eqb j 0))

-- the part at i ends before r, or the row does, where the part would not end in it
pub record PartEnd (ks vs : List ℕ) (i e r : ℕ) : Type 0 where
  pub past : i < r
  pub within : r ≤ e
  pub is : 1 ≤ span (get_or ks i 0) (get_or vs i 0) → i + span (get_or ks i 0) (get_or vs i 0) ≤ e → r ≡ i + span (get_or ks i 0) (get_or vs i 0)

-- the first number of a row stands at r, or the row has none
pub record NumberAt (ks vs : List ℕ) (r e : ℕ) (ps : Parts) : Type 0 where
  pub none : e ≤ r → nums ps ≡ []
  pub some : r < e → (rest : Parts) × HeldParts ks vs (r + 1) e rest × (nums ps ≡ get_or vs r 0 ∷ nums rest)
