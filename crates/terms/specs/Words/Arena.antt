-- Trees in words. A content is two words, a head h and a child word c. The node copied is the one whose first token stands at h of the area. c says
-- where its children are: 0 as after that token, k + 1 the contents at records k, k + 1, .., in byte order. Record i of the arena is the content hs at i,
-- cs at i. Records are written once a visit and never freed.
use Rattle.std.specs.Prelude.{◌≡◌, Bool, true, false, ◌&&◌, ◌||◌, List, ℕ, zero, suc, ◌+◌, ◌≤◌, ◌<◌, ltb, leb, length, get_or, Option, Some, None}
use Rattle.std.proofs.Math.Option as math
use Rattle.std.proofs.Math.Option.{none, some}
use Rattle.terms.specs.declared.Begun.{Begun}
use Rattle.terms.specs.declared.Content.{Content}
use Rattle.terms.specs.declared.Cursor.{Cursor}
use Rattle.terms.specs.declared.Origin.{Origin}
use Rattle.terms.specs.Number.{shortest}
use Rattle.terms.specs.Words.Tokens.{Area}
use Rattle.terms.specs.Term.{Term, Parts, var, node, end, num, sub, ◌+++◌, depth, depths}
use Rattle.terms.specs.Words.Held.{span}
use Rattle.terms.specs.Tree.{error, nums, children, row, tag, class, slot_by, slot}
use Rattle.terms.specs.Words.VirtualTokens.{Sight}

-- the content of the n-th child, whose first token stands at q where it is as in the source
abbrev pub head_of : List ℕ → (c q n : ℕ) → ℕ
head_of hs zero q n = q
head_of hs (suc k) q n = get_or hs (k + n) 0

abbrev pub kids_of : List ℕ → (c n : ℕ) → ℕ
kids_of cs zero n = 0
kids_of cs (suc k) n = get_or cs (k + n) 0

-- its record is marked
abbrev pub Marked : (ℕ → Bool) → (c n : ℕ) → Type 0
Marked S zero n = Unit {0}
Marked S (suc k) n = S (k + n) ≡ true

mutual
  -- The content h, c stands for the tree t. S marks the records that may be looked at.
  pub data Tree (a : Area) (hs cs : List ℕ) (S : ℕ → Bool) : (h c : ℕ) → Term → Type 0 where
    variable : {h c v : ℕ} → get_or a.kinds h 0 ≡ 1 → get_or a.vals h 0 ≡ v → h + 1 ≤ length a.kinds → Tree a hs cs S h c (var v)
    branch : {h c k l : ℕ} {ps : Parts} → get_or a.kinds h 0 ≡ k + 2 → get_or a.vals h 0 ≡ l → 1 ≤ l → h + l ≤ length a.kinds
        → Parted a hs cs S c (h + l) (h + 1) 0 ps → Tree a hs cs S h c (node k ps)

  -- The tokens from q up to e are the rest of a row whose parts are these; n children have been passed.
  pub data Parted (a : Area) (hs cs : List ℕ) (S : ℕ → Bool) : (c e q n : ℕ) → Parts → Type 0 where
    over : {c e q n : ℕ} → q ≡ e → Parted a hs cs S c e q n end
    number : {c e q n v : ℕ} {ps : Parts} → q < e → get_or a.kinds q 0 ≡ 0 → get_or a.vals q 0 ≡ v → Parted a hs cs S c e (q + 1) n ps
        → Parted a hs cs S c e q n (num v ps)
    child : {c e q n l : ℕ} {t : Term} {ps : Parts} → q < e → (get_or a.kinds q 0 ≡ 0 → ⊥) → span (get_or a.kinds q 0) (get_or a.vals q 0) ≡ l → 1 ≤ l
        → Marked S c n → Tree a hs cs S (head_of hs c q n) (kids_of cs c n) t → Parted a hs cs S c e (q + l) (n + 1) ps → Parted a hs cs S c e q n (sub t ps)

-- S and the records from a up to b
unfoldable pub grow : (ℕ → Bool) → ℕ → ℕ → ℕ → Bool
grow S a b i = S i || (leb a i && ltb i b)

abbrev pub Below : (ℕ → Bool) → ℕ → Type 0
Below S n = (i : ℕ) → S i ≡ true → i < n

-- ---- rows by place

-- a term at p whose tokens stand in the area ends at e
pub record EndAt (a : Area) (p e : ℕ) : Type 0 where
  pub small : e < 4294967296
  pub is : 1 ≤ span (get_or a.kinds p 0) (get_or a.vals p 0)
      → p + span (get_or a.kinds p 0) (get_or a.vals p 0) ≤ length a.kinds
      → e ≡ p + span (get_or a.kinds p 0) (get_or a.vals p 0)

-- the row of the term at h is the tokens from `from` up to e
pub record RowAt (a : Area) (h from e : ℕ) : Type 0 where
  pub small : e < 4294967296
  pub is : (hs cs : List ℕ) (S : ℕ → Bool) (c : ℕ) (t : Term) → Tree a hs cs S h c t → Parted a hs cs S c e from 0 (row t)

-- the i-th number of the row of the term at h stands at p
pub record NumberHere (a : Area) (h i p : ℕ) : Type 0 where
  pub kind : get_or a.kinds p 0 ≡ 0
  pub is : (hs cs : List ℕ) (S : ℕ → Bool) (c : ℕ) (t : Term) → Tree a hs cs S h c t → get_or a.vals p 0 ≡ get_or (nums (row t)) i 0

-- it stands at the place that is found; where none is, there are not so many, and it is taken for 0
abbrev pub NumberAt : (a : Area) (h i : ℕ) → Option ℕ → Type 0
NumberAt a h i (Some p) = NumberHere a h i p
NumberAt a h i None = (hs cs : List ℕ) (S : ℕ → Bool) (c : ℕ) (t : Term) → Tree a hs cs S h c t → get_or (nums (row t)) i 0 ≡ 0

pub record ValueAt (a : Area) (h i r : ℕ) : Type 0 where
  pub is : (hs cs : List ℕ) (S : ℕ → Bool) (c : ℕ) (t : Term) → Tree a hs cs S h c t → r ≡ get_or (nums (row t)) i 0

-- n and m are the counts of arguments and members, the numbers 1 and 2 of the row of the term at h
pub record Counts (a : Area) (h n m : ℕ) : Type 0 where
  pub few : n < 4294967296
  pub low : m < 4294967296
  pub arguments : ValueAt a h 1 n
  pub members : ValueAt a h 2 m

-- the first number from the third on, counted from there, that is x
abbrev pub Keyed : (x : ℕ) → List ℕ → Option ℕ → Type 0
Keyed x l (Some i) = (3 + i < length l) × (get_or l (3 + i) 0 ≡ x) × ((j : ℕ) → j < i → get_or l (3 + j) 0 ≡ x → ⊥)
Keyed x l None = (j : ℕ) → 3 + j < length l → get_or l (3 + j) 0 ≡ x → ⊥

pub record KeyOf (a : Area) (h x : ℕ) (r : Option ℕ) : Type 0 where
  pub is : (hs cs : List ℕ) (S : ℕ → Bool) (c : ℕ) (t : Term) → Tree a hs cs S h c t → Keyed x (nums (row t)) r

-- a content found, or none, as o says
abbrev pub Fetched : (a : Area) (hs cs : List ℕ) (S : ℕ → Bool) → math.Option Term → Option Content → Type 0
Fetched a hs cs S o (Some x) = (u : Term) × (o ≡ some u) × Tree a hs cs S x.head x.kids u
Fetched a hs cs S o None = o ≡ none

-- the tag of the term at h
pub record TagAt (a : Area) (h r : ℕ) : Type 0 where
  pub is : (hs cs : List ℕ) (S : ℕ → Bool) (c : ℕ) (t : Term) → Tree a hs cs S h c t → r ≡ tag t

-- how many bytes a term has besides those of its children
unfoldable pub own_nums : Parts → ℕ
own_nums end = 0
own_nums (num n ps) = length (shortest n) + own_nums ps
own_nums (sub t ps) = own_nums ps

unfoldable pub own : Term → ℕ
own (var v) = 1 + length (shortest v)
own (node k ps) = 1 + own_nums ps

-- of the term at h
pub record OwnAt (a : Area) (h r : ℕ) : Type 0 where
  pub is : (hs cs : List ℕ) (S : ℕ → Bool) (c : ℕ) (t : Term) → Tree a hs cs S h c t → r ≡ own t

-- ---- records

-- nothing changed but the words from a up to b
pub record Frame (hs₀ hs : List ℕ) (a b : ℕ) : Type 0 where
  pub long : length hs ≡ length hs₀
  pub below : (i : ℕ) → i < a → get_or hs i 0 ≡ get_or hs₀ i 0
  pub above : (i : ℕ) → b ≤ i → get_or hs i 0 ≡ get_or hs₀ i 0

pub record Frames (hs₀ cs₀ hs cs : List ℕ) (a b : ℕ) : Type 0 where
  pub heads : Frame hs₀ hs a b
  pub kids : Frame cs₀ cs a b

-- the arena has room for `most` records, of which `next` are used
pub record RecordRoom (ks vs hs cs : List ℕ) (g : Option Origin) (next most : ℕ) : Type 0 where
  pub sight : Sight ks vs g
  pub heads : most ≤ length hs
  pub kids : most ≤ length cs
  pub within : next ≤ most
  pub small : most < 4294967295

-- the n children of t stand at the records next, next + 1, ..
pub record Opened (a : Area) (hs cs : List ℕ) (S : ℕ → Bool) (next n : ℕ) (t : Term) : Type 0 where
  pub count : n ≡ length (children t)
  pub each : (j : ℕ) → j < n → Tree a hs cs S (get_or hs (next + j) 0) (get_or cs (next + j) 0) (get_or (children t) j error)

-- the content h, c is opened: its n children stand in records, and no others are changed
pub record Filled (a : Area) (hs₀ cs₀ hs cs : List ℕ) (h c next most n : ℕ) : Type 0 where
  pub bound : next + n ≤ most
  pub frames : Frames hs₀ cs₀ hs cs next (next + n)
  pub done : (S : ℕ → Bool) (t : Term) → Below S next → Tree a hs₀ cs₀ S h c t → Opened a hs cs S next n t

-- its children are too many; no records but those from `next` up to `most` are changed
pub record Overfull (a : Area) (hs₀ cs₀ hs cs : List ℕ) (h c next most : ℕ) : Type 0 where
  pub frames : Frames hs₀ cs₀ hs cs next most
  pub stopped : (S : ℕ → Bool) (t : Term) → Below S next → Tree a hs₀ cs₀ S h c t → most < next + length (children t)

-- what opening the content h, c leaves: so many children, or that they are too many
abbrev pub Opens : (a : Area) (hs₀ cs₀ hs cs : List ℕ) (h c next most : ℕ) → Option ℕ → Type 0
Opens a hs₀ cs₀ hs cs h c next most (Some n) = Filled a hs₀ cs₀ hs cs h c next most n
Opens a hs₀ cs₀ hs cs h c next most None = Overfull a hs₀ cs₀ hs cs h c next most

-- the places in which its children are to be visited, from the tag k and the counts n, m of arguments and members
pub record Ordered (a : Area) (h k n m : ℕ) : Type 0 where
  pub is : (hs cs : List ℕ) (S : ℕ → Bool) (c : ℕ) (t : Term) → Tree a hs cs S h c t → (j : ℕ) → slot_by (class k) n m (length (children t)) j ≡ slot t j

-- the content h, c is opened as b says: how many children it has, its tag, and in which order they are to be visited
pub record Prepared (a : Area) (hs₀ cs₀ hs cs : List ℕ) (h c next most : ℕ) (b : Begun) : Type 0 where
  pub opens : Filled a hs₀ cs₀ hs cs h c next most b.n
  pub ordered : Ordered a h b.tag b.arguments b.members
  pub tagged : TagAt a h b.tag
  pub counted : 12 ≤ b.tag → Counts a h b.arguments b.members

abbrev pub Prepares : (a : Area) (hs₀ cs₀ hs cs : List ℕ) (h c next most : ℕ) → Option Begun → Type 0
Prepares a hs₀ cs₀ hs cs h c next most (Some b) = Prepared a hs₀ cs₀ hs cs h c next most b
Prepares a hs₀ cs₀ hs cs h c next most None = Overfull a hs₀ cs₀ hs cs h c next most

-- ---- comparing

-- a cursor in the row of a content: the parts from there on
abbrev pub From : (a : Area) (hs cs : List ℕ) (S : ℕ → Bool) → Cursor → Parts → Type 0
From a hs cs S x ps = Parted a hs cs S x.kids x.end x.at x.child ps

-- a cursor in the same row: with its end and its child word
abbrev pub OneRow : (x z : Cursor) → Type 0
OneRow x z = (z.end ≡ x.end) × (z.kids ≡ x.kids)

-- whether two contents stand for the same tree, the first of at most `fuel` levels
pub record Alike (a : Area) (hs cs : List ℕ) (x y : Content) (fuel : ℕ) (r : Bool) : Type 0 where
  pub yes : r ≡ true → (S T : ℕ → Bool) (t u : Term) → Tree a hs cs S x.head x.kids t → Tree a hs cs T y.head y.kids u → depth t ≤ fuel → t ≡ u
  pub no : r ≡ false → (S T : ℕ → Bool) (t u : Term) → Tree a hs cs S x.head x.kids t → Tree a hs cs T y.head y.kids u → depth t ≤ fuel → t ≡ u → ⊥

-- whether the parts at one cursor, of at most `fuel` levels, begin with those at another, and the place after them
abbrev pub Begins : (a : Area) (hs cs : List ℕ) (x y : Cursor) (fuel : ℕ) → Option Cursor → Type 0
Begins a hs cs x y fuel (Some z) =
    OneRow x z
    × ((S T : ℕ → Bool) (ps qs : Parts) → From a hs cs S x ps → From a hs cs T y qs → depths ps ≤ fuel
    → (rest : Parts) × (ps ≡ qs +++ rest) × From a hs cs S z rest)
Begins a hs cs x y fuel None =
    (S T : ℕ → Bool) (ps qs : Parts) → From a hs cs S x ps → From a hs cs T y qs → depths ps ≤ fuel → (rest : Parts) → ps ≡ qs +++ rest → ⊥

-- a cursor at the start of a content's row
pub record Starts (a : Area) (x : Content) (r : Cursor) : Type 0 where
  pub is : (hs cs : List ℕ) (S : ℕ → Bool) (t : Term) → Tree a hs cs S x.head x.kids t → From a hs cs S r (row t)
