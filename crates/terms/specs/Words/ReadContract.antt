-- What the reading functions answer and leave. In each, `d` is the areas at entry and `e` at exit, `p` the place at entry.
use Rattle.std.specs.Prelude.{◌≡◌, ℕ, ◌+◌, ◌-◌, ◌^◌, ◌≤◌, ◌<◌, List, [], ◌∷◌, leb, length, Ok, Err}
use Rattle.std.specs.declared.result.Result as rust
use Rattle.terms.specs.declared.Place.{Place}
use Rattle.terms.specs.declared.Refusal.{Refusal}
use Rattle.terms.specs.Parser.{Result, Parser, got, refused, bind, pick}
use Rattle.terms.specs.Words.Tokens.{Item, item, Area, puts, put_if, blank}
use Rattle.terms.specs.Term.{Term, Parts, var, node, end, num, sub, ◌+++◌, items, part_items, size, sizes}

-- a field's value is at most `most`, and the reader stays within the bytes
abbrev pub Within : List ℕ → ℕ → ℕ → rust.Result (ℕ × ℕ) Refusal → Type 0
Within s at most (Ok (v, n)) = (v ≤ most) × (at < n) × (n ≤ length s)
Within s at most (Err e) = Unit {0}

-- where reading goes on: at a place, or nowhere, with the number of the refusal
pub data Step : Type 0 where
  Next : Place → Step
  Stopped : ℕ → Step

-- the position is within the bytes, and for each byte left there is a number of 32 bits for a token and for a node
pub record Room (s : List ℕ) (p : Place) : Type 0 where
  pub inside : p.at ≤ length s
  pub tokens : p.top + (length s - p.at) < 2 ^ 32
  pub counts : p.nodes + (length s - p.at) < 2 ^ 32

-- the areas differ in the n tokens from i on at most: with those cleared they are the same
abbrev pub Only : ℕ → ℕ → Area → Area → Type 0
Only i n d e = blank e i n ≡ blank d i n

-- The tokens ws were read, which have n nodes. Where the nodes are within the limit they were stored from the place on, as far as the
-- areas go, and nothing else changed; in any case nothing outside their place did. The reader went on to q, with a byte at least for each
-- token and for each node.
pub record Wrote (s : List ℕ) (p : Place) (d e : Area) (ws : List Item) (n : ℕ) (q : Place) : Type 0 where
  pub stored : q.nodes ≤ p.limit → e ≡ puts d p.top ws
  pub only : Only p.top (length ws) d e
  pub limit : q.limit ≡ p.limit
  pub tokens : q.top ≡ p.top + length ws
  pub counts : q.nodes ≡ p.nodes + n
  pub pace : q.top + p.at ≤ q.at + p.top
  pub paced : q.nodes + p.at ≤ q.at + p.nodes
  pub inside : q.at ≤ length s

-- a refusal: nothing changed but tokens for which there was a byte
abbrev pub Left : List ℕ → Place → Area → Area → Type 0
Left s p d e = Only p.top (length s - p.at) d e

-- what was found is a value whose tokens and nodes these are, or a refusal
abbrev pub Done : {A : Type 0} (ws : A → List Item) (n : A → ℕ) (s : List ℕ) (found : Result A) (p : Place) (d e : Area) → Step → Type 0
Done {A} ws n s found p d e (Next q) = (x : A) × (found ≡ got x q.at) × Wrote s p d e (ws x) (n x) q
Done ws n s found p d e (Stopped c) = (found ≡ refused c) × Left s p d e

abbrev pub TermDone : (s : List ℕ) (found : Result Term) (p : Place) (d e : Area) → Step → Type 0
TermDone = Done items size

abbrev pub PartsDone : (s : List ℕ) (found : Result Parts) (p : Place) (d e : Area) → Step → Type 0
PartsDone = Done part_items sizes

-- The same for a bare nominal, whose head with the tag 20 is no node and has no byte.
pub record WroteBare (s : List ℕ) (p : Place) (d e : Area) (ps : Parts) (q : Place) : Type 0 where
  pub stored : q.nodes ≤ p.limit → e ≡ puts d p.top (items (node 20 ps))
  pub only : Only p.top (length (items (node 20 ps))) d e
  pub limit : q.limit ≡ p.limit
  pub tokens : q.top ≡ p.top + length (items (node 20 ps))
  pub counts : q.nodes ≡ p.nodes + sizes ps
  pub pace : q.top + p.at ≤ q.at + p.top + 1
  pub paced : q.nodes + p.at ≤ q.at + p.nodes
  pub inside : q.at ≤ length s

abbrev pub BareDone : (s : List ℕ) (found : Result Term) (p : Place) (d e : Area) → Step → Type 0
BareDone s found p d e (Next q) = (ps : Parts) × (found ≡ got (node 20 ps) q.at) × WroteBare s p d e ps q
BareDone s found p d e (Stopped c) = (found ≡ refused c) × Only p.top (length s - p.at + 1) d e

-- a number and the place after it, or the refusal
pub data ValueRead : Type 0 where
  Valued : ℕ → Place → ValueRead
  Unvalued : ℕ → ValueRead

-- a number was read, and stored as a token of kind 0
abbrev pub ValueDone : (most : ℕ) (s : List ℕ) (found : Result ℕ) (p : Place) (d e : Area) → ValueRead → Type 0
ValueDone most s found p d e (Valued v q) = (found ≡ got v q.at) × (v ≤ most) × Wrote s p d e (item 0 v ∷ []) 0 q
ValueDone most s found p d e (Unvalued c) = (found ≡ refused c) × Left s p d e

-- what was read before, and then the rest
abbrev pub after : Parts → Result Parts → Result Parts
after ps r = bind r (λ qs n. got (ps +++ qs) n)

-- a row read, and then another
abbrev pub seq : Result Parts → Parser Parts → Result Parts
seq r k = bind r (λ ps n. after ps (k n))

-- a number read, and then a row that it decides
abbrev pub into : Result ℕ → (ℕ → Parser Parts) → Result Parts
into r k = bind r (λ v n. after (num v end) (k v n))

-- a term read, and then a row
abbrev pub onto : Result Term → Parser Parts → Result Parts
onto r k = bind r (λ t n. after (sub t end) (k n))

-- an answer whose node may be closed at `top`
abbrev pub Closable : ℕ → Step → Type 0
Closable top (Next q) = (top < q.top) × (q.top < 2 ^ 32)
Closable top (Stopped c) = Unit {0}

-- the node's head was stored where its parts were read
abbrev pub Closed : (tag top : ℕ) (d e : Area) → Step → Type 0
Closed tag top d e (Next q) = e ≡ put_if (leb q.nodes q.limit) d top (tag + 2) (q.top - top)
Closed tag top d e (Stopped c) = e ≡ d

-- ---- what the crate offers: a term, or a bare nominal, read and kept, or nothing

-- the answer, from what the definition finds at the place
abbrev pub answer : Place → Result Term → (Term → ℕ) → Step
answer p (got t n) nodes = Next (record { at = n; top = p.top + length (items t); nodes = p.nodes + nodes t; limit = p.limit })
answer p (refused c) nodes = Stopped c

-- The areas after it. Where the nodes are within the limit the tokens of the term stand from the place on; past the limit that part is
-- cleared; and on a refusal a token for each byte left and one more is cleared, so that nothing of the term remains.
abbrev pub kept : List ℕ → Place → Result Term → (Term → ℕ) → Area → Area
kept s p (got t n) nodes d = pick (leb (p.nodes + nodes t) p.limit) (puts d p.top (items t)) (blank d p.top (length (items t)))
kept s p (refused c) nodes d = blank d p.top (length s - p.at + 1)

-- the nodes of a bare nominal are those of its terms
abbrev pub contents : Term → ℕ
contents (var v) = 0
contents (node k ps) = sizes ps

-- where there was an answer, there is room after it
abbrev pub RoomAfter : List ℕ → Step → Type 0
RoomAfter s (Next q) = Room s q
RoomAfter s (Stopped c) = Unit {0}

-- where clearing may begin and end
abbrev pub Clearable : Place → ℕ → Step → Type 0
Clearable p left (Next q) = (p.top ≤ q.top) × (q.top < 2 ^ 64)
Clearable p left (Stopped c) = p.top + left + 1 < 2 ^ 64

-- what is cleared after an answer
abbrev pub Cleared : Place → ℕ → Area → Area → Step → Type 0
Cleared p left d e (Next q) = e ≡ pick (leb q.nodes q.limit) d (blank d p.top (q.top - p.top))
Cleared p left d e (Stopped c) = e ≡ blank d p.top (left + 1)
