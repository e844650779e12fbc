-- The token areas. Token i is the pair of its kind, at i of `kinds`, and its value, at i of `vals`. Kind 0 is a number of the byte
-- form, kind 1 a variable, and kind k + 2 the head of a node with the tag k, whose value is the node's span: how many tokens it has,
-- itself included.
use Rattle.std.specs.Prelude.{◌≡◌, ◌+◌, ◌^◌, ◌<◌, ℕ, zero, suc, Bool, List, [], ◌∷◌, ◌++◌, get_or, set, take}
use Rattle.terms.specs.Result.{pick}

pub data Item : Type 0 where
  item : ℕ → ℕ → Item

-- the two lent areas
pub record Area : Type 0 where
  pub kinds : List ℕ
  pub vals : List ℕ

abbrev pub area : List ℕ → List ℕ → Area
area ks vs = record { kinds = ks; vals = vs }

-- words of 32 bits
pub record Narrow (ws : List ℕ) : Type 0 where
  pub fits : (i : ℕ) → get_or ws i 0 < 2 ^ 32

-- the n words from a on are those from b on
abbrev pub Agree : List ℕ → (a b n : ℕ) → Type 0
Agree ws a b n = (i : ℕ) → i < n → get_or ws (a + i) 0 ≡ get_or ws (b + i) 0

-- one token stored; past the end of an area nothing is stored there
abbrev pub put : Area → ℕ → ℕ → ℕ → Area
put d i k v = area (set d.kinds i k) (set d.vals i v)

-- the same where `on`
abbrev pub put_if : Bool → Area → ℕ → ℕ → ℕ → Area
put_if on d i k v = pick on (put d i k v) d

-- a run of tokens stored from i on
unfoldable pub puts : Area → ℕ → List Item → Area
puts d i [] = d
puts d i (item k v ∷ l) = puts (put d i k v) (suc i) l

-- n tokens of kind 0 and value 0
unfoldable pub zeros : ℕ → List Item
zeros zero = []
zeros (suc n) = item 0 0 ∷ zeros n

-- n tokens cleared from i on
abbrev pub blank : Area → ℕ → ℕ → Area
blank d i n = puts d i (zeros n)

-- the tokens before n
abbrev pub before : ℕ → Area → Area
before n d = area (take n d.kinds) (take n d.vals)

-- the tokens a, a + 1, .., c of them, each by f of its kind and value, joined
unfoldable pub spell : {A : Type 0} → (ℕ → ℕ → List A) → List ℕ → List ℕ → ℕ → ℕ → List A
spell f ks vs a zero = []
spell f ks vs a (suc c) = f (get_or ks a 0) (get_or vs a 0) ++ spell f ks vs (suc a) c

abbrev pub one : ℕ → ℕ → List Item
one k v = item k v ∷ []

-- the run of c tokens at a
abbrev pub toks : List ℕ → List ℕ → ℕ → ℕ → List Item
toks ks vs a c = spell one ks vs a c
