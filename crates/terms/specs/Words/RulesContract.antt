-- What the search of a rule answers: places in rows.
use Rattle.std.specs.Prelude.{◌≡◌, Bool, List, [], ◌∷◌, ℕ, ◌+◌, ◌≤◌, length, Option, Some, None}
use Rattle.terms.specs.declared.Cursor.{Cursor}
use Rattle.terms.specs.declared.Rule.{Rule}
use Rattle.terms.specs.Words.Tokens.{Area}
use Rattle.terms.specs.Term.{Term, Parts, end, num, sub, items, depths}
use Rattle.terms.specs.Words.Held.{Held}
use Rattle.terms.specs.Tree.{nums}
use Rattle.terms.specs.Lookup.{Pattern, front, HeldRule}
use Rattle.terms.specs.Words.Arena.{Tree, From, OneRow}

-- a cursor at the term at p, as a row of its own
pub record TermStarts (a : Area) (p : ℕ) (r : Cursor) : Type 0 where
  pub is : (hs cs : List ℕ) (S : ℕ → Bool) (t : Term) → Tree a hs cs S p 0 t → From a hs cs S r (sub t end)
  pub ends : (t : Term) → Held a.kinds a.vals p t → r.end ≡ p + length (items t)

-- whether the numbers m and n come next, and the place after them
abbrev pub Numbers : (a : Area) (x : Cursor) (m n : ℕ) → Option Cursor → Type 0
Numbers a x m n (Some z) =
    OneRow x z
    × ((hs cs : List ℕ) (S : ℕ → Bool) (ps : Parts) → From a hs cs S x ps → (rest : Parts) × (ps ≡ num m (num n rest)) × From a hs cs S z rest)
Numbers a x m n None = (hs cs : List ℕ) (S : ℕ → Bool) (ps : Parts) → From a hs cs S x ps → (rest : Parts) → ps ≡ num m (num n rest) → ⊥

-- whether a row begins with what a rule has before its arguments, and the place after that
abbrev pub Fronted : (ks vs : List ℕ) (a : Area) (hs cs : List ℕ) (x : Cursor) (w : Rule) (fuel : ℕ) → Option Cursor → Type 0
Fronted ks vs a hs cs x w fuel (Some z) =
    OneRow x z
    × ((S : ℕ → Bool) (ps : Parts) (p : Pattern) → From a hs cs S x ps → depths ps ≤ fuel → HeldRule ks vs w p
    → (rest : Parts) × (ps ≡ front p rest) × From a hs cs S z rest)
Fronted ks vs a hs cs x w fuel None =
    (S : ℕ → Bool) (ps : Parts) (p : Pattern) → From a hs cs S x ps → depths ps ≤ fuel → HeldRule ks vs w p → (rest : Parts) → ps ≡ front p rest → ⊥

-- the last number but one, where a and b come before these
unfoldable pub last_but_one : (a b : ℕ) → List ℕ → ℕ
last_but_one a b [] = a
last_but_one a b (n ∷ l) = last_but_one b n l

-- The last number but one of the row at a cursor, 0 where it has not two. In the row that a rule replaces it is the member, whatever the interface.
pub record MemberIn (a : Area) (x : Cursor) (r : ℕ) : Type 0 where
  pub is : (hs cs : List ℕ) (S : ℕ → Bool) (ps : Parts) → From a hs cs S x ps → r ≡ last_but_one 0 0 (nums ps)
