-- What normalising answers, and what it leaves in the record areas.
use Rattle.std.specs.Prelude.{◌≡◌, Bool, List, ℕ, ◌+◌, ◌≤◌, ◌<◌, ltb, length, get_or, Option, Some, None, Result, Ok, Err}
use Rattle.terms.specs.declared.Origin.{Origin}
use Rattle.terms.specs.declared.Ready.{Ready}
use Rattle.terms.specs.declared.Rule.{Rule}
use Rattle.terms.specs.declared.Unfinished.{Unfinished}
use Rattle.terms.specs.declared.Unfinished.TheVariants.{TooMany, TooLong}
use Rattle.terms.specs.Result.{pick}
use Rattle.terms.specs.Words.Tokens.{area, blank}
use Rattle.terms.specs.Term.{Term, Parts, node, depth, bytes, Held}
use Rattle.terms.specs.Words.VirtualTokens.{view, Sight}
use Rattle.terms.specs.Normal.{Out}
use Rattle.terms.specs.Lookup.{Pattern, Ruled}
use Rattle.terms.specs.Words.Arena.{Tree}

-- Document 01's number for each case: refusal 9; 11, where the term has more bytes than there is room for; 0, whose value is the term. 9 and 0 are outcomes of
-- an order, 11 is a reason of the run.
abbrev pub answer_number : Result Ready Unfinished → ℕ
answer_number (Err TooMany) = 9
answer_number (Err TooLong) = 11
answer_number (Ok w) = 0

-- the number by the definition, whose result is o: with at most `most` children, and an output of so many bytes from `at` on
abbrev pub number_for : (most len at : ℕ) → Out → ℕ
number_for most len at o = pick (ltb most o.count) 9 (pick (ltb len (at + length (bytes o.term))) 11 0)

-- the first n words are 0
pub record Zero (l : List ℕ) (n : ℕ) : Type 0 where
  pub is : (i : ℕ) → i < n → get_or l i 0 ≡ 0

-- the records hold the term u: what is written from them is u, and clearing them gives back the areas as they were
pub record Stands (ks vs hs cs : List ℕ) (w : Ready) (levels : ℕ) (u : Term) : Type 0 where
  pub marks : ℕ → Bool
  pub tree : Tree (view ks vs w.given) hs cs marks w.content.head w.content.kids u
  pub low : 0 < w.content.kids → depth u ≤ levels + 1

-- the values of each case: the bytes that the term u has, and records that hold it. Which words these are is the program's choice.
abbrev pub Values : (ks vs hs cs : List ℕ) (levels : ℕ) → Term → Result Ready Unfinished → Type 0
Values ks vs hs cs levels u (Err e) = Unit {0}
Values ks vs hs cs levels u (Ok w) = (w.size ≡ length (bytes u)) × Stands ks vs hs cs w levels u

-- The answer to a term whose result by the definition is o, with at most `most` children, and room in `out` from `at` on. hs and cs are the record areas at exit.
pub record Answers (ks vs hs cs out : List ℕ) (at levels most : ℕ) (o : Out) (r : Result Ready Unfinished) : Type 0 where
  pub number : answer_number r ≡ number_for most (length out) at o
  pub values : Values ks vs hs cs levels o.term r

-- the records of each case
abbrev pub Records : (ks vs hs₀ cs₀ hs cs : List ℕ) (most : ℕ) → Result Ready Unfinished → Type 0
Records ks vs hs₀ cs₀ hs cs most (Err e) = Unit {0}
Records ks vs hs₀ cs₀ hs cs most (Ok w) = (w.next ≤ most) × (blank (area hs cs) 0 w.next ≡ area hs₀ cs₀) × Sight ks vs w.given

-- The record areas, hs₀ and cs₀ at entry, hs and cs at exit: as they were where the number is not 0, else the records used are to be cleared.
pub record Leaves (ks vs hs₀ cs₀ hs cs : List ℕ) (most : ℕ) (r : Result Ready Unfinished) : Type 0 where
  pub same : (answer_number r ≡ 0 → ⊥) → (hs ≡ hs₀) × (cs ≡ cs₀)
  pub records : Records ks vs hs₀ cs₀ hs cs most r

-- order 20: a term at p, and rules
pub record RuledAt (ks vs : List ℕ) (ws : List Rule) (p : ℕ) : Type 0 where
  pub term : Term
  pub patterns : List Pattern
  pub held : Held ks vs p term
  pub ruled : Ruled ks vs ws patterns

-- order 19: a term at p, an interface at i and an owner at o
pub record OwnedAt (ks vs : List ℕ) (p i o : ℕ) : Type 0 where
  pub term : Term
  pub row : Parts
  pub owner : Term
  pub held : Held ks vs p term
  pub interface : Held ks vs i (node 20 row)
  pub owns : Held ks vs o owner

-- a term that is kept, with room in the output from a position on
pub record KeptAt (ks vs hs cs : List ℕ) (w : Ready) (levels : ℕ) (out : List ℕ) (at : ℕ) : Type 0 where
  pub term : Term
  pub stands : Stands ks vs hs cs w levels term
  pub room : at + length (bytes term) ≤ length out

-- what is lent: tokens few enough, and two areas with room for `most` records, which are 0
pub record Lends (ks vs hs cs : List ℕ) (most : ℕ) : Type 0 where
  pub pairs : length vs ≡ length ks
  pub short : length ks ≤ 32768
  pub heads : most ≤ length hs
  pub kids : most ≤ length cs
  pub heads_zero : Zero hs most
  pub kids_zero : Zero cs most

-- a term at p, sized as it stands
abbrev pub Sized : (ks vs : List ℕ) (g : Option Origin) (p : ℕ) (out : List ℕ) (at : ℕ) → Option Ready → Type 0
Sized ks vs g p out at None = (t : Term) → Held ks vs p t → length out < at + length (bytes t)
Sized ks vs g p out at (Some w) =
    (w.content.head ≡ p) × (w.content.kids ≡ 0) × (w.next ≡ 0) × (w.given ≡ g)
    × ((t : Term) → Held ks vs p t → (w.size ≡ length (bytes t)) × (at + w.size ≤ length out))
