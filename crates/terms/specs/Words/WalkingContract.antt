-- What a visit leaves in the arena.
use Rattle.std.specs.Prelude.{◌≡◌, Bool, false, not, nat_eq, List, ℕ, ◌+◌, ◌-◌, ◌*◌, ◌≤◌, ◌<◌, length, get_or, Option, Some, None}
use Rattle.terms.specs.declared.Origin.{Origin}
use Rattle.terms.specs.declared.Content.{Content}
use Rattle.terms.specs.declared.LookUp.{LookUp}
use Rattle.terms.specs.declared.Walked.{Walked}
use Rattle.terms.specs.Words.Tokens.{Area}
use Rattle.terms.specs.Term.{Term, bytes, size, Held}
use Rattle.terms.specs.Words.Held.{span}
use Rattle.terms.specs.Questions.{contains_projection}
use Rattle.terms.specs.Words.VirtualTokens.{view}
use Rattle.terms.specs.Normal.{Out, replacement, walk_by}
use Rattle.terms.specs.Lookup.{Look, look_by, Looks}
use Rattle.terms.specs.Words.Arena.{Tree, Below, grow}

-- the tree of the definition, built of S and of the records from next on; the records used are the definition's count
pub record Visited (a : Area) (hs cs : List ℕ) (S : ℕ → Bool) (next h c next' visits' size' : ℕ) (o : Out) : Type 0 where
  pub tree : Tree a hs cs (grow S next next') h c o.term
  pub visits : visits' ≡ o.visits
  pub count : next' ≡ o.count
  pub size : size' ≡ length (bytes o.term)

-- whether a token of this kind is the first of a node; a number's kind is 0
abbrev pub first_of_node : ℕ → Bool
first_of_node k = not (nat_eq k 0)

-- a content as in the source, of lent tokens alone: a term with no projection, of r nodes
pub record Fixed (ks vs : List ℕ) (x : Content) (r : ℕ) : Type 0 where
  pub source : x.kids ≡ 0
  pub lent : x.head + span (get_or ks x.head 0) (get_or vs x.head 0) ≤ length ks
  pub is : (t : Term) → Held ks vs x.head t → (contains_projection t ≡ false) × (r ≡ size t)

-- by `walk` of the definition, with what is to be looked up, the children are too many: the count is over `most`
abbrev pub Overrun : (ks vs : List ℕ) (lookup : LookUp) (g : Option Origin) (hs₀ cs₀ : List ℕ) (x : Content) (next levels visits most : ℕ) → Type 0
Overrun ks vs lookup g hs₀ cs₀ x next levels visits most =
    (S : ℕ → Bool) (t : Term) (look : Look) → Below S next → Tree (view ks vs g) hs₀ cs₀ S x.head x.kids t → Looks ks vs lookup look
    → most < (walk_by (replacement (look_by look)) levels t visits next).count

-- what the visit of a term leaves: its result by `walk` of the definition, or that the children are too many
module _ (ks vs : List ℕ) (lookup : LookUp) (g : Option Origin) (hs₀ cs₀ hs cs : List ℕ) (x : Content) (next levels visits most : ℕ) where
  pub record Went (r : Walked) : Type 0 where
    pub later : next ≤ r.next
    pub within : r.next ≤ most
    pub fewer : r.visits ≤ visits
    -- a visit adds less than 2 ^ 36 bytes
    pub bounded : r.size ≤ 68719476736 * (visits - r.visits) + 1
    pub done : (S : ℕ → Bool) (t : Term) (look : Look) → Below S next → Tree (view ks vs g) hs₀ cs₀ S x.head x.kids t → Looks ks vs lookup look
        → Visited (view ks vs g) hs cs S next r.content.head r.content.kids r.next r.visits r.size (walk_by (replacement (look_by look)) levels t visits next)

  abbrev pub Walks : Option Walked → Type 0
  Walks (Some r) = Went r
  Walks None = Overrun ks vs lookup g hs₀ cs₀ x next levels visits most

-- the records up to here may be changed: all of them, where the children are too many
abbrev pub used : (most : ℕ) → Option Walked → ℕ
used most (Some r) = r.next
used most None = most
