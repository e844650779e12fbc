-- What the table keeps of the chain of each issued variable: "Each variable's record shall hold the variable, term node or default where its chain of variables
-- ends, and the family at that end." Two columns: the word of the end, in the form of a binding's, and a tail, which names the variable at the end and has the
-- family there.
use Rattle.std.specs.Prelude.{List, ℕ, suc, ◌+◌, ◌/◌, ◌%◌, ◌≤◌, ◌<◌, ◌≡◌, get_or}
use Rattle.std.proofs.Math.Option.{Option, none, some}
use Rattle.terms.specs.Term.{Term, var, node}
use Rattle.solver.specs.Families.{Request, admits}
use Rattle.solver.specs.Constrain.{Solver, follow, top}
use Rattle.solver.specs.Words.Masks.{bit}

-- ---- the end

unfoldable pub end_if : Option Term → Term → Option Term
end_if none t = none
end_if (some u) t = some t

-- none where v is free, else the term where its chain ends, after at most n bindings
abbrev pub chain_ends : ℕ → (ℕ → Option Term) → ℕ → Option Term
chain_ends n b v = end_if (b v) (follow n b (var v))

-- following comes to a node or a free variable, and from an issued variable to an issued one; and no other is bound: so it is in a session in order
pub record Coming (N : ℕ) (z : Solver) : Type 0 where
  pub free : (t : Term) (v : ℕ) → top z t ≡ var v → z.bindings v ≡ none
  pub low : (u v : ℕ) → u < N → top z (var u) ≡ var v → v < N
  pub far : (v : ℕ) → N ≤ v → z.bindings v ≡ none

-- what a variable is bound to: a node, or another variable, which is free
abbrev pub Last : (ℕ → Option Term) → ℕ → Term → Type 0
Last b v (var w) = (b w ≡ none) × (w ≡ v → ⊥)
Last b v (node k ps) = Unit {0}

-- ---- the tail

-- its parts: the variable at the end and 1; the types of its family, as a mask; and 1 where another chain ends here
abbrev pub named : ℕ → ℕ
named word = word % 65536

abbrev pub family_mask : ℕ → ℕ
family_mask word = word / 65536 % 1024

abbrev pub shared : ℕ → ℕ
shared word = word / 67108864

-- the mask of a requested family; none has 0
abbrev pub HeldFamily : Option Request → ℕ → Type 0
HeldFamily none m = m ≡ 0
HeldFamily (some r) m = (c : ℕ) → bit m c ≡ admits r.family c

-- whether the chain of another of the first n variables ends at v
pub record Sharing (z : Solver) (n v f : ℕ) : Type 0 where
  pub most : f ≤ 1
  pub yes : f ≡ 1 → (u : ℕ) × (u < n) × (u ≡ v → ⊥) × (top z (var u) ≡ var v)
  pub no : f ≡ 0 → (u : ℕ) → u < n → (u ≡ v → ⊥) → top z (var u) ≡ var v → ⊥

-- the tail of the variable v, whose chain ends at the term: 0 for a node
abbrev pub HeldTail : Solver → (n v : ℕ) → Term → ℕ → Type 0
HeldTail z n v (var w) word = (named word ≡ suc w) × HeldFamily (z.requests w) (family_mask word) × Sharing z n v (shared word)
HeldTail z n v (node k ps) word = word ≡ 0

-- the tails of the first n variables
abbrev pub HeldTails : Solver → ℕ → List ℕ → Type 0
HeldTails z n ws = (v : ℕ) → v < n → HeldTail z n v (top z (var v)) (get_or ws v 0)
