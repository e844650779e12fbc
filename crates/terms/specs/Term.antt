-- Terms, their tokens, their nodes and their bytes.
use Rattle.std.specs.Prelude.{◌≡◌, ℕ, suc, max, ◌+◌, ◌%◌, ◌≤◌, List, [], ◌∷◌, ◌++◌, length}
use Rattle.terms.specs.Number.{shortest}
use Rattle.terms.specs.Words.Tokens.{Item, item, toks}

-- A term is a variable or a node with a tag. What follows a node's tag in the byte form is a row of numbers and terms, in the order
-- of the byte form: counts, ids, members, codes and access marks are numbers (a code or mark is below 128, so its byte is its number form).
mutual
  pub data Term : Type 0 where
    var : ℕ → Term
    node : ℕ → Parts → Term

  pub data Parts : Type 0 where
    end : Parts
    num : ℕ → Parts → Parts
    sub : Term → Parts → Parts

-- one row and the next
infixl 50 ◌+++◌
abbrev pub ◌+++◌ : Parts → Parts → Parts
end +++ qs = qs
(num n ps) +++ qs = num n (ps +++ qs)
(sub t ps) +++ qs = sub t (ps +++ qs)

-- the tokens
unfoldable mutual
  pub items : Term → List Item
  items (var v) = item 1 v ∷ []
  items (node k ps) = item (suc (suc k)) (suc (length (part_items ps))) ∷ part_items ps

  pub part_items : Parts → List Item
  part_items end = []
  part_items (num n ps) = item 0 n ∷ part_items ps
  part_items (sub t ps) = items t ++ part_items ps

-- how many tagged terms a term has, and a row
unfoldable mutual
  pub size : Term → ℕ
  size (var v) = 1
  size (node k ps) = 1 + sizes ps

  pub sizes : Parts → ℕ
  sizes end = 0
  sizes (num n ps) = sizes ps
  sizes (sub t ps) = size t + sizes ps

-- how many levels a term has, and a row below its node
unfoldable mutual
  pub depth : Term → ℕ
  depth (var v) = 1
  depth (node k ps) = suc (depths ps)

  pub depths : Parts → ℕ
  depths end = 0
  depths (num n ps) = depths ps
  depths (sub t ps) = max (depth t) (depths ps)

-- every variable of a term has P
unfoldable mutual
  pub AllVars : (ℕ → Type 0) → Term → Type 0
  AllVars P (var v) = P v
  AllVars P (node k ps) = AllVarsParts P ps

  pub AllVarsParts : (ℕ → Type 0) → Parts → Type 0
  AllVarsParts P end = Unit {0}
  AllVarsParts P (num n ps) = AllVarsParts P ps
  AllVarsParts P (sub t ps) = AllVars P t × AllVarsParts P ps

-- every term that stands in a row has P
unfoldable pub Subs : (Term → Type 0) → Parts → Type 0
Subs P end = Unit {0}
Subs P (num n ps) = Subs P ps
Subs P (sub t ps) = P t × Subs P ps

-- the bytes
unfoldable mutual
  pub bytes : Term → List ℕ
  bytes (var v) = 1 ∷ shortest v
  bytes (node k ps) = (k % 256) ∷ part_bytes ps

  pub part_bytes : Parts → List ℕ
  part_bytes end = []
  part_bytes (num n ps) = shortest n ++ part_bytes ps
  part_bytes (sub t ps) = bytes t ++ part_bytes ps

-- the areas hold the term t at p
pub record Held (ks vs : List ℕ) (p : ℕ) (t : Term) : Type 0 where
  pub tokens : toks ks vs p (length (items t)) ≡ items t
  pub within : p + length (items t) ≤ length ks
