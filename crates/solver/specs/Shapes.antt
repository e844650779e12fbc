-- The shape of a term: its tag, its numbers, and how many children stand where. What the solver compares before it takes two terms apart.
use Rattle.std.specs.Prelude.{Bool, true, false, ◌||◌, List, ◌++◌, ℕ, zero, suc, eqb, get_or, take, drop}
use Rattle.terms.specs.Result.{pick}
use Rattle.terms.specs.Term.{Term, Parts, var, node, end, num, sub}
use Rattle.terms.specs.Tree.{unknown, nums, row, tag, class, children, same}

-- a term with Unknown for each child
unfoldable pub blank_row : Parts → Parts
blank_row end = end
blank_row (num n ps) = num n (blank_row ps)
blank_row (sub t ps) = sub unknown (blank_row ps)

unfoldable pub blank : Term → Term
blank (var v) = var v
blank (node k ps) = node k (blank_row ps)

-- A notion of equal shape: the tags whose access (the first number of the row) does not count.
abbrev pub Notion : Type 0
Notion = ℕ → Bool

-- order 4: the access of Map and Set does not count
unfoldable pub loose : Notion
loose k = eqb k 10 || eqb k 11

-- order 22: every access counts
unfoldable pub exact : Notion
exact k = false

-- the notion by which a pair is posed: strict or not
abbrev pub notion : Bool → Notion
notion true = exact
notion false = loose

-- a row with its first number read as 0
unfoldable pub unmarked : Parts → Parts
unmarked end = end
unmarked (num n ps) = num 0 ps
unmarked (sub t ps) = sub t ps

abbrev pub read_row : Notion → ℕ → Parts → Parts
read_row n k ps = pick (n k) (unmarked ps) ps

-- a term with its own access read as ReadOnly (0), where it does not count
unfoldable pub read : Notion → Term → Term
read n (var v) = var v
read n (node k ps) = node k (read_row n k ps)

-- "once every Set and Map access at any depth is read as ReadOnly"
unfoldable mutual
  pub read_all : Notion → Term → Term
  read_all n (var v) = var v
  read_all n (node k ps) = node k (read_row n k (read_all_row n ps))

  pub read_all_row : Notion → Parts → Parts
  read_all_row n end = end
  read_all_row n (num a ps) = num a (read_all_row n ps)
  read_all_row n (sub t ps) = sub (read_all n t) (read_all_row n ps)

-- `same_shape` of `constrain`, but for projections; terms with no children that have the same shape are equal, and were passed over before
unfoldable pub same_shape : Notion → Term → Term → Bool
same_shape n t u = same (read n (blank t)) (read n (blank u))

-- The children in the order of `map_children`, in which the Rust pushes them: by the class of the tag, a nominal's members, then its n
-- arguments; others in byte order. (A projection is never taken apart.)
unfoldable pub turned : {A : Type 0} → ℕ → ℕ → List A → List A
turned zero n ts = ts
turned (suc zero) n ts = drop n ts ++ take n ts
turned (suc (suc x)) n ts = ts

abbrev pub pushed : Term → List Term
pushed t = turned (class (tag t)) (get_or (nums (row t)) 1 0) (children t)
