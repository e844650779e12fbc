-- Comparing two terms: `conflicts_with`, `can_weaken_to`, and what a bound satisfies.
use Rattle.std.specs.Prelude.{Bool, true, false, not, ◌&&◌, ◌||◌, List, [], ◌∷◌, ℕ, eqb}
use Rattle.std.proofs.Math.Option.{Option, none, some}
use Rattle.terms.specs.Result.{pick}
use Rattle.terms.specs.Term.{Term, Parts, var, node, end, num, sub}
use Rattle.terms.specs.Tree.{row, tag, same, same_rows, same_terms, Nominal, look_up, interface_of, receiver_of, member_of, arguments_of}
use Rattle.terms.specs.Questions.{first, among}

-- ---- `conflicts_with`

-- Unknown and Error; Inference is a variable
abbrev pub recovery : ℕ → Bool
recovery k = among k (2 ∷ 3 ∷ [])

-- Inference, Unknown and Error conflict with nothing; projections are compared as wholes; other terms conflict unless their tags and numbers (access,
-- kind, counts, code, declaration, members, ids) are the same and no child conflicts. The Rust names these by kind: two accesses of Set or Map that
-- differ, counts that differ, a nominal's declaration or members that differ, and `left != right` for what is left.
unfoldable mutual
  pub conflicts_with : Term → Term → Bool
  conflicts_with (var v) u = false
  conflicts_with (node k ps) (var w) = false
  conflicts_with (node k ps) (node j qs) =
      pick (recovery k || recovery j) false (pick (eqb k j) (pick (eqb k 18) (not (same_rows ps qs)) (rows_conflict ps qs)) true)

  pub rows_conflict : Parts → Parts → Bool
  rows_conflict end end = false
  rows_conflict end (num m qs) = true
  rows_conflict end (sub u qs) = true
  rows_conflict (num n ps) end = true
  rows_conflict (num n ps) (num m qs) = not (eqb n m) || rows_conflict ps qs
  rows_conflict (num n ps) (sub u qs) = true
  rows_conflict (sub t ps) end = true
  rows_conflict (sub t ps) (num m qs) = true
  rows_conflict (sub t ps) (sub u qs) = conflicts_with t u || rows_conflict ps qs

-- ---- `can_weaken_to`

-- `collection_access`: Map and Set have one, as their first number
unfoldable pub collection_access : Term → Option ℕ
collection_access t = pick (among (tag t) (10 ∷ 11 ∷ [])) (some (first t)) none

-- `read_only_view`: Reference, Map and Set with the access 0 (Shared, ReadOnly)
abbrev pub with_first : ℕ → Parts → Parts
with_first n end = end
with_first n (num m ps) = num n ps
with_first n (sub t ps) = sub t ps

unfoldable pub read_only_view : Term → Option Term
read_only_view t = pick (among (tag t) (0 ∷ 10 ∷ 11 ∷ [])) (some (node (tag t) (with_first 0 (row t)))) none

-- the view of the first is there and does not conflict with the second
abbrev pub agrees : Option Term → Term → Bool
agrees none u = false
agrees (some v) u = not (conflicts_with v u)

abbrev pub is : Option ℕ → ℕ → Bool
is none n = false
is (some m) n = eqb m n

-- `can_weaken_to`
unfoldable pub can_weaken_to : Term → Term → Bool
can_weaken_to t u =
    pick ((eqb (tag t) 0 && eqb (first t) 1) && (eqb (tag u) 0 && eqb (first u) 0)) (agrees (read_only_view t) u)
    (is (collection_access t) 1 && is (collection_access u) 0 && agrees (read_only_view t) u)

-- ---- bounds

-- a test of each member with its term
unfoldable pub every : (ℕ → Term → Bool) → List ℕ → List Term → Bool
every f [] ts = true
every f (m ∷ ms) [] = true
every f (m ∷ ms) (t ∷ ts) = f m t && every f ms ts

-- `get(member) == Some(ty)`
abbrev pub same_option : Option Term → Term → Bool
same_option none t = false
same_option (some u) t = same u t

unfoldable pub has : Nominal → ℕ → Term → Bool
has a m t = same_option (look_up m a.members a.values) t

-- the declaration and the arguments agree, and each required member passes a test
unfoldable pub bounded : (ℕ → Term → Bool) → Nominal → Nominal → Bool
bounded f a b = eqb a.declaration b.declaration && (same_terms a.arguments b.arguments && every f b.members b.values)

-- `NominalType::satisfies`
abbrev pub satisfies : Nominal → Nominal → Bool
satisfies a b = bounded (has a) a b

-- a projection without arguments, of this receiver and member, whose interface the bound satisfies
abbrev pub no_terms : List Term → Bool
no_terms [] = true
no_terms (t ∷ ts) = false

unfoldable pub reflexive : Nominal → Term → ℕ → Term → Bool
reflexive a receiver m t =
    eqb (tag t) 18 && (same (receiver_of (row t)) receiver && (eqb (member_of (row t)) m && (no_terms (arguments_of (row t)) && satisfies a (interface_of (row t)))))

-- `NominalType::satisfies_for`
abbrev pub satisfies_for : Nominal → Nominal → Term → Bool
satisfies_for a b receiver = bounded (λ m t. has a m t || reflexive a receiver m t) a b
