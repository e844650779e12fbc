-- `recover_from`: the holes of a term are filled from another.
use Rattle.std.specs.Prelude.{◌&&◌, [], ◌∷◌, ℕ, zero, suc, ◌+◌, eqb, get_or}
use Rattle.terms.specs.Result.{pick}
use Rattle.terms.specs.Term.{Term, Parts, var, node, end, num, sub}
use Rattle.terms.specs.Tree.{nums, row, tag, same_numbers, nominal_of}
use Rattle.terms.specs.Questions.{first, among}
use Rattle.terms.specs.Comparison.{recovery}

-- how many parts a row has
unfoldable pub parts : Parts → ℕ
parts end = 0
parts (num n ps) = suc (parts ps)
parts (sub t ps) = suc (parts ps)

-- Of two nominals whose members differ only the arguments are recovered, which stand after the declaration and their count.
unfoldable pub nominal_reach : Parts → Parts → ℕ
nominal_reach ps qs =
    let a = nominal_of ps in
    let b = nominal_of qs in
    pick (eqb a.declaration b.declaration && eqb (get_or (nums ps) 1 0) (get_or (nums qs) 1 0))
    (pick (same_numbers a.members b.members) (parts ps) (2 + get_or (nums ps) 1 0)) 0

-- How many parts of the first term's row are recovered from the second's: none where the kinds differ, or the access of a Reference, the kind of a
-- Range, the count of a Tuple or of a Function's parameters, or the declaration or the number of arguments of a nominal. The access of Map and Set
-- is ignored.
unfoldable pub reach : Term → Term → ℕ
reach t u =
    pick (eqb (tag t) (tag u))
    (pick (among (tag t) (7 ∷ 9 ∷ 10 ∷ 11 ∷ [])) (parts (row t))
    (pick (among (tag t) (0 ∷ 5 ∷ 6 ∷ 8 ∷ [])) (pick (eqb (first t) (first u)) (parts (row t)) 0)
    (pick (among (tag t) (12 ∷ 13 ∷ 14 ∷ 15 ∷ [])) (nominal_reach (row t) (row u)) 0)))
    0

-- Unknown and Error are filled, and fill nothing; Inference is never replaced; numbers stay the first term's
unfoldable mutual
  pub recover_from : Term → Term → Term
  recover_from (var v) u = var v
  recover_from (node k ps) u =
      pick (recovery (tag u)) (node k ps) (pick (recovery k) u (node k (recover_row ps (reach (node k ps) u) (row u))))

  pub recover_row : Parts → ℕ → Parts → Parts
  recover_row end c qs = end
  recover_row (num n ps) zero qs = num n ps
  recover_row (num n ps) (suc c) end = num n ps
  recover_row (num n ps) (suc c) (num m qs) = num n (recover_row ps c qs)
  recover_row (num n ps) (suc c) (sub u qs) = num n ps
  recover_row (sub t ps) zero qs = sub t ps
  recover_row (sub t ps) (suc c) end = sub t ps
  recover_row (sub t ps) (suc c) (num m qs) = sub t ps
  recover_row (sub t ps) (suc c) (sub u qs) = sub (recover_from t u) (recover_row ps c qs)
