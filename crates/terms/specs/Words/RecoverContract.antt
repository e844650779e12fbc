-- What the functions that recover a term hand on.
use Rattle.std.specs.Prelude.{◌≡◌, Bool, true, false, ◌&&◌, List, ℕ, zero, suc, ◌+◌, ◌≤◌, eqb, leb, length}
use Rattle.std.proofs.lemmas.List.Edits.{sets}
use Rattle.terms.specs.Result.{pick}
use Rattle.terms.specs.Term.{Parts, end, num, sub, items}

-- bytes written at a position where they fit, and else nothing
abbrev pub put_if : List ℕ → ℕ → List ℕ → List ℕ
put_if out at bs = pick (leb (at + length bs) (length out)) (sets out at bs) out

-- bytes were counted from `at` on, and written where all of them fit
pub record Put (out₀ out : List ℕ) (at r : ℕ) (bs : List ℕ) : Type 0 where
  pub next : r ≡ at + length bs
  pub wrote : at + length bs ≤ length out₀ → out ≡ sets out₀ at bs
  pub long : length out ≡ length out₀

-- how many tokens the first c parts of a row have
unfoldable pub upto : ℕ → Parts → ℕ
upto zero ps = 0
upto (suc c) end = 0
upto (suc c) (num n ps) = 1 + upto c ps
upto (suc c) (sub t ps) = length (items t) + upto c ps

-- two rows have the same numbers at the same places
unfoldable pub alike : Parts → Parts → Bool
alike end end = true
alike end (num m qs) = false
alike end (sub u qs) = false
alike (num n ps) end = false
alike (num n ps) (num m qs) = eqb n m && alike ps qs
alike (num n ps) (sub u qs) = false
alike (sub t ps) end = false
alike (sub t ps) (num m qs) = false
alike (sub t ps) (sub u qs) = alike ps qs
