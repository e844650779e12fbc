-- Codes and numbers, case by case.
use mathlib.Core.Path.{◌≡◌, refl}
use mathlib.Core.List.{List}
use Prim.Native.Nat.{ℕ, ◌+◌, ◌≤◌, ◌<◌}
use native.Mathlib.Omega.{arith}
use borrow.Author.Tests.{lt-ltb, le-ltb, le-leb, lt-leb}
use lib.Dec.{leb}
use lib.ListN.{length, get_or}
use Rattle.terms.specs.Parser.{Result, got, refused, number, bind, pick, return, refuse}
use Rattle.terms.specs.Term.{var}
use Rattle.terms.specs.Shape.{ceiling, ordinary}
use Rattle.terms.specs.Reading.{code, rising, variable}

module _ (s : List ℕ) (at codes : ℕ) where
  pub code_end : length s ≤ at → refused 1 ≡ code s codes at
  unfolding code
  code_end h = simp (le-ltb at (length s) h)

  pub code_listed : at < length s → get_or s at 0 < codes → got (get_or s at 0) (at + 1) ≡ code s codes at
  unfolding code
  code_listed h k = simp (lt-ltb at (length s) h, lt-ltb (get_or s at 0) codes k)

  pub code_unlisted : at < length s → codes ≤ get_or s at 0 → refused 2 ≡ code s codes at
  unfolding code
  code_unlisted h k = simp (lt-ltb at (length s) h, le-ltb (get_or s at 0) codes k)

module _ (s : List ℕ) (most least at : ℕ) where
  pub rising_refused : (c : ℕ) → refused c ≡ number s most at → refused c ≡ rising s most least at
  unfolding rising
  rising_refused c h = simp (← h)

  module _ (v n : ℕ) (h : got v n ≡ number s most at) where
    pub rising_low : v < least → refused 5 ≡ rising s most least at
    unfolding rising
    rising_low k = simp (← h, lt-leb least v k)

    pub rising_got : least ≤ v → got v n ≡ rising s most least at
    unfolding rising
    rising_got k = simp (← h, le-leb least v k)

-- with nothing to rise above it is the number
pub rising_any : (s : List ℕ) (most at : ℕ) → rising s most 0 at ≡ number s most at
unfolding rising
rising_any s most at = go (number s most at)
  where
    go : (r : Result ℕ) → bind r (λ n. pick (leb 0 n) (return n) (refuse 5)) ≡ r
    go (got v n) = simp (le-leb 0 v (omega arith))
    go (refused c) = refl

module _ (s : List ℕ) (issued at : ℕ) where
  pub variable_refused : (c : ℕ) → refused c ≡ rising s (ceiling ordinary) 0 at → refused c ≡ variable s issued at
  unfolding variable
  variable_refused c h = let k : number s (ceiling ordinary) at ≡ refused c = rw (← rising_any s (ceiling ordinary) at) (rw (← h)) in simp k

  module _ (v n : ℕ) (h : got v n ≡ rising s (ceiling ordinary) 0 at) where
    pub variable_unissued : issued ≤ v → refused 6 ≡ variable s issued at
    unfolding variable
    variable_unissued k = let e : number s (ceiling ordinary) at ≡ got v n = rw (← rising_any s (ceiling ordinary) at) (rw (← h)) in simp (e, le-ltb v issued k)

    pub variable_got : v < issued → got (var v) n ≡ variable s issued at
    unfolding variable
    variable_got k = let e : number s (ceiling ordinary) at ≡ got v n = rw (← rising_any s (ceiling ordinary) at) (rw (← h)) in simp (e, lt-ltb v issued k)
