-- What `is_some` and the exit of a `?` say of the value; and a loop that counts.
use Rattle.std.proofs.Common.{ℕ, ◌+◌, ◌-◌, arith, ◌≡◌, refl, true, false, Option, Some, None, is_some, Result, Ok, Err}
use Rattle.std.specs.Result.{IsErrAnd, result_ok}
use Rattle.std.proofs.lemmas.Result.{err_from_is_err_and}
use Rattle.terms.specs.declared.Refusal.{Refusal}

pub nothing : {A : Type 0} (o : Option A) → is_some o ≡ false → o ≡ None
nothing None e = refl
nothing (Some x) e = absurd (cc)

pub something : {A : Type 0} (o : Option A) → is_some o ≡ true → (x : A) × (o ≡ Some x)
something None e = absurd (cc)
something (Some x) e = (x, refl)

-- a refusal that a `?` hands on
pub handed_on : {A : Type 0} (r : Result A Refusal) (e : Refusal) → IsErrAnd r (λ x. x ≡ e) → r ≡ Err e
handed_on r e h = let p = err_from_is_err_and r h in rw (p.1, p.2) refl

-- a value that is taken from an answer
pub taken : {A : Type 0} (r : Result A Refusal) (o : Option A) → o ≡ result_ok r → (x : A) → o ≡ Some x → r ≡ Ok x
taken (Ok y) o e x h = let z : y ≡ x = cc in rw z
taken (Err y) o e x h = absurd (cc)

-- one fewer is left
pub sub_step : (n i : ℕ) → n - (i + 1) ≡ n - i - 1
sub_step n i = omega arith
