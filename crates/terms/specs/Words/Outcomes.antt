-- The answers of the functions that are lent a place: where there was something to read, the place is after it; else they give the refusal.
use Rattle.std.specs.Prelude.{ℕ, ⊤, Ok, Err}
use Rattle.std.specs.declared.result.Result as rust
use Rattle.terms.specs.declared.Place.{Place}
use Rattle.terms.specs.declared.Refusal.{Refusal}
use Rattle.terms.specs.Result.{number_of}
use Rattle.terms.specs.Words.ReadContract.{Step, Next, Stopped, ValueRead, Valued, Unvalued}

-- the answer, with the place at its end
abbrev pub step_of : rust.Result ⊤ Refusal → Place → Step
step_of (Ok u) p = Next p
step_of (Err e) p = Stopped (number_of e)

-- the same with the value that was read
abbrev pub value_of : rust.Result ℕ Refusal → Place → ValueRead
value_of (Ok v) p = Valued v p
value_of (Err e) p = Unvalued (number_of e)
