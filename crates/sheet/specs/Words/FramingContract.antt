-- Answers in the output: written whole, or not at all.
use Rattle.std.specs.Prelude.{Option, Some, None, ◌≡◌, List, [], ◌∷◌, ◌++◌, ℕ, suc, ◌+◌, ◌≤◌, ◌<◌, length}
use Rattle.std.proofs.lemmas.List.Edits.{sets}
use Rattle.solver.specs.Terms.Number.{shortest}
use Rattle.solver.specs.Terms.Result.{number_of}
use Rattle.sheet.specs.declared.OrderRefusal.{OrderRefusal}
use Rattle.sheet.specs.declared.OrderRefusal.TheVariants.{Common, NoType}
use Rattle.sheet.specs.OrderTable.{Answer}
use Rattle.sheet.specs.Sheet.{framed}

-- the bytes of the output, and the position that it is written up to
pub record Output : Type 0 where
  pub bytes : List ℕ
  pub at : ℕ

abbrev pub output_at : List ℕ → ℕ → Output
output_at bytes at = record { bytes = bytes; at = at }

-- the bytes of the output after an order, and the position after its answer: none where it does not fit
pub record Wrote : Type 0 where
  pub bytes : List ℕ
  pub next : Option ℕ

abbrev pub written_to : List ℕ → Option ℕ → Wrote
written_to bytes next = record { bytes = bytes; next = next }

-- there is an output, and a position in it or at its end
pub record OutputRoom (out : List ℕ) (to : ℕ) : Type 0 where
  pub inside : to ≤ length out
  pub short : length out ≤ 16777216

-- The bytes x from `to` on: they are written and the position after them is returned, or they do not fit, nothing is written and no position is
-- returned.
pub record Written (x out₀ : List ℕ) (to : ℕ) (out : List ℕ) (r : Option ℕ) : Type 0 where
  pub fits : to + length x ≤ length out₀ → (r ≡ Some (to + length x)) × (out ≡ sets out₀ to x)
  pub over : length out₀ < to + length x → (r ≡ None) × (out ≡ out₀)

-- document 01's number for why an order is refused
abbrev pub order_refusal : OrderRefusal → ℕ
order_refusal (Common why) = number_of why
order_refusal NoType = 13

-- an answer
abbrev pub Framed : Answer → (out₀ : List ℕ) (to : ℕ) (out : List ℕ) (r : Option ℕ) → Type 0
Framed a out₀ to out r = Written (framed a) out₀ to out r

-- what stands before a value of so many bytes: the length, and outcome 0
abbrev pub opening : ℕ → List ℕ
opening size = shortest (suc size) ++ 0 ∷ []

-- the same is written where the value fits after it
pub record Begun (size : ℕ) (out₀ : List ℕ) (to : ℕ) (out : List ℕ) (r : Option ℕ) : Type 0 where
  pub fits : to + length (opening size) + size ≤ length out₀ → (r ≡ Some (to + length (opening size))) × (out ≡ sets out₀ to (opening size))
  pub over : length out₀ < to + length (opening size) + size → (r ≡ None) × (out ≡ out₀)
