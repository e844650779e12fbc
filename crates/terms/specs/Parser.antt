-- A parser reads at a position: it finds a value and the position after it, or refuses.
use Rattle.std.specs.Prelude.{ℕ, ◌+◌, List, length, get_or, ltb}
pub use Rattle.terms.specs.Result.{Result, got, refused, pick}
use Rattle.terms.specs.Number as numbers

abbrev pub Parser : Type 0 → Type 0
Parser A = ℕ → Result A

abbrev pub bind : {A B : Type 0} → Result A → (A → Parser B) → Result B
bind (got a n) f = f a n
bind (refused c) f = refused c

infixl 20 ◌>>=◌
abbrev pub ◌>>=◌ : {A B : Type 0} → Parser A → (A → Parser B) → Parser B
◌>>=◌ p f at = bind (p at) f

abbrev pub return : {A : Type 0} → A → Parser A
return a at = got a at

abbrev pub refuse : {A : Type 0} → ℕ → Parser A
refuse c at = refused c

-- the byte at a position: refusal 1 at the end
abbrev pub byte : List ℕ → Parser ℕ
byte s at = pick (ltb at (length s)) (got (get_or s at 0) (at + 1)) (refused 1)

-- a number of at most `most`
abbrev pub number : List ℕ → ℕ → Parser ℕ
number s most at = numbers.number most s at
