-- The bytes of tokens as they stand.
use Rattle.std.specs.Prelude.{ℕ, zero, suc, ◌%◌, List, [], ◌∷◌}
use Rattle.terms.specs.Number.{shortest}
use Rattle.terms.specs.Words.Tokens.{spell}

-- one token: a number its shortest form, a variable its tag and its id, a head its tag
unfoldable pub plain : ℕ → ℕ → List ℕ
plain zero v = shortest v
plain (suc zero) v = 1 ∷ shortest v
plain (suc (suc k)) span = (k % 256) ∷ []

-- the bytes of the c tokens from a on
abbrev pub spelt : List ℕ → List ℕ → ℕ → ℕ → List ℕ
spelt ks vs a c = spell plain ks vs a c
