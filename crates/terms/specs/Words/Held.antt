-- Terms and rows that the areas hold.
use Rattle.std.specs.Prelude.{◌≡◌, List, ℕ, zero, suc, ◌+◌, ◌≤◌, length}
use Rattle.terms.specs.Words.Tokens.{toks}
pub use Rattle.terms.specs.Term.{Held}
use Rattle.terms.specs.Term.{Parts, part_items}

-- how many tokens the term has whose first token has this kind and value
unfoldable pub span : ℕ → ℕ → ℕ
span zero v = 1
span (suc zero) v = 1
span (suc (suc k)) s = s

-- the areas hold a row of parts from a up to e
pub record HeldParts (ks vs : List ℕ) (a e : ℕ) (ps : Parts) : Type 0 where
  pub tokens : toks ks vs a (length (part_items ps)) ≡ part_items ps
  pub ends : a + length (part_items ps) ≡ e
  pub within : e ≤ length ks
