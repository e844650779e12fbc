-- The record of chains as words of the table: ends and tails changed in one pass.
use Rattle.std.specs.Prelude.{Bool, ◌&&◌, List, ◌≡◌, ℕ, suc, ◌+◌, ◌<◌, eqb, ltb, length, get_or, take, drop}
use Rattle.terms.specs.Result.{pick}
use Rattle.solver.specs.Words.ChainRecord.{named}
use Rattle.solver.specs.Words.TableLayout.{ends_from, tails_from, unused_from}

-- whether the tail of u, one of the first n variables, names v
unfoldable pub names : (m n v : ℕ) → List ℕ → ℕ → Bool
names m n v ts u = ltb u n && eqb (named (get_or ts (tails_from m + u) 0)) (suc v)

-- only ends and tails may differ
pub record Near (m : ℕ) (ts us : List ℕ) : Type 0 where
  pub size : length us ≡ length ts
  pub front : take (ends_from m) us ≡ take (ends_from m) ts
  pub rest : drop (unused_from m) us ≡ drop (unused_from m) ts

-- the variables among the first n whose tails name v have this end and this tail
pub record ChainsMoved (m n v end tail : ℕ) (ts us : List ℕ) : Type 0 where
  pub size : length us ≡ length ts
  pub ends : (u : ℕ) → u < m → get_or us (ends_from m + u) 0 ≡ pick (names m n v ts u) end (get_or ts (ends_from m + u) 0)
  pub tails : (u : ℕ) → u < m → get_or us (tails_from m + u) 0 ≡ pick (names m n v ts u) tail (get_or ts (tails_from m + u) 0)
  pub front : take (ends_from m) us ≡ take (ends_from m) ts
  pub rest : drop (unused_from m) us ≡ drop (unused_from m) ts

-- the variables among the first n whose tails name v have this tail, and no end has changed
pub record TailsSet (m n v tail : ℕ) (ts us : List ℕ) : Type 0 where
  pub size : length us ≡ length ts
  pub tails : (u : ℕ) → u < m → get_or us (tails_from m + u) 0 ≡ pick (names m n v ts u) tail (get_or ts (tails_from m + u) 0)
  pub front : take (tails_from m) us ≡ take (tails_from m) ts
  pub rest : drop (unused_from m) us ≡ drop (unused_from m) ts
