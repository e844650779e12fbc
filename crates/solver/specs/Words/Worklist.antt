-- A table of marks and a queue of the marked numbers.
use Rattle.std.specs.Prelude.{List, [], ◌∷◌, ◌⊎◌, ◌≡◌, ℕ, ◌+◌, ◌<◌, ◌≤◌, length, get_or}

unfoldable pub sum : List ℕ → ℕ
sum [] = 0
sum (x ∷ xs) = x + sum xs

-- every word is 0
abbrev pub Zero : List ℕ → Type 0
Zero l = (i : ℕ) → get_or l i 0 ≡ 0

-- the first `top` words of the queue are the numbers whose mark is 1, each once; every other mark is 0, and every other word of the queue
pub record Work (marks queue : List ℕ) (top : ℕ) : Type 0 where
  pub bits : (v : ℕ) → get_or marks v 0 ≤ 1
  pub counted : top ≡ sum marks
  pub queued : (k : ℕ) → k < top → get_or marks (get_or queue k 0) 0 ≡ 1
  pub found : (v : ℕ) → get_or marks v 0 ≡ 1 → (k : ℕ) × (k < top) × (get_or queue k 0 ≡ v)
  pub blank : (k : ℕ) → top ≤ k → get_or queue k 0 ≡ 0

-- after marking the numbers of a set, those that the table has: the marks are those of before and of the set, and the queue has grown
pub record Grown (In : ℕ → Type 0) (marks₀ queue₀ : List ℕ) (top₀ : ℕ) (marks queue : List ℕ) (top : ℕ) : Type 0 where
  pub work : Work marks queue top
  pub same : (k : ℕ) → k < top₀ → get_or queue k 0 ≡ get_or queue₀ k 0
  pub longer : top₀ ≤ top
  pub old : (v : ℕ) → get_or marks₀ v 0 ≡ 1 → get_or marks v 0 ≡ 1
  pub all : (v : ℕ) → v < length marks → In v → get_or marks v 0 ≡ 1
  pub only : (v : ℕ) → get_or marks v 0 ≡ 1 → (get_or marks₀ v 0 ≡ 1) ⊎ In v
