-- A word as two numbers below 65,536, and words as a list of such halves, the low one of a word first.
use Rattle.std.specs.Prelude.{List, [], ◌∷◌, ℕ, ◌+◌, ◌/◌, ◌%◌}

abbrev pub low_half : ℕ → ℕ
low_half w = w % 65536

abbrev pub high_half : ℕ → ℕ
high_half w = w / 65536

unfoldable pub halves : List ℕ → List ℕ
halves [] = []
halves (w ∷ ws) = low_half w ∷ high_half w ∷ halves ws

-- how many words have n halves
abbrev pub half_words : ℕ → ℕ
half_words n = (n + 1) / 2
