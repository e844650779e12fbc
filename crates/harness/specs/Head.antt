-- What the head of a frame says.
use Rattle.std.specs.Prelude.{◌≡◌, ℕ, List, min, Option, Some, None}
use Rattle.frames.specs.Numbers.{number_at}
use Rattle.harness.specs.declared.head.Head.{Head}

-- the four numbers of a head, the sizes at most what there is
pub record IsHeadOf (h : Head) (bytes : List ℕ) : Type 0 where
  pub room : h.room ≡ min (number_at bytes 0) 32768
  pub size : h.size ≡ min (number_at bytes 4) 32768
  pub words : h.words ≡ min (number_at bytes 8) 20000
  pub fill : h.fill ≡ number_at bytes 12

-- a head that was read is that of the bytes; where the input ends before there is none
abbrev pub HeadRead : Option Head → List ℕ → Type 0
HeadRead (Some h) bytes = IsHeadOf h bytes
HeadRead None bytes = Unit {0}
