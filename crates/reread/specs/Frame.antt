-- What the functions of the program hand on.
use Rattle.std.specs.Prelude.{◌≡◌, ℕ, ◌-◌, ◌≤◌, ◌<◌, Option, Some, None, Ok, Err, ⊤, length, take, drop}
use Rattle.std.specs.declared.result.Result as rust
use Rattle.terms.specs.declared.Refusal.{Refusal}
use Rattle.reread.specs.declared.Frame.{Frame}
use Rattle.reread.specs.declared.Frames.{Frames}
use Rattle.frames.specs.declared.input.Input.{Input}
use Rattle.reread.specs.declared.Frame.TheVariants.{Number, Kept}

-- tokens from the first up to the last, within two areas of m and n, where there is no refusal
abbrev pub Lies : (first last m n : ℕ) → rust.Result ⊤ Refusal → Type 0
Lies first last m n (Ok u) = (first ≤ last) × (last ≤ m) × (last ≤ n)
Lies first last m n (Err e) = Unit {0}

-- what is kept lies within two areas of m and n tokens
abbrev pub Sound : ℕ → ℕ → rust.Result Frame Refusal → Type 0
Sound m n (Err e) = Unit {0}
Sound m n (Ok (Number v)) = Unit {0}
Sound m n (Ok (Kept nodes tokens first)) = (first ≤ tokens) × (tokens ≤ m) × (tokens ≤ n)

-- a frame lies after its length and within n bytes
abbrev pub Inside : ℕ → ℕ → Option (ℕ × ℕ) → Type 0
Inside at n (Some (from, end)) = (at < from) × (from ≤ end) × (end ≤ n)
Inside at n None = Unit {0}

-- a step over the frames: the bytes of the frame that lies after its length, where there is one, and on behind it
abbrev pub Passes : Frames → Option Input → Frames → Type 0
Passes s (Some x) t =
    (from : ℕ) × Inside s.at (length s.input.bytes.now) (Some (from, t.at)) × (x.bytes.now ≡ take (t.at - from) (drop from s.input.bytes.now)) × (t.input ≡ s.input)
Passes s None t = Unit {0}
