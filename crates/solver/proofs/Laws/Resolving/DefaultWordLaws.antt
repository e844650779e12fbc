-- Which words of bindings are defaults, and what a word holds by whether it is one.
use mathlib.Core.Path.{◌≡◌, refl, sym, ap, ◌∙◌}
use mathlib.Core.Bool.{true, false}
use mathlib.Core.List.{List}
use mathlib.Core.Option.{Option, none, some}
use Prim.Native.Nat.{ℕ, ◌+◌, ◌%◌, ◌≤◌, ◌<◌}
use native.Mathlib.Omega.{arith}
use native.Mathlib.Decide.{dec_lt}
use borrow.Author.Tests.{le-leb, lt-leb}
use lib.ListN.{length}
use Rattle.std.proofs.Math.Option.{some-injective, some-ne-none}
use Rattle.std.specs.declared.option.Option as rust
use Rattle.std.specs.Prelude.{Some, None}
use Rattle.std.specs.Option.{is_some}
use Rattle.terms.specs.Term.{Term, Held}
use Rattle.terms.proofs.Laws.General.Bools.{never_true, never_false}
use Rattle.terms.proofs.Laws.Held.HeldLaws.{items_some}
use Rattle.solver.specs.declared.Builtin.{Builtin}
use Rattle.solver.specs.Words.Bindings.{defaults, builtin, HeldWord, placed, coded}
use Rattle.solver.specs.Words.ResolveWalk.{code_of, default_of}

-- ---- which words are defaults

pub default_low : (word : ℕ) → word < defaults → default_of word ≡ none
unfolding default_of
default_low word h = rw (lt-leb defaults word h)

pub default_high : (word : ℕ) → defaults ≤ word → default_of word ≡ some (word % 32)
unfolding default_of
default_high word h = rw (le-leb defaults word h)

-- the default of the builtin with the code c
pub default_code : (word c : ℕ) → c < 32 → word ≡ defaults + c → default_of word ≡ some c
default_code word c h e =
    let m : word % 32 ≡ c = omega arith in
    default_high word (omega arith) ∙ ap some m

-- its code is one of 32
pub default_low_code : (word c : ℕ) → default_of word ≡ some c → c < 32
default_low_code word c e = go (dec_lt word defaults)
  where
    go : Dec (word < defaults) → c < 32
    go (yes l) = absurd (some-ne-none c (sym e ∙ default_low word l))
    go (no l) = omega (arith, some-injective (word % 32) c (sym (default_high word (omega arith)) ∙ e))

-- an answer with a default, and one with none
pub code_some : (o : rust.Option Builtin) → is_some o ≡ true → (c : ℕ) × (c < 32) × (code_of o ≡ some c)
code_some (Some b) e = (b.code, b.listed, refl)
code_some None e = never_true e

pub code_none : (o : rust.Option Builtin) → is_some o ≡ false → code_of o ≡ none
code_none (Some b) e = never_false e
code_none None e = refl

-- ---- what a word holds

module _ {ks vs : List ℕ} {t : Term} {word : ℕ} where
  -- a default its builtin
  pub word_default : HeldWord ks vs t word → length ks < defaults → (c : ℕ) → default_of word ≡ some c → (c < 32) × (t ≡ builtin c)
  word_default (placed p e h) s c d = absurd (some-ne-none c (sym d ∙ default_low word (omega (arith, h.within, items_some t))))
  word_default (coded a l e f) s c d =
      let q : a ≡ c = some-injective a c (sym (default_code word a l e) ∙ d) in
      (omega arith, f ∙ ap builtin q)

  -- and another word the term at a place
  pub word_below : HeldWord ks vs t word → default_of word ≡ none → (p : ℕ) × (word ≡ p + 1) × Held ks vs p t
  word_below (placed p e h) d = (p, e, h)
  word_below (coded c l e f) d = absurd (some-ne-none c (sym (default_code word c l e) ∙ d))
