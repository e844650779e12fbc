-- Words by which the questions are answered.
use Rattle.std.specs.Prelude.{◌≡◌, Bool, List, ℕ, zero, suc, ltb, get_or}
use Rattle.terms.specs.Result.{pick}
use Rattle.terms.specs.Term.{Term, Parts, Subs}
use Rattle.terms.specs.Words.Held.{HeldParts}
use Rattle.terms.specs.Formed.{Formed}
use Rattle.terms.specs.Questions.{meets_row}

-- the tag of a term by the kind of its first token: a variable has the tag 1
unfoldable pub tag_of : ℕ → ℕ
tag_of zero = 0
tag_of (suc zero) = 1
tag_of (suc (suc k)) = k

-- the word at i, or 0 at the end
abbrev pub word : List ℕ → ℕ → ℕ → ℕ
word vs i e = pick (ltb i e) (get_or vs i 0) 0

-- a row of formed terms from p up to e, of which `whole` says whether one that counts is among those entered
pub record Asking (ks vs : List ℕ) (p e : ℕ) (counts enters : Term → Bool) (whole : Bool) : Type 0 where
  pub row : Parts
  pub held : HeldParts ks vs p e row
  pub formed : Subs Formed row
  pub same : whole ≡ meets_row counts enters row
