-- Searches in the areas, on words: what each finds whatever the words are, and what that says of terms.
use Rattle.std.specs.Prelude.{◌≡◌, ◌&&◌, List, ℕ, zero, suc, ◌+◌, ◌-◌, eqb, ltb, length, get_or, Option, Some, None}
use Rattle.std.proofs.Math.Option as math
use Rattle.std.proofs.Math.Option.{none, some}
use Rattle.terms.specs.Result.{pick}
use Rattle.terms.specs.Term.{Term}
use Rattle.terms.specs.Words.Held.{Held, span}

-- at least 1 and at most `room`
unfoldable pub clip : ℕ → ℕ → ℕ
clip room s = pick (eqb s 0) 1 (pick (ltb room s) room s)

module _ (ks vs : List ℕ) where
  -- how far the term at i goes, within `room`
  abbrev pub stride : ℕ → ℕ → ℕ
  stride i room = clip room (span (get_or ks i 0) (get_or vs i 0))

  -- In a row of records, each of w numbers and a term, from i up to e: where the term of the last record stands whose first and last numbers are a
  -- and b; `best` was found before. A record has a token at least, so there are no more of them than fuel.
  unfoldable pub last_at : (w a b fuel i e : ℕ) → Option ℕ → Option ℕ
  last_at w a b zero i e best = best
  last_at w a b (suc fuel) i e best =
      pick (ltb (i + w) e)
      (last_at w a b fuel (i + w + stride (i + w) (e - (i + w))) e (pick (eqb (get_or vs i 0) a && eqb (get_or vs (i + w - 1) 0) b) (Some (i + w)) best))
      best

  -- the term of the last entry for an owner and a position, and of the last receiver for an owner
  abbrev pub entry_at : (i e owner position : ℕ) → Option ℕ
  entry_at i e owner position = last_at 2 owner position (e - i) i e None

  abbrev pub receiver_at : (i e owner : ℕ) → Option ℕ
  receiver_at i e owner = last_at 1 owner owner (e - i) i e None

  -- the n-th term from i on
  unfoldable pub nth_at : ℕ → ℕ → Option ℕ
  nth_at zero i = pick (ltb i (length ks)) (Some i) None
  nth_at (suc n) i = pick (ltb i (length ks)) (nth_at n (i + stride i (length ks - i))) None

  -- what was found is the place of the term, and nothing where there is none
  abbrev pub Finds : Option ℕ → math.Option Term → Type 0
  Finds (Some p) o = (u : Term) × (o ≡ some u) × Held ks vs p u
  Finds None o = o ≡ none

  -- the argument for a parameter's index
  abbrev pub argument_for : ℕ → Option ℕ → Option ℕ
  argument_for i (Some n) = nth_at n i
  argument_for i None = None
