-- Where a walk stands: the place that it has come to, and the runs that wait while a bound variable's run is walked.
use Rattle.std.specs.Prelude.{ℕ, zero, suc, ◌+◌, ◌-◌, ◌≤◌, ◌<◌, ◌≡◌, List, [], ◌∷◌, ◌++◌, length, get_or}
use Rattle.terms.specs.Words.Tokens.{Item, spell, one}
use Rattle.solver.specs.declared.Stand.{Stand}
use Rattle.solver.specs.Words.ResolveWalk.{walk, standing_at}

-- what d waiting runs hold: run j goes from st at 2j up to st at 2j + 1, with n - j variables left to enter
unfoldable pub pend : {A : Type 0} → (ℕ → ℕ → ℕ → List A) → ℕ → List ℕ → List ℕ → List ℕ → ℕ → List A
pend f n ks vs st zero = []
pend f n ks vs st (suc j) =
    spell (f (n - j)) ks vs (get_or st (j + j) 0) (get_or st (j + j + 1) 0 - get_or st (j + j) 0) ++ pend f n ks vs st j

-- what is left at a place: the run from p up to e, and then the d waiting runs
unfoldable pub rest : {A : Type 0} → (ℕ → ℕ → ℕ → List A) → ℕ → List ℕ → List ℕ → List ℕ → ℕ → ℕ → ℕ → List A
rest f n ks vs st p e d = spell (f (n - d)) ks vs p (e - p) ++ pend f n ks vs st d

abbrev pub stand : (at end depth : ℕ) → Stand
stand p e d = record { at = p; end = e; depth = d }

-- the tokens that are left at a place, bound variables replaced
abbrev pub left : (ks vs bs : List ℕ) (n : ℕ) (st : List ℕ) → Stand → List Item
left ks vs bs n st x = rest (walk one [] ks vs bs) n ks vs st x.at x.end x.depth

-- the place and the waiting runs are within the area, and the frames of n runs within theirs
pub record Sound (ks : List ℕ) (n : ℕ) (st : List ℕ) (x : Stand) : Type 0 where
  pub order : x.at ≤ x.end
  pub within : x.end ≤ length ks
  pub depth : x.depth ≤ n
  pub room : n + n ≤ length st
  pub frames : (j : ℕ) → j < x.depth → (get_or st (j + j) 0 ≤ get_or st (j + j + 1) 0) × (get_or st (j + j + 1) 0 ≤ length ks)

-- the words of n frames may have changed, and no other
abbrev pub Apart : ℕ → List ℕ → List ℕ → Type 0
Apart n st₀ st = (j : ℕ) → n + n ≤ j → get_or st j 0 ≡ get_or st₀ j 0

-- the words from n on are 0
abbrev pub Bare : ℕ → List ℕ → Type 0
Bare n st = (j : ℕ) → n ≤ j → get_or st j 0 ≡ 0

-- what is left begins with the token at the place, which is not entered, or is over, and then no run waits
pub record Ready (ks vs bs : List ℕ) (n : ℕ) (st : List ℕ) (x : Stand) : Type 0 where
  pub sound : Sound ks n st x
  pub head : x.at < x.end
      → left ks vs bs n st x ≡ standing_at ks vs bs (n - x.depth) x.at ++ left ks vs bs n st (stand (x.at + 1) x.end x.depth)
  pub over : x.end ≤ x.at → left ks vs bs n st x ≡ []
  pub alone : x.end ≤ x.at → x.depth ≡ 0

-- after `settle`: what is left is what was, and the frames past those of waiting runs are 0 where they were
pub record Settled (ks vs bs : List ℕ) (n : ℕ) (st₀ : List ℕ) (x₀ : Stand) (st : List ℕ) (x : Stand) : Type 0 where
  pub ready : Ready ks vs bs n st x
  pub same : left ks vs bs n st x ≡ left ks vs bs n st₀ x₀
  pub apart : Apart n st₀ st
  pub bare : Bare (x₀.depth + x₀.depth) st₀ → Bare (x.depth + x.depth) st

-- the words before n are 0, and no other has changed
pub record Cleared (n : ℕ) (st₀ st : List ℕ) : Type 0 where
  pub zeros : (j : ℕ) → j < n → get_or st j 0 ≡ 0
  pub others : (j : ℕ) → n ≤ j → get_or st j 0 ≡ get_or st₀ j 0
