-- What a walk over two rows comes to.
use Rattle.std.specs.Prelude.{◌≡◌, List, ℕ, ◌+◌, ◌-◌, ◌≤◌, ◌<◌, get_or, Option, Some, None}
use Rattle.terms.specs.declared.Part.{Part}
use Rattle.terms.specs.declared.PairStep.{PairStep}
use Rattle.terms.specs.declared.PairStep.TheVariants.{Numbers, Terms, Apart}
use Rattle.terms.specs.declared.PairWalk.{PairWalk}
use Rattle.terms.specs.Words.Held.{span}

-- a row goes on with a number at i, and then from c on
abbrev pub NumberFirst : (ks : List ℕ) (a : Part) (i c : ℕ) → Type 0
NumberFirst ks a i c = (i ≡ a.from) × (a.from < a.end) × (get_or ks a.from 0 ≡ 0) × (c ≡ a.from + 1)

-- it goes on with a term, whose tokens are x, and then from c on
abbrev pub TermFirst : (ks vs : List ℕ) (a x : Part) (c : ℕ) → Type 0
TermFirst ks vs a x c =
    (x.from ≡ a.from) × (x.from < x.end) × (x.end ≤ a.end) × (get_or ks a.from 0 ≡ 0 → ⊥) × (c ≡ x.end)
    × (1 ≤ span (get_or ks a.from 0) (get_or vs a.from 0) → span (get_or ks a.from 0) (get_or vs a.from 0) ≤ a.end - a.from
    → x.end ≡ a.from + span (get_or ks a.from 0) (get_or vs a.from 0))

-- one row is over and the other is not, or one has a number and the other a term
pub data Unlike (ks : List ℕ) (a b : Part) : Type 0 where
  no_left : a.end ≤ a.from → b.from < b.end → Unlike ks a b
  no_right : a.from < a.end → b.end ≤ b.from → Unlike ks a b
  number_term : a.from < a.end → b.from < b.end → get_or ks a.from 0 ≡ 0 → (get_or ks b.from 0 ≡ 0 → ⊥) → Unlike ks a b
  term_number : a.from < a.end → b.from < b.end → (get_or ks a.from 0 ≡ 0 → ⊥) → get_or ks b.from 0 ≡ 0 → Unlike ks a b

-- from two rows on, the walk comes to this, and goes on from c and from d
abbrev pub Meets : (ks vs : List ℕ) (a b : Part) → Option PairStep → (c d : ℕ) → Type 0
Meets ks vs a b None c d = (a.end ≤ a.from) × (b.end ≤ b.from)
Meets ks vs a b (Some (Numbers i j)) c d = NumberFirst ks a i c × NumberFirst ks b j d
Meets ks vs a b (Some (Terms x y)) c d = TermFirst ks vs a x c × TermFirst ks vs b y d
Meets ks vs a b (Some Apart) c d = Unlike ks a b × (c ≡ a.end) × (d ≡ b.end)

-- a step of a walk
abbrev pub Steps : PairWalk → Option PairStep → PairWalk → Type 0
Steps s r t =
    Meets s.tokens.kinds.now s.tokens.vals.now s.a s.b r t.a.from t.b.from × (t.a.end ≡ s.a.end) × (t.b.end ≡ s.b.end) × (t.tokens ≡ s.tokens)
