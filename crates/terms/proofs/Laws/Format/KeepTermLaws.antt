-- What is offered of reading, from what the reading functions leave; and what it says to a caller: before the place nothing changed, what is
-- kept is held by the areas, and 2,048 nodes fit.
use mathlib.Core.Path.{◌≡◌, refl, ap, ◌∙◌}
use mathlib.Core.Bool.{Bool, true, false}
use mathlib.Core.List.{List, [], ◌∷◌}
use Prim.Native.Nat.{ℕ, suc, ◌+◌, ◌-◌, ◌*◌, ◌≤◌, ◌<◌}
use native.Mathlib.Omega.{arith}
use borrow.Author.Tests.{le-leb, leb-true}
use lib.Dec.{leb}
use lib.ListN.{length, get_or, length-set}
use lib.Seq.{get_or-set_same, get_or-set_other}
use Rattle.terms.specs.declared.Place.{Place}
use Rattle.terms.specs.Words.ReadContract.{Step}
use Rattle.terms.specs.Words.ReadContract.{Next, Stopped}
use Rattle.terms.specs.Parser.{Result, got, refused, pick}
use Rattle.terms.specs.Words.Tokens.{Item, item, Area, put, puts, zeros, blank, before, spell, toks}
use Rattle.terms.specs.Term.{Term, items, size, Held}
use Rattle.terms.specs.Words.ReadContract.{Only, Done, TermDone, kept, Cleared}
use Rattle.terms.specs.Formed.{Formed}
use Rattle.terms.proofs.Laws.Format.StoreLaws.{length_kinds, before_puts, only_wider}
use Rattle.terms.proofs.Laws.Format.TokenCountLaws.{weight, tokens_bound, weight_one, one, two}

-- ---- tokens that were stored stand where they were stored

kinds_before : (l : List Item) (d : Area) (i o : ℕ) → i < o → get_or (puts d o l).kinds i 0 ≡ get_or d.kinds i 0
unfolding puts
kinds_before [] d i o h = refl
kinds_before (item k v ∷ l) d i o h = kinds_before l (put d o k v) i (suc o) (omega arith) ∙ get_or-set_other d.kinds o i k 0 (λ e. omega arith)

vals_before : (l : List Item) (d : Area) (i o : ℕ) → i < o → get_or (puts d o l).vals i 0 ≡ get_or d.vals i 0
unfolding puts
vals_before [] d i o h = refl
vals_before (item k v ∷ l) d i o h = vals_before l (put d o k v) i (suc o) (omega arith) ∙ get_or-set_other d.vals o i v 0 (λ e. omega arith)

pub stored_at : (l : List Item) (d : Area) (i : ℕ) → i + length l ≤ length d.kinds → i + length l ≤ length d.vals
    → toks (puts d i l).kinds (puts d i l).vals i (length l) ≡ l
unfolding puts spell
stored_at [] d i h k = refl
stored_at (item a b ∷ l) d i h k =
    rw (
      kinds_before l (put d i a b) i (suc i) (omega arith) ∙ get_or-set_same d.kinds i a 0 (omega arith),
      vals_before l (put d i a b) i (suc i) (omega arith) ∙ get_or-set_same d.vals i b 0 (omega arith),
    )
    (ap (λ (m : List Item). item a b ∷ m) (stored_at l (put d i a b) (suc i) (omega (arith, length-set d.kinds i a)) (omega (arith, length-set d.vals i b))))

-- ---- the offered functions, from the reading functions and the clearing

-- what is cleared after a term
fresh : (on : Bool) (d e f : Area) (i n : ℕ) (ws : List Item) → (on ≡ true → e ≡ puts d i ws) → Only i n d e → f ≡ pick on e (blank e i n) → f ≡ pick on (puts d i ws) (blank d i n)
fresh true d e f i n ws s o h = h ∙ s refl
fresh false d e f i n ws s o h = h ∙ o

-- the answer and the areas where tokens ws of n nodes were read, up to the place q
module _ (p q : Place) (ws : List Item) (n : ℕ) (tokens : q.top ≡ p.top + length ws) (counts : q.nodes ≡ p.nodes + n) (limit : q.limit ≡ p.limit) where
  pub next_kept : (d e f : Area) → (q.nodes ≤ p.limit → e ≡ puts d p.top ws) → Only p.top (length ws) d e
      → f ≡ pick (leb q.nodes q.limit) e (blank e p.top (q.top - p.top)) → f ≡ pick (leb (p.nodes + n) p.limit) (puts d p.top ws) (blank d p.top (length ws))
  next_kept d e f stored only c =
      let m : q.top - p.top ≡ length ws = omega arith in
      let y = fresh (leb q.nodes q.limit) d e f p.top (length ws) ws (λ h. stored (omega (arith, leb-true q.nodes q.limit h))) only (rw m at c) in
      rw (← counts, ← limit) y

-- the same of what was read as `ReadContract` says: a term, or a row
module _ {A : Type 0} (ws : A → List Item) (n : A → ℕ) (s : List ℕ) (found : Result A) (p : Place) (d e : Area) where
  pub done_next : (q : Place) (f : Area) (x : Done ws n s found p d e (Next q)) → Cleared p (length s - p.at) e f (Next q)
      → f ≡ pick (leb (p.nodes + n x.0) p.limit) (puts d p.top (ws x.0)) (blank d p.top (length (ws x.0)))
  done_next q f x c = let w = x.2 in next_kept p q (ws x.0) (n x.0) w.tokens w.counts w.limit d e f w.stored w.only c

  pub done_stop : (c : ℕ) (f : Area) → Done ws n s found p d e (Stopped c) → Cleared p (length s - p.at) e f (Stopped c) → f ≡ blank d p.top (length s - p.at + 1)
  done_stop c f x y = y ∙ only_wider d e p.top (length s - p.at) x.1 p.top (length s - p.at + 1) (omega arith) (omega arith)

module _ (s : List ℕ) (found : Result Term) (p : Place) (d e : Area) where
  pub term_kept : (r : Step) (f : Area) → TermDone s found p d e r → Cleared p (length s - p.at) e f r → f ≡ kept s p found size d
  term_kept (Next q) f x c = rw x.1 (done_next items size s found p d e q f x c)
  term_kept (Stopped c) f x y = rw x.0 (done_stop items size s found p d e c f x y)

-- ---- what it says to a caller

module _ (s : List ℕ) (p : Place) (d : Area) (nodes : Term → ℕ) where
  -- nothing before the place changed, whatever was found
  pub before_kept : (found : Result Term) → before p.top (kept s p found nodes d) ≡ before p.top d
  before_kept (got t n) = go (leb (p.nodes + nodes t) p.limit)
    where
      go : (on : Bool) → before p.top (pick on (puts d p.top (items t)) (blank d p.top (length (items t)))) ≡ before p.top d
      go true = before_puts (items t) d p.top p.top (omega arith)
      go false = before_puts (zeros (length (items t))) d p.top p.top (omega arith)
  before_kept (refused c) = before_puts (zeros (length s - p.at + 1)) d p.top p.top (omega arith)

  -- within the limit, and where the areas are long enough, they hold what was found
  pub held_kept : (t : Term) (n : ℕ) → p.nodes + nodes t ≤ p.limit → p.top + length (items t) ≤ length d.kinds → p.top + length (items t) ≤ length d.vals
      → Held (kept s p (got t n) nodes d).kinds (kept s p (got t n) nodes d).vals p.top t
  held_kept t n l h k =
      rw (le-leb (p.nodes + nodes t) p.limit l)
      (record { tokens = stored_at (items t) d p.top h k; within = omega (arith, length_kinds (items t) d p.top) })

  -- a refusal leaves the areas as they were where they held nothing from the place on
  pub nothing_kept : (c : ℕ) → blank d p.top (length s - p.at + 1) ≡ d → kept s p (refused c) nodes d ≡ d
  nothing_kept c h = h

-- A formed term of n nodes has fewer than 6 n tokens; where an id takes two, fewer than 8 n: 2,048 nodes fit an area of 16,384 words either way.
pub tokens_fit : (t : Term) → Formed t → length (items t) + 2 ≤ 6 * size t
tokens_fit t f = omega (arith, weight_one t, tokens_bound 1 one t f)

pub wide_tokens_fit : (t : Term) → Formed t → weight 2 t + 3 ≤ 8 * size t
wide_tokens_fit t f = tokens_bound 2 two t f

pub limit_fits : (t : Term) → Formed t → size t ≤ 2048 → (length (items t) ≤ 12286) × (weight 2 t ≤ 16381)
limit_fits t f h = (omega (arith, tokens_fit t f), omega (arith, wide_tokens_fit t f))
