-- What is kept stays: what a caller has after reading lists and terms one after another.
use mathlib.Core.Path.{◌≡◌, refl, sym, ap, ◌∙◌}
use mathlib.Core.Bool.{Bool, true, false}
use mathlib.Core.List.{List}
use Prim.Native.Nat.{ℕ, zero, suc, ◌+◌, ◌-◌, ◌≤◌, ◌<◌}
use native.Mathlib.Omega.{arith}
use borrow.Author.Tests.{le-leb}
use lib.Dec.{leb}
use lib.ListN.{length, get_or}
use lib.Seq.{get_or-take}
use Rattle.terms.specs.declared.Place.{Place}
use Rattle.terms.specs.Parser.{Result, got, refused, pick}
use Rattle.terms.specs.Words.Tokens.{Area, puts, zeros, blank, before, spell, toks}
use Rattle.terms.specs.Term.{Term, Parts, items, part_items, sizes}
use Rattle.terms.specs.Words.Held.{Held, HeldParts}
use Rattle.terms.specs.Rows.{kept_of}
use Rattle.terms.proofs.Laws.Format.StoreLaws.{length_kinds, before_puts}
use Rattle.terms.proofs.Laws.Format.KeepTermLaws.{stored_at}

-- ---- a list that is kept

module _ {A : Type 0} (row : A → Parts) (s : List ℕ) (p : Place) (d : Area) where
  -- nothing before the place changed, whatever was found
  pub list_before : (found : Result A) → before p.top (kept_of row s p found d) ≡ before p.top d
  list_before (got a n) = go (leb (p.nodes + sizes (row a)) p.limit)
    where
      go : (on : Bool) → before p.top (pick on (puts d p.top (part_items (row a))) (blank d p.top (length (part_items (row a))))) ≡ before p.top d
      go true = before_puts (part_items (row a)) d p.top p.top (omega arith)
      go false = before_puts (zeros (length (part_items (row a)))) d p.top p.top (omega arith)
  list_before (refused c) = before_puts (zeros (length s - p.at + 1)) d p.top p.top (omega arith)

  -- within the limit, and where the areas are long enough, they hold its row
  pub list_held : (a : A) (n : ℕ) → p.nodes + sizes (row a) ≤ p.limit → p.top + length (part_items (row a)) ≤ length d.kinds → p.top + length (part_items (row a)) ≤ length d.vals
      → HeldParts (kept_of row s p (got a n) d).kinds (kept_of row s p (got a n) d).vals p.top (p.top + length (part_items (row a))) (row a)
  list_held a n l h k =
      rw (le-leb (p.nodes + sizes (row a)) p.limit l)
      (record { tokens = stored_at (part_items (row a)) d p.top h k; ends = refl; within = omega (arith, length_kinds (part_items (row a)) d p.top) })

-- ---- what stands before a place stays where nothing before the place changes

module _ (n : ℕ) (d e : Area) (same : before n d ≡ before n e) where
  kind_still : (i : ℕ) → i < n → get_or d.kinds i 0 ≡ get_or e.kinds i 0
  kind_still i h = sym (get_or-take n d.kinds i 0 h) ∙ ap (λ (x : Area). get_or x.kinds i 0) same ∙ get_or-take n e.kinds i 0 h

  val_still : (i : ℕ) → i < n → get_or d.vals i 0 ≡ get_or e.vals i 0
  val_still i h = sym (get_or-take n d.vals i 0 h) ∙ ap (λ (x : Area). get_or x.vals i 0) same ∙ get_or-take n e.vals i 0 h

  toks_still : (a c : ℕ) → a + c ≤ n → toks d.kinds d.vals a c ≡ toks e.kinds e.vals a c
  unfolding spell
  toks_still a zero h = refl
  toks_still a (suc c) h = rw (kind_still a (omega arith), val_still a (omega arith), toks_still (suc a) c (omega arith))

  pub held_still : (a : ℕ) (t : Term) → length d.kinds ≤ length e.kinds → a + length (items t) ≤ n → Held d.kinds d.vals a t → Held e.kinds e.vals a t
  held_still a t l h x = record { tokens = sym (toks_still a (length (items t)) h) ∙ x.tokens; within = omega (arith, x.within) }

  pub row_still : (a b : ℕ) (ps : Parts) → length d.kinds ≤ length e.kinds → b ≤ n → HeldParts d.kinds d.vals a b ps → HeldParts e.kinds e.vals a b ps
  row_still a b ps l h x = record { tokens = sym (toks_still a (length (part_items ps)) (omega (arith, x.ends))) ∙ x.tokens; ends = x.ends; within = omega (arith, x.within) }
