-- What the readers of codes and numbers answer, on plain values.
use mathlib.Core.Path.{◌≡◌, refl, sym, ◌∙◌}
use mathlib.Core.List.{List, [], ◌∷◌}
use Prim.Native.Nat.{ℕ, ◌+◌, ◌≤◌, ◌<◌}
use native.Mathlib.Omega.{arith}
use borrow.Author.Tests.{le-leb}
use lib.Dec.{leb}
use lib.ListN.{length}
use Rattle.std.specs.Prelude.{Ok}
use Rattle.terms.specs.declared.Place.{Place}
use Rattle.terms.specs.Words.ReadContract.{Next, Stopped}
use Rattle.terms.specs.Parser.{Result, got, refused, number}
use Rattle.terms.specs.Words.Tokens.{item, Area, puts, put_if}
use Rattle.terms.specs.Term.{var, items, size}
use Rattle.terms.specs.Shape.{ceiling, ordinary}
use Rattle.terms.specs.Reading.{rising, variable}
use Rattle.terms.specs.Words.ReadContract.{Within, Wrote, TermDone, ValueDone, ValueRead, Valued}
use Rattle.terms.proofs.Laws.Format.FieldLaws.{rising_any, variable_refused, variable_unissued, variable_got}
use Rattle.terms.proofs.Laws.Format.StoreLaws.{only_one}
use Rattle.terms.proofs.Laws.Format.ReadSequenceLaws.{on}

module _ {s : List ℕ} {p : Place} {d e : Area} where
  -- one token stored, after which there are n nodes more, each with a byte of its own before the value
  wrote_one : (k v next n : ℕ) → p.at + n < next → next ≤ length s → e ≡ put_if (leb (p.nodes + n) p.limit) d p.top k v
      → Wrote s p d e (item k v ∷ []) n (record { at = next; top = p.top + 1; nodes = p.nodes + n; limit = p.limit })
  unfolding puts
  wrote_one k v next n a b h = record {
    stored = λ m. h ∙ on (le-leb (p.nodes + n) p.limit m) d p.top k v;
    only = rw h (only_one (leb (p.nodes + n) p.limit) d p.top k v);
    limit = refl;
    tokens = refl;
    counts = refl;
    pace = omega arith;
    paced = omega arith;
    inside = b;
  }

  -- a value is no node
  wrote_value : (v next : ℕ) → p.at < next → next ≤ length s → e ≡ put_if (leb p.nodes p.limit) d p.top 0 v
      → Wrote s p d e (item 0 v ∷ []) 0 (record { at = next; top = p.top + 1; nodes = p.nodes; limit = p.limit })
  unfolding puts
  wrote_value v next a b h = record {
    stored = λ m. h ∙ on (le-leb p.nodes p.limit m) d p.top 0 v;
    only = rw h (only_one (leb p.nodes p.limit) d p.top 0 v);
    limit = refl;
    tokens = refl;
    counts = omega arith;
    pace = omega arith;
    paced = omega arith;
    inside = b;
  }

  pub value_yes : {most v next : ℕ} {found : Result ℕ} → got v next ≡ found → Within s p.at most (Ok (v, next)) → e ≡ put_if (leb p.nodes p.limit) d p.top 0 v
      → ValueDone most s found p d e (Valued v (record { at = next; top = p.top + 1; nodes = p.nodes; limit = p.limit }))
  value_yes {most} {v} {next} g w h = (sym g, w.0, wrote_value v next w.1 w.2 h)

  -- ---- a variable, whose tag is at the place

  pub variable_yes : {issued v next : ℕ} → got v next ≡ rising s (ceiling ordinary) 0 (p.at + 1) → v < issued → p.at + 1 < next → next ≤ length s
      → e ≡ put_if (leb (p.nodes + 1) p.limit) d p.top 1 v
      → TermDone s (variable s issued (p.at + 1)) p d e (Next (record { at = next; top = p.top + 1; nodes = p.nodes + 1; limit = p.limit }))
  unfolding items size
  variable_yes {issued} {v} {next} g k a b h = (var v, sym (variable_got s issued (p.at + 1) v next g k), wrote_one 1 v next 1 a b h)

-- ---- what is not read

module _ (s : List ℕ) (p : Place) (d e : Area) where
  -- with nothing to rise above, a value is a number
  pub value_plain : (most m : ℕ) (r : ValueRead) → ValueDone most s (rising s m 0 p.at) p d e r → ValueDone most s (number s m p.at) p d e r
  value_plain most m r x = rw (← rising_any s m p.at) x

module _ (s : List ℕ) (p : Place) (d : Area) where
  pub variable_high : {issued v next : ℕ} → got v next ≡ rising s (ceiling ordinary) 0 (p.at + 1) → issued ≤ v → TermDone s (variable s issued (p.at + 1)) p d d (Stopped 6)
  variable_high {issued} {v} {next} g k = (sym (variable_unissued s issued (p.at + 1) v next g k), refl)

  pub variable_no : (issued : ℕ) {c : ℕ} → refused c ≡ rising s (ceiling ordinary) 0 (p.at + 1) → TermDone s (variable s issued (p.at + 1)) p d d (Stopped c)
  variable_no issued {c} g = (sym (variable_refused s issued (p.at + 1) c g), refl)
