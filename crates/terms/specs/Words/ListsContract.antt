-- What the term reader does in a list of an order: it goes on from record to record, and the list is kept as its row, or nothing of it.
use Rattle.std.specs.Prelude.{◌≡◌, Bool, true, false, List, ℕ}
use Rattle.terms.specs.declared.Listing.{Listing}
use Rattle.terms.specs.declared.Listing.TheVariants.{Arguments, Receivers, Entries}
use Rattle.terms.specs.declared.Place.{Place}
use Rattle.terms.specs.declared.RecordRequest.{RecordRequest}
use Rattle.terms.specs.Parser.{Result}
use Rattle.terms.specs.Words.Tokens.{Area}
use Rattle.terms.specs.Term.{Parts}
use Rattle.terms.specs.Reading.{term}
use Rattle.terms.specs.Words.ReadContract.{Step}
use Rattle.terms.specs.Rows.{keys, single, records, entries, receivers, arguments, entry_row, receiver_row, argument_row, answer_of, kept_of}

-- whether an owner and a position come before the terms of a list
abbrev pub owned : Listing → Bool
owned Arguments = false
owned Receivers = true
owned Entries = true

abbrev pub placed : Listing → Bool
placed Arguments = false
placed Receivers = false
placed Entries = true

-- what the definition finds at a position: one record, and n of them
abbrev pub one_at : List ℕ → RecordRequest → ℕ → Result Parts
one_at s w at = single s (term s w.issued w.levels) (keys (owned w.listing) (placed w.listing)) at

abbrev pub list_at : List ℕ → RecordRequest → (n at : ℕ) → Result Parts
list_at s w n at = records s (term s w.issued w.levels) (keys (owned w.listing) (placed w.listing)) n at

-- a list, whose row is kept: the areas are d before and e after
pub record RowKept {A : Type 0} (row : A → Parts) (found : Result A) (s : List ℕ) (p : Place) (d e : Area) (r : Step) : Type 0 where
  pub says : r ≡ answer_of row p found
  pub areas : e ≡ kept_of row s p found d

-- so many arguments, receivers or entries
abbrev pub ListKept : Listing → (s : List ℕ) (issued levels count : ℕ) (p : Place) (d e : Area) → Step → Type 0
ListKept Arguments s issued levels count p d e r = RowKept argument_row (arguments s (term s issued levels) count p.at) s p d e r
ListKept Receivers s issued levels count p d e r = RowKept receiver_row (receivers s (term s issued levels) count p.at) s p d e r
ListKept Entries s issued levels count p d e r = RowKept entry_row (entries s (term s issued levels) count p.at) s p d e r
