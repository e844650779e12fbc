-- The term reader goes from record to record: what holds where it stands after the i-th of n records.
use Rattle.std.proofs.Common.{◌≡◌, ℕ, ◌-◌, List}
use Rattle.terms.specs.declared.Listing.{Listing}
use Rattle.terms.specs.declared.Listing.TheVariants.{Arguments, Receivers, Entries}
use Rattle.terms.specs.declared.Place.{Place}
use Rattle.terms.specs.declared.RecordRequest.{RecordRequest}
use Rattle.terms.specs.Words.Tokens.{Area}
use Rattle.terms.specs.Reading.{term}
use Rattle.terms.specs.Rows.{argument_row, receiver_row, entry_row, arguments, receivers, entries, answer_of, kept_of}
use Rattle.terms.specs.Words.ReadContract.{Step}
use Rattle.terms.specs.Words.ListsContract.{list_at, ListKept}
use Rattle.terms.proofs.Laws.Format.ReadLaws.{SoFar}
use Rattle.terms.proofs.Laws.Format.ListLaws.{list_answer, list_kept, arguments_read, receivers_read, entries_read}

-- the list of n records began at p with the areas d, and after i of them the reader stands at q with the areas e: what was read is stored, and the rest is
-- what the other records give
abbrev pub Along : (s : List ℕ) (w : RecordRequest) (n : ℕ) (p : Place) (d : Area) (i : ℕ) (q : Place) (e : Area) → Type 0
Along s w n p d i q e = SoFar s (list_at s w n p.at) (list_at s w (n - i) q.at) p d e q

-- ---- records kept, as the list that they are

pub listed_as : (s : List ℕ) (issued levels count : ℕ) (p : Place) (d e : Area) (r : Step) (listing : Listing)
    → r ≡ answer_of (λ ps. ps) p (list_at s (record { listing = listing; levels = levels; issued = issued }) count p.at)
    → e ≡ kept_of (λ ps. ps) s p (list_at s (record { listing = listing; levels = levels; issued = issued }) count p.at) d
    → ListKept listing s issued levels count p d e r
listed_as s issued levels count p d e r Arguments x y =
    let t = term s issued levels in
    let z = arguments_read s t count p.at in
    record { says = list_answer argument_row s p d (arguments s t count p.at) _ _ z x; areas = list_kept argument_row s p d (arguments s t count p.at) _ _ z y }
listed_as s issued levels count p d e r Receivers x y =
    let t = term s issued levels in
    let z = receivers_read s t count p.at in
    record { says = list_answer receiver_row s p d (receivers s t count p.at) _ _ z x; areas = list_kept receiver_row s p d (receivers s t count p.at) _ _ z y }
listed_as s issued levels count p d e r Entries x y =
    let t = term s issued levels in
    let z = entries_read s t count p.at in
    record { says = list_answer entry_row s p d (entries s t count p.at) _ _ z x; areas = list_kept entry_row s p d (entries s t count p.at) _ _ z y }
