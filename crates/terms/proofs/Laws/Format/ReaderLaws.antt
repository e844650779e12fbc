-- What is wanted, by the flag; and what `part_at` and the reader's `next_part` leave is what is wanted.
use mathlib.Core.Path.{◌≡◌, refl}
use mathlib.Core.Bool.{true, false}
use Prim.Native.Nat.{ℕ, ◌+◌, ◌-◌, ◌^◌, ◌<◌}
use mathlib.Core.List.{List}
use lib.ListN.{length}
use Rattle.std.specs.Prelude.{⊤, Ok, Err}
use Rattle.std.specs.declared.result.Result as rust
use Rattle.terms.specs.declared.PartKind.{PartKind}
use Rattle.terms.specs.declared.PartKind.TheVariants as kinds
use Rattle.terms.specs.declared.Place.{Place}
use Rattle.terms.specs.declared.Refusal.{Refusal}
use Rattle.terms.specs.Words.Tokens.{Area}
use Rattle.terms.specs.Term.{size}
use Rattle.terms.specs.Reading.{term, bare}
use Rattle.terms.specs.Words.ReadContract.{Step, Room, RoomAfter, answer, kept, contents}
use Rattle.terms.specs.Words.Outcomes.{step_of}
use Rattle.terms.specs.Words.ReaderContract.{ReadRequest, Readable, RequestDone, Space, part, nodes_of, is_bare}

pub nominal_space : (s : List ℕ) (p : Place) (w : ReadRequest) → w.bare ≡ true → Readable s p w → p.top + 1 + (length s - p.at) < 2 ^ 32
nominal_space s p w e h = h.space (rw e refl)

pub nominal_read : (s : List ℕ) (p : Place) (w : ReadRequest) (d e : Area) (r : Step) → w.bare ≡ true
    → r ≡ answer p (bare s w.issued w.levels p.at) contents
    → e ≡ kept s p (bare s w.issued w.levels p.at) contents d
    → RoomAfter s r → RequestDone s p w d e r
nominal_read s p w d e r b a k h = record { answer = rw b a; areas = rw b k; room = h }

pub term_read : (s : List ℕ) (p : Place) (w : ReadRequest) (d e : Area) (r : Step) → w.bare ≡ false
    → r ≡ answer p (term s w.issued w.levels p.at) size
    → e ≡ kept s p (term s w.issued w.levels p.at) size d
    → RoomAfter s r → RequestDone s p w d e r
term_read s p w d e r b a k h = record { answer = rw b a; areas = rw b k; room = h }

-- ---- of what runs

-- the request for a part of a kind
abbrev pub asking : PartKind → (levels issued : ℕ) → ReadRequest
asking kind levels issued = record { bare = is_bare kind; levels = levels; issued = issued }

-- what a request asks of the bytes and the place is what the clauses `room` and `space` ask
pub part_readable : (s : List ℕ) (p : Place) (kind : PartKind) (levels issued : ℕ) → Room s p → Space kind s p → Readable s p (asking kind levels issued)
part_readable s p kinds.Term levels issued h k = record { room = h; space = k }
part_readable s p kinds.BareNominal levels issued h k = record { room = h; space = k }

-- the clauses `answer`, `areas` and `room`, where the place is q at the end, are the request done
pub part_read : (s : List ℕ) (p q : Place) (kind : PartKind) (levels issued : ℕ) (d e : Area) (result : rust.Result ⊤ Refusal)
    → step_of result q ≡ answer p (part kind s issued levels p.at) (nodes_of kind)
    → e ≡ kept s p (part kind s issued levels p.at) (nodes_of kind) d
    → Room s q → RequestDone s p (asking kind levels issued) d e (step_of result q)
part_read s p q kind levels issued d e result a k h = go kind a k
  where
    room : (r : rust.Result ⊤ Refusal) → RoomAfter s (step_of r q)
    room (Ok u) = h
    room (Err c) = tt

    go : (kind : PartKind) → step_of result q ≡ answer p (part kind s issued levels p.at) (nodes_of kind)
        → e ≡ kept s p (part kind s issued levels p.at) (nodes_of kind) d → RequestDone s p (asking kind levels issued) d e (step_of result q)
    go kinds.Term a k = term_read s p (asking kinds.Term levels issued) d e (step_of result q) refl a k (room result)
    go kinds.BareNominal a k = nominal_read s p (asking kinds.BareNominal levels issued) d e (step_of result q) refl a k (room result)
