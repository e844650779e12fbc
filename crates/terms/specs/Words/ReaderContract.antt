-- What the term reader is asked, and what it leaves: the reading of a term or of a bare nominal.
use Rattle.std.specs.Prelude.{◌≡◌, Bool, true, false, ℕ, ◌+◌, ◌-◌, ◌^◌, ◌<◌, List, length}
use Rattle.terms.specs.declared.PartKind.{PartKind}
use Rattle.terms.specs.declared.PartKind.TheVariants as kinds
use Rattle.terms.specs.declared.Place.{Place}
use Rattle.terms.specs.Parser.{Result}
use Rattle.terms.specs.Words.Tokens.{Area}
use Rattle.terms.specs.Term.{Term, size}
use Rattle.terms.specs.Reading.{term, bare}
use Rattle.terms.specs.Words.ReadContract.{Step, Room, RoomAfter, answer, kept, contents}

-- what is found of the kind
abbrev pub part : PartKind → (s : List ℕ) (issued levels at : ℕ) → Result Term
part kinds.Term s issued levels at = term s issued levels at
part kinds.BareNominal s issued levels at = bare s issued levels at

-- how its nodes are counted
abbrev pub nodes_of : PartKind → Term → ℕ
nodes_of kinds.Term = size
nodes_of kinds.BareNominal = contents

-- a bare nominal has a token more than bytes
abbrev pub Space : PartKind → List ℕ → Place → Type 0
Space kind s p = kind ≡ kinds.BareNominal → p.top + 1 + (length s - p.at) < 2 ^ 32

-- ---- the same as one request

-- a term, or where `bare` a bare nominal, with the levels left and the number that its variables are below
pub record ReadRequest : Type 0 where
  pub bare : Bool
  pub levels : ℕ
  pub issued : ℕ

-- the kind that is wanted by the flag, and the flag of a kind
abbrev pub wanted_by : Bool → PartKind
wanted_by true = kinds.BareNominal
wanted_by false = kinds.Term

abbrev pub is_bare : PartKind → Bool
is_bare kinds.BareNominal = true
is_bare kinds.Term = false

-- what the definition finds at the place
abbrev pub found_at : List ℕ → Place → ReadRequest → Result Term
found_at s p w = part (wanted_by w.bare) s w.issued w.levels p.at

-- what is asked of the bytes and the place
pub record Readable (s : List ℕ) (p : Place) (w : ReadRequest) : Type 0 where
  pub room : Room s p
  pub space : Space (wanted_by w.bare) s p

-- What was read, from the areas `d` to the areas `e`.
pub record RequestDone (s : List ℕ) (p : Place) (w : ReadRequest) (d e : Area) (r : Step) : Type 0 where
  pub answer : r ≡ answer p (found_at s p w) (nodes_of (wanted_by w.bare))
  pub areas : e ≡ kept s p (found_at s p w) (nodes_of (wanted_by w.bare)) d
  pub room : RoomAfter s r
