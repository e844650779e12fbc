-- Demand 3 over lists of orders, each given as its bytes: the premises, and the two sentences (record Demand3 of crate solver), of what the list tells
-- the session. Quoted is document 01, "What demand 3 means", and the demand itself.
use Rattle.std.specs.Prelude.{◌≡◌, Bool, false, List, [], ◌∷◌, ℕ, ◌<◌}
use Rattle.solver.specs.Terms.Term.{Term}
use Rattle.solver.specs.Terms.Questions.{meets}
use Rattle.solver.specs.Shapes.{notion}
use Rattle.solver.specs.Constrain.{Pair, always}
use Rattle.solver.specs.Session.{Limits, fresh}
use Rattle.solver.specs.Demand3.{History, beginning, history, outside, AllAllowed, Demand3, OnlyBy}
use Rattle.sheet.specs.Commands.{commands}

-- ---- bytes

-- every one is a byte
unfoldable pub ByteString : List ℕ → Type 0
ByteString [] = Unit {0}
ByteString (b ∷ bs) = (b < 256) × ByteString bs

unfoldable pub ByteStrings : List (List ℕ) → Type 0
ByteStrings [] = Unit {0}
ByteStrings (b ∷ bs) = ByteString b × ByteStrings bs

-- ---- what a list of orders requested, posed and was answered

-- "It is one claim about the whole list of orders"; "Orders 9 to 20 leave the session as it was and may stand between"; refused orders do nothing
abbrev pub history_of : Limits → History → List (List ℕ) → History
history_of lim h bs = history lim h (commands lim h.session bs)

-- ---- the premises

-- "pairs free of Unknown, Error and projections"
abbrev pub InFragment : Term → Type 0
InFragment t = meets outside always t ≡ false

abbrev pub PairsInFragment : List Pair → Type 0
PairsInFragment [] = Unit {0}
PairsInFragment (p ∷ ps) = InFragment p.0 × InFragment p.1 × PairsInFragment ps

-- of a list given to a fresh session (that fallbacks are integers or F64 is not needed: any other has the integers as its family)
pub record Premises (lim : Limits) (bs : List (List ℕ)) : Type 0 where
  -- "each number place requested once and not issued earlier", "no default that bound a variable"
  pub allowed : AllAllowed lim fresh (commands lim fresh bs)
  pub pairs : PairsInFragment (history_of lim beginning bs).posed
  -- "no cancelled pair"
  pub none_cancelled : (history_of lim beginning bs).cancelled ≡ false

-- ---- the two sentences

-- Of a list given to a fresh session (the sentences are the fields of crate solver's record):
--   first   "Some pair was answered incompatible exactly if no assignment of variable-free terms of any size, true to the number families requested, makes
--           every posed pair equal up to Set and Map access."
--   second  "If none was, the assignments that do so are exactly those true to the families that agree, up to that access, with what each variable resolves to,"
--   left    "and every variable left in those terms resolves to itself."
-- With `strict` the pairs are those of order 22, and both sentences "mean equality with access included, in agreeing too" (document 02).
abbrev pub Demand3OfBytes : Limits → Bool → List (List ℕ) → Type 0
Demand3OfBytes lim strict bs = Demand3 (notion strict) (history_of lim beginning bs)

-- the list "poses only strict pairs", or only by order 4; refused orders aside
abbrev pub OnlyPosedBy : Limits → Bool → List (List ℕ) → Type 0
OnlyPosedBy lim strict bs = OnlyBy strict (history_of lim beginning bs).by
