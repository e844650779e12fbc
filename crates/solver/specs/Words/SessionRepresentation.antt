-- A session as the counters, the two token areas and a table hold it. The table has columns of m words (`TableLayout`), m being the limit of variables, a
-- word of each for every variable:
--   0 binding    0 for none, p + 1 for the term at p, 2147483648 + c for the builtin with the code c
--   1 request    0 for none, c + 1 for the plain request with the fallback code c; where a range took part 33 + c + 32 * m, with bit n of m for each
--                type admitted whose code is n
--   2 place      0 for a variable that is not issued, 1 for a site and slot, 2 for a hole
--   3 site       0 for a variable that is not issued
--   4 slot       0 for a hole, and for a variable that is not issued
--   5 deferral   0 or 1
--   6 end        0 for a free variable, else the word of the end of its chain, in the form of a binding
--   7 tail       0 for a variable that is not issued, and where the chain ends at a node; w + 1 + 65536 * m where it ends at the variable w, whose family is
--                the mask m; and 67108864 more where the variable's own tail names it and another chain ends there
--   8, 9, and what follows the columns up to the pending pairs: not used yet, 0
-- So every word of these is fixed. The rest of the table is scratch.
use Rattle.std.specs.Prelude.{Bool, true, false, List, [], ◌∷◌, ◌≡◌, ℕ, ◌+◌, ◌-◌, ◌*◌, ◌/◌, ◌%◌, ◌^◌, ◌≤◌, ◌<◌, eqb, ltb, length, get_or, take, drop}
use Rattle.std.proofs.Math.Option.{Option, none, some}
use Rattle.terms.specs.Result.{pick}
use Rattle.solver.specs.declared.Solver.{Solver}
use Rattle.solver.specs.declared.Verdict.{Verdict}
use Rattle.solver.specs.declared.Verdict.TheVariants.{Incompatible, Compatible, Cancelled}
use Rattle.solver.specs.Families.{Numeric, I8, I16, I32, I64, U8, U16, U32, U64, F32, F64, code, Family, integers, sieve, Request, requested}
use Rattle.solver.specs.Session.{Limits, VariablePlace, at, gap, Session, issued}
use Rattle.solver.specs.Invariant.{WithinLimits}
use Rattle.solver.specs.Words.Bindings.{defaults, HeldBindings}
use Rattle.solver.specs.Words.TableLayout.{requests_from, places_from, sites_from, slots_from, deferrals_from, ends_from, tails_from, unused_from, unused_count, lasting_words}
use Rattle.solver.specs.Words.Worklist.{Zero}
unfoldable pub use Rattle.solver.specs.Words.Masks.{bit}
use Rattle.solver.specs.Words.ChainRecord.{chain_ends, HeldTails}

-- "0 incompatible, 1 compatible, 2 cancelled"
abbrev pub verdict_number : Verdict → ℕ
verdict_number Incompatible = 0
verdict_number Compatible = 1
verdict_number Cancelled = 2

abbrev pub limits_of : Solver → Limits
limits_of x = record { variables = x.variables; nodes = x.nodes }

-- ---- the columns

abbrev pub binding_words : ℕ → List ℕ → List ℕ
binding_words m ts = take m ts

abbrev pub request_words : ℕ → List ℕ → List ℕ
request_words m ts = take m (drop (requests_from m) ts)

abbrev pub place_words : ℕ → List ℕ → List ℕ
place_words m ts = take m (drop (places_from m) ts)

abbrev pub site_words : ℕ → List ℕ → List ℕ
site_words m ts = take m (drop (sites_from m) ts)

abbrev pub slot_words : ℕ → List ℕ → List ℕ
slot_words m ts = take m (drop (slots_from m) ts)

abbrev pub deferral_words : ℕ → List ℕ → List ℕ
deferral_words m ts = take m (drop (deferrals_from m) ts)

abbrev pub end_words : ℕ → List ℕ → List ℕ
end_words m ts = take m (drop (ends_from m) ts)

abbrev pub tail_words : ℕ → List ℕ → List ℕ
tail_words m ts = take m (drop (tails_from m) ts)

abbrev pub unused_words : ℕ → List ℕ → List ℕ
unused_words m ts = take (unused_count m) (drop (unused_from m) ts)

-- ---- what the words of a variable say

-- every type, by rising code
abbrev pub every_numeric : List Numeric
every_numeric = I8 ∷ I16 ∷ I32 ∷ I64 ∷ U8 ∷ U16 ∷ U32 ∷ U64 ∷ F32 ∷ F64 ∷ []

-- the types of a mask
abbrev pub types_in : ℕ → List Numeric
types_in m = sieve (λ x. bit m (code x)) every_numeric

-- a mask that has none does not stand in the table
unfoldable pub family_in : List Numeric → Family
family_in [] = integers
family_in (x ∷ l) = record { one = x; more = l }

abbrev pub masked_family : ℕ → Family
masked_family m = family_in (types_in m)

-- the words that stand in the table for a request: the mask is a byte that is not 0
pub record RequestWord (word : ℕ) : Type 0 where
  pub some : 0 < word
  pub mask : 32 < word → 64 < word
  pub most : word < 33 + 32 * 256

-- what such a word requests
unfoldable pub request_in : ℕ → Request
request_in word = pick (ltb 32 word)
    (record { fallback = (word - 1) % 32; family = masked_family ((word - 33) / 32); ranged = true })
    (requested (word - 1))

abbrev pub HeldRequest : Option Request → ℕ → Type 0
HeldRequest none word = word ≡ 0
HeldRequest (some r) word = RequestWord word × (r ≡ request_in word)

abbrev pub HeldPlace : VariablePlace → ℕ → ℕ → ℕ → Type 0
HeldPlace (at s i) k site slot = (k ≡ 1) × (site ≡ s) × (slot ≡ i)
HeldPlace (gap s) k site slot = (k ≡ 2) × (site ≡ s) × (slot ≡ 0)

-- the places, the last first
abbrev pub HeldPlaces : List ℕ → List ℕ → List ℕ → List VariablePlace → Type 0
HeldPlaces ks ss is [] = Unit {0}
HeldPlaces ks ss is (p ∷ ps) = HeldPlace p (get_or ks (length ps) 0) (get_or ss (length ps) 0) (get_or is (length ps) 0) × HeldPlaces ks ss is ps

-- from the variable n on none is issued
abbrev pub Unplaced : ℕ → List ℕ → List ℕ → List ℕ → Type 0
Unplaced n ks ss is = (v : ℕ) → n ≤ v → (get_or ks v 0 ≡ 0) × (get_or ss v 0 ≡ 0) × (get_or is v 0 ≡ 0)

abbrev pub flag : Bool → ℕ
flag false = 0
flag true = 1

-- how many tokens begin a term
unfoldable pub begins : List ℕ → ℕ
begins [] = 0
begins (k ∷ ks) = pick (eqb k 0) 0 1 + begins ks

-- the counters x, the areas and the table hold the session s
pub record Represents (x : Solver) (ks vs ts : List ℕ) (s : Session) : Type 0 where
  pub issued : x.issued ≡ issued s
  pub revision : x.revision ≡ s.solver.revision
  pub kept : x.kept ≡ s.kept
  pub top : x.top ≡ length ks
  pub vals : length vs ≡ length ks
  pub short : length ks < defaults
  pub narrow : x.variables < 65536
  pub room : lasting_words x.variables ≤ length ts
  pub fits : WithinLimits (limits_of x) s
  pub bindings : HeldBindings ks vs (binding_words x.variables ts) s.solver.bindings
  pub requests : (v : ℕ) → HeldRequest (s.solver.requests v) (get_or (request_words x.variables ts) v 0)
  pub places : HeldPlaces (place_words x.variables ts) (site_words x.variables ts) (slot_words x.variables ts) s.places
  pub unplaced : Unplaced (length s.places) (place_words x.variables ts) (site_words x.variables ts) (slot_words x.variables ts)
  pub deferred : (v : ℕ) → get_or (deferral_words x.variables ts) v 0 ≡ flag (s.deferred v)
  -- "The record is true after every order": the end of each chain, in the form of a binding, and the tail, of the variables issued
  pub ends : HeldBindings ks vs (end_words x.variables ts) (chain_ends s.solver.revision s.solver.bindings)
  pub tails : HeldTails s.solver (length s.places) (tail_words x.variables ts)
  pub untailed : (v : ℕ) → length s.places ≤ v → get_or (tail_words x.variables ts) v 0 ≡ 0
  pub unused : Zero (unused_words x.variables ts)
  -- the terms in the areas are the kept ones
  pub begun : begins ks ≡ s.kept
