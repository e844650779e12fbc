-- What the solver's methods say of the counters, the table and their answers.
use Rattle.std.specs.Prelude.{Some, None, Bool, true, false, ◌&&◌, ◌||◌, List, ◌≡◌, ℕ, zero, suc, ◌+◌, ◌-◌, ◌*◌, ◌/◌, ◌%◌, ◌^◌, ◌≤◌, ◌<◌, eqb, ltb, length, get_or, set, drop}
use Rattle.std.proofs.Math.Option.{Option, none, some}
use Rattle.std.specs.Int.Bits.{bit_and, bit_or}
use Rattle.terms.specs.Result.{pick}
use Rattle.terms.specs.Term.{Term, var, node}
use Rattle.solver.specs.declared.Solver.{Solver}
use Rattle.solver.specs.declared.Defaulted.{Defaulted}
use Rattle.solver.specs.declared.Defaulted.TheVariants.{Requested, Deferred}
use Rattle.solver.specs.declared.Bound.{Bound}
use Rattle.solver.specs.declared.NumberRequest.{NumberRequest}
use Rattle.std.specs.declared.num.NonZeroU32.{NonZeroU32}
use Rattle.std.specs.Int.NonZero.{non_zero_u32_get}
use Rattle.solver.specs.Families as families
use Rattle.std.specs.declared.option.Option as rust
use Rattle.solver.specs.Constrain as solving
use Rattle.unify.specs.Solver.{put}
use Rattle.solver.specs.Families.{Numeric, I8, I16, I32, I64, U8, U16, U32, U64}
use Rattle.solver.specs.Constrain.{resolved, Requests}
use Rattle.solver.specs.Session.{Limits, VariablePlace, Session, issued, find, issue_at, numeric_at, never_at, numeric_defaults_of, never_defaults_of}
use Rattle.solver.specs.Orders.{Command, numbers, nevers, Reply, term, refused, Step, full}
use Rattle.solver.specs.Words.SessionRepresentation.{request_in, flag, Represents}
use Rattle.solver.specs.Words.TableLayout.{deferrals_from, lasting_words}

-- ---- the words

-- the counters are within the limits, and the table has its columns
pub record Shaped (x : Solver) (size : ℕ) : Type 0 where
  pub issued : x.issued ≤ x.variables
  pub room : lasting_words x.variables ≤ size
  pub narrow : x.variables < 65536

-- what a method leaves: the limits and the count of tokens, and the words after the columns
pub record Beside (x y : Solver) (ts us : List ℕ) : Type 0 where
  pub variables : y.variables ≡ x.variables
  pub nodes : y.nodes ≡ x.nodes
  pub top : y.top ≡ x.top
  pub size : length us ≡ length ts
  pub rest : drop (lasting_words x.variables) us ≡ drop (lasting_words x.variables) ts

-- whether a variable's words are those asked for; a hole has no slot
unfoldable pub matches : ℕ → ℕ → ℕ → ℕ → ℕ → ℕ → Bool
matches kind site slot k s i = eqb kind k && (eqb site s && (eqb kind 2 || eqb slot i))

-- the last variable below n whose words are those asked for, or d
unfoldable pub last_match : ℕ → ℕ → ℕ → List ℕ → List ℕ → List ℕ → ℕ → ℕ → ℕ
last_match kind site slot ks ss is d zero = d
last_match kind site slot ks ss is d (suc n) = pick (matches kind site slot (get_or ks n 0) (get_or ss n 0) (get_or is n 0)) n (last_match kind site slot ks ss is d n)

-- ---- places

abbrev pub found : ℕ → Option ℕ → ℕ
found d none = d
found d (some v) = v

-- the session after a place was asked for, and its variable, none where no more may be issued
pub record Placing : Type 0 where
  pub session : Session
  pub variable : Option ℕ

unfoldable pub placing : Session → VariablePlace → Option ℕ → Bool → Placing
placing s p (some v) f = record { session = s; variable = some v }
placing s p none true = record { session = s; variable = none }
placing s p none false = record { session = issue_at s p; variable = some (issued s) }

abbrev pub placed : Limits → Session → VariablePlace → Placing
placed lim s p = placing s p (find p s.places) (full lim s)

abbrev pub named_of : Option ℕ → rust.Option ℕ
named_of none = None
named_of (some v) = Some v

-- where the variable of an answer stands
abbrev pub Located : VariablePlace → Session → rust.Option ℕ → Type 0
Located p s (Some v) = (find p s.places ≡ some v) × (v < issued s)
Located p s None = find p s.places ≡ none

-- a place asked for: the session is held after it, and the answer is its variable
pub record Issued (x : Solver) (ks vs ts : List ℕ) (p : VariablePlace) (y : Placing) (a : rust.Option ℕ) : Type 0 where
  pub represents : Represents x ks vs ts y.session
  pub answer : a ≡ named_of y.variable
  pub located : Located p y.session a

-- ---- orders 0 to 2

-- order 0 answers the variable, orders 1, 2 and 21 what it resolves to; no variable is refusal 8
abbrev pub reply_of : rust.Option ℕ → Reply
reply_of (Some v) = term (var v)
reply_of None = refused 8

abbrev pub resolved_reply : solving.Solver → rust.Option ℕ → Reply
resolved_reply z (Some v) = term (resolved z (var v))
resolved_reply z None = refused 8

-- an order done: the session is held after it, and the answer is the order's
pub record Replied (x : Solver) (ks vs ts : List ℕ) (p : VariablePlace) (y : Step) (says : rust.Option ℕ → Reply) (a : rust.Option ℕ) : Type 0 where
  pub represents : Represents x ks vs ts y.session
  pub reply : y.reply ≡ says a
  pub located : Located p y.session a

-- ---- bindings

-- whether there is one
abbrev pub is_some : {A : Type 0} → Option A → Bool
is_some none = false
is_some (some x) = true

-- the solver after v was bound to t
abbrev pub bound_to : solving.Solver → ℕ → Term → Requests → solving.Solver
bound_to z v t rs = record { bindings = put z.bindings v (some t); requests = rs; revision = suc z.revision }

-- the word of a column: 0 where there is none
abbrev pub word_of : rust.Option NonZeroU32 → ℕ
word_of None = 0
word_of (Some w) = non_zero_u32_get w

-- the types that the word of a request admits, as a mask
unfoldable pub mask_in : ℕ → ℕ
mask_in word = pick (ltb 32 word) ((word - 33) / 32 % 256) (pick (eqb word 10) 768 255)

-- A variable of the first word is bound to one of the second, which then has this word. The words of plain requests, and 0, are below 64: where both are,
-- the first goes on. Else the types of both, with the first's fallback.
unfoldable pub joined_word : ℕ → ℕ → ℕ
joined_word word other = pick (ltb (bit_or word other) 64) word (33 + (word - 1) % 32 + 32 * bit_and (mask_in word) (mask_in other))

-- the solver with these requests
abbrev pub requesting : solving.Solver → Requests → solving.Solver
requesting z rs = record { bindings = z.bindings; requests = rs; revision = z.revision }

-- ---- ranges

-- what is requested
abbrev pub request_held : rust.Option NumberRequest → Option families.Request
request_held None = none
request_held (Some r) = some (request_in r.word)

-- a bound as the definition has it
abbrev pub bound_of : Bound → families.Bound
bound_of b = record { minus = b.minus; size = b.size }

-- the mask of the integer types that pass a test
abbrev pub mask_of : (Numeric → Bool) → ℕ
mask_of p =
    flag (p I8) + 2 * flag (p I16) + 4 * flag (p I32) + 8 * flag (p I64)
    + 16 * flag (p U8) + 32 * flag (p U16) + 64 * flag (p U32) + 128 * flag (p U64)

-- ---- defaults

-- of a variable's deferral, the word of a request with fallback Never
unfoldable pub never_word : ℕ → ℕ
never_word zero = 0
never_word (suc n) = 11

-- the word that the default of the variable v goes by: of its deferral, or its request's
unfoldable pub default_word : Defaulted → ℕ → List ℕ → ℕ → ℕ
default_word Deferred m ts v = never_word (get_or ts (deferrals_from m + v) 0)
default_word Requested m ts v = get_or ts (m + v) 0

-- and the word at the end of its chain: for Never it does not count
unfoldable pub end_word : Defaulted → ℕ → List ℕ → ℕ → ℕ
end_word Deferred m ts w = 0
end_word Requested m ts w = get_or ts (m + w) 0

-- the default of the variable v
unfoldable pub default_at : Defaulted → Session → ℕ → solving.Solver
default_at Deferred s v = never_at s.solver v (s.deferred v)
default_at Requested s v = numeric_at s.solver v (s.solver.requests v)

-- the solver of a session after these defaults of the variables before n
unfoldable pub defaulted : Defaulted → ℕ → Session → solving.Solver
defaulted Deferred n s = never_defaults_of s.deferred n 0 s.solver
defaulted Requested n s = numeric_defaults_of n 0 s.solver

-- orders 6 and 7, by whose defaults are taken
abbrev pub defaults_by : Defaulted → Command
defaults_by Requested = numbers
defaults_by Deferred = nevers
