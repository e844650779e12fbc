-- The walk over a term that the areas hold, bound variables replaced: total on any words. The table of bindings has a word for each variable: 0 where it is
-- unbound, p + 1 where it is bound to the term at p, and a default where it is bound to a builtin.
use Rattle.std.specs.Prelude.{ℕ, zero, suc, pred, ◌+◌, ◌%◌, ◌≤◌, ◌<◌, ◌≡◌, List, [], ◌∷◌, ◌++◌, leb, length, get_or}
use Rattle.std.specs.declared.option.Option as rust
use Rattle.std.specs.Prelude.{Some, None}
use Rattle.std.proofs.Math.Option.{Option, none, some}
use Rattle.solver.specs.declared.Run.{Run}
use Rattle.solver.specs.declared.Builtin.{Builtin}
use Rattle.terms.specs.Result.{pick}
use Rattle.terms.specs.Words.Tokens.{Item, item, spell, one}
use Rattle.terms.specs.Words.Held.{span}
use Rattle.terms.specs.Words.TokenBytes.{plain}
use Rattle.solver.specs.Words.Bindings.{defaults}

-- how many tokens the run has that a word of the table names: none for 0, and none where the run would go past the end
unfoldable pub run_len : List ℕ → List ℕ → ℕ → ℕ
run_len ks vs zero = 0
run_len ks vs (suc p) = pick (leb (p + span (get_or ks p 0) (get_or vs p 0)) (length ks)) (span (get_or ks p 0) (get_or vs p 0)) 0

-- of a token: how many tokens the run has that takes its place, 0 if it is not entered
unfoldable pub inner : List ℕ → List ℕ → List ℕ → ℕ → ℕ → ℕ
inner ks vs bs zero v = 0
inner ks vs bs (suc zero) v = run_len ks vs (get_or bs v 0)
inner ks vs bs (suc (suc k)) s = 0

-- the run of an answer; none is an empty one
abbrev pub run_in : rust.Option Run → Run
run_in (Some r) = r
run_in None = record { at = 0; len = 0 }

-- an answer is no run without tokens
abbrev pub Filled : rust.Option Run → Type 0
Filled o = (r : Run) → o ≡ Some r → 0 < r.len

-- at and len give the run that a word names
pub record Named (ks vs : List ℕ) (word at len : ℕ) : Type 0 where
  pub size : len ≡ run_len ks vs word
  pub place : 0 < len → at ≡ pred word
  pub within : at + len ≤ length ks

-- at and len give the run that takes the place of the token p, where at most n variables may be entered inside each other
pub record Entered (ks vs bs : List ℕ) (p n at len : ℕ) : Type 0 where
  pub shut : n ≡ 0 → len ≡ 0
  pub size : 0 < n → len ≡ inner ks vs bs (get_or ks p 0) (get_or vs p 0)
  pub place : 0 < len → at ≡ pred (get_or bs (get_or vs p 0) 0)
  pub within : at + len ≤ length ks

abbrev pub choose : {A : Type 0} → ℕ → List A → List A → List A
choose zero a b = a
choose (suc n) a b = b

-- the code of the builtin that a word is the default of
unfoldable pub default_of : ℕ → Option ℕ
default_of word = pick (leb defaults word) (some (word % 32)) none

abbrev pub code_of : rust.Option Builtin → Option ℕ
code_of (Some b) = some b.code
code_of None = none

-- the default that takes a token's place, where n variables may be entered inside each other
unfoldable pub default_in : List ℕ → ℕ → ℕ → ℕ → Option ℕ
default_in bs zero k v = none
default_in bs (suc n) zero v = none
default_in bs (suc n) (suc zero) v = default_of (get_or bs v 0)
default_in bs (suc n) (suc (suc k)) v = none

-- a token that is not entered: the two tokens of a builtin where a default takes its place, else itself
abbrev pub standing : {A : Type 0} → (ℕ → ℕ → List A) → Option ℕ → ℕ → ℕ → List A
standing leaf none k v = leaf k v
standing leaf (some c) k v = leaf 6 2 ++ leaf 0 c

-- a token with bound variables replaced, at most n of them inside each other: by leaf where it is not entered, else pre and the run
unfoldable pub walk : {A : Type 0} → (ℕ → ℕ → List A) → List A → List ℕ → List ℕ → List ℕ → ℕ → ℕ → ℕ → List A
unfolding spell inner
walk leaf pre ks vs bs zero k v = leaf k v
walk leaf pre ks vs bs (suc n) k v =
    choose (inner ks vs bs k v) (standing leaf (default_in bs (suc n) k v) k v)
    (pre ++ spell (walk leaf pre ks vs bs n) ks vs (pred (get_or bs v 0)) (inner ks vs bs k v))

-- the c tokens from a on, bound variables replaced
abbrev pub walked : List ℕ → List ℕ → List ℕ → ℕ → ℕ → ℕ → List Item
walked ks vs bs n a c = spell (walk one [] ks vs bs n) ks vs a c

-- a list of tokens, each by f of its kind and value, joined
unfoldable pub over : {A : Type 0} → (ℕ → ℕ → List A) → List Item → List A
over f [] = []
over f (item k v ∷ l) = f k v ++ over f l

-- the bytes of a list of tokens
abbrev pub flat_bytes : List Item → List ℕ
flat_bytes l = over plain l

-- the tokens of the token at p, which is not entered
abbrev pub standing_at : List ℕ → List ℕ → List ℕ → ℕ → ℕ → List Item
standing_at ks vs bs n p = standing one (default_in bs n (get_or ks p 0) (get_or vs p 0)) (get_or ks p 0) (get_or vs p 0)

-- the bytes of the term at p, bound variables replaced
abbrev pub resolved_bytes : List ℕ → List ℕ → List ℕ → ℕ → ℕ → List ℕ
resolved_bytes ks vs bs n p = flat_bytes (walked ks vs bs n p (run_len ks vs (suc p)))
