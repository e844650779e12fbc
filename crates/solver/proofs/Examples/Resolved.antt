-- A pair of two variables, the first bound to a builtin, by a place and by a default: the areas hold it with its binding, and what is written is computed.
use mathlib.Core.Path.{◌≡◌, refl}
use mathlib.Core.List.{List, [], ◌∷◌}
use mathlib.Core.Option.{Option, none, some}
use Prim.Native.Nat.{ℕ, zero, suc}
use native.Mathlib.Omega.{arith}
use lib.ListN.{get_or}
use Rattle.terms.specs.Number.{shortest, digits}
use Rattle.terms.specs.Words.Tokens.{spell}
use Rattle.terms.specs.Term.{Term, var, node, end, num, sub, items, bytes, Held}
use Rattle.terms.specs.Words.Held.{span}
use Rattle.terms.specs.Words.TokenBytes.{plain}
use Rattle.solver.specs.Constrain.{replace, followed, resolve}
use Rattle.solver.specs.Words.ResolveWalk.{run_len, inner, default_of, default_in, walk, over, resolved_bytes}
use Rattle.solver.specs.Words.Bindings.{HeldWord.placed, HeldWord.coded, HeldBinding, HeldBindings}

abbrev kinds : List ℕ
kinds = 8 ∷ 1 ∷ 1 ∷ 6 ∷ 0 ∷ []

abbrev vals : List ℕ
vals = 3 ∷ 0 ∷ 1 ∷ 2 ∷ 10 ∷ []

abbrev table : List ℕ
table = 4 ∷ 0 ∷ []

abbrev builtin : Term
builtin = node 4 (num 10 end)

abbrev pair : Term
pair = node 6 (sub (var 0) (sub (var 1) end))

abbrev bindings : ℕ → Option Term
bindings zero = some builtin
bindings (suc v) = none

holds_pair : Held kinds vals 0 pair
unfolding items spell
holds_pair = record { tokens = refl; within = omega arith }

holds_builtin : Held kinds vals 3 builtin
unfolding items spell
holds_builtin = record { tokens = refl; within = omega arith }

holds_bindings : HeldBindings kinds vals table bindings
holds_bindings = record { short = omega arith; words = go }
  where
    go : (v : ℕ) → HeldBinding kinds vals (bindings v) (get_or table v 0)
    go zero = placed 3 refl holds_builtin
    go (suc zero) = refl
    go (suc (suc v)) = refl

-- by a default, where the areas have no builtin
abbrev default_table : List ℕ
default_table = 2147483658 ∷ 0 ∷ []

default_bindings : HeldBindings (8 ∷ 1 ∷ 1 ∷ []) (3 ∷ 0 ∷ 1 ∷ []) default_table bindings
default_bindings = record { short = omega arith; words = go }
  where
    go : (v : ℕ) → HeldBinding (8 ∷ 1 ∷ 1 ∷ []) (3 ∷ 0 ∷ 1 ∷ []) (bindings v) (get_or default_table v 0)
    go zero = coded 10 (omega arith) refl refl
    go (suc zero) = refl
    go (suc (suc v)) = refl

default_written : resolved_bytes (8 ∷ 1 ∷ 1 ∷ []) (3 ∷ 0 ∷ 1 ∷ []) default_table 1 0 ≡ 6 ∷ 4 ∷ 10 ∷ 1 ∷ 1 ∷ []
unfolding spell span plain shortest digits run_len inner default_in default_of walk over
default_written = refl

written : resolved_bytes kinds vals table 1 0 ≡ 6 ∷ 4 ∷ 10 ∷ 1 ∷ 1 ∷ []
unfolding spell span plain shortest digits run_len inner default_in default_of walk over
written = refl

resolves : bytes (resolve 1 bindings pair) ≡ 6 ∷ 4 ∷ 10 ∷ 1 ∷ 1 ∷ []
unfolding bytes shortest digits replace followed resolve
resolves = refl
