-- The end of a term's chain of variables, as a value of the code: a place, or a default.
use Rattle.std.specs.Prelude.{Bool, false, Some, None, List, ℕ, ◌+◌, ◌<◌, ◌≡◌, eqb}
use Rattle.std.specs.declared.option.Option as rust
use Rattle.terms.specs.Result.{pick}
use Rattle.terms.specs.Term.{Term, Parts, var, node, end, num, sub, Held}
use Rattle.solver.specs.declared.ChainEnd.{ChainEnd}
use Rattle.solver.specs.declared.ChainEnd.TheVariants.{At, Default}
use Rattle.solver.specs.Words.Bindings.{defaults, builtin}

-- the term that an end is: the one at a place, or a builtin
abbrev pub HeldEnd : List ℕ → List ℕ → Term → ChainEnd → Type 0
HeldEnd ks vs t (At p) = Held ks vs p t
HeldEnd ks vs t (Default b) = (b.code < 32) × (t ≡ builtin b.code)

-- a place is one of the first n
abbrev pub Inside : ℕ → ChainEnd → Type 0
Inside n (At p) = p < n
Inside n (Default b) = b.code < 32

-- the word of a binding to an end
abbrev pub chain_word : ChainEnd → ℕ
chain_word (At p) = p + 1
chain_word (Default b) = defaults + b.code

-- the variable that a term is
abbrev pub variable_in : Term → rust.Option ℕ
variable_in (var v) = Some v
variable_in (node k ps) = None

-- the code of the builtin that a term is
unfoldable pub code_row : Parts → rust.Option ℕ
code_row end = None
code_row (num c end) = Some c
code_row (num c (num d ps)) = None
code_row (num c (sub t ps)) = None
code_row (sub t ps) = None

unfoldable pub code_in : Term → rust.Option ℕ
code_in (var v) = None
code_in (node k ps) = pick (eqb k 4) (code_row ps) None

-- whether a term is the builtin with a code
unfoldable pub is_code : ℕ → rust.Option ℕ → Bool
is_code c (Some d) = eqb d c
is_code c None = false

abbrev pub is_builtin : ℕ → Term → Bool
is_builtin c t = is_code c (code_in t)
