-- Number variables on the terms: families and requests are those of crate unify; which terms belong to a family, and the builtin that a default takes.
use Rattle.std.specs.Prelude.{Bool, false, ◌&&◌, eqb}
use Rattle.std.proofs.Math.Option.{Option}
use Rattle.terms.specs.Term.{Term, Parts, var, node, end, num, sub}
pub use Rattle.unify.specs.Ranged.{Numeric, I8, I16, I32, I64, U8, U16, U32, U64, F32, F64, Family, Bound, Request}
unfoldable pub use Rattle.unify.specs.Ranged.{code, among, family_of, sieve, gathered, below, lowest, highest, joined_as, request_of, meet}
unfoldable pub use Rattle.unify.specs.Ranged.{first_of, chosen, ranged_at, family_at, taken}
pub use Rattle.unify.specs.Ranged.{numerics, admits, integers, floats, at_most, holds, requested, preference}

-- the term is a builtin of the family
unfoldable pub belongs_row : Family → Parts → Bool
belongs_row f end = false
belongs_row f (num c end) = admits f c
belongs_row f (num c (num d ps)) = false
belongs_row f (num c (sub t ps)) = false
belongs_row f (sub t ps) = false

unfoldable pub belongs : Family → Term → Bool
belongs f (var v) = false
belongs f (node k ps) = eqb k 4 && belongs_row f ps

-- the builtin that a numeric default takes: r is requested of the variable whose turn it is, o of the variable at the end of its chain
abbrev pub default_of : Request → Option Request → Term
default_of r o = node 4 (num (taken r o) end)
