-- The rules, scanned for a member.
use Rattle.std.specs.Prelude.{Bool, List, ℕ, eqb, Option}
use Rattle.std.specs.List.{position}
use Rattle.terms.specs.declared.Rule.{Rule}

-- whether a rule has the member
abbrev pub has_member : Rule → ℕ → Bool
has_member w m = eqb w.member m

-- the index of the first that has the member, where one has
abbrev pub first_with : List Rule → ℕ → Option ℕ
first_with ws m = position (λ w. has_member w m) ws
