-- Some worked lines, on the definition.
use mathlib.Core.Path.{◌≡◌, refl}
use mathlib.Core.List.{[], ◌∷◌}
use Rattle.terms.specs.Number.{groups}
use Rattle.terms.specs.Parser.{got, refused}
use Rattle.terms.specs.Words.Tokens.{item}
use Rattle.terms.specs.Term.{Term, var, node, end, num, sub, items, size}
use Rattle.terms.specs.Shape.{kind_of}
use Rattle.terms.specs.Reading.{code, rising, variable, many, pairs, row, kinded, term, bare}

-- Array(Tuple(?1, I32)) of the bar's session
abbrev pair : Term
pair = node 9 (sub (node 5 (num 2 (sub (var 1) (sub (node 4 (num 2 end)) end)))) end)

-- It; the same where ?1 is not issued; a count that the bytes do not hold; members that do not rise; too deep; a bare nominal; a tag not listed
marked : (term (0x09 ∷ 0x05 ∷ 0x02 ∷ 0x01 ∷ 0x01 ∷ 0x04 ∷ 0x02 ∷ []) 2 200 0 ≡ got pair 7)
    × (term (0x09 ∷ 0x05 ∷ 0x02 ∷ 0x01 ∷ 0x01 ∷ 0x04 ∷ 0x02 ∷ []) 1 200 0 ≡ refused 6)
    × (term (0x05 ∷ 0xff ∷ 0xff ∷ 0xff ∷ 0xff ∷ 0x0f ∷ 0x02 ∷ []) 0 200 0 ≡ refused 1)
    × (term (0x0d ∷ 0x07 ∷ 0x01 ∷ 0x02 ∷ 0x02 ∷ 0x03 ∷ 0x03 ∷ 0x03 ∷ 0x04 ∷ 0x00 ∷ []) 0 200 0 ≡ refused 5)
    × (term (0x09 ∷ 0x09 ∷ 0x02 ∷ []) 0 2 0 ≡ refused 4)
    × (bare (0x07 ∷ 0x01 ∷ 0x02 ∷ 0x00 ∷ []) 0 200 0 ≡ got (node 20 (num 7 (num 1 (sub (node 2 end) (num 0 end))))) 4)
    × (term (0x14 ∷ []) 0 200 0 ≡ refused 2)
unfolding groups kind_of code rising variable many pairs row kinded term bare
marked = (refl, refl, refl, refl, refl, refl, refl)

-- its tokens: a head's value is its span
tokens : (items pair ≡ item 11 6 ∷ item 7 5 ∷ item 0 2 ∷ item 1 1 ∷ item 6 2 ∷ item 0 2 ∷ []) × (size pair ≡ 4)
unfolding items size
tokens = (refl, refl)
