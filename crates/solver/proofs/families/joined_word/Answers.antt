-- `joined_word`. The second word is that of the column, 0 where there is none.
use mathlib.Core.Path.{◌≡◌, ◌∙◌}
use native.Mathlib.Omega.{arith}
use lib.Bits.{and_le_l}
use Rattle.std.proofs.Common.{rules}
use Rattle.solver.specs.Words.MethodContract.{word_of}
use Rattle.solver.proofs.Laws.Table.RequestWordLaws.{mask_low, joined_plain, joined_ranged}
use Rattle.solver.proofs.families.joined_word.Goals as goal
use Rattle.solver.proofs.families.joined_word.Goals.{After-map_or-last}

last_is : (c : After-map_or-last) → c.map_or-last.result ≡ word_of c.args.other
last_is c = search rules

pub returns-then-word-last-lt64 : goal.returns-then-word-last-lt64
returns-then-word-last-lt64 c =
    let l = last_is (goal.at.returns-then-word-last-lt64 c).After-map_or-last in
    c.get-word.ensures.value ∙ joined_plain _ _ (rw (c.get-word.ensures.value, l) at c.if-word-last-lt64.true)

pub overflow_mul-result : goal.overflow_mul-result
overflow_mul-result c = omega (arith, and_le_l c.family_mask.result c.family_mask-2.result, mask_low c.get-word.result, c.family_mask.ensures)

pub overflow_add-result-2 : goal.overflow_add-result-2
overflow_add-result-2 c = omega (arith, and_le_l c.family_mask.result c.family_mask-2.result, mask_low c.get-word.result, c.family_mask.ensures)

pub returns : goal.returns
returns c =
    let l = last_is (goal.at.returns c).After-map_or-last in
    let w = c.get-word.ensures.value in
    rw (c.family_mask.ensures, c.family_mask-2.ensures, w, l) (joined_ranged _ _ (rw (w, l) at c.if-word-last-lt64.false))
