-- `family_mask`. By the three sorts of words.
use Rattle.solver.proofs.Laws.Table.RequestWordLaws.{mask_ranged, mask_floats, mask_integers}
use Rattle.solver.proofs.families.family_mask.Goals as goal

pub returns-then-word-gt32 : goal.returns-then-word-gt32
returns-then-word-gt32 c = mask_ranged _ c.if-word-gt32.true

pub returns-then-word-eq10 : goal.returns-then-word-eq10
returns-then-word-eq10 c = mask_floats _ c.if-word-gt32.false c.if-word-eq10.true

pub returns : goal.returns
returns c = mask_integers _ c.if-word-gt32.false c.if-word-eq10.false
