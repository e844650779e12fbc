-- `recovered_len`: where writing from 0 on ends.
use native.Mathlib.Omega.{arith}
use Rattle.terms.proofs.Laws.Held.FlatLaws.{held_whole}
use Rattle.terms.proofs.recover.recovered_len.Goals as goal

pub returns : goal.returns
returns c =
    λ t u ht hu ft fu.
    let x = held_whole _ _ t c.term_part-x.ensures.part.0 (c.term_part-x.ensures.term t ht) ht in
    let y = held_whole _ _ u c.term_part-y.ensures.part.0 (c.term_part-y.ensures.term u hu) hu in
    let z = c.recover_term.ensures.put t u x y ft fu in
    omega (arith, z.next)
