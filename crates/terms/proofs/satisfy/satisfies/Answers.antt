-- `satisfies`: the rows after the heads.
use Rattle.std.proofs.Common.{◌∙◌}
use Rattle.terms.proofs.Laws.Held.NominalLaws.{laid_bare}
use Rattle.terms.proofs.Laws.Asking.BoundLaws.{whole_is}
use Rattle.terms.proofs.satisfy.satisfies.Goals as goal

pub returns : goal.returns
returns c =
    λ ps qs h k f g.
    let x = laid_bare ps h f in
    let y = laid_bare qs k g in
    c.is_some.ensures ∙ whole_is _ _ _ _ _ _ (c.satisfies_row.ensures.satisfied _ _ x.0 _ _ y.0 x.1 y.1)
