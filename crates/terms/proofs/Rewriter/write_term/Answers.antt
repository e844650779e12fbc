-- `write_term`: as many tokens as its span tells; what that says of trees is `rewrites`.
use Rattle.terms.specs.Words.ShowingContract.{writes}
use Rattle.terms.proofs.Laws.Replacing.SubstitutionUseLaws.{rewrites}
use Rattle.terms.proofs.Laws.Replacing.RewriteLaws.{whole_writes}
use Rattle.terms.proofs.Rewriter.write_term.Goals as goal

pub returns-clause-trees : goal.returns-clause-trees
returns-clause-trees c =
    let a = c.args in
    let e = c.term_part.ensures in
    let w = whole_writes _ _ a.self.now.binders a.from _ e.part.0 e.ends (writes a.pass) a.out.now a.at _ _ c.rewrite_run.ensures.next c.rewrite_run.ensures.wrote in
    rewrites _ _ a.self.now.binders a.from _ w
