-- `end_at`. A term is cut where no token can stand.
use Rattle.terms.specs.Words.VirtualTokens.{view}
use Rattle.terms.proofs.Laws.Normalising.VirtualTokenLaws.{few_kinds}
use Rattle.terms.proofs.Laws.Normalising.ScanLaws.{end_is}
use Rattle.terms.proofs.Seen.end_at.Goals as goal

pub returns : goal.returns
returns c =
    let x = c.args.self.now in
    let t = c.token.ensures in
    end_is (view x.tokens.kinds.now x.tokens.vals.now x.given) _ _ t.kind t.value c.step.ensures.span (few_kinds x.tokens.kinds.now x.tokens.vals.now x.given x.sight) c.min.ensures
