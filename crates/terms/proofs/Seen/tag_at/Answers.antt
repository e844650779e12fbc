-- `tag_at`. By the kind.
use mathlib.Core.Path.{refl}
use Rattle.terms.specs.Words.VirtualTokens.{view}
use Rattle.terms.proofs.Laws.Normalising.OpenLaws.{tag_at_kind}
use Rattle.terms.proofs.Seen.tag_at.Goals as goal

pub returns : goal.returns
returns c = tag_at_kind (view c.args.self.now.tokens.kinds.now c.args.self.now.tokens.vals.now c.args.self.now.given) _ _ _ _ refl c.token.ensures.kind c.tag_of.ensures
