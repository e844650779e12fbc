-- `token`. A lent token.
use mathlib.Core.Path.{refl, sym}
use lib.ListN.{length}
use Rattle.terms.specs.Words.VirtualTokens.{size_of}
use Rattle.terms.specs.declared.Spot.TheVariants.{Lent}
use Rattle.terms.proofs.Laws.Normalising.VirtualTokenLaws.{spot_word, located_lent}
use Rattle.terms.proofs.Seen.token.Goals as goal

pub returns-then-q-tokens : goal.returns-then-q-tokens
returns-then-q-tokens c =
    let x = c.args.self.now in
    let ks = x.tokens.kinds.now in
    let vs = x.tokens.vals.now in
    let l = located_lent x.given (length ks) c.args.q c.if-q-tokens.true in
    record {
      kind = sym (spot_word ks x.given 5 20 (length ks) c.args.q (Lent c.args.q) l refl);
      value = sym (spot_word vs x.given 1 (size_of x.given) (length ks) c.args.q (Lent c.args.q) l x.tokens.pairs);
    }
