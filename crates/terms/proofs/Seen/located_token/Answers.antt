-- `located_token`. By the spot.
use native.Mathlib.Omega.{arith}
use Rattle.terms.specs.Words.VirtualTokens.{size_of}
use mathlib.Core.Path.{refl, sym, ◌∙◌}
use Rattle.terms.specs.declared.Spot.TheVariants.{Lent, Error, Head, Nowhere}
use Rattle.terms.proofs.Laws.Normalising.VirtualTokenLaws.{few_width, spot_word}
use Rattle.terms.proofs.Seen.located_token.Goals as goal

pub returns-in-Lent : goal.returns-in-Lent
returns-in-Lent c =
    let l = rw c.in-Lent.is at c.locate-s.ensures in record {
      kind = c.token.ensures.kind ∙ sym (spot_word _ _ 5 20 _ _ (Lent c.in-Lent.p) l refl);
      value = c.token.ensures.value ∙ sym (spot_word _ _ 1 _ _ _ (Lent c.in-Lent.p) l c.args.self.now.tokens.pairs);
    }

pub returns-in-Error : goal.returns-in-Error
returns-in-Error c =
    let l = rw c.in-Error.is at c.locate-s.ensures in
    record { kind = sym (spot_word _ _ 5 20 _ _ Error l refl); value = sym (spot_word _ _ 1 _ _ _ Error l c.args.self.now.tokens.pairs) }

pub returns-in-Head : goal.returns-in-Head
returns-in-Head c =
    let x = c.args.self.now in
    let l = rw c.in-Head.is at c.locate-s.ensures in record {
      kind = sym (spot_word _ _ 5 20 _ _ (Head c.in-Head.size) l refl);
      value = omega (arith, l.width, few_width _ _ _ x.sight, spot_word x.tokens.vals.now x.given 1 (size_of x.given) _ _ (Head c.in-Head.size) l x.tokens.pairs);
    }

pub returns-in-Nowhere : goal.returns-in-Nowhere
returns-in-Nowhere c =
    let l = rw c.in-Nowhere.is at c.locate-s.ensures in
    record { kind = sym (spot_word _ _ 5 20 _ _ Nowhere l refl); value = sym (spot_word _ _ 1 _ _ _ Nowhere l c.args.self.now.tokens.pairs) }
