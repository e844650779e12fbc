-- `gives`: the member is looked up, and its term compared.
use Rattle.std.proofs.Common.{rules}
use Rattle.terms.proofs.Laws.Asking.BoundLaws.{listed_pairs, found_same}
use Rattle.terms.proofs.satisfy.gives.Goals as goal

pub returns : goal.returns
returns c =
    λ e gs hs rest u x h.
    found_same _ _ _ u _ _ _ (λ i k t g. search rules) (c.member_at.ensures.looked e rest _ (listed_pairs _ x c.word-count.ensures)) c.is_some_and.ensures
