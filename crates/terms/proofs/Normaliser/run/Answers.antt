-- `run`. Not walked, refused, or walked.
use mathlib.Core.Path.{refl, sym, ap, ◌∙◌}
use borrow.Author.Tests.{not-true, not-false}
use Rattle.terms.specs.Normal.{Out}
use Rattle.terms.specs.Lookup.{look_by}
use Rattle.terms.proofs.Laws.Normalising.NormalLaws.{normalise_plain, normalise_walked, plain_leaves, plain_answers, long_leaves, long_answers, walked_leaves, walked_answers, over_leaves, over_answers}
use Rattle.terms.proofs.Normaliser.run.Goals as goal

pub returns-then-not-has_projection : goal.returns-then-not-has_projection
returns-then-not-has_projection c =
    let a = c.args in
    let s = c.requires.room.sight in
    let z = c.size_up.ensures in
    rw c.ok_or.ensures.value (record {
      out = z.out;
      leaves = plain_leaves _ _ _ s _ _ a.p _ _ a.levels a.most _ z.sized;
      answers = λ t look h k.
          let e = normalise_plain a.levels a.visits (look_by look) t (sym (c.has_projection.ensures t h) ∙ not-true _ c.if-not-has_projection.true-raw) in
          plain_answers _ _ _ s _ _ a.p _ _ a.levels a.most t _ h (ap (λ (o : Out). o.term) e) (ap (λ (o : Out). o.count) e) _ z.sized;
    })

pub returns-in_default : goal.returns-in_default
returns-in_default c =
    let a = c.args in
    let s = c.requires.room.sight in
    let y = c.source.ensures in
    let w = rw c.in_default.is at c.walk-walked.ensures.walks in
    let fr = rw c.in_default.is at c.walk-walked.ensures.frames in
    record {
      out = refl;
      leaves = over_leaves _ _ _ _ _ _ a.most _ _ fr c.requires.zero.0 c.requires.zero.1 c.clear_tokens.ensures;
      answers = λ t look h k.
          over_answers _ _ _ _ _ _ a.most _ _ s _ a.levels a.visits w _ y.0 y.1 t look _ h k
          (normalise_walked a.levels a.visits (look_by look) t (sym (c.has_projection.ensures t h) ∙ not-false _ c.if-not-has_projection.false-raw)) a.out.now
          a.at;
    }

pub returns-then-out-at : goal.returns-then-out-at
returns-then-out-at c =
    let a = c.args in
    let y = c.source.ensures in
    let w = rw c.in-Some.is at c.walk-walked.ensures.walks in
    let fr = rw c.in-Some.is at c.walk-walked.ensures.frames in
    record {
      out = refl;
      leaves = long_leaves _ _ _ c.requires.room.sight _ _ a.levels a.most _ _ _ _ a.visits _ w fr c.requires.zero.0 c.requires.zero.1 _ _ c.clear_tokens-then-out-at.ensures;
      answers = λ t look h k.
          long_answers _ _ _ c.requires.room.sight _ _ a.levels a.most _ _ _ _ a.visits _ w fr c.requires.zero.0 c.requires.zero.1 _ y.0 y.1 t look _ h k
          (normalise_walked a.levels a.visits (look_by look) t (sym (c.has_projection.ensures t h) ∙ not-false _ c.if-not-has_projection.false-raw)) _ _
          c.requires.place c.if-out-at.true _ _;
    }

pub returns : goal.returns
returns c =
    let a = c.args in
    let y = c.source.ensures in
    let w = rw c.in-Some.is at c.walk-walked.ensures.walks in
    let fr = rw c.in-Some.is at c.walk-walked.ensures.frames in
    record {
      out = refl;
      leaves = walked_leaves _ _ _ c.requires.room.sight _ _ a.levels a.most _ _ _ _ a.visits _ w fr c.requires.zero.0 c.requires.zero.1;
      answers = λ t look h k.
          walked_answers _ _ _ c.requires.room.sight _ _ a.levels a.most _ _ _ _ a.visits _ w fr c.requires.zero.0 c.requires.zero.1 _ y.0 y.1 t look _ h k
          (normalise_walked a.levels a.visits (look_by look) t (sym (c.has_projection.ensures t h) ∙ not-false _ c.if-not-has_projection.false-raw)) _ _
          c.requires.place c.if-out-at.false;
    }
