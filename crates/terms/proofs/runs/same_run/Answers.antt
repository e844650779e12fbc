-- The parts are the same where their kinds and their values are.
use Rattle.std.proofs.Common.{◌≡◌, true}
use Rattle.terms.proofs.Laws.Held.HeldLaws.{parts_agree, agree_parts}
use Rattle.terms.proofs.runs.same_run.Goals as goal

pub returns-then-same_words : goal.returns-then-same_words
returns-then-same_words c =
    let k = c.same_words.ensures in
    let v = c.same_words-then-same_words.ensures in
    record {
      yes = λ t. parts_agree _ _ _ _ (k.0 c.if-same_words.true) (v.0 t);
      no = λ f h.
          let t : c.same_words-then-same_words.result ≡ true = v.1 (agree_parts _ _ _ _ h).1 in
          cc;
    }

pub returns-else-same_words-clause-no : goal.returns-else-same_words-clause-no
returns-else-same_words-clause-no c =
    λ f h.
    let t : c.same_words.result ≡ true = c.same_words.ensures.1 (agree_parts _ _ _ _ h).0 in
    cc
