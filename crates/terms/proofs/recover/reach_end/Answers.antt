-- `reach_end`: by the tag.
use mathlib.Core.Path.{sym, ◌∙◌}
use native.Mathlib.Omega.{arith}
use Rattle.terms.proofs.Laws.Asking.QuestionLaws.{among_in, among_out}
use Rattle.terms.proofs.Laws.Replacing.RecoverLaws.{tag_told, same_tags, reach_differ, reach_none, place_none, place_all, place_first, place_nominal}
use Rattle.terms.proofs.recover.reach_end.Goals as goal

pub returns-then-k-tag_of-clause-reached : goal.returns-then-k-tag_of-clause-reached
returns-then-k-tag_of-clause-reached c =
    λ t u ht hu ft fu.
    place_none _ _ _ (reach_differ t u (λ e. c.if-k-tag_of.true (tag_told ht c.word.ensures c.tag_of-k.ensures ∙ e ∙ sym
    (tag_told hu c.word-2.ensures c.tag_of.ensures))))

pub returns-in-7-clause-reached : goal.returns-in-7-clause-reached
returns-in-7-clause-reached c =
    λ t u ht hu ft fu.
    let x = same_tags ht hu c.word.ensures c.tag_of-k.ensures c.word-2.ensures c.tag_of.ensures c.if-k-tag_of.false in
    place_all u ht x.1 (among_in _ _ (λ d. omega (arith, x.0, d)))

pub returns-in-7-2-clause-reached : goal.returns-in-7-2-clause-reached
returns-in-7-2-clause-reached c =
    λ t u ht hu ft fu.
    let x = same_tags ht hu c.word.ensures c.tag_of-k.ensures c.word-2.ensures c.tag_of.ensures c.if-k-tag_of.false in
    place_all u ht x.1 (among_in _ _ (λ d. grind (arith, x.0, d)))

pub returns-in-0-clause-reached : goal.returns-in-0-clause-reached
returns-in-0-clause-reached c =
    λ t u ht hu ft fu.
    let x = same_tags ht hu c.word.ensures c.tag_of-k.ensures c.word-2.ensures c.tag_of.ensures c.if-k-tag_of.false in
    c.first_reach.ensures.told ∙ place_first ht hu ft fu x.1 (among_out _ _ (λ d. grind (arith, x.0, d))) (among_in _ _ (λ d. grind (arith, x.0, d)))

pub returns-in-12-to-15-clause-reached : goal.returns-in-12-to-15-clause-reached
returns-in-12-to-15-clause-reached c =
    λ t u ht hu ft fu.
    let x = same_tags ht hu c.word.ensures c.tag_of-k.ensures c.word-2.ensures c.tag_of.ensures c.if-k-tag_of.false in
    place_nominal ht hu ft fu x.1 (among_out _ _ (λ d. omega (arith, x.0, d))) (among_out _ _ (λ d. omega (arith, x.0, d)))
    (among_in _ _ (λ d. omega (arith, x.0, d))) c.nominal_reach.ensures.reached

pub returns-in_default-clause-reached : goal.returns-in_default-clause-reached
returns-in_default-clause-reached c =
    λ t u ht hu ft fu.
    let x = same_tags ht hu c.word.ensures c.tag_of-k.ensures c.word-2.ensures c.tag_of.ensures c.if-k-tag_of.false in
    place_none _ _ _ (reach_none t u x.1 (among_out _ _ (λ d. grind (arith, x.0, d))) (among_out _ _ (λ d. grind (arith, x.0, d)))
    (among_out _ _ (λ d. grind (arith, x.0, d))))
