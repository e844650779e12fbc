-- `pair_step`: a number or a term in each row.
use mathlib.Core.Path.{◌≡◌, sym, ◌∙◌}
use lib.ListN.{get_or}
use Rattle.terms.proofs.Laws.Asking.ConflictLaws.{number_term_clash, term_number_clash, numbers_clash, numbers_onward}
use Rattle.terms.proofs.compare.pair_step.Goals.{else-k-ne0-via-else-k-ne0, else-k-ne0-via-then-k-ne0+else-l-ne0, then-k-l-via-then-k-l, then-k-l-via-else-k-l+then-tokens-a}
use Rattle.terms.proofs.compare.pair_step.Goals as goal

pub returns-then-k-l-clause-stepped : goal.returns-then-k-l-clause-stepped
returns-then-k-l-clause-stepped c =
    λ w x.
    elim c.else-k-ne0.branch [
      | else-k-ne0-via-else-k-ne0 v ↦
          elim c.then-k-l.branch [
            | then-k-l-via-then-k-l u ↦
                number_term_clash x c.requires.0.0 c.requires.1.0 v.if-k-ne0.false (λ z. u.if-k-l.true (v.if-k-ne0.false ∙ sym z))
            | then-k-l-via-else-k-l+then-tokens-a u ↦
                numbers_clash x c.requires.0.0 c.requires.1.0 v.if-k-ne0.false (sym u.if-k-l.false ∙ v.if-k-ne0.false)
                u.if-tokens-a.true
          ]
      | else-k-ne0-via-then-k-ne0+else-l-ne0 v ↦
          term_number_clash x c.requires.0.0 c.requires.1.0 v.if-k-ne0.true v.if-l-ne0.false
    ]

pub returns-clause-stepped : goal.returns-clause-stepped
returns-clause-stepped c =
    λ w x.
    let t = c.args.tokens.now in
    let k : get_or t.kinds.now c.args.a.from 0 ≡ 0
    = elim c.else-k-ne0.branch [ else-k-ne0-via-else-k-ne0 v ↦ v.if-k-ne0.false | else-k-ne0-via-then-k-ne0+else-l-ne0 v ↦ c.if-k-l.false ∙ v.if-l-ne0.false ] in
    numbers_onward x c.requires.0.0 c.requires.1.0 k (sym c.if-k-l.false ∙ k) c.if-tokens-a.false
