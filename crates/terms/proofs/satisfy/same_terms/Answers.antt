use Rattle.terms.proofs.Laws.General.Options.{sub_step}
use native.Mathlib.Omega.{arith}
use Rattle.terms.proofs.Laws.Asking.BoundLaws.{next_arguments, arguments_over, argument_left, argument_right, arguments_differ, arguments_next}
use Rattle.terms.proofs.satisfy.same_terms.Goals.{then-tokens-i-via-then-tokens-i, then-tokens-i-via-else-tokens-i+then-tokens-j, then-tokens-i-via-else-tokens-i+else-tokens-j+then-not-same_term}
use Rattle.terms.proofs.satisfy.same_terms.Goals as goal

pub returns-then-tokens-i-clause-agreed : goal.returns-then-tokens-i-clause-agreed
returns-then-tokens-i-clause-agreed c =
    λ d rest e more w x.
    let y = next_arguments (c.loop.invariant.2 d rest e more w x) (omega arith) in
    elim c.then-tokens-i.branch [
      | then-tokens-i-via-then-tokens-i v ↦ absurd (omega (arith, argument_left y, v.if-tokens-i.true))
      | then-tokens-i-via-else-tokens-i+then-tokens-j v ↦ absurd (omega (arith, argument_right y, v.if-tokens-j.true))
      | then-tokens-i-via-else-tokens-i+else-tokens-j+then-not-same_term v ↦
          arguments_differ y (v.same_term.ensures y.t y.u y.here_left y.here_right) v.if-not-same_term.true-raw
    ]

pub loop-preserved : goal.loop-preserved
loop-preserved c = (
  omega arith,
  omega arith,
  λ d rest e more w x.
      let y = next_arguments (c.loop.invariant.2 d rest e more w x) (omega arith) in
      rw (sub_step c.args.count c.loop.counter) (arguments_next y (c.same_term.ensures y.t y.u y.here_left y.here_right) c.if-not-same_term.false-raw
      (c.term_part-i.ensures.term y.t y.here_left) (c.term_part-j.ensures.term y.u y.here_right)),
)

pub returns-clause-agreed : goal.returns-clause-agreed
returns-clause-agreed c = λ d rest e more w x. arguments_over (c.loop.invariant.2 d rest e more w x) (omega arith)
