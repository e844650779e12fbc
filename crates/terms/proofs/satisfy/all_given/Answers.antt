use Rattle.terms.proofs.Laws.General.Options.{sub_step}
use native.Mathlib.Omega.{arith}
use Rattle.terms.specs.Words.SatisfyContract.{given}
use Rattle.terms.proofs.Laws.Asking.BoundLaws.{next_pair, pair_inside, passes_next, fails_next, every_over}
use Rattle.terms.proofs.satisfy.all_given.Goals.{then-tokens-i-via-then-tokens-i, then-tokens-i-via-else-tokens-i+then-not-gives}
use Rattle.terms.proofs.satisfy.all_given.Goals as goal

pub returns-then-tokens-i-clause-given : goal.returns-then-tokens-i-clause-given
returns-then-tokens-i-clause-given c =
    λ d gs hs other e rest w l x.
    let y = next_pair (c.loop.invariant.1 d gs hs other e rest w l x) (omega arith) in
    elim c.then-tokens-i.branch [
      | then-tokens-i-via-then-tokens-i v ↦ absurd (omega (arith, pair_inside y, v.if-tokens-i.true))
      | then-tokens-i-via-else-tokens-i+then-not-gives v ↦ fails_next (given gs hs) y (v.gives.ensures d gs hs other y.value l y.here) v.if-not-gives.true-raw
    ]

pub loop-preserved : goal.loop-preserved
loop-preserved c = (
  omega arith,
  λ d gs hs other e rest w l x.
      let y = next_pair (c.loop.invariant.1 d gs hs other e rest w l x) (omega arith) in
      rw (sub_step c.args.count c.loop.counter) (passes_next (given gs hs) y (c.gives.ensures d gs hs other y.value l y.here) c.if-not-gives.false-raw (c.term_part-i.ensures.term y.value y.here)),
)

pub returns-clause-given : goal.returns-clause-given
returns-clause-given c = λ d gs hs other e rest w l x. every_over (given gs hs) (c.loop.invariant.1 d gs hs other e rest w l x) (omega arith)
