use Rattle.terms.proofs.Laws.General.Options.{sub_step}
use native.Mathlib.Omega.{arith}
use mathlib.Core.Path.{sym}
use Rattle.terms.specs.Words.SatisfyContract.{covers}
use Rattle.terms.proofs.Laws.Asking.BoundLaws.{next_pair, pair_inside, passes_next, fails_next, every_over}
use Rattle.terms.proofs.satisfy.covered.Goals.{then-tokens-i-via-then-tokens-i, then-tokens-i-via-else-tokens-i+then-not-covers}
use Rattle.terms.proofs.satisfy.covered.Goals as goal

pub returns-then-tokens-i : goal.returns-then-tokens-i
returns-then-tokens-i c =
    λ d n rest w e more o x l h y.
    let z = next_pair (c.loop.invariant.1 d n rest w e more o x l h y) (omega arith) in
    elim c.then-tokens-i.branch [
      | then-tokens-i-via-then-tokens-i v ↦ absurd (omega (arith, pair_inside z, v.if-tokens-i.true))
      | then-tokens-i-via-else-tokens-i+then-not-covers v ↦
          sym (fails_next (covers n w) z (v.covers.ensures d n rest w z.value x l h z.here z.formed) v.if-not-covers.true-raw)
    ]

pub loop-preserved : goal.loop-preserved
loop-preserved c = (
  omega arith,
  λ d n rest w e more o x l h y.
      let z = next_pair (c.loop.invariant.1 d n rest w e more o x l h y) (omega arith) in
      rw (sub_step c.args.count c.loop.counter) (passes_next (covers n w) z (c.covers.ensures d n rest w z.value x l h z.here z.formed) c.if-not-covers.false-raw
      (c.term_part-i.ensures.term z.value z.here)),
)

pub returns : goal.returns
returns c = λ d n rest w e more o x l h y. sym (every_over (covers n w) (c.loop.invariant.1 d n rest w e more o x l h y) (omega arith)).0
