use native.Mathlib.Omega.{arith}
use mathlib.Core.Path.{ap}
use lib.ListN.{length}
use Rattle.terms.proofs.Laws.Numbers.Shortest.{shortest_more, shortest_last}
use Rattle.terms.proofs.numbers.number_len.Goals as goal

pub loop-v-preserved : goal.loop-v-preserved
loop-v-preserved c = omega (arith, ap length (shortest_more c.loop-v.v c.loop-v-test.true))

pub returns : goal.returns
returns c = omega (arith, ap length (shortest_last c.loop-v.v c.loop-v-test.false))
