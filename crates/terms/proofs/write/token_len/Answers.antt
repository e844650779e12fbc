-- `token_len`. By the token's kind.
use native.Mathlib.Omega.{arith}
use Rattle.terms.proofs.Laws.Format.WriteLaws.{plain_number, plain_var, plain_head}
use Rattle.terms.proofs.Laws.Format.WriteLaws.{short_word}
use Rattle.terms.proofs.write.token_len.Goals as goal

pub returns-then-x-eq0 : goal.returns-then-x-eq0
returns-then-x-eq0 c = rw (plain_number _ c.args.x.value c.if-x-eq0.true) (rw c.from.ensures at c.number_len.ensures)

pub overflow_add-result : goal.overflow_add-result
overflow_add-result c = let n = rw c.from-then-x-eq1.ensures at c.number_len-then-x-eq1.ensures in
    omega (arith, short_word c.args.x.value (omega arith), n)

pub returns-then-x-eq1 : goal.returns-then-x-eq1
returns-then-x-eq1 c = rw (plain_var _ c.args.x.value c.if-x-eq1.true) (omega (arith, rw c.from-then-x-eq1.ensures at c.number_len-then-x-eq1.ensures))

pub returns : goal.returns
returns c = rw (plain_head c.args.x.kind c.args.x.value (omega arith))
