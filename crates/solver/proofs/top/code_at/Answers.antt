-- `code_at`. By the tokens of a builtin.
use native.Mathlib.Omega.{arith}
use Rattle.solver.proofs.Laws.Resolving.ChainEndLaws.{code_here, code_other}
use Rattle.solver.proofs.top.code_at.Goals.{then-tokens-q-ne6-via-then-tokens-q-ne6, then-tokens-q-ne6-via-else-tokens-q-ne6+then-tokens-q-ne2, then-tokens-q-ne6-via-else-tokens-q-ne6+else-tokens-q-ne2+then-tokens-q-lt2, then-tokens-q-ne6-via-else-tokens-q-ne6+else-tokens-q-ne2+else-tokens-q-lt2+then-tokens-q-ne0}
use Rattle.solver.proofs.top.code_at.Goals as goal

pub returns-then-tokens-q-ne6 : goal.returns-then-tokens-q-ne6
returns-then-tokens-q-ne6 c =
    let t = c.args.tokens.now in
    elim c.then-tokens-q-ne6.branch [
      | then-tokens-q-ne6-via-then-tokens-q-ne6 w ↦ code_other t.kinds.now t.vals.now c.args.q (λ d b. w.if-tokens-q-ne6.true b.head)
      | then-tokens-q-ne6-via-else-tokens-q-ne6+then-tokens-q-ne2 w ↦ code_other t.kinds.now t.vals.now c.args.q (λ d b. w.if-tokens-q-ne2.true b.span)
      | then-tokens-q-ne6-via-else-tokens-q-ne6+else-tokens-q-ne2+then-tokens-q-lt2 w ↦ code_other t.kinds.now t.vals.now c.args.q (λ d b. omega (arith, b.room, w.if-tokens-q-lt2.true))
      | then-tokens-q-ne6-via-else-tokens-q-ne6+else-tokens-q-ne2+else-tokens-q-lt2+then-tokens-q-ne0 w ↦ code_other t.kinds.now t.vals.now c.args.q (λ d b. w.if-tokens-q-ne0.true b.number)
    ]

pub returns : goal.returns
returns c = code_here c.args.tokens.now.kinds.now c.args.tokens.now.vals.now c.args.q c.if-tokens-q-ne6.false c.if-tokens-q-ne2.false c.if-tokens-q-ne0.false
