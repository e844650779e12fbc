-- `begin_answer`: sized first, then written.
use mathlib.Core.Path.{refl, ap, ◌∙◌}
use native.Mathlib.Omega.{arith}
use Prim.Native.Nat.{ℕ, ◌+◌}
use lib.ListN.{length}
use native.Mathlib.Numerals.{add-one}
use Rattle.solver.specs.Terms.Number.{shortest}
use Rattle.solver.proofs.Terms.WriteLaws.{short_word}
use Rattle.sheet.proofs.Laws.Answering.FramingLaws.{begun}
use Rattle.sheet.proofs.framing.begin_answer.Goals as goal

pub overflow_add-n : goal.overflow_add-n
overflow_add-n c = omega (arith, c.number_len-n.ensures, short_word (c.args.size + 1) (omega arith))

pub overflow_add-n-2 : goal.overflow_add-n-2
overflow_add-n-2 c = omega (arith, c.number_len-n.ensures, short_word (c.args.size + 1) (omega arith))

pub returns : goal.returns
returns c =
    let a = c.args in
    let e = ap (λ (k : ℕ). length (shortest k)) (add-one a.size) in
    let n = c.number_len-n.ensures in
    let w = c.write_number-i.ensures in
    begun a.size a.out.now a.to _ _ (omega (arith, e, n)) (w.next ∙ ap (λ (k : ℕ). a.to + length (shortest k)) (add-one a.size)) (rw (← add-one a.size, ← w.wrote) refl)
