-- `write_token`. By the token's kind.
use lib.ListN.{length, length-set}
use native.Mathlib.Omega.{arith}
use native.Mathlib.Numerals.{add-one}
use mathlib.Core.Path.{refl, ap}
use Rattle.terms.proofs.Laws.Format.WriteLaws.{plain_number, plain_var, plain_head, plain_some}
use Rattle.terms.proofs.write.write_token.Goals as goal

pub write_number-requires : goal.write_number-requires
write_number-requires c =
    let a = c.args in
    rw c.from.ensures (omega (arith, ap length (plain_number a.x.kind a.x.value (omega arith)), c.requires))

pub returns-then-x-eq0 : goal.returns-then-x-eq0
returns-then-x-eq0 c =
    let a = c.args in
    rw (plain_number a.x.kind a.x.value (omega arith)) (rw c.from.ensures at c.write_number.ensures)

pub bounds-out-at : goal.bounds-out-at
bounds-out-at c =
    let a = c.args in
    omega (arith, plain_some a.x.kind a.x.value, c.requires)

pub write_number-requires-then-x-eq1 : goal.write_number-requires-then-x-eq1
write_number-requires-then-x-eq1 c =
    let a = c.args in
    rw c.from-then-x-eq1.ensures (simp length-set (omega (arith, ap length (plain_var a.x.kind a.x.value (omega arith)), c.requires)))

pub returns-then-x-eq1 : goal.returns-then-x-eq1
returns-then-x-eq1 c =
    let a = c.args in
    let w = rw c.from-then-x-eq1.ensures at c.write_number-then-x-eq1.ensures in
    record { next = rw (plain_var a.x.kind a.x.value (omega arith)) (omega (arith, w.next)); wrote = rw (plain_var a.x.kind a.x.value (omega arith)) (rw (add-one a.at) at w.wrote) }

pub bounds-out-at-2 : goal.bounds-out-at-2
bounds-out-at-2 c =
    let a = c.args in
    omega (arith, plain_some a.x.kind a.x.value, c.requires)

pub returns : goal.returns
returns c =
    let a = c.args in
    record { next = rw (plain_head a.x.kind a.x.value (omega arith)) refl; wrote = rw (plain_head a.x.kind a.x.value (omega arith)) refl }
