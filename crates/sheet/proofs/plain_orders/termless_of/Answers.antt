-- `termless_of`: by the kind.
use mathlib.Core.Path.{ap, ◌∙◌}
use native.Mathlib.Omega.{arith}
use Rattle.solver.specs.Orders as orders
use Rattle.sheet.specs.OrderTable.{asking}
use Rattle.sheet.proofs.Laws.Answering.TermlessLaws.{first_number, second_number, number_code, range_code, variable_told, hole_told, numbers_told, nevers_told, revision_told, number_told, range_told, says_as}
use Rattle.sheet.proofs.plain_orders.termless_of.Goals as goal

pub overflow_cast-first : goal.overflow_cast-first
overflow_cast-first c =
    let p = c.requires in
    omega (arith, (first_number p.0 p.1 p.2 p.3 c.args.o p.4.known c.args.kind p.4.fields p.4.given).1)

pub overflow_cast-second : goal.overflow_cast-second
overflow_cast-second c =
    let p = c.requires in
    omega (arith, (second_number p.0 p.1 p.2 p.3 c.args.o p.4.known c.args.kind p.4.fields p.4.given).1)

pub returns-in-Variable : goal.returns-in-Variable
returns-in-Variable c = rw c.in-Variable.is (λ ks vs s ws. variable_told ks vs s ws c.args.o)

pub invariant_of-fallback : goal.invariant_of-fallback
invariant_of-fallback c =
    let p = c.requires in
    record { listed = number_code p.0 p.1 p.2 p.3 c.args.o (rw c.in-NumberVariable.is at p.4) }

pub returns-in-NumberVariable : goal.returns-in-NumberVariable
unfolding asking
returns-in-NumberVariable c = rw c.in-NumberVariable.is (λ ks vs s ws. says_as (ap (orders.number c.args.o.first.value) c.plain_request.ensures) (number_told ks vs s ws c.args.o))

pub returns-in-AnnotationHole : goal.returns-in-AnnotationHole
returns-in-AnnotationHole c = rw c.in-AnnotationHole.is (λ ks vs s ws. hole_told ks vs s ws c.args.o)

pub returns-in-NumericDefaults : goal.returns-in-NumericDefaults
returns-in-NumericDefaults c = rw c.in-NumericDefaults.is (λ ks vs s ws. numbers_told ks vs s ws c.args.o)

pub returns-in-NeverDefaults : goal.returns-in-NeverDefaults
returns-in-NeverDefaults c = rw c.in-NeverDefaults.is (λ ks vs s ws. nevers_told ks vs s ws c.args.o)

pub returns-in-Revision : goal.returns-in-Revision
returns-in-Revision c = rw c.in-Revision.is (λ ks vs s ws. revision_told ks vs s ws c.args.o)

pub invariant_of-fallback-in-RangeVariable : goal.invariant_of-fallback-in-RangeVariable
invariant_of-fallback-in-RangeVariable c =
    let p = c.requires in
    record { listed = range_code p.0 p.1 p.2 p.3 c.args.o (rw c.in-RangeVariable.is at p.4) }

pub returns-in-RangeVariable : goal.returns-in-RangeVariable
returns-in-RangeVariable c =
    rw c.in-RangeVariable.is
    (λ ks vs s ws. says_as (c.number_order.ensures ∙ ap (asking c.args.o.first.value) c.requested_range.ensures) (range_told ks vs s ws c.args.o))
