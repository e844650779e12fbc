-- `Solver::start`. By what is asked for.
use mathlib.Core.Path.{sym}
use native.Mathlib.Omega.{arith}
use Rattle.solver.proofs.Laws.Resolving.StartLaws.{start_none, start_free, start_default, start_bound}
use Rattle.solver.proofs.Solver.start.Goals as goal

pub returns-in_default : goal.returns-in_default
returns-in_default c = λ ks vs z t A. start_none c.args.self c.args.tables.now _ _ c.in-Id.is ks vs z t A (omega (arith, c.in_default.ensures))

pub returns-in-Some-default_of : goal.returns-in-Some-default_of
returns-in-Some-default_of c =
    λ ks vs z t A.
    start_default c.args.self c.args.tables.now _ _ c.in-Id.is ks vs z t A c.in-Some-default_of.b c.in-Some.most (sym c.in-Some-default_of.ensures) (omega (arith, c.in-Some.ensures))

pub returns-in_default-checked_sub : goal.returns-in_default-checked_sub
returns-in_default-checked_sub c =
    λ ks vs z t A. start_free c.args.self c.args.tables.now _ _ c.in-Id.is ks vs z t A (omega (arith, c.in_default-checked_sub.ensures))

pub returns-in-Some-checked_sub : goal.returns-in-Some-checked_sub
returns-in-Some-checked_sub c =
    λ ks vs z t A.
    start_bound c.args.self c.args.tables.now _ _ c.in-Id.is ks vs z t A c.in-Some-checked_sub.p c.in-Some.most (omega (arith, c.in-Some-checked_sub.ensures)) (sym c.in_default-default_of.ensures) (omega (arith, c.in-Some.ensures))
