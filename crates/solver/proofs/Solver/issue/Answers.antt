-- `Solver::issue`. By what the search found, and whether one more may be issued.
use mathlib.Core.Path.{refl, sym, ◌∙◌}
use Prim.Native.Nat.{◌+◌}
use native.Mathlib.Omega.{arith}
use Rattle.solver.proofs.Laws.Table.MethodLaws.{beside_set, issued_found, issued_full, issued_new, found_number}
use Rattle.solver.proofs.Solver.issue.Goals as goal
use Rattle.solver.specs.Words.TableLayout.{places_from, sites_from, slots_from, tails_from}

pub returns-in-Some-clause-held : goal.returns-in-Some-clause-held
returns-in-Some-clause-held c =
    let a = c.args in
    let f = c.find_place in
    λ ks vs s p h o L. issued_found a.self ks vs a.tables.now s L p c.in-Some.v (found_number _ _ _ (sym c.in-Some.is ∙ f.ensures.place p s.places h (sym L.issued) L.places)) (f.ensures.low _ c.in-Some.is)

pub returns-then-m-issued-clause-held : goal.returns-then-m-issued-clause-held
returns-then-m-issued-clause-held c =
    let a = c.args in
    let f = c.find_place in
    λ ks vs s p h o L. issued_full a.self ks vs a.tables.now s L p a.self.issued (found_number _ _ _ (sym c.in_default.is ∙ f.ensures.place p s.places h (sym L.issued) L.places)) (omega arith) c.if-m-issued.true

pub returns-clause-held : goal.returns-clause-held
returns-clause-held c =
    let a = c.args in
    let x = c.args.self in
    let ts = c.args.tables.now in
    let f = c.find_place in
    let l = c.if-m-issued.false in
    let B = beside_set x _ ts _ (tails_from x.variables + x.issued) (x.issued + 1) (beside_set x _ ts _ (slots_from x.variables + x.issued) a.asked.slot (beside_set x _ ts _ (sites_from x.variables + x.issued) a.asked.site (beside_set x _ ts _ (places_from x.variables + x.issued) a.asked.kind (record { variables = refl; nodes = refl; top = refl; size = refl; rest = refl }) (omega arith)) (omega arith)) (omega arith)) (omega arith) in
    λ ks vs s p h o L. issued_new x ks vs ts s L p x.issued (found_number _ _ _ (sym c.in_default.is ∙ f.ensures.place p s.places h (sym L.issued) L.places)) _ _ _ h o (omega arith) l _ B refl refl refl
