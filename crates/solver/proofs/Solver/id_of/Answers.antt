-- `Solver::id_of`. By the search for the place's kind.
use mathlib.Core.Path.{sym, ap, ◌∙◌}
use native.Mathlib.Omega.{arith}
use Rattle.std.specs.declared.option.Option as rust
use Rattle.std.specs.Option.{unwrap_or}
use Prim.Native.Nat.{ℕ}
use Rattle.solver.specs.Words.OrderTerms.{place_of}
use Rattle.solver.proofs.Laws.Table.MethodLaws.{place_held, placed_below, found_number, found_low, then_below}
use Rattle.solver.proofs.Solver.id_of.Goals as goal
use Rattle.solver.proofs.Solver.id_of.Goals.{in-Slot, in-Hole}

pub overflow_cast-v : goal.overflow_cast-v
overflow_cast-v c =
    let L = c.requires.3 in
    let of = λ (r : rust.Option ℕ). unwrap_or r c.args.self.issued in
    elim c.match-site.branch [
      | in-Slot w ↦ omega (arith, c.unwrap_or-v.ensures ∙ ap of w.found-is, found_low _ _ w.find_place-found.ensures.low, L.fits.variables, L.issued, L.narrow)
      | in-Hole w ↦ omega (arith, c.unwrap_or-v.ensures ∙ ap of w.found-is, found_low _ _ w.find_place-found-in-Hole.ensures.low, L.fits.variables, L.issued, L.narrow)
    ]

pub returns-clause-placed : goal.returns-clause-placed
returns-clause-placed c =
    let a = c.args in
    let of = λ (r : rust.Option ℕ). unwrap_or r a.self.issued in
    λ ks vs s L. c.then_some.ensures ∙ placed_below a.self ks vs a.tables.now s L (place_of a.site) _ (c.unwrap_or-v.ensures ∙ elim c.match-site.branch [
      | in-Slot w ↦ ap of w.found-is ∙ found_number _ _ _ (w.find_place-found.ensures.place (place_of a.site) s.places (place_held a.site w.from.ensures) (sym L.issued) L.places)
      | in-Hole w ↦ ap of w.found-is ∙ found_number _ _ _ (w.find_place-found-in-Hole.ensures.place (place_of a.site) s.places (place_held a.site w.from-in-Hole.ensures) (sym L.issued) L.places)
    ])

pub returns-clause-low : goal.returns-clause-low
returns-clause-low c = then_below _ _ _ c.then_some.ensures
