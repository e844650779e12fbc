-- Short runs, by computation.
use mathlib.Core.List.{[], ◌∷◌}
use mathlib.Core.Path.{◌≡◌, refl}
use Rattle.solver.specs.Terms.Number.{groups}
use Rattle.solver.specs.Session.{document_limits, fresh}
use Rattle.sheet.specs.OrderTable.{session_orders, row_in, kinded_order, read_by}
use Rattle.sheet.specs.Operations.{operations}
use Rattle.sheet.specs.Sheet.{table, read_order, framed, ends, run_from, run_of}
use Rattle.sheet.specs.Entry.{sizes_accepted, state_after_run, finished, entry_result}

-- "an empty sheet"
empty : run_of document_limits [] 8 ≡ ends 0 fresh
unfolding run_from
empty = refl

-- a length that ends early, one that is not the shortest, and one beyond the sheet
faulty : (run_of document_limits (128 ∷ []) 8 ≡ ends 10 fresh) × (run_of document_limits (128 ∷ 0 ∷ []) 8 ≡ ends 10 fresh) × (run_of document_limits (2 ∷ 8 ∷ []) 8 ≡ ends 10 fresh)
unfolding run_from groups
faulty = (refl, refl, refl)

-- "an empty order (1)", and the same with no space for its answer
blank : ((run_of document_limits (0 ∷ []) 8).answers ≡ 1 ∷ 1 ∷ []) × ((run_of document_limits (0 ∷ []) 8).orders ≡ 1) × (run_of document_limits (0 ∷ []) 1 ≡ ends 11 fresh)
unfolding run_from groups framed read_by read_order row_in table session_orders operations kinded_order
blank = (refl, refl, refl)

-- an area is too short: nothing is written
unfit : entry_result document_limits 2 (0 ∷ []) (7 ∷ []) (1 ∷ 2 ∷ []) (3 ∷ 4 ∷ []) (5 ∷ []) (6 ∷ 7 ∷ []) ≡ finished 12 0 0 (7 ∷ []) (1 ∷ 2 ∷ []) (3 ∷ 4 ∷ []) (5 ∷ []) (6 ∷ 7 ∷ [])
unfolding entry_result sizes_accepted
unfit = refl

-- bytes past the answers stay, and areas of any length are cleared
cleared : entry_result document_limits 2 (0 ∷ []) (7 ∷ 8 ∷ 9 ∷ []) (1 ∷ 2 ∷ []) (3 ∷ 4 ∷ []) (5 ∷ 6 ∷ 7 ∷ []) (8 ∷ 9 ∷ [])
    ≡ finished 0 1 2 (1 ∷ 1 ∷ 9 ∷ []) (0 ∷ 0 ∷ []) (0 ∷ 0 ∷ []) (0 ∷ 0 ∷ 0 ∷ []) (0 ∷ 0 ∷ [])
unfolding entry_result sizes_accepted state_after_run run_from groups framed read_by read_order row_in table session_orders operations kinded_order
cleared = refl
