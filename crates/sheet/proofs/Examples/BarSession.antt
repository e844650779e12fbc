-- Document 01's bar session, by computation.
use mathlib.Core.List.{List, [], ◌∷◌}
use mathlib.Core.Path.{◌≡◌, refl}
use Prim.Native.Nat.{ℕ}
use native.Mathlib.Decide.{ℕ_discrete}
use Rattle.solver.specs.Session.{document_limits}
use Rattle.solver.specs.Terms.Number.{groups, digits, shortest}
use Rattle.solver.specs.Terms.Reading as reading
use Rattle.solver.specs.Terms.Shape.{kind_of}
use Rattle.solver.specs.Terms.Term.{size, bytes}
use Rattle.solver.specs.Terms.Tree.{nums, subs, children, row, tag, class, same}
use Rattle.solver.specs.Terms.Questions.{among, meets}
use Rattle.solver.specs.Theory.Solver.{put}
use Rattle.solver.specs.Families as families
use Rattle.solver.specs.Shapes as shapes
use Rattle.solver.specs.Constrain as solving
use Rattle.solver.specs.Session as session
use Rattle.solver.specs.Orders as orders
use Rattle.sheet.specs.Fields.{field, fields, nth, number_of, term_of}
use Rattle.sheet.specs.OrderTable.{layout, known, kinded_order, read_by, row_in, session_orders}
use Rattle.sheet.specs.Operations.{operations}
use Rattle.sheet.specs.Sheet.{table, read_order, step, framed, answer_of, run_from, run_of}

sheet : List ℕ
sheet = 3 ∷ 0 ∷ 7 ∷ 0 ∷ 3 ∷ 0 ∷ 8 ∷ 0 ∷ 12 ∷ 4 ∷ 9 ∷ 9 ∷ 1 ∷ 0 ∷ 9 ∷ 5 ∷ 2 ∷ 1 ∷ 1 ∷ 4 ∷ 2 ∷ 7 ∷ 4 ∷ 9 ∷ 1 ∷ 1 ∷ 9 ∷ 1 ∷ 0 ∷ 3 ∷ 5 ∷ 1 ∷ 0 ∷ 1 ∷ 8 ∷ []

answers : List ℕ
answers = 3 ∷ 0 ∷ 1 ∷ 0 ∷ 3 ∷ 0 ∷ 1 ∷ 1 ∷ 2 ∷ 0 ∷ 1 ∷ 2 ∷ 0 ∷ 0 ∷ 7 ∷ 0 ∷ 5 ∷ 2 ∷ 1 ∷ 1 ∷ 4 ∷ 2 ∷ 2 ∷ 0 ∷ 1 ∷ []

bar : ((run_of document_limits sheet 32768).answers ≡ answers) × ((run_of document_limits sheet 32768).reason ≡ 0) × ((run_of document_limits sheet 32768).orders ≡ 6)
unfolding sheet answers groups digits shortest reading.code reading.rising reading.variable reading.many reading.row reading.kinded reading.term kind_of size bytes nums subs children row tag class same among meets ℕ_discrete put families.family_of families.among families.belongs families.belongs_row shapes.loose shapes.blank shapes.blank_row shapes.unmarked shapes.read shapes.same_shape shapes.turned solving.replace solving.followed solving.resolve solving.follow solving.recovery solving.is solving.projects solving.admit solving.bind₁ solving.bind₀ solving.bind solving.zip_on solving.decompose solving.differ solving.match solving.check_pair solving.settles session.same_place session.find orders.verdict_code orders.solver_of orders.beyond orders.variable_step orders.order layout field fields known kinded_order read_by read_order row_in table session_orders operations nth number_of term_of step framed answer_of run_from
bar = (refl, refl, refl)

-- an output that is one byte too short for the last answer
short : ((run_of document_limits sheet 24).reason ≡ 11) × ((run_of document_limits sheet 24).orders ≡ 5)
unfolding sheet groups digits shortest reading.code reading.rising reading.variable reading.many reading.row reading.kinded reading.term kind_of size bytes nums subs children row tag class same among meets ℕ_discrete put families.family_of families.among families.belongs families.belongs_row shapes.loose shapes.blank shapes.blank_row shapes.unmarked shapes.read shapes.same_shape shapes.turned solving.replace solving.followed solving.resolve solving.follow solving.recovery solving.is solving.projects solving.admit solving.bind₁ solving.bind₀ solving.bind solving.zip_on solving.decompose solving.differ solving.match solving.check_pair solving.settles session.same_place session.find orders.verdict_code orders.solver_of orders.beyond orders.variable_step orders.order layout field fields known kinded_order read_by read_order row_in table session_orders operations nth number_of term_of step framed answer_of run_from
short = (refl, refl)
