-- Demand 3 used on two lists of order bytes: its premises can be met, on both sides of the first sentence.
use mathlib.Core.Path.{◌≡◌, refl}
use mathlib.Core.Bool.{false}
use mathlib.Core.List.{List, [], ◌∷◌}
use Prim.Native.Nat.{ℕ}
use native.Mathlib.Decide.{ℕ_discrete}
use native.Mathlib.Omega.{arith}
use Rattle.solver.specs.Terms.Number.{groups, digits, shortest}
use Rattle.solver.specs.Terms.Reading as reading
use Rattle.solver.specs.Terms.Shape.{kind_of}
use Rattle.solver.specs.Terms.Term.{Term, size, bytes}
use Rattle.solver.specs.Terms.Tree.{nums, subs, children, row, tag, class, same}
use Rattle.solver.specs.Terms.Questions.{among, meets, first}
use Rattle.solver.specs.Terms.Comparison.{conflicts_with}
use Rattle.solver.specs.Theory.Solver.{put}
use Rattle.solver.specs.Families as families
use Rattle.solver.specs.Shapes as shapes
use Rattle.solver.specs.Shapes.{loose}
use Rattle.solver.specs.Constrain as solving
use Rattle.solver.specs.Session as session
use Rattle.solver.specs.Session.{document_limits, issued}
use Rattle.solver.specs.Orders as orders
use Rattle.solver.specs.Demand3 as theirs
use Rattle.solver.specs.Demand3.{placed, outside, beginning, Demand3, Assigns, RespectsFamilies, MakesEqual, Agrees}
use Rattle.sheet.specs.Fields.{field, fields, nodes, all_nodes, nth, number_of, term_of}
use Rattle.sheet.specs.OrderTable.{session_orders, row_in, layout, known, command_of, kinded_order, read_by}
use Rattle.sheet.specs.Operations.{operations}
use Rattle.sheet.specs.Sheet.{table, read_order, step, framed, answer_of, run_from}
use Rattle.sheet.specs.OrdersInTurn.{orders_from, answered_orders}
use Rattle.sheet.specs.Commands.{commands}
use Rattle.sheet.specs.Demand3.{ByteString, ByteStrings, history_of, Premises}
use Rattle.sheet.proofs.Laws.Bytes.Demand3Bytes.{demand_3_bytes}
use Rattle.sheet.proofs.Laws.Bytes.Demand3Run.{demand_3_run}

-- document 01's sheet
abbrev sheet : List ℕ
sheet = 3 ∷ 0 ∷ 7 ∷ 0 ∷ 3 ∷ 0 ∷ 8 ∷ 0 ∷ 12 ∷ 4 ∷ 9 ∷ 9 ∷ 1 ∷ 0 ∷ 9 ∷ 5 ∷ 2 ∷ 1 ∷ 1 ∷ 4 ∷ 2 ∷ 7 ∷ 4 ∷ 9 ∷ 1 ∷ 1 ∷ 9 ∷ 1 ∷ 0 ∷ 3 ∷ 5 ∷ 1 ∷ 0 ∷ 1 ∷ 8 ∷ []

-- A number variable and a variable; an empty order, which is refused; an order 9; a pair of Tuples with a Set of either access; a default that finds
-- nothing to bind.
abbrev level : List (List ℕ)
level =
    (1 ∷ 1 ∷ 2 ∷ [])
    ∷ (0 ∷ 2 ∷ 0 ∷ [])
    ∷ []
    ∷ (9 ∷ 11 ∷ 0 ∷ 4 ∷ 2 ∷ 11 ∷ 1 ∷ 4 ∷ 2 ∷ [])
    ∷ (4 ∷ 9 ∷ 5 ∷ 2 ∷ 1 ∷ 0 ∷ 11 ∷ 0 ∷ 1 ∷ 1 ∷ 5 ∷ 2 ∷ 4 ∷ 4 ∷ 11 ∷ 1 ∷ 9 ∷ 1 ∷ 0 ∷ [])
    ∷ (6 ∷ [])
    ∷ []

answered_all : answered_orders document_limits sheet 32768
    ≡ (0 ∷ 7 ∷ 0 ∷ []) ∷ (0 ∷ 8 ∷ 0 ∷ []) ∷ (4 ∷ 9 ∷ 9 ∷ 1 ∷ 0 ∷ 9 ∷ 5 ∷ 2 ∷ 1 ∷ 1 ∷ 4 ∷ 2 ∷ []) ∷ (4 ∷ 9 ∷ 1 ∷ 1 ∷ 9 ∷ 1 ∷ 0 ∷ []) ∷ (5 ∷ 1 ∷ 0 ∷ []) ∷ (8 ∷ []) ∷ []
unfolding groups digits shortest reading.code reading.rising reading.variable reading.many reading.row reading.kinded reading.term kind_of size bytes nums subs children row tag class same among meets first conflicts_with ℕ_discrete put families.code families.among families.family_of families.belongs families.belongs_row shapes.loose shapes.blank shapes.blank_row shapes.unmarked shapes.read shapes.same_shape shapes.turned
    solving.replace solving.followed solving.resolve solving.follow solving.recovery solving.is solving.projects solving.joined solving.join solving.allow solving.admit solving.bind₁ solving.bind₀ solving.bind solving.zip_on solving.decompose solving.differ solving.match solving.check_pair solving.settles session.same_place session.find session.settle_at session.numeric_at session.numeric_defaults_of
    orders.verdict_code orders.solver_of orders.beyond orders.variable_step orders.number_at orders.order placed outside layout field fields known kinded_order read_by read_order row_in table session_orders operations nodes all_nodes nth number_of term_of step framed answer_of run_from command_of commands theirs.accepted theirs.says theirs.requested_by theirs.posed_by theirs.strict_by theirs.history orders_from
answered_all = refl

sheet_premises : Premises document_limits (answered_orders document_limits sheet 32768)
unfolding groups digits shortest reading.code reading.rising reading.variable reading.many reading.row reading.kinded reading.term kind_of size bytes nums subs children row tag class same among meets first conflicts_with ℕ_discrete put families.code families.among families.family_of families.belongs families.belongs_row shapes.loose shapes.blank shapes.blank_row shapes.unmarked shapes.read shapes.same_shape shapes.turned
    solving.replace solving.followed solving.resolve solving.follow solving.recovery solving.is solving.projects solving.joined solving.join solving.allow solving.admit solving.bind₁ solving.bind₀ solving.bind solving.zip_on solving.decompose solving.differ solving.match solving.check_pair solving.settles session.same_place session.find session.settle_at session.numeric_at session.numeric_defaults_of
    orders.verdict_code orders.solver_of orders.beyond orders.variable_step orders.number_at orders.order placed outside layout field fields known kinded_order read_by read_order row_in table session_orders operations nodes all_nodes nth number_of term_of step framed answer_of run_from command_of commands theirs.accepted theirs.says theirs.requested_by theirs.posed_by theirs.strict_by theirs.history orders_from
sheet_premises = record { allowed = (tt, (tt, (tt, (tt, (tt, (tt, tt)))))); pairs = (refl, refl, (refl, refl, tt)); none_cancelled = refl }

-- the revision before and after the default
two : ◌≡◌ {A = ℕ} 2 2
two = refl

level_premises : Premises document_limits level
unfolding groups digits shortest reading.code reading.rising reading.variable reading.many reading.row reading.kinded reading.term kind_of size bytes nums subs children row tag class same among meets first conflicts_with ℕ_discrete put families.code families.among families.family_of families.belongs families.belongs_row shapes.loose shapes.blank shapes.blank_row shapes.unmarked shapes.read shapes.same_shape shapes.turned
    solving.replace solving.followed solving.resolve solving.follow solving.recovery solving.is solving.projects solving.joined solving.join solving.allow solving.admit solving.bind₁ solving.bind₀ solving.bind solving.zip_on solving.decompose solving.differ solving.match solving.check_pair solving.settles session.same_place session.find session.settle_at session.numeric_at session.numeric_defaults_of
    orders.verdict_code orders.solver_of orders.beyond orders.variable_step orders.number_at orders.order placed outside layout field fields known kinded_order read_by read_order row_in table session_orders operations nodes all_nodes nth number_of term_of step framed answer_of run_from command_of commands theirs.accepted theirs.says theirs.requested_by theirs.posed_by theirs.strict_by theirs.history orders_from
level_premises = record { allowed = (refl, (tt, (tt, (two, tt)))); pairs = (refl, refl, tt); none_cancelled = refl }

sheet_bytes : ByteString sheet
unfolding ByteString
sheet_bytes = (omega arith, (omega arith, (omega arith, (omega arith, (omega arith, (omega arith, (omega arith, (omega arith, (omega arith, (omega arith, (omega arith, (omega arith, (omega arith, (omega arith, (omega arith, (omega arith, (omega arith, (omega arith, (omega arith, (omega arith, (omega arith, (omega arith, (omega arith, (omega arith, (omega arith, (omega arith, (omega arith, (omega arith, (omega arith, (omega arith, (omega arith, (omega arith, (omega arith, (omega arith, (omega arith, tt)))))))))))))))))))))))))))))))))))

level_bytes : ByteStrings level
unfolding ByteStrings ByteString
level_bytes = ((omega arith, (omega arith, (omega arith, tt))), ((omega arith, (omega arith, (omega arith, tt))), (tt, ((omega arith, (omega arith, (omega arith, (omega arith, (omega arith, (omega arith, (omega arith, (omega arith, (omega arith, tt))))))))), ((omega arith, (omega arith, (omega arith, (omega arith, (omega arith, (omega arith, (omega arith, (omega arith, (omega arith, (omega arith, (omega arith, (omega arith, (omega arith, (omega arith, (omega arith, (omega arith, (omega arith, (omega arith, (omega arith, tt))))))))))))))))))), ((omega arith, tt), tt))))))

-- the second pair was answered incompatible, so that no assignment makes both equal
no_assignment : (θ : ℕ → Term) → Assigns 2 θ → RespectsFamilies θ (history_of document_limits beginning (answered_orders document_limits sheet 32768)).requests
    → ¬ MakesEqual loose θ (history_of document_limits beginning (answered_orders document_limits sheet 32768)).posed
unfolding groups digits shortest reading.code reading.rising reading.variable reading.many reading.row reading.kinded reading.term kind_of size bytes nums subs children row tag class same among meets first conflicts_with ℕ_discrete put families.code families.among families.family_of families.belongs families.belongs_row shapes.loose shapes.blank shapes.blank_row shapes.unmarked shapes.read shapes.same_shape shapes.turned
    solving.replace solving.followed solving.resolve solving.follow solving.recovery solving.is solving.projects solving.joined solving.join solving.allow solving.admit solving.bind₁ solving.bind₀ solving.bind solving.zip_on solving.decompose solving.differ solving.match solving.check_pair solving.settles session.same_place session.find session.settle_at session.numeric_at session.numeric_defaults_of
    orders.verdict_code orders.solver_of orders.beyond orders.variable_step orders.number_at orders.order placed outside layout field fields known kinded_order read_by read_order row_in table session_orders operations nodes all_nodes nth number_of term_of step framed answer_of run_from command_of commands theirs.accepted theirs.says theirs.requested_by theirs.posed_by theirs.strict_by theirs.history orders_from
no_assignment = (demand_3_run document_limits false sheet sheet_bytes 32768 (refl, (refl, tt)) sheet_premises).0.first.0 refl

-- none was, so that the assignments that make the pair equal are those that agree with what ?0 and ?1 resolve to
agreeing : (θ : ℕ → Term) → Assigns 2 θ → RespectsFamilies θ (history_of document_limits beginning level).requests → Agrees loose θ (history_of document_limits beginning level).session → MakesEqual loose θ (history_of document_limits beginning level).posed
unfolding groups digits shortest reading.code reading.rising reading.variable reading.many reading.row reading.kinded reading.term kind_of size bytes nums subs children row tag class same among meets first conflicts_with ℕ_discrete put families.code families.among families.family_of families.belongs families.belongs_row shapes.loose shapes.blank shapes.blank_row shapes.unmarked shapes.read shapes.same_shape shapes.turned
    solving.replace solving.followed solving.resolve solving.follow solving.recovery solving.is solving.projects solving.joined solving.join solving.allow solving.admit solving.bind₁ solving.bind₀ solving.bind solving.zip_on solving.decompose solving.differ solving.match solving.check_pair solving.settles session.same_place session.find session.settle_at session.numeric_at session.numeric_defaults_of
    orders.verdict_code orders.solver_of orders.beyond orders.variable_step orders.number_at orders.order placed outside layout field fields known kinded_order read_by read_order row_in table session_orders operations nodes all_nodes nth number_of term_of step framed answer_of run_from command_of commands theirs.accepted theirs.says theirs.requested_by theirs.posed_by theirs.strict_by theirs.history orders_from
agreeing θ a t g = (((demand_3_bytes document_limits false level level_bytes (refl, tt) level_premises).second refl θ a).1 (t, g)).1
