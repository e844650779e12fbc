-- Document 01's lines "Marked for the proved table", together, each on the definition of an order's bytes; and those "Run only" lines that compute in
-- little time.
use mathlib.Core.List.{List, [], ◌∷◌, ◌++◌}
use mathlib.Core.Option.{none}
use mathlib.Core.Path.{◌≡◌, refl}
use Prim.Native.Nat.{ℕ, zero, suc}
use native.Mathlib.Decide.{ℕ_discrete}
use Rattle.solver.specs.Terms.Result.{got, refused}
use Rattle.solver.specs.Terms.Number.{number, groups, digits, shortest}
use Rattle.solver.specs.Terms.Reading as reading
use Rattle.solver.specs.Terms.Shape.{kind_of}
use Rattle.solver.specs.Terms.Term.{size, bytes}
use Rattle.solver.specs.Terms.Tree.{nums, subs, fill, children, with_kids, row, tag, nominal_slot, projection_slot, class, slot_by, same, look_up, interface_of, receiver_of, member_of, arguments_of}
use Rattle.solver.specs.Terms.Questions.{among, meets, first, second, counted_by, entered_by, answered}
use Rattle.solver.specs.Terms.Normal.{visit_kids, member_from, trait_member, own_member, replacement, walk_by, by_rules}
use Rattle.solver.specs.Terms.Comparison.{conflicts_with, collection_access, read_only_view, can_weaken_to}
use Rattle.solver.specs.Theory.Solver.{put}
use Rattle.solver.specs.Families as families
use Rattle.solver.specs.Shapes as shapes
use Rattle.solver.specs.Constrain as solving
use Rattle.solver.specs.Session as session
use Rattle.solver.specs.Session.{document_limits, fresh, at}
use Rattle.solver.specs.Orders as orders
use Rattle.sheet.specs.Fields.{field, fields, rule_list, rule_nodes, nodes, all_nodes, nth, number_of, term_of, rules_of}
use Rattle.sheet.specs.OrderTable.{refusal, outcome, session_orders, row_in, layout, known, kinded_order, read_by}
use Rattle.sheet.specs.Operations.{bits, settled, operations}
use Rattle.sheet.specs.Sheet.{table, read_order, step, framed, answer_of, order_of, ends, run_from, run_of}
use Rattle.sheet.specs.OrdersInTurn.{session_after, answers_to}

-- the bytes of a Set of I32 with an access, before others: 0 ReadOnly, 1 Mutable
abbrev set : ℕ → List ℕ → List ℕ
set a bs = 0x0b ∷ a ∷ 0x04 ∷ 0x02 ∷ bs

-- ---- numbers

pub record NumberLines : Type 0 where
  -- "`7f` is 127; `80 01` 128; `80 00` refusal 3; `ff ff ff ff 0f` 4294967295; `80 80 80 80 10` refusal 3"
  pub seven_bits : number 4294967295 (0x7f ∷ []) 0 ≡ got 127 1
  pub eight_bits : number 4294967295 (0x80 ∷ 0x01 ∷ []) 0 ≡ got 128 2
  pub not_shortest : number 4294967295 (0x80 ∷ 0x00 ∷ []) 0 ≡ refused 3
  pub largest : number 4294967295 (0xff ∷ 0xff ∷ 0xff ∷ 0xff ∷ 0x0f ∷ []) 0 ≡ got 4294967295 5
  pub too_large : number 4294967295 (0x80 ∷ 0x80 ∷ 0x80 ∷ 0x80 ∷ 0x10 ∷ []) 0 ≡ refused 3
  -- as the site of an order 0 with slot 0
  pub site_127 : (order_of document_limits fresh (0x00 ∷ 0x7f ∷ 0x00 ∷ [])).session.places ≡ at 127 0 ∷ []
  pub site_128 : (order_of document_limits fresh (0x00 ∷ 0x80 ∷ 0x01 ∷ 0x00 ∷ [])).session.places ≡ at 128 0 ∷ []
  pub site_not_shortest : (order_of document_limits fresh (0x00 ∷ 0x80 ∷ 0x00 ∷ 0x00 ∷ [])).answer ≡ refusal 3
  pub site_largest : (order_of document_limits fresh (0x00 ∷ 0xff ∷ 0xff ∷ 0xff ∷ 0xff ∷ 0x0f ∷ 0x00 ∷ [])).session.places ≡ at 4294967295 0 ∷ []
  pub site_too_large : (order_of document_limits fresh (0x00 ∷ 0x80 ∷ 0x80 ∷ 0x80 ∷ 0x80 ∷ 0x10 ∷ 0x00 ∷ [])).answer ≡ refusal 3

numbers : NumberLines
unfolding groups digits shortest bytes session.same_place session.find orders.variable_step orders.order layout field fields known kinded_order read_by read_order row_in table session_orders operations nth number_of step answer_of
numbers = record {
  seven_bits = refl;
  eight_bits = refl;
  not_shortest = refl;
  largest = refl;
  too_large = refl;
  site_127 = refl;
  site_128 = refl;
  site_not_shortest = refl;
  site_largest = refl;
  site_too_large = refl;
}

-- ---- access marks, and Unknown in a projection

pub record TermLines : Type 0 where
  -- "ReadOnly and Mutable Set of I32 conflict yet constrain compatibly": orders 9 and 4
  pub conflict : (order_of document_limits fresh (0x09 ∷ set 0 (set 1 []))).answer ≡ outcome (1 ∷ [])
  pub compatible : (order_of document_limits fresh (0x04 ∷ 0x09 ∷ set 0 (set 1 []))).answer ≡ outcome (1 ∷ [])
  -- "Mutable weakens to ReadOnly, not back": order 10
  pub weakens : (order_of document_limits fresh (0x0a ∷ set 1 (set 0 []))).answer ≡ outcome (1 ∷ [])
  pub not_back : (order_of document_limits fresh (0x0a ∷ set 0 (set 1 []))).answer ≡ outcome (0 ∷ [])
  -- "a projection with receiver Unknown is unresolved but `contains_unknown` is 0": the fourth and fifth of the answers to order 15
  pub projection : (order_of document_limits fresh (0x0f ∷ 0x12 ∷ 0x02 ∷ 0x07 ∷ 0x00 ∷ 0x00 ∷ 0x04 ∷ 0x00 ∷ [])).answer ≡ outcome (0 ∷ 0 ∷ 0 ∷ 1 ∷ 0 ∷ 0 ∷ 1 ∷ [])

terms : TermLines
unfolding groups digits shortest reading.code reading.rising reading.variable reading.many reading.pairs reading.row reading.kinded reading.term kind_of size bytes nums subs children row tag class same among meets first second counted_by entered_by
    conflicts_with collection_access read_only_view can_weaken_to ℕ_discrete put families.family_of families.among families.belongs families.belongs_row shapes.loose shapes.blank shapes.blank_row shapes.unmarked shapes.read
    shapes.same_shape shapes.turned solving.replace solving.followed solving.resolve solving.follow solving.recovery solving.is solving.projects solving.admit solving.bind₁ solving.bind₀ solving.bind solving.zip_on
    solving.decompose solving.differ solving.match solving.check_pair solving.settles orders.verdict_code orders.solver_of orders.beyond orders.order layout field fields known kinded_order read_by read_order row_in table session_orders operations nodes all_nodes nth number_of term_of bits answered step answer_of
terms = record { conflict = refl; compatible = refl; weakens = refl; not_back = refl; projection = refl }

-- ---- cancelled

-- the bar's session up to its first pair, Array(?0) with Array(Tuple(?1, I32)), with k
abbrev first_pair : ℕ → List (List ℕ)
first_pair k =
    (0x00 ∷ 0x07 ∷ 0x00 ∷ []) ∷ (0x00 ∷ 0x08 ∷ 0x00 ∷ []) ∷ (0x04 ∷ k ∷ 0x09 ∷ 0x01 ∷ 0x00 ∷ 0x09 ∷ 0x05 ∷ 0x02 ∷ 0x01 ∷ 0x01 ∷ 0x04 ∷ 0x02 ∷ []) ∷ []

-- then ?0 resolved, and the revision
abbrev asked : ℕ → List (List ℕ)
asked k = first_pair k ++ (0x05 ∷ 0x01 ∷ 0x00 ∷ []) ∷ (0x08 ∷ []) ∷ []

pub record CheckLines : Type 0 where
  -- "the session's first pair with k = 1 is cancelled unbound": the variables are answered, then 2; ?0 resolves to itself, and the revision is 0
  pub one_check : answers_to document_limits fresh (asked 1)
      ≡ 3 ∷ 0 ∷ 1 ∷ 0 ∷ 3 ∷ 0 ∷ 1 ∷ 1 ∷ 2 ∷ 0 ∷ 2 ∷ 3 ∷ 0 ∷ 1 ∷ 0 ∷ 2 ∷ 0 ∷ 0 ∷ []
  pub unbound : (session_after document_limits fresh (first_pair 1)).solver.bindings 0 ≡ none
  -- "with k = 2 it binds": 1; ?0 resolves to the Tuple, and the revision is 1
  pub two_checks : answers_to document_limits fresh (asked 2)
      ≡ 3 ∷ 0 ∷ 1 ∷ 0 ∷ 3 ∷ 0 ∷ 1 ∷ 1 ∷ 2 ∷ 0 ∷ 1 ∷ 7 ∷ 0 ∷ 5 ∷ 2 ∷ 1 ∷ 1 ∷ 4 ∷ 2 ∷ 2 ∷ 0 ∷ 1 ∷ []

cancelled : CheckLines
unfolding answers_to session_after groups digits shortest reading.code reading.rising reading.variable reading.many reading.row reading.kinded reading.term kind_of size bytes nums subs children row tag class same among meets
    ℕ_discrete put families.family_of families.among families.belongs families.belongs_row shapes.loose shapes.blank shapes.blank_row shapes.unmarked shapes.read shapes.same_shape shapes.turned solving.replace solving.followed
    solving.resolve solving.follow solving.recovery solving.is solving.projects solving.admit solving.bind₁ solving.bind₀ solving.bind solving.zip_on solving.decompose solving.differ solving.match solving.check_pair solving.settles
    session.same_place session.find orders.verdict_code orders.solver_of orders.beyond orders.variable_step orders.order layout field fields known kinded_order read_by read_order row_in table session_orders operations nth number_of term_of step framed answer_of
cancelled = record { one_check = refl; unbound = refl; two_checks = refl }

-- THE MARKED LINES, together
pub record MarkedLines : Type 0 where
  pub of_numbers : NumberLines
  pub of_terms : TermLines
  pub of_checks : CheckLines

pub marked : MarkedLines
marked = record { of_numbers = numbers; of_terms = terms; of_checks = cancelled }

-- ---- run only

-- the bytes of so many Arrays, one in the other, before others
abbrev arrays : ℕ → List ℕ → List ℕ
arrays zero bs = bs
arrays (suc n) bs = 0x09 ∷ arrays n bs

-- a projection of the member 4 of the interface 7, with the receiver's bytes
abbrev proj : List ℕ → List ℕ
proj bs = 0x12 ∷ bs ++ 0x07 ∷ 0x00 ∷ 0x00 ∷ 0x04 ∷ 0x00 ∷ []

pub record RunOnlyLines : Type 0 where
  -- "an empty sheet"
  pub empty_sheet : run_of document_limits [] 32768 ≡ ends 0 fresh
  -- "an empty order (1)"
  pub empty_order : ((run_of document_limits (0x00 ∷ []) 32768).answers ≡ 1 ∷ 1 ∷ []) × ((run_of document_limits (0x00 ∷ []) 32768).orders ≡ 1) × ((run_of document_limits (0x00 ∷ []) 32768).reason ≡ 0)
  -- "200 and 201 levels": Unknown under Arrays, order 15
  pub level_200 : (order_of document_limits fresh (0x0f ∷ arrays 199 (0x02 ∷ []))).answer ≡ outcome (0 ∷ 0 ∷ 0 ∷ 1 ∷ 1 ∷ 0 ∷ 0 ∷ [])
  pub level_201 : (order_of document_limits fresh (0x0f ∷ arrays 200 (0x02 ∷ []))).answer ≡ refusal 4
  -- "a projection under 63 Arrays keeps receiver I32, under 64 gets Error there (no rules)": order 20
  pub under_63 : (order_of document_limits fresh (0x14 ∷ 0x00 ∷ arrays 63 (proj (0x04 ∷ 0x02 ∷ [])))).answer ≡ outcome (arrays 63 (proj (0x04 ∷ 0x02 ∷ [])))
  pub under_64 : (order_of document_limits fresh (0x14 ∷ 0x00 ∷ arrays 64 (proj (0x04 ∷ 0x02 ∷ [])))).answer ≡ outcome (arrays 64 (proj (0x03 ∷ [])))

pub run_only : RunOnlyLines
unfolding groups digits shortest reading.code reading.rising reading.variable reading.many reading.pairs reading.row reading.kinded reading.term kind_of size bytes nums subs fill children with_kids row tag nominal_slot projection_slot
    class slot_by same look_up interface_of receiver_of member_of arguments_of among meets first second counted_by entered_by answered visit_kids member_from trait_member own_member replacement walk_by by_rules layout field fields known kinded_order
    read_by read_order row_in table session_orders operations rule_list rule_nodes nodes all_nodes nth number_of term_of rules_of bits settled step framed answer_of run_from
run_only = record { empty_sheet = refl; empty_order = (refl, refl, refl); level_200 = refl; level_201 = refl; under_63 = refl; under_64 = refl }
