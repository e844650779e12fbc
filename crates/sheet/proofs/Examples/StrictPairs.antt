-- Order 22 as bytes: a strict clash of access does not meet the parts, equal access binds, and a binding keeps the access of the term that it was bound to.
use mathlib.Core.Path.{◌≡◌, refl}
use mathlib.Core.List.{List, [], ◌∷◌}
use Prim.Native.Nat.{ℕ}
use native.Mathlib.Decide.{ℕ_discrete}
use Rattle.solver.specs.Terms.Number.{groups, digits, shortest}
use Rattle.solver.specs.Terms.Reading as reading
use Rattle.solver.specs.Terms.Shape.{kind_of}
use Rattle.solver.specs.Terms.Term.{size, bytes}
use Rattle.solver.specs.Terms.Tree.{nums, subs, children, row, tag, class, same}
use Rattle.solver.specs.Terms.Questions.{among, meets}
use Rattle.solver.specs.Theory.Solver.{put}
use Rattle.solver.specs.Families as families
use Rattle.solver.specs.Shapes as shapes
use Rattle.solver.specs.Constrain as solving
use Rattle.solver.specs.Session as session
use Rattle.solver.specs.Session.{document_limits, fresh}
use Rattle.solver.specs.Orders as orders
use Rattle.sheet.specs.Fields.{field, fields, nth, number_of, term_of}
use Rattle.sheet.specs.OrderTable.{session_orders, row_in, layout, known, command_of, kinded_order, read_by}
use Rattle.sheet.specs.Operations.{operations}
use Rattle.sheet.specs.Sheet.{table, read_order, step, framed, answer_of}
use Rattle.sheet.specs.OrdersInTurn.{session_after, answers_to}

-- a variable
abbrev fresh_one : List ℕ
fresh_one = 0x00 ∷ 0x00 ∷ 0x00 ∷ []

-- an order of this kind: Set of ?0, ReadOnly, with Set of I32, by this access
abbrev sets : ℕ → ℕ → List ℕ
sets kind access = kind ∷ 0x09 ∷ 0x0b ∷ 0x00 ∷ 0x01 ∷ 0x00 ∷ 0x0b ∷ access ∷ 0x04 ∷ 0x02 ∷ []

-- ?0 resolved
abbrev resolved_one : List ℕ
resolved_one = 0x05 ∷ 0x01 ∷ 0x00 ∷ []

record Strict : Type 0 where
  -- the access clashes: incompatible, and ?0 stays free
  clash : answers_to document_limits fresh (fresh_one ∷ sets 0x16 0x01 ∷ resolved_one ∷ []) ≡ 3 ∷ 0 ∷ 1 ∷ 0 ∷ 2 ∷ 0 ∷ 0 ∷ 3 ∷ 0 ∷ 1 ∷ 0 ∷ []
  -- the same pair by order 4: compatible, and ?0 is I32
  loosely : answers_to document_limits fresh (fresh_one ∷ sets 0x04 0x01 ∷ resolved_one ∷ []) ≡ 3 ∷ 0 ∷ 1 ∷ 0 ∷ 2 ∷ 0 ∷ 1 ∷ 3 ∷ 0 ∷ 4 ∷ 2 ∷ []
  -- strictly with the same access: so it is too
  binds : answers_to document_limits fresh (fresh_one ∷ sets 0x16 0x00 ∷ resolved_one ∷ []) ≡ 3 ∷ 0 ∷ 1 ∷ 0 ∷ 2 ∷ 0 ∷ 1 ∷ 3 ∷ 0 ∷ 4 ∷ 2 ∷ []
  -- orders 23 and 24 are not listed
  unlisted : answers_to document_limits fresh (sets 0x17 0x00 ∷ sets 0x18 0x00 ∷ []) ≡ 1 ∷ 2 ∷ 1 ∷ 2 ∷ []

strict : Strict
unfolding answers_to session_after command_of groups digits shortest reading.code reading.rising reading.variable reading.many reading.row reading.kinded reading.term kind_of size bytes nums subs children row tag class same among meets
    ℕ_discrete put families.code families.among families.family_of families.belongs families.belongs_row shapes.loose shapes.exact shapes.blank shapes.blank_row shapes.unmarked shapes.read shapes.read_all shapes.same_shape
    shapes.turned solving.replace solving.followed solving.resolve solving.follow solving.recovery solving.is solving.projects solving.admit solving.bind₁ solving.bind₀ solving.bind solving.zip_on solving.decompose solving.differ
    solving.match solving.check_pair solving.settles session.same_place session.find orders.verdict_code orders.solver_of orders.beyond orders.variable_step orders.order layout field fields known kinded_order read_by read_order row_in table
    session_orders operations nth number_of term_of step framed answer_of
strict = record { clash = refl; loosely = refl; binds = refl; unlisted = refl }
