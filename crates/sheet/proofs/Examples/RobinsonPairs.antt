-- Robinson's theorem for each plain pair, used on order bytes that the theorem on whole lists leaves out: after an incompatible pair, beside a number
-- variable, and after a cancelled pair.
use mathlib.Core.Bool.{false}
use mathlib.Core.Path.{◌≡◌, refl}
use mathlib.Core.List.{List, [], ◌∷◌}
use mathlib.Core.Logic.{inl, inr}
use Prim.Native.Nat.{ℕ}
use native.Mathlib.Decide.{ℕ_discrete}
use native.Mathlib.Omega.{arith}
use Rattle.solver.specs.Terms.Number.{groups, digits, shortest}
use Rattle.solver.specs.Terms.Reading as reading
use Rattle.solver.specs.Terms.Shape.{kind_of}
use Rattle.solver.specs.Terms.Term.{Term, var, node, end, num, size, bytes}
use Rattle.solver.specs.Terms.Tree.{nums, subs, children, row, tag, class, same}
use Rattle.solver.specs.Terms.Questions.{among, meets}
use Rattle.solver.specs.Theory.Solver.{put}
use Rattle.solver.specs.Families as families
use Rattle.solver.specs.Shapes as shapes
use Rattle.solver.specs.Shapes.{loose}
use Rattle.solver.specs.Constrain as solving
use Rattle.solver.specs.Session as session
use Rattle.solver.specs.Session.{document_limits, fresh}
use Rattle.solver.specs.Orders as orders
use Rattle.solver.specs.Demand3.{outside}
use Rattle.solver.proofs.Laws.Robinson.RobinsonPairLaws.{free_in, closed_in}
use Rattle.sheet.specs.Fields.{field, fields, nth, number_of, term_of}
use Rattle.sheet.specs.OrderTable.{outcome, session_orders, row_in, layout, known, command_of, kinded_order, read_by}
use Rattle.sheet.specs.Operations.{operations}
use Rattle.sheet.specs.Sheet.{table, read_order, step, framed, answer_of, order_of}
use Rattle.sheet.specs.OrdersInTurn.{accepted, session_after, answers_to}
use Rattle.sheet.specs.RobinsonBytes.{PlainOrder, AnsweredSo}
use Rattle.sheet.proofs.Laws.Bytes.RobinsonBytesLaws.{robinson_orders}

-- a variable; I32 and I64, incompatible
abbrev clashed : List (List ℕ)
clashed = (0x00 ∷ 0x00 ∷ 0x00 ∷ []) ∷ (0x04 ∷ 0x09 ∷ 0x04 ∷ 0x02 ∷ 0x04 ∷ 0x03 ∷ []) ∷ []

-- a number variable, and a variable
abbrev numbered : List (List ℕ)
numbered = (0x01 ∷ 0x05 ∷ 0x02 ∷ []) ∷ (0x00 ∷ 0x00 ∷ 0x00 ∷ []) ∷ []

-- a variable; the variable and I32 with no check, cancelled
abbrev cut : List (List ℕ)
cut = (0x00 ∷ 0x00 ∷ 0x00 ∷ []) ∷ (0x04 ∷ 0x00 ∷ 0x01 ∷ 0x00 ∷ 0x04 ∷ 0x02 ∷ []) ∷ []

-- the variable v and I32, nine checks
abbrev posed : ℕ → List ℕ
posed v = 0x04 ∷ 0x09 ∷ 0x01 ∷ v ∷ 0x04 ∷ 0x02 ∷ []

abbrev I32 : Term
I32 = node 4 (num 2 end)

abbrev after : List (List ℕ) → session.Session
after bs = session_after document_limits fresh bs

record Pairs : Type 0 where
  -- what came before
  before₁ : answers_to document_limits fresh clashed ≡ 3 ∷ 0 ∷ 1 ∷ 0 ∷ 2 ∷ 0 ∷ 0 ∷ []
  before₂ : answers_to document_limits fresh numbered ≡ 3 ∷ 0 ∷ 1 ∷ 0 ∷ 3 ∷ 0 ∷ 1 ∷ 1 ∷ []
  before₃ : answers_to document_limits fresh cut ≡ 3 ∷ 0 ∷ 1 ∷ 0 ∷ 2 ∷ 0 ∷ 2 ∷ []
  -- plain pairs all the same
  plain₁ : PlainOrder document_limits false (after clashed) (posed 0) 9 (var 0) I32
  plain₂ : PlainOrder document_limits false (after numbered) (posed 1) 9 (var 1) I32
  plain₃ : PlainOrder document_limits false (after cut) (posed 0) 9 (var 0) I32
  -- and their answers
  answer₁ : (order_of document_limits (after clashed) (posed 0)).answer ≡ outcome (1 ∷ [])
  answer₂ : (order_of document_limits (after numbered) (posed 1)).answer ≡ outcome (1 ∷ [])
  answer₃ : (order_of document_limits (after cut) (posed 0)).answer ≡ outcome (1 ∷ [])

pairs : Pairs
unfolding answers_to session_after command_of accepted groups digits shortest reading.code reading.rising reading.variable reading.many reading.row reading.kinded reading.term kind_of size bytes nums subs children row tag class same
    among meets ℕ_discrete put families.code families.among families.family_of families.belongs families.belongs_row shapes.loose shapes.blank shapes.blank_row shapes.unmarked shapes.read shapes.read_all
    shapes.same_shape shapes.turned solving.replace solving.followed solving.resolve solving.follow solving.recovery solving.is solving.projects solving.admit solving.bind₁ solving.bind₀ solving.bind solving.zip_on
    solving.decompose solving.differ solving.match solving.check_pair solving.settles session.same_place session.find orders.verdict_code orders.solver_of orders.beyond orders.variable_step orders.number_at orders.order outside layout field
    fields known kinded_order read_by read_order row_in table session_orders operations nth number_of term_of step framed answer_of
pairs = record {
  before₁ = refl;
  before₂ = refl;
  before₃ = refl;
  plain₁ = record { says = refl; taken = refl; left = free_in loose (after clashed) 0 refl refl; right = closed_in loose (after clashed) I32 I32 refl refl refl (λ v. refl) };
  plain₂ = record { says = refl; taken = refl; left = free_in loose (after numbered) 1 refl refl; right = closed_in loose (after numbered) I32 I32 refl refl refl (λ v. refl) };
  plain₃ = record { says = refl; taken = refl; left = free_in loose (after cut) 0 refl refl; right = closed_in loose (after cut) I32 I32 refl refl refl (λ v. refl) };
  answer₁ = refl;
  answer₂ = refl;
  answer₃ = refl;
}

-- the theorem, used on them
used : (bs : List (List ℕ)) (b : List ℕ) (t u : Term) → PlainOrder document_limits false (after bs) b 9 t u → (order_of document_limits (after bs) b).answer ≡ outcome (1 ∷ []) → AnsweredSo document_limits (after bs) b t u
used bs b t u p e = elim ((robinson_orders document_limits false bs t u).fewer 9 b p) [ inl q ↦ let x : ◌≡◌ {A = ℕ} 1 2 = cc (e, q) in absurd (omega arith) | inr y ↦ y ]

record Used : Type 0 where
  after_incompatible : AnsweredSo document_limits (after clashed) (posed 0) (var 0) I32
  beside_a_number : AnsweredSo document_limits (after numbered) (posed 1) (var 1) I32
  after_cancelled : AnsweredSo document_limits (after cut) (posed 0) (var 0) I32

each_used : Used
each_used = record {
  after_incompatible = used clashed (posed 0) (var 0) I32 pairs.plain₁ pairs.answer₁;
  beside_a_number = used numbered (posed 1) (var 1) I32 pairs.plain₂ pairs.answer₂;
  after_cancelled = used cut (posed 0) (var 0) I32 pairs.plain₃ pairs.answer₃;
}
