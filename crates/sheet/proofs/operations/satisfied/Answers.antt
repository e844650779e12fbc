-- `satisfied`: two bytes.
use mathlib.Core.Path.{sym, ap, ◌∙◌}
use mathlib.Core.List.{List}
use Prim.Native.Nat.{ℕ}
use Rattle.solver.specs.Terms.TermsAtPlaces.{BareAt}
use Rattle.sheet.specs.declared.FieldSpots.{FieldSpots}
use Rattle.sheet.specs.OrderTable.{Answer}
use Rattle.sheet.specs.Operations.{bit}
use Rattle.sheet.proofs.Laws.Answering.AnswerLaws.{held_in, two_bytes}
use Rattle.sheet.proofs.Laws.Answering.OperationFieldLaws.{Satisfied, satisfied, replies_as}
use Rattle.sheet.proofs.operations.satisfied.Goals as goal

-- both nominals are bare and formed
bare_both : {ks vs : List ℕ} {o : FieldSpots} {w : Answer} → Satisfied ks vs o w → BareAt ks vs o.first.place × BareAt ks vs o.second.place
bare_both x = (record { row = x.has; held = x.first; fit = x.first_fit }, record { row = x.needs; held = x.second; fit = x.second_fit })

pub satisfies-x-requires : goal.satisfies-x-requires
satisfies-x-requires c =
    let x = ((satisfied _ _ _ _ _).asked c.requires.asks.1).1 in
    record { places = (held_in _ _ _ _ x.first, held_in _ _ _ _ x.second); nominals = bare_both x }

pub satisfies_for-y-requires : goal.satisfies_for-y-requires
satisfies_for-y-requires c =
    let x = ((satisfied _ _ _ _ _).asked c.requires.asks.1).1 in
    record { places = (held_in _ _ _ _ x.first, held_in _ _ _ _ x.second, held_in _ _ _ _ x.third); nominals = bare_both x; receiver = (x.receiver, x.third) }

pub returns : goal.returns
returns c =
    λ ws.
    replies_as (satisfied _ _ _ ws _) _ (λ w x.
    two_bytes _ _ _ _ (c.from.ensures ∙ ap bit (c.satisfies-x.ensures _ _ x.first x.second x.first_fit x.second_fit)) (c.from-2.ensures ∙ ap bit (c.satisfies_for-y.ensures _ _ _ x.first x.second x.third x.first_fit x.second_fit)) ∙ sym x.answer) _ _ _ _ c.write_bytes_answer.ensures
