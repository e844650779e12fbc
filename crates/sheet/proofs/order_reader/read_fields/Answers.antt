use mathlib.Core.Path.{◌∙◌}
use native.Mathlib.Omega.{arith}
use Rattle.solver.specs.Terms.Tokens.{area}
use Rattle.solver.proofs.Terms.Options.{handed_on}
use Rattle.solver.proofs.Terms.Shortest.{octets}
use Rattle.sheet.specs.Fields.{fields, all_nodes}
use Rattle.sheet.specs.OrderTable.{known}
use Rattle.sheet.specs.Words.OrderKinds.{kind_row}
use Rattle.sheet.specs.Words.FieldLayout.{sorts_of, all_items, FieldsHere}
use Rattle.sheet.proofs.Laws.Reading.FieldLaws.{fields_found}
use Rattle.sheet.proofs.Laws.Reading.StoredLaws.{stored_undo}
use Rattle.sheet.proofs.Laws.Reading.OrderLaws.{row_layout, order_refused, order_longer, order_done, here_as, ample_start}
use Rattle.sheet.proofs.order_reader.read_fields.Goals as goal
use Rattle.sheet.proofs.order_reader.read_fields.Goals.{In_ok-fields}

-- the fields that were read
here : (c : In_ok-fields)
    → FieldsHere c.args.s.now c.read_layout.new.rules (fields c.args.s.now (known (kind_row c.args.kind) c.args.x.issued) (sorts_of c.layout_of-sorts.result.now) 1) (record { at = 1; top = c.args.x.top; nodes = c.args.x.kept; limit = c.args.x.nodes }) (area c.args.kinds.now c.args.vals.now) (area c.read_layout.new.kinds c.read_layout.new.vals) c.in_ok-fields.fields c.read_layout.new.place
here c = here_as _ _ c.known_of-known.ensures c.in_ok-fields.ensures.done

pub read_layout-requires : goal.read_layout-requires
read_layout-requires c = record {
  ample = ample_start c.requires.room c.requires.tagged;
  free = c.requires.room.free;
  layout = row_layout _ _ c.requires.kinded _ c.layout_of-sorts.ensures;
}

pub returns-in_err-fields : goal.returns-in_err-fields
returns-in_err-fields c =
    let a = c.args in
    let e = c.in_err-fields.ensures.done in
    rw (handed_on _ _ c.from_residual.ensures.1) (order_refused a.s.now a.x.issued c.requires.tagged a.kind c.requires.kinded c.layout_of-sorts.ensures (rw c.known_of-known.ensures at e.0), e.1)

pub clear_tokens-requires : goal.clear_tokens-requires
clear_tokens-requires c =
    let x = here (goal.at.clear_tokens-requires c).In_ok-fields in
    let few = fields_found c.args.s.now (octets _ (λ i. omega (arith, c.type_inv.s i))) _ (sorts_of c.layout_of-sorts.result.now) 1 x.read _ x.is in
    omega (arith, x.stored.tokens, few.tokens)

pub returns-then-place-s : goal.returns-then-place-s
returns-then-place-s c =
    let a = c.args in
    let x = here (goal.at.returns-then-place-s c).In_ok-fields in
    (order_longer a.s.now a.x.issued c.requires.tagged a.kind c.requires.kinded c.layout_of-sorts.ensures x.is c.if-place-s.true, c.clear_tokens.ensures ∙ stored_undo _ _ _ c.requires.room.free _ (all_items x.read) (all_nodes x.read) _ x.stored (omega arith))

pub returns : goal.returns
returns c =
    let a = c.args in
    order_done a.s.now a.x.issued c.requires.tagged a.kind c.requires.kinded c.layout_of-sorts.ensures (octets _ (λ i. omega (arith, c.type_inv.s i))) c.read_layout.new.rules (area a.kinds.now a.vals.now) (area c.read_layout.new.kinds c.read_layout.new.vals) c.requires.room c.read_layout.auto.rules c.in_ok-fields.fields c.read_layout.new.place (here (goal.at.returns c).In_ok-fields) c.if-place-s.false
