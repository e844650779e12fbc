-- `list_field`: a count, and what is kept after it.
use Rattle.sheet.proofs.Laws.Reading.PartLaws.{ample_after, list_after}
use Rattle.sheet.proofs.fields.list_field.Goals as goal

pub tree_field-requires-clause-ample : goal.tree_field-requires-clause-ample
tree_field-requires-clause-ample c = ample_after c.args.s.now c.args.place.now _ _ c.in_ok-count.ensures c.requires.ample

pub returns : goal.returns
returns c = λ ws. list_after c.args.s.now c.args.place.now _ _ c.in_ok-count.ensures ws c.args.issued c.args.sort _ _ _ (c.tree_field.ensures ws)
