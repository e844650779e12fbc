-- `read_plain`: by the sort.
use Rattle.solver.specs.Terms.Tokens.{area}
use Rattle.sheet.specs.Fields.{field}
use Rattle.sheet.specs.Words.FieldLayout.{sort_of, plain_of}
use Rattle.sheet.proofs.Laws.Reading.PartLaws.{plain_tree, plain_list}
use Rattle.sheet.proofs.fields.read_plain.Goals as goal

pub returns-in-Number : goal.returns-in-Number
unfolding plain_of sort_of field
returns-in-Number c = λ ws. rw c.in-Number.is (c.number_field.ensures ws (area c.args.kinds.now c.args.vals.now) c.requires.free)

pub returns-in-Code : goal.returns-in-Code
unfolding plain_of sort_of field
returns-in-Code c = λ ws. rw c.in-Code.is (c.code_field.ensures ws (area c.args.kinds.now c.args.vals.now) c.requires.free)

pub returns-in-Bound : goal.returns-in-Bound
unfolding plain_of sort_of field
returns-in-Bound c = λ ws. rw c.in-Bound.is (c.bound_field.ensures ws (area c.args.kinds.now c.args.vals.now) c.requires.free)

pub returns-in-Parameters : goal.returns-in-Parameters
unfolding plain_of sort_of field
returns-in-Parameters c = λ ws. rw c.in-Parameters.is (c.parameters_field.ensures ws (area c.args.kinds.now c.args.vals.now) c.requires.free)

pub returns-in-Term : goal.returns-in-Term
returns-in-Term c =
    let a = c.args in
    rw (plain_tree a.s.now a.issued a.sort a.place.now.at c.in-Term.is) c.tree_field.ensures

pub returns-in-Entries : goal.returns-in-Entries
returns-in-Entries c =
    let a = c.args in
    rw (plain_list a.s.now a.issued a.sort a.place.now.at c.in-Entries.is) c.list_field.ensures
