-- A plain field, told of the rules that are stored.
use Rattle.sheet.proofs.fields.PlainFieldFieldReader.read.Goals as goal

pub returns-clause-done : goal.returns-clause-done
returns-clause-done c = c.read_plain.ensures _
