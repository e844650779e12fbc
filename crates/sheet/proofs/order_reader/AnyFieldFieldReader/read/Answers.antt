-- A field of any sort: rules, or a plain field.
use Rattle.sheet.proofs.Laws.Reading.OrderLaws.{not_plain, sort_plain}
use Rattle.sheet.proofs.order_reader.AnyFieldFieldReader.read.Goals as goal

pub returns-in-Rules-clause-same : goal.returns-in-Rules-clause-same
returns-in-Rules-clause-same c = not_plain c.args.sort c.in-Rules.is

pub returns-in_default : goal.returns-in_default
returns-in_default c = rw (sort_plain c.args.sort c.in_default.not-Rules) c.read.ensures
