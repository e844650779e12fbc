-- `plain_request`.
use Rattle.solver.proofs.Laws.Table.RequestWordLaws.{plain_is}
use Rattle.solver.proofs.ranges.plain_request.Goals as goal

pub returns : goal.returns
returns c = plain_is c.args.fallback.code c.args.fallback.listed
