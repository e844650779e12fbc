-- A number, and a token for it.
use Rattle.terms.proofs.Laws.Format.ValueLaws.{value_yes}
use Rattle.terms.proofs.values.read_value.Goals as goal

pub returns : goal.returns
returns c = rw c.keep_number.ensures.place (value_yes c.in_ok-v.ensures.found c.in_ok-v.ensures.within c.keep_number.ensures.areas)
