-- A nominal, and a head stored before it.
use Rattle.std.proofs.Common.{refl}
use Rattle.terms.specs.Words.ReadContract.{Next, Stopped}
use Rattle.terms.proofs.Laws.General.Options.{handed_on}
use Rattle.terms.proofs.Laws.Format.ReadLaws.{bare_row}
use Rattle.terms.proofs.Laws.Format.ReadSequenceLaws.{bare_done}
use Rattle.terms.proofs.read.read_bare.Goals as goal

pub returns-in_err-read_nominal : goal.returns-in_err-read_nominal
returns-in_err-read_nominal c =
    let a = c.args in
    rw (handed_on _ _ c.from_residual.ensures.1, bare_row _ a.issued a.levels a.place.now.at) (bare_done _ a.place.now _ _ _ _ (Stopped _) c.in_err-read_nominal.ensures refl)

pub returns : goal.returns
returns c =
    let a = c.args in
    rw (bare_row _ a.issued a.levels a.place.now.at) (bare_done _ a.place.now _ _ _ _ (Next _) c.in_ok-read_nominal.ensures c.close_node.ensures)
