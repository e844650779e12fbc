-- `show_flat`. By its tests.
use Rattle.std.proofs.Common.{rules, arith, ◌-◌}
use Rattle.terms.proofs.Laws.Format.WriteLaws.{spelt_short}
use Rattle.terms.proofs.showing.show_flat.Goals as goal

pub write_run-requires-clause-room : goal.write_run-requires-clause-room
write_run-requires-clause-room c =
    let a = c.args in
    omega (arith, c.requires.room, c.if-run-out.true, spelt_short a.tokens.now.kinds.now a.tokens.now.vals.now a.tokens.now.narrow.fits a.run.from (a.run.end - a.run.from))

pub returns-then-run-out-clause-kept : goal.returns-then-run-out-clause-kept
returns-then-run-out-clause-kept c =
    let a = c.args in
    let w = c.write_run.ensures in
    record {
      long = search rules;
      same = search rules;
      within =
          (omega (arith, w.next), omega (arith, w.next, c.requires.room, c.if-run-out.true, spelt_short a.tokens.now.kinds.now a.tokens.now.vals.now a.tokens.now.narrow.fits a.run.from (a.run.end - a.run.from)));
    }
