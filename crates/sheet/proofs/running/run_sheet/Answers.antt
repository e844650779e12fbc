-- `run_sheet`: 12 first, and else the run.
use mathlib.Core.Path.{sym, ◌∙◌}
use native.Mathlib.Omega.{arith}
use lib.ListN.{length}
use Rattle.sheet.proofs.Laws.Run.EntryLaws.{suited, roomy_box, finish_unfit, finish_run}
use Rattle.sheet.proofs.running.run_sheet.Goals as goal

pub returns-then-not-within_bounds : goal.returns-then-not-within_bounds
returns-then-not-within_bounds c = finish_unfit _ _ _ _ _ _ _ _ (sym c.within_bounds.ensures ∙ c.if-not-within_bounds.true)

pub run_within-requires : goal.run_within-requires
run_within-requires c =
    let x = c.args in
    let s = suited 16384 (length x.sheet.now) (length x.out.now) (length x.a.now) (length x.b.now) (length x.c.now) (length x.d.now) (sym c.within_bounds.ensures ∙ c.if-not-within_bounds.false) in
    record { areas = (omega arith, s.a_size, s.b_size, s.c_size, s.d_size, roomy_box x.a.now x.b.now x.c.now x.d.now s.a_size s.b_size s.c_size s.d_size); room = (s.sheet_size, s.out_size) }

pub returns : goal.returns
returns c = finish_run _ _ _ _ _ _ _ _ _ (sym c.within_bounds.ensures ∙ c.if-not-within_bounds.false) c.run_within.ensures
