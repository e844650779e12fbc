-- The answers lie within the output.
use Rattle.std.proofs.Common.{sym}
use Rattle.std.proofs.Math.Seq.{length-take-le}
use Rattle.sheet.proofs.Laws.Run.EntryLaws.{bytes_inside}
use Rattle.checker.proofs.main.Goals as goal

pub slice_bounds-out-end : goal.slice_bounds-out-end
slice_bounds-out-end c = bytes_inside _ _ _ _ _ _ _ _ _ _ _ _ _ _ _ _ c.run_sheet-ran.ensures

pub slice_bounds-write_all-end : goal.slice_bounds-write_all-end
slice_bounds-write_all-end c = sym (length-take-le _ _ (bytes_inside _ _ _ _ _ _ _ _ _ _ _ _ _ _ _ _ c.run_sheet-ran.ensures))
