-- Laws: the run of a sheet, and the call.
--   SplittingLaws  what a length says of the sheet
--   StartingLaws   the areas cleared, and a fresh session there
--   EntryLaws      the end of a run, and when there is one
--   RunLaws        a run in progress, and how it ends
--   CallLaws       what the contract of `sheet_run` says of the orders answered
pub mod SplittingLaws
pub mod StartingLaws
pub mod EntryLaws
pub mod RunLaws
pub mod CallLaws
