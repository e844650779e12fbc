-- `decompose`. By the two ends.
use Rattle.solver.proofs.Laws.Definition.NotionLaws.{notion_codes}
use Rattle.solver.proofs.Laws.Checks.CheckContractLaws.{met_nodes, apart_left, apart_right, apart_both}
use Rattle.solver.proofs.Solver.decompose.Goals as goal

pub returns-in-At-At : goal.returns-in-At-At
returns-in-At-At c = record {
  after = λ s t u ps ts L M W. c.decompose_nodes.ensures.after s t u ps ts L (met_nodes (rw (c.in-At-At.is-0, c.in-At-At.is-1) at M)) W;
}

pub returns-in-At-Default : goal.returns-in-At-Default
returns-in-At-Default c = record {
  after = λ s t u ps ts L M W. rw c.checked.ensures (apart_right _ (notion_codes _) L W (rw (c.in-At-Default.is-0, c.in-At-Default.is-1) at M) c.meets_default.ensures);
}

pub returns-in-Default-At : goal.returns-in-Default-At
returns-in-Default-At c = record {
  after = λ s t u ps ts L M W.
      rw c.checked-in-Default-At.ensures
      (apart_left _ (notion_codes _) L W (rw (c.in-Default-At.is-0, c.in-Default-At.is-1) at M) c.meets_default-in-Default-At.ensures);
}

pub returns-in-Default-Default : goal.returns-in-Default-Default
returns-in-Default-Default c = record {
  after = λ s t u ps ts L M W.
      rw c.checked-in-Default-Default.ensures (apart_both _ (notion_codes _) L W (rw (c.in-Default-Default.is-0, c.in-Default-Default.is-1) at M));
}
