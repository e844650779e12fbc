-- `Solver::bind`. The request is handed on, and then the binding is put.
use Rattle.solver.specs.Session.{issued, with_solver}
use Rattle.solver.specs.Words.MethodContract.{requesting}
use Rattle.solver.proofs.Laws.Definition.ChainRecordLaws.{coming_requests}
use Rattle.solver.proofs.Solver.bind.Goals as goal

pub returns-clause-held : goal.returns-clause-held
returns-clause-held c =
    λ s t rs L C f h l w e.
    c.put_binding.ensures.held (with_solver s (requesting s.solver rs)) t (c.hand_request.ensures.held s t rs L C h w e) (coming_requests (issued s) s.solver rs C) f h l w
