use Rattle.sccs_recovery.proofs.FinishRuns.{finish_runs}
use Rattle.sccs_recovery.proofs.finishing.finish.Goals as goal

pub returns-clause-run : goal.returns-clause-run
returns-clause-run g c = finish_runs c.finish_names.result _ _ _ _ _ _ _ _ _ _ c.finish_names.ensures.ends
    c.finish_names.ensures.others c.finish_names.ensures.causes
