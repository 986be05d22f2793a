use Rattle.std.proofs.lemmas.Result.{err_from_is_err_and}
use Rattle.std.proofs.Common.{arith}
use Rattle.sccs_val.proofs.JudgingLaws.{given_causes, same_causes, write_causes}
use Rattle.sccs_val.proofs.steps.print_words.Goals as goal

pub returns-in-Ok-clause-causes : goal.returns-in-Ok-clause-causes
returns-in-Ok-clause-causes g c = given_causes c.in_ok-status.status _ _ _ _ c.give.ensures.later
    (c.in_ok-status.ensures.causes 0).disk_later

pub returns-clause-causes : goal.returns-clause-causes
returns-clause-causes g c = write_causes _ _ _ _ c.in-Err.ensures.later c.in-Err.ensures.cause
    (c.in_ok-status.ensures.causes 0).disk_later

pub returns-in_err-status-clause-causes : goal.returns-in_err-status-clause-causes
returns-in_err-status-clause-causes g c =
    let p = err_from_is_err_and c.from_residual.result c.from_residual.ensures.1 in
    rw (p.1, p.2) (same_causes c.in_err-status.field-0.0 (g.O.Sink.faults c.args.out.now) _ _
    (g.D.Disk.faults c.args.disk.now) _ (omega arith) (c.in_err-status.ensures.causes
    (g.O.Sink.faults c.args.out.now)))
