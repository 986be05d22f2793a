use Rattle.std.proofs.lemmas.Result.{err_from_is_err_and}
use Rattle.std.proofs.Common.{arith}
use Rattle.sccs_val.proofs.JudgingLaws.{memory_causes, ok_causes, same_causes}
use Rattle.sccs_val.proofs.judging.judge_operand.Goals as goal

pub returns-in_err-found-clause-causes : goal.returns-in_err-found-clause-causes
returns-in_err-found-clause-causes g c =
    let p = err_from_is_err_and c.from_residual.result c.from_residual.ensures.1 in
    rw (p.1, p.2) (λ out. same_causes c.in_err-found.field-0.0 out out _ (g.D.Disk.faults c.args.disk.now) _
    (omega arith) (c.in_err-found.ensures.causes out))

pub returns-in_default-clause-causes : goal.returns-in_default-clause-causes
returns-in_default-clause-causes g c = λ out. memory_causes out _ _ (c.in_ok-found.ensures.causes 0).disk_later

pub returns-clause-causes : goal.returns-clause-causes
returns-clause-causes g c = λ out. ok_causes c.bits.result out _ _ (c.in_ok-found.ensures.causes 0).disk_later
