use Rattle.sccs_copies.proofs.FilterLaws.{ended_flushed, ended_left}
use Rattle.sccs_copies.proofs.copies.finish.Goals as goal

pub returns-clause-finishes : goal.returns-clause-finishes
returns-clause-finishes g c =
    ended_flushed g.F.BodyFilter.filter c.args.filter.now c.args.out.now c.finish.new.out c.flush.new.self _ _ _ _ _ _
    c.finish.result c.in_ok-finish.field-0 c.flush.result c.in_ok-flush.field-0 c.in_ok-finish.was
    c.if-not-branch.false c.in_ok-flush.was c.finish.ensures c.flush.ensures.puts

pub returns-in_err-flush-clause-finishes : goal.returns-in_err-flush-clause-finishes
returns-in_err-flush-clause-finishes g c =
    ended_left g.F.BodyFilter.filter c.args.filter.now c.args.out.now c.finish.new.out c.flush.new.self _ _ _ _ _ _
    c.finish.result c.in_ok-finish.field-0 c.flush.result c.in_err-flush.field-0.0
    c.from_residual-in_err-flush.result c.in_ok-finish.was c.in_err-flush.was c.from_residual-in_err-flush.ensures.1
    c.finish.ensures c.flush.ensures.puts
