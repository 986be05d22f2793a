use Rattle.sccs_what.proofs.FileLaws.{flush_cut, flushed}
use Rattle.sccs_what.proofs.files.flush_after.Goals as goal

pub returns-in-Ok-clause-prints : goal.returns-in-Ok-clause-prints
returns-in-Ok-clause-prints g c = λ first bytes name front a b head file.
    flushed first bytes name front c.args.held.now a b (g.O.Sink.given c.args.out.now) (g.O.Sink.given c.flush.new.out)
    c.args.searched head file c.in-Ok.ensures.gives.ok

pub returns-in-Err-clause-prints : goal.returns-in-Err-clause-prints
returns-in-Err-clause-prints g c = λ first bytes name front a b head file.
    flush_cut first bytes name front c.args.held.now a b (g.O.Sink.given c.args.out.now)
    (g.O.Sink.given c.flush.new.out) c.args.searched head file c.in-Err.ensures.gives.err
