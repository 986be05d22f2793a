use Rattle.std.proofs.Common.{drop}
use Rattle.sccs_rcs.proofs.PutRuns.{PutsSoFar}
use Rattle.sccs_rcs.proofs.bodies.put_runs.Given as goal

-- the runs so far were put
abbrev pub invariant-loop-run : goal.invariant-loop-run
invariant-loop-run g l =
    PutsSoFar l.fn.runs (drop l.run-index l.fn.runs) l.last l.fn.out l.out (g.D.Disk.told l.fn.disk)
    (g.D.Disk.told l.disk) (g.D.Disk.faults l.fn.disk) (g.D.Disk.faults l.disk)
