use Rattle.std.proofs.lemmas.List.{drop_all}
use Rattle.sccs_writers.proofs.PutLaws.{still_there}
use Rattle.sccs_rcs.proofs.PutRuns.{none_so_far, run_cut, run_so_far, runs_whole}
use Rattle.sccs_rcs.proofs.bodies.put_runs.Goals as goal

pub loop-run-init : goal.loop-run-init
loop-run-init g c = none_so_far c.args.runs.now c.args.out.now _ _

pub put_run-requires : goal.put_run-requires
put_run-requires g c = still_there _ _ _ _ _ _ _ _ c.loop-run.invariant.puts c.requires

pub returns-in-Err : goal.returns-in-Err
returns-in-Err g c = run_cut c.in-Err.fault c.in-Err.is c.loop-run.invariant c.put_run.ensures

pub loop-run-preserved : goal.loop-run-preserved
loop-run-preserved g c =
    run_so_far c.args.runs.now c.loop-run.run-index c.run-item.result c.run-item.result c.loop-run.last
    c.region_behind-last.result c.args.out.now c.loop-run.out c.put_run.new.out _ _ _ _ _ _ c.put_run.result
    c.in_default.field-0 c.loop-run-test.true c.run-item.is c.region_behind-last.ensures c.in_default.is
    c.loop-run.invariant c.put_run.ensures

pub put_closes-requires : goal.put_closes-requires
put_closes-requires g c = still_there _ _ _ _ _ _ _ _ c.loop-run.invariant.puts c.requires

pub returns : goal.returns
returns g c = runs_whole c.args.runs.now _ (drop_all c.loop-run.run-index c.args.runs.now c.loop-run-test.false)
    c.loop-run.invariant c.put_closes.ensures
