use Rattle.sccs_changes.proofs.ChangeCauses.{finish_causes}
use Rattle.sccs_disk.specs.Told.{seen}
use Rattle.sccs_changes.proofs.ReportLaws.{reported}
use Rattle.sccs_changes.proofs.StopEnds.{commits_reported}
use Rattle.sccs_changes.proofs.transactions.finish.Goals as goal

pub returns-in-Ok-clause-finishes : goal.returns-in-Ok-clause-finishes
returns-in-Ok-clause-finishes g c = reported c.report.result c.args.name.now c.args.prepared.now _ _ _ _ _ _
    c.in-Ok.ensures.view (c.report.ensures.reports _)

pub returns-in-Ok-clause-causes : goal.returns-in-Ok-clause-causes
returns-in-Ok-clause-causes g c = finish_causes c.report.result _ _ _ _ _ _ c.commit.ensures.causes.later
    c.report.ensures.causes

pub returns-in-Ok-clause-commits : goal.returns-in-Ok-clause-commits
returns-in-Ok-clause-commits g c = commits_reported c.report.result c.args.name.now c.args.prepared.now _ _ _ _
    (c.report.ensures.reports (seen (g.D.Disk.told c.args.disk.now))) c.in-Ok.ensures.calm
