use Rattle.sccs_disk.specs.Told.{seen}
use Rattle.sccs_changes.proofs.ChangeCauses.{finish_causes}
use Rattle.sccs_get.proofs.GivingLaws.{placed_reported, placed_so}
use Rattle.sccs_get.proofs.steps.finish.Goals as goal

pub returns-clause-finishes : goal.returns-clause-finishes
returns-clause-finishes g c = placed_reported c.args.words.now c.args.name.now c.args.prepared.now c.report.result _ _ _
    _ _ _ c.in_ok-place.ensures.view (c.report.ensures.reports (seen (g.D.Disk.told c.place.new.disk)))

pub returns-clause-places : goal.returns-clause-places
returns-clause-places g c = placed_so c.args.words.now c.args.name.now c.args.prepared.now c.report.result
    (seen (g.D.Disk.told c.place.new.disk)) _ _ _ _ _ _ (c.report.ensures.reports
    (seen (g.D.Disk.told c.place.new.disk))) c.in_ok-place.ensures.calm

pub returns-clause-causes : goal.returns-clause-causes
returns-clause-causes g c = finish_causes c.report.result _ _ _ _ _ _ c.place.ensures.causes.later
    c.report.ensures.causes
