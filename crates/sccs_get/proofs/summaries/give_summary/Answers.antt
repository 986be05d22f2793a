use Rattle.std.proofs.Common.{refl}
use Rattle.sccs_crash_points.proofs.Unlocked.{others_same}
use Rattle.sccs_crash_points.proofs.Untouched.{same_before}
use Rattle.sccs_summary.specs.SummaryFiles.{is_summary}
use Rattle.sccs_get.proofs.summaries.give_summary.Goals as goal

pub returns-in-No-clause-stops : goal.returns-in-No-clause-stops
returns-in-No-clause-stops g c = λ m past is calm. same_before m past (g.D.Disk.told c.args.disk.now) calm is

pub returns-in-No-clause-others : goal.returns-in-No-clause-others
returns-in-No-clause-others g c = others_same (is_summary c.args.name.now) (g.D.Disk.told c.args.disk.now)
    (g.D.Disk.told c.args.disk.now) refl

pub returns-in-Out-clause-stops : goal.returns-in-Out-clause-stops
returns-in-Out-clause-stops g c = λ m past is calm. same_before m past (g.D.Disk.told c.args.disk.now) calm is

pub returns-in-Out-clause-others : goal.returns-in-Out-clause-others
returns-in-Out-clause-others g c = others_same (is_summary c.args.name.now) (g.D.Disk.told c.args.disk.now)
    (g.D.Disk.told c.args.disk.now) refl

pub returns-in-Out-clause-causes : goal.returns-in-Out-clause-causes
returns-in-Out-clause-causes g c = c.print_summary.ensures.causes (g.D.Disk.faults c.args.disk.now)
