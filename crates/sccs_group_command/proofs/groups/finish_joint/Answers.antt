use Rattle.sccs_group_command.proofs.Wholes.{reported_crash_points}
use Rattle.std.proofs.Common.{refl}
use Rattle.std.proofs.lemmas.Result.{err_from_is_err_and}
use Rattle.sccs_disk.specs.Told.{seen}
use Rattle.sccs_changes.proofs.ChangeCauses.{finish_causes}
use Rattle.sccs_group_command.proofs.GroupCause.{commit_causes}
use Rattle.sccs_group_command.proofs.GroupEnds.{cut_commit, reported}
use Rattle.sccs_group_command.proofs.groups.finish_joint.Goals as goal

pub commit_joint-requires-clause-members : goal.commit_joint-requires-clause-members
commit_joint-requires-clause-members g c = c.requires.joint.members_are

pub commit_joint-requires-clause-may : goal.commit_joint-requires-clause-may
commit_joint-requires-clause-may g c = c.requires.may

pub returns-clause-told : goal.returns-clause-told
returns-clause-told g c =
    reported c.report.result c.args.joint.now.said c.args.made.now c.args.joint.now.members _ _ _ _ _ _
    c.requires.joint.members_are c.requires.joint.report c.requires.joint.message c.in_ok-commit_joint.ensures.told
    (c.report.ensures.reports (seen (g.D.Disk.told c.commit_joint.new.disk)))

pub returns-clause-causes : goal.returns-clause-causes
returns-clause-causes g c = finish_causes c.report.result _ _ _ _ _ _ c.commit_joint.ensures.causes.later
    c.report.ensures.causes 0

pub returns-in_err-commit_joint-clause-told : goal.returns-in_err-commit_joint-clause-told
returns-in_err-commit_joint-clause-told g c =
    let e = err_from_is_err_and c.from_residual.result c.from_residual.ensures.1 in
    rw (e.1, e.2) (cut_commit c.in_err-commit_joint.field-0.0 c.args.made.now c.args.joint.now.members _ _ _ _
    c.requires.joint.members_are c.in_err-commit_joint.ensures.told)

pub returns-in_err-commit_joint-clause-causes : goal.returns-in_err-commit_joint-clause-causes
returns-in_err-commit_joint-clause-causes g c =
    let e = err_from_is_err_and c.from_residual.result c.from_residual.ensures.1 in
    rw (e.1, e.2) (commit_causes g.D.Disk.faults _ _ c.commit_joint.result _ c.in_err-commit_joint.field-0.0 _ _
    c.in_err-commit_joint.was refl c.commit_joint.ensures.causes)

pub returns-clause-crash_points : goal.returns-clause-crash_points
returns-clause-crash_points g c = reported_crash_points c.report.result c.args.joint.now.said c.args.made.now _ _
    _ _ (c.report.ensures.reports (seen (g.D.Disk.told c.commit_joint.new.disk)))
    c.in_ok-commit_joint.ensures.crash_points

pub returns-in_err-commit_joint-clause-crash_points : goal.returns-in_err-commit_joint-clause-crash_points
returns-in_err-commit_joint-clause-crash_points g c =
    let e = err_from_is_err_and c.from_residual.result c.from_residual.ensures.1 in
    rw (e.1, e.2) (c.in_err-commit_joint.ensures.crash_points)

pub returns-clause-others : goal.returns-clause-others
returns-clause-others g c = c.commit_joint.ensures.others

pub returns-in_err-commit_joint-clause-others : goal.returns-in_err-commit_joint-clause-others
returns-in_err-commit_joint-clause-others g c = c.commit_joint.ensures.others
