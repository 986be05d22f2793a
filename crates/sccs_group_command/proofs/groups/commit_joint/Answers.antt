use Rattle.sccs_group_command.proofs.OtherFiles.{members_others, memory_others}
use Rattle.sccs_group_command.proofs.Halves.{half_committed}
use Rattle.sccs_group_command.proofs.Wholes.{ends_by, memory_crash_points, plan_loses, stops_by}
use Rattle.std.proofs.Common.{Err, ap, refl, ◌∙◌}
use Rattle.sccs_group.proofs.GroupEnds.{commit_failed, commit_memory}
use Rattle.sccs_group_command.specs.Preparing.{made_names}
use Rattle.sccs_group_command.proofs.GroupEnds.{memory_committed}
use Rattle.sccs_group_command.proofs.GroupNames.{can_commit}
use Rattle.sccs_group_command.proofs.groups.commit_joint.Goals as goal

pub commit_group-requires-clause-members : goal.commit_group-requires-clause-members
commit_group-requires-clause-members g c = (can_commit c.args.made.now _ (c.requires.members) c.requires.may).0

pub commit_group-requires-clause-some : goal.commit_group-requires-clause-some
commit_group-requires-clause-some g c = (can_commit c.args.made.now _ (c.requires.members) c.requires.may).1

pub commit_group-requires-clause-few : goal.commit_group-requires-clause-few
commit_group-requires-clause-few g c = (can_commit c.args.made.now _ (c.requires.members) c.requires.may).2

pub abandon_all-requires : goal.abandon_all-requires
abandon_all-requires g c = c.requires.may.names

pub returns-in-Ok-clause-told : goal.returns-in-Ok-clause-told
returns-in-Ok-clause-told g c =
    c.in-Ok.ensures.ends.view

pub returns-in-Err-Memory-clause-told : goal.returns-in-Err-Memory-clause-told
returns-in-Err-Memory-clause-told g c =
    memory_committed c.abandon_all.result (made_names c.args.made.now) c.args.joint.now.members _ _ _
    (commit_memory c.commit_group.result c.args.joint.now.members _ _ (c.in-Err-Memory.is
    ∙ ap Err c.in-Err-Memory.field-0-is) c.commit_group.ensures.ends).view c.abandon_all.ensures.gives_back

pub returns-in-Ok-clause-crash_points : goal.returns-in-Ok-clause-crash_points
returns-in-Ok-clause-crash_points g c = ends_by c.args.made.now _ _ _ (c.requires.members) c.in-Ok.ensures.ends.ends

pub returns-in-Err-Failed-clause-crash_points : goal.returns-in-Err-Failed-clause-crash_points
returns-in-Err-Failed-clause-crash_points g c = stops_by c.args.made.now _ _ _ (c.requires.members)
    (commit_failed c.commit_group.result c.args.joint.now.members _ _ (c.in-Err-Failed.is
    ∙ ap Err c.in-Err-Failed.field-0-is) c.commit_group.ensures.ends).stops

pub returns-in-Err-Memory-clause-crash_points : goal.returns-in-Err-Memory-clause-crash_points
returns-in-Err-Memory-clause-crash_points g c =
    memory_crash_points c.abandon_all.result (made_names c.args.made.now) c.args.made.now _ _ _ _
    c.abandon_all.ensures.gives_back
    (plan_loses (made_names c.args.made.now) _ (g.D.Disk.told c.commit_group.new.disk) _ c.requires.may.names
    (commit_memory c.commit_group.result c.args.joint.now.members _ _ (c.in-Err-Memory.is
    ∙ ap Err c.in-Err-Memory.field-0-is) c.commit_group.ensures.ends).touches c.abandon_all.ensures.before)

pub returns-in-Err-Failed-clause-told : goal.returns-in-Err-Failed-clause-told
returns-in-Err-Failed-clause-told g c = half_committed c.args.made.now c.args.joint.now.members _ _ _ refl
    c.requires.members (commit_failed c.commit_group.result c.args.joint.now.members _ _ (c.in-Err-Failed.is
    ∙ ap Err c.in-Err-Failed.field-0-is) c.commit_group.ensures.ends).halfway

pub returns-in-Ok-clause-others : goal.returns-in-Ok-clause-others
returns-in-Ok-clause-others g c = members_others c.args.made.now _ _ _ (c.requires.members)
    c.commit_group.ensures.others

pub returns-in-Err-Failed-clause-others : goal.returns-in-Err-Failed-clause-others
returns-in-Err-Failed-clause-others g c = members_others c.args.made.now _ _ _ (c.requires.members)
    c.commit_group.ensures.others

pub returns-in-Err-Memory-clause-others : goal.returns-in-Err-Memory-clause-others
returns-in-Err-Memory-clause-others g c = memory_others c.args.made.now _ _ (g.D.Disk.told c.commit_group.new.disk) _
    (c.requires.members) c.commit_group.ensures.others c.abandon_all.ensures.touches
