use Rattle.sccs_group_command.proofs.OtherFiles.{back_others}
use Rattle.sccs_group_command.specs.Preparing.{made_names}
use Rattle.sccs_group_command.proofs.Wholes.{memory_crash_points}
use Rattle.std.proofs.Common.{refl}
use Rattle.sccs_group_command.proofs.GroupCause.{back_causes}
use Rattle.sccs_group_command.proofs.GroupEnds.{nothing_joint}
use Rattle.sccs_group_command.proofs.groups.finish.Goals as goal

pub abandon_all-requires : goal.abandon_all-requires
abandon_all-requires g c = c.requires.names

pub returns-in-Err-clause-told : goal.returns-in-Err-clause-told
returns-in-Err-clause-told g c = nothing_joint c.abandon_all.result c.args.made.now _ _ _ _
    c.abandon_all.ensures.gives_back

pub returns-in-Err-clause-causes : goal.returns-in-Err-clause-causes
returns-in-Err-clause-causes g c = back_causes _ c.abandon_all.result _ _ _ _ _ _ _ refl c.abandon_all.ensures.later
    c.abandon_all.ensures.cause c.abandon_all.ensures.gives_back

pub returns-in-Err-clause-crash_points : goal.returns-in-Err-clause-crash_points
returns-in-Err-clause-crash_points g c = memory_crash_points c.abandon_all.result (made_names c.args.made.now)
    c.args.made.now _ _ _ _ c.abandon_all.ensures.gives_back c.abandon_all.ensures.before

pub returns-in-Err-clause-others : goal.returns-in-Err-clause-others
returns-in-Err-clause-others g c = back_others c.args.made.now _ _ c.abandon_all.ensures.touches
