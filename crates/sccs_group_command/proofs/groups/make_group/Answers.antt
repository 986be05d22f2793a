use Rattle.sccs_crash_points.proofs.Unlocked.{others_same, unlocked_same}
use Rattle.sccs_group_command.specs.GroupStep.{names_of}
use Rattle.sccs_group_command.specs.Making.{is_own_of_names}
use Rattle.sccs_group_command.specs.Preparing.{sfiles_of}
use Rattle.sccs_group_command.proofs.Losing.{same_loses}
use Rattle.sccs_group_command.proofs.Wholes.{same_holds, stopped_crash_points}
use Rattle.std.proofs.Common.{Err, ap, ◌∙◌}
use Rattle.sccs_disk.specs.Told.{seen}
use Rattle.sccs_group_command.proofs.GroupEnds.{of_group, pending_group}
use Rattle.sccs_group_command.proofs.Speaking.{pending_speaks}
use Rattle.sccs_group_command.proofs.groups.make_group.Goals as goal

pub returns-in-Err-clause-told : goal.returns-in-Err-clause-told
returns-in-Err-clause-told g c = λ plain.
    pending_group c.args.stamp.now c.args.entries.now (sfiles_of (names_of c.args.entries.now)) _ c.in-Err.fault _ _ _ _
    c.own_name.ensures (ap seen c.check_none.ensures.frame.same) (λ is. c.check_none.ensures.frame.read (c.in-Err.is
    ∙ ap Err is)) (λ is. c.check_none.ensures.frame.write (c.in-Err.is ∙ ap Err is)) c.in-Err.ensures.told

pub returns-in-Err-clause-crash_points : goal.returns-in-Err-clause-crash_points
returns-in-Err-clause-crash_points g c = λ plain.
    stopped_crash_points (record { name = c.own_name.result; fault = c.in-Err.fault }) (names_of c.args.entries.now)
    (of_group c.args.stamp.now c.args.entries.now) _ _ (λ is. c.check_none.ensures.frame.write (c.in-Err.is
    ∙ ap Err is)) (same_holds _ _ (names_of c.args.entries.now) c.check_none.ensures.frame.same)
    (same_loses (names_of c.args.entries.now) _ _ c.check_none.ensures.frame.same)

pub returns-in-Err-clause-others : goal.returns-in-Err-clause-others
returns-in-Err-clause-others g c = others_same (is_own_of_names (names_of c.args.entries.now)) _ _
    c.check_none.ensures.frame.same

pub returns-in-Err-clause-unlocked : goal.returns-in-Err-clause-unlocked
returns-in-Err-clause-unlocked g c = λ plain. unlocked_same _ _ c.check_none.ensures.frame.same

pub returns-in-Err-clause-speaks : goal.returns-in-Err-clause-speaks
returns-in-Err-clause-speaks g c = pending_speaks c.check_none.result c.in-Err.fault (g.E.Sink.given c.args.err.now)
    c.in-Err.is c.check_none.ensures.refuses
