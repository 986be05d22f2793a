use Rattle.sccs_steps.specs.Calls.{scene}
use Rattle.sccs_steps.proofs.ReadingCrashPoints.{reading_crash_points}
use Rattle.sccs_steps.proofs.UnlockedSteps.{unlocked_reading}
use Rattle.std.proofs.Common.{refl}
use Rattle.sccs_changes.proofs.UnlockedChanges.{others_refused}
use Rattle.sccs_alter.specs.CheckStep.{check_action, check_keeps}
use Rattle.sccs_alter.proofs.CheckLaws.{checked_speaks, checked_steps}
use Rattle.sccs_alter.proofs.checks.CheckUtility.step.Goals as goal

pub returns-clause-step : goal.returns-clause-step
returns-clause-step g c = checked_steps c.check_file.result c.args.name.now (g.D.Disk.told c.args.disk.now)
    (g.D.Disk.told c.check_file.new.disk) _ _ _ c.check_file.ensures.frame.same c.check_file.ensures.told

pub returns-clause-speaks : goal.returns-clause-speaks
returns-clause-speaks g c = checked_speaks c.check_file.result c.args.name.now _ c.check_file.ensures.checks

pub returns-clause-crash_points : goal.returns-clause-crash_points
returns-clause-crash_points g c =
    reading_crash_points check_action c.check_file.result c.args.name.now (g.I.Source.left c.args._input.now)
    (scene (g.D.Disk.told c.args.disk.now) (g.O.Sink.given c.args._out.now) (g.E.Sink.given c.args._err.now))
    (scene (g.D.Disk.told c.check_file.new.disk) (g.O.Sink.given c.args._out.now) (g.E.Sink.given c.args._err.now))
    check_keeps refl c.check_file.ensures.frame.same (returns-clause-step g c)

pub returns-clause-unlocked : goal.returns-clause-unlocked
returns-clause-unlocked g c = unlocked_reading check_action c.args.name.now _ _ c.check_file.ensures.frame.same

pub returns-clause-others : goal.returns-clause-others
returns-clause-others g c = others_refused check_action c.args.name.now _ _ c.check_file.ensures.frame.same
