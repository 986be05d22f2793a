use Rattle.std.proofs.lemmas.Result.{err_from_is_err_and}
use Rattle.std.proofs.Common.{refl}
use Rattle.sccs_steps.specs.Calls.{scene}
use Rattle.sccs_steps.proofs.ReadingCrashPoints.{reading_crash_points}
use Rattle.sccs_steps.proofs.UnlockedSteps.{unlocked_reading}
use Rattle.sccs_changes.proofs.UnlockedChanges.{others_refused}
use Rattle.sccs_changes.specs.Utilities.{is_sfile}
use Rattle.sccs_edit.specs.Checks.{sact_keeps}
use Rattle.sccs_edit.specs.SactStep.{sact_action, sact_checks}
use Rattle.sccs_edit.proofs.SactLaws.{shown_causes, shown_speaks, shown_steps, unread_speaks, unread_steps, within_err}
use Rattle.sccs_edit.proofs.sact.SactUtility.step.Goals as goal

pub find_edits-requires : goal.find_edits-requires
find_edits-requires g c = is_sfile c.args.name.now c.requires

pub returns-clause-step : goal.returns-clause-step
returns-clause-step g c =
    shown_steps c.args.self.now.heading c.args.name.now c.in_ok-edits.edits c.show.result
    (g.D.Disk.told c.args.disk.now) (g.D.Disk.told c.find_edits.new.disk) _ _ _ _ _ c.find_edits.ensures.frame.same
    c.in_ok-edits.ensures.told c.show.ensures.shows

pub returns-clause-speaks : goal.returns-clause-speaks
returns-clause-speaks g c = shown_speaks c.args.self.now.heading c.args.name.now c.in_ok-edits.edits c.show.result _ _ _
    _ c.show.ensures.shows

pub returns-clause-causes : goal.returns-clause-causes
returns-clause-causes g c = shown_causes c.show.result _ _ _ _ _ _ _ c.find_edits.ensures.frame.later
    c.show.ensures.causes

pub returns-in_err-edits-clause-step : goal.returns-in_err-edits-clause-step
returns-in_err-edits-clause-step g c =
    let p = err_from_is_err_and c.from_residual.result c.from_residual.ensures.1 in
    rw (p.1, p.2) (unread_steps c.args.self.now.heading c.args.name.now c.in_err-edits.field-0.0
    (g.D.Disk.told c.args.disk.now) (g.D.Disk.told c.find_edits.new.disk) _ _ _ c.find_edits.ensures.frame.same
    c.in_err-edits.ensures.told)

pub returns-in_err-edits-clause-speaks : goal.returns-in_err-edits-clause-speaks
returns-in_err-edits-clause-speaks g c =
    let p = err_from_is_err_and c.from_residual.result c.from_residual.ensures.1 in
    rw (p.1, p.2) (unread_speaks c.in_err-edits.field-0.0 c.args.name.now _
    (within_err sact_checks c.in_err-edits.field-0.0 c.in_err-edits.ensures.checks))

pub returns-clause-crash_points : goal.returns-clause-crash_points
returns-clause-crash_points g c =
    reading_crash_points (sact_action c.args.self.now.heading) c.show.result c.args.name.now
    (g.I.Source.left c.args._input.now) (scene (g.D.Disk.told c.args.disk.now) (g.O.Sink.given c.args.out.now)
    (g.E.Sink.given c.args.err.now)) (scene (g.D.Disk.told c.find_edits.new.disk) (g.O.Sink.given c.show.new.out)
    (g.E.Sink.given c.show.new.err))
    (sact_keeps c.args.self.now.heading) refl c.find_edits.ensures.frame.same (returns-clause-step g c)

pub returns-in_err-edits-clause-crash_points : goal.returns-in_err-edits-clause-crash_points
returns-in_err-edits-clause-crash_points g c =
    reading_crash_points (sact_action c.args.self.now.heading) c.from_residual.result c.args.name.now
    (g.I.Source.left c.args._input.now) (scene (g.D.Disk.told c.args.disk.now) (g.O.Sink.given c.args.out.now)
    (g.E.Sink.given c.args.err.now)) (scene (g.D.Disk.told c.find_edits.new.disk) (g.O.Sink.given c.args.out.now)
    (g.E.Sink.given c.args.err.now))
    (sact_keeps c.args.self.now.heading) refl c.find_edits.ensures.frame.same (returns-in_err-edits-clause-step g c)

pub returns-clause-unlocked : goal.returns-clause-unlocked
returns-clause-unlocked g c = unlocked_reading (sact_action c.args.self.now.heading) c.args.name.now _ _
    c.find_edits.ensures.frame.same

pub returns-in_err-edits-clause-unlocked : goal.returns-in_err-edits-clause-unlocked
returns-in_err-edits-clause-unlocked g c =
    unlocked_reading (sact_action c.args.self.now.heading) c.args.name.now _ _ c.find_edits.ensures.frame.same

pub returns-clause-others : goal.returns-clause-others
returns-clause-others g c = others_refused (sact_action c.args.self.now.heading) c.args.name.now _ _
    c.find_edits.ensures.frame.same

pub returns-in_err-edits-clause-others : goal.returns-in_err-edits-clause-others
returns-in_err-edits-clause-others g c =
    others_refused (sact_action c.args.self.now.heading) c.args.name.now _ _ c.find_edits.ensures.frame.same
