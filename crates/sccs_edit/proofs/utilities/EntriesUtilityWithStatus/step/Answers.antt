use Rattle.std.proofs.lemmas.Result.{err_from_is_err_and}
use Rattle.std.proofs.Common.{ℕ, Ok, Err, refl, sym, subst}
use Rattle.sccs_steps.specs.Actions.{SteppedAs}
use Rattle.sccs_steps.specs.Calls.{scene}
use Rattle.sccs_steps.proofs.ReadingCrashPoints.{quiet_speaks, reading_crash_points_as}
use Rattle.sccs_changes.proofs.UnlockedChanges.{others_refused}
use Rattle.sccs_changes.specs.Utilities.{is_sfile}
use Rattle.sccs_edit.specs.SactStep.{sact_checks}
use Rattle.sccs_edit.specs.Keeps.{pending_keeps}
use Rattle.sccs_edit.specs.PendingStep.{pending_action}
use Rattle.sccs_edit.proofs.PendingLaws.{code_within, status_stepped, within_answer}
use Rattle.sccs_edit.proofs.utilities.EntriesUtilityWithStatus.step.Goals as goal

pub pending-requires : goal.pending-requires
pending-requires g c = is_sfile c.args.name.now c.requires

pub returns-clause-step : goal.returns-clause-step
returns-clause-step g c =
    subst (λ (code : ℕ). SteppedAs (λ (status : ℕ). status) (pending_action c.args.self.now.whole)
    (Ok code) c.args.name.now (g.I.Source.left c.args._input.now)
    (scene (g.D.Disk.told c.args.disk.now) (g.O.Sink.given c.args.out.now) (g.E.Sink.given c.args._err.now))
    (scene (g.D.Disk.told c.pending.new.disk) (g.O.Sink.given c.pending.new.out) (g.E.Sink.given c.args._err.now)))
    (sym c.pending_status.ensures)
    (status_stepped c.args.self.now.whole c.args.name.now (Ok c.in_ok-found.found) (g.D.Disk.told c.args.disk.now)
    (g.D.Disk.told c.pending.new.disk) (g.I.Source.left c.args._input.now)
    (g.O.Sink.given c.args.out.now) (g.O.Sink.given c.pending.new.out) (g.E.Sink.given c.args._err.now)
    c.in_ok-found.ensures.meets)

pub returns-in_err-found-clause-step : goal.returns-in_err-found-clause-step
returns-in_err-found-clause-step g c =
    let p = err_from_is_err_and c.from_residual.result c.from_residual.ensures.1 in
    rw (p.1, p.2) (status_stepped c.args.self.now.whole c.args.name.now (Err c.in_err-found.field-0.0)
    (g.D.Disk.told c.args.disk.now) (g.D.Disk.told c.pending.new.disk) (g.I.Source.left c.args._input.now)
    (g.O.Sink.given c.args.out.now) (g.O.Sink.given c.pending.new.out) (g.E.Sink.given c.args._err.now)
    c.in_err-found.ensures.meets)

pub returns-clause-crash_points : goal.returns-clause-crash_points
returns-clause-crash_points g c =
    reading_crash_points_as (λ (status : ℕ). status) (pending_action c.args.self.now.whole) (Ok c.pending_status.result)
    c.args.name.now (g.I.Source.left c.args._input.now)
    (scene (g.D.Disk.told c.args.disk.now) (g.O.Sink.given c.args.out.now) (g.E.Sink.given c.args._err.now))
    (scene (g.D.Disk.told c.pending.new.disk) (g.O.Sink.given c.pending.new.out) (g.E.Sink.given c.args._err.now))
    (pending_keeps c.args.self.now.whole) refl c.in_ok-found.ensures.same (returns-clause-step g c)

pub returns-in_err-found-clause-crash_points : goal.returns-in_err-found-clause-crash_points
returns-in_err-found-clause-crash_points g c =
    reading_crash_points_as (λ (status : ℕ). status) (pending_action c.args.self.now.whole) c.from_residual.result
    c.args.name.now (g.I.Source.left c.args._input.now)
    (scene (g.D.Disk.told c.args.disk.now) (g.O.Sink.given c.args.out.now) (g.E.Sink.given c.args._err.now))
    (scene (g.D.Disk.told c.pending.new.disk) (g.O.Sink.given c.pending.new.out) (g.E.Sink.given c.args._err.now))
    (pending_keeps c.args.self.now.whole) refl c.in_err-found.ensures.same (returns-in_err-found-clause-step g c)

pub returns-clause-speaks : goal.returns-clause-speaks
returns-clause-speaks g c = quiet_speaks sact_checks (Ok c.pending_status.result) c.args.name.now
    (g.E.Sink.given c.args._err.now) (code_within sact_checks c.pending_status.result)

pub returns-in_err-found-clause-speaks : goal.returns-in_err-found-clause-speaks
returns-in_err-found-clause-speaks g c =
    let p = err_from_is_err_and c.from_residual.result c.from_residual.ensures.1 in
    rw (p.1, p.2) (quiet_speaks sact_checks (Err c.in_err-found.field-0.0) c.args.name.now
    (g.E.Sink.given c.args._err.now) (within_answer sact_checks c.in_err-found.field-0.0
    c.in_err-found.ensures.checks))

pub returns-clause-others : goal.returns-clause-others
returns-clause-others g c = others_refused (pending_action c.args.self.now.whole) c.args.name.now _ _
    c.in_ok-found.ensures.same

pub returns-in_err-found-clause-others : goal.returns-in_err-found-clause-others
returns-in_err-found-clause-others g c = others_refused (pending_action c.args.self.now.whole) c.args.name.now _ _
    c.in_err-found.ensures.same
