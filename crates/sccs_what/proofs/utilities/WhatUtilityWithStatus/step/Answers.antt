use Rattle.std.proofs.lemmas.Result.{err_from_is_err_and}
use Rattle.std.proofs.Common.{ℕ, Ok, Err, refl, sym, subst}
use Rattle.sccs_steps.specs.Actions.{SteppedAs}
use Rattle.sccs_steps.specs.Calls.{scene}
use Rattle.sccs_steps.proofs.ReadingCrashPoints.{quiet_speaks, reading_crash_points_as}
use Rattle.sccs_what.specs.Checks.{what_keeps}
use Rattle.sccs_what.specs.WhatStep.{what_action, what_checks}
use Rattle.sccs_what.proofs.ActionLaws.{code_within, fault_within, status_stepped}
use Rattle.sccs_what.proofs.utilities.WhatUtilityWithStatus.step.Goals as goal

pub returns-clause-step : goal.returns-clause-step
returns-clause-step g c =
    subst (λ (code : ℕ). SteppedAs (λ (status : ℕ). status) (what_action c.args.self.now.first)
    (Ok code) c.args.name.now (g.I.Source.left c.args._input.now)
    (scene (g.D.Disk.told c.args.disk.now) (g.O.Sink.given c.args.out.now) (g.E.Sink.given c.args._err.now))
    (scene (g.D.Disk.told c.what.new.disk) (g.O.Sink.given c.what.new.out) (g.E.Sink.given c.args._err.now)))
    (sym c.found_status.ensures)
    (status_stepped c.args.self.now.first c.args.name.now (Ok c.in_ok-found.found) (g.D.Disk.told c.args.disk.now)
    (g.D.Disk.told c.what.new.disk) (g.I.Source.left c.args._input.now)
    (g.O.Sink.given c.args.out.now) (g.O.Sink.given c.what.new.out) (g.E.Sink.given c.args._err.now)
    c.in_ok-found.ensures.meets)

pub returns-in_err-found-clause-step : goal.returns-in_err-found-clause-step
returns-in_err-found-clause-step g c =
    let p = err_from_is_err_and c.from_residual.result c.from_residual.ensures.1 in
    rw (p.1, p.2) (status_stepped c.args.self.now.first c.args.name.now (Err c.in_err-found.field-0.0)
    (g.D.Disk.told c.args.disk.now) (g.D.Disk.told c.what.new.disk) (g.I.Source.left c.args._input.now)
    (g.O.Sink.given c.args.out.now) (g.O.Sink.given c.what.new.out) (g.E.Sink.given c.args._err.now)
    c.in_err-found.ensures.meets)

pub returns-clause-crash_points : goal.returns-clause-crash_points
returns-clause-crash_points g c =
    reading_crash_points_as (λ (status : ℕ). status) (what_action c.args.self.now.first) (Ok c.found_status.result)
    c.args.name.now (g.I.Source.left c.args._input.now)
    (scene (g.D.Disk.told c.args.disk.now) (g.O.Sink.given c.args.out.now) (g.E.Sink.given c.args._err.now))
    (scene (g.D.Disk.told c.what.new.disk) (g.O.Sink.given c.what.new.out) (g.E.Sink.given c.args._err.now))
    (what_keeps c.args.self.now.first) refl c.in_ok-found.ensures.same (returns-clause-step g c)

pub returns-in_err-found-clause-crash_points : goal.returns-in_err-found-clause-crash_points
returns-in_err-found-clause-crash_points g c =
    reading_crash_points_as (λ (status : ℕ). status) (what_action c.args.self.now.first) c.from_residual.result
    c.args.name.now (g.I.Source.left c.args._input.now)
    (scene (g.D.Disk.told c.args.disk.now) (g.O.Sink.given c.args.out.now) (g.E.Sink.given c.args._err.now))
    (scene (g.D.Disk.told c.what.new.disk) (g.O.Sink.given c.what.new.out) (g.E.Sink.given c.args._err.now))
    (what_keeps c.args.self.now.first) refl c.in_err-found.ensures.same (returns-in_err-found-clause-step g c)

pub returns-clause-speaks : goal.returns-clause-speaks
returns-clause-speaks g c = quiet_speaks what_checks (Ok c.found_status.result) c.args.name.now
    (g.E.Sink.given c.args._err.now) (code_within what_checks c.found_status.result)

pub returns-in_err-found-clause-speaks : goal.returns-in_err-found-clause-speaks
returns-in_err-found-clause-speaks g c =
    let p = err_from_is_err_and c.from_residual.result c.from_residual.ensures.1 in
    rw (p.1, p.2) (quiet_speaks what_checks (Err c.in_err-found.field-0.0) c.args.name.now
    (g.E.Sink.given c.args._err.now) (fault_within what_checks c.in_err-found.field-0.0
    c.in_err-found.ensures.checks))
