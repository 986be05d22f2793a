use Rattle.std.proofs.lemmas.Result.{err_from_is_err_and}
use Rattle.std.proofs.Common.{Bool, subst}
use Rattle.sccs_base.specs.NameSets.{names_in}
use Rattle.sccs_recovery.specs.Commands.{Says}
use Rattle.sccs_recovery.specs.RecoverStep.{found_text, freed_by}
use Rattle.sccs_recovery.proofs.RecoverCrashPoints.{fault_crash_points, fault_recovers, made_crash_points}
use Rattle.sccs_recovery.proofs.RecoverCrashPoints.{made_recovers, pending_named}
use Rattle.sccs_recovery.proofs.RecoveryEnds.{fault_causes, fault_speaks, fault_steps, faults_of, is_sfile, made_steps}
use Rattle.sccs_recovery.proofs.RecoveryEnds.{say_causes, say_speaks}
use Rattle.sccs_recovery.proofs.commands.RecoverUtility.step.Goals as goal

pub recover_free-requires : goal.recover_free-requires
recover_free-requires g c = is_sfile c.args.name.now c.requires

pub returns-clause-step : goal.returns-clause-step
returns-clause-step g c =
    made_steps (freed_by (names_in c.args.self.now.freed.now)) c.args.name.now c.in_ok-found.found c.say.result
    (g.D.Disk.told c.args.disk.now) (g.D.Disk.told c.recover_free.new.disk) _ _ _ _
    (is_sfile c.args.name.now c.requires) c.in_ok-found.ensures.ends.view c.in_ok-found.ensures.clean
    c.in_ok-found.ensures.checks (subst (λ (z : Bool). Says c.say.result (found_text c.args.name.now z)
    (g.O.Sink.given c.args.out.now) (g.O.Sink.given c.say.new.out)) c.was_locked.ensures c.say.ensures.says)

pub returns-clause-speaks : goal.returns-clause-speaks
returns-clause-speaks g c = say_speaks c.args.name.now (found_text c.args.name.now c.was_locked.result)
    c.say.result _ _ _ c.say.ensures.says

pub returns-clause-causes : goal.returns-clause-causes
returns-clause-causes g c = say_causes c.say.result _ _ _ _ _ _ c.recover_free.ensures.ends.later
    c.say.ensures.causes

pub returns-in_err-found-clause-step : goal.returns-in_err-found-clause-step
returns-in_err-found-clause-step g c =
    let p = err_from_is_err_and c.from_residual.result c.from_residual.ensures.1 in
    rw (p.1, p.2) (fault_steps (freed_by (names_in c.args.self.now.freed.now)) c.args.name.now c.in_err-found.field-0.0
    (g.D.Disk.told c.args.disk.now) (g.D.Disk.told c.recover_free.new.disk) _ _ _
    (is_sfile c.args.name.now c.requires)
    (faults_of c.args.name.now c.in_err-found.field-0.0 (g.D.Disk.told c.args.disk.now)
    (g.D.Disk.told c.recover_free.new.disk) _ _ c.in_err-found.ensures.checks c.in_err-found.ensures.pending
    c.in_err-found.ensures.ends))

pub returns-in_err-found-clause-speaks : goal.returns-in_err-found-clause-speaks
returns-in_err-found-clause-speaks g c =
    let p = err_from_is_err_and c.from_residual.result c.from_residual.ensures.1 in
    rw (p.1, p.2) (fault_speaks c.in_err-found.field-0.0 c.args.name.now _ c.in_err-found.ensures.ends.within.checks)

pub returns-in_err-found-clause-causes : goal.returns-in_err-found-clause-causes
returns-in_err-found-clause-causes g c =
    let p = err_from_is_err_and c.from_residual.result c.from_residual.ensures.1 in
    rw (p.1, p.2) (fault_causes c.in_err-found.field-0.0 _ _ _ _ _ c.recover_free.ensures.ends.later
    c.in_err-found.ensures.ends.within c.in_err-found.ensures.ends.cause)

pub returns-clause-crash_points : goal.returns-clause-crash_points
returns-clause-crash_points g c =
    made_crash_points (freed_by (names_in c.args.self.now.freed.now)) c.args.name.now c.in_ok-found.found c.say.result
    (g.D.Disk.told c.args.disk.now) (g.D.Disk.told c.recover_free.new.disk) (g.I.Source.left c.args._input.now)
    (g.O.Sink.given c.args.out.now) _ (g.E.Sink.given c.args._err.now) (is_sfile c.args.name.now c.requires)
    c.in_ok-found.ensures.ends.view c.in_ok-found.ensures.clean c.in_ok-found.ensures.checks
    (subst (λ (z : Bool). Says c.say.result (found_text c.args.name.now z) (g.O.Sink.given c.args.out.now)
    (g.O.Sink.given c.say.new.out)) c.was_locked.ensures c.say.ensures.says)
    c.recover_free.ensures.ends.story c.in_ok-found.ensures.ends.calm

pub returns-in_err-found-clause-crash_points : goal.returns-in_err-found-clause-crash_points
returns-in_err-found-clause-crash_points g c =
    let p = err_from_is_err_and c.from_residual.result c.from_residual.ensures.1 in
    rw (p.1, p.2) (fault_crash_points (freed_by (names_in c.args.self.now.freed.now)) c.args.name.now
    c.in_err-found.field-0.0 (g.D.Disk.told c.args.disk.now) (g.D.Disk.told c.recover_free.new.disk) (g.I.Source.left
    c.args._input.now) (g.O.Sink.given c.args.out.now) (g.E.Sink.given c.args._err.now) (is_sfile c.args.name.now
    c.requires) (faults_of c.args.name.now c.in_err-found.field-0.0 (g.D.Disk.told c.args.disk.now)
    (g.D.Disk.told c.recover_free.new.disk) _ _ c.in_err-found.ensures.checks c.in_err-found.ensures.pending
    c.in_err-found.ensures.ends) c.recover_free.ensures.ends.story c.recover_free.ensures.ends.firm
    c.in_err-found.ensures.ends.touches)

pub returns-clause-recovers : goal.returns-clause-recovers
returns-clause-recovers g c = λ never. made_recovers c.say.result (g.D.Disk.told c.args.disk.now)
    (g.D.Disk.told c.recover_free.new.disk) c.recover_free.ensures.ends.story c.recover_free.ensures.ends.firm
    c.in_ok-found.ensures.ends.calm

pub returns-in_err-found-clause-recovers : goal.returns-in_err-found-clause-recovers
returns-in_err-found-clause-recovers g c =
    let p = err_from_is_err_and c.from_residual.result c.from_residual.ensures.1 in
    rw (p.1, p.2) (λ never.
    fault_recovers c.in_err-found.field-0.0 c.args.name.now (g.D.Disk.told c.args.disk.now)
    (g.D.Disk.told c.recover_free.new.disk) (is_sfile c.args.name.now c.requires)
    (faults_of c.args.name.now c.in_err-found.field-0.0 (g.D.Disk.told c.args.disk.now)
    (g.D.Disk.told c.recover_free.new.disk) _ _ c.in_err-found.ensures.checks c.in_err-found.ensures.pending
    c.in_err-found.ensures.ends) c.recover_free.ensures.ends.story c.recover_free.ensures.ends.firm
    c.in_err-found.ensures.ends.touches)

pub returns-clause-others : goal.returns-clause-others
returns-clause-others g c = (
  λ changes. c.recover_free.ensures.ends.others,
  λ changes.
      pending_named c.args.name.now (g.D.Disk.told c.args.disk.now) (g.D.Disk.told c.recover_free.new.disk)
      c.recover_free.ensures.pending,
)

pub returns-in_err-found-clause-others : goal.returns-in_err-found-clause-others
returns-in_err-found-clause-others g c = (
  λ changes. c.recover_free.ensures.ends.others,
  λ changes.
      pending_named c.args.name.now (g.D.Disk.told c.args.disk.now) (g.D.Disk.told c.recover_free.new.disk)
      c.recover_free.ensures.pending,
)
