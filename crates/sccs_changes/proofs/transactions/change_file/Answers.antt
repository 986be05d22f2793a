use Rattle.std.proofs.Common.{Err, ap, refl, ◌∙◌}
use Rattle.sccs_base.specs.Name.{z_file}
use Rattle.sccs_disk.specs.Effects.{empty_file}
use Rattle.sccs_disk.specs.Told.{seen}
use Rattle.sccs_store.proofs.Working.{made_there}
use Rattle.sccs_sid.specs.declared.refusals.StepFault.TheVariants as step
use Rattle.sccs_steps.specs.Calls.{world}
use Rattle.sccs_changes.proofs.ChangeCauses.{fault_speaks, finished_causes, given_up_causes, given_up_ignores}
use Rattle.sccs_changes.proofs.ChangeCauses.{given_up_speaks}
use Rattle.sccs_changes.proofs.ChangeEnds.{failed_steps, finished_steps, given_up_steps, locked_steps}
use Rattle.sccs_changes.proofs.StopEnds.{at_failed, at_finished, at_given_up, at_locked, at_memory}
use Rattle.sccs_crash_points.proofs.Unlocked.{unlocked_same}
use Rattle.sccs_changes.proofs.UnlockedChanges.{others_failed, others_finished, others_given_up, others_refused}
use Rattle.sccs_changes.proofs.UnlockedChanges.{unlocked_failed, unlocked_finished, unlocked_given_up}
use Rattle.sccs_changes.specs.Changes.{locking}
use Rattle.sccs_changes.proofs.transactions.change_file.Goals as goal

pub returns-in-Err-Locked-clause-step : goal.returns-in-Err-Locked-clause-step
returns-in-Err-Locked-clause-step g c = locked_steps (g.C.Change.change c.args.change.now) c.args.name.now _ _ _ _ _
    (ap seen (c.lock.ensures.same (c.in-Err-Locked.is ∙ ap Err c.in-Err-Locked.field-0-is)))
    (c.lock.ensures.locked (c.in-Err-Locked.is ∙ ap Err c.in-Err-Locked.field-0-is))

pub returns-in-Err-Failed-clause-step : goal.returns-in-Err-Failed-clause-step
returns-in-Err-Failed-clause-step g c = failed_steps (g.C.Change.change c.args.change.now) c.args.name.now _ _ _ _ _
    c.in-Err-Failed.ensures.view_err

pub returns-in-Err-Failed-clause-speaks : goal.returns-in-Err-Failed-clause-speaks
returns-in-Err-Failed-clause-speaks g c = fault_speaks _ step.DiskFault _ _ (g.C.Change.locked c.args.change.now)
    (λ refusal is. cc)

pub returns-in-Err-Memory-clause-speaks : goal.returns-in-Err-Memory-clause-speaks
returns-in-Err-Memory-clause-speaks g c = fault_speaks _ step.Memory _ _ (g.C.Change.locked c.args.change.now)
    (λ refusal is. cc)

pub returns-in-Ok-prepare-clause-step : goal.returns-in-Ok-prepare-clause-step
returns-in-Ok-prepare-clause-step g c =
    finished_steps (g.C.Change.change c.args.change.now) c.in-Ok-prepare.prepared c.finish.result c.prepare.result
    c.args.name.now _ _ _ _ _ _ _ _ _ _ c.requires c.in-Ok-prepare.is c.in-Ok.ensures.view c.in-Ok.ensures.free
    (c.prepare.ensures.prepares _) c.finish.ensures.finishes

pub returns-in-Ok-prepare-clause-causes : goal.returns-in-Ok-prepare-clause-causes
returns-in-Ok-prepare-clause-causes g c = finished_causes c.prepare.result c.finish.result _ _ _ _ _ _ _ _ _ _ _
    c.lock.ensures.causes.later c.prepare.ensures.causes c.finish.ensures.causes

pub returns-in-Err-clause-step : goal.returns-in-Err-clause-step
returns-in-Err-clause-step g c =
    given_up_steps (g.C.Change.change c.args.change.now) c.in-Err.fault c.give_up.result c.prepare.result
    c.args.name.now _ _ _ _ _ _ _ _ c.in-Err.is c.in-Ok.ensures.view c.in-Ok.ensures.free
    (c.prepare.ensures.prepares (g.E.Sink.given c.args.err.now)) (c.give_up.ensures.gives_up
    (g.O.Sink.given c.prepare.new.out) (g.E.Sink.given c.args.err.now))

pub returns-in-Err-clause-speaks : goal.returns-in-Err-clause-speaks
returns-in-Err-clause-speaks g c =
    given_up_speaks _ c.in-Err.fault c.prepare.result c.give_up.result c.args.name.now
    (world (seen (g.D.Disk.told c.prepare.new.disk)) (g.O.Sink.given c.prepare.new.out)
    (g.E.Sink.given c.args.err.now)) (world (seen (g.D.Disk.told c.give_up.new.disk))
    (g.O.Sink.given c.prepare.new.out) (g.E.Sink.given c.args.err.now)) _ (g.C.Change.locked c.args.change.now)
    c.in-Err.is c.prepare.ensures.speaks (c.give_up.ensures.gives_up (g.O.Sink.given c.prepare.new.out)
    (g.E.Sink.given c.args.err.now))

pub returns-in-Err-clause-ignores : goal.returns-in-Err-clause-ignores
returns-in-Err-clause-ignores g c = λ takes.
    given_up_ignores c.in-Err.fault c.prepare.result c.give_up.result c.args.name.now
    (world (seen (g.D.Disk.told c.prepare.new.disk)) (g.O.Sink.given c.prepare.new.out)
    (g.E.Sink.given c.args.err.now)) (world (seen (g.D.Disk.told c.give_up.new.disk))
    (g.O.Sink.given c.prepare.new.out) (g.E.Sink.given c.args.err.now)) _ _ _ _ c.in-Err.is
    (c.give_up.ensures.gives_up (g.O.Sink.given c.prepare.new.out) (g.E.Sink.given c.args.err.now))
    (c.prepare.ensures.ignores takes)

pub returns-in-Err-clause-causes : goal.returns-in-Err-clause-causes
returns-in-Err-clause-causes g c =
    given_up_causes c.in-Err.fault c.prepare.result c.give_up.result c.args.name.now
    (world (seen (g.D.Disk.told c.prepare.new.disk)) (g.O.Sink.given c.prepare.new.out)
    (g.E.Sink.given c.args.err.now)) (world (seen (g.D.Disk.told c.give_up.new.disk))
    (g.O.Sink.given c.prepare.new.out) (g.E.Sink.given c.args.err.now)) _ _ _ _ _ _ _ _ _ c.in-Err.is
    (c.give_up.ensures.gives_up (g.O.Sink.given c.prepare.new.out) (g.E.Sink.given c.args.err.now))
    c.lock.ensures.causes.later c.prepare.ensures.causes c.give_up.ensures.later c.give_up.ensures.cause

pub prepare-requires-clause-locked : goal.prepare-requires-clause-locked
prepare-requires-clause-locked g c = made_there (z_file c.args.name.now) empty_file (g.D.Disk.told c.args.disk.now)
    (g.D.Disk.told c.lock.new.disk) c.in-Ok.ensures.view

pub returns-in-Err-Locked-clause-crash_points : goal.returns-in-Err-Locked-clause-crash_points
returns-in-Err-Locked-clause-crash_points g c = λ m past i is heard calm safe.
    at_locked (g.C.Change.change c.args.change.now) c.args.name.now _ _ _ _ _ m past i
    (c.lock.ensures.same (c.in-Err-Locked.is ∙ ap Err c.in-Err-Locked.field-0-is))
    (c.lock.ensures.locked (c.in-Err-Locked.is ∙ ap Err c.in-Err-Locked.field-0-is)) is heard calm safe

pub returns-in-Err-Failed-clause-crash_points : goal.returns-in-Err-Failed-clause-crash_points
returns-in-Err-Failed-clause-crash_points g c = λ m past i is heard calm safe.
    at_failed (g.C.Change.change c.args.change.now) c.args.name.now _ _ _ _ _ m past i c.requires
    c.in-Err-Failed.ensures.view_err c.lock.ensures.touches (c.lock.ensures.held (c.in-Err-Failed.is
    ∙ ap Err c.in-Err-Failed.field-0-is)) is heard calm (safe refl).sound

pub returns-in-Err-Memory-clause-crash_points : goal.returns-in-Err-Memory-clause-crash_points
returns-in-Err-Memory-clause-crash_points g c = λ m past i is heard calm safe.
    at_memory (g.C.Change.change c.args.change.now) c.args.name.now _ _ _ _ _ m past i
    (c.lock.ensures.memory (c.in-Err-Memory.is ∙ ap Err c.in-Err-Memory.field-0-is)) is heard calm

pub returns-in-Ok-prepare-clause-crash_points : goal.returns-in-Ok-prepare-clause-crash_points
returns-in-Ok-prepare-clause-crash_points g c = λ m past i is heard calm safe.
    at_finished (g.C.Change.change c.args.change.now) c.in-Ok-prepare.prepared c.finish.result c.prepare.result
    c.args.name.now _ _ (g.D.Disk.told c.lock.new.disk) (g.D.Disk.told c.prepare.new.disk) _ _ _ _
    (g.E.Sink.given c.args.err.now) _ m past i c.requires c.in-Ok-prepare.is c.in-Ok.ensures.view
    c.in-Ok.ensures.free (c.prepare.ensures.prepares (g.E.Sink.given c.args.err.now)) c.finish.ensures.finishes
    c.finish.ensures.commits
    c.lock.ensures.touches c.prepare.ensures.touches c.in-Ok-prepare.ensures.firm c.in-Ok-prepare.ensures.entries is
    heard calm (safe refl)

pub returns-in-Err-clause-crash_points : goal.returns-in-Err-clause-crash_points
returns-in-Err-clause-crash_points g c = λ m past i is heard calm safe.
    at_given_up (g.C.Change.change c.args.change.now) c.in-Err.fault c.give_up.result c.prepare.result c.args.name.now _
    _ (g.D.Disk.told c.lock.new.disk) (g.D.Disk.told c.prepare.new.disk) _ _ _ (g.E.Sink.given c.args.err.now) m
    past i c.requires c.in-Err.is c.in-Ok.ensures.view c.in-Ok.ensures.free (c.prepare.ensures.prepares
    (g.E.Sink.given c.args.err.now)) (c.give_up.ensures.gives_up (g.O.Sink.given c.prepare.new.out)
    (g.E.Sink.given c.args.err.now))
    c.lock.ensures.touches c.prepare.ensures.touches c.give_up.ensures.touches is heard calm (safe refl)

pub returns-in-Err-Locked-clause-unlocked : goal.returns-in-Err-Locked-clause-unlocked
returns-in-Err-Locked-clause-unlocked g c = λ locks plain. unlocked_same _ _ (c.lock.ensures.same (c.in-Err-Locked.is
    ∙ ap Err c.in-Err-Locked.field-0-is))

pub returns-in-Err-Failed-clause-unlocked : goal.returns-in-Err-Failed-clause-unlocked
returns-in-Err-Failed-clause-unlocked g c = λ locks plain. unlocked_failed c.args.name.now _ _ c.lock.ensures.touches

pub returns-in-Err-Memory-clause-unlocked : goal.returns-in-Err-Memory-clause-unlocked
returns-in-Err-Memory-clause-unlocked g c = λ locks plain. unlocked_failed c.args.name.now _ _ c.lock.ensures.touches

pub returns-in-Ok-prepare-clause-unlocked : goal.returns-in-Ok-prepare-clause-unlocked
returns-in-Ok-prepare-clause-unlocked g c = λ locks plain. unlocked_finished (g.C.Change.change c.args.change.now).early
    c.args.name.now _ _ _ _ c.requires (plain refl) c.in-Ok.ensures.free c.lock.ensures.touches
    c.prepare.ensures.touches c.finish.ensures.others

pub returns-in-Err-clause-unlocked : goal.returns-in-Err-clause-unlocked
returns-in-Err-clause-unlocked g c = λ locks plain. unlocked_given_up (g.C.Change.change c.args.change.now).early
    c.args.name.now _ _ _ _ c.lock.ensures.touches c.prepare.ensures.touches c.give_up.ensures.touches

pub returns-in-Err-Locked-clause-others : goal.returns-in-Err-Locked-clause-others
returns-in-Err-Locked-clause-others g c = others_refused (locking (g.C.Change.change c.args.change.now)) c.args.name.now
    _ _ (c.lock.ensures.same (c.in-Err-Locked.is ∙ ap Err c.in-Err-Locked.field-0-is))

pub returns-in-Err-Failed-clause-others : goal.returns-in-Err-Failed-clause-others
returns-in-Err-Failed-clause-others g c =
    others_failed (locking (g.C.Change.change c.args.change.now)) c.args.name.now _ _ c.lock.ensures.touches
    (c.lock.ensures.stays (c.in-Err-Failed.is ∙ ap Err c.in-Err-Failed.field-0-is))

pub returns-in-Err-Memory-clause-others : goal.returns-in-Err-Memory-clause-others
returns-in-Err-Memory-clause-others g c = others_refused (locking (g.C.Change.change c.args.change.now)) c.args.name.now
    _ _ (c.lock.ensures.memory (c.in-Err-Memory.is ∙ ap Err c.in-Err-Memory.field-0-is))

pub returns-in-Ok-prepare-clause-others : goal.returns-in-Ok-prepare-clause-others
returns-in-Ok-prepare-clause-others g c = others_finished (g.C.Change.change c.args.change.now).early
    (locking (g.C.Change.change c.args.change.now)) c.args.name.now _ _ _ _ c.in-Ok.ensures.free c.lock.ensures.touches
    c.prepare.ensures.touches c.finish.ensures.others

pub returns-in-Err-clause-others : goal.returns-in-Err-clause-others
returns-in-Err-clause-others g c = others_given_up (g.C.Change.change c.args.change.now).early
    (locking (g.C.Change.change c.args.change.now)) c.args.name.now _ _ _ _ c.in-Ok.ensures.free c.lock.ensures.touches
    c.prepare.ensures.touches c.give_up.ensures.touches
