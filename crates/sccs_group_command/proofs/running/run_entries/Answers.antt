use Rattle.std.proofs.Common.{ℕ, List, Ok, Err, refl, subst}
use Rattle.sccs_sid.specs.declared.refusals.StepFault.TheVariants as step
use Rattle.sccs_steps.specs.Calls.{scene}
use Rattle.sccs_steps.specs.Messages.{Concludes}
use Rattle.sccs_step_lists.specs.QuietSettings.{quiet}
use Rattle.sccs_group_command.proofs.GroupStepLists.{done_causes, entries_ran, fault_is, stop_causes, wrote_is}
use Rattle.sccs_group_command.proofs.running.run_entries.Goals as goal

pub returns-in-Ok : goal.returns-in-Ok
returns-in-Ok g c =
    entries_ran c.args.stamp.now c.args.entries.now (Ok tt) (Ok 0) (quiet g.O.Sink g.E.Sink g.D.Disk c.args.out.now
    c.args.err.now c.args.disk.now) (quiet g.O.Sink g.E.Sink g.D.Disk c.make_group.new.out c.make_group.new.err
    c.make_group.new.disk)
    (scene (g.D.Disk.told c.make_group.new.disk) (g.O.Sink.given c.make_group.new.out)
    (g.E.Sink.given c.make_group.new.err)) (g.E.Sink.given c.make_group.new.err) refl
    (record {
      some = c.requires.entries.some;
      told = c.in-Ok.ensures.told;
      crash_points = c.in-Ok.ensures.crash_points;
      unlocked = c.make_group.ensures.unlocked;
      speaks = c.in-Ok.ensures.speaks;
    }) (refl, refl)
    (done_causes tt (Ok 0) _ _ _ _ _ _ refl c.in-Ok.ensures.causes)

pub returns-in-Err : goal.returns-in-Err
returns-in-Err g c =
    entries_ran c.args.stamp.now c.args.entries.now (Err c.in-Err.stop) c.conclude.result
    (quiet g.O.Sink g.E.Sink g.D.Disk c.args.out.now c.args.err.now c.args.disk.now)
    (quiet g.O.Sink g.E.Sink g.D.Disk c.make_group.new.out c.conclude.new.err c.make_group.new.disk)
    (scene (g.D.Disk.told c.make_group.new.disk) (g.O.Sink.given c.make_group.new.out)
    (g.E.Sink.given c.make_group.new.err)) (g.E.Sink.given c.conclude.new.err) refl
    (record {
      some = c.requires.entries.some;
      told = c.in-Err.ensures.told;
      crash_points =
          c.in-Err.ensures.crash_points;
      unlocked = c.make_group.ensures.unlocked;
      speaks = c.in-Err.ensures.speaks;
    })
    (subst (λ (n : List ℕ). Concludes (Err c.in-Err.stop.fault) n c.conclude.result
    (g.E.Sink.given c.make_group.new.err) (g.E.Sink.given c.conclude.new.err)) c.bytes.ensures.value
    c.conclude.ensures.concludes)
    (stop_causes c.in-Err.stop c.conclude.result _ _ _ _ _ _ _ c.in-Err.ensures.causes c.conclude.ensures.later
    (λ is. wrote_is c.in-Err.stop.fault (Err c.in-Err.stop.fault) _ _ refl (c.conclude.ensures.cause is))
    (λ is. fault_is c.in-Err.stop.fault step.ReadFault (Err c.in-Err.stop.fault) refl (c.conclude.ensures.read is))
    (λ is. fault_is c.in-Err.stop.fault step.DiskFault (Err c.in-Err.stop.fault) refl
    (c.conclude.ensures.broke is)))
