use Rattle.std.proofs.Common.{◌≡◌, Result, refl, subst}
use Rattle.std.specs.Prelude.{IfOk}
use Rattle.sccs_base.specs.declared.streams.Memory.{Memory}
use Rattle.sccs_batch.specs.declared.entries.BatchEntry.{BatchEntry}
use Rattle.sccs_step_lists.specs.QuietSettings.{quiet}
use Rattle.sccs_soak.specs.Runs.{RunsSoaked}
use Rattle.sccs_soak.proofs.SoakStepLists.{soaked_never, soaked_ran}
use Rattle.sccs_soak.proofs.running.run_made.Goals as goal

pub returns-in-Ok : goal.returns-in-Ok
returns-in-Ok g c = λ entry is.
    subst (λ (e : BatchEntry). RunsSoaked (g.C.Commands.command c.args.commands.now e)
    (g.C.Commands.fits c.args.commands.now e) (g.C.Commands.whole c.args.commands.now e)
    (g.C.Commands.begun c.args.commands.now e) c.run.result (quiet g.O.Sink g.E.Sink g.D.Disk c.args.out.now
    c.args.err.now c.args.disk.now) (quiet g.O.Sink g.E.Sink g.D.Disk c.run.new.out c.run.new.err c.run.new.disk))
    (subst (λ (m : Result BatchEntry Memory). IfOk m (λ e. e ≡ entry)) c.in-Ok.is is)
    (soaked_ran (g.C.Commands.command c.args.commands.now c.in-Ok.entry)
    (g.C.Commands.fits c.args.commands.now c.in-Ok.entry) (g.C.Commands.whole c.args.commands.now c.in-Ok.entry)
    (g.C.Commands.begun c.args.commands.now c.in-Ok.entry) (g.C.Commands.takes c.args.commands.now c.in-Ok.entry)
    c.run.result (quiet g.O.Sink g.E.Sink g.D.Disk c.args.out.now c.args.err.now c.args.disk.now)
    (quiet g.O.Sink g.E.Sink g.D.Disk c.run.new.out c.run.new.err c.run.new.disk) c.run.ensures)

pub returns-in-Err : goal.returns-in-Err
returns-in-Err g c = λ entry is. soaked_never (g.C.Commands.command c.args.commands.now entry)
    (g.C.Commands.fits c.args.commands.now entry) (g.C.Commands.whole c.args.commands.now entry)
    (g.C.Commands.begun c.args.commands.now entry) (g.C.Commands.takes c.args.commands.now entry) _
    (quiet g.O.Sink g.E.Sink g.D.Disk c.args.out.now c.args.err.now c.args.disk.now)
    (quiet g.O.Sink g.E.Sink g.D.Disk c.args.out.now c.args.err.now c.args.disk.now) refl refl
