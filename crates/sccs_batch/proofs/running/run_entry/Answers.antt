use Rattle.std.proofs.Common.{ℕ, [], Ok, Err, Result, refl, sym, subst}
use Rattle.sccs_base.proofs.Gifts.{gives_none, some_none}
use Rattle.sccs_step_lists.specs.QuietSettings.{quiet}
use Rattle.sccs_steps.proofs.Exits.{exit_is}
use Rattle.sccs_steps.specs.declared.faults.Fault.{Fault}
use Rattle.sccs_steps.specs.declared.faults.Fault.TheVariants as ends
use Rattle.sccs_batch.specs.Batches.{RunsEntry}
use Rattle.sccs_batch.proofs.EntryStepLists.{cut_out, entry_cut, entry_said, wrote_out}
use Rattle.sccs_batch.proofs.running.run_entry.Goals as goal

pub returns-in_err-status : goal.returns-in_err-status
returns-in_err-status g c =
    subst (λ (r : Result ℕ Fault). RunsEntry (g.C.Commands.command c.args.commands.now c.args.entry.now)
    (g.C.Commands.fits c.args.commands.now c.args.entry.now)
    (g.C.Commands.whole c.args.commands.now c.args.entry.now)
    (g.C.Commands.begun c.args.commands.now c.args.entry.now) r (quiet g.O.Sink g.E.Sink g.D.Disk c.args.out.now
    c.args.err.now c.args.disk.now) (quiet g.O.Sink g.E.Sink g.D.Disk c.run.new.out c.run.new.err c.run.new.disk))
    (sym (exit_is c.from_residual.result c.in_err-status.field-0.0 c.from_residual.ensures.1))
    (entry_cut (g.C.Commands.command c.args.commands.now c.args.entry.now)
    (g.C.Commands.fits c.args.commands.now c.args.entry.now)
    (g.C.Commands.whole c.args.commands.now c.args.entry.now)
    (g.C.Commands.begun c.args.commands.now c.args.entry.now) c.in_err-status.field-0.0
    (quiet g.O.Sink g.E.Sink g.D.Disk c.args.out.now c.args.err.now c.args.disk.now)
    (quiet g.O.Sink g.E.Sink g.D.Disk c.run.new.out c.run.new.err c.run.new.disk)
    (g.C.Commands.takes c.args.commands.now c.args.entry.now) (g.C.Commands.might c.args.commands.now c.args.entry.now)
    c.in_err-status.ensures)

pub returns-in-Ok : goal.returns-in-Ok
returns-in-Ok g c =
    entry_said (g.C.Commands.command c.args.commands.now c.args.entry.now)
    (g.C.Commands.fits c.args.commands.now c.args.entry.now)
    (g.C.Commands.whole c.args.commands.now c.args.entry.now)
    (g.C.Commands.begun c.args.commands.now c.args.entry.now) c.in_ok-status.status (Ok c.in_ok-status.status)
    (quiet g.O.Sink g.E.Sink g.D.Disk c.args.out.now c.args.err.now c.args.disk.now)
    (quiet g.O.Sink g.E.Sink g.D.Disk c.run.new.out c.run.new.err c.run.new.disk)
    (quiet g.O.Sink g.E.Sink g.D.Disk c.write_status.new.out c.run.new.err c.run.new.disk)
    c.in_ok-status.ensures refl (refl, c.in-Ok.ensures.ok, gives_none (g.E.Sink.given c.run.new.err))
    (wrote_out c.in_ok-status.status _ _ _ _ c.write_status.ensures.later)

pub returns-in-Err : goal.returns-in-Err
returns-in-Err g c =
    entry_said (g.C.Commands.command c.args.commands.now c.args.entry.now)
    (g.C.Commands.fits c.args.commands.now c.args.entry.now)
    (g.C.Commands.whole c.args.commands.now c.args.entry.now)
    (g.C.Commands.begun c.args.commands.now c.args.entry.now) c.in_ok-status.status (Err ends.WriteFault)
    (quiet g.O.Sink g.E.Sink g.D.Disk c.args.out.now c.args.err.now c.args.disk.now)
    (quiet g.O.Sink g.E.Sink g.D.Disk c.run.new.out c.run.new.err c.run.new.disk)
    (quiet g.O.Sink g.E.Sink g.D.Disk c.write_status.new.out c.run.new.err c.run.new.disk)
    c.in_ok-status.ensures refl (c.in-Err.ensures.err, some_none (g.E.Sink.given c.run.new.err) [])
    (cut_out _ _ _ _ c.write_status.ensures.later c.in-Err.ensures.cause)
