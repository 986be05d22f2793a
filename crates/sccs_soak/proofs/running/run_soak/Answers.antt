use Rattle.std.proofs.Common.{ℕ, Result, Ok, subst}
use Rattle.std.proofs.lemmas.Result.{err_from_is_err_and}
use Rattle.sccs_step_lists.specs.QuietSettings.{quiet}
use Rattle.sccs_steps.specs.declared.faults.Fault.{Fault}
use Rattle.sccs_soak.specs.Commands.{first_command, rounds_from}
use Rattle.sccs_soak.specs.Runs.{RunsSoaked}
use Rattle.sccs_soak.proofs.SoakStepLists.{soak_cut, soak_ends, soak_on}
use Rattle.sccs_soak.proofs.running.run_soak.Goals as goal

pub returns-in_err-status : goal.returns-in_err-status
returns-in_err-status g c =
    let e = err_from_is_err_and c.from_residual.result c.from_residual.ensures.1 in
    rw (e.1, e.2) (soak_cut (g.C.Commands.command c.args.commands.now) (g.C.Commands.fits c.args.commands.now)
    (g.C.Commands.whole c.args.commands.now) (g.C.Commands.begun c.args.commands.now)
    (g.C.Commands.takes c.args.commands.now) c.args.number first_command
    (rounds_from c.args.number 1 c.args.number 0) c.in_err-status.field-0.0
    (quiet g.O.Sink g.E.Sink g.D.Disk c.args.out.now
    c.args.err.now c.args.disk.now) (quiet g.O.Sink g.E.Sink g.D.Disk c.run_made.new.out c.run_made.new.err
    c.run_made.new.disk)
    (subst (λ (r : Result ℕ Fault). RunsSoaked (g.C.Commands.command c.args.commands.now first_command)
    (g.C.Commands.fits c.args.commands.now first_command) (g.C.Commands.whole c.args.commands.now first_command)
    (g.C.Commands.begun c.args.commands.now first_command) r (quiet g.O.Sink g.E.Sink g.D.Disk c.args.out.now
    c.args.err.now c.args.disk.now) (quiet g.O.Sink g.E.Sink g.D.Disk c.run_made.new.out c.run_made.new.err
    c.run_made.new.disk)) c.in_err-status.was (c.run_made.ensures first_command c.first_command-first.ensures.value)))

pub returns-then-status-ne0 : goal.returns-then-status-ne0
returns-then-status-ne0 g c =
    soak_ends (g.C.Commands.command c.args.commands.now) (g.C.Commands.fits c.args.commands.now)
    (g.C.Commands.whole c.args.commands.now) (g.C.Commands.begun c.args.commands.now)
    (g.C.Commands.takes c.args.commands.now) c.args.number first_command
    (rounds_from c.args.number 1 c.args.number 0) c.in_ok-status.status (quiet g.O.Sink g.E.Sink g.D.Disk c.args.out.now
    c.args.err.now c.args.disk.now) (quiet g.O.Sink g.E.Sink g.D.Disk c.run_made.new.out c.run_made.new.err
    c.run_made.new.disk) c.if-status-ne0.true
    (subst (λ (r : Result ℕ Fault). RunsSoaked (g.C.Commands.command c.args.commands.now first_command)
    (g.C.Commands.fits c.args.commands.now first_command) (g.C.Commands.whole c.args.commands.now first_command)
    (g.C.Commands.begun c.args.commands.now first_command) r (quiet g.O.Sink g.E.Sink g.D.Disk c.args.out.now
    c.args.err.now c.args.disk.now) (quiet g.O.Sink g.E.Sink g.D.Disk c.run_made.new.out c.run_made.new.err
    c.run_made.new.disk)) c.in_ok-status.was (c.run_made.ensures first_command c.first_command-first.ensures.value))

pub returns : goal.returns
returns g c =
    soak_on (g.C.Commands.command c.args.commands.now) (g.C.Commands.fits c.args.commands.now)
    (g.C.Commands.whole c.args.commands.now) (g.C.Commands.begun c.args.commands.now)
    (g.C.Commands.takes c.args.commands.now) c.args.number first_command
    (rounds_from c.args.number 1 c.args.number 0) c.run_rounds.result
    (quiet g.O.Sink g.E.Sink g.D.Disk c.args.out.now c.args.err.now c.args.disk.now)
    (quiet g.O.Sink g.E.Sink g.D.Disk c.run_made.new.out c.run_made.new.err c.run_made.new.disk)
    (quiet g.O.Sink g.E.Sink g.D.Disk c.run_rounds.new.out c.run_rounds.new.err c.run_rounds.new.disk)
    (subst (λ (status : ℕ). RunsSoaked (g.C.Commands.command c.args.commands.now first_command)
    (g.C.Commands.fits c.args.commands.now first_command) (g.C.Commands.whole c.args.commands.now first_command)
    (g.C.Commands.begun c.args.commands.now first_command) (Ok status)
    (quiet g.O.Sink g.E.Sink g.D.Disk c.args.out.now c.args.err.now c.args.disk.now)
    (quiet g.O.Sink g.E.Sink g.D.Disk c.run_made.new.out c.run_made.new.err c.run_made.new.disk))
    c.if-status-ne0.false
    (subst (λ (r : Result ℕ Fault). RunsSoaked (g.C.Commands.command c.args.commands.now first_command)
    (g.C.Commands.fits c.args.commands.now first_command) (g.C.Commands.whole c.args.commands.now first_command)
    (g.C.Commands.begun c.args.commands.now first_command) r (quiet g.O.Sink g.E.Sink g.D.Disk c.args.out.now
    c.args.err.now c.args.disk.now) (quiet g.O.Sink g.E.Sink g.D.Disk c.run_made.new.out c.run_made.new.err
    c.run_made.new.disk)) c.in_ok-status.was (c.run_made.ensures first_command c.first_command-first.ensures.value)))
    c.run_rounds.ensures
