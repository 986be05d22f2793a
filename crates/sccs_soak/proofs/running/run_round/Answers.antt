use Rattle.std.proofs.Common.{ℕ, [], ◌∷◌, Result, Ok, subst}
use Rattle.std.proofs.lemmas.Result.{err_from_is_err_and}
use Rattle.sccs_step_lists.specs.QuietSettings.{quiet}
use Rattle.sccs_steps.specs.declared.faults.Fault.{Fault}
use Rattle.sccs_soak.specs.Commands.{delta_command, edit_command}
use Rattle.sccs_soak.specs.Runs.{RunsSoaked}
use Rattle.sccs_soak.proofs.SoakStepLists.{other_ends, round_made, soak_cut, soak_ends}
use Rattle.sccs_soak.proofs.running.run_round.Goals as goal

pub returns-in_err-status : goal.returns-in_err-status
returns-in_err-status g c =
    let e = err_from_is_err_and c.from_residual.result c.from_residual.ensures.1 in
    rw (e.1, e.2) (λ number rest.
    soak_cut (g.C.Commands.command c.args.commands.now) (g.C.Commands.fits c.args.commands.now)
    (g.C.Commands.whole c.args.commands.now) (g.C.Commands.begun c.args.commands.now)
    (g.C.Commands.takes c.args.commands.now) number (edit_command c.args.round c.args.turn)
    ((delta_command c.args.round c.args.turn) ∷ rest) c.in_err-status.field-0.0
    (quiet g.O.Sink g.E.Sink g.D.Disk c.args.out.now c.args.err.now c.args.disk.now)
    (quiet g.O.Sink g.E.Sink g.D.Disk c.run_made.new.out c.run_made.new.err c.run_made.new.disk)
    (subst (λ (r : Result ℕ Fault). RunsSoaked (g.C.Commands.command c.args.commands.now
    (edit_command c.args.round c.args.turn)) (g.C.Commands.fits c.args.commands.now
    (edit_command c.args.round c.args.turn)) (g.C.Commands.whole c.args.commands.now
    (edit_command c.args.round c.args.turn)) (g.C.Commands.begun c.args.commands.now
    (edit_command c.args.round c.args.turn)) r (quiet g.O.Sink g.E.Sink g.D.Disk c.args.out.now c.args.err.now
    c.args.disk.now) (quiet g.O.Sink g.E.Sink g.D.Disk c.run_made.new.out c.run_made.new.err c.run_made.new.disk))
    c.in_err-status.was (c.run_made.ensures (edit_command c.args.round c.args.turn) c.edit_command-edit.ensures.value)))

pub returns-then-status-ne0 : goal.returns-then-status-ne0
returns-then-status-ne0 g c = λ number rest.
    other_ends (g.C.Commands.command c.args.commands.now) (g.C.Commands.fits c.args.commands.now)
    (g.C.Commands.whole c.args.commands.now) (g.C.Commands.begun c.args.commands.now)
    (g.C.Commands.takes c.args.commands.now) number ((edit_command c.args.round c.args.turn)
    ∷ (delta_command c.args.round c.args.turn) ∷ []) rest c.in_ok-status.status
    (quiet g.O.Sink g.E.Sink g.D.Disk c.args.out.now c.args.err.now c.args.disk.now)
    (quiet g.O.Sink g.E.Sink g.D.Disk c.run_made.new.out c.run_made.new.err c.run_made.new.disk)
    c.if-status-ne0.true
    (soak_ends (g.C.Commands.command c.args.commands.now) (g.C.Commands.fits c.args.commands.now)
    (g.C.Commands.whole c.args.commands.now) (g.C.Commands.begun c.args.commands.now)
    (g.C.Commands.takes c.args.commands.now) number (edit_command c.args.round c.args.turn)
    ((delta_command c.args.round c.args.turn) ∷ rest) c.in_ok-status.status
    (quiet g.O.Sink g.E.Sink g.D.Disk c.args.out.now c.args.err.now c.args.disk.now)
    (quiet g.O.Sink g.E.Sink g.D.Disk c.run_made.new.out c.run_made.new.err c.run_made.new.disk)
    c.if-status-ne0.true
    (subst (λ (r : Result ℕ Fault). RunsSoaked (g.C.Commands.command c.args.commands.now
    (edit_command c.args.round c.args.turn)) (g.C.Commands.fits c.args.commands.now
    (edit_command c.args.round c.args.turn)) (g.C.Commands.whole c.args.commands.now
    (edit_command c.args.round c.args.turn)) (g.C.Commands.begun c.args.commands.now
    (edit_command c.args.round c.args.turn)) r (quiet g.O.Sink g.E.Sink g.D.Disk c.args.out.now c.args.err.now
    c.args.disk.now) (quiet g.O.Sink g.E.Sink g.D.Disk c.run_made.new.out c.run_made.new.err c.run_made.new.disk))
    c.in_ok-status.was (c.run_made.ensures (edit_command c.args.round c.args.turn) c.edit_command-edit.ensures.value)))

pub returns : goal.returns
returns g c = λ number rest.
    round_made (g.C.Commands.command c.args.commands.now) (g.C.Commands.fits c.args.commands.now)
    (g.C.Commands.whole c.args.commands.now) (g.C.Commands.begun c.args.commands.now)
    (g.C.Commands.takes c.args.commands.now) number (edit_command c.args.round c.args.turn)
    (delta_command c.args.round c.args.turn) rest c.run_made-2.result
    (quiet g.O.Sink g.E.Sink g.D.Disk c.args.out.now c.args.err.now c.args.disk.now)
    (quiet g.O.Sink g.E.Sink g.D.Disk c.run_made.new.out c.run_made.new.err c.run_made.new.disk)
    (quiet g.O.Sink g.E.Sink g.D.Disk c.run_made-2.new.out c.run_made-2.new.err c.run_made-2.new.disk)
    (subst (λ (status : ℕ). RunsSoaked (g.C.Commands.command c.args.commands.now
    (edit_command c.args.round c.args.turn)) (g.C.Commands.fits c.args.commands.now
    (edit_command c.args.round c.args.turn)) (g.C.Commands.whole c.args.commands.now
    (edit_command c.args.round c.args.turn)) (g.C.Commands.begun c.args.commands.now
    (edit_command c.args.round c.args.turn)) (Ok status) (quiet g.O.Sink g.E.Sink g.D.Disk c.args.out.now
    c.args.err.now c.args.disk.now) (quiet g.O.Sink g.E.Sink g.D.Disk c.run_made.new.out c.run_made.new.err
    c.run_made.new.disk)) c.if-status-ne0.false
    (subst (λ (r : Result ℕ Fault). RunsSoaked (g.C.Commands.command c.args.commands.now
    (edit_command c.args.round c.args.turn)) (g.C.Commands.fits c.args.commands.now
    (edit_command c.args.round c.args.turn)) (g.C.Commands.whole c.args.commands.now
    (edit_command c.args.round c.args.turn)) (g.C.Commands.begun c.args.commands.now
    (edit_command c.args.round c.args.turn)) r (quiet g.O.Sink g.E.Sink g.D.Disk c.args.out.now c.args.err.now
    c.args.disk.now) (quiet g.O.Sink g.E.Sink g.D.Disk c.run_made.new.out c.run_made.new.err c.run_made.new.disk))
    c.in_ok-status.was (c.run_made.ensures (edit_command c.args.round c.args.turn) c.edit_command-edit.ensures.value)))
    (c.run_made-2.ensures (delta_command c.args.round c.args.turn) c.delta_command-delta.ensures.value)
