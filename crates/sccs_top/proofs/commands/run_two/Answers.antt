use Rattle.std.proofs.lemmas.Result.{err_from_is_err_and}
use Rattle.std.proofs.Common.{ℕ, Result, Ok, refl, subst}
use Rattle.sccs_steps.specs.Settings.{setting_of}
use Rattle.sccs_steps.specs.declared.faults.Fault.{Fault}
use Rattle.sccs_step_lists.specs.QuietSettings.{quiet}
use Rattle.sccs_top.specs.Runs.{LeavesInput, RunsMeant, caller_in}
use Rattle.sccs_top.proofs.TwoCommands.{both_leave, both_run, first_cut, first_ends, next_runs}
use Rattle.sccs_top.proofs.commands.run_two.Goals as goal

pub returns-in_err-status-clause-run : goal.returns-in_err-status-clause-run
returns-in_err-status-clause-run g c =
    let p = err_from_is_err_and c.from_residual.result c.from_residual.ensures.1 in
    rw (p.1, p.2) (first_cut (caller_in c.args.context.now) c.args.first.now c.args.next.now c.in_err-status.field-0.0
    (setting_of g.I.Source g.O.Sink g.E.Sink g.D.Disk c.args.input.now c.args.out.now c.args.err.now
    c.args.disk.now) (setting_of g.I.Source g.O.Sink g.E.Sink g.D.Disk c.run_meant.new.input c.run_meant.new.out
    c.run_meant.new.err c.run_meant.new.disk)
    (subst (λ (r : Result ℕ Fault). RunsMeant (caller_in c.args.context.now) (Ok c.args.first.now) r
    (setting_of g.I.Source g.O.Sink g.E.Sink g.D.Disk c.args.input.now c.args.out.now c.args.err.now
    c.args.disk.now) (setting_of g.I.Source g.O.Sink g.E.Sink g.D.Disk c.run_meant.new.input c.run_meant.new.out
    c.run_meant.new.err c.run_meant.new.disk)) c.in_err-status.was c.run_meant.ensures.run))

pub returns-in_err-status-clause-input : goal.returns-in_err-status-clause-input
returns-in_err-status-clause-input g c =
    let p = err_from_is_err_and c.from_residual.result c.from_residual.ensures.1 in
    rw (p.1, p.2) (subst (λ (r : Result ℕ Fault). LeavesInput (caller_in c.args.context.now) c.args.first.now r
    (setting_of g.I.Source g.O.Sink g.E.Sink g.D.Disk c.args.input.now c.args.out.now c.args.err.now
    c.args.disk.now) (setting_of g.I.Source g.O.Sink g.E.Sink g.D.Disk c.run_meant.new.input c.run_meant.new.out
    c.run_meant.new.err c.run_meant.new.disk)) c.in_err-status.was c.run_meant.ensures.input)

pub returns-then-status-ne0-clause-run : goal.returns-then-status-ne0-clause-run
returns-then-status-ne0-clause-run g c =
    first_ends (caller_in c.args.context.now) c.args.first.now c.args.next.now c.in_ok-status.status
    (setting_of g.I.Source g.O.Sink g.E.Sink g.D.Disk c.args.input.now c.args.out.now c.args.err.now
    c.args.disk.now) (setting_of g.I.Source g.O.Sink g.E.Sink g.D.Disk c.run_meant.new.input c.run_meant.new.out
    c.run_meant.new.err c.run_meant.new.disk) c.if-status-ne0.true
    (subst (λ (r : Result ℕ Fault). RunsMeant (caller_in c.args.context.now) (Ok c.args.first.now) r
    (setting_of g.I.Source g.O.Sink g.E.Sink g.D.Disk c.args.input.now c.args.out.now c.args.err.now
    c.args.disk.now) (setting_of g.I.Source g.O.Sink g.E.Sink g.D.Disk c.run_meant.new.input c.run_meant.new.out
    c.run_meant.new.err c.run_meant.new.disk)) c.in_ok-status.was c.run_meant.ensures.run)

pub returns-then-status-ne0-clause-input : goal.returns-then-status-ne0-clause-input
returns-then-status-ne0-clause-input g c =
    subst (λ (r : Result ℕ Fault). LeavesInput (caller_in c.args.context.now) c.args.first.now r
    (setting_of g.I.Source g.O.Sink g.E.Sink g.D.Disk c.args.input.now c.args.out.now c.args.err.now
    c.args.disk.now) (setting_of g.I.Source g.O.Sink g.E.Sink g.D.Disk c.run_meant.new.input c.run_meant.new.out
    c.run_meant.new.err c.run_meant.new.disk)) c.in_ok-status.was c.run_meant.ensures.input

pub returns-clause-run : goal.returns-clause-run
returns-clause-run g c =
    both_run (caller_in c.args.context.now) c.args.first.now c.args.next.now c.run_next.result
    (setting_of g.I.Source g.O.Sink g.E.Sink g.D.Disk c.args.input.now c.args.out.now c.args.err.now
    c.args.disk.now) (setting_of g.I.Source g.O.Sink g.E.Sink g.D.Disk c.run_meant.new.input c.run_meant.new.out
    c.run_meant.new.err c.run_meant.new.disk) (setting_of g.I.Source g.O.Sink g.E.Sink g.D.Disk
    c.run_meant.new.input c.run_next.new.out c.run_next.new.err c.run_next.new.disk)
    (subst (λ (status : ℕ). RunsMeant (caller_in c.args.context.now) (Ok c.args.first.now) (Ok status)
    (setting_of g.I.Source g.O.Sink g.E.Sink g.D.Disk c.args.input.now c.args.out.now c.args.err.now
    c.args.disk.now) (setting_of g.I.Source g.O.Sink g.E.Sink g.D.Disk c.run_meant.new.input c.run_meant.new.out
    c.run_meant.new.err c.run_meant.new.disk)) c.if-status-ne0.false
    (subst (λ (r : Result ℕ Fault). RunsMeant (caller_in c.args.context.now) (Ok c.args.first.now) r
    (setting_of g.I.Source g.O.Sink g.E.Sink g.D.Disk c.args.input.now c.args.out.now c.args.err.now
    c.args.disk.now) (setting_of g.I.Source g.O.Sink g.E.Sink g.D.Disk c.run_meant.new.input c.run_meant.new.out
    c.run_meant.new.err c.run_meant.new.disk)) c.in_ok-status.was c.run_meant.ensures.run))
    (next_runs (caller_in c.args.context.now) c.args.next.now c.run_next.result
    (quiet g.O.Sink g.E.Sink g.D.Disk c.run_meant.new.out c.run_meant.new.err c.run_meant.new.disk)
    (quiet g.O.Sink g.E.Sink g.D.Disk c.run_next.new.out c.run_next.new.err c.run_next.new.disk)
    (g.I.Source.left c.run_meant.new.input) (g.I.Source.faults c.run_meant.new.input) refl refl refl
    c.run_next.ensures)

pub returns-clause-input : goal.returns-clause-input
returns-clause-input g c =
    both_leave (caller_in c.args.context.now) c.args.first.now c.args.next.now c.in_ok-status.status
    c.run_next.result (setting_of g.I.Source g.O.Sink g.E.Sink g.D.Disk c.args.input.now c.args.out.now
    c.args.err.now c.args.disk.now) (setting_of g.I.Source g.O.Sink g.E.Sink g.D.Disk c.run_meant.new.input
    c.run_next.new.out c.run_next.new.err c.run_next.new.disk) (quiet g.O.Sink g.E.Sink g.D.Disk c.run_meant.new.out
    c.run_meant.new.err c.run_meant.new.disk) (quiet g.O.Sink g.E.Sink g.D.Disk c.run_next.new.out
    c.run_next.new.err c.run_next.new.disk)
    (subst (λ (r : Result ℕ Fault). LeavesInput (caller_in c.args.context.now) c.args.first.now r
    (setting_of g.I.Source g.O.Sink g.E.Sink g.D.Disk c.args.input.now c.args.out.now c.args.err.now
    c.args.disk.now) (setting_of g.I.Source g.O.Sink g.E.Sink g.D.Disk c.run_meant.new.input c.run_meant.new.out
    c.run_meant.new.err c.run_meant.new.disk)) c.in_ok-status.was c.run_meant.ensures.input)
    refl refl c.run_next.ensures
