use Rattle.std.proofs.Common.{ℕ, ◌+◌, ◌-◌, ap, drop, take, length, Option, Result, Ok, arith, subst, ◌∙◌}
use Rattle.std.proofs.Math.ListN.{drop_of_length-le}
use Rattle.std.proofs.lemmas.Result.{err_from_is_err_and}
use Rattle.std.proofs.lemmas.List.{take_rest}
use Rattle.sccs_step_lists.specs.QuietSettings.{quiet}
use Rattle.sccs_steps.specs.declared.faults.Fault.{Fault}
use Rattle.sccs_batch.specs.BatchText.{batch_of}
use Rattle.sccs_batch.specs.Batches.{NextEnds}
use Rattle.sccs_batch.proofs.EntryStepLists.{reaches_end, reaches_line, reaches_on, within_on}
use Rattle.sccs_batch.proofs.running.run_entries.Goals as goal

pub entries-init : goal.entries-init
entries-init g c = record { leads = λ r u runs. runs; within = omega arith }

pub entries-preserved : goal.entries-preserved
entries-preserved g c = record {
  leads =
      reaches_on (g.C.Commands.command c.args.commands.now) (g.C.Commands.fits c.args.commands.now)
      (g.C.Commands.whole c.args.commands.now) (g.C.Commands.begun c.args.commands.now) (batch_of c.args.lines.now)
      c.args.lines.now c.entries.at c.in-Some.own (take (length c.args.lines.now - (c.entries.at + 1))
      (drop (c.entries.at + 1) c.args.lines.now)) (quiet g.O.Sink g.E.Sink g.D.Disk c.args.out.now c.args.err.now
      c.args.disk.now) (quiet g.O.Sink g.E.Sink g.D.Disk c.run_next.new.out c.run_next.new.err c.run_next.new.disk)
      (take_rest c.args.lines.now (c.entries.at + 1))
      (subst (λ (r : Result (Option ℕ) Fault). NextEnds (g.C.Commands.command c.args.commands.now)
      (g.C.Commands.fits c.args.commands.now) (g.C.Commands.whole c.args.commands.now)
      (g.C.Commands.begun c.args.commands.now) (batch_of c.args.lines.now) (c.entries.at + 1)
      (take (length c.args.lines.now - (c.entries.at + 1)) (drop (c.entries.at + 1) c.args.lines.now)) r
      (quiet g.O.Sink g.E.Sink g.D.Disk c.args.out.now c.args.err.now c.args.disk.now)
      (quiet g.O.Sink g.E.Sink g.D.Disk c.run_next.new.out c.run_next.new.err c.run_next.new.disk))
      (ap (λ (o : Option ℕ). Ok o) c.in-Some.is)
      (c.in_ok-own.ensures.run (batch_of c.args.lines.now) (quiet g.O.Sink g.E.Sink g.D.Disk c.args.out.now
      c.args.err.now c.args.disk.now) (reaches_line (g.C.Commands.command c.args.commands.now)
      (g.C.Commands.fits c.args.commands.now) (g.C.Commands.whole c.args.commands.now)
      (g.C.Commands.begun c.args.commands.now) (batch_of c.args.lines.now) c.args.lines.now c.entries.at
      c.bytes-line.result.now c.index-lines-at.result (take (length c.args.lines.now - (c.entries.at + 1))
      (drop (c.entries.at + 1) c.args.lines.now)) (quiet g.O.Sink g.E.Sink g.D.Disk c.args.out.now c.args.err.now
      c.args.disk.now) (quiet g.O.Sink g.E.Sink g.D.Disk c.entries.out c.entries.err c.entries.disk)
      (c.bytes-line.ensures.value ∙ c.index-lines-at.is) c.entries-test.true (take_rest c.args.lines.now
      (c.entries.at + 1)) c.entries.invariant.leads)));
  within = within_on c.args.lines.now (take (length c.args.lines.now - (c.entries.at + 1))
      (drop (c.entries.at + 1) c.args.lines.now)) c.entries.at c.in-Some.own c.in_ok-own.field-0
      c.in-Some.is c.in_ok-own.ensures.within (take_rest c.args.lines.now (c.entries.at + 1))
      c.entries-test.true;
}

pub returns-in-None : goal.returns-in-None
returns-in-None g c =
    subst (λ (r : Result (Option ℕ) Fault). NextEnds (g.C.Commands.command c.args.commands.now)
    (g.C.Commands.fits c.args.commands.now) (g.C.Commands.whole c.args.commands.now)
    (g.C.Commands.begun c.args.commands.now) (batch_of c.args.lines.now) (c.entries.at + 1)
    (take (length c.args.lines.now - (c.entries.at + 1)) (drop (c.entries.at + 1) c.args.lines.now)) r
    (quiet g.O.Sink g.E.Sink g.D.Disk c.args.out.now c.args.err.now c.args.disk.now)
    (quiet g.O.Sink g.E.Sink g.D.Disk c.run_next.new.out c.run_next.new.err c.run_next.new.disk))
    (ap (λ (o : Option ℕ). Ok o) c.in-None.is)
    (c.in_ok-own.ensures.run (batch_of c.args.lines.now) (quiet g.O.Sink g.E.Sink g.D.Disk c.args.out.now
    c.args.err.now c.args.disk.now) (reaches_line (g.C.Commands.command c.args.commands.now)
    (g.C.Commands.fits c.args.commands.now) (g.C.Commands.whole c.args.commands.now)
    (g.C.Commands.begun c.args.commands.now) (batch_of c.args.lines.now) c.args.lines.now c.entries.at
    c.bytes-line.result.now c.index-lines-at.result (take (length c.args.lines.now - (c.entries.at + 1))
    (drop (c.entries.at + 1) c.args.lines.now)) (quiet g.O.Sink g.E.Sink g.D.Disk c.args.out.now c.args.err.now
    c.args.disk.now) (quiet g.O.Sink g.E.Sink g.D.Disk c.entries.out c.entries.err c.entries.disk)
    (c.bytes-line.ensures.value ∙ c.index-lines-at.is) c.entries-test.true (take_rest c.args.lines.now
    (c.entries.at + 1)) c.entries.invariant.leads))

pub returns-in_err-own : goal.returns-in_err-own
returns-in_err-own g c =
    let e = err_from_is_err_and c.from_residual.result c.from_residual.ensures.1 in
    rw (e.1, e.2) (c.in_err-own.ensures.run (batch_of c.args.lines.now) (quiet g.O.Sink g.E.Sink g.D.Disk c.args.out.now
    c.args.err.now c.args.disk.now) (reaches_line (g.C.Commands.command c.args.commands.now)
    (g.C.Commands.fits c.args.commands.now) (g.C.Commands.whole c.args.commands.now)
    (g.C.Commands.begun c.args.commands.now) (batch_of c.args.lines.now) c.args.lines.now c.entries.at
    c.bytes-line.result.now c.index-lines-at.result (take (length c.args.lines.now - (c.entries.at + 1))
    (drop (c.entries.at + 1) c.args.lines.now)) (quiet g.O.Sink g.E.Sink g.D.Disk c.args.out.now c.args.err.now
    c.args.disk.now) (quiet g.O.Sink g.E.Sink g.D.Disk c.entries.out c.entries.err c.entries.disk)
    (c.bytes-line.ensures.value ∙ c.index-lines-at.is) c.entries-test.true (take_rest c.args.lines.now
    (c.entries.at + 1)) c.entries.invariant.leads))

pub returns : goal.returns
returns g c =
    reaches_end (g.C.Commands.command c.args.commands.now) (g.C.Commands.fits c.args.commands.now)
    (g.C.Commands.whole c.args.commands.now) (g.C.Commands.begun c.args.commands.now) (batch_of c.args.lines.now)
    (c.entries.at + 1) (drop c.entries.at c.args.lines.now) (quiet g.O.Sink g.E.Sink g.D.Disk c.args.out.now
    c.args.err.now c.args.disk.now) (quiet g.O.Sink g.E.Sink g.D.Disk c.entries.out c.entries.err c.entries.disk)
    (drop_of_length-le c.args.lines.now (omega (arith, c.entries-test.false))) c.entries.invariant.leads
