use Rattle.std.proofs.Common.{None, Some, ap, refl, sym, ◌∙◌}
use Rattle.sccs_steps.specs.Settings.{setting_of}
use Rattle.sccs_step_lists.specs.QuietSettings.{quiet}
use Rattle.sccs_top.specs.Runs.{caller_in}
use Rattle.sccs_top.specs.declared.commands.CommandList.{CommandList}
use Rattle.sccs_top.specs.declared.commands.CommandList.TheVariants as list
use Rattle.sccs_top.proofs.RunLaws.{alone_input, run_by, soak_runs}
use Rattle.sccs_top.proofs.commands.run_meant.Goals as goal

pub returns-in-Some-Batch-clause-run : goal.returns-in-Some-Batch-clause-run
returns-in-Some-Batch-clause-run g c =
    run_by (Some list.Batch) (caller_in c.args.context.now) c.args.command.now c.run_batch.result
    (setting_of g.I.Source g.O.Sink g.E.Sink g.D.Disk c.args.input.now c.args.out.now c.args.err.now
    c.args.disk.now) (setting_of g.I.Source g.O.Sink g.E.Sink g.D.Disk c.run_batch.new.input c.run_batch.new.out
    c.run_batch.new.err c.run_batch.new.disk)
    (sym c.list_in.ensures ∙ (c.in-Some-Batch.is ∙ ap (λ (x : CommandList). Some x) c.in-Some-Batch.field-0-is))
    c.run_batch.ensures

pub returns-in-Some-Soak-clause-run : goal.returns-in-Some-Soak-clause-run
returns-in-Some-Soak-clause-run g c =
    run_by (Some (list.Soak c.in-Some-Soak.number)) (caller_in c.args.context.now) c.args.command.now
    c.run_soak.result (setting_of g.I.Source g.O.Sink g.E.Sink g.D.Disk c.args.input.now c.args.out.now
    c.args.err.now c.args.disk.now) (setting_of g.I.Source g.O.Sink g.E.Sink g.D.Disk c.args.input.now
    c.run_soak.new.out c.run_soak.new.err c.run_soak.new.disk)
    (sym c.list_in.ensures ∙ (c.in-Some-Soak.is ∙ ap (λ (x : CommandList). Some x) c.in-Some-Soak.field-0-is))
    (soak_runs c.in-Some-Soak.number (caller_in c.args.context.now) c.args.command.now c.run_soak.result
    (quiet g.O.Sink g.E.Sink g.D.Disk c.args.out.now c.args.err.now c.args.disk.now)
    (quiet g.O.Sink g.E.Sink g.D.Disk c.run_soak.new.out c.run_soak.new.err c.run_soak.new.disk)
    (g.I.Source.left c.args.input.now) (g.I.Source.left c.args.input.now) (g.I.Source.faults c.args.input.now) refl
    refl c.run_soak.ensures)

pub returns-in-None-clause-run : goal.returns-in-None-clause-run
returns-in-None-clause-run g c =
    run_by None (caller_in c.args.context.now) c.args.command.now c.run_alone.result
    (setting_of g.I.Source g.O.Sink g.E.Sink g.D.Disk c.args.input.now c.args.out.now c.args.err.now
    c.args.disk.now) (setting_of g.I.Source g.O.Sink g.E.Sink g.D.Disk c.run_alone.new.input c.run_alone.new.out
    c.run_alone.new.err c.run_alone.new.disk) (sym c.list_in.ensures ∙ c.in-None.is) c.run_alone.ensures.run

pub returns-in-None-clause-input : goal.returns-in-None-clause-input
returns-in-None-clause-input g c =
    alone_input (caller_in c.args.context.now) c.args.command.now c.run_alone.result
    (setting_of g.I.Source g.O.Sink g.E.Sink g.D.Disk c.args.input.now c.args.out.now c.args.err.now
    c.args.disk.now) (setting_of g.I.Source g.O.Sink g.E.Sink g.D.Disk c.run_alone.new.input c.run_alone.new.out
    c.run_alone.new.err c.run_alone.new.disk) (sym c.list_in.ensures ∙ c.in-None.is) c.run_alone.ensures.leaves
