use Rattle.std.proofs.Common.{Some, ap, sym, ◌∙◌}
use Rattle.sccs_steps.specs.Settings.{setting, setting_of}
use Rattle.sccs_top.specs.Runs.{caller_in}
use Rattle.sccs_top.specs.declared.commands.GroupUse.{GroupUse}
use Rattle.sccs_top.specs.declared.commands.GroupUse.TheVariants as uses
use Rattle.sccs_top.proofs.RunLaws.{leaves_with, operands_leave, operands_run_alone, runs_with}
use Rattle.sccs_top.proofs.commands.run_command.Goals as goal

pub returns-in-Some-Makes-clause-run : goal.returns-in-Some-Makes-clause-run
returns-in-Some-Makes-clause-run g c =
    runs_with (Some uses.Makes) (caller_in c.args.context.now) c.args.command.now
    c.run_group.result (setting g.I.Source g.O.Sink g.E.Sink g.D.Disk c.args.streams.now)
    (setting_of g.I.Source g.O.Sink g.E.Sink g.D.Disk c.run_group.new.input
    c.run_group.new.out c.run_group.new.err c.run_group.new.disk) (sym c.group_use.ensures
    ∙ (c.in-Some-Makes.is ∙ ap (λ (x : GroupUse). Some x) c.in-Some-Makes.field-0-is)) c.run_group.ensures

pub returns-in-Some-Makes-clause-leaves : goal.returns-in-Some-Makes-clause-leaves
returns-in-Some-Makes-clause-leaves g c =
    leaves_with (Some uses.Makes) (caller_in c.args.context.now) c.args.command.now
    c.run_group.result (setting g.I.Source g.O.Sink g.E.Sink g.D.Disk c.args.streams.now)
    (setting_of g.I.Source g.O.Sink g.E.Sink g.D.Disk c.run_group.new.input
    c.run_group.new.out c.run_group.new.err c.run_group.new.disk) (sym c.group_use.ensures
    ∙ (c.in-Some-Makes.is ∙ ap (λ (x : GroupUse). Some x) c.in-Some-Makes.field-0-is)) tt

pub run_finishing-requires-clause-finishes : goal.run_finishing-requires-clause-finishes
run_finishing-requires-clause-finishes g c = sym c.group_use.ensures
    ∙ (c.in-Some-Finishes.is ∙ ap (λ (x : GroupUse). Some x) c.in-Some-Finishes.field-0-is)

pub run_single-requires-clause-operands : goal.run_single-requires-clause-operands
run_single-requires-clause-operands g c = sym c.group_use.ensures ∙ c.in-None.is

pub returns-in-None-clause-run : goal.returns-in-None-clause-run
returns-in-None-clause-run g c =
    operands_run_alone (caller_in c.args.context.now) c.args.command.now c.run_single.result
    (setting g.I.Source g.O.Sink g.E.Sink g.D.Disk c.args.streams.now) (setting g.I.Source g.O.Sink g.E.Sink g.D.Disk
    c.run_single.new.streams) (sym c.group_use.ensures ∙ c.in-None.is) c.run_single.ensures.run

pub returns-in-None-clause-leaves : goal.returns-in-None-clause-leaves
returns-in-None-clause-leaves g c =
    operands_leave (caller_in c.args.context.now) c.args.command.now c.run_single.result
    (setting g.I.Source g.O.Sink g.E.Sink g.D.Disk c.args.streams.now) (setting g.I.Source g.O.Sink g.E.Sink g.D.Disk
    c.run_single.new.streams) (sym c.group_use.ensures ∙ c.in-None.is) c.run_single.ensures.run
