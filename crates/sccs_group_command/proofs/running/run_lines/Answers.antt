use Rattle.std.proofs.Common.{[], Some, Ok, sym, ap, subst, ◌∙◌}
use Rattle.sccs_step_lists.specs.QuietSettings.{quiet}
use Rattle.sccs_steps.specs.Calls.{scene}
use Rattle.sccs_group_command.specs.GroupText.{group_of}
use Rattle.sccs_group_command.specs.Preparing.{AreGrouped}
use Rattle.sccs_group_command.proofs.GroupedEntries.{read_grouped}
use Rattle.sccs_group_command.proofs.GroupStepLists.{lines_ran, lines_refused}
use Rattle.sccs_group_command.proofs.running.run_lines.Goals as goal

pub run_entries-requires-clause-entries : goal.run_entries-requires-clause-entries
run_entries-requires-clause-entries g c = subst AreGrouped (sym c.items.ensures)
    (read_grouped c.args.lines.now c.in-Ok.entries c.in-Ok.ensures)

pub returns-in-Ok : goal.returns-in-Ok
returns-in-Ok g c =
    lines_ran c.args.stamp.now (group_of c.args.lines.now) c.items.result.now c.run_entries.result
    (quiet g.O.Sink g.E.Sink g.D.Disk c.args.out.now c.args.err.now c.args.disk.now)
    (quiet g.O.Sink g.E.Sink g.D.Disk c.run_entries.new.out c.run_entries.new.err c.run_entries.new.disk)
    (c.in-Ok.ensures ∙ ap Ok (sym c.items.ensures)) c.run_entries.ensures

pub returns-in-Err : goal.returns-in-Err
returns-in-Err g c =
    lines_refused c.args.stamp.now (group_of c.args.lines.now) c.in-Err.fault c.refuse_lines.result
    (scene (g.D.Disk.told c.args.disk.now) (g.O.Sink.given c.args.out.now) (g.E.Sink.given c.args.err.now))
    (g.E.Sink.given c.refuse_lines.new.err) (Some []) (Some [])
    (g.O.Sink.faults c.args.out.now) (g.E.Sink.faults c.args.err.now) (g.E.Sink.faults c.refuse_lines.new.err)
    (g.D.Disk.faults c.args.disk.now) c.in-Err.ensures c.refuse_lines.ensures.says c.refuse_lines.ensures.later
    c.refuse_lines.ensures.cause
