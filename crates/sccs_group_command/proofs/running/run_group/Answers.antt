use Rattle.std.proofs.Common.{rules, ℕ, List, Ok, Err, IfSome, refl, sym, subst}
use Rattle.sccs_base.specs.Constants.{file_limit}
use Rattle.sccs_base.specs.declared.streams.TakeFault.{TakeFault}
use Rattle.sccs_operands.specs.InputNames.{GivesLines}
use Rattle.sccs_steps.specs.Calls.{scene}
use Rattle.sccs_steps.specs.Settings.{setting_of}
use Rattle.sccs_steps.specs.declared.faults.Fault.TheVariants as ends
use Rattle.sccs_batch.proofs.BatchStepLists.{refused_causes, unread_causes}
use Rattle.sccs_group_command.proofs.GroupStepLists.{group_never, group_ran, group_refused}
use Rattle.sccs_group_command.proofs.running.run_group.Goals as goal

pub returns-in-Ok : goal.returns-in-Ok
returns-in-Ok g c =
    group_ran c.args.stamp.now c.items.result.now c.run_lines.result (g.I.Source.left c.args.input.now)
    (g.I.Source.left c.read_names.new.input)
    (scene (g.D.Disk.told c.args.disk.now) (g.O.Sink.given c.args.out.now) (g.E.Sink.given c.args.err.now))
    (scene (g.D.Disk.told c.run_lines.new.disk) (g.O.Sink.given c.run_lines.new.out)
    (g.E.Sink.given c.run_lines.new.err))
    (g.I.Source.faults c.args.input.now) (g.I.Source.faults c.read_names.new.input) (g.O.Sink.faults c.args.out.now)
    (g.O.Sink.faults c.run_lines.new.out) (g.E.Sink.faults c.args.err.now) (g.E.Sink.faults c.run_lines.new.err)
    (g.D.Disk.faults c.args.disk.now) (g.D.Disk.faults c.run_lines.new.disk)
    (subst (λ (lines : List (List ℕ)). IfSome (g.I.Source.left c.args.input.now) (λ bytes. GivesLines file_limit bytes
    (Ok lines))) (sym c.items.ensures) c.in-Ok.ensures.told) c.read_names.ensures.causes.later c.run_lines.ensures

pub returns-in-Err-TooLong : goal.returns-in-Err-TooLong
returns-in-Err-TooLong g c =
    group_refused c.args.stamp.now c.refuse_input.result (setting_of g.I.Source g.O.Sink g.E.Sink g.D.Disk
    c.args.input.now c.args.out.now c.args.err.now c.args.disk.now)
    (setting_of g.I.Source g.O.Sink g.E.Sink g.D.Disk c.read_names.new.input c.args.out.now c.refuse_input.new.err
    c.args.disk.now) (g.E.Sink.given c.refuse_input.new.err)
    (subst (λ (fault : TakeFault). IfSome (g.I.Source.left c.args.input.now) (λ bytes. GivesLines file_limit bytes
    (Err fault))) c.in-Err-TooLong.field-0-is c.in-Err-TooLong.ensures.told) refl c.refuse_input.ensures.says
    (refused_causes c.refuse_input.result _ _ _ _ _ _ _ _ c.read_names.ensures.causes.later c.refuse_input.ensures)

pub returns-in-Err-Failed : goal.returns-in-Err-Failed
returns-in-Err-Failed g c =
    group_never c.args.stamp.now ends.ReadFault (setting_of g.I.Source g.O.Sink g.E.Sink g.D.Disk c.args.input.now
    c.args.out.now c.args.err.now c.args.disk.now) (setting_of g.I.Source g.O.Sink g.E.Sink g.D.Disk
    c.read_names.new.input c.args.out.now c.args.err.now c.args.disk.now) refl
    (unread_causes ends.ReadFault _ _ _ _ _ c.read_names.ensures.causes.later (λ is. c.read_names.ensures.causes.cause
    (search rules)) (λ is. absurd (cc)) (λ is. absurd (cc)))

pub returns-in-Err-Memory : goal.returns-in-Err-Memory
returns-in-Err-Memory g c =
    group_never c.args.stamp.now ends.Memory (setting_of g.I.Source g.O.Sink g.E.Sink g.D.Disk c.args.input.now
    c.args.out.now c.args.err.now c.args.disk.now) (setting_of g.I.Source g.O.Sink g.E.Sink g.D.Disk
    c.read_names.new.input c.args.out.now c.args.err.now c.args.disk.now) refl
    (unread_causes ends.Memory _ _ _ _ _ c.read_names.ensures.causes.later (λ is. absurd (cc)) (λ is. absurd (cc))
    (λ is. absurd (cc)))
