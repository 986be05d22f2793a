use Rattle.std.proofs.Common.{[]}
use Rattle.sccs_name_files.specs.StepFiles.{is_left}
use Rattle.sccs_name_files.proofs.Touched.{only_then}
use Rattle.sccs_group_command.specs.GroupStep.{entry_outcome}
use Rattle.sccs_group_command.proofs.Backs.{memory_back, told_free}
use Rattle.sccs_group_command.proofs.Losing.{free_loses}
use Rattle.sccs_sid.specs.declared.refusals.StepFault.TheVariants.{Memory}
use Rattle.sccs_group_command.proofs.Speaking.{could_back}
use Rattle.sccs_group_command.proofs.preparing.add_entry.Goals as goal

pub returns-in-Err-clause-told : goal.returns-in-Err-clause-told
returns-in-Err-clause-told g c =
    memory_back (λ u. entry_outcome c.args.stamp.now u c.args.entry.now) c.args.entry.now.name c.in_ok-prepared.prepared
    [] [] c.give_up.result _ _ _ c.in_ok-prepared.ensures.told c.give_up.ensures.gives_back

pub returns-in-Err-clause-touches : goal.returns-in-Err-clause-touches
returns-in-Err-clause-touches g c = only_then (is_left c.args.entry.now.name) _ (g.D.Disk.told c.prepare_entry.new.disk)
    _ c.prepare_entry.ensures.touches c.give_up.ensures.touches

pub returns-in-Err-clause-before : goal.returns-in-Err-clause-before
returns-in-Err-clause-before g c =
    free_loses c.args.entry.now.name _ _ c.in_ok-prepared.ensures.firm.named
    (told_free (λ u. entry_outcome c.args.stamp.now u c.args.entry.now) c.args.entry.now.name
    c.in_ok-prepared.prepared _ _ c.in_ok-prepared.ensures.told)
    (only_then (is_left c.args.entry.now.name) _ (g.D.Disk.told c.prepare_entry.new.disk) _
    c.prepare_entry.ensures.touches c.give_up.ensures.touches)

pub returns-in-Err-clause-speaks : goal.returns-in-Err-clause-speaks
returns-in-Err-clause-speaks g c = could_back c.give_up.result Memory c.args.entry.now.name _ _
    c.give_up.ensures.gives_back tt
