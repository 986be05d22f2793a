-- What the commands of a list owe: what changes files takes the names of s-files alone, and some steps may have been
-- begun.
use Rattle.std.specs.Prelude.{ℕ, List, [], ◌∷◌, codes, Option, None, Some, Result, Ok, Err}
use Rattle.std.proofs.Common.{inl, inr, refl}
use Rattle.sccs_base.specs.Name.{sfile_name_decides}
use Rattle.sccs_disk.specs.Files.{Folder}
use Rattle.sccs_steps.specs.StepLists.{NamedStep, named_step}
use Rattle.sccs_step_lists.specs.StepLists.{AllTake, portions_of, said}
use Rattle.sccs_words.specs.declared.commands.Command.{Command}
use Rattle.sccs_words.specs.declared.commands.Command.TheVariants as c
use Rattle.sccs_words.specs.declared.commands.Usage.{Usage}
use Rattle.sccs_val.specs.ValStep.{val_effect}
use Rattle.sccs_group_command.specs.GroupStep.{joint_step}
use Rattle.sccs_group_command.proofs.GroupStepLists.{begun_none, group_takes}
use Rattle.sccs_recovery.specs.FinishStep.{finishing_step}
use Rattle.sccs_top.specs.Messages.{usage_line}
use Rattle.sccs_top.specs.Runs.{BegunCommand, BegunOperands, BegunWith, Caller, action_takes, command_step_list}
use Rattle.sccs_top.specs.Runs.{step_list_with, freed_at, freeing, group_use}
use Rattle.sccs_top.specs.declared.commands.GroupUse.{GroupUse}
use Rattle.sccs_top.specs.declared.commands.GroupUse.TheVariants as uses

takes_with : (group : Option GroupUse) (who : Caller) (command : Command) (folder : Folder) (i : List ℕ)
    → AllTake (portions_of (step_list_with group who command) folder i)
takes_with None who command folder i = (action_takes who command, tt)
takes_with (Some uses.Makes) who command folder i = group_takes who.stamp folder i
takes_with (Some uses.Finishes) who command folder i = (
  (λ changes n fits. ((sfile_name_decides n).0 fits).1),
  (action_takes (freeing who (freed_at folder)) command, tt),
)

pub command_takes : (who : Caller) (meant : Result Command Usage) (folder : Folder) (i : List ℕ)
    → AllTake (portions_of (command_step_list who meant) folder i)
command_takes who (Err usage) folder i = (λ changes n fits. absurd (cc), tt)
command_takes who (Ok command) folder i = takes_with (group_use command) who command folder i

-- some steps may have been begun
begun_by : (who : Caller) (command : Command) → (ts : List NamedStep) × BegunOperands who command ts
begun_by who (c.Val words) = (
  named_step (codes "-") (Ok (val_effect [] 0)) ∷ [],
  (Ok (val_effect [] 0), inr (refl, refl), refl),
)
begun_by who (c.Admin words operands) = ([], inl refl)
begun_by who (c.Get words operands) = ([], inl refl)
begun_by who (c.Delta words name) = ([], inl refl)
begun_by who (c.Unget words operands) = ([], inl refl)
begun_by who (c.Sact operands) = ([], inl refl)
begun_by who (c.Tell operands) = ([], inl refl)
begun_by who (c.Check operands) = ([], inl refl)
begun_by who (c.Rmdel sid operands) = ([], inl refl)
begun_by who (c.Cdc words operands) = ([], inl refl)
begun_by who (c.Prs words operands) = ([], inl refl)
begun_by who (c.What first operands) = ([], inl refl)
begun_by who (c.Recover operands) = ([], inl refl)
begun_by who (c.Import operands) = ([], inl refl)
begun_by who c.Group = ([], inl refl)
begun_by who c.Batch = ([], inl refl)
begun_by who (c.Soak number) = ([], inl refl)

begun_with : (group : Option GroupUse) (who : Caller) (command : Command) → (ts : List NamedStep)
    × BegunWith group who command ts
begun_with None who command = begun_by who command
begun_with (Some uses.Makes) who command = (joint_step [] ∷ [], inl begun_none)
begun_with (Some uses.Finishes) who command = (finishing_step (λ k. None) ∷ [], (who.freed, inl ((λ k. None), refl)))

pub command_might : (who : Caller) (meant : Result Command Usage) → (ts : List NamedStep) × BegunCommand who meant ts
command_might who (Err usage) = (said [] (usage_line usage) ∷ [], refl)
command_might who (Ok command) = begun_with (group_use command) who command
