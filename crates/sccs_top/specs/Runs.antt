-- What a run does: the steps that its words mean, one for each operand in their order.
use Rattle.std.specs.Prelude.{◌≡◌, ℕ, ◌<◌, nat_lt, ◌⊎◌, Bool, true, false, not, ◌||◌, ◌&&◌, List, [], ◌∷◌, length}
use Rattle.std.specs.Prelude.{Option, None, Some, is_some, Result, Ok, Err, codes, if◌then◌else◌}
use Rattle.std.specs.List.{AllByRecursion, list_any}
use Rattle.sccs_disk.specs.Files.{Folder, Model, view_in}
use Rattle.sccs_disk.specs.Told.{Told, Tells, seen}
use Rattle.sccs_crash_points.specs.Unlocked.{BeginsUnlockedBut}
use Rattle.sccs_sid.specs.declared.moments.Stamp.{Stamp}
use Rattle.sccs_words.specs.declared.commands.Usage.{Usage}
use Rattle.sccs_words.specs.declared.commands.AdminWords.{AdminWords}
use Rattle.sccs_words.specs.declared.commands.GetWords.{GetWords}
use Rattle.sccs_words.specs.declared.commands.Operands.{Operands}
use Rattle.sccs_words.specs.declared.commands.ValWords.{ValWords}
use Rattle.sccs_words.specs.declared.commands.Command.{Command}
use Rattle.sccs_words.specs.declared.commands.Command.TheVariants as c
use Rattle.sccs_name_files.specs.StepFiles.{Shows}
use Rattle.sccs_steps.specs.Actions.{Action, IsHeard, hears, is_several, steps_at}
use Rattle.sccs_steps.specs.Calls.{Scene, World, shown}
use Rattle.sccs_steps.specs.ListStops.{MayBegin}
use Rattle.sccs_steps.specs.Running.{IsInput, RunsSteps}
use Rattle.sccs_steps.specs.Settings.{Setting}
use Rattle.sccs_steps.specs.Speaking.{BegunInTurn, InTurn, NameMakes, OperandBegins, OperandMakes, SpeakAll, SpeaksOne}
use Rattle.sccs_steps.specs.StepLists.{ListInterrupted, NamedStep, Stopped, Waits}
use Rattle.sccs_steps.specs.declared.faults.Fault.{Fault}
use Rattle.sccs_steps.specs.declared.faults.Fault.TheVariants as ends
use Rattle.sccs_changes.specs.Changes.{locking}
use Rattle.sccs_changes.specs.Utilities.{locking_keeps}
use Rattle.sccs_admin.specs.AdminStep.{admin_change}
use Rattle.sccs_alter.specs.AlterStep.{alter_change}
use Rattle.sccs_alter.specs.CheckStep.{check_action, check_keeps}
use Rattle.sccs_alter.specs.CdcStep.{cdc_change}
use Rattle.sccs_delta.specs.DeltaStep.{delta_change}
use Rattle.sccs_edit.specs.Checks.{sact_keeps}
use Rattle.sccs_edit.specs.SactStep.{sact_action}
use Rattle.sccs_edit.specs.UngetStep.{unget_change}
use Rattle.sccs_edit.specs.Keeps.{pending_keeps}
use Rattle.sccs_edit.specs.PendingStep.{pending_action}
use Rattle.sccs_get.specs.EditStep.{edit_change}
use Rattle.sccs_get.specs.Keeps.{get_keeps}
use Rattle.sccs_get.specs.VersionStep.{get_action}
use Rattle.sccs_rcs.specs.ImportStep.{import_change}
use Rattle.sccs_recovery.specs.Commands.{recover_keeps}
use Rattle.sccs_recovery.specs.RecoverStep.{freed_by, recover_action}
use Rattle.sccs_rmdel.specs.RmdelStep.{rmdel_change}
use Rattle.sccs_prs.specs.Keeps.{prs_keeps}
use Rattle.sccs_prs.specs.PrsStep.{prs_action}
use Rattle.sccs_val.specs.ValStep.{val_action, val_operands, val_steps}
use Rattle.sccs_what.specs.Checks.{what_keeps}
use Rattle.sccs_what.specs.WhatStep.{what_action}
use Rattle.sccs_step_lists.specs.StepLists.{AllExempt, AllPlain, AllSafe, StepLists, Portion, TakesSfiles, follow}
use Rattle.sccs_step_lists.specs.StepLists.{if_fine, no_action, portion_of, portions_of, saying, steps_along}
use Rattle.sccs_step_lists.specs.Following.{AreKnown, BegunThen, StepListCrashPoints, RunsStepList, RunsTo, SpeaksTo}
use Rattle.sccs_step_lists.specs.Following.{WholeBy, WholeThen}
use Rattle.sccs_step_lists.specs.OwnFiles.{IsGivenTo, working_along}
use Rattle.sccs_step_lists.specs.Sayings.{BegunSaid, WholeSaid}
use Rattle.sccs_step_lists.specs.WhileFine.{BegunIfFine, WholeIfFine}
use Rattle.sccs_batch.specs.Batches.{BegunBatch, WholeBatch, batch_step_list}
use Rattle.sccs_batch.specs.BatchText.{batch_of}
use Rattle.sccs_batch.specs.declared.entries.BatchEntry.{BatchEntry}
use Rattle.sccs_words.specs.Meaning.{meaning}
use Rattle.sccs_base.specs.Cut.{text_of}
use Rattle.sccs_steps.specs.Causes.{Ignores}
use Rattle.sccs_top.specs.Messages.{usage_line}
use Rattle.sccs_recovery.specs.AnyDisk.{RecoversAll}
use Rattle.sccs_recovery.specs.FinishingEnds.{BegunFinishing, WholeFinishing}
use Rattle.sccs_recovery.specs.FinishStep.{finishing_step_list, freed_in}
use Rattle.sccs_group_command.specs.GroupStepLists.{BegunGroup, IsGroupInput, WholeGroup, group_step_list}
use Rattle.sccs_soak.specs.Dropping.{dropping}
use Rattle.sccs_soak.specs.Soak.{BegunSoak, WholeSoak, soak_step_list}
use Rattle.sccs_top.specs.declared.asking.Asked.{Asked}
use Rattle.sccs_top.specs.declared.asking.Asked.TheVariants as ask
use Rattle.sccs_top.specs.declared.commands.CommandList.{CommandList}
use Rattle.sccs_top.specs.declared.commands.CommandList.TheVariants as list
use Rattle.sccs_top.specs.declared.context.Context.{Context}
use Rattle.sccs_top.specs.declared.commands.GroupUse.{GroupUse}
use Rattle.sccs_top.specs.declared.commands.GroupUse.TheVariants as uses
use Rattle.sccs_top.specs.declared.answers.Answer.{Answer}
use Rattle.sccs_top.specs.declared.answers.Answer.TheVariants.{Finished, Memory, ReadFault, WriteFault, DiskFault}

-- the operands as they were given
abbrev pub words_in : Operands → List (List ℕ)
words_in operands = if operands.from_input then codes "-" ∷ [] else operands.words

-- a heading stands before each report where there are several operands, or one that stands for several files
abbrev pub has_heading : Operands → Bool
has_heading operands = operands.from_input || (nat_lt 1 (length operands.words) || list_any is_several operands.words)

-- who makes a run and when, the path of the folder, and whether the output is dropped, as that of a soak's commands
pub record Caller : Type 0 where
  pub stamp : Stamp
  pub place : List ℕ
  pub quiet : Bool
  -- the names that the end of a group freed just before
  pub freed : List ℕ → Bool

abbrev pub caller_by : Bool → Stamp → List ℕ → Caller
caller_by quiet stamp place = record { stamp = stamp; place = place; quiet = quiet; freed = freed_by [] }

abbrev pub caller : Stamp → List ℕ → Caller
caller stamp place = caller_by false stamp place

abbrev pub caller_in : Context → Caller
caller_in context = caller_by context.quiet context.stamp.now context.place.now

-- behind the end of a group that freed these names
abbrev pub freeing : Caller → (List ℕ → Bool) → Caller
freeing who freed = record { stamp = who.stamp; place = who.place; quiet = who.quiet; freed = freed }

-- get: with -e an edit is reserved
abbrev pub get_in : GetWords → Caller → Bool → Action
get_in words who heading = if words.edit then locking (edit_change words who.stamp who.place heading)
    else get_action words who.stamp who.place heading

-- admin on an s-file that is there: with -h it is checked alone
abbrev pub admin_there : AdminWords → Action
admin_there words = if words.check then check_action else locking (alter_change words)

-- admin: a new file, or an s-file that is there
abbrev pub admin_in : AdminWords → Stamp → Action
admin_in words stamp = if words.fresh then locking (admin_change words stamp) else admin_there words

pub either_takes : (test : Bool) (x y : Action) → TakesSfiles x → TakesSfiles y → TakesSfiles (if test then x else y)
either_takes true x y first second = first
either_takes false x y first second = second

-- What a single command does, with which operands. What changes files takes the names of s-files alone.
pub record Single : Type 0 where
  pub by : Caller → Action
  pub operands : List (List ℕ)
  -- the words of val: what it makes is one step, since lines of the input may name the files that it reads
  pub val : Option ValWords
  pub takes : (who : Caller) → TakesSfiles (by who)

abbrev pub single : (by : Caller → Action) → List (List ℕ) → ((who : Caller) → TakesSfiles (by who)) → Single
single by operands takes = record { by = by; operands = operands; val = None; takes = takes }

-- a list of commands isn't one
pub nothing_takes : TakesSfiles no_action
nothing_takes = λ changes n fits. absurd (cc)

abbrev pub no_single : Single
no_single = single (λ who. no_action) [] (λ who. nothing_takes)

pub val_takes : (words : ValWords) → TakesSfiles (val_action words)
val_takes words = λ changes n fits. absurd (cc)

-- each utility
abbrev pub single_of : Command → Single
single_of (c.Admin words operands) =
    single (λ who. admin_in words who.stamp) (words_in operands) (λ who.
    either_takes words.fresh (locking (admin_change words who.stamp)) (admin_there words)
    (locking_keeps (admin_change words who.stamp)).names
    (either_takes words.check check_action (locking (alter_change words)) check_keeps.names
    (locking_keeps (alter_change words)).names))
single_of (c.Get words operands) =
    single (λ who. get_in words who (has_heading operands)) (words_in operands) (λ who.
    either_takes words.edit (locking (edit_change words who.stamp who.place (has_heading operands)))
    (get_action words who.stamp who.place (has_heading operands))
    (locking_keeps (edit_change words who.stamp who.place (has_heading operands))).names
    (get_keeps words who.stamp who.place (has_heading operands)).names)
single_of (c.Delta words name) = single (λ who. locking (delta_change words who.stamp)) (name ∷ [])
    (λ who. (locking_keeps (delta_change words who.stamp)).names)
single_of (c.Unget words operands) =
    single (λ who. locking (unget_change words who.stamp (has_heading operands))) (words_in operands)
    (λ who. (locking_keeps (unget_change words who.stamp (has_heading operands))).names)
single_of (c.Sact operands) = single (λ who. sact_action (has_heading operands)) (words_in operands)
    (λ who. (sact_keeps (has_heading operands)).names)
single_of (c.Tell operands) = single (λ who. pending_action false) (words_in operands)
    (λ who. (pending_keeps false).names)
single_of (c.Check operands) = single (λ who. pending_action true) (words_in operands)
    (λ who. (pending_keeps true).names)
single_of (c.Rmdel sid operands) = single (λ who. locking (rmdel_change sid who.stamp)) (words_in operands)
    (λ who. (locking_keeps (rmdel_change sid who.stamp)).names)
single_of (c.Cdc words operands) = single (λ who. locking (cdc_change words who.stamp)) (words_in operands)
    (λ who. (locking_keeps (cdc_change words who.stamp)).names)
single_of (c.Prs words operands) = single (λ who. prs_action words who.place) (words_in operands)
    (λ who. (prs_keeps words who.place).names)
single_of (c.What first operands) = single (λ who. what_action first) (words_in operands)
    (λ who. (what_keeps first).names)
single_of (c.Recover operands) = single (λ who. recover_action who.freed) (words_in operands)
    (λ who. (recover_keeps who.freed).names)
single_of (c.Import operands) = single (λ who. locking (import_change (has_heading operands))) (words_in operands)
    (λ who. (locking_keeps (import_change (has_heading operands))).names)
single_of (c.Val words) = record {
  by = λ who. val_action words;
  operands = val_operands words;
  val = Some words;
  takes = λ who. val_takes words;
}
single_of c.Group = no_single
single_of c.Batch = no_single
single_of (c.Soak number) = no_single

abbrev pub operands_of : Command → List (List ℕ)
operands_of command = (single_of command).operands

-- the words of val, where the command is that
abbrev pub val_words_of : Command → Option ValWords
val_words_of command = (single_of command).val

-- the output is dropped where the caller is quiet; val's isn't
abbrev pub hushed : Option ValWords → Bool → Action → Action
hushed (Some words) quiet x = x
hushed None true x = dropping x
hushed None false x = x

-- what is done with each operand of a command
abbrev pub action_of : Caller → Command → Action
action_of who command = hushed (val_words_of command) who.quiet ((single_of command).by who)

pub hushed_takes : (val : Option ValWords) (quiet : Bool) (x : Action) → TakesSfiles x
    → TakesSfiles (hushed val quiet x)
hushed_takes (Some words) quiet x takes = takes
hushed_takes None true x takes = takes
hushed_takes None false x takes = takes

pub action_takes : (who : Caller) (command : Command) → TakesSfiles (action_of who command)
action_takes who command = hushed_takes (val_words_of command) who.quiet ((single_of command).by who)
    ((single_of command).takes who)

-- the steps of a command in a folder, with an input
abbrev pub steps_by : Option ValWords → Action → List (List ℕ) → Folder → List ℕ → List NamedStep
steps_by None x operands m i = steps_at x m i operands
steps_by (Some words) x operands m i = val_steps words m i

-- what such steps answer and write on err, over any disk
abbrev pub SpeakSteps : Option ValWords → Action → List (List ℕ) → Result ℕ Fault → Option (List ℕ) → Option (List ℕ)
    → Type 0
SpeakSteps None x operands = SpeakAll x operands
SpeakSteps (Some words) x operands = SpeaksOne x (codes "-")

-- a call that makes the steps of a command
abbrev pub RunsCommand : Option ValWords → Action → List (List ℕ) → Result ℕ Fault → Setting → Setting → Type 0
RunsCommand val x operands r s = RunsSteps x (steps_by val x operands) (IsInput x operands s.left)
    (SpeakSteps val x operands) (hears x operands) r s

-- ---- groups

-- what a command does with a group
abbrev pub group_use : Command → Option GroupUse
group_use c.Group = Some uses.Makes
group_use (c.Recover operands) = Some uses.Finishes
group_use command = None

-- ---- lists of commands

-- the list of commands that a command is
abbrev pub list_in : Command → Option CommandList
list_in c.Batch = Some list.Batch
list_in (c.Soak number) = Some (list.Soak number)
list_in command = None

-- whether a command only makes the steps of its operands
abbrev pub is_of_operands : Command → Bool
is_of_operands command = not (is_some (list_in command)) && not (is_some (group_use command))

-- what a command does with its operands
abbrev pub operands_step_list : Caller → Command → StepLists
operands_step_list who command = portion_of (action_of who command) (steps_by (val_words_of command)
    (action_of who command) (operands_of command))

-- those that the end of a group frees in a folder
abbrev pub freed_at : Folder → List ℕ → Bool
freed_at folder = freed_by (freed_in (view_in folder))

-- a group is made of the input, or finished before the operands, which then tell of the names that it freed
abbrev pub step_list_with : Option GroupUse → Caller → Command → StepLists
step_list_with None who command = operands_step_list who command
step_list_with (Some uses.Makes) who command = group_step_list who.stamp
step_list_with (Some uses.Finishes) who command = λ folder i. follow finishing_step_list (λ code. operands_step_list
    (freeing who (freed_at folder)) command) folder i

-- what a command does that is no list of commands; a usage fault is said
abbrev pub command_step_list : Caller → Result Command Usage → StepLists
command_step_list who (Err usage) = saying [] (usage_line usage) 2
command_step_list who (Ok command) = step_list_with (group_use command) who command

-- a command of a list does what its words mean, with its own stamp and input
abbrev pub entry_command : Bool → List ℕ → BatchEntry → StepLists
entry_command quiet place e = λ folder i. command_step_list (caller_by quiet e.stamp place) (meaning e.words) folder
    e.input

abbrev pub step_list_by : Option CommandList → Caller → Command → StepLists
step_list_by (Some list.Batch) who command = batch_step_list (entry_command false who.place)
step_list_by (Some (list.Soak number)) who command = soak_step_list (entry_command true who.place) number
step_list_by None who command = command_step_list who (Ok command)

-- what words that mean a command do
abbrev pub meant_step_list : Caller → Result Command Usage → StepLists
meant_step_list who (Err usage) = command_step_list who (Err usage)
meant_step_list who (Ok command) = step_list_by (list_in command) who command

-- what follows a first command, which has no input
abbrev pub next_step_list : Caller → Result Command Usage → StepLists
next_step_list who next = λ folder i. meant_step_list who next folder []

-- what a run does: of two commands the second where the first one's status is 0
abbrev pub asked_step_list : Caller → Asked → StepLists
asked_step_list who (ask.One command) = meant_step_list who (Ok command)
asked_step_list who (ask.Two first next) = follow (meant_step_list who (Ok first)) (if_fine (next_step_list who next))

abbrev pub run_step_list : Caller → Result Asked Usage → StepLists
run_step_list who (Err usage) = meant_step_list who (Err usage)
run_step_list who (Ok asked) = asked_step_list who asked

-- the steps of a run in a folder, with an input; and those of a single command
abbrev pub run_steps : Caller → Result Asked Usage → Folder → List ℕ → List NamedStep
run_steps who words m i = steps_along (run_step_list who words) m i

abbrev pub command_steps : Caller → Result Command Usage → Folder → List ℕ → List NamedStep
command_steps who meant m i = steps_along (command_step_list who meant) m i

-- their actions
abbrev pub run_portions : Caller → Result Asked Usage → Folder → List ℕ → List Portion
run_portions who words m i = portions_of (run_step_list who words) m i

-- the working files of a run; a command that only reads has none
abbrev pub working : Caller → Result Asked Usage → Folder → List ℕ → List ℕ → Bool
working who words m i = working_along (run_step_list who words) m i

-- ---- what is asked

-- what a step of a command takes of the input is told
abbrev pub AsksWith : Option GroupUse → Caller → Command → Option (List ℕ) → List ℕ → Type 0
AsksWith None who command left i = IsInput (action_of who command) (operands_of command) left i
AsksWith (Some uses.Makes) who command left i = IsGroupInput left i
AsksWith (Some uses.Finishes) who command left i = IsInput (action_of who command) (operands_of command) left i

abbrev pub AsksInput : Caller → Result Command Usage → Option (List ℕ) → List ℕ → Type 0
AsksInput who (Err usage) left i = Unit {0}
AsksInput who (Ok command) left i = AsksWith (group_use command) who command left i

-- each command of a list has an input of its own
abbrev pub FitsEntry : Bool → List ℕ → BatchEntry → Type 0
FitsEntry quiet place e = AsksInput (caller_by quiet e.stamp place) (meaning e.words) (Some e.input) e.input

-- of a soak nothing is asked
abbrev pub AsksBy : Option CommandList → Caller → Command → Option (List ℕ) → List ℕ → Type 0
AsksBy (Some list.Batch) who command left i = IsHeard true left i × AllByRecursion (FitsEntry false who.place)
    (batch_of (text_of i)).entries
AsksBy (Some (list.Soak number)) who command left i = Unit {0}
AsksBy None who command left i = AsksInput who (Ok command) left i

abbrev pub AsksMeant : Caller → Result Command Usage → Option (List ℕ) → List ℕ → Type 0
AsksMeant who (Err usage) left i = Unit {0}
AsksMeant who (Ok command) left i = AsksBy (list_in command) who command left i

abbrev pub AsksFor : Caller → Asked → Option (List ℕ) → List ℕ → Type 0
AsksFor who (ask.One command) left i = AsksMeant who (Ok command) left i
AsksFor who (ask.Two first next) left i = AsksMeant who (Ok first) left i × AsksMeant who next (Some []) []

abbrev pub AsksWords : Caller → Result Asked Usage → Option (List ℕ) → List ℕ → Type 0
AsksWords who (Err usage) left i = Unit {0}
AsksWords who (Ok asked) left i = AsksFor who asked left i

-- the same, and the files of the names of steps are apart from working files
abbrev pub IsGiven : Caller → Result Asked Usage → Option (List ℕ) → Folder → List ℕ → Type 0
IsGiven who (Err usage) left m i = Unit {0}
IsGiven who (Ok asked) left m i = IsGivenTo (asked_step_list who asked) (AsksFor who asked left) m i

-- ---- over any disk

-- steps of a single command that may come: whole ones, and some that were begun
abbrev pub MadeBy : Option ValWords → Action → List (List ℕ) → List NamedStep → Type 0
MadeBy None x operands = InTurn (OperandMakes x) operands
MadeBy (Some words) x operands = NameMakes x (codes "-")

abbrev pub BegunBy : Option ValWords → Action → List (List ℕ) → List NamedStep → Type 0
BegunBy None x operands = BegunInTurn (OperandMakes x) (OperandBegins x) operands
BegunBy (Some words) x operands = NameMakes x (codes "-")

abbrev pub WholeOperands : Caller → Command → ℕ → List NamedStep → Type 0
WholeOperands who command = WholeBy (action_of who command).rule (MadeBy (val_words_of command) (action_of who command)
    (operands_of command))

abbrev pub BegunOperands : Caller → Command → List NamedStep → Type 0
BegunOperands who command = BegunBy (val_words_of command) (action_of who command) (operands_of command)

-- the same behind the end of a group, which freed some names
abbrev pub WholeFreed : Caller → Command → ℕ → List NamedStep → Type 0
WholeFreed who command status ts = (freed : List ℕ → Bool) × WholeThen WholeFinishing
    (λ code. WholeOperands (freeing who freed) command) status ts

abbrev pub BegunFreed : Caller → Command → List NamedStep → Type 0
BegunFreed who command ts = (freed : List ℕ → Bool) × BegunThen WholeFinishing BegunFinishing
    (λ code. BegunOperands (freeing who freed) command) ts

-- the same with a group
abbrev pub WholeWith : Option GroupUse → Caller → Command → ℕ → List NamedStep → Type 0
WholeWith None who command = WholeOperands who command
WholeWith (Some uses.Makes) who command = WholeGroup
WholeWith (Some uses.Finishes) who command = WholeFreed who command

abbrev pub BegunWith : Option GroupUse → Caller → Command → List NamedStep → Type 0
BegunWith None who command = BegunOperands who command
BegunWith (Some uses.Makes) who command = BegunGroup
BegunWith (Some uses.Finishes) who command = BegunFreed who command

abbrev pub WholeCommand : Caller → Result Command Usage → ℕ → List NamedStep → Type 0
WholeCommand who (Err usage) = WholeSaid [] (usage_line usage) 2
WholeCommand who (Ok command) = WholeWith (group_use command) who command

abbrev pub BegunCommand : Caller → Result Command Usage → List NamedStep → Type 0
BegunCommand who (Err usage) = BegunSaid [] (usage_line usage)
BegunCommand who (Ok command) = BegunWith (group_use command) who command

-- those of a command of a list
abbrev pub WholeOf : Bool → List ℕ → BatchEntry → ℕ → List NamedStep → Type 0
WholeOf quiet place e = WholeCommand (caller_by quiet e.stamp place) (meaning e.words)

abbrev pub BegunOf : Bool → List ℕ → BatchEntry → List NamedStep → Type 0
BegunOf quiet place e = BegunCommand (caller_by quiet e.stamp place) (meaning e.words)

-- those of a run
abbrev pub WholeRun : Option CommandList → Caller → Command → ℕ → List NamedStep → Type 0
WholeRun (Some list.Batch) who command = WholeBatch (WholeOf false who.place)
WholeRun (Some (list.Soak number)) who command = WholeSoak (WholeOf true who.place) number
WholeRun None who command = WholeCommand who (Ok command)

abbrev pub BegunRun : Option CommandList → Caller → Command → List NamedStep → Type 0
BegunRun (Some list.Batch) who command = BegunBatch (WholeOf false who.place) (BegunOf false who.place)
BegunRun (Some (list.Soak number)) who command = BegunSoak (WholeOf true who.place) (BegunOf true who.place) number
BegunRun None who command = BegunCommand who (Ok command)

abbrev pub WholeMeant : Caller → Result Command Usage → ℕ → List NamedStep → Type 0
WholeMeant who (Err usage) = WholeCommand who (Err usage)
WholeMeant who (Ok command) = WholeRun (list_in command) who command

abbrev pub BegunMeant : Caller → Result Command Usage → List NamedStep → Type 0
BegunMeant who (Err usage) = BegunCommand who (Err usage)
BegunMeant who (Ok command) = BegunRun (list_in command) who command

-- those of two commands, the second where the first one's status is 0
abbrev pub WholeAsked : Caller → Asked → ℕ → List NamedStep → Type 0
WholeAsked who (ask.One command) = WholeMeant who (Ok command)
WholeAsked who (ask.Two first next) = WholeThen (WholeMeant who (Ok first)) (WholeIfFine (WholeMeant who next))

abbrev pub BegunAsked : Caller → Asked → List NamedStep → Type 0
BegunAsked who (ask.One command) = BegunMeant who (Ok command)
BegunAsked who (ask.Two first next) = BegunThen (WholeMeant who (Ok first)) (BegunMeant who (Ok first))
    (BegunIfFine (BegunMeant who next))

abbrev pub WholeWords : Caller → Result Asked Usage → ℕ → List NamedStep → Type 0
WholeWords who (Err usage) = WholeMeant who (Err usage)
WholeWords who (Ok asked) = WholeAsked who asked

abbrev pub BegunWords : Caller → Result Asked Usage → List NamedStep → Type 0
BegunWords who (Err usage) = BegunMeant who (Err usage)
BegunWords who (Ok asked) = BegunAsked who asked

-- ---- calls

-- a call that does a command that is no list of commands
abbrev pub RunsAlone : Caller → Command → Result ℕ Fault → Setting → Setting → Type 0
RunsAlone who command r s t = RunsStepList (command_step_list who (Ok command)) (AsksInput who (Ok command) s.left)
    (WholeCommand who (Ok command)) (BegunCommand who (Ok command)) r s t

-- the same of words, or it did nothing for want of memory
abbrev pub RunsWords : Caller → Result Command Usage → Result ℕ Fault → Setting → Setting → Type 0
RunsWords who meant r s t =
    RunsStepList (command_step_list who meant) (AsksInput who meant s.left) (WholeCommand who meant)
    (BegunCommand who meant) r s t ⊎ ((r ≡ Err ends.Memory) × (t ≡ s))

-- a call that does what words mean
abbrev pub RunsMeant : Caller → Result Command Usage → Result ℕ Fault → Setting → Setting → Type 0
RunsMeant who meant r s t = RunsStepList (meant_step_list who meant) (AsksMeant who meant s.left) (WholeMeant who meant)
    (BegunMeant who meant) r s t

-- a call that does what words ask for
abbrev pub RunsAsked : Caller → Result Asked Usage → Result ℕ Fault → Setting → Setting → Type 0
RunsAsked who words r s t = RunsStepList (run_step_list who words) (AsksWords who words s.left) (WholeWords who words)
    (BegunWords who words) r s t

-- What a call leaves as it was that makes the steps of operands.
pub record LeavesOperands (x : Action) (hearing : Bool) (r : Result ℕ Fault) (s t : Setting) : Type 0 where
  pub reads : x.reads ≡ true → t.stage.told ≡ s.stage.told
  pub silent : x.silent ≡ true → t.stage.out ≡ s.stage.out
  pub ignores : hearing ≡ false → Ignores ends.ReadFault s.left t.left s.faults.input t.faults.input r

-- what recovery leaves of a disk, and that it takes no input
pub record LeavesRecovered (who : Caller) (command : Command) (r : Result ℕ Fault) (s t : Setting) : Type 0 where
  pub recovers : RecoversAll r s.stage.told t.stage.told
  pub ignores : hears (action_of who command) (operands_of command) ≡ false
      → Ignores ends.ReadFault s.left t.left s.faults.input t.faults.input r

-- of a command that makes a group nothing is said
abbrev pub LeavesWith : Option GroupUse → Caller → Command → Result ℕ Fault → Setting → Setting → Type 0
LeavesWith None who command r s t = LeavesOperands (action_of who command) (hears (action_of who command)
    (operands_of command)) r s t
LeavesWith (Some uses.Makes) who command r s t = Unit {0}
LeavesWith (Some uses.Finishes) who command r s t = LeavesRecovered who command r s t

abbrev pub LeavesAlone : Caller → Command → Result ℕ Fault → Setting → Setting → Type 0
LeavesAlone who command r s t = LeavesWith (group_use command) who command r s t

-- nor of a list of commands
abbrev pub LeavesMeant : Caller → Command → Result ℕ Fault → Setting → Setting → Type 0
LeavesMeant who command r s t = list_in command ≡ None → LeavesAlone who command r s t

-- of two commands nothing more is said
abbrev pub LeavesAsked : Caller → Asked → Result ℕ Fault → Setting → Setting → Type 0
LeavesAsked who (ask.One command) r s t = LeavesMeant who command r s t
LeavesAsked who (ask.Two first next) r s t = Unit {0}

-- ---- a run

-- no step was made yet, or one is still to be made
abbrev pub IsUnended : (List ℕ → Bool) → Folder → List NamedStep → World → World → Type 0
IsUnended w m ts a b = (s : Stopped w m ts a b) × ((s.made ≡ []) ⊎ (0 < length s.rest))

-- how a run ends that makes these steps and then has this status
abbrev pub EndsRun : ℕ → (List ℕ → Bool) → Answer → Folder → List NamedStep → World → World → Type 0
EndsRun code w (Finished status) m ts a b = RunsTo code w (Ok status) m ts a b
EndsRun code w Memory m ts a b = IsUnended w m ts a b
EndsRun code w ReadFault m ts a b = Waits w m ts a b
EndsRun code w WriteFault m ts a b = Stopped w m ts a b
EndsRun code w DiskFault m ts a b = ListInterrupted w m ts a b

-- where the disk tells a folder the steps of these words are made, or the run ends early
abbrev pub MakesSteps : Caller → Result Asked Usage → Answer → Option (List ℕ) → Scene → Scene → Type 0
MakesSteps who words answer left a b = (m : Folder) (i : List ℕ)
    → IsGiven who words left m i → Shows (working who words m i) (seen a.told) (view_in m)
    → AreKnown a.told m (run_portions who words m i)
    → EndsRun (run_step_list who words m i).status (working who words m i) answer m (run_steps who words m i) (shown a)
    (shown b)

-- the answer as that of steps
abbrev pub steps_answer : Answer → Result ℕ Fault
steps_answer (Finished status) = Ok status
steps_answer Memory = Err ends.Memory
steps_answer ReadFault = Err ends.ReadFault
steps_answer WriteFault = Err ends.WriteFault
steps_answer DiskFault = Err ends.DiskFault

-- over any disk: some steps that may come explain the status and what is written on err
abbrev pub SpeaksWords : Caller → Result Asked Usage → Answer → Option (List ℕ) → Option (List ℕ) → Type 0
SpeaksWords who words answer err err2 = SpeaksTo (WholeWords who words) (BegunWords who words) (steps_answer answer) err
    err2

-- whether the words change no file, write nothing on out, and take no input; of two commands nothing is said but of
-- the input, which the first one alone may take
abbrev pub asked_reads : Caller → Asked → Bool
asked_reads who (ask.One command) = is_of_operands command && (action_of who command).reads
asked_reads who (ask.Two first next) = false

abbrev pub only_reads : Caller → Result Asked Usage → Bool
only_reads who (Err usage) = true
only_reads who (Ok asked) = asked_reads who asked

abbrev pub asked_is_silent : Caller → Asked → Bool
asked_is_silent who (ask.One command) = is_of_operands command && (action_of who command).silent
asked_is_silent who (ask.Two first next) = false

abbrev pub is_silent : Caller → Result Asked Usage → Bool
is_silent who (Err usage) = true
is_silent who (Ok asked) = asked_is_silent who asked

-- one that makes a group takes the input
abbrev pub group_takes_input : Option GroupUse → Bool → Bool
group_takes_input (Some uses.Makes) operands = true
group_takes_input (Some uses.Finishes) operands = operands
group_takes_input None operands = operands

-- a batch takes it, a soak doesn't
abbrev pub list_takes_input : Option CommandList → Bool → Bool
list_takes_input (Some list.Batch) single = true
list_takes_input (Some (list.Soak number)) single = false
list_takes_input None single = single

abbrev pub command_takes_input : Caller → Command → Bool
command_takes_input who command = list_takes_input (list_in command) (group_takes_input (group_use command)
    (hears (action_of who command) (operands_of command)))

abbrev pub asked_takes_input : Caller → Asked → Bool
asked_takes_input who (ask.One command) = command_takes_input who command
asked_takes_input who (ask.Two first next) = command_takes_input who first

abbrev pub words_take_input : Caller → Result Asked Usage → Bool
words_take_input who (Err usage) = false
words_take_input who (Ok asked) = asked_takes_input who asked

-- a command that doesn't take the input leaves it
abbrev pub LeavesInput : Caller → Command → Result ℕ Fault → Setting → Setting → Type 0
LeavesInput who command r s t = command_takes_input who command ≡ false
    → Ignores ends.ReadFault s.left t.left s.faults.input t.faults.input r

-- so do words
abbrev pub LeavesAskedInput : Caller → Asked → Result ℕ Fault → Setting → Setting → Type 0
LeavesAskedInput who asked r s t = asked_takes_input who asked ≡ false
    → Ignores ends.ReadFault s.left t.left s.faults.input t.faults.input r

-- What a stop leaves of a run that begins on a calm disk, where the names of its steps are safe: all names as after
-- one number of steps, no fewer than those that are acknowledged.
abbrev pub StopsSteps : Caller → Result Asked Usage → Answer → Option (List ℕ) → Scene → Scene → Type 0
StopsSteps who words answer left a b = (folder : Folder) (i : List ℕ) (m : Model) (past : List Model)
    → IsGiven who words left folder i → Shows (working who words folder i) (seen a.told) (view_in folder)
    → a.told ≡ Tells m past → MayBegin folder m → AllSafe (view_in folder) (run_portions who words folder i)
    → StepListCrashPoints (working who words folder i) (steps_answer answer) folder (run_steps who words folder i) a b m
    past

-- Before each change of an s-file or p-file its z-file wasn't there at a moment of the run, but of names that are
-- recovered.
abbrev pub UnlockedSteps : Caller → Result Asked Usage → Option (List ℕ) → Told → Told → Type 0
UnlockedSteps who words left old new = (folder : Folder) (i : List ℕ)
    → IsGiven who words left folder i → Shows (working who words folder i) (seen old) (view_in folder)
    → AreKnown old folder (run_portions who words folder i)
    → (exempt : List ℕ → Bool) → AllPlain (run_portions who words folder i)
    → AllExempt exempt (run_portions who words folder i) → BeginsUnlockedBut exempt old new

-- whether the words ask for recovery
abbrev pub is_recovery : Option GroupUse → Bool
is_recovery None = false
is_recovery (Some uses.Makes) = false
is_recovery (Some uses.Finishes) = true

abbrev pub asks_recovery : Asked → Bool
asks_recovery (ask.One command) = is_recovery (group_use command)
asks_recovery (ask.Two first next) = false

abbrev pub words_recover : Result Asked Usage → Bool
words_recover (Err usage) = false
words_recover (Ok asked) = asks_recovery asked

-- what recovery leaves of a disk, be it calm or not, as a disk fault leaves it
abbrev pub RecoversRun : Result Asked Usage → Answer → Told → Told → Type 0
RecoversRun words answer old new = words_recover words ≡ true → RecoversAll (steps_answer answer) old new
