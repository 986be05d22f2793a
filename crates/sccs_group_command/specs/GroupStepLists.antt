-- The list of steps of a group: the step of the entries that its input is, and what a call says that follows it.
use Rattle.std.specs.Prelude.{◌≡◌, ◌⊎◌, ℕ, nat_lt, is_some, true, false, List, [], ◌∷◌, ◌++◌, length, map, codes}
use Rattle.std.specs.Prelude.{decimal, if◌then◌else◌, Option, Result, Ok, Err}
use Rattle.sccs_base.specs.Constants.{file_limit}
use Rattle.sccs_base.specs.Cut.{text_of}
use Rattle.sccs_base.specs.Name.{is_sfile_name}
use Rattle.sccs_base.specs.Stream.{GivesOk, GivesSome}
use Rattle.sccs_sid.specs.Refusal.{refusal_line}
use Rattle.sccs_sid.specs.declared.moments.Stamp.{Stamp}
use Rattle.sccs_sid.specs.declared.refusals.Refusal.{Refusal}
use Rattle.sccs_sid.specs.declared.refusals.Refusal.TheVariants.{BadName, GroupPending, TooLong}
use Rattle.sccs_disk.specs.Files.{View, view_in}
use Rattle.sccs_intents.specs.Intents.{intent_file}
use Rattle.sccs_steps.specs.Actions.{Action, IsHeard}
use Rattle.sccs_steps.specs.Settings.{Setting}
use Rattle.sccs_steps.specs.StepLists.{NamedStep, named_step}
use Rattle.sccs_steps.specs.declared.faults.Fault.{Fault}
use Rattle.sccs_steps.specs.declared.faults.Fault.TheVariants as ends
use Rattle.sccs_steps.specs.declared.statuses.StatusRule.TheVariants.{Greatest}
use Rattle.sccs_step_lists.specs.StepLists.{StepLists, step_list_of, saying}
use Rattle.sccs_step_lists.specs.Following.{RunsStepList}
use Rattle.sccs_step_lists.specs.Sayings.{BegunSaid, WholeSaid}
use Rattle.sccs_group_command.specs.GroupText.{group_of}
use Rattle.sccs_group_command.specs.declared.entries.GroupEntry.{GroupEntry}
use Rattle.sccs_group_command.specs.declared.entries.GroupFault.{GroupFault}
use Rattle.sccs_group_command.specs.declared.entries.GroupFault.TheVariants as bad
use Rattle.sccs_group_command.specs.GroupStep.{CouldBeGroup, EntrySteps, entry_steps, group_step, names_of}
use Rattle.sccs_group_command.specs.Preparing.{ArePlain}

-- ---- the entries

-- what is asked of the entries' names: those of s-files are changed under their locks
abbrev pub group_action : Action
group_action = record {
  fits = is_sfile_name;
  step = λ n i named files. Err BadName;
  named = λ n. [];
  takes = true;
  reads = false;
  locks = true;
  silent = false;
  rule = Greatest;
  could = λ o. false;
}

-- the steps of names that are refused so
abbrev pub refused_parts : List (List ℕ) → Refusal → List NamedStep
refused_parts names refusal = map (λ (n : List ℕ). named_step n (Err refusal)) names

abbrev pub parts_by : List (List ℕ) → EntrySteps → List NamedStep
parts_by names (Ok ts) = ts
parts_by names (Err e) = refused_parts names e.refusal

-- the parts of a group's step: that of each entry
abbrev pub group_parts : Stamp → View → List GroupEntry → List NamedStep
group_parts stamp v entries =
    if is_some (v intent_file) then refused_parts (names_of entries) GroupPending else parts_by (names_of entries)
    (entry_steps stamp v entries)

-- the one step of all entries; it writes a plan
abbrev pub entries_step_list : Stamp → List GroupEntry → StepLists
entries_step_list stamp entries = λ folder i.
    step_list_of
    (record {
      by = group_action;
      steps = group_step stamp (view_in folder) entries ∷ [];
      parts =
          group_parts stamp (view_in folder) entries;
      finishes = false;
      plans = true;
    } ∷ [])
    (group_step stamp (view_in folder) entries).effect.status

-- ---- the input

-- the number of the line at which an entry begins that is none
abbrev pub bad_line : ℕ → List ℕ
bad_line number = codes "GROUP: line " ++ (decimal number ++ codes "\n")

abbrev pub read_step_list : Stamp → Result (List GroupEntry) ℕ → StepLists
read_step_list stamp (Ok entries) = entries_step_list stamp entries
read_step_list stamp (Err number) = saying [] (bad_line number) 1

-- the group that an input is; one past the limit is refused
abbrev pub group_on : Stamp → List ℕ → StepLists
group_on stamp input =
    if nat_lt file_limit (length input) then saying [] (refusal_line (codes "-") TooLong) 1 else read_step_list stamp
    (group_of (text_of input))

abbrev pub group_step_list : Stamp → StepLists
group_step_list stamp = λ folder i. group_on stamp i folder i

-- the names of g-files are no others' names
abbrev pub HasPlainNames : Result (List GroupEntry) ℕ → Type 0
HasPlainNames (Ok entries) = ArePlain (names_of entries)
HasPlainNames (Err number) = Unit {0}

-- so much is asked of the input
abbrev pub IsGroupInput : Option (List ℕ) → List ℕ → Type 0
IsGroupInput left i = IsHeard true left i × HasPlainNames (group_of (text_of i))

-- ---- over any disk

abbrev pub WholeEntries : ℕ → List NamedStep → Type 0
WholeEntries status ts = (t : NamedStep) × (ts ≡ t ∷ []) × (status ≡ t.effect.status) × CouldBeGroup t

abbrev pub BegunEntries : List NamedStep → Type 0
BegunEntries ts = (t : NamedStep) × (ts ≡ t ∷ []) × CouldBeGroup t

-- entries, a line that is none, or an input that was refused
abbrev pub WholeGroup : ℕ → List NamedStep → Type 0
WholeGroup status ts = WholeEntries status ts ⊎ (((number : ℕ) × WholeSaid [] (bad_line number) 1 status ts)
    ⊎ WholeSaid [] (refusal_line (codes "-") TooLong) 1 status ts)

abbrev pub BegunGroup : List NamedStep → Type 0
BegunGroup ts = BegunEntries ts ⊎ (((number : ℕ) × BegunSaid [] (bad_line number) ts)
    ⊎ BegunSaid [] (refusal_line (codes "-") TooLong) ts)

-- ---- calls

-- what is said of lines that are no group: the line at which an entry begins that is none; or memory was wanting
abbrev pub SaysBad : GroupFault → Result ℕ Fault → Option (List ℕ) → Option (List ℕ) → Type 0
SaysBad (bad.BadEntry number) (Ok status) err err2 = (status ≡ 1) × GivesOk err err2 (bad_line number)
SaysBad (bad.BadEntry number) (Err ends.WriteFault) err err2 = GivesSome err err2 (bad_line number)
SaysBad (bad.BadEntry number) (Err fault) err err2 = ⊥
SaysBad bad.Memory r err err2 = (r ≡ Err ends.Memory) × (err2 ≡ err)

-- a call that makes the group of entries
abbrev pub RunsEntries : Stamp → List GroupEntry → Result ℕ Fault → Setting → Setting → Type 0
RunsEntries stamp entries r s t = RunsStepList (entries_step_list stamp entries) (λ i. ArePlain (names_of entries))
    WholeEntries BegunEntries r s t

-- a call that makes the group that lines are
abbrev pub RunsLines : Stamp → Result (List GroupEntry) ℕ → Result ℕ Fault → Setting → Setting → Type 0
RunsLines stamp read r s t = RunsStepList (read_step_list stamp read) (λ i. HasPlainNames read) WholeGroup BegunGroup r
    s t

-- a call that makes the group that the input is
abbrev pub RunsGroup : Stamp → Result ℕ Fault → Setting → Setting → Type 0
RunsGroup stamp r s t = RunsStepList (group_step_list stamp) (IsGroupInput s.left) WholeGroup BegunGroup r s t
