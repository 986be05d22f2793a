-- Runs that follow one another, and what their scripts make of the versions of an s-file: POSIX, Shell and Utilities,
-- admin and delta.
use Rattle.std.specs.Prelude.{◌≡◌, ℕ, suc, ◌-◌, ◌==◌, nat_lt, length, Bool, true, false, not, ◌&&◌, List, [], ◌∷◌, ◌++◌}
use Rattle.std.specs.Prelude.{map, take, drop, Option, None, Some, IfSome, is_some, Result, Ok, Err, if◌then◌else◌}
use Rattle.std.specs.List.{AllByRecursion}
use Rattle.std.specs.Str.{bytes_eq}
use Rattle.sccs_base.specs.Constants.{file_limit}
use Rattle.sccs_base.specs.Cut.{text_of}
use Rattle.sccs_base.specs.Login.{IsLogin}
use Rattle.sccs_base.specs.Name.{p_file}
use Rattle.sccs_disk.specs.Files.{Content, Folder, view_in}
use Rattle.sccs_sid.specs.Moment.{IsMoment}
use Rattle.sccs_sid.specs.Reading.{is_empty}
use Rattle.sccs_sid.specs.declared.refusals.Refusal.{Refusal}
use Rattle.sccs_history.specs.Applied.{live_serials}
use Rattle.sccs_history.specs.History.{is_rooted}
use Rattle.sccs_history.specs.Numbers.{has}
use Rattle.sccs_grammar.specs.File.{IsSFile, Parsed}
use Rattle.sccs_name_files.specs.StepFiles.{l_file}
use Rattle.sccs_intents.specs.Intents as intents
use Rattle.sccs_intents.specs.declared.intents.IntentEntry as intended
use Rattle.sccs_crash_points.specs.Recovery.{fate_at, is_kept}
use Rattle.sccs_steps.specs.StepLists.{NamedStep, folder_after, step_in}
use Rattle.sccs_steps.specs.Unlocked.{ArePlain}
use Rattle.sccs_step_lists.specs.StepLists.{steps_along}
use Rattle.sccs_batch.specs.BatchText.{batch_of}
use Rattle.sccs_batch.specs.declared.entries.BatchEntry.{BatchEntry}
use Rattle.sccs_words.specs.Meaning.{meaning}
use Rattle.sccs_words.specs.declared.commands.Command.{Command}
use Rattle.sccs_words.specs.declared.commands.Command.TheVariants as c
use Rattle.sccs_words.specs.declared.commands.DeltaWords.{DeltaWords}
use Rattle.sccs_words.specs.declared.commands.Usage.{Usage}
use Rattle.sccs_admin.specs.AdminStep.{found_texts, named_in}
use Rattle.sccs_admin.specs.declared.finding.NewTexts.{NewTexts}
use Rattle.sccs_delta.specs.NewVersions.{version_text}
use Rattle.sccs_delta.specs.Replays.{CallRead, DeltaCall, Texts, call_read, with_texts}
use Rattle.sccs_rcs.specs.ImportStep.{found_rcs, rcs_file}
use Rattle.sccs_trunks.specs.TrunkHistories.{text_behind}
use Rattle.sccs_trunks.specs.declared.revisions.Rcs.{Rcs}
use Rattle.sccs_soak.specs.Commands.{soak_commands}
use Rattle.sccs_edit.specs.Front.{front_of}
use Rattle.sccs_top.specs.Asked.{asked_of}
use Rattle.sccs_group_command.specs.GroupText.{group_of}
use Rattle.sccs_group_command.specs.declared.entries.GroupEntry.{GroupEntry}
use Rattle.sccs_group_command.specs.GroupStep.{EntrySteps, entry_steps}
use Rattle.sccs_top.specs.Runs.{Caller, action_of, caller, caller_by, command_steps, step_list_with, entry_command}
use Rattle.sccs_top.specs.Runs.{freed_at, freeing, group_use, list_in, meant_step_list, run_steps}
use Rattle.sccs_top.specs.declared.commands.GroupUse.{GroupUse}
use Rattle.sccs_top.specs.declared.commands.GroupUse.TheVariants as uses
use Rattle.sccs_top.specs.declared.commands.CommandList.{CommandList}
use Rattle.sccs_top.specs.declared.commands.CommandList.TheVariants as list

-- ---- runs

-- A run, with the folder in which it begins, and how many of its steps are made: all of them, or some where it is
-- stopped.
pub record PastRun : Type 0 where
  pub folder : Folder
  pub who : Caller
  pub words : List (List ℕ)
  pub input : List ℕ
  pub made : ℕ

abbrev pub steps_made : PastRun → List NamedStep
steps_made r = take r.made (run_steps r.who (asked_of r.words) r.folder r.input)

-- the folder that it leaves
abbrev pub folder_after_run : PastRun → Folder
folder_after_run r = folder_after r.folder (steps_made r)

-- ---- the commands of a run

-- the steps of a run that is a single command
abbrev pub single_steps : PastRun → Result Command Usage → List NamedStep
single_steps r meant = take r.made (command_steps r.who meant r.folder r.input)

-- a command of a list as a run of its own, in the folder at a path
abbrev pub entry_run : Bool → List ℕ → Folder → ℕ → BatchEntry → PastRun
entry_run quiet place m made e = record {
  folder = m;
  who = caller_by quiet e.stamp place;
  words = e.words;
  input =
      e.input;
  made = made;
}

abbrev pub steps_of_entry : PastRun → List NamedStep
steps_of_entry r = command_steps r.who (meaning r.words) r.folder r.input

-- the entries of a batch as runs, one after the other, of which so many steps are made in all; that the status of
-- each is written is a step too
abbrev pub entry_runs : List ℕ → Folder → ℕ → List BatchEntry → List PastRun
entry_runs place m made [] = []
entry_runs place m made (e ∷ es) =
    let r = entry_run false place m made e in
    r ∷ entry_runs place (folder_after m (single_steps r (meaning e.words))) (made - suc (length (steps_of_entry r))) es

-- the commands of a soak as runs, up to the first whose status isn't 0; that the words of each are made is a step too
abbrev pub soak_runs : List ℕ → Folder → ℕ → List BatchEntry → List PastRun
soak_runs place m made [] = []
soak_runs place m made (e ∷ es) =
    let r = entry_run true place m (made - 1) e in
    r ∷ (if (entry_command true place e m []).status == 0
    then soak_runs place (folder_after m (single_steps r (meaning e.words))) (made - suc (length (steps_of_entry r))) es
    else [])

-- the commands of a list, or the one command
abbrev pub commands_by : Option CommandList → PastRun → List PastRun
commands_by (Some list.Batch) r = if nat_lt file_limit (length r.input) then [] else entry_runs r.who.place r.folder
    (r.made - 1) (batch_of (text_of r.input)).entries
commands_by (Some (list.Soak number)) r = soak_runs r.who.place r.folder r.made (soak_commands number)
commands_by None r = r ∷ []

abbrev pub list_meant : Result Command Usage → Option CommandList
list_meant (Ok command) = list_in command
list_meant (Err usage) = None

-- those of words that mean a command
abbrev pub commands_meant : PastRun → List PastRun
commands_meant r = commands_by (list_meant (meaning r.words)) r

-- the first command that the front end makes of a run, and what follows it, which has no input: each as a run of its
-- own
abbrev pub first_run : PastRun → List (List ℕ) → PastRun
first_run r first = record { folder = r.folder; who = r.who; words = first; input = r.input; made = r.made }

abbrev pub steps_meant : PastRun → List NamedStep
steps_meant r = steps_along (meant_step_list r.who (meaning r.words)) r.folder r.input

abbrev pub next_run : PastRun → List (List ℕ) → PastRun
next_run r next = record {
  folder = folder_after r.folder (take r.made (steps_meant r));
  who = r.who;
  words = next;
  input = [];
  made = r.made - length (steps_meant r);
}

-- of two commands the second counts where the status of the first is 0; other words are a command themselves
abbrev pub commands_listed : PastRun → List (List (List ℕ)) → List PastRun
commands_listed r [] = commands_meant r
commands_listed r (first ∷ []) = commands_meant (first_run r first)
commands_listed r (first ∷ next ∷ rest) =
    commands_meant (first_run r first) ++ (if (meant_step_list r.who (meaning first) r.folder r.input).status == 0
    then commands_meant (next_run (first_run r first) next) else [])

abbrev pub commands_of : PastRun → List PastRun
commands_of r = commands_listed r (front_of r.words)

-- ---- what is asked of a command

-- the entries of a group's input
abbrev pub entries_read : Result (List GroupEntry) ℕ → List GroupEntry
entries_read (Ok entries) = entries
entries_read (Err line) = []

abbrev pub group_entries : List ℕ → List GroupEntry
group_entries input = entries_read (group_of (text_of input))

-- the deltas of a group, each a step of its own name; none where one of them is refused
abbrev pub deltas_read : EntrySteps → List NamedStep
deltas_read (Ok ts) = ts
deltas_read (Err e) = []

abbrev pub deltas_in : Caller → Folder → List GroupEntry → List NamedStep
deltas_in who m entries = deltas_read (entry_steps who.stamp (view_in m) entries)

-- the steps of a run that is a command, as far as they are made
abbrev pub steps_with : Option GroupUse → PastRun → Command → List NamedStep
steps_with group r command = take r.made (steps_along (step_list_with group r.who command) r.folder r.input)

-- where a command changes files no g-file has the name of an s-file, p-file or z-file
abbrev pub IsPlainWith : Option GroupUse → PastRun → Command → Type 0
IsPlainWith None r command = ArePlain (action_of r.who command) (steps_with None r command)
IsPlainWith (Some uses.Makes) r command = AllByRecursion (λ (t : NamedStep). is_kept (drop 2 t.name) ≡ false)
    (deltas_in r.who r.folder (group_entries r.input))
IsPlainWith (Some uses.Finishes) r command =
    AllByRecursion (λ (e : intended.IntentEntry). is_kept (drop 2 e.name) ≡ false)
    (intents.entries_in (view_in r.folder intents.intent_file))
    × ArePlain (action_of (freeing r.who (freed_at r.folder)) command)
    (drop 1 (steps_with (Some uses.Finishes) r command))

-- a recover that finishes a group is the start of the files of its names
abbrev pub IsFreeWith : List ℕ → Option GroupUse → PastRun → Type 0
IsFreeWith n (Some uses.Finishes) r = fate_at (view_in r.folder) n ≡ None
IsFreeWith n group r = Unit {0}

-- what is asked of the names of a command
pub record HasPlainNames (n : List ℕ) (group : Option GroupUse) (r : PastRun) (command : Command) : Type 0 where
  pub plain : IsPlainWith group r command
  pub free : IsFreeWith n group r

abbrev pub IsPlainBy : List ℕ → PastRun → Result Command Usage → Type 0
IsPlainBy n r (Ok command) = HasPlainNames n (group_use command) r command
IsPlainBy n r (Err usage) = Unit {0}

-- The moment and the login of a command are such, and its g-files have plain names.
pub record IsPastCommand (n : List ℕ) (r : PastRun) : Type 0 where
  pub moment : IsMoment r.who.stamp.moment
  pub login : IsLogin r.who.stamp.login
  pub plain : IsPlainBy n r (meaning r.words)

-- so it is of each command of a run
abbrev pub IsPastRun : List ℕ → PastRun → Type 0
IsPastRun n r = AllByRecursion (IsPastCommand n) (commands_of r)

-- ---- runs in turn

-- each run begins with the s-file of a name that the one before has left; other files may have changed in between
abbrev pub AreInTurn : List ℕ → Option Content → List PastRun → Type 0
AreInTurn n s [] = Unit {0}
AreInTurn n s (r ∷ runs) = (view_in r.folder n ≡ s) × AreInTurn n (view_in (folder_after_run r) n) runs

-- the s-file that the last one leaves; without a run it is this
abbrev pub s_file_after : List ℕ → Option Content → List PastRun → Option Content
s_file_after n s [] = s
s_file_after n s (r ∷ runs) = s_file_after n (view_in (folder_after_run r) n) runs

-- ---- versions

-- The s-file can be read, the predecessor of each live delta is 0 or live, and these are the versions of its live
-- serials.
pub record IsOfVersions (s : Content) (texts : Texts) : Type 0 where
  pub file : Parsed
  pub reads : IsSFile s.bytes file.header file.items
  pub rooted : is_rooted file.header.records ≡ true
  pub versions : (m : ℕ) → has (live_serials file.header.records) m ≡ true → version_text file m ≡ texts m

-- so it is where the s-file is there
abbrev pub HasVersions : Option Content → Texts → Type 0
HasVersions s texts = IfSome s (λ (c : Content). IsOfVersions c texts)

-- ---- what a step makes of them

-- the call of delta that is made on a name in a folder
abbrev pub call_in : Caller → DeltaWords → List ℕ → Folder → List ℕ → DeltaCall
call_in who words i m n = record {
  words = words;
  stamp = who.stamp;
  input = i;
  p = view_in m (p_file n);
  g =
      view_in m (drop 2 n);
  l = view_in m (l_file n);
}

-- a delta, and null deltas before it, are added; the others stay
abbrev pub with_read : Result CallRead Refusal → Texts → Texts
with_read (Ok read) texts = with_texts texts read
with_read (Err refusal) texts = texts

abbrev pub texts_with_delta : Option Content → DeltaCall → Texts → Texts
texts_with_delta None call texts = texts
texts_with_delta (Some s) call texts = with_read (call_read s call) texts

-- the one version of a new file is the lines of the text
abbrev pub first_version : Result NewTexts Refusal → Texts
first_version (Ok texts) = λ m. text_of texts.text
first_version (Err refusal) = λ m. []

-- each version of an imported trunk is the text of its revision, the head being the last
abbrev pub imported_versions : Result Rcs Refusal → Texts
imported_versions (Ok rcs) = λ m. text_behind (length rcs.revisions - m) rcs
imported_versions (Err refusal) = λ m. []

-- the versions after an accepted step on a name in a folder: delta adds some, admin on a new file makes the first
-- one, import makes those of a trunk, and all else leaves them; rmdel leaves those of the deltas that live on
abbrev pub versions_after_command : Caller → Command → List ℕ → Folder → List ℕ → Texts → Texts
versions_after_command who (c.Delta words name) i m n texts = texts_with_delta (view_in m n) (call_in who words i m n)
    texts
versions_after_command who (c.Admin words operands) i m n texts = if words.fresh then first_version
    (found_texts words i (map (view_in m) (named_in words)) (view_in m n)) else texts
versions_after_command who (c.Import operands) i m n texts = imported_versions (found_rcs (view_in m (rcs_file n) ∷ [])
    (view_in m n))
versions_after_command who command i m n texts = texts

-- those of a name after a step: one that is refused, or on another name, leaves them
abbrev pub versions_after_step : Caller → Command → List ℕ → List ℕ → Folder → NamedStep → Texts → Texts
versions_after_step who command i n m t texts = if bytes_eq t.name n && is_some t.effect.new then versions_after_command
    who command i m n texts else texts

-- those after the deltas of a group, each in the folder that those before left
abbrev pub versions_after_deltas : Caller → List ℕ → Folder → List GroupEntry → List NamedStep → Texts → Texts
versions_after_deltas who n m [] ts texts = texts
versions_after_deltas who n m (e ∷ es) [] texts = texts
versions_after_deltas who n m (e ∷ es) (t ∷ ts) texts =
    versions_after_deltas who n (step_in m t) es ts (versions_after_step (caller who.stamp who.place)
    (c.Delta e.words e.name) e.script n m t texts)

-- whether a step of a group changes files: it has several names, and isn't refused
abbrev pub makes_group : NamedStep → Bool
makes_group t = not (is_empty t.more) && t.effect.status == 0

-- those after a step of a command: a group's adds the deltas of its entries, and recovery leaves the versions
abbrev pub versions_with : Option GroupUse → Caller → Command → List ℕ → List ℕ → Folder → NamedStep → Texts → Texts
versions_with None who command i n m t texts = versions_after_step who command i n m t texts
versions_with (Some uses.Makes) who command i n m t texts = if makes_group t then versions_after_deltas who n m
    (group_entries i) (deltas_in who m (group_entries i)) texts else texts
versions_with (Some uses.Finishes) who command i n m t texts = texts

-- the same after steps, each in the folder that those before left
abbrev pub versions_after_steps : Option GroupUse → Caller → Command → List ℕ → List ℕ → Folder → List NamedStep → Texts
    → Texts
versions_after_steps group who command i n m [] texts = texts
versions_after_steps group who command i n m (t ∷ ts) texts = versions_after_steps group who command i n
    (step_in m t) ts (versions_with group who command i n m t texts)

-- the same after a command that is made to its end or in part; a usage fault leaves them
abbrev pub versions_after_run : List ℕ → PastRun → Result Command Usage → Texts → Texts
versions_after_run n r (Ok command) texts = versions_after_steps (group_use command) r.who command r.input n r.folder
    (single_steps r (Ok command)) texts
versions_after_run n r (Err usage) texts = texts

-- the same after several commands
abbrev pub versions_after_commands : List ℕ → Texts → List PastRun → Texts
versions_after_commands n texts [] = texts
versions_after_commands n texts (r ∷ rs) = versions_after_commands n (versions_after_run n r (meaning r.words) texts) rs

-- The replay of runs, command by command, on the versions at the start.
abbrev pub replay : List ℕ → Texts → List PastRun → Texts
replay n texts [] = texts
replay n texts (r ∷ runs) = replay n (versions_after_commands n texts (commands_of r)) runs
