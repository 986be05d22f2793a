-- How a run ends whose steps end so.
use Rattle.std.proofs.Common.{◌≡◌, ℕ, ◌≤◌, Bool, true, false, not, List, [], ◌∷◌, Option, None, Some, is_some, Result}
use Rattle.std.proofs.Common.{Ok, Err, inl, inr, refl, sym, ap, subst, ◌∙◌, arith}
use Rattle.std.specs.List.{AllByRecursion}
use Rattle.sccs_base.specs.Stream.{Rose}
use Rattle.sccs_base.proofs.Gifts.{some_none}
use Rattle.sccs_disk.specs.Files.{Folder, view_in}
use Rattle.sccs_disk.specs.Told.{Told, seen}
use Rattle.sccs_words.specs.Meaning.{meaning}
use Rattle.sccs_words.specs.declared.commands.Usage.{Usage}
use Rattle.sccs_words.specs.declared.commands.Command.{Command}
use Rattle.sccs_words.specs.declared.commands.ValWords.{ValWords}
use Rattle.sccs_crash_points.specs.Calm.{IsCalm}
use Rattle.sccs_crash_points.proofs.Joined.{newest_is}
use Rattle.sccs_crash_points.proofs.UnlockedBut.{but_same}
use Rattle.sccs_group.specs.Finishing.{CanFinish}
use Rattle.sccs_recovery.specs.AnyDisk.{RecoversAll}
use Rattle.sccs_steps.specs.Actions.{Action, hears}
use Rattle.sccs_steps.specs.Calls.{Scene, World, shown}
use Rattle.sccs_steps.specs.Causes.{Ignores, RunCauses, counts}
use Rattle.sccs_steps.specs.Running.{IsInput}
use Rattle.sccs_steps.specs.Settings.{Setting}
use Rattle.sccs_steps.specs.StepLists.{NamedStep, err_of, next_text}
use Rattle.sccs_steps.proofs.Cleared.{cleared_same}
use Rattle.sccs_steps.proofs.FirstMoved.{early_none}
use Rattle.sccs_steps.proofs.CrashPointLists.{crash_points_never}
use Rattle.sccs_steps.proofs.SafeImages.{images_now}
use Rattle.sccs_steps.proofs.Safety.{keeps_same}
use Rattle.sccs_steps.specs.declared.faults.Fault.{Fault}
use Rattle.sccs_steps.specs.declared.faults.Fault.TheVariants as ends
use Rattle.sccs_step_lists.specs.StepLists.{TakesSfiles, portion_of, said}
use Rattle.sccs_step_lists.specs.Following.{StepListCrashPoints, RunsStepList, RunsTo, SpeaksTo, WholeBy}
use Rattle.sccs_step_lists.specs.OwnFiles.{IsGivenTo}
use Rattle.sccs_step_lists.specs.Sayings.{IsSaid}
use Rattle.sccs_step_lists.proofs.StepListCrashPointLaws.{step_list_crash_points}
use Rattle.sccs_step_lists.proofs.OneAction.{steps_step_list}
use Rattle.sccs_step_lists.proofs.OwnFiles.{own_makes, own_stops, own_unlocked}
use Rattle.sccs_step_lists.specs.QuietSettings.{with_input}
use Rattle.sccs_step_lists.proofs.QuietStepLists.{step_list_chosen, step_list_heard, step_list_with as with_own_input}
use Rattle.sccs_step_lists.proofs.SaidStepLists.{said_step_list}
use Rattle.sccs_batch.specs.Batches.{RunsOwn}
use Rattle.sccs_batch.specs.declared.entries.BatchEntry.{BatchEntry}
use Rattle.sccs_soak.specs.Commands.{soak_commands}
use Rattle.sccs_soak.specs.Runs.{RunsSoak}
use Rattle.sccs_soak.specs.Soak.{BegunSoak, WholeSoak, soak_step_list}
use Rattle.sccs_top.specs.CommandLaws.{command_might}
use Rattle.sccs_top.specs.Messages.{usage_line}
use Rattle.sccs_top.specs.Runs.{AsksBy, AsksInput, AsksWith, AsksWords, BegunAsked, BegunBy, BegunCommand, BegunMeant}
use Rattle.sccs_top.specs.Runs.{BegunOf, BegunOperands, BegunRun, BegunWith, BegunWords, Caller, EndsRun, FitsEntry}
use Rattle.sccs_top.specs.Runs.{IsGiven, LeavesAlone, LeavesAsked, LeavesAskedInput, LeavesInput, LeavesMeant}
use Rattle.sccs_top.specs.Runs.{LeavesOperands, LeavesWith, MadeBy, MakesSteps, RecoversRun, RunsAlone, RunsAsked}
use Rattle.sccs_top.specs.Runs.{RunsCommand, RunsMeant, RunsWords, SpeaksWords, StopsSteps, UnlockedSteps, WholeCommand}
use Rattle.sccs_top.specs.Runs.{WholeOf, WholeOperands, WholeRun, WholeWith, WholeWords, action_of, action_takes}
use Rattle.sccs_top.specs.Runs.{asked_is_silent, asked_reads, caller_by, command_step_list, step_list_by}
use Rattle.sccs_top.specs.Runs.{step_list_with, entry_command, group_takes_input, group_use, is_of_operands}
use Rattle.sccs_top.specs.Runs.{is_recovery, is_silent, list_in, list_takes_input, only_reads, operands_step_list}
use Rattle.sccs_top.specs.Runs.{operands_of, run_step_list, run_steps, steps_answer, steps_by, val_words_of}
use Rattle.sccs_top.specs.Runs.{words_take_input, working}
use Rattle.sccs_top.proofs.SoakFits.{soak_fits}
use Rattle.sccs_top.specs.declared.asking.Asked.{Asked}
use Rattle.sccs_top.specs.declared.asking.Asked.TheVariants as ask
use Rattle.sccs_top.specs.declared.commands.CommandList.{CommandList}
use Rattle.sccs_top.specs.declared.commands.GroupUse.{GroupUse}
use Rattle.sccs_top.specs.declared.commands.GroupUse.TheVariants as uses
use Rattle.sccs_words.specs.declared.commands.Command.TheVariants as c
use Rattle.sccs_top.specs.declared.commands.CommandList.TheVariants as list
use Rattle.sccs_top.specs.declared.answers.Answer.{Answer}
use Rattle.sccs_top.specs.declared.answers.Answer.TheVariants.{Finished, Memory, ReadFault, WriteFault, DiskFault}
use Rattle.std.proofs.lemmas.Bool.{and_parts}

-- ---- single commands

-- the steps of a command are a list of steps of one portion
single_step_list : (val : Option ValWords) (x : Action) (operands : List (List ℕ)) (r : Result ℕ Fault) (s t : Setting)
    → TakesSfiles x → RunsCommand val x operands r s t
    → RunsStepList (portion_of x (steps_by val x operands)) (IsInput x operands s.left)
    (WholeBy x.rule (MadeBy val x operands)) (BegunBy val x operands) r s t
single_step_list None x operands r s t takes runs = steps_step_list x (steps_by None x operands)
    (IsInput x operands s.left) (MadeBy None x operands) (BegunBy None x operands) (hears x operands) r s t takes runs
single_step_list (Some words) x operands r s t takes runs = steps_step_list x (steps_by (Some words) x operands)
    (IsInput x operands s.left) (MadeBy (Some words) x operands) (BegunBy (Some words) x operands) (hears x operands) r
    s t takes runs

pub operands_runs : (who : Caller) (command : Command) (r : Result ℕ Fault) (s t : Setting)
    → RunsCommand (val_words_of command) (action_of who command) (operands_of command) r s t
    → RunsStepList (operands_step_list who command) (IsInput (action_of who command) (operands_of command) s.left)
    (WholeOperands who command) (BegunOperands who command) r s t
operands_runs who command r s t runs = single_step_list (val_words_of command) (action_of who command)
    (operands_of command) r s t (action_takes who command) runs

-- by what a command does with a group
abbrev pub RunsWith : Option GroupUse → Caller → Command → Result ℕ Fault → Setting → Setting → Type 0
RunsWith group who command r s t = RunsStepList (step_list_with group who command) (AsksWith group who command s.left)
    (WholeWith group who command) (BegunWith group who command) r s t

pub runs_with : (group : Option GroupUse) (who : Caller) (command : Command) (r : Result ℕ Fault) (s t : Setting)
    → group_use command ≡ group → RunsWith group who command r s t → RunsAlone who command r s t
runs_with group who command r s t is runs = subst (λ (o : Option GroupUse). RunsWith o who command r s t) (sym is) runs

pub leaves_with : (group : Option GroupUse) (who : Caller) (command : Command) (r : Result ℕ Fault) (s t : Setting)
    → group_use command ≡ group → LeavesWith group who command r s t → LeavesAlone who command r s t
leaves_with group who command r s t is leaves = subst (λ (o : Option GroupUse). LeavesWith o who command r s t)
    (sym is) leaves

-- one that only makes the steps of its operands
pub operands_run_alone : (who : Caller) (command : Command) (r : Result ℕ Fault) (s t : Setting)
    → group_use command ≡ None → RunsCommand (val_words_of command) (action_of who command) (operands_of command) r s t
    → RunsAlone who command r s t
operands_run_alone who command r s t none runs = runs_with None who command r s t none
    (operands_runs who command r s t runs)

pub operands_leave : (who : Caller) (command : Command) (r : Result ℕ Fault) (s t : Setting) → group_use command ≡ None
    → RunsCommand (val_words_of command) (action_of who command) (operands_of command) r s t
    → LeavesAlone who command r s t
operands_leave who command r s t none runs = leaves_with None who command r s t none
    (record { reads = runs.reads; silent = runs.silent; ignores = runs.ignores })

pub words_run : (who : Caller) (meant : Result Command Usage) (command : Command) (r : Result ℕ Fault) (s t : Setting)
    → meant ≡ Ok command → RunsAlone who command r s t → RunsWords who meant r s t
words_run who meant command r s t is runs = subst (λ (m : Result Command Usage). RunsWords who m r s t) (sym is)
    (inl runs)

-- a usage fault was said, or a prefix of it
usage_runs : (who : Caller) (usage : Usage) (given : List ℕ → Type 0) (r : Result ℕ Fault) (s t : Setting)
    → t.stage.told ≡ s.stage.told → IsSaid [] (usage_line usage) 2 r s.stage t.stage → RunCauses r s.faults t.faults
    → RunsStepList (command_step_list who (Err usage)) given (WholeCommand who (Err usage))
    (BegunCommand who (Err usage)) r s t
usage_runs who usage given r s t same is causes = said_step_list [] (usage_line usage) 2 given r s t same is causes

pub words_said : (who : Caller) (meant : Result Command Usage) (usage : Usage) (r : Result ℕ Fault) (s t : Setting)
    → meant ≡ Err usage → t.stage.told ≡ s.stage.told → IsSaid [] (usage_line usage) 2 r s.stage t.stage
    → RunCauses r s.faults t.faults → RunsWords who meant r s t
words_said who meant usage r s t is same says causes = subst (λ (m : Result Command Usage). RunsWords who m r s t)
    (sym is) (inl (usage_runs who usage (λ i. Unit {0}) r s t same says causes))

pub meant_said : (who : Caller) (meant : Result Command Usage) (usage : Usage) (r : Result ℕ Fault) (s t : Setting)
    → meant ≡ Err usage → t.stage.told ≡ s.stage.told → IsSaid [] (usage_line usage) 2 r s.stage t.stage
    → RunCauses r s.faults t.faults → RunsMeant who meant r s t
meant_said who meant usage r s t is same says causes = subst (λ (m : Result Command Usage). RunsMeant who m r s t)
    (sym is) (usage_runs who usage (λ i. Unit {0}) r s t same says causes)

pub said_causes : (code i o e e2 d : ℕ) → e ≤ e2 → RunCauses (Ok code) (counts i o e d) (counts i o e2 d)
said_causes code i o e e2 d later = record {
  input_later = omega arith;
  out_later = omega arith;
  err_later = later;
  disk_later = omega arith;
  read = λ is. absurd (cc);
  write = λ is. absurd (cc);
  broke = λ is. absurd (cc);
}

pub unsaid_causes : (i o e e2 d : ℕ) → e ≤ e2 → Rose e e2 → RunCauses (Err ends.WriteFault) (counts i o e d)
    (counts i o e2 d)
unsaid_causes i o e e2 d later rose = record {
  input_later = omega arith;
  out_later = omega arith;
  err_later = later;
  disk_later = omega arith;
  read = λ is. absurd (cc);
  write = λ is. inr rose;
  broke = λ is. absurd (cc);
}

-- ---- an entry of a batch

-- with the input of its own
pub entry_runs : (quiet : Bool) (place : List ℕ) (e : BatchEntry) (r : Result ℕ Fault) (left left2 : Option (List ℕ))
    (a b : Scene) (o o2 x x2 d d2 : ℕ) → left ≡ Some e.input
    → RunsWords (caller_by quiet e.stamp place) (meaning e.words) r
    (record { left = left; stage = a; faults = counts 0 o x d })
    (record { left = left2; stage = b; faults = counts 0 o2 x2 d2 })
    → RunsOwn (entry_command quiet place e) (FitsEntry quiet place e) (WholeOf quiet place e) (BegunOf quiet place e) r
    (record { left = Some []; stage = a; faults = counts 0 o x d })
    (record { left = Some []; stage = b; faults = counts 0 o2 x2 d2 })
entry_runs quiet place e r left left2 a b o o2 x x2 d d2 is (inl runs) =
    let who : Caller = caller_by quiet e.stamp place in
    let s : Setting = record { left = left; stage = a; faults = counts 0 o x d } in
    let t : Setting = record { left = left2; stage = b; faults = counts 0 o2 x2 d2 } in
    inl
    (step_list_heard (entry_command quiet place e) (λ i. FitsEntry quiet place e) (WholeOf quiet place e)
    (BegunOf quiet place e) r s t (Some []) (Some []) 0 refl refl
    (with_own_input (command_step_list who (meaning e.words)) e.input (AsksInput who (meaning e.words) (Some e.input))
    (WholeOf quiet place e) (BegunOf quiet place e) r s t
    (subst (λ (l : Option (List ℕ)). RunsStepList (command_step_list who (meaning e.words))
    (AsksInput who (meaning e.words) l) (WholeOf quiet place e) (BegunOf quiet place e) r s t) is runs)))
entry_runs quiet place e r left left2 a b o o2 x x2 d d2 is (inr never) =
    inr (never.0, ap (λ (u : Setting). record { left = Some []; stage = u.stage; faults = u.faults }) never.1)

-- ---- lists, and single commands

abbrev pub RunsBy : Option CommandList → Caller → Command → Result ℕ Fault → Setting → Setting → Type 0
RunsBy list who command r s t = RunsStepList (step_list_by list who command) (AsksBy list who command s.left)
    (WholeRun list who command) (BegunRun list who command) r s t

pub run_by : (list : Option CommandList) (who : Caller) (command : Command) (r : Result ℕ Fault) (s t : Setting)
    → list_in command ≡ list → RunsBy list who command r s t → RunsMeant who (Ok command) r s t
run_by list who command r s t is runs = subst (λ (o : Option CommandList). RunsBy o who command r s t) (sym is) runs

-- a soak has an input of its own, and what is asked of its commands holds
pub soak_runs : (number : ℕ) (who : Caller) (command : Command) (r : Result ℕ Fault) (s t : Setting)
    (left left2 : Option (List ℕ)) (count : ℕ) → s.faults.input ≡ 0 → t.faults.input ≡ 0
    → RunsSoak (entry_command true who.place) (FitsEntry true who.place) (WholeOf true who.place)
    (BegunOf true who.place) number r s t → RunsBy (Some (list.Soak number)) who command r (with_input left count s)
    (with_input left2 count t)
soak_runs number who command r s t left left2 count none none2 runs =
    step_list_heard (soak_step_list (entry_command true who.place) number) (λ i. Unit {0})
    (WholeSoak (WholeOf true who.place) number) (BegunSoak (WholeOf true who.place) (BegunOf true who.place) number)
    r s t left left2 count none none2
    (step_list_chosen (λ i. soak_step_list (entry_command true who.place) number)
    (soak_step_list (entry_command true who.place) number) (λ i. Unit {0})
    (λ i. AllByRecursion (FitsEntry true who.place) (soak_commands number))
    (WholeSoak (WholeOf true who.place) number) (BegunSoak (WholeOf true who.place) (BegunOf true who.place) number) r s
    t runs.takes (λ i any. refl) (λ i any. soak_fits true who.place number) runs)

-- ---- the input

ignored_with : (group : Option GroupUse) (who : Caller) (command : Command) (r : Result ℕ Fault) (s t : Setting)
    → LeavesWith group who command r s t → group_takes_input group (hears (action_of who command) (operands_of command))
    ≡ false
    → Ignores ends.ReadFault s.left t.left s.faults.input t.faults.input r
ignored_with None who command r s t leaves none = leaves.ignores none
ignored_with (Some uses.Makes) who command r s t leaves none = absurd cc
ignored_with (Some uses.Finishes) who command r s t leaves none = leaves.ignores none

pub alone_input : (who : Caller) (command : Command) (r : Result ℕ Fault) (s t : Setting) → list_in command ≡ None
    → LeavesAlone who command r s t → LeavesInput who command r s t
alone_input who command r s t is leaves none =
    ignored_with (group_use command) who command r s t leaves
    (sym (ap (λ (o : Option CommandList). list_takes_input o (group_takes_input (group_use command)
    (hears (action_of who command) (operands_of command)))) is) ∙ none)

-- ---- how a run ends

given_to : (who : Caller) (words : Result Asked Usage) (left : Option (List ℕ)) (m : Folder) (i : List ℕ)
    → IsGiven who words left m i → IsGivenTo (run_step_list who words) (AsksWords who words left) m i
given_to who (Err usage) left m i given =
    (tt, (record { names = ((λ fits. absurd (cc)), tt); plan = λ is. absurd (cc) }, tt))
given_to who (Ok asked) left m i given = given

answer_ends : (code : ℕ) (w : List ℕ → Bool) (answer : Answer) (m : Folder) (ts : List NamedStep) (a b : World)
    → RunsTo code w (steps_answer answer) m ts a b → EndsRun code w answer m ts a b
answer_ends code w (Finished status) m ts a b runs = runs
answer_ends code w Memory m ts a b runs = (runs.0, inr runs.1)
answer_ends code w ReadFault m ts a b runs = runs
answer_ends code w WriteFault m ts a b runs = runs
answer_ends code w DiskFault m ts a b runs = runs

pub words_end : (who : Caller) (words : Result Asked Usage) (answer : Answer) (made : Result ℕ Fault) (s t : Setting)
    → steps_answer answer ≡ made → RunsAsked who words made s t → MakesSteps who words answer s.left s.stage t.stage
words_end who words answer made s t answered runs = λ m i given shows known.
    answer_ends (run_step_list who words m i).status (working who words m i) answer m (run_steps who words m i)
    (shown s.stage) (shown t.stage)
    (subst (λ (r : Result ℕ Fault). RunsTo (run_step_list who words m i).status (working who words m i) r m
    (run_steps who words m i) (shown s.stage) (shown t.stage)) (sym answered)
    (own_makes (run_step_list who words) (AsksWords who words s.left) made s.stage t.stage runs.steps m i
    (given_to who words s.left m i given) shows known))

pub words_stop : (who : Caller) (words : Result Asked Usage) (answer : Answer) (made : Result ℕ Fault) (s t : Setting)
    → steps_answer answer ≡ made → RunsAsked who words made s t → StopsSteps who words answer s.left s.stage t.stage
words_stop who words answer made s t answered runs = λ folder i m past given shows told may safe.
    subst (λ (r : Result ℕ Fault). StepListCrashPoints (working who words folder i) r folder
    (run_steps who words folder i) s.stage t.stage m past) (sym answered)
    (own_stops (run_step_list who words) (AsksWords who words s.left) made s.stage t.stage runs.stops folder i m past
    (given_to who words s.left folder i given) shows told may safe)

pub words_unlocked : (who : Caller) (words : Result Asked Usage) (made : Result ℕ Fault) (s t : Setting)
    → RunsAsked who words made s t → UnlockedSteps who words s.left s.stage.told t.stage.told
words_unlocked who words made s t runs = λ folder i given shows known exempt plain freed.
    own_unlocked (run_step_list who words) (AsksWords who words s.left) s.stage.told t.stage.told runs.unlocked folder i
    (given_to who words s.left folder i given) shows known exempt plain freed

pub words_speak : (who : Caller) (words : Result Asked Usage) (answer : Answer) (made : Result ℕ Fault) (s t : Setting)
    → steps_answer answer ≡ made → RunsAsked who words made s t → SpeaksWords who words answer s.stage.err t.stage.err
words_speak who words answer made s t answered runs = subst (λ (r : Result ℕ Fault). SpeaksTo (WholeWords who words)
    (BegunWords who words) r s.stage.err t.stage.err) (sym answered) runs.speaks

-- words as they are read
pub asked_runs : (who : Caller) (words : Result Asked Usage) (asked : Asked) (r : Result ℕ Fault) (s t : Setting)
    → words ≡ Ok asked → RunsAsked who (Ok asked) r s t → RunsAsked who words r s t
asked_runs who words asked r s t is runs = subst (λ (m : Result Asked Usage). RunsAsked who m r s t) (sym is) runs

pub asked_said : (who : Caller) (words : Result Asked Usage) (usage : Usage) (r : Result ℕ Fault) (s t : Setting)
    → words ≡ Err usage → t.stage.told ≡ s.stage.told → IsSaid [] (usage_line usage) 2 r s.stage t.stage
    → RunCauses r s.faults t.faults → RunsAsked who words r s t
asked_said who words usage r s t is same says causes = subst (λ (m : Result Asked Usage). RunsAsked who m r s t)
    (sym is) (usage_runs who usage (λ i. Unit {0}) r s t same says causes)

-- ---- what a single command leaves

not_some : {X : Type 0} → (o : Option X) → not (is_some o) ≡ true → o ≡ None
not_some None is = refl
not_some (Some x) is = absurd cc

-- what a command that only makes the steps of its operands leaves
operands_left : (who : Caller) (command : Command) (r : Result ℕ Fault) (s t : Setting) → LeavesMeant who command r s t
    → is_of_operands command ≡ true
    → LeavesOperands (action_of who command) (hears (action_of who command) (operands_of command)) r s t
operands_left who command r s t leaves is =
    let both = and_parts (not (is_some (list_in command))) (not (is_some (group_use command))) is in
    subst (λ (o : Option GroupUse). LeavesWith o who command r s t) (not_some (group_use command) both.1)
    (leaves (not_some (list_in command) both.0))

reads_alone : (who : Caller) (asked : Asked) (r : Result ℕ Fault) (s t : Setting) → LeavesAsked who asked r s t
    → asked_reads who asked ≡ true → t.stage.told ≡ s.stage.told
reads_alone who (ask.One command) r s t leaves only = let both = and_parts (is_of_operands command)
    (action_of who command).reads only in (operands_left who command r s t leaves both.0).reads both.1
reads_alone who (ask.Two first next) r s t leaves only = absurd (cc)

pub words_read : (who : Caller) (words : Result Asked Usage) (asked : Asked) (r : Result ℕ Fault) (s t : Setting)
    → words ≡ Ok asked → LeavesAsked who asked r s t → only_reads who words ≡ true → t.stage.told ≡ s.stage.told
words_read who words asked r s t is leaves only = reads_alone who asked r s t leaves
    (subst (λ (m : Result Asked Usage). only_reads who m ≡ true) is only)

silent_alone : (who : Caller) (asked : Asked) (r : Result ℕ Fault) (s t : Setting) → LeavesAsked who asked r s t
    → asked_is_silent who asked ≡ true → t.stage.out ≡ s.stage.out
silent_alone who (ask.One command) r s t leaves only = let both = and_parts (is_of_operands command)
    (action_of who command).silent only in (operands_left who command r s t leaves both.0).silent both.1
silent_alone who (ask.Two first next) r s t leaves only = absurd (cc)

pub words_are_silent : (who : Caller) (words : Result Asked Usage) (asked : Asked) (r : Result ℕ Fault) (s t : Setting)
    → words ≡ Ok asked → LeavesAsked who asked r s t → is_silent who words ≡ true → t.stage.out ≡ s.stage.out
words_are_silent who words asked r s t is leaves only = silent_alone who asked r s t leaves
    (subst (λ (m : Result Asked Usage). is_silent who m ≡ true) is only)

pub input_left : (who : Caller) (words : Result Asked Usage) (asked : Asked) (r : Result ℕ Fault) (s t : Setting)
    → words ≡ Ok asked → LeavesAskedInput who asked r s t → words_take_input who words ≡ false
    → Ignores ends.ReadFault s.left t.left s.faults.input t.faults.input r
input_left who words asked r s t is leaves none =
    leaves (subst (λ (m : Result Asked Usage). words_take_input who m ≡ false) is none)

recovery_leaves : (group : Option GroupUse) (who : Caller) (command : Command) (r : Result ℕ Fault) (s t : Setting)
    → is_recovery group ≡ true → LeavesWith group who command r s t → RecoversAll r s.stage.told t.stage.told
recovery_leaves None who command r s t is leaves = absurd cc
recovery_leaves (Some uses.Makes) who command r s t is leaves = absurd cc
recovery_leaves (Some uses.Finishes) who command r s t is leaves = leaves.recovers

recovery_alone : (o : Option CommandList) (command : Command) → list_in command ≡ o → is_recovery (group_use command)
    ≡ true → o ≡ None
recovery_alone None command is recovers = refl
recovery_alone (Some some) (c.Recover operands) is recovers = absurd cc
recovery_alone (Some some) (c.Admin words operands) is recovers = absurd cc
recovery_alone (Some some) (c.Get words operands) is recovers = absurd cc
recovery_alone (Some some) (c.Delta words name) is recovers = absurd cc
recovery_alone (Some some) (c.Unget words operands) is recovers = absurd cc
recovery_alone (Some some) (c.Sact operands) is recovers = absurd cc
recovery_alone (Some some) (c.Tell operands) is recovers = absurd cc
recovery_alone (Some some) (c.Check operands) is recovers = absurd cc
recovery_alone (Some some) (c.Rmdel sid operands) is recovers = absurd cc
recovery_alone (Some some) (c.Cdc words operands) is recovers = absurd cc
recovery_alone (Some some) (c.Prs words operands) is recovers = absurd cc
recovery_alone (Some some) (c.Val words) is recovers = absurd cc
recovery_alone (Some some) (c.What first operands) is recovers = absurd cc
recovery_alone (Some some) (c.Import operands) is recovers = absurd cc
recovery_alone (Some some) c.Group is recovers = absurd cc
recovery_alone (Some some) c.Batch is recovers = absurd cc
recovery_alone (Some some) (c.Soak number) is recovers = absurd cc

recovers_asked : (who : Caller) (asked : Asked) (answer : Answer) (made : Result ℕ Fault) (s t : Setting)
    → steps_answer answer ≡ made → LeavesAsked who asked made s t
    → RecoversRun (Ok asked) answer s.stage.told t.stage.told
recovers_asked who (ask.Two first next) answer made s t answered leaves = λ recovers. absurd (cc)
recovers_asked who (ask.One command) answer made s t answered leaves = λ recovers.
    subst (λ (r : Result ℕ Fault). RecoversAll r s.stage.told t.stage.told) (sym answered)
    (recovery_leaves (group_use command) who command made s t recovers
    (leaves (recovery_alone (list_in command) command refl recovers)))

pub words_recovered : (who : Caller) (words : Result Asked Usage) (asked : Asked) (answer : Answer)
    (made : Result ℕ Fault) (s t : Setting) → words ≡ Ok asked → steps_answer answer ≡ made
    → LeavesAsked who asked made s t
    → RecoversRun words answer s.stage.told t.stage.told
words_recovered who words asked answer made s t is answered leaves =
    subst (λ (m : Result Asked Usage). RecoversRun m answer s.stage.told t.stage.told) (sym is)
    (recovers_asked who asked answer made s t answered leaves)

-- nothing is told anew
all_same : (a : Told) → RecoversAll (Err ends.Memory) a a
all_same a = record {
  story = λ m past is can.
      record { added = []; is = is; numbers = (omega arith, λ w image. (w, image, λ k sfile. refl)); guarded = tt };
  again = λ m past is can m2 past2 is2. subst CanFinish (newest_is m m2 past past2 [] a is is2) can.finish;
  calm = λ ok. absurd cc;
  keeps = λ other m past is can calm m2 past2 is2. subst IsCalm (newest_is m m2 past past2 [] a is is2) calm;
}

pub never_recovers : (words : Result Asked Usage) (a : Told) → RecoversRun words Memory a a
never_recovers words a = λ recovers. all_same a

-- a usage fault isn't recovery
pub usage_recovers : (words : Result Asked Usage) (usage : Usage) (answer : Answer) (a b : Told) → words ≡ Err usage
    → RecoversRun words answer a b
usage_recovers words usage answer a b is = subst (λ (r : Result Asked Usage). RecoversRun r answer a b) (sym is)
    (λ never. absurd (cc))

-- ---- nothing was done

might_run : (o : Option CommandList) (who : Caller) (command : Command) → (ts : List NamedStep)
    × BegunRun o who command ts
might_run (Some list.Batch) who command = (said [] [] ∷ [], inl ([], inl refl))
might_run (Some (list.Soak number)) who command = (said [] [] ∷ [], inl (inl refl))
might_run None who command = command_might who (Ok command)

might_meant : (who : Caller) (meant : Result Command Usage) → (ts : List NamedStep) × BegunMeant who meant ts
might_meant who (Err usage) = command_might who (Err usage)
might_meant who (Ok command) = might_run (list_in command) who command

might_asked : (who : Caller) (asked : Asked) → (ts : List NamedStep) × BegunAsked who asked ts
might_asked who (ask.One command) = might_meant who (Ok command)
might_asked who (ask.Two first next) = ((might_meant who (Ok first)).0, inl (might_meant who (Ok first)).1)

might_words : (who : Caller) (words : Result Asked Usage) → (ts : List NamedStep) × BegunWords who words ts
might_words who (Err usage) = might_meant who (Err usage)
might_words who (Ok asked) = might_asked who asked

pub never_speaks : (who : Caller) (words : Result Asked Usage) (err : Option (List ℕ))
    → SpeaksWords who words Memory err err
never_speaks who words err = (
  (might_words who words).0,
  (might_words who words).1,
  some_none err
      (err_of (might_words who words).0),
)

pub same_unlocked : (who : Caller) (words : Result Asked Usage) (left : Option (List ℕ)) (a : Told)
    → UnlockedSteps who words left a a
same_unlocked who words left a = λ folder i given shows known exempt plain freed. but_same exempt a a refl

pub never_begun : (who : Caller) (words : Result Asked Usage) (left : Option (List ℕ)) (a : Scene)
    → MakesSteps who words Memory left a a
never_begun who words left a = λ m i given shows known. (
  record {
    made = [];
    rest = run_steps who words m i;
    is = refl;
    view = early_none (working who words m i) (seen a.told) (view_in m) (run_steps who words m i) shows;
    cleared = cleared_same (working who words m i) (seen a.told) (seen a.told) refl;
    out = some_none a.out (next_text (run_steps who words m i));
    err = some_none a.err [];
  },
  inl refl,
)

pub never_stops : (who : Caller) (words : Result Asked Usage) (left : Option (List ℕ)) (a : Scene)
    → StopsSteps who words Memory left a a
never_stops who words left a = λ folder i m past given shows told may safe.
    step_list_crash_points (working who words folder i) (steps_answer Memory) folder (run_steps who words folder i) a a
    m past
    (crash_points_never (working who words folder i) ends.Memory folder (run_steps who words folder i) a m past told may
    shows) (λ other. keeps_same (view_in folder)) (images_now m)
