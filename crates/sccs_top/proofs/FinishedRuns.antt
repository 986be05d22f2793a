-- A group that was stopped is finished, and then the steps of a command's operands are made.
use Rattle.std.proofs.Common.{◌≡◌, ℕ, Bool, true, false, List, [], Option, None, Some, IfSome, Result, Ok, Err, refl}
use Rattle.std.proofs.Common.{sym, ap, subst, ◌∙◌}
use Rattle.std.proofs.Math.Path.{fun_ext}
use Rattle.std.specs.BTreeSet.{BTreeSet}
use Rattle.std.specs.Global.{Vec}
use Rattle.sccs_base.specs.Name.{sfile_name_decides}
use Rattle.sccs_disk.specs.Files.{Content, Folder, View, view_in}
use Rattle.sccs_disk.specs.Told.{seen}
use Rattle.sccs_name_files.specs.StepFiles.{Shows}
use Rattle.sccs_intents.specs.Intents.{entries_in, intent_file}
use Rattle.sccs_crash_points.specs.Unlocked.{BeginsUnlockedBut}
use Rattle.sccs_base.specs.NameSets.{HasNames, names_in}
use Rattle.sccs_steps.specs.Actions.{hears}
use Rattle.sccs_steps.specs.Causes.{Ignores}
use Rattle.sccs_steps.specs.Calls.{shown}
use Rattle.sccs_steps.specs.ListStops.{Spares}
use Rattle.sccs_steps.specs.Running.{IsInput, RunsOperands}
use Rattle.sccs_steps.specs.Settings.{Setting}
use Rattle.sccs_steps.specs.StepLists.{NamedStep}
use Rattle.sccs_steps.specs.declared.faults.Fault.{Fault}
use Rattle.sccs_steps.specs.declared.faults.Fault.TheVariants as ends
use Rattle.sccs_step_lists.specs.StepLists.{AllClear, AllExempt, AllPlain, AllSafe, StepLists, follow, portions_of}
use Rattle.sccs_step_lists.specs.StepLists.{steps_along}
use Rattle.sccs_step_lists.specs.Following.{AreKnown, BegunThen, StepListCrashPoints, RunsStepList, RunsTo, SpeaksTo}
use Rattle.sccs_step_lists.specs.Following.{WholeThen}
use Rattle.sccs_step_lists.proofs.JoinedStepLists.{step_list_cut, step_list_then}
use Rattle.sccs_words.specs.declared.commands.Command.{Command}
use Rattle.sccs_words.specs.declared.commands.Command.TheVariants as c
use Rattle.sccs_words.specs.declared.commands.Operands.{Operands}
use Rattle.sccs_recovery.specs.RecoverStep.{freed_by, recover_action}
use Rattle.sccs_recovery.specs.AnyDisk.{RecoversAll}
use Rattle.sccs_recovery.specs.FinishingEnds.{BegunFinishing, FinishEnds, WholeFinishing}
use Rattle.sccs_recovery.specs.FinishStep.{finishing_step_list, freed_in, names_of}
use Rattle.sccs_recovery.proofs.AnyDisks.{both_recover, failed_recover}
use Rattle.sccs_top.specs.Runs.{BegunFreed, BegunOperands, Caller, LeavesAlone, RunsAlone, RunsCommand, WholeFreed}
use Rattle.sccs_top.specs.Runs.{WholeOperands, action_of, action_takes, freed_at, freeing, group_use, hushed}
use Rattle.sccs_top.specs.Runs.{operands_step_list, operands_of, steps_by, val_words_of}
use Rattle.sccs_top.specs.declared.commands.GroupUse.TheVariants as uses
use Rattle.sccs_top.proofs.RunLaws.{RunsWith, leaves_with, operands_runs, runs_with}

-- a call that finishes a group
abbrev Finishes : Result ℕ Fault → Setting → Setting → Type 0
Finishes r s t = RunsStepList finishing_step_list (λ (i : List ℕ). Unit {0}) WholeFinishing BegunFinishing r s t

-- recover is the command that finishes a group
abbrev pub Recovers : Command → Type 0
Recovers command = (operands : Operands) × (command ≡ c.Recover operands)

pub finisher : (command : Command) → group_use command ≡ Some uses.Finishes → Recovers command
finisher (c.Recover operands) is = (operands, refl)
finisher command is = absurd cc

-- it locks no name
hushed_locks : (quiet : Bool) (freed : List ℕ → Bool) → (hushed None quiet (recover_action freed)).locks ≡ false
hushed_locks true freed = refl
hushed_locks false freed = refl

finisher_locks : (who : Caller) (command : Command) → group_use command ≡ Some uses.Finishes
    → (action_of who command).locks ≡ false
finisher_locks who command is =
    let found : Recovers command = finisher command is in
    ap (λ (it : Command). (action_of who it).locks) found.1 ∙ hushed_locks who.quiet who.freed

-- what it takes of the input doesn't hang on the names that were freed
hushed_input : (quiet : Bool) (old new : List ℕ → Bool) (operands : List (List ℕ)) (left : Option (List ℕ)) (i : List ℕ)
    → IsInput (hushed None quiet (recover_action old)) operands left i
    → IsInput (hushed None quiet (recover_action new)) operands left i
hushed_input true old new operands left i given = given
hushed_input false old new operands left i given = given

hushed_hears : (quiet : Bool) (old new : List ℕ → Bool) (operands : List (List ℕ))
    → hears (hushed None quiet (recover_action new)) operands ≡ hears (hushed None quiet (recover_action old)) operands
hushed_hears true old new operands = refl
hushed_hears false old new operands = refl

-- ---- the names that were freed

-- those of the folder that a view shows
shown_freed : (w : List ℕ → Bool) (u : View) (folder : Folder) → Spares w → Shows w (Some u) (view_in folder)
    → freed_by (freed_in u) ≡ freed_at folder
shown_freed w u folder spares shows = ap (λ (x : Option Content). freed_by (names_of (entries_in x)))
    (shows intent_file spares.intent)

set_told : (set : BTreeSet (Vec ℕ)) (o : Option View) → IfSome o (λ (v : View). HasNames set (freed_in v))
    → (w : List ℕ → Bool) (folder : Folder) → Spares w → Shows w o (view_in folder) → freed_by (names_in set)
    ≡ freed_at folder
set_told set None has w folder spares shows = absurd shows
set_told set (Some u) has w folder spares shows = fun_ext has ∙ shown_freed w u folder spares shows

abbrev freed_told : Option View → List ℕ → Bool
freed_told None = freed_by []
freed_told (Some u) = freed_by (freed_in u)

told_freed : (o : Option View) (w : List ℕ → Bool) (folder : Folder) → Spares w → Shows w o (view_in folder)
    → freed_told o ≡ freed_at folder
told_freed None w folder spares shows = absurd shows
told_freed (Some u) w folder spares shows = shown_freed w u folder spares shows

module _ (who : Caller) (command : Command) where
  -- with names that were freed, whatever the folder
  abbrev finishes_freeing : (List ℕ → Bool) → StepLists
  finishes_freeing freed = follow finishing_step_list (λ code. operands_step_list (freeing who freed) command)

  abbrev Asks : Setting → List ℕ → Type 0
  Asks s i = IsInput (action_of who command) (operands_of command) s.left i

  abbrev WholeWhen : (List ℕ → Bool) → ℕ → List NamedStep → Type 0
  WholeWhen freed = WholeThen WholeFinishing (λ code. WholeOperands (freeing who freed) command)

  abbrev BegunWhen : (List ℕ → Bool) → List NamedStep → Type 0
  BegunWhen freed = BegunThen WholeFinishing BegunFinishing (λ code. BegunOperands (freeing who freed) command)

  freed_speaks : (freed : List ℕ → Bool) (r : Result ℕ Fault) (err err2 : Option (List ℕ)) → SpeaksTo (WholeWhen freed)
      (BegunWhen freed) r err err2 → SpeaksTo (WholeFreed who command) (BegunFreed who command) r err err2
  freed_speaks freed (Ok status) err err2 speaks = (speaks.0, (freed, speaks.1), speaks.2)
  freed_speaks freed (Err fault) err err2 speaks = (speaks.0, (freed, speaks.1), speaks.2)

  -- where they are those of the folder that is shown
  freed_runs : (freed : List ℕ → Bool) (r : Result ℕ Fault) (s t : Setting) → ((w : List ℕ → Bool) (folder : Folder)
      → Spares w → Shows w (seen s.stage.told) (view_in folder) → freed ≡ freed_at folder)
      → RunsStepList (finishes_freeing freed) (Asks s) (WholeWhen freed) (BegunWhen freed) r s t
      → RunsWith (Some uses.Finishes) who command r s t
  freed_runs freed r s t same runs = record {
    some = λ folder i given e. absurd cc;
    takes = λ folder i. (
      (λ changes n fits. ((sfile_name_decides n).0 fits).1),
      (action_takes (freeing who (freed_at folder)) command, tt),
    );
    steps = λ w folder i spares clear shows known given.
        subst (λ (f : List ℕ → Bool). AllClear w (portions_of (finishes_freeing f) folder i)
        → AreKnown s.stage.told folder (portions_of (finishes_freeing f) folder i)
        → RunsTo (finishes_freeing f folder i).status w r folder (steps_along (finishes_freeing f) folder i)
        (shown s.stage) (shown t.stage)) (same w folder spares shows)
        (λ clear_so known_so. runs.steps w folder i spares clear_so shows known_so given) clear known;
    stops = λ w folder i m past spares clear shows given told may safe.
        subst (λ (f : List ℕ → Bool). AllClear w (portions_of (finishes_freeing f) folder i) → AllSafe (view_in folder)
        (portions_of (finishes_freeing f) folder i)
        → StepListCrashPoints w r folder (steps_along (finishes_freeing f) folder i) s.stage t.stage m past)
        (same w folder spares shows)
        (λ clear_so safe_so. runs.stops w folder i m past spares clear_so shows given told may safe_so) clear safe;
    unlocked = λ w folder i spares clear shows known given exempt plain free.
        subst (λ (f : List ℕ → Bool). AllClear w (portions_of (finishes_freeing f) folder i)
        → AreKnown s.stage.told folder (portions_of (finishes_freeing f) folder i)
        → AllPlain (portions_of (finishes_freeing f) folder i)
        → AllExempt exempt (portions_of (finishes_freeing f) folder i)
        → BeginsUnlockedBut exempt s.stage.told t.stage.told) (same w folder spares shows)
        (λ clear_so known_so plain_so free_so. runs.unlocked w folder i spares clear_so shows known_so given exempt
        plain_so free_so) clear known plain free;
    speaks = freed_speaks freed r s.stage.err t.stage.err runs.speaks;
    causes = runs.causes;
  }

  -- what the operands do with them
  freed_command : (freed : List ℕ → Bool) (r : Result ℕ Fault) (s t : Setting) → group_use command ≡ Some uses.Finishes
      → RunsOperands (hushed None who.quiet (recover_action freed)) (operands_of command) r s t
      → RunsCommand (val_words_of command) (action_of (freeing who freed) command) (operands_of command) r s t
  freed_command freed r s t is runs =
      let found : Recovers command = finisher command is in
      subst (λ (it : Command). RunsOperands (hushed None who.quiet (recover_action freed)) (operands_of it) r s t
      → RunsCommand (val_words_of it) (action_of (freeing who freed) it) (operands_of it) r s t) (sym found.1)
      (λ it. it) runs

  freed_input : (freed : List ℕ → Bool) (left : Option (List ℕ)) (i : List ℕ) → group_use command ≡ Some uses.Finishes
      → IsInput (action_of who command) (operands_of command) left i → IsInput (action_of (freeing who freed) command)
      (operands_of command) left i
  freed_input freed left i is given =
      let found : Recovers command = finisher command is in
      subst (λ (it : Command). IsInput (action_of who it) (operands_of it) left i
      → IsInput (action_of (freeing who freed) it) (operands_of it) left i) (sym found.1)
      (hushed_input who.quiet who.freed freed (operands_of (c.Recover found.0)) left i) given

  freed_hears : (freed : List ℕ → Bool) → group_use command ≡ Some uses.Finishes
      → hears (action_of (freeing who freed) command) (operands_of command) ≡ hears (action_of who command)
      (operands_of command)
  freed_hears freed is =
      let found : Recovers command = finisher command is in
      subst (λ (it : Command). hears (action_of (freeing who freed) it) (operands_of it) ≡ hears (action_of who it)
      (operands_of it)) (sym found.1) (hushed_hears who.quiet who.freed freed (operands_of (c.Recover found.0)))

  -- the operands follow
  pub finished_runs : (set : BTreeSet (Vec ℕ)) (code : ℕ) (r : Result ℕ Fault) (s t u : Setting)
      → group_use command ≡ Some uses.Finishes → t.left ≡ s.left → Finishes (Ok code) s t → IfSome (seen s.stage.told)
      (λ (v : View). HasNames set (freed_in v))
      → RunsOperands (hushed None who.quiet (recover_action (freed_by (names_in set)))) (operands_of command) r t u
      → RunsAlone who command r s u
  finished_runs set code r s t u is same done has runs =
      let freed : List ℕ → Bool = freed_by (names_in set) in
      let behind : Caller = freeing who freed in
      runs_with (Some uses.Finishes) who command r s u is
      (freed_runs freed r s u (set_told set (seen s.stage.told) has)
      (step_list_then finishing_step_list (λ one. operands_step_list behind command) (Asks s) (λ i. Unit {0})
      (IsInput (action_of behind command) (operands_of command) s.left)
      WholeFinishing BegunFinishing (λ one. WholeOperands behind command) (λ one. BegunOperands behind command) code r s
      t u (λ i given. tt) (λ i given. freed_input freed s.left i is given)
      (λ one folder i. (action_takes behind command, tt)) done
      (subst (λ (l : Option (List ℕ)). RunsStepList (operands_step_list behind command)
      (IsInput (action_of behind command) (operands_of command) l) (WholeOperands behind command)
      (BegunOperands behind command) r t u) same
      (operands_runs behind command r t u (freed_command freed r t u is runs)))))

  -- it wasn't finished
  pub cut_runs : (fault : Fault) (s t : Setting) → group_use command ≡ Some uses.Finishes → Finishes (Err fault) s t
      → RunsAlone who command (Err fault) s t
  cut_runs fault s t is cut =
      let freed : List ℕ → Bool = freed_told (seen s.stage.told) in
      let behind : Caller = freeing who freed in
      runs_with (Some uses.Finishes) who command (Err fault) s t is
      (freed_runs freed (Err fault) s t (told_freed (seen s.stage.told))
      (step_list_cut finishing_step_list (λ one. operands_step_list behind command) (Asks s) (λ i. Unit {0})
      WholeFinishing BegunFinishing (λ one. WholeOperands behind command) (λ one. BegunOperands behind command) fault s
      t (λ i given. tt) (λ one folder i. (action_takes behind command, tt)) cut))

  -- the input is left
  ignored : (r : Result ℕ Fault) (s t u : Setting) → t.left ≡ s.left → t.faults.input ≡ s.faults.input
      → Ignores ends.ReadFault t.left u.left t.faults.input u.faults.input r
      → Ignores ends.ReadFault s.left u.left s.faults.input u.faults.input r
  ignored r s t u same heard ignores =
      subst (λ (l : Option (List ℕ)). Ignores ends.ReadFault l u.left s.faults.input u.faults.input r) same
      (subst (λ (k : ℕ). Ignores ends.ReadFault t.left u.left k u.faults.input r) heard ignores)

  unheard : (fault : Fault) (s t : Setting) → t.left ≡ s.left → t.faults.input ≡ s.faults.input
      → FinishEnds (Err fault) s.stage.told t.stage.told → Ignores {T = ℕ} ends.ReadFault s.left t.left s.faults.input
      t.faults.input (Err fault)
  unheard ends.Memory s t same heard ended = record { same = same; quiet = heard; cause = λ is. absurd cc }
  unheard ends.DiskFault s t same heard ended = record { same = same; quiet = heard; cause = λ is. absurd cc }
  unheard ends.ReadFault s t same heard ended = absurd ended
  unheard ends.WriteFault s t same heard ended = absurd ended

  pub cut_leaves : (fault : Fault) (s t : Setting) → group_use command ≡ Some uses.Finishes → t.left ≡ s.left
      → t.faults.input ≡ s.faults.input → FinishEnds (Err fault) s.stage.told t.stage.told → LeavesAlone who command
      (Err fault) s t
  cut_leaves fault s t is same heard ended =
      leaves_with (Some uses.Finishes) who command (Err fault) s t is
      (record {
        recovers = failed_recover fault s.stage.told t.stage.told ended;
        ignores =
            λ never. unheard fault s t same heard ended;
      })

  -- recovery of the names behind it
  both_leave : (freed : List ℕ → Bool) (code : ℕ) (r : Result ℕ Fault) (s t u : Setting)
      → group_use command ≡ Some uses.Finishes → FinishEnds (Ok code) s.stage.told t.stage.told
      → RunsCommand (val_words_of command) (action_of (freeing who freed) command) (operands_of command) r t u
      → RecoversAll r s.stage.told u.stage.told
  both_leave freed code r s t u is ended runs =
      both_recover (action_of (freeing who freed) command) (steps_by (val_words_of command)
      (action_of (freeing who freed) command) (operands_of command))
      (IsInput (action_of (freeing who freed) command) (operands_of command) t.left) code r
      s.stage.told t.stage.told u.stage.told ended (runs.recovers (finisher_locks (freeing who freed) command is))

  pub both_leaves : (freed : List ℕ → Bool) (code : ℕ) (r : Result ℕ Fault) (s t u : Setting)
      → group_use command ≡ Some uses.Finishes → t.left ≡ s.left → t.faults.input ≡ s.faults.input
      → FinishEnds (Ok code) s.stage.told t.stage.told
      → RunsOperands (hushed None who.quiet (recover_action freed)) (operands_of command) r t u
      → LeavesAlone who command r s u
  both_leaves freed code r s t u is same heard ended runs =
      let made : RunsCommand (val_words_of command) (action_of (freeing who freed) command) (operands_of command) r t
      u = freed_command freed r t u is runs in
      leaves_with (Some uses.Finishes) who command r s u is
      (record {
        recovers = both_leave freed code r s t u is ended made;
        ignores =
            λ never. ignored r s t u same heard (made.ignores (freed_hears freed is ∙ never));
      })
