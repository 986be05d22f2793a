-- Calls that make a group follow its list of steps.
use Rattle.std.proofs.Common.{◌≡◌, ◌≢◌, ◌⊎◌, ℕ, ◌<◌, ◌≤◌, Bool, true, false, cond, nat_lt, List, [], ◌∷◌, codes, length}
use Rattle.std.proofs.Common.{Option, None, Some, IfSome, Result, Ok, Err, inl, inr, refl, sym, ap, subst, ◌∙◌, arith}
use Rattle.std.proofs.lemmas.Bool.{le-ltb, lt-ltb}
use Rattle.std.proofs.lemmas.List.{append-nil}
use Rattle.std.specs.List.{AllByRecursion}
use Rattle.sccs_base.specs.Constants.{file_limit}
use Rattle.sccs_base.specs.Cut.{text_of}
use Rattle.sccs_base.specs.Name.{is_sfile_name, sfile_name_decides}
use Rattle.sccs_base.specs.Stream.{GivesOk, GivesSome, Rose}
use Rattle.sccs_base.proofs.Gifts.{gives_none, some_none, some_of_whole}
use Rattle.sccs_operands.specs.InputNames.{GivesLines}
use Rattle.sccs_sid.specs.Refusal.{refusal_line}
use Rattle.sccs_sid.specs.declared.moments.Stamp.{Stamp}
use Rattle.sccs_sid.specs.declared.refusals.Refusal.{Refusal}
use Rattle.sccs_sid.specs.declared.refusals.Refusal.TheVariants.{TooLong}
use Rattle.sccs_sid.specs.declared.refusals.StepFault.{StepFault}
use Rattle.sccs_sid.specs.declared.refusals.StepFault.TheVariants as step
use Rattle.sccs_disk.specs.Files.{Folder, Model, View, view_in, view_of}
use Rattle.sccs_disk.specs.Told.{Told, Tells, seen}
use Rattle.sccs_name_files.specs.StepFiles.{Alike, Shows}
use Rattle.sccs_intents.specs.Intents.{plan_file}
use Rattle.sccs_name_files.specs.Touches.{newest}
use Rattle.sccs_crash_points.specs.CrashPoints.{EndsAfter}
use Rattle.sccs_crash_points.specs.Unlocked.{BeginsUnlocked, BeginsUnlockedBut}
use Rattle.sccs_crash_points.proofs.UnlockedBut.{but_of}
use Rattle.sccs_steps.specs.Calls.{Scene, scene, shown, world}
use Rattle.sccs_steps.specs.Causes.{RunCauses, counts}
use Rattle.sccs_steps.specs.ListStops.{AreSafe, KeepsSafe, MayBegin, Spares}
use Rattle.sccs_steps.specs.Messages.{SaysRefusal}
use Rattle.sccs_steps.specs.Settings.{Setting}
use Rattle.sccs_steps.specs.StepLists.{NamedStep, all_moved, err_of, moves_of}
use Rattle.sccs_steps.specs.StepStops.{IsSafeFor}
use Rattle.sccs_steps.specs.declared.faults.Fault.{Fault}
use Rattle.sccs_steps.specs.declared.faults.Fault.TheVariants as ends
use Rattle.sccs_steps.proofs.Safety.{alike_safe}
use Rattle.sccs_steps.proofs.Turns.{each_all}
use Rattle.sccs_step_lists.specs.StepLists.{AllTake, StepLists, portions_of, saying, steps_along}
use Rattle.sccs_step_lists.specs.Following.{StepListCrashPoints, RunsTo, SpeaksTo}
use Rattle.sccs_step_lists.specs.Sayings.{BegunSaid, IsSaid, WholeSaid}
use Rattle.sccs_step_lists.proofs.QuietStepLists.{step_list_as, step_list_chosen}
use Rattle.sccs_step_lists.proofs.SaidStepLists.{never_step_list, said_step_list}
use Rattle.sccs_batch.proofs.BatchStepLists.{refusal_said, told_of}
use Rattle.sccs_group_command.specs.GroupText.{ReadsGroup, group_of}
use Rattle.sccs_group_command.specs.declared.entries.GroupEntry.{GroupEntry}
use Rattle.sccs_group_command.specs.declared.entries.GroupFault.{GroupFault}
use Rattle.sccs_group_command.specs.declared.entries.GroupFault.TheVariants as bad
use Rattle.sccs_group_command.specs.GroupStep.{group_step, joint_step, names_of, refused_step}
use Rattle.sccs_group_command.specs.Making as making
use Rattle.sccs_group_command.specs.Making.{EndsAt, GroupCauses, GroupCrashPoints, HoldsNames, IsCut, IsMade}
use Rattle.sccs_group_command.specs.Making.{MeetsGroup, SpeaksGroup, StopMeets, StopSpeaks, StopsAt}
use Rattle.sccs_group_command.specs.Preparing.{ArePlain, IsFreeSound, sfiles_of}
use Rattle.sccs_group_command.specs.declared.prepared_entries.NamedFault.{NamedFault}
use Rattle.sccs_group_command.specs.GroupStepLists.{BegunEntries, BegunGroup, HasPlainNames, IsGroupInput, RunsEntries}
use Rattle.sccs_group_command.specs.GroupStepLists.{RunsGroup, RunsLines, SaysBad, WholeEntries, WholeGroup, bad_line}
use Rattle.sccs_group_command.specs.GroupStepLists.{entries_step_list, group_action, group_step_list, group_on}
use Rattle.sccs_group_command.specs.GroupStepLists.{group_parts, read_step_list}
use Rattle.sccs_group_command.proofs.GroupFiles.{AreApart, GroupAt, apart_names, names_all, same_at, step_at}
use Rattle.sccs_group_command.proofs.GroupRuns.{Concluded, IsAtFolder, entries_to}
use Rattle.sccs_group_command.proofs.GroupStops.{after_crash_points, broken_crash_points, refused_crash_points}
use Rattle.sccs_group_command.proofs.GroupStops.{waiting_crash_points}
use Rattle.sccs_group_command.proofs.GroupSteps.{parts_are}
use Rattle.sccs_base.proofs.Rises.{rose_later, never_rose}
use Rattle.sccs_group_command.proofs.GroupEnds.{of_group}

-- ---- what is known of the call

-- What making the group says, over whose entries one is at least.
pub record MadeGroup (stamp : Stamp) (entries : List GroupEntry) (made : Result (Unit {0}) NamedFault)
    (a b : Scene) : Type 0 where
  pub some : 0 < length entries
  pub told : ArePlain (names_of entries) → MeetsGroup made (names_of entries) (of_group stamp entries) (shown a)
      (shown b)
  pub crash_points : ArePlain (names_of entries) → GroupCrashPoints made (names_of entries) (of_group stamp entries)
      a.told b.told
  pub unlocked : ArePlain (names_of entries) → BeginsUnlocked a.told b.told
  pub speaks : SpeaksGroup made a.err b.err

-- ---- where it ends

says_some : (n : List ℕ) (refusal : Refusal) (r : Result ℕ Fault) (ae be e : Option (List ℕ)) → be ≡ ae
    → SaysRefusal n refusal r be e → GivesSome ae e (refusal_line n refusal)
says_some n refusal (Ok status) ae be e quiet says = some_of_whole ae e (refusal_line n refusal)
    (subst (λ (o : Option (List ℕ)). GivesOk o e (refusal_line n refusal)) quiet says.1)
says_some n refusal (Err ends.WriteFault) ae be e quiet says =
    subst (λ (o : Option (List ℕ)). GivesSome o e (refusal_line n refusal)) quiet says
says_some n refusal (Err ends.Memory) ae be e quiet says = absurd says
says_some n refusal (Err ends.ReadFault) ae be e quiet says = absurd says
says_some n refusal (Err ends.DiskFault) ae be e quiet says = absurd says

module _ (w : List ℕ → Bool) (stamp : Stamp) (entries : List GroupEntry) (folder : Folder) (a b : Scene)
    (e : Option (List ℕ)) (m : Model) (past : List Model) (at : GroupAt w stamp entries folder (view_of m))
    (plain : ArePlain (names_of entries)) (may : MayBegin folder m) (v : View) (told : seen b.told ≡ Some v) where
  done_stops : (done : Unit {0}) (r : Result ℕ Fault) → EndsAt (Ok done) (view_of m)
      (all_moved (view_of m) (moves_of (group_step stamp (view_of m) entries))) m past b.told → HoldsNames m past b.told
      → MeetsGroup (Ok done) (names_of entries) (of_group stamp entries) (world (Some (view_of m)) a.out a.err)
      (world (Some v) b.out b.err) → Concluded (Ok done) r b.err e
      → StepListCrashPoints w r folder (step_at stamp entries folder ∷ []) a (scene b.told b.out e) m past
  done_stops done r ended holds met says =
      let now : EndsAfter (view_of m) (all_moved (view_of m) (moves_of (step_at stamp entries folder))) m past b.told
      × KeepsSafe (view_of m) (all_moved (view_of m) (moves_of (step_at stamp entries folder)))
      = subst (λ (t : NamedStep). EndsAfter (view_of m) (all_moved (view_of m) (moves_of t)) m past b.told
      × KeepsSafe (view_of m) (all_moved (view_of m) (moves_of t))) (same_at w stamp entries folder (view_of m) at)
      ended in
      let made : IsMade (sfiles_of (names_of entries)) (step_at stamp entries folder) (view_of m) v
      × making.IsSaid (step_at stamp entries folder).effect (world (Some (view_of m)) a.out a.err)
      (world (Some v) b.out b.err)
      = subst (λ (t : NamedStep). IsMade (sfiles_of (names_of entries)) t (view_of m) v × making.IsSaid t.effect
      (world (Some (view_of m)) a.out a.err) (world (Some v) b.out b.err)) (same_at w stamp entries folder
      (view_of m) at) (met.1, met.2) in
      after_crash_points w stamp entries folder a b e m past at plain may r v told now.0 now.1 holds made.0
      (some_of_whole a.out b.out _ made.1.out)
      (subst (λ (o : Option (List ℕ)). GivesSome a.err o (step_at stamp entries folder).effect.err) (sym says.1)
      (some_of_whole a.err b.err _ made.1.err))

  fault_stops : (n : List ℕ) (fault : StepFault) (r : Result ℕ Fault) → StopsAt fault (view_of m)
      (all_moved (view_of m) (moves_of (group_step stamp (view_of m) entries))) m past b.told → HoldsNames m past b.told
      → StopMeets fault n (names_of entries) (sfiles_of (names_of entries)) (of_group stamp entries)
      (world (Some (view_of m)) a.out a.err) (world (Some v) b.out b.err)
      → Concluded (Err (record { name = n; fault = fault })) r b.err e
      → StepListCrashPoints w r folder (step_at stamp entries folder ∷ []) a (scene b.told b.out e) m past
  fault_stops n (step.Refused refusal) r ended holds met says =
      refused_crash_points w stamp entries folder a b e m past at plain may r v n refusal told ended holds met.0.0
      met.0.1 met.1.0 (says_some n refusal r a.err b.err e met.1.1 says)
  fault_stops n step.Memory r ended holds met says =
      subst (λ (s : Result ℕ Fault). StepListCrashPoints w s folder (step_at stamp entries folder ∷ []) a
      (scene b.told b.out e) m past) (sym says.0)
      (waiting_crash_points w stamp entries folder a b e m past at plain may v told ended holds met.0 met.1.0 (says.1
      ∙ met.1.1))
  fault_stops n step.ReadFault r ended holds met says = absurd met
  fault_stops n step.WriteFault r ended holds met says =
      let now : EndsAfter (view_of m) (all_moved (view_of m) (moves_of (step_at stamp entries folder))) m past b.told
      × KeepsSafe (view_of m) (all_moved (view_of m) (moves_of (step_at stamp entries folder)))
      = subst (λ (t : NamedStep). EndsAfter (view_of m) (all_moved (view_of m) (moves_of t)) m past b.told
      × KeepsSafe (view_of m) (all_moved (view_of m) (moves_of t))) (same_at w stamp entries folder (view_of m) at)
      ended in
      let made : IsMade (sfiles_of (names_of entries)) (step_at stamp entries folder) (view_of m) v
      × IsCut (step_at stamp entries folder).effect (world (Some (view_of m)) a.out a.err)
      (world (Some v) b.out b.err)
      = subst (λ (t : NamedStep). IsMade (sfiles_of (names_of entries)) t (view_of m) v
      × IsCut t.effect (world (Some (view_of m)) a.out a.err) (world (Some v) b.out b.err))
      (same_at w stamp entries folder (view_of m) at) met in
      after_crash_points w stamp entries folder a b e m past at plain may r v told now.0 now.1 holds made.0 made.1.out
      (subst (λ (o : Option (List ℕ)). GivesSome a.err o (step_at stamp entries folder).effect.err)
      (sym says.1) made.1.err)
  fault_stops n step.DiskFault r ended holds met says =
      subst (λ (s : Result ℕ Fault). StepListCrashPoints w s folder (step_at stamp entries folder ∷ []) a
      (scene b.told b.out e) m past) (sym says.0)
      (broken_crash_points w stamp entries folder a b e m past at plain may
      (subst (λ (t : NamedStep). StopsAt step.DiskFault (view_of m) (all_moved (view_of m) (moves_of t)) m past b.told)
      (same_at w stamp entries folder (view_of m) at) ended) holds met.1.0 (says.1 ∙ met.1.1))

  made_stops : (made : Result (Unit {0}) NamedFault) (r : Result ℕ Fault) → EndsAt made (view_of m)
      (all_moved (view_of m) (moves_of (group_step stamp (view_of m) entries))) m past b.told → HoldsNames m past b.told
      → MeetsGroup made (names_of entries) (of_group stamp entries) (world (Some (view_of m)) a.out a.err)
      (world (Some v) b.out b.err) → Concluded made r b.err e
      → StepListCrashPoints w r folder (step_at stamp entries folder ∷ []) a (scene b.told b.out e) m past
  made_stops (Ok done) r ended holds met says = done_stops done r ended holds met says
  made_stops (Err stop) r ended holds met says = fault_stops stop.name stop.fault r ended holds met says

-- the names are as sound as the folder's
free_sound : (w : List ℕ → Bool) (stamp : Stamp) (entries : List GroupEntry) (folder : Folder) (m : Model)
    → GroupAt w stamp entries folder (view_of m) → MayBegin folder m
    → AreSafe group_action (group_parts stamp (view_in folder) entries) (view_in folder)
    → AllByRecursion (IsFreeSound (view_of m)) (names_of entries)
free_sound w stamp entries folder m at may safe =
    each_all (λ n. is_sfile_name n ≡ true → IsSafeFor group_action n (view_in folder)) (IsFreeSound (view_of m))
    (names_of entries)
    (λ n one named free. (alike_safe w n (view_in folder) (view_of m) at.spares named.1 (λ k h. sym (at.alike k h))
    may.recovers (one ((sfile_name_decides n).1 (named.0, named.1)) refl)).sound free)
    (subst (λ (ns : List (List ℕ)). AllByRecursion (λ n. is_sfile_name n ≡ true → IsSafeFor group_action n
    (view_in folder)) ns) (parts_are stamp (view_in folder) entries)
    (names_all (λ n. is_sfile_name n ≡ true → IsSafeFor group_action n (view_in folder))
    (group_parts stamp (view_in folder) entries) safe))

entries_stops : (w : List ℕ → Bool) (stamp : Stamp) (entries : List GroupEntry) (folder : Folder)
    (made : Result (Unit {0}) NamedFault) (r : Result ℕ Fault) (a b : Scene) (e : Option (List ℕ)) (m : Model)
    (past : List Model) → MadeGroup stamp entries made a b → Concluded made r b.err e
    → GroupAt w stamp entries folder (view_of m) → ArePlain (names_of entries) → a.told ≡ Tells m past
    → MayBegin folder m → AreSafe group_action (group_parts stamp (view_in folder) entries) (view_in folder)
    → StepListCrashPoints w r folder (step_at stamp entries folder ∷ []) a (scene b.told b.out e) m past
entries_stops w stamp entries folder made r a b e m past known says at plain is may safe =
    let ended = known.crash_points plain m past is may.calm (free_sound w stamp entries folder m at may safe) in
    let v : View = view_of (newest ended.1.added m) in
    let told : seen b.told ≡ Some v = ap seen ended.1.is in
    made_stops w stamp entries folder a b e m past at plain may v told made r ended.0 ended.1
    (subst (λ (o : Option View). MeetsGroup made (names_of entries) (of_group stamp entries)
    (world (Some (view_of m)) a.out a.err) (world o b.out b.err)) told
    (subst (λ (o : Option View). MeetsGroup made (names_of entries) (of_group stamp entries) (world o a.out a.err)
    (world (seen b.told) b.out b.err)) (ap seen is) (known.told plain))) says

-- ---- over any disk

joint_err : (ts : List NamedStep) → err_of (joint_step ts ∷ []) ≡ err_of ts
joint_err ts = append-nil (err_of ts)

refused_err : (n : List ℕ) (refusal : Refusal) → err_of (refused_step [] n refusal ∷ []) ≡ refusal_line n refusal
refused_err n refusal = append-nil (refusal_line n refusal)

pub begun_none : BegunEntries (joint_step [] ∷ [])
begun_none = (joint_step [], refl, inl ([], tt, refl))

refused_speaks : (n : List ℕ) (refusal : Refusal) (r : Result ℕ Fault) (ae be e : Option (List ℕ))
    → StopSpeaks (step.Refused refusal) ae be → SaysRefusal n refusal r be e → SpeaksTo WholeEntries BegunEntries r ae e
refused_speaks n refusal (Ok status) ae be e speaks says = (
  refused_step [] n refusal ∷ [],
  (refused_step [] n refusal, refl, says.0, inr ([], n, refusal, speaks.0, refl)),
  subst (λ (text : List ℕ). GivesOk ae e text) (sym (refused_err n refusal))
      (subst (λ (o : Option (List ℕ)). GivesOk o e (refusal_line n refusal)) speaks.1 says.1),
)
refused_speaks n refusal (Err ends.WriteFault) ae be e speaks says = (
  refused_step [] n refusal ∷ [],
  (refused_step [] n refusal, refl, inr ([], n, refusal, speaks.0, refl)),
  subst (λ (text : List ℕ). GivesSome ae e text) (sym (refused_err n refusal))
      (subst (λ (o : Option (List ℕ)). GivesSome o e (refusal_line n refusal)) speaks.1 says),
)
refused_speaks n refusal (Err ends.Memory) ae be e speaks says = absurd says
refused_speaks n refusal (Err ends.ReadFault) ae be e speaks says = absurd says
refused_speaks n refusal (Err ends.DiskFault) ae be e speaks says = absurd says

silent_speaks : (fault : Fault) (r : Result ℕ Fault) (ae be e : Option (List ℕ)) → r ≡ Err fault → be ≡ ae → e ≡ be
    → SpeaksTo WholeEntries BegunEntries r ae e
silent_speaks fault r ae be e is quiet same =
    subst (λ (s : Result ℕ Fault). SpeaksTo WholeEntries BegunEntries s ae e) (sym is) (
      joint_step [] ∷ [],
      begun_none,
      subst (λ (o : Option (List ℕ)). GivesSome ae o []) (sym (same ∙ quiet)) (some_none ae []),
    )

stop_speaks : (n : List ℕ) (fault : StepFault) (r : Result ℕ Fault) (ae be e : Option (List ℕ)) → StopSpeaks fault ae be
    → Concluded (Err (record { name = n; fault = fault })) r be e → SpeaksTo WholeEntries BegunEntries r ae e
stop_speaks n (step.Refused refusal) r ae be e speaks says = refused_speaks n refusal r ae be e speaks says
stop_speaks n step.Memory r ae be e speaks says = silent_speaks ends.Memory r ae be e says.0 speaks says.1
stop_speaks n step.ReadFault r ae be e speaks says = silent_speaks ends.ReadFault r ae be e says.0 speaks says.1
stop_speaks n step.DiskFault r ae be e speaks says = silent_speaks ends.DiskFault r ae be e says.0 speaks says.1
stop_speaks n step.WriteFault r ae be e speaks says =
    subst (λ (s : Result ℕ Fault). SpeaksTo WholeEntries BegunEntries s ae e) (sym says.0) (
      joint_step speaks.0 ∷ [],
      (joint_step speaks.0, refl, inl (speaks.0, speaks.1, refl)),
      subst (λ (text : List ℕ). GivesSome ae e text) (sym (joint_err speaks.0))
          (subst (λ (o : Option (List ℕ)). GivesSome ae o (err_of speaks.0)) (sym says.1) speaks.2),
    )

entries_speak : (made : Result (Unit {0}) NamedFault) (r : Result ℕ Fault) (ae be e : Option (List ℕ))
    → SpeaksGroup made ae be → Concluded made r be e → SpeaksTo WholeEntries BegunEntries r ae e
entries_speak (Ok done) r ae be e speaks says =
    subst (λ (s : Result ℕ Fault). SpeaksTo WholeEntries BegunEntries s ae e) (sym says.0) (
      joint_step speaks.0 ∷ [],
      (joint_step speaks.0, refl, refl, inl (speaks.0, speaks.1, refl)),
      subst (λ (text : List ℕ). GivesOk ae e text) (sym (joint_err speaks.0))
          (subst (λ (o : Option (List ℕ)). GivesOk ae o (err_of speaks.0)) (sym says.1) speaks.2),
    )
entries_speak (Err stop) r ae be e speaks says = stop_speaks stop.name stop.fault r ae be e speaks says

-- ---- the entries' list of steps

at_folder : (w : List ℕ → Bool) (stamp : Stamp) (entries : List GroupEntry) (folder : Folder) (o : Option View)
    → ((u : View) → Shows w (Some u) (view_in folder) → GroupAt w stamp entries folder u) → Shows w o (view_in folder)
    → IsAtFolder w stamp entries folder o
at_folder w stamp entries folder None at shows = absurd shows
at_folder w stamp entries folder (Some u) at shows = at u shows

pub entries_ran : (stamp : Stamp) (entries : List GroupEntry) (made : Result (Unit {0}) NamedFault) (r : Result ℕ Fault)
    (s t : Setting) (b : Scene) (e : Option (List ℕ)) → t.stage ≡ scene b.told b.out e
    → MadeGroup stamp entries made s.stage b → Concluded made r b.err e → RunCauses r s.faults t.faults
    → RunsEntries stamp entries r s t
entries_ran stamp entries made r s t b e same known says causes = record {
  some = λ folder i plain. λ e. absurd cc;
  takes = λ folder i. ((λ changes n fits. ((sfile_name_decides n).0 fits).1), tt);
  steps = λ w folder i spares clear shows taken plain.
      subst (λ (c : Scene). RunsTo (step_at stamp entries folder).effect.status w r folder (step_at stamp entries folder
      ∷ []) (shown s.stage) (shown c)) (sym same)
      (entries_to w stamp entries folder made r (seen s.stage.told) (seen b.told) s.stage.out b.out s.stage.err b.err e
      (at_folder w stamp entries folder (seen s.stage.told) (λ u alike. at w folder u spares
      (apart_names w stamp (view_in folder) entries clear.0.names) (clear.0.plan refl) alike) shows)
      (known.told plain) says);
  stops = λ w folder i m past spares clear shows plain is may safe.
      subst (λ (c : Scene). StepListCrashPoints w r folder (step_at stamp entries folder ∷ []) s.stage c m past)
      (sym same)
      (entries_stops w stamp entries folder made r s.stage b e m past known says
      (at w folder (view_of m) spares (apart_names w stamp (view_in folder) entries clear.0.names) (clear.0.plan refl)
      (subst (λ (x : Told). Shows w (seen x) (view_in folder)) is shows)) plain is may safe.0);
  unlocked = λ w folder i spares clear shows taken plain exempt kept freed. subst
      (λ (c : Scene). BeginsUnlockedBut exempt s.stage.told c.told) (sym same) (but_of exempt s.stage.told b.told
      (known.unlocked plain));
  speaks = subst (λ (c : Scene). SpeaksTo WholeEntries BegunEntries r s.stage.err c.err) (sym same)
      (entries_speak made r s.stage.err b.err e known.speaks says);
  causes = causes;
}
  where
    at : (w : List ℕ → Bool) (folder : Folder) (u : View) → Spares w → AreApart w (names_of entries)
        → w plan_file ≡ true → Alike w u (view_in folder) → GroupAt w stamp entries folder u
    at w folder u spares files plan alike =
        record { spares = spares; files = files; plan = plan; alike = alike; some = known.some }

-- ---- why it ended

pub done_causes : (done : Unit {0}) (r : Result ℕ Fault) (o o2 e e2 d d2 : ℕ) → r ≡ Ok 0
    → GroupCauses (Ok done) o o2 e e2 d d2 → RunCauses r (counts 0 o e d) (counts 0 o2 e2 d2)
done_causes done r o o2 e e2 d d2 is causes = record {
  input_later = omega arith;
  out_later = causes.out_later;
  err_later = causes.err_later;
  disk_later = causes.disk_later;
  read = λ found. absurd (cc);
  write = λ found. absurd (cc);
  broke = λ found. absurd (cc);
}

pub stop_causes : (stop : NamedFault) (r : Result ℕ Fault) (o o2 e e2 e3 d d2 : ℕ)
    → GroupCauses (Err stop) o o2 e e2 d d2 → e2 ≤ e3
    → (r ≡ Err ends.WriteFault → ((stop.fault ≡ step.WriteFault) × (e3 ≡ e2)) ⊎ Rose e2 e3) → (r ≡ Err ends.ReadFault
    → stop.fault ≡ step.ReadFault) → (r ≡ Err ends.DiskFault → stop.fault ≡ step.DiskFault)
    → RunCauses r (counts 0 o e d) (counts 0 o2 e3 d2)
stop_causes stop r o o2 e e2 e3 d d2 causes later write read broke = record {
  input_later = omega arith;
  out_later = causes.out_later;
  err_later = let first = causes.err_later in omega (arith, first, later);
  disk_later = causes.disk_later;
  read = λ found. absurd (causes.read stop refl (read found));
  write = λ found. by (write found);
  broke = λ found. causes.broke stop refl (broke found);
}
  where
    wrote : (e3 ≡ e2) → Rose o o2 ⊎ Rose e e2 → Rose o o2 ⊎ Rose e e3
    wrote same (inl rose) = inl rose
    wrote same (inr rose) = inr (subst (λ (k : ℕ). Rose e k) (sym same) rose)

    by : ((stop.fault ≡ step.WriteFault) × (e3 ≡ e2)) ⊎ Rose e2 e3 → Rose o o2 ⊎ Rose e e3
    by (inl made) = wrote made.1 (causes.write stop refl made.0)
    by (inr rose) = inr (rose_later e e2 e3 causes.err_later rose)

pub fault_is : (fault f : StepFault) (r : Result ℕ StepFault) → r ≡ Err fault → r ≡ Err f → fault ≡ f
fault_is fault f r is other = cc

pub wrote_is : (fault : StepFault) (r : Result ℕ StepFault) (e2 e3 : ℕ) → r ≡ Err fault
    → ((r ≡ Err step.WriteFault) × (e3 ≡ e2)) ⊎ Rose e2 e3 → ((fault ≡ step.WriteFault) × (e3 ≡ e2)) ⊎ Rose e2 e3
wrote_is fault r e2 e3 is (inl made) = inl (fault_is fault step.WriteFault r is made.0, made.1)
wrote_is fault r e2 e3 is (inr rose) = inr rose

-- ---- lines

said_takes : (out err : List ℕ) (code : ℕ) (folder : Folder) (i : List ℕ)
    → AllTake (portions_of (saying out err code) folder i)
said_takes out err code folder i = (λ changes n fits. absurd (cc), tt)

read_takes : (stamp : Stamp) (read : Result (List GroupEntry) ℕ) (folder : Folder) (i : List ℕ)
    → AllTake (portions_of (read_step_list stamp read) folder i)
read_takes stamp (Ok entries) folder i = ((λ changes n fits. ((sfile_name_decides n).0 fits).1), tt)
read_takes stamp (Err number) folder i = said_takes [] (bad_line number) 1 folder i

read_some : (stamp : Stamp) (read : Result (List GroupEntry) ℕ) (folder : Folder) (i : List ℕ)
    → 0 < length (steps_along (read_step_list stamp read) folder i)
read_some stamp (Ok entries) folder i = omega arith
read_some stamp (Err number) folder i = omega arith

pub lines_ran : (stamp : Stamp) (read : Result (List GroupEntry) ℕ) (entries : List GroupEntry) (r : Result ℕ Fault)
    (s t : Setting) → read ≡ Ok entries → RunsEntries stamp entries r s t → RunsLines stamp read r s t
lines_ran stamp read entries r s t is runs =
    subst (λ (x : Result (List GroupEntry) ℕ). RunsLines stamp x r s t) (sym is)
    (step_list_as (entries_step_list stamp entries) (λ i. ArePlain (names_of entries)) WholeEntries WholeGroup
    BegunEntries BegunGroup r s t (λ status ts it. inl it) (λ ts it. inl it) runs)

lines_bad : (stamp : Stamp) (read : Result (List GroupEntry) ℕ) (number : ℕ) (r : Result ℕ Fault) (s t : Setting)
    → read ≡ Err number → t.stage.told ≡ s.stage.told → IsSaid [] (bad_line number) 1 r s.stage t.stage
    → RunCauses r s.faults t.faults → RunsLines stamp read r s t
lines_bad stamp read number r s t is same says causes =
    subst (λ (x : Result (List GroupEntry) ℕ). RunsLines stamp x r s t) (sym is)
    (step_list_as (saying [] (bad_line number) 1) (λ i. Unit {0}) (WholeSaid [] (bad_line number) 1) WholeGroup
    (BegunSaid [] (bad_line number)) BegunGroup r s t (λ status ts it. inr (inl (number, it)))
    (λ ts it. inr (inl (number, it)))
    (said_step_list [] (bad_line number) 1 (λ i. Unit {0}) r s t same says causes))

pub lines_never : (stamp : Stamp) (read : Result (List GroupEntry) ℕ) (fault : Fault) (s t : Setting)
    → t.stage ≡ s.stage → RunCauses (Err fault) s.faults t.faults → RunsLines stamp read (Err fault) s t
lines_never stamp read fault s t same causes =
    never_step_list (read_step_list stamp read) (λ i. HasPlainNames read) WholeGroup BegunGroup (joint_step [] ∷ [])
    fault s t (read_takes stamp read) (read_some stamp read) (inl begun_none) same causes

bad_said : (number : ℕ) (r : Result ℕ Fault) (a : Scene) (e : Option (List ℕ)) → SaysBad (bad.BadEntry number) r a.err e
    → IsSaid [] (bad_line number) 1 r a (scene a.told a.out e)
bad_said number (Ok status) a e says = (says.0, gives_none a.out, says.1)
bad_said number (Err ends.WriteFault) a e says = (some_none a.out [], says)
bad_said number (Err ends.Memory) a e says = absurd says
bad_said number (Err ends.ReadFault) a e says = absurd says
bad_said number (Err ends.DiskFault) a e says = absurd says

never_read : (number : ℕ) (r : Result ℕ Fault) (ae e : Option (List ℕ)) → SaysBad (bad.BadEntry number) r ae e
    → (r ≢ Err ends.ReadFault) × (r ≢ Err ends.DiskFault)
never_read number (Ok status) ae e says = (λ is. cc, λ is. cc)
never_read number (Err ends.WriteFault) ae e says = (λ is. cc, λ is. cc)
never_read number (Err ends.Memory) ae e says = absurd says
never_read number (Err ends.ReadFault) ae e says = absurd says
never_read number (Err ends.DiskFault) ae e says = absurd says

-- lines that are no group
pub lines_refused : (stamp : Stamp) (read : Result (List GroupEntry) ℕ) (fault : GroupFault) (r : Result ℕ Fault)
    (a : Scene) (e : Option (List ℕ)) (left left2 : Option (List ℕ)) (o k k2 d : ℕ) → ReadsGroup (Err fault) read
    → SaysBad fault r a.err e → k ≤ k2
    → (r ≡ Err ends.WriteFault → Rose k k2)
    → RunsLines stamp read r (record { left = left; stage = a; faults = counts 0 o k d })
    (record { left = left2; stage = scene a.told a.out e; faults = counts 0 o k2 d })
lines_refused stamp read (bad.BadEntry number) r a e left left2 o k k2 d reads says later rose =
    lines_bad stamp read number r (record { left = left; stage = a; faults = counts 0 o k d })
    (record { left = left2; stage = scene a.told a.out e; faults = counts 0 o k2 d }) reads refl
    (bad_said number r a e says)
    (record {
      input_later = omega arith;
      out_later = omega arith;
      err_later = later;
      disk_later = omega arith;
      read = λ is. absurd ((never_read number r a.err e says).0 is);
      write = λ is. inr (rose is);
      broke = λ is. absurd ((never_read number r a.err e says).1 is);
    })
lines_refused stamp read bad.Memory r a e left left2 o k k2 d reads says later rose =
    subst (λ (x : Result ℕ Fault). RunsLines stamp read x (record { left = left; stage = a; faults = counts 0 o k d })
    (record { left = left2; stage = scene a.told a.out e; faults = counts 0 o k2 d })) (sym says.0)
    (lines_never stamp read ends.Memory (record { left = left; stage = a; faults = counts 0 o k d })
    (record { left = left2; stage = scene a.told a.out e; faults = counts 0 o k2 d })
    (ap (λ (x : Option (List ℕ)). scene a.told a.out x) says.1)
    (record {
      input_later = omega arith;
      out_later = omega arith;
      err_later = later;
      disk_later = omega arith;
      read = λ is. absurd (cc);
      write = λ is. absurd (cc);
      broke = λ is. absurd (cc);
    }))

-- ---- the input

abbrev refused : StepLists
refused = saying [] (refusal_line (codes "-") TooLong) 1

pub group_takes : (stamp : Stamp) (folder : Folder) (i : List ℕ) → AllTake (portions_of (group_on stamp i) folder i)
group_takes stamp folder i = by (nat_lt file_limit (length i))
  where
    by : (long : Bool) → AllTake (portions_of (cond long refused (read_step_list stamp (group_of (text_of i)))) folder
        i)
    by true = said_takes [] (refusal_line (codes "-") TooLong) 1 folder i
    by false = read_takes stamp (group_of (text_of i)) folder i

group_some : (stamp : Stamp) (folder : Folder) (i : List ℕ) → 0 < length (steps_along (group_on stamp i) folder i)
group_some stamp folder i = by (nat_lt file_limit (length i))
  where
    by : (long : Bool) → 0 < length (steps_along (cond long refused (read_step_list stamp (group_of (text_of i))))
        folder i)
    by true = omega arith
    by false = read_some stamp (group_of (text_of i)) folder i

read_is : (stamp : Stamp) (lines : List (List ℕ)) (i : List ℕ) → GivesLines file_limit i (Ok lines)
    → group_on stamp i ≡ read_step_list stamp (group_of lines)
read_is stamp lines i gives =
    ap (λ (long : Bool). cond long refused (read_step_list stamp (group_of (text_of i))))
    (le-ltb file_limit (length i) gives.0) ∙ ap (λ (ls : List (List ℕ)). read_step_list stamp (group_of ls))
    (sym gives.1)

refused_is : (stamp : Stamp) (i : List ℕ) → file_limit < length i → group_on stamp i ≡ refused
refused_is stamp i long = ap (λ (b : Bool). cond b refused (read_step_list stamp (group_of (text_of i))))
    (lt-ltb file_limit (length i) long)

-- what is said without an input of its own is said behind one that was read
heard_later : (stamp : Stamp) (read : Result (List GroupEntry) ℕ) (r : Result ℕ Fault) (left left2 : Option (List ℕ))
    (a b : Scene) (i0 i1 o o2 e e2 d d2 : ℕ) → i0 ≤ i1
    → RunsLines stamp read r (record { left = Some []; stage = a; faults = counts 0 o e d })
    (record { left = Some []; stage = b; faults = counts 0 o2 e2 d2 })
    → RunsLines stamp read r (record { left = left; stage = a; faults = counts i0 o e d })
    (record { left = left2; stage = b; faults = counts i1 o2 e2 d2 })
heard_later stamp read r left left2 a b i0 i1 o o2 e e2 d d2 later runs = record {
  some = runs.some;
  takes = runs.takes;
  steps = runs.steps;
  stops = runs.stops;
  unlocked = runs.unlocked;
  speaks = runs.speaks;
  causes = record {
    input_later = later;
    out_later = runs.causes.out_later;
    err_later = runs.causes.err_later;
    disk_later = runs.causes.disk_later;
    read = λ is. absurd (never_rose (runs.causes.read is));
    write = runs.causes.write;
    broke = runs.causes.broke;
  };
}

pub group_ran : (stamp : Stamp) (lines : List (List ℕ)) (r : Result ℕ Fault) (left left2 : Option (List ℕ))
    (a b : Scene) (i0 i1 o o2 e e2 d d2 : ℕ) → IfSome left (λ bytes. GivesLines file_limit bytes (Ok lines)) → i0 ≤ i1
    → RunsLines stamp (group_of lines) r (record { left = Some []; stage = a; faults = counts 0 o e d })
    (record { left = Some []; stage = b; faults = counts 0 o2 e2 d2 })
    → RunsGroup stamp r (record { left = left; stage = a; faults = counts i0 o e d })
    (record { left = left2; stage = b; faults = counts i1 o2 e2 d2 })
group_ran stamp lines r left left2 a b i0 i1 o o2 e e2 d d2 told later runs =
    step_list_chosen (group_on stamp) (read_step_list stamp (group_of lines)) (IsGroupInput left)
    (λ i. HasPlainNames (group_of lines)) WholeGroup BegunGroup r
    (record { left = left; stage = a; faults = counts i0 o e d })
    (record { left = left2; stage = b; faults = counts i1 o2 e2 d2 })
    (λ folder i. group_takes stamp folder i) (λ i given. read_is stamp lines i
    (told_of (λ bytes. GivesLines file_limit bytes (Ok lines)) left i given.0 told))
    (λ i given. subst (λ (ls : List (List ℕ)). HasPlainNames (group_of ls))
    (sym (told_of (λ bytes. GivesLines file_limit bytes (Ok lines)) left i given.0 told).1) given.1)
    (heard_later stamp (group_of lines) r left left2 a b i0 i1 o o2 e e2 d d2 later runs)

pub group_refused : (stamp : Stamp) (r : Result ℕ Fault) (s t : Setting) (err2 : Option (List ℕ))
    → IfSome s.left (λ bytes. file_limit < length bytes) → t.stage ≡ scene s.stage.told s.stage.out err2
    → SaysRefusal (codes "-") TooLong r s.stage.err err2 → RunCauses r s.faults t.faults
    → RunsGroup stamp r s t
group_refused stamp r s t err2 told same says causes =
    step_list_chosen (group_on stamp) refused (IsGroupInput s.left) (λ i. Unit {0}) WholeGroup BegunGroup r s t
    (λ folder i. group_takes stamp folder i) (λ i given. refused_is stamp i
    (told_of (λ bytes. file_limit < length bytes) s.left i given.0 told)) (λ i given. tt)
    (step_list_as refused (λ i. Unit {0}) (WholeSaid [] (refusal_line (codes "-") TooLong) 1) WholeGroup
    (BegunSaid [] (refusal_line (codes "-") TooLong)) BegunGroup r s t (λ status ts it. inr (inr it))
    (λ ts it. inr (inr it))
    (said_step_list [] (refusal_line (codes "-") TooLong) 1 (λ i. Unit {0}) r s t (ap (λ (b : Scene). b.told) same)
    (subst (λ (b : Scene). IsSaid [] (refusal_line (codes "-") TooLong) 1 r s.stage b) (sym same)
    (refusal_said r s.stage err2 says)) causes))

pub group_never : (stamp : Stamp) (fault : Fault) (s t : Setting) → t.stage ≡ s.stage
    → RunCauses (Err fault) s.faults t.faults → RunsGroup stamp (Err fault) s t
group_never stamp fault s t same causes =
    never_step_list (group_step_list stamp) (IsGroupInput s.left) WholeGroup BegunGroup (joint_step [] ∷ []) fault s t
    (group_takes stamp) (group_some stamp) (inl begun_none) same causes
