-- What making a group answers and leaves.
use Rattle.std.specs.Prelude.{◌≡◌, ◌≢◌, ◌⊎◌, ◌<◌, ◌≤◌, ◌||◌, nat_lt, length, IsSome, ℕ, Bool, true, false, List, map}
use Rattle.std.specs.Prelude.{flat_map, Option, None, Result, Ok, Err}
use Rattle.std.specs.List.{AllByRecursion, list_any}
use Rattle.std.specs.Str.{bytes_eq}
use Rattle.sccs_base.specs.Stream.{GivesOk, GivesSome, Rose}
use Rattle.sccs_sid.specs.Refusal.{number_of}
use Rattle.sccs_sid.specs.declared.refusals.StepFault.{StepFault}
use Rattle.sccs_sid.specs.declared.refusals.StepFault.TheVariants.{Refused, Memory, ReadFault, WriteFault, DiskFault}
use Rattle.sccs_sid.specs.declared.refusals.Refusal.TheVariants.{GroupPending}
use Rattle.sccs_disk.specs.Files.{Content, Model, View, view_of}
use Rattle.sccs_disk.specs.Images.{Allows}
use Rattle.sccs_disk.specs.Told.{Told, Tells}
use Rattle.sccs_name_files.specs.Touches.{Each, earlier, newest}
use Rattle.sccs_base.specs.Name.{IsSFileName}
use Rattle.sccs_name_files.specs.StepFiles.{Alike, Moves}
use Rattle.sccs_intents.specs.Intents.{intent_file, plan_file}
use Rattle.sccs_intents.specs.declared.intents.Fate.{Fate}
use Rattle.sccs_intents.specs.declared.intents.Fate.TheVariants.{Replaced, Removed}
use Rattle.sccs_steps.specs.Actions.{has_number}
use Rattle.sccs_steps.specs.Calls.{World}
use Rattle.sccs_steps.specs.ListStops.{KeepsSafe}
use Rattle.sccs_steps.specs.StepEffects.{StepEffect}
use Rattle.sccs_steps.specs.StepLists.{NamedStep, all_moved, err_of, first_moves, moves_of}
use Rattle.sccs_store.specs.declared.new_files.NewFile.{NewFile}
use Rattle.sccs_store.specs.declared.new_files.NewFile.TheVariants.{Keep, Replace, Remove}
use Rattle.sccs_crash_points.specs.Calm.{IsCalm}
use Rattle.sccs_crash_points.specs.CrashPoints.{EndsAfter, EndsBefore, EndsWithin}
use Rattle.sccs_crash_points.specs.Recovery.{without_name, IsHeldAt}
use Rattle.sccs_crash_points.specs.Unlocked.{is_own}
use Rattle.sccs_store.specs.Commits.{Becomes}
use Rattle.sccs_group.specs.Grouping.{GroupEnds, GroupStops, announced}
use Rattle.sccs_group.specs.Halfway.{first_placed}
use Rattle.sccs_group.specs.Members.{completed}
use Rattle.sccs_group.specs.declared.members.Member.{Member}
use Rattle.sccs_group_command.specs.GroupStep.{CouldBeMade, group_checks, headed, refused_step}
use Rattle.sccs_group_command.specs.Preparing.{AreDifferent, Between, IsFreeSound, IsGivenBack, IsNamed, LosesOfSound}
use Rattle.sccs_group_command.specs.Preparing.{all_abandoned, is_any_left, is_any_working, made_names, sfiles_of}
use Rattle.sccs_group_command.specs.declared.prepared_entries.NamedFault.{NamedFault}
use Rattle.sccs_group_command.specs.declared.joining.Joint.{Joint}
use Rattle.sccs_group_command.specs.declared.prepared_entries.PreparedEntry.{PreparedEntry}

-- ---- what is made of prepared entries before their commit

-- what becomes of a p-file
abbrev pub fate_of : NewFile → Fate
fate_of Keep = Replaced
fate_of Replace = Replaced
fate_of Remove = Removed

-- whether a g-file goes
abbrev pub removes : NewFile → Bool
removes Keep = false
removes Replace = false
removes Remove = true

abbrev pub member_of : PreparedEntry → Member
member_of x = record {
  entry = record { name = x.name; fate = fate_of x.prepared.new_p };
  removes_g =
      removes x.prepared.new_g;
}

-- whether there are several entries
abbrev pub several : List PreparedEntry → Bool
several made = nat_lt 1 (length made)

-- their reports, and their warnings
abbrev pub reports_in : Bool → List PreparedEntry → List ℕ
reports_in heading made = flat_map (λ (x : PreparedEntry). headed heading x.name x.prepared.report) made

abbrev pub messages_in : List PreparedEntry → List ℕ
messages_in made = flat_map (λ (x : PreparedEntry). x.prepared.message) made

-- What is made of entries that are prepared, before their commit.
pub record IsJoint (made : List PreparedEntry) (joint : Joint) : Type 0 where
  pub members_are : joint.members ≡ map member_of made
  pub report : joint.said.report ≡ reports_in (several made) made
  pub message : joint.said.message ≡ messages_in made

-- ---- the commit

-- working files of names and their z-files, the plan and the intent: what a group may leave behind where the disk
-- failed
abbrev pub is_group_left : List (List ℕ) → List ℕ → Bool
is_group_left names k = is_any_left names k || (bytes_eq plan_file k || bytes_eq intent_file k)

-- some first of the members' new files are in their places
abbrev pub PlacesSome : List (List ℕ) → List Member → Option View → Option View → Type 0
PlacesSome names members old new = (whole : ℕ) × (some : ℕ) × Moves (is_group_left names)
    (first_placed whole some members) old new

-- what committing members of these names answers and leaves
abbrev pub CommitsJoint : Result (Unit {0}) StepFault → List (List ℕ) → List Member → Option View → Option View → Type 0
CommitsJoint (Ok done) names members old new = Becomes (λ v. completed members (announced members v)) old new
CommitsJoint (Err Memory) names members old new = Becomes (λ v. all_abandoned names (without_name plan_file v)) old new
CommitsJoint (Err DiskFault) names members old new = PlacesSome names members old new
CommitsJoint (Err ReadFault) names members old new = ⊥
CommitsJoint (Err WriteFault) names members old new = ⊥
CommitsJoint (Err (Refused refusal)) names members old new = ⊥

-- nothing is given
abbrev pub IsSilent : World → World → Type 0
IsSilent a b = (b.out ≡ a.out) × (b.err ≡ a.err)

-- the new files of all entries are in their places
abbrev pub all_made : List PreparedEntry → View → View
all_made made v = completed (map member_of made) (announced (map member_of made) v)

-- what committing and reporting entries answers and leaves
abbrev pub Finishes : Result (Unit {0}) StepFault → List PreparedEntry → World → World → Type 0
Finishes (Ok done) made a b = Becomes (all_made made) a.view b.view × GivesOk a.out b.out
    (reports_in (several made) made) × GivesOk a.err b.err (messages_in made)
Finishes (Err WriteFault) made a b = Becomes (all_made made) a.view b.view × GivesSome a.out b.out
    (reports_in (several made) made) × GivesSome a.err b.err (messages_in made)
Finishes (Err Memory) made a b =
    (Becomes (all_abandoned (made_names made)) a.view b.view ⊎ Becomes (λ v. all_abandoned (made_names made)
    (without_name plan_file v)) a.view b.view) × IsSilent a b
Finishes (Err DiskFault) made a b = PlacesSome (made_names made) (map member_of made) a.view b.view × IsSilent a b
Finishes (Err ReadFault) made a b = ⊥
Finishes (Err (Refused refusal)) made a b = ⊥

-- What committing needs of prepared entries: one at least and a thousand at most, of different s-files.
pub record MayCommit (made : List PreparedEntry) : Type 0 where
  pub names : AllByRecursion IsNamed (made_names made)
  pub different : AreDifferent (made_names made)
  pub some : 0 < length made
  pub few : length made ≤ 1000

-- whether no group is pending
abbrev pub ChecksNone : Result (Unit {0}) StepFault → Option Content → Type 0
ChecksNone (Ok done) o = o ≡ None
ChecksNone (Err (Refused refusal)) o = (refusal ≡ GroupPending) × IsSome o
ChecksNone (Err Memory) o = ⊥
ChecksNone (Err ReadFault) o = ⊥
ChecksNone (Err WriteFault) o = ⊥
ChecksNone (Err DiskFault) o = Unit {0}

-- ---- views

-- a working file of some name, or the plan
abbrev pub is_group_working : List (List ℕ) → List ℕ → Bool
is_group_working names k = is_any_working names k || bytes_eq plan_file k

-- All that the step changes is changed, and working files are gone or as they were.
pub record IsMade (names : List (List ℕ)) (t : NamedStep) (u v : View) : Type 0 where
  pub view : Alike (is_group_working names) v (all_moved u (moves_of t))
  pub cleared : (k : List ℕ) → is_group_working names k ≡ true → (v k ≡ None) ⊎ (v k ≡ u k)

-- What a step that is made says on out and on err.
pub record IsSaid (d : StepEffect) (a b : World) : Type 0 where
  pub out : GivesOk a.out b.out d.out
  pub err : GivesOk a.err b.err d.err

-- Prefixes of that.
pub record IsCut (d : StepEffect) (a b : World) : Type 0 where
  pub out : GivesSome a.out b.out d.out
  pub err : GivesSome a.err b.err d.err

-- Some first of the files that a step changes are new, in the order of a commit.
pub record IsHalfMade (names : List (List ℕ)) (t : NamedStep) (u v : View) : Type 0 where
  pub whole : ℕ
  pub some : ℕ
  pub view : Alike (is_group_left names) v (first_moves whole some u (moves_of t))

-- what a group that is made leaves
abbrev pub MadeMeets : List (List ℕ) → (View → NamedStep) → World → World → Type 0
MadeMeets own step a b = Between (λ u v. ((step u).effect.status ≡ 0) × IsMade own (step u) u v
    × IsSaid (step u).effect a b) a.view b.view

-- what a group of names leaves that ended at one of them; its working files are those of its own
abbrev pub StopMeets : StepFault → List ℕ → List (List ℕ) → List (List ℕ) → (View → NamedStep) → World → World → Type 0
StopMeets (Refused refusal) n names own step a b =
    Between (λ u v. (step u ≡ refused_step names n refusal) × IsGivenBack (is_any_working own) u v) a.view b.view
    × IsSilent a b
StopMeets Memory n names own step a b = Between (λ u v. IsGivenBack (is_group_working own) u v) a.view b.view
    × IsSilent a b
StopMeets WriteFault n names own step a b = Between (λ u v. IsMade own (step u) u v × IsCut (step u).effect a b) a.view
    b.view
StopMeets DiskFault n names own step a b = Between (λ u v. IsHalfMade own (step u) u v) a.view b.view × IsSilent a b
StopMeets ReadFault n names own step a b = ⊥

-- what making a group answers and leaves, whose step is this in the view before
abbrev pub MeetsGroup : Result (Unit {0}) NamedFault → List (List ℕ) → (View → NamedStep) → World → World → Type 0
MeetsGroup (Ok done) names step a b = MadeMeets (sfiles_of names) step a b
MeetsGroup (Err stop) names step a b = StopMeets stop.fault stop.name names (sfiles_of names) step a b

-- ---- what a stop leaves

-- where committing prepared entries and reporting them ends
abbrev pub CommitCrashPoints : Result (Unit {0}) StepFault → List PreparedEntry → Told → Told → Type 0
CommitCrashPoints (Ok done) made old new = GroupEnds (map member_of made) old new
CommitCrashPoints (Err WriteFault) made old new = GroupEnds (map member_of made) old new
CommitCrashPoints (Err DiskFault) made old new = GroupStops (map member_of made) old new
    ⊎ LosesOfSound (made_names made) old new
CommitCrashPoints (Err Memory) made old new = LosesOfSound (made_names made) old new
CommitCrashPoints (Err ReadFault) made old new = ⊥
CommitCrashPoints (Err (Refused refusal)) made old new = ⊥

-- where a group ends that failed, whose step leads from v to w; names that were safe in v are so in w
abbrev pub StopsAt : StepFault → View → View → Model → List Model → Told → Type 0
StopsAt WriteFault v w m past new = EndsAfter v w m past new × KeepsSafe v w
StopsAt DiskFault v w m past new = (EndsWithin v w m past new × KeepsSafe v w) ⊎ EndsBefore v m past new
StopsAt Memory v w m past new = EndsBefore v m past new
StopsAt ReadFault v w m past new = EndsBefore v m past new
StopsAt (Refused refusal) v w m past new = EndsBefore v m past new

abbrev pub EndsAt : Result (Unit {0}) NamedFault → View → View → Model → List Model → Told → Type 0
EndsAt (Ok done) v w m past new = EndsAfter v w m past new × KeepsSafe v w
EndsAt (Err stop) v w m past new = StopsAt stop.fault v w m past new

-- so it is of each name of which it is so in whatever a stop may leave of the model
abbrev pub HoldsFrom : Model → View → Type 0
HoldsFrom m v = (n : List ℕ) → IsSFileName n → Allows (IsHeldAt n) m → IsHeldAt n v

-- The story went on from a model, and so it is of whatever a stop leaves at each moment.
pub record HoldsNames (m : Model) (past : List Model) (new : Told) : Type 0 where
  pub added : List Model
  pub is : new ≡ Tells (newest added m) (earlier added m past)
  pub each : Each (Allows (HoldsFrom m)) added m

-- from a calm disk on, where names are sound, a stop leaves the group whole or not at all, and the names of an intent
-- held
abbrev pub GroupCrashPoints : Result (Unit {0}) NamedFault → List (List ℕ) → (View → NamedStep) → Told → Told → Type 0
GroupCrashPoints r names step old new = (m : Model) (past : List Model) → old ≡ Tells m past → IsCalm m
    → AllByRecursion (IsFreeSound (view_of m)) names
    → EndsAt r (view_of m) (all_moved (view_of m) (moves_of (step (view_of m)))) m past new × HoldsNames m past new

-- ---- other files

-- the files of names, the plan and the intent
abbrev pub is_own_of_names : List (List ℕ) → List ℕ → Bool
is_own_of_names names k = bytes_eq plan_file k || (bytes_eq intent_file k || list_any (λ (n : List ℕ). is_own n k)
    names)

-- ---- causes

-- A group fails only where one of the objects did, and hears nothing.
pub record GroupCauses (r : Result (Unit {0}) NamedFault) (out out2 err err2 disk disk2 : ℕ) : Type 0 where
  pub out_later : out ≤ out2
  pub err_later : err ≤ err2
  pub disk_later : disk ≤ disk2
  pub read : (stop : NamedFault) → r ≡ Err stop → stop.fault ≢ ReadFault
  pub write : (stop : NamedFault) → r ≡ Err stop → stop.fault ≡ WriteFault → Rose out out2 ⊎ Rose err err2
  pub broke : (stop : NamedFault) → r ≡ Err stop → stop.fault ≡ DiskFault → Rose disk disk2

-- ---- over any disk

-- what is written on err by a group that ended: nothing, but warnings that may come where writing failed; a refusal is
-- one of these
abbrev pub StopSpeaks : StepFault → Option (List ℕ) → Option (List ℕ) → Type 0
StopSpeaks (Refused refusal) err err2 = (has_number group_checks (number_of refusal) ≡ true) × (err2 ≡ err)
StopSpeaks WriteFault err err2 = (ts : List NamedStep) × CouldBeMade ts × GivesSome err err2 (err_of ts)
StopSpeaks Memory err err2 = err2 ≡ err
StopSpeaks ReadFault err err2 = err2 ≡ err
StopSpeaks DiskFault err err2 = err2 ≡ err

-- what making a group answers, and what it writes on err
abbrev pub SpeaksGroup : Result (Unit {0}) NamedFault → Option (List ℕ) → Option (List ℕ) → Type 0
SpeaksGroup (Ok done) err err2 = (ts : List NamedStep) × CouldBeMade ts × GivesOk err err2 (err_of ts)
SpeaksGroup (Err stop) err err2 = StopSpeaks stop.fault err err2
