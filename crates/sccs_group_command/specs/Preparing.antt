-- What preparing the entries of a group answers and leaves.
use Rattle.std.specs.Prelude.{◌≡◌, ◌≢◌, ◌<◌, ◌≤◌, ◌&&◌, length, ◌⊎◌, ℕ, Bool, false, true, List, [], ◌∷◌, ◌++◌, drop}
use Rattle.std.specs.Prelude.{map, Option, None, Some, Result, Ok, Err}
use Rattle.std.specs.List.{AllByRecursion, filter, list_any}
use Rattle.std.specs.Str.{bytes_eq}
use Rattle.sccs_base.specs.Name.{IsName, IsSFileName, is_sfile_name, z_file}
use Rattle.sccs_base.specs.Stream.{Rose}
use Rattle.sccs_sid.specs.declared.refusals.StepFault.{StepFault}
use Rattle.sccs_sid.specs.declared.refusals.StepFault.TheVariants.{Refused, Memory, ReadFault, WriteFault, DiskFault}
use Rattle.sccs_disk.specs.Files.{Model, View, view_of}
use Rattle.sccs_disk.specs.Told.{Shows, Tells, Told}
use Rattle.sccs_name_files.specs.StepFiles.{Alike, Files, Moves, is_left, is_working, l_file, moved}
use Rattle.sccs_intents.specs.Intents.{plan_file}
use Rattle.sccs_crash_points.specs.Recovery.{IsSound, begins_by_letter, is_kept}
use Rattle.sccs_crash_points.specs.Calm.{IsCalm}
use Rattle.sccs_crash_points.specs.CrashPoints.{EndsBefore}
use Rattle.sccs_steps.specs.StepEffects.{Outcome, StepEffect}
use Rattle.sccs_steps.specs.StepLists.{NamedStep, named_step}
use Rattle.sccs_store.specs.Commits.{Becomes, abandoned, files_after}
use Rattle.sccs_store.specs.Stops.{KeepsEntries}
use Rattle.sccs_changes.specs.Changes.{AreTakenOrGone, CouldPrepare, IsReady, plan_of}
use Rattle.sccs_changes.specs.Stops.{IsFirmPrepared}
use Rattle.sccs_changes.specs.declared.prepared.Prepared.{Prepared}
use Rattle.sccs_delta.specs.Writing.{IsDeltaPlan}
use Rattle.sccs_group_command.specs.declared.entries.GroupEntry.{GroupEntry}
use Rattle.sccs_group_command.specs.GroupStep.{EntrySteps, could_entry, names_of}
use Rattle.sccs_group_command.specs.LFiles.{effect_with_l, files_with_l}
use Rattle.sccs_group_command.specs.declared.prepared_entries.NamedFault.{NamedFault}
use Rattle.sccs_group_command.specs.declared.prepared_entries.PreparedEntry.{PreparedEntry}

-- ---- names

abbrev pub made_names : List PreparedEntry → List (List ℕ)
made_names made = map (λ (x : PreparedEntry). x.name) made

abbrev pub is_among : List (List ℕ) → List ℕ → Bool
is_among names n = list_any (λ (k : List ℕ). bytes_eq k n) names

-- names that differ
abbrev pub AreDifferent : List (List ℕ) → Type 0
AreDifferent [] = Unit {0}
AreDifferent (n ∷ names) = (is_among names n ≡ false) × AreDifferent names

-- Entries of a group: one at least and a thousand at most, of different names.
pub record AreGrouped (entries : List GroupEntry) : Type 0 where
  pub different : AreDifferent (names_of entries)
  pub some : 0 < length entries
  pub few : length entries ≤ 1000

-- The name of a g-file is none that another file of an s-file may have, but for an l-file, nor that of the plan or the
-- intent.
pub record IsPlainName (n : List ℕ) : Type 0 where
  pub kept : is_kept (drop 2 n) ≡ false
  pub y_free : begins_by_letter 121 (drop 2 n) ≡ false
  pub plan_free : bytes_eq plan_file (drop 2 n) ≡ false

abbrev pub ArePlain : List (List ℕ) → Type 0
ArePlain names = AllByRecursion IsPlainName names

-- the name of an s-file
abbrev pub IsNamed : List ℕ → Type 0
IsNamed n = IsName n × IsSFileName n

-- those of them that s-files may have
abbrev pub sfiles_of : List (List ℕ) → List (List ℕ)
sfiles_of names = filter is_sfile_name names

-- a working file of a name that an s-file may have, or its z-file
abbrev pub is_sfile_working : List ℕ → List ℕ → Bool
is_sfile_working n k = is_sfile_name n && is_working n k

abbrev pub is_sfile_left : List ℕ → List ℕ → Bool
is_sfile_left n k = is_sfile_name n && is_left n k

-- a working file of some name, or its z-file
abbrev pub is_any_working : List (List ℕ) → List ℕ → Bool
is_any_working names k = list_any (λ (n : List ℕ). is_working n k) names

abbrev pub is_any_left : List (List ℕ) → List ℕ → Bool
is_any_left names k = list_any (λ (n : List ℕ). is_left n k) names

-- ---- views

-- what is told before and after, where a view is told
abbrev pub Between : (View → View → Type 0) → Option View → Option View → Type 0
Between P None new = Unit {0}
Between P (Some u) None = ⊥
Between P (Some u) (Some v) = P u v

-- ---- what a stop leaves

-- unless the s-file's name is locked, no entry of its p-file has its delta in it, and no intent names it
abbrev pub IsFreeSound : View → List ℕ → Type 0
IsFreeSound v n = IsNamed n → v (z_file n) ≡ None → IsSound n v

-- from a calm disk on, where names are sound, a stop leaves every s-file and p-file, and the disk is calm
abbrev pub LosesNothing : List (List ℕ) → Told → Told → Type 0
LosesNothing names old new = (m : Model) (past : List Model) → old ≡ Tells m past → IsCalm m
    → AllByRecursion (IsFreeSound (view_of m)) names → EndsBefore (view_of m) m past new

-- the same of names that may be locked
abbrev pub LosesOfSound : List (List ℕ) → Told → Told → Type 0
LosesOfSound names old new = (m : Model) (past : List Model) → old ≡ Tells m past → IsCalm m
    → AllByRecursion (λ (n : List ℕ). IsSound n (view_of m)) names → EndsBefore (view_of m) m past new

-- ---- one entry

-- what is prepared, as the effect of a step in the view in which it is
abbrev pub effect_by : View → List ℕ → Prepared → StepEffect
effect_by v n p = record {
  new = Some (files_after n (plan_of p) v);
  text = [];
  out = p.report;
  err = p.message;
  status = 0;
}

-- What is prepared of a name that wasn't locked in u.
pub record IsHeldEntry (u v : View) (n : List ℕ) (p : Prepared) : Type 0 where
  pub name : IsName n
  pub sfile : IsSFileName n
  pub kind : IsDeltaPlan p
  pub free : u (z_file n) ≡ None
  -- the z-file and the prepared files are there
  pub ready : IsReady n p (Shows v)
  -- the working files that the commit doesn't take are gone, or as they were
  pub cleared : AreTakenOrGone n (plan_of p) u v
  -- recovery keeps the new entries, where it would have kept the old ones
  pub settles : IsSound n u → KeepsEntries n (plan_of p) v

-- What is prepared of a name of an s-file is firm.
pub record IsFirmEntry (n : List ℕ) (p : Prepared) (old new : Told) : Type 0 where
  pub named : IsNamed n
  pub firm : IsFirmPrepared n p old new

-- An entry is prepared whose step does this.
pub record IsPreparedEntry (u v : View) (n : List ℕ) (p : Prepared) (o : Outcome) : Type 0 where
  pub is : o ≡ Ok (effect_by v n p)
  pub held : IsHeldEntry u v n p
  pub view : Alike (is_left n) v u

-- At most working files have changed, and those are gone.
pub record IsGivenBack (working : List ℕ → Bool) (u v : View) : Type 0 where
  pub view : Alike working v u
  pub cleared : (k : List ℕ) → working k ≡ true → (v k ≡ None) ⊎ (v k ≡ u k)

-- what giving up a name answers and leaves: the working files and the z-file are gone, and the answer is the fault;
-- or the disk failed
abbrev pub GivesBack : StepFault → StepFault → List ℕ → Option View → Option View → Type 0
GivesBack r fault n old new = ((r ≡ fault) × (fault ≢ DiskFault) × Becomes (abandoned n) old new)
    ⊎ ((r ≡ DiskFault) × Moves (is_left n) (λ v. v) old new)

-- what preparing an entry answers and leaves
abbrev pub PreparesEntry : Result Prepared StepFault → List ℕ → Outcome → View → View → Type 0
PreparesEntry (Ok p) n o u v = IsPreparedEntry u v n p o
PreparesEntry (Err (Refused refusal)) n o u v = (o ≡ Err refusal) × IsGivenBack (is_sfile_working n) u v
PreparesEntry (Err Memory) n o u v = IsGivenBack (is_sfile_working n) u v
PreparesEntry (Err DiskFault) n o u v = Alike (is_sfile_left n) v u
PreparesEntry (Err ReadFault) n o u v = ⊥
PreparesEntry (Err WriteFault) n o u v = ⊥

-- ---- all entries

-- what putting an entry behind others that are prepared answers and leaves
abbrev pub AddsEntry : Result (Unit {0}) StepFault → List ℕ → Outcome → List PreparedEntry → List PreparedEntry → View
    → View → Type 0
AddsEntry (Ok done) n o made all u v = (p : Prepared) × (all ≡ made ++ record { name = n; prepared = p } ∷ [])
    × IsPreparedEntry u v n p o
AddsEntry (Err fault) n o made all u v = PreparesEntry (Err fault) n o u v

-- An entry of this name, whose files are firm, is put behind others.
pub record IsAdded (n : List ℕ) (made all : List PreparedEntry) (old new : Told) : Type 0 where
  pub prepared : Prepared
  pub is : all ≡ made ++ record { name = n; prepared = prepared } ∷ []
  pub entry : IsFirmEntry n prepared old new

-- the working files and the z-files of names are gone
abbrev pub all_abandoned : List (List ℕ) → View → View
all_abandoned [] v = v
all_abandoned (n ∷ names) v = all_abandoned names (abandoned n v)

-- what giving up names answers and leaves
abbrev pub GivesAllBack : StepFault → StepFault → List (List ℕ) → Option View → Option View → Type 0
GivesAllBack r fault names old new =
    ((r ≡ fault) × (fault ≢ DiskFault) × Becomes (all_abandoned names) old new)
    ⊎ ((r ≡ DiskFault) × Moves (is_any_left names) (λ v. v) old new)

-- what the step of an entry makes that is prepared in a view: the l-file stays as it is in the view in which the step
-- is made
abbrev pub effect_in : View → View → PreparedEntry → StepEffect
effect_in v t x = effect_with_l (t (l_file x.name)) (effect_by v x.name x.prepared)

abbrev pub files_in : View → View → PreparedEntry → Files
files_in v t x = files_with_l (t (l_file x.name)) (files_after x.name (plan_of x.prepared) v)

-- the steps of entries that are prepared in a view, each in the view that those before it left
abbrev pub steps_in : View → View → List PreparedEntry → List NamedStep
steps_in v t [] = []
steps_in v t (x ∷ made) = named_step x.name (Ok (effect_in v t x)) ∷ steps_in v (moved t x.name (Some (files_in v t x)))
    made

-- what is prepared of entries is firm
abbrev pub AreFirm : List PreparedEntry → Told → Told → Type 0
AreFirm made old new = AllByRecursion (λ (x : PreparedEntry). IsFirmPrepared x.name x.prepared old new) made

-- Entries of these names of s-files, whose files are firm.
pub record AreMade (made : List PreparedEntry) (names : List (List ℕ)) (old new : Told) : Type 0 where
  pub names_are : made_names made ≡ names
  pub named : AllByRecursion IsNamed (made_names made)
  pub firm : AreFirm made old new

-- Entries of these names are prepared, and what is made of them are these steps.
pub record AreAllPrepared (u v : View) (names : List (List ℕ)) (made : List PreparedEntry) : Type 0 where
  pub names_are : made_names made ≡ names
  pub held : AllByRecursion (λ (x : PreparedEntry). IsHeldEntry u v x.name x.prepared) made
  pub view : Alike (is_any_left names) v u

-- how preparing ended at a name
abbrev pub GivesUpAt : StepFault → List ℕ → List (List ℕ) → EntrySteps → View → View → Type 0
GivesUpAt (Refused refusal) n names steps u v = (steps ≡ Err (record { name = n; refusal = refusal }))
    × IsGivenBack (is_any_working names) u v
GivesUpAt Memory n names steps u v = IsGivenBack (is_any_working names) u v
GivesUpAt DiskFault n names steps u v = Alike (is_any_left names) v u
GivesUpAt ReadFault n names steps u v = ⊥
GivesUpAt WriteFault n names steps u v = ⊥

-- what preparing entries of these names answers and leaves
abbrev pub PreparesAll : Result (List PreparedEntry) NamedFault → List (List ℕ) → EntrySteps → View → View → Type 0
PreparesAll (Ok made) names steps u v = (steps ≡ Ok (steps_in v u made)) × AreAllPrepared u v names made
PreparesAll (Err stop) names steps u v = GivesUpAt stop.fault stop.name (sfiles_of names) steps u v

-- Preparing fails only where the disk did, and hears and gives nothing.
pub record AllCauses {D T : Type 0} (faults : D → ℕ) (disk disk2 : D) (result : Result T NamedFault) : Type 0 where
  pub later : faults disk ≤ faults disk2
  pub cause : (stop : NamedFault) → result ≡ Err stop → stop.fault ≡ DiskFault → Rose (faults disk) (faults disk2)
  pub read : (stop : NamedFault) → result ≡ Err stop → stop.fault ≢ ReadFault
  pub write : (stop : NamedFault) → result ≡ Err stop → stop.fault ≢ WriteFault

-- ---- over any disk

-- what putting an entry behind others may answer
abbrev pub CouldAdd : Result (Unit {0}) StepFault → List PreparedEntry → List PreparedEntry → Type 0
CouldAdd (Ok done) made all = (x : PreparedEntry) × (all ≡ made ++ x ∷ []) × CouldPrepare could_entry (Ok x.prepared)
CouldAdd (Err fault) made all = CouldPrepare could_entry (Err fault)

-- entries that may come
abbrev pub CouldCome : List PreparedEntry → Type 0
CouldCome made = AllByRecursion (λ (x : PreparedEntry). CouldPrepare could_entry (Ok x.prepared)) made

-- what preparing entries may answer
abbrev pub CouldPrepareAll : Result (List PreparedEntry) NamedFault → Type 0
CouldPrepareAll (Ok made) = CouldCome made
CouldPrepareAll (Err stop) = CouldPrepare could_entry (Err stop.fault)
