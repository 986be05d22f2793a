-- The step of a group (own): delta's step on each entry, in the view that those before it left, as one step of all
-- their names.
use Rattle.std.specs.Prelude.{◌≡◌, ◌⊎◌, true, nat_lt, ℕ, Bool, List, [], ◌∷◌, ◌++◌, length, codes, flat_map, map, None}
use Rattle.std.specs.Prelude.{is_some, Result, Ok, Err, if◌then◌else◌}
use Rattle.std.specs.List.{AllByRecursion}
use Rattle.sccs_base.specs.Name.{is_sfile_name}
use Rattle.sccs_sid.specs.Reading.{is_empty}
use Rattle.sccs_sid.specs.Refusal.{number_of}
use Rattle.sccs_sid.specs.declared.moments.Stamp.{Stamp}
use Rattle.sccs_sid.specs.declared.refusals.Refusal.{Refusal}
use Rattle.sccs_sid.specs.declared.refusals.Refusal.TheVariants.{BadName, GroupPending}
use Rattle.sccs_disk.specs.Files.{View}
use Rattle.sccs_name_files.specs.StepFiles.{look, moved}
use Rattle.sccs_intents.specs.Intents.{intent_file}
use Rattle.sccs_steps.specs.Actions.{has_number}
use Rattle.sccs_steps.specs.StepEffects.{Outcome, StepEffect, effect_of}
use Rattle.sccs_steps.specs.StepLists.{Move, NamedStep, err_of, moves_of, named_step}
use Rattle.sccs_changes.specs.Changes.{locking_step}
use Rattle.sccs_changes.specs.Reports.{heading_text}
use Rattle.sccs_group_command.specs.declared.entries.GroupEntry.{GroupEntry}
use Rattle.sccs_delta.specs.DeltaStep.{could_make, delta_change, delta_checks}

abbrev pub names_of : List GroupEntry → List (List ℕ)
names_of entries = map (λ (e : GroupEntry). e.name) entries

-- what delta's step on the name of an entry does in a view
unfoldable pub entry_outcome : Stamp → View → GroupEntry → Outcome
entry_outcome stamp v e =
    if is_sfile_name e.name then locking_step (delta_change e.words stamp).outcome e.name e.script [] (look v e.name)
    else Err BadName

-- An entry that is refused.
pub record RefusedEntry : Type 0 where
  pub name : List ℕ
  pub refusal : Refusal

-- the steps of entries, or the first refusal
abbrev pub EntrySteps : Type 0
EntrySteps = Result (List NamedStep) RefusedEntry

abbrev pub put_first : NamedStep → EntrySteps → EntrySteps
put_first t (Ok ts) = Ok (t ∷ ts)
put_first t (Err e) = Err e

-- the step of a name before those of others
abbrev pub go_on : List ℕ → Outcome → (StepEffect → EntrySteps) → EntrySteps
go_on n (Ok effect) rest = put_first (named_step n (Ok effect)) (rest effect)
go_on n (Err refusal) rest = Err (record { name = n; refusal = refusal })

-- the steps of entries, each in the view that those before it left
abbrev pub entry_steps : Stamp → View → List GroupEntry → EntrySteps
entry_steps stamp v [] = Ok []
entry_steps stamp v (e ∷ entries) = go_on e.name (entry_outcome stamp v e) (λ effect. entry_steps stamp
    (moved v e.name effect.new) entries)

-- ---- one step of all

-- a report, under its heading where there are several entries
abbrev pub headed : Bool → List ℕ → List ℕ → List ℕ
headed several n report = if is_empty report then [] else heading_text several n ++ report

abbrev pub reports_of : Bool → List NamedStep → List ℕ
reports_of several ts = flat_map (λ (t : NamedStep). headed several t.name t.effect.out) ts

-- all that the steps change is changed together, and then they are reported
abbrev pub joint_step : List NamedStep → NamedStep
joint_step ts = record {
  name = codes "-";
  effect = record { new = None; text = []; out = reports_of (nat_lt 1 (length ts)) ts; err = err_of ts; status = 0 };
  more = flat_map moves_of ts;
}

-- a step of these names that is refused at one of them changes none of their files
abbrev pub unmoved : List ℕ → Move
unmoved n = record { name = n; new = None }

abbrev pub refused_step : List (List ℕ) → List ℕ → Refusal → NamedStep
refused_step names n refusal = record { name = n; effect = effect_of n (Err refusal); more = map unmoved names }

abbrev pub joined : List (List ℕ) → EntrySteps → NamedStep
joined names (Ok ts) = joint_step ts
joined names (Err e) = refused_step names e.name e.refusal

-- The step of a group: it is refused while a group is pending, or where one of its entries is.
abbrev pub group_step : Stamp → View → List GroupEntry → NamedStep
group_step stamp v entries =
    if is_some (v intent_file) then refused_step (names_of entries) (codes "-") GroupPending
    else joined (names_of entries) (entry_steps stamp v entries)

-- ---- over any disk

-- what may come of an entry: what may come of a delta, or its name is none that an s-file may have
abbrev pub could_entry : Outcome → Bool
could_entry (Ok effect) = could_make (Ok effect)
could_entry (Err refusal) = has_number (number_of BadName ∷ delta_checks) (number_of refusal)

abbrev pub group_checks : List ℕ
group_checks = number_of GroupPending ∷ number_of BadName ∷ delta_checks

-- steps of entries that may come
abbrev pub CouldBeMade : List NamedStep → Type 0
CouldBeMade ts = AllByRecursion (λ (t : NamedStep). could_entry (Ok t.effect) ≡ true) ts

-- the step of a group that may come: of entries together, or one that is refused by a check
abbrev pub CouldBeGroup : NamedStep → Type 0
CouldBeGroup t = ((ts : List NamedStep) × CouldBeMade ts × (t ≡ joint_step ts))
    ⊎ ((names : List (List ℕ)) × (n : List ℕ) × (refusal : Refusal) × (has_number group_checks (number_of refusal)
    ≡ true) × (t ≡ refused_step names n refusal))
