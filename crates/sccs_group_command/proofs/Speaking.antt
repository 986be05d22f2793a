-- What may come of a group, over any disk.
use Rattle.std.proofs.Common.{◌≡◌, ℕ, Bool, true, false, ◌||◌, List, [], ◌∷◌, ◌++◌, Option, Result, Ok, Err, inl, inr}
use Rattle.std.proofs.Common.{refl, sym, ap, subst, ◌∙◌}
use Rattle.sccs_base.specs.Stream.{GivesOk, GivesSome}
use Rattle.sccs_base.proofs.Gifts.{some_none}
use Rattle.sccs_sid.specs.Refusal.{number_of}
use Rattle.sccs_sid.specs.declared.refusals.Refusal.TheVariants.{BadName, GroupPending}
use Rattle.sccs_sid.specs.declared.refusals.StepFault.{StepFault}
use Rattle.sccs_sid.specs.declared.refusals.StepFault.TheVariants.{Refused, Memory, ReadFault, WriteFault, DiskFault}
use Rattle.sccs_disk.specs.Files.{View}
use Rattle.sccs_steps.specs.Actions.{RefusesWithin, has_number}
use Rattle.sccs_steps.specs.Calls.{world}
use Rattle.sccs_steps.specs.StepLists.{NamedStep, err_of}
use Rattle.sccs_changes.specs.Changes.{CouldPrepare}
use Rattle.sccs_delta.specs.DeltaStep.{could_make, delta_checks}
use Rattle.sccs_group_command.specs.GroupStep.{CouldBeMade, could_entry}
use Rattle.sccs_group_command.specs.Making.{Finishes, SpeaksGroup, StopSpeaks, messages_in}
use Rattle.sccs_group_command.specs.Preparing.{CouldAdd, CouldCome, GivesAllBack, GivesBack}
use Rattle.sccs_group_command.specs.declared.prepared_entries.PreparedEntry.{PreparedEntry}
use Rattle.std.proofs.lemmas.Bool.{or_right}

-- ---- an entry

-- what may come of a delta
pub could_ended : (fault : StepFault) → CouldPrepare could_make (Err fault) → CouldPrepare could_entry (Err fault)
could_ended (Refused refusal) could = or_right _ (has_number delta_checks (number_of refusal)) could
could_ended Memory could = tt
could_ended ReadFault could = tt
could_ended WriteFault could = tt
could_ended DiskFault could = tt

-- it is given up
pub could_back : (r fault : StepFault) (n : List ℕ) (o o2 : Option View) → GivesBack r fault n o o2
    → CouldPrepare could_entry (Err fault) → CouldPrepare could_entry (Err r)
could_back r fault n o o2 (inl gone) could = subst (λ (f : StepFault). CouldPrepare could_entry (Err f))
    (sym gone.0) could
could_back r fault n o o2 (inr broken) could = subst (λ (f : StepFault). CouldPrepare could_entry (Err f))
    (sym broken.0) tt

pub could_back_all : (r fault : StepFault) (names : List (List ℕ)) (o o2 : Option View)
    → GivesAllBack r fault names o o2 → CouldPrepare could_entry (Err fault) → CouldPrepare could_entry (Err r)
could_back_all r fault names o o2 (inl gone) could = subst (λ (f : StepFault). CouldPrepare could_entry (Err f))
    (sym gone.0) could
could_back_all r fault names o o2 (inr broken) could = subst (λ (f : StepFault). CouldPrepare could_entry (Err f))
    (sym broken.0) tt

-- ---- entries

could_more : (made : List PreparedEntry) (x : PreparedEntry) → CouldCome made → CouldPrepare could_entry (Ok x.prepared)
    → CouldCome (made ++ x ∷ [])
could_more [] x all one = (one, tt)
could_more (y ∷ made) x all one = (all.0, could_more made x all.1 one)

-- the next one
pub could_next : (done : Unit {0}) (made all : List PreparedEntry) → CouldAdd (Ok done) made all → CouldCome made
    → CouldCome all
could_next done made all adds come = subst CouldCome (sym adds.1) (could_more made adds.0 come adds.2)

-- steps that have their warnings
pub come_steps : (made : List PreparedEntry) → CouldCome made → (ts : List NamedStep) × CouldBeMade ts
    × (err_of ts ≡ messages_in made)
come_steps [] come = ([], tt, refl)
come_steps (x ∷ made) come =
    let rest : (ts : List NamedStep) × CouldBeMade ts × (err_of ts ≡ messages_in made) = come_steps made come.1 in (
      record { name = x.name; effect = come.0.0; more = [] } ∷ rest.0,
      (come.0.1, rest.1),
      ap (λ (text : List ℕ). text ++ err_of rest.0) come.0.3 ∙ ap (λ (text : List ℕ). x.prepared.message ++ text)
          rest.2,
    )

-- ---- the group

-- an entry ended it
pub entry_speaks : (fault : StepFault) (err : Option (List ℕ)) → CouldPrepare could_entry (Err fault)
    → StopSpeaks fault err err
entry_speaks (Refused refusal) err could =
    (or_right _ (has_number (number_of BadName ∷ delta_checks) (number_of refusal)) could, refl)
entry_speaks Memory err could = refl
entry_speaks ReadFault err could = refl
entry_speaks WriteFault err could = ([], tt, some_none err [])
entry_speaks DiskFault err could = refl

pending_number : (a b : Bool) → (a || false) ≡ true → (a || b) ≡ true
pending_number true b is = refl
pending_number false b is = absurd (cc)

-- another one is pending
pub pending_speaks : {X : Type 0} (r : Result X StepFault) (fault : StepFault) (err : Option (List ℕ)) → r ≡ Err fault
    → RefusesWithin (number_of GroupPending ∷ []) r → StopSpeaks fault err err
pending_speaks r (Refused refusal) err is refuses =
    (pending_number _ (has_number (number_of BadName ∷ delta_checks) (number_of refusal)) (refuses refusal is), refl)
pending_speaks r Memory err is refuses = refl
pending_speaks r ReadFault err is refuses = refl
pending_speaks r WriteFault err is refuses = ([], tt, some_none err [])
pending_speaks r DiskFault err is refuses = refl

-- it was committed and reported
pub done_speaks : (done : Unit {0}) (made : List PreparedEntry) (o o2 : Option View) (out out2 err err2 : Option
    (List ℕ)) → CouldCome made → Finishes (Ok done) made (world o out err) (world o2 out2 err2)
    → SpeaksGroup (Ok done) err err2
done_speaks done made o o2 out out2 err err2 come fin =
    let steps = come_steps made come in (
      steps.0,
      steps.1,
      subst (λ (text : List ℕ). GivesOk err err2 text)
          (sym steps.2) fin.2,
    )

pub failed_speaks : (fault : StepFault) (made : List PreparedEntry) (o o2 : Option View) (out out2 err err2 : Option
    (List ℕ)) → CouldCome made → Finishes (Err fault) made (world o out err) (world o2 out2 err2)
    → StopSpeaks fault err err2
failed_speaks (Refused refusal) made o o2 out out2 err err2 come fin = absurd fin
failed_speaks Memory made o o2 out out2 err err2 come fin = fin.1.1
failed_speaks ReadFault made o o2 out out2 err err2 come fin = absurd fin
failed_speaks WriteFault made o o2 out out2 err err2 come fin =
    let steps = come_steps made come in (
      steps.0,
      steps.1,
      subst (λ (text : List ℕ). GivesSome err err2 text)
          (sym steps.2) fin.2,
    )
failed_speaks DiskFault made o o2 out out2 err err2 come fin = fin.1.1
