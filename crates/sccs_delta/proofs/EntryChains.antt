-- The entry of a delta, check by check.
use Rattle.std.proofs.Common.{◌≡◌, ℕ, ◌-◌, ◌==◌, Bool, true, false, List, [], ◌∷◌, Option, Some, Result, Ok, Err, refl}
use Rattle.std.proofs.Common.{sym, ap, subst, ◌∙◌, ⊎_elim}
use Rattle.std.specs.List.{AllByRecursion}
use Rattle.std.proofs.lemmas.Bool.{eqb-true, false≢true, or_cases}
use Rattle.sccs_steps.specs.Actions.{has_number}
use Rattle.std.specs.Prelude.{slice_get}
use Rattle.sccs_sid.specs.Reading.{◌>>=◌}
use Rattle.sccs_sid.specs.declared.moments.Stamp.{Stamp}
use Rattle.sccs_sid.specs.declared.refusals.Refusal.{Refusal}
use Rattle.sccs_sid.specs.declared.refusals.Refusal.TheVariants as refusals
use Rattle.sccs_sid.specs.declared.refusals.StepFault.{StepFault}
use Rattle.sccs_sid.specs.declared.refusals.StepFault.TheVariants.{Refused, Memory, ReadFault, WriteFault, DiskFault}
use Rattle.sccs_flags.specs.Logins.{is_allowed}
use Rattle.sccs_history.specs.declared.headers.Header.{Header}
use Rattle.sccs_changes.specs.NewEntries.{or_no_edit}
use Rattle.sccs_changes.specs.PFiles.{Answers, PassesCheck}
use Rattle.sccs_pfile.specs.Choices.{choice, fits}
use Rattle.sccs_pfile.specs.declared.entries.Edit.{Edit}
use Rattle.sccs_steps.specs.StepEffects.{check, there}
use Rattle.sccs_words.specs.declared.commands.DeltaWords.{DeltaWords}
use Rattle.sccs_delta.specs.DeltaStep.{ChosenEntry, entry_base, chosen_entry, delta_releases}
use Rattle.sccs_delta.specs.Preparing.{FindsEntry}
use Rattle.sccs_delta.specs.declared.entries.Base.{Base}
use Rattle.sccs_changes.proofs.Chains.{ends, goes, passed}
use Rattle.sccs_changes.proofs.Preparing.{passes_answers}

-- ---- what follows each check

abbrev with_base : Header → ℕ → Edit → Base → Result ChosenEntry Refusal
with_base header number edit base = delta_releases header.flags edit >>= λ free.
    Ok (record { number = number; edit = edit; base = base })

abbrev with_edit : Header → ℕ → Edit → Result ChosenEntry Refusal
with_edit header number edit = entry_base header.records number edit >>= with_base header number edit

abbrev with_number : Header → List Edit → ℕ → Result ChosenEntry Refusal
with_number header edits number = there (slice_get edits (number - 1)) refusals.NoEdit >>= with_edit header number

abbrev entry_by : DeltaWords → Stamp → Header → List Edit → Bool → Result ChosenEntry Refusal
entry_by words stamp header edits allowed = check allowed refusals.NotAllowed >>= λ x. or_no_edit
    (choice (fits stamp.login words.sid true) edits) >>= with_number header edits

entry_is : (words : DeltaWords) (stamp : Stamp) (header : Header) (edits : List Edit)
    → chosen_entry words stamp header edits ≡ entry_by words stamp header edits (is_allowed header.users stamp.login)
unfolding chosen_entry
entry_is words stamp header edits = refl

let_in : (words : DeltaWords) (stamp : Stamp) (header : Header) (edits : List Edit)
    → is_allowed header.users stamp.login ≡ true → chosen_entry words stamp header edits
    ≡ (or_no_edit (choice (fits stamp.login words.sid true) edits) >>= with_number header edits)
let_in words stamp header edits allowed = entry_is words stamp header edits
    ∙ ap (entry_by words stamp header edits) allowed

numbered : (words : DeltaWords) (stamp : Stamp) (header : Header) (edits : List Edit) (number : ℕ) (edit : Edit)
    → is_allowed header.users stamp.login ≡ true → or_no_edit (choice (fits stamp.login words.sid true) edits)
    ≡ Ok number → slice_get edits (number - 1) ≡ Some edit
    → chosen_entry words stamp header edits ≡ with_edit header number edit
numbered words stamp header edits number edit allowed is at =
    let_in words stamp header edits allowed
    ∙ (goes (or_no_edit (choice (fits stamp.login words.sid true) edits)) (with_number header edits) number is
    ∙ ap (λ (o : Option Edit). there o refusals.NoEdit >>= with_edit header number) at)

-- ---- what is found

finds : (words : DeltaWords) (stamp : Stamp) (header : Header) (edits : List Edit) (fault : StepFault)
    → Answers {A = ChosenEntry} (chosen_entry words stamp header edits) (Err fault)
    → FindsEntry words stamp header edits (Err fault)
finds words stamp header edits (Refused refusal) answers = answers
finds words stamp header edits Memory answers = tt
finds words stamp header edits ReadFault answers = answers
finds words stamp header edits WriteFault answers = answers
finds words stamp header edits DiskFault answers = tt

by_rest : (words : DeltaWords) (stamp : Stamp) (header : Header) (edits : List Edit) (rest : Result ChosenEntry Refusal)
    (fault : StepFault) → chosen_entry words stamp header edits ≡ rest → Answers {A = ChosenEntry} rest (Err fault)
    → FindsEntry words stamp header edits (Err fault)
by_rest words stamp header edits rest fault is answers = finds words stamp header edits fault
    (subst (λ (r : Result ChosenEntry Refusal). Answers {A = ChosenEntry} r (Err fault)) (sym is) answers)

pub not_let_in : (words : DeltaWords) (stamp : Stamp) (header : Header) (edits : List Edit)
    → is_allowed header.users stamp.login ≡ false → chosen_entry words stamp header edits ≡ Err refusals.NotAllowed
not_let_in words stamp header edits refused = entry_is words stamp header edits
    ∙ ap (entry_by words stamp header edits) refused

pub no_number : (words : DeltaWords) (stamp : Stamp) (header : Header) (edits : List Edit) (fault : StepFault)
    → is_allowed header.users stamp.login ≡ true
    → Answers {A = ℕ} (or_no_edit (choice (fits stamp.login words.sid true) edits)) (Err fault)
    → FindsEntry words stamp header edits (Err fault)
no_number words stamp header edits fault allowed answers =
    by_rest words stamp header edits _ fault (let_in words stamp header edits allowed)
    (ends (or_no_edit (choice (fits stamp.login words.sid true) edits)) (with_number header edits) fault answers)

pub no_base : (words : DeltaWords) (stamp : Stamp) (header : Header) (edits : List Edit) (number : ℕ) (edit : Edit)
    (fault : StepFault) → is_allowed header.users stamp.login ≡ true
    → or_no_edit (choice (fits stamp.login words.sid true) edits) ≡ Ok number → slice_get edits (number - 1) ≡ Some edit
    → Answers {A = Base} (entry_base header.records number edit) (Err fault) → FindsEntry words stamp header edits
    (Err fault)
no_base words stamp header edits number edit fault allowed is at answers =
    by_rest words stamp header edits _ fault (numbered words stamp header edits number edit allowed is at)
    (ends (entry_base header.records number edit) (with_base header number edit) fault answers)

pub not_released : (words : DeltaWords) (stamp : Stamp) (header : Header) (edits : List Edit) (number : ℕ) (edit : Edit)
    (base : Base) (fault : StepFault) → is_allowed header.users stamp.login ≡ true
    → or_no_edit (choice (fits stamp.login words.sid true) edits) ≡ Ok number → slice_get edits (number - 1) ≡ Some edit
    → entry_base header.records number edit ≡ Ok base → PassesCheck (delta_releases header.flags edit) (Err fault)
    → FindsEntry words stamp header edits (Err fault)
not_released words stamp header edits number edit base fault allowed is at based passes =
    by_rest words stamp header edits _ fault (numbered words stamp header edits number edit allowed is at
    ∙ goes (entry_base header.records number edit) (with_base header number edit) base based)
    (ends (delta_releases header.flags edit) (λ free. Ok (record { number = number; edit = edit; base = base })) fault
    (passes_answers (delta_releases header.flags edit) fault passes))

pub entry_found : (words : DeltaWords) (stamp : Stamp) (header : Header) (edits : List Edit) (number : ℕ) (edit : Edit)
    (base : Base) → is_allowed header.users stamp.login ≡ true
    → or_no_edit (choice (fits stamp.login words.sid true) edits) ≡ Ok number → slice_get edits (number - 1) ≡ Some edit
    → entry_base header.records number edit ≡ Ok base → delta_releases header.flags edit ≡ Ok true
    → FindsEntry words stamp header edits (Ok (record { number = number; base = base }))
entry_found words stamp header edits number edit base allowed is at based free = (
  edit,
  at,
  numbered words stamp header edits number edit allowed is at
      ∙ (goes (entry_base header.records number edit) (with_base header number edit) base based
      ∙ goes (delta_releases header.flags edit) (λ x. Ok (record { number = number; edit = edit; base = base })) true
      free),
)

abbrev found_entry : ChosenEntry → Result ChosenEntry Refusal
found_entry e = Ok e

-- an entry that is found has its base
pub has_base : (words : DeltaWords) (stamp : Stamp) (header : Header) (edits : List Edit) (e : ChosenEntry)
    → chosen_entry words stamp header edits ≡ Ok e → entry_base header.records e.number e.edit ≡ Ok e.base
has_base words stamp header edits e is =
    let allowed = passed (check (is_allowed header.users stamp.login) refusals.NotAllowed)
    (λ x. or_no_edit (choice (fits stamp.login words.sid true) edits) >>= with_number header edits) e
    (sym (entry_is words stamp header edits) ∙ is) in
    let numbered = passed (or_no_edit (choice (fits stamp.login words.sid true) edits)) (with_number header edits) e
    allowed.2 in
    let there_is = passed (there (slice_get edits (numbered.0 - 1)) refusals.NoEdit) (with_edit header numbered.0) e
    numbered.2 in
    let based = passed (entry_base header.records numbered.0 there_is.0) (with_base header numbered.0 there_is.0) e
    there_is.2 in
    let free = passed (delta_releases header.flags there_is.0)
    (λ x. Ok (record { number = numbered.0; edit = there_is.0; base = based.0 })) e based.2 in
    subst (λ (x : ChosenEntry). entry_base header.records x.number x.edit ≡ Ok x.base)
    (the_entry (record { number = numbered.0; edit = there_is.0; base = based.0 }) e free.2) based.1
  where
    the_entry : (a b : ChosenEntry) → found_entry a ≡ found_entry b → a ≡ b
    the_entry a b is = cc

-- ---- the numbers of checks

-- a refusal within some checks is within more of them
pub wider_checks : (checks more : List ℕ) (n : ℕ) → AllByRecursion (λ (check : ℕ). has_number more check ≡ true) checks
    → has_number checks n ≡ true → has_number more n ≡ true
wider_checks [] more n all is = absurd (false≢true is)
wider_checks (check ∷ checks) more n all is =
    ⊎_elim (λ (same : (check == n) ≡ true). subst (λ m. has_number more m ≡ true) (eqb-true check n same) all.0)
    (λ (rest : has_number checks n ≡ true). wider_checks checks more n all.1 rest)
    (or_cases (check == n) (has_number checks n) is)

pub refused_again : {T U : Type 0} (fault : StepFault) (refusal : Refusal) → ◌≡◌ {A = Result T StepFault} (Err fault)
    (Err (Refused refusal)) → ◌≡◌ {A = Result U StepFault} (Err fault) (Err (Refused refusal))
refused_again fault refusal is = cc
