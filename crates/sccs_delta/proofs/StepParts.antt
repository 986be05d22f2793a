-- A delta's step that is accepted, part by part.
use Rattle.std.proofs.Common.{◌≡◌, ℕ, ◌-◌, Bool, true, List, [], length, Option, None, Some, Result, Ok, Err, refl, ap}
use Rattle.std.proofs.Common.{subst}
use Rattle.std.specs.Prelude.{slice_get}
use Rattle.sccs_sid.specs.Reading.{◌>>=◌}
use Rattle.sccs_sid.specs.declared.moments.Stamp.{Stamp}
use Rattle.sccs_sid.specs.declared.sids.Sid.{Sid}
use Rattle.sccs_sid.specs.declared.refusals.Refusal.{Refusal}
use Rattle.sccs_sid.specs.declared.refusals.Refusal.TheVariants as refusals
use Rattle.sccs_flags.specs.Logins.{is_allowed}
use Rattle.sccs_history.specs.Applied.{applied}
use Rattle.sccs_history.specs.declared.headers.Header.{Header}
use Rattle.sccs_history.specs.declared.headers.Record.{Record}
use Rattle.sccs_script_laws.specs.declared.scripts.Order.{Order}
use Rattle.sccs_script.specs.Commands.{orders_of}
use Rattle.sccs_script.specs.Checks.{checked_script}
use Rattle.sccs_sets.specs.Naming.{named_serials}
use Rattle.sccs_sets.specs.Retrieved.{serial_of}
use Rattle.sccs_name_files.specs.StepFiles.{Files}
use Rattle.sccs_pfile.specs.Choices.{choice, fits}
use Rattle.sccs_pfile.specs.declared.entries.Edit.{Edit}
use Rattle.sccs_steps.specs.StepEffects.{Outcome, StepEffect, check, there}
use Rattle.sccs_changes.specs.NewEntries.{or_no_edit}
use Rattle.sccs_changes.specs.Pending.{Found, pending_of}
use Rattle.sccs_words.specs.declared.commands.DeltaWords.{DeltaWords}
use Rattle.sccs_delta.specs.DeltaStep.{ChosenEntry, base_lines, entry_base, delta_outcome, chosen_entry, fitted}
use Rattle.sccs_delta.specs.DeltaStep.{makes_delta, mrs_checked, nulls_of, or_disagrees, or_script_fault}
use Rattle.sccs_delta.specs.DeltaStep.{delta_releases, sizes_checked}
use Rattle.sccs_delta.specs.declared.entries.Base.{Base}
use Rattle.sccs_changes.proofs.Chains.{passed}
use Rattle.sccs_delta.proofs.SettleLaws.{fitted_ok, orders_ok}

-- ---- the step

-- What an accepted step found.
pub record StepParts (words : DeltaWords) (stamp : Stamp) (n i : List ℕ) (f : Files) (effect : StepEffect) : Type 0
  where
    pub found : Found
    pub entry : ChosenEntry
    pub orders : List Order
    pub nulls : List Sid
    pub pending : pending_of f.s f.p ≡ Ok found
    pub meant : chosen_entry words stamp found.parsed.header found.edits ≡ Ok entry
    pub script : orders_of i ≡ Ok orders
    pub fits : checked_script orders (length (base_lines found.parsed.items entry.base)) ≡ Ok tt
    pub skipped : nulls_of found.parsed.header found.edits entry.edit ≡ Ok nulls
    pub made : makes_delta words stamp n f found entry orders nulls ≡ effect

effect_is : (a b : StepEffect) → (let r : Outcome = Ok a in r) ≡ Ok b → a ≡ b
effect_is a b is = cc

pub step_parts : (words : DeltaWords) (stamp : Stamp) (n i : List ℕ) (f : Files) (effect : StepEffect)
    → delta_outcome words stamp n i [] f ≡ Ok effect → StepParts words stamp n i f effect
unfolding delta_outcome
step_parts words stamp n i f effect is =
    let sizes = passed (sizes_checked i f) _ effect is in
    let read = passed (pending_of f.s f.p) _ effect sizes.2 in
    let meant = passed (chosen_entry words stamp read.0.parsed.header read.0.edits) _ effect read.2 in
    let script = passed (or_script_fault (orders_of i)) _ effect meant.2 in
    let fits = passed (fitted read.0.parsed.header.flags script.0 (base_lines read.0.parsed.items meant.0.base) f.g) _
    effect script.2 in
    let mrs = passed (mrs_checked read.0.parsed.header.flags words.mrs) _ effect fits.2 in
    let nulls = passed (nulls_of read.0.parsed.header read.0.edits meant.0.edit) _ effect mrs.2 in
    record {
      found = read.0;
      entry = meant.0;
      orders = script.0;
      nulls = nulls.0;
      pending = read.1;
      meant = meant.1;
      script = orders_ok (orders_of i) script.0 script.1;
      fits = fitted_ok read.0.parsed.header.flags script.0 (base_lines read.0.parsed.items meant.0.base) f.g fits.0
          fits.1;
      skipped = nulls.1;
      made = effect_is (makes_delta words stamp n f read.0 meant.0 script.0 nulls.0) effect nulls.2;
    }

-- ---- the entry

there_is : (o : Option Edit) (edit : Edit) → there o refusals.NoEdit ≡ Ok edit → o ≡ Some edit
there_is None edit is = absurd cc
there_is (Some x) edit is = let same : x ≡ edit = cc in ap (λ (e : Edit). Some e) same

same_entry : (number : ℕ) (edit : Edit) (base : Base) (r : Result Bool Refusal) (e : ChosenEntry)
    → (r >>= λ free. Ok (record { number = number; edit = edit; base = base })) ≡ Ok e
    → record { number = number; edit = edit; base = base } ≡ e
same_entry number edit base (Ok free) e is = cc
same_entry number edit base (Err refusal) e is = absurd cc

-- it is the one of its number
pub entry_numbered : (words : DeltaWords) (stamp : Stamp) (header : Header) (edits : List Edit) (e : ChosenEntry)
    → chosen_entry words stamp header edits ≡ Ok e → slice_get edits (e.number - 1) ≡ Some e.edit
unfolding chosen_entry
entry_numbered words stamp header edits e is =
    let allowed = passed (check (is_allowed header.users stamp.login) refusals.NotAllowed) _ e is in
    let numbered = passed (or_no_edit (choice (fits stamp.login words.sid true) edits)) _ e allowed.2 in
    let edit = passed (there (slice_get edits (numbered.0 - 1)) refusals.NoEdit) _ e numbered.2 in
    let based = passed (entry_base header.records numbered.0 edit.0) _ e edit.2 in
    subst (λ (x : ChosenEntry). slice_get edits (x.number - 1) ≡ Some x.edit) (same_entry numbered.0 edit.0 based.0
    (delta_releases header.flags edit.0) e based.2) (there_is (slice_get edits (numbered.0 - 1)) edit.0 edit.1)

same_base : (base made : Base) (r : Result Bool Refusal) → (r >>= λ apart. Ok made) ≡ Ok base → made ≡ base
same_base base made (Ok apart) is = cc
same_base base made (Err refusal) is = absurd cc

-- the set of a base is that of the delta got, with the lists
pub base_set_is : (records : List Record) (number : ℕ) (edit : Edit) (base : Base) → entry_base records number edit
    ≡ Ok base → base.set ≡ applied (record {
      target = base.got;
      include = base.include;
      exclude = base.exclude;
      cutoff =
          None;
    }) records
unfolding entry_base
base_set_is records number edit base is =
    let got = passed (there (serial_of records edit.got) (refusals.Disagree number)) _ base is in
    let include = passed (or_disagrees number (named_serials records [] edit.include)) _ base got.2 in
    let exclude = passed (or_disagrees number (named_serials records [] edit.exclude)) _ base include.2 in
    subst (λ (b : Base). b.set ≡ applied
    (record { target = b.got; include = b.include; exclude = b.exclude; cutoff = None }) records)
    (same_base base _ _ exclude.2) refl
