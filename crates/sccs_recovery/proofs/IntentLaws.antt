-- What an intent that is there refuses.
use Rattle.std.proofs.Common.{◌≡◌, ◌≤◌, ◌↔◌, ℕ, Bool, List, Option, None, Some, IfOk, IfSome, IsErrOf, Result, Ok, Err}
use Rattle.std.proofs.Common.{refl, sym, ap, subst, ◌∙◌}
use Rattle.std.specs.Prelude.{IsSome}
use Rattle.sccs_disk.specs.Causes.{DiskCauses}
use Rattle.sccs_disk.specs.Files.{Content, View}
use Rattle.sccs_disk.specs.Told.{Told, seen}
use Rattle.sccs_name_files.specs.StepFiles.{is_working}
use Rattle.sccs_name_files.specs.WholeFiles.{AnswersWhole}
use Rattle.sccs_name_files.specs.declared.whole_files.WholeFault.TheVariants as whole
use Rattle.sccs_group.proofs.Found.{long_bad}
use Rattle.sccs_intents.specs.Intents.{intent_file, intent_of}
use Rattle.sccs_intents.specs.declared.intents.IntentEntry.{IntentEntry}
use Rattle.sccs_crash_points.specs.Unlocked.{is_own}
use Rattle.sccs_crash_points.proofs.Unlocked.{others_same}
use Rattle.sccs_sid.specs.Reading.{◌>>=◌}
use Rattle.sccs_sid.specs.declared.refusals.Refusal.{Refusal}
use Rattle.sccs_sid.specs.declared.refusals.Refusal.TheVariants.{BadIntent}
use Rattle.sccs_sid.specs.declared.refusals.StepFault.{StepFault}
use Rattle.sccs_sid.specs.declared.refusals.StepFault.TheVariants.{Refused, Memory, ReadFault, WriteFault, DiskFault}
use Rattle.sccs_recovery.specs.Checks.{IsWithin, PassesChecks, RefusesIntent, checked, free_checked, none_pending}
use Rattle.sccs_recovery.specs.Checks.{recovers_if, refuses_intent}
use Rattle.sccs_recovery.specs.Ends.{RecoversName}
use Rattle.sccs_base.specs.Name.{z_file}
use Rattle.sccs_recovery.specs.declared.recoveries.Recovered.{Recovered}
use Rattle.sccs_recovery.specs.declared.recoveries.Recovered.TheVariants as ways
use Rattle.sccs_store.proofs.Working.{same_touches}
use Rattle.sccs_recovery.proofs.RecoveryEnds.{ended, failed, same_cleared, same_moves, same_partly}
use Rattle.sccs_recovery.proofs.RecoveryLaws.{same_firm, same_story}

-- ---- the intent

pub read_refuses : (intent : Option Content) (bytes : List ℕ) (fault : StepFault) → AnswersWhole intent (Ok bytes)
    → RefusesIntent (intent_of bytes) fault → PassesChecks {A = Unit {0}} (none_pending intent) (Err fault)
read_refuses None bytes fault read refuses = absurd read
read_refuses (Some c) bytes (Refused refusal) read refuses =
    ap (λ (b : List ℕ). none_pending (Some (record c { bytes = b }))) (sym read.0) ∙ ap Err (sym refuses)
read_refuses (Some c) bytes Memory read refuses = tt
read_refuses (Some c) bytes ReadFault read refuses = tt
read_refuses (Some c) bytes WriteFault read refuses = tt
read_refuses (Some c) bytes DiskFault read refuses = tt

pub missing_passes : (intent : Option Content) → AnswersWhole intent (Err whole.Missing) → PassesChecks {A = Unit {0}}
    (none_pending intent) (Ok tt)
missing_passes None missing = refl
missing_passes (Some c) missing = absurd cc

pub long_refuses : (intent : Option Content) → AnswersWhole intent (Err whole.TooLong) → PassesChecks {A = Unit {0}}
    (none_pending intent) (Err (Refused (BadIntent 1)))
long_refuses None long = absurd long
long_refuses (Some c) long = ap (λ (r : Result (List IntentEntry) ℕ). Err (refuses_intent r)) (long_bad (Some c) long)

-- ---- behind the check

pub free_passes : (n : List ℕ) (r : Result Recovered StepFault) (v : View) → PassesChecks {A = Unit {0}}
    (none_pending (v intent_file)) (Ok tt) → PassesChecks (checked n v) r → PassesChecks (free_checked n v) r
free_passes n r v free passes = subst (λ (p : Result Bool Refusal). PassesChecks (p >>= λ done. checked n v) r)
    (sym free) passes

pub kept_refuses : (n : List ℕ) (fault : StepFault) (v : View) → PassesChecks {A = Unit {0}}
    (none_pending (v intent_file)) (Err fault) → PassesChecks {A = Recovered} (free_checked n v) (Err fault)
kept_refuses n (Refused refusal) v refuses = ap (λ (p : Result Bool Refusal). p >>= λ done. checked n v) refuses
kept_refuses n Memory v refuses = tt
kept_refuses n ReadFault v refuses = tt
kept_refuses n WriteFault v refuses = tt
kept_refuses n DiskFault v refuses = tt

pub free_waits : (intent : Option Content) (a b : Told) → PassesChecks {A = Unit {0}} (none_pending intent) (Ok tt)
    → IsSome intent → b ≡ a
free_waits None a b free there = absurd cc
free_waits (Some c) a b free there = absurd cc

pub clean_since : (r : Result Recovered StepFault) (a b : Told) (n : List ℕ) → b ≡ a
    → IfOk r (λ (found : Recovered). IfSome (seen b) (λ (v : View). (found ≡ ways.Clean) ↔ (v (z_file n) ≡ None)))
    → IfOk r (λ (found : Recovered). IfSome (seen a) (λ (v : View). (found ≡ ways.Clean) ↔ (v (z_file n) ≡ None)))
clean_since (Ok found) a b n same clean = subst (λ (t : Told). IfSome (seen t) (λ (v : View). (found ≡ ways.Clean)
    ↔ (v (z_file n) ≡ None))) same clean
clean_since (Err fault) a b n same clean = tt

pub both_told : (o : Option View) (P Q R : View → Type 0) → ((v : View) → P v → Q v → R v) → IfSome o P → IfSome o Q
    → IfSome o R
both_told None P Q R both one two = tt
both_told (Some v) P Q R both one two = both v one two

pub free_ends : (n : List ℕ) (a b d : Told) (f g h : ℕ) (r : Result Recovered StepFault) → b ≡ a → f ≤ g
    → RecoversName n b d g h r → RecoversName n a d f h r
free_ends n a b d f g h (Ok found) same rises ends = ended n a b d f g h found found same rises ends
free_ends n a b d f g h (Err fault) same rises ends = failed n a b d f g h fault same rises ends

-- where the disk stays as it is
same_within : {S T : Type 0} (fault : StepFault) → IsWithin {T = S} (Err fault) → IsWithin {T = T} (Err fault)
same_within {S} {T} fault within = record {
  checks = λ refusal is. within.checks refusal (let e : fault ≡ Refused refusal = cc in ap Err e);
  read = λ is. within.read (let e : fault ≡ ReadFault = cc in ap Err e);
  write = λ is. within.write (let e : fault ≡ WriteFault = cc in ap Err e);
}

pub kept_ends : (n : List ℕ) (fault : StepFault) (a b : Told) (f f2 : ℕ) → b ≡ a
    → DiskCauses (IsErrOf {T = Unit {0}} (Err fault) DiskFault) f f2 → IsWithin {T = Unit {0}} (Err fault)
    → RecoversName {T = Recovered} n a b f f2 (Err fault)
kept_ends n fault a b f f2 same causes within = record {
  view = tt;
  refused = λ refusal is. same;
  memory = λ is. same_moves n a b same;
  cleared = λ is. same_cleared n a b same;
  touches = λ is. same_touches (is_working n) a b same;
  others = others_same (is_own n) a b same;
  partly = λ is. same_partly n (λ (v : View). recovers_if (checked n v) n v) a b same;
  story = same_story a b same;
  calm = tt;
  firm = same_firm a b same;
  later = causes.later;
  cause = λ is. causes.cause (let e : fault ≡ DiskFault = cc in ap Err e);
  within = same_within fault within;
}
