-- What admin -h does: it makes the checks on an s-file, and says and changes nothing. POSIX, Shell and Utilities,
-- admin, -h.
use Rattle.std.specs.Prelude.{◌≡◌, ℕ, true, false, List, [], ◌∷◌, Option, None, Result, Ok, Err}
use Rattle.std.proofs.Common.{sym, ap}
use Rattle.sccs_base.specs.Name.{is_sfile_name}
use Rattle.sccs_sid.specs.Reading.{◌>>=◌}
use Rattle.sccs_sid.specs.Refusal.{number_of}
use Rattle.sccs_sid.specs.declared.refusals.Refusal.{Refusal}
use Rattle.sccs_sid.specs.declared.refusals.Refusal.TheVariants as refusals
use Rattle.sccs_sid.specs.declared.refusals.StepFault.{StepFault}
use Rattle.sccs_sid.specs.declared.refusals.StepFault.TheVariants.{Refused, Memory, ReadFault, WriteFault, DiskFault}
use Rattle.sccs_disk.specs.Files.{Content}
use Rattle.sccs_grammar.specs.File.{Parsed, answer, file_of}
use Rattle.sccs_grammar.specs.FileRefusals.{or_refusal}
use Rattle.sccs_changes.specs.Pending.{bytes_at}
use Rattle.sccs_steps.specs.Actions.{Action, KeepsFiles, quiet_checks}
use Rattle.sccs_steps.specs.StepEffects.{Outcome, StepEffect}
use Rattle.sccs_steps.specs.declared.statuses.StatusRule.TheVariants.{Greatest}

-- the numbers of its checks
abbrev pub check_checks : List ℕ
check_checks =
    number_of refusals.Missing ∷ number_of refusals.TooLong ∷ number_of refusals.NotSccs
    ∷ number_of (refusals.BadSum 0 0) ∷ number_of (refusals.BadFormat 0) ∷ number_of refusals.Encoded
    ∷ number_of (refusals.Changed 0 0 0 0) ∷ []

-- the s-file as it is read, or the first check that fails
abbrev pub checked_file : Option Content → Result Parsed Refusal
checked_file s = or_refusal (answer file_of (bytes_at s))

-- nothing changes, and nothing is said
abbrev pub no_effect : StepEffect
no_effect = record { new = None; text = []; out = []; err = []; status = 0 }

abbrev pub check_outcome : Result Parsed Refusal → Outcome
check_outcome file = file >>= λ parsed. Ok no_effect

abbrev pub check_action : Action
check_action = record {
  fits = is_sfile_name;
  step = λ n input named f. check_outcome (checked_file f.s);
  named = λ n. [];
  takes = false;
  reads = true;
  locks = true;
  silent = true;
  rule = Greatest;
  could = quiet_checks check_checks;
}

-- what the checks answer of a told file
abbrev pub Checks : Result Parsed Refusal → Result (Unit {0}) StepFault → Type 0
Checks file (Ok done) = (parsed : Parsed) × (file ≡ Ok parsed)
Checks file (Err (Refused refusal)) = file ≡ Err refusal
Checks file (Err Memory) = Unit {0}
Checks file (Err DiskFault) = Unit {0}
Checks file (Err ReadFault) = ⊥
Checks file (Err WriteFault) = ⊥

changes_none : (file : Result Parsed Refusal) (d : StepEffect) → check_outcome file ≡ Ok d → d.new ≡ None
changes_none (Ok parsed) d is = ap (λ (e : StepEffect). e.new) (let same : no_effect ≡ d = cc in sym same)
changes_none (Err refusal) d is = absurd cc

pub check_keeps : KeepsFiles check_action
check_keeps = record {
  quiet = λ reads n i named f d is. changes_none (checked_file f.s) d is;
  names =
      λ changes n fits. absurd cc;
  locked = λ changes locks n i named f d is there g new. absurd cc;
  pending =
      λ changes never n i v f d there is. absurd cc;
}
