-- What what does with a file: POSIX, Shell and Utilities, what.
use Rattle.std.specs.Prelude.{ℕ, Bool, true, false, List, [], ◌∷◌, nat_lt, length, Option, None, Some, Result, Ok, Err}
use Rattle.std.specs.Prelude.{IfSome, if◌then◌else◌}
use Rattle.sccs_base.specs.Constants.{file_limit}
use Rattle.sccs_base.specs.Name.{is_name}
use Rattle.sccs_disk.specs.Files.{Content, View}
use Rattle.sccs_sid.specs.Refusal.{number_of}
use Rattle.sccs_sid.specs.declared.refusals.Refusal.TheVariants as refusals
use Rattle.sccs_sid.specs.declared.refusals.StepFault.{StepFault}
use Rattle.sccs_steps.specs.Actions.{Action, quiet_checks}
use Rattle.sccs_steps.specs.Calls.{Meets, world}
use Rattle.sccs_steps.specs.StepEffects.{Outcome, StepEffect}
use Rattle.sccs_steps.specs.declared.statuses.StatusRule.TheVariants.{AnyZero}
use Rattle.sccs_what.specs.Texts.{is_found, what_text}

-- the numbers of its checks
abbrev pub what_checks : List ℕ
what_checks = number_of refusals.Missing ∷ number_of refusals.TooLong ∷ []

-- its status: 0 where something was found, else 1
abbrev pub found_status : Bool → ℕ
found_status true = 0
found_status false = 1

-- the lines of a file are printed, and no file changes
abbrev pub finds_texts : Bool → List ℕ → List ℕ → StepEffect
finds_texts first n bytes = record {
  new = None;
  text = what_text first n bytes;
  out = [];
  err = [];
  status =
      found_status (is_found bytes);
}

-- what it does with a file of a name
abbrev pub what_step : Bool → List ℕ → Option Content → Outcome
what_step first n None = Err refusals.Missing
what_step first n (Some c) = if nat_lt file_limit (length c.bytes) then Err refusals.TooLong
    else Ok (finds_texts first n c.bytes)

-- what the call for a file answers and writes, where the disk tells its files
abbrev pub MeetsWhat : Bool → List ℕ → Result Bool StepFault → Option View → Option View → Option (List ℕ)
    → Option (List ℕ) → Type 0
MeetsWhat first n r told told2 out out2 =
    IfSome told (λ v. (err : Option (List ℕ)) → Meets found_status r n (what_step first n (v n))
    (world (Some v) out err) (world told2 out2 err))

-- what it does with an operand: any file's name is one, and no file changes
abbrev pub what_action : Bool → Action
what_action first = record {
  fits = is_name;
  step = λ n input named files. what_step first n files.s;
  named = λ n. [];
  takes = false;
  reads = true;
  locks = true;
  silent = false;
  rule = AnyZero;
  could = quiet_checks what_checks;
}
