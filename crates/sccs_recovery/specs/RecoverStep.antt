-- What the command recover does with the files of a name (own).
use Rattle.std.specs.Prelude.{ℕ, Bool, false, true, ◌||◌, List, [], ◌∷◌, ◌++◌, codes, Option, None, Some, is_some}
use Rattle.std.specs.Prelude.{Result, Ok, if◌then◌else◌}
use Rattle.std.specs.List.{list_any}
use Rattle.std.specs.Str.{bytes_eq}
use Rattle.sccs_base.specs.Name.{is_sfile_name}
use Rattle.sccs_sid.specs.Reading.{◌>>=◌}
use Rattle.sccs_sid.specs.declared.refusals.Refusal.{Refusal}
use Rattle.sccs_disk.specs.Files.{Content}
use Rattle.sccs_intents.specs.Intents.{intent_file}
use Rattle.sccs_name_files.specs.StepFiles.{Files}
use Rattle.sccs_pfile.specs.Recovered.{recovered_pfile}
use Rattle.sccs_steps.specs.StepEffects.{Outcome, StepEffect}
use Rattle.sccs_steps.specs.Actions.{Action, quiet_checks}
use Rattle.sccs_steps.specs.declared.statuses.StatusRule.TheVariants.{Greatest}
use Rattle.sccs_recovery.specs.Checks.{none_pending, readable, recover_checks}

-- the entries whose delta is made leave the p-file, and the z-file goes
abbrev pub recovered_files : Files → Files
recovered_files f = record { s = f.s; p = recovered_pfile f.s f.p; z = None; g = f.g; l = f.l }

-- a name, and how it was found
abbrev pub found_text : List ℕ → Bool → List ℕ
found_text n locked = n ++ (if locked then codes ": recovered\n" else codes ": clean\n")

-- a name is among those that the end of a group freed just before
abbrev pub freed_by : List (List ℕ) → List ℕ → Bool
freed_by names n = list_any (bytes_eq n) names

-- where the z-file is there, the name is unlocked; else its files stay. A name that was freed just before counts as
-- locked.
abbrev pub recovers : (List ℕ → Bool) → List ℕ → Files → StepEffect
recovers freed n f = record {
  new = if is_some f.z then Some (recovered_files f) else None;
  text = [];
  out = found_text n (is_some f.z || freed n);
  err = [];
  status = 0;
}

-- the checks are made only where the z-file is there
abbrev pub files_checked : Files → Result Bool Refusal
files_checked f = if is_some f.z then readable f.s f.p else Ok true

unfoldable pub recover_step : (List ℕ → Bool) → List ℕ → Files → Outcome
recover_step freed n f = do
  done ← files_checked f
  Ok (recovers freed n f)

-- the intent, as the one file that is named
abbrev pub intent_in : List (Option Content) → Option Content
intent_in [] = None
intent_in (intent ∷ others) = intent

-- nothing is recovered while an intent is there
unfoldable pub recover_outcome : (List ℕ → Bool) → List ℕ → List (Option Content) → Files → Outcome
recover_outcome freed n named f = do
  free ← none_pending (intent_in named)
  recover_step freed n f

-- by the names that were freed just before
abbrev pub recover_action : (List ℕ → Bool) → Action
recover_action freed = record {
  fits = is_sfile_name;
  step = λ n input named files. recover_outcome freed n named files;
  named = λ n. intent_file ∷ [];
  takes = false;
  reads = false;
  locks = false;
  silent = false;
  rule = Greatest;
  could =
      quiet_checks recover_checks;
}
