-- What sact does: POSIX, Shell and Utilities, sact. It reads the p-file alone.
use Rattle.std.specs.Prelude.{◌≡◌, ℕ, Bool, true, false, List, [], ◌∷◌, ◌++◌, flat_map, codes, take, ◌||◌, Option, None}
use Rattle.std.specs.Prelude.{is_some, Result, Ok, Err}
use Rattle.std.specs.Str.{bytes_eq}
use Rattle.sccs_base.specs.Name.{is_sfile_name}
use Rattle.sccs_sid.specs.Moment.{moment_text}
use Rattle.sccs_sid.specs.Reading.{◌>>=◌, is_empty}
use Rattle.sccs_sid.specs.Refusal.{number_of}
use Rattle.sccs_sid.specs.Sid.{sid_text}
use Rattle.sccs_sid.specs.declared.refusals.Refusal.{Refusal}
use Rattle.sccs_sid.specs.declared.refusals.Refusal.TheVariants.{Missing}
use Rattle.sccs_sid.specs.declared.refusals.Refusal.TheVariants as refusals
use Rattle.sccs_sid.specs.declared.refusals.StepFault.{StepFault}
use Rattle.sccs_sid.specs.declared.refusals.StepFault.TheVariants.{Refused, Memory, ReadFault, WriteFault, DiskFault}
use Rattle.sccs_base.specs.Stream.{GivesOk, GivesSome}
use Rattle.sccs_name_files.specs.StepFiles.{Files}
use Rattle.sccs_tokens.specs.Written.{ended}
use Rattle.sccs_pfile.specs.declared.entries.Edit.{Edit}
use Rattle.sccs_steps.specs.StepEffects.{Outcome, StepEffect, check}
use Rattle.sccs_steps.specs.Actions.{Action, has_number}
use Rattle.sccs_steps.specs.declared.statuses.StatusRule.TheVariants.{Greatest}
use Rattle.sccs_changes.specs.PFiles.{entries_of}
use Rattle.sccs_changes.specs.Reports.{heading_text}

-- the numbers of its checks
abbrev pub sact_checks : List ℕ
sact_checks =
    number_of refusals.Missing ∷ number_of refusals.TooLong ∷ number_of (refusals.BadPfile 0) ∷ []

-- an entry: the SIDs that were got and are to be made, login, date and time, with one blank between two
abbrev pub edit_line : Edit → List ℕ
edit_line e = sid_text e.got ++ (32 ∷ sid_text e.made ++ (32 ∷ e.login ++ (32 ∷ moment_text e.moment)))

abbrev pub edit_lines : List Edit → List ℕ
edit_lines edits = flat_map (λ e. ended (edit_line e)) edits

abbrev pub none_outstanding : List ℕ
none_outstanding = codes "No outstanding deltas for: "

-- what is said where there are no entries
abbrev pub none_text : List ℕ → List Edit → List ℕ
none_text n [] = none_outstanding ++ ended n
none_text n (e ∷ edits) = []

-- the entries are printed, and no file changes
abbrev pub shows_entries : Bool → List ℕ → List Edit → StepEffect
shows_entries heading n edits = record {
  new = None;
  text = [];
  out = heading_text heading n ++ edit_lines edits;
  err =
      none_text n edits;
  status = 0;
}

-- the entries of a name whose s-file is there
unfoldable pub found_edits : Files → Result (List Edit) Refusal
found_edits f = do
  there ← check (is_some f.s) Missing
  entries_of f.p

-- what it does with the files of a name
unfoldable pub sact_step : Bool → List ℕ → Files → Outcome
sact_step heading n f = do
  edits ← found_edits f
  Ok (shows_entries heading n edits)

-- over any disk: what is said on err is nothing, or that no deltas are outstanding
abbrev pub could_show : Outcome → Bool
could_show (Ok effect) = is_empty effect.err || bytes_eq none_outstanding (take 27 effect.err)
could_show (Err refusal) = has_number sact_checks (number_of refusal)

abbrev pub sact_action : Bool → Action
sact_action heading = record {
  fits = is_sfile_name;
  step = λ n input named files. sact_step heading n files;
  named =
      λ n. [];
  takes = false;
  reads = true;
  locks = true;
  silent = false;
  rule = Greatest;
  could = could_show;
}

-- What showing entries answers, and writes on out and err: all, or a prefix of each; without memory nothing.
abbrev pub ShowsEdits : Result (Unit {0}) StepFault → StepEffect → Option (List ℕ) → Option (List ℕ) → Option (List ℕ)
    → Option (List ℕ) → Type 0
ShowsEdits (Ok done) d out out2 err err2 = GivesOk out out2 d.out × GivesOk err err2 d.err
ShowsEdits (Err WriteFault) d out out2 err err2 = GivesSome out out2 d.out × GivesSome err err2 d.err
ShowsEdits (Err Memory) d out out2 err err2 = (out2 ≡ out) × (err2 ≡ err)
ShowsEdits (Err DiskFault) d out out2 err err2 = ⊥
ShowsEdits (Err ReadFault) d out out2 err err2 = ⊥
ShowsEdits (Err (Refused refusal)) d out out2 err err2 = ⊥
