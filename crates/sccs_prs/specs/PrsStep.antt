-- What prs does with a name (POSIX, Shell and Utilities, prs). It changes no file.
use Rattle.std.specs.Prelude.{◌≡◌, ℕ, true, false, List, [], ◌∷◌, Option, None, option_map, Result, Ok, Err}
use Rattle.sccs_base.specs.Name.{is_sfile_name}
use Rattle.sccs_base.specs.Stream.{GivesOk, GivesSome}
use Rattle.sccs_sid.specs.Reading.{◌>>=◌}
use Rattle.sccs_sid.specs.Refusal.{number_of}
use Rattle.sccs_sid.specs.declared.refusals.Refusal.TheVariants as refusals
use Rattle.sccs_sid.specs.declared.refusals.StepFault.{StepFault}
use Rattle.sccs_sid.specs.declared.refusals.StepFault.TheVariants.{Refused, Memory, ReadFault, WriteFault, DiskFault}
use Rattle.sccs_disk.specs.Files.{Content}
use Rattle.sccs_grammar.specs.File.{Parsed, answer, file_of}
use Rattle.sccs_grammar.specs.FileRefusals.{or_refusal}
use Rattle.sccs_name_files.specs.StepFiles.{Files}
use Rattle.sccs_steps.specs.Actions.{Action, quiet_checks}
use Rattle.sccs_steps.specs.declared.statuses.StatusRule.TheVariants.{Greatest}
use Rattle.sccs_steps.specs.StepEffects.{Outcome, StepEffect, effect_of}
use Rattle.sccs_words.specs.declared.commands.PrsWords.{PrsWords}
use Rattle.sccs_prs.specs.Chosen.{chosen_of}
use Rattle.sccs_prs.specs.PrsText.{ShownFile, report_text}

-- an s-file that was read, of a name in a folder
abbrev pub shown_file : Parsed → List ℕ → List ℕ → ShownFile
shown_file file n place = record { header = file.header; items = file.items; name = n; place = place }

-- the deltas are printed, and no file changes
abbrev pub prints : List ℕ → StepEffect
prints text = record { new = None; text = text; out = []; err = []; status = 0 }

-- what it does with the files of a name; the checks come in this order
unfoldable pub prs_outcome : PrsWords → List ℕ → List ℕ → Files → Outcome
prs_outcome words place n f = do
  file ← or_refusal (answer file_of (option_map (λ (c : Content). c.bytes) f.s))
  chosen ← chosen_of words file.header.records
  Ok (prints (report_text words chosen (shown_file file n place)))

-- What a call that prints an outcome's text answers: all of it was given, a check fails and nothing was given, or a
-- prefix of it.
abbrev pub ShowsOutcome : List ℕ → Outcome → Result (Unit {0}) StepFault → Option (List ℕ) → Option (List ℕ) → Type 0
ShowsOutcome n o (Ok done) a b = (d : StepEffect) × (o ≡ Ok d) × (d ≡ prints d.text) × GivesOk a b d.text
ShowsOutcome n o (Err (Refused refusal)) a b = (o ≡ Err refusal) × (b ≡ a)
ShowsOutcome n o (Err Memory) a b = GivesSome a b (effect_of n o).text
ShowsOutcome n o (Err DiskFault) a b = GivesSome a b (effect_of n o).text
ShowsOutcome n o (Err WriteFault) a b = GivesSome a b (effect_of n o).text
ShowsOutcome n o (Err ReadFault) a b = ⊥

-- the numbers of its checks
abbrev pub prs_checks : List ℕ
prs_checks =
    number_of refusals.Missing ∷ number_of refusals.TooLong ∷ number_of refusals.NotSccs
    ∷ number_of (refusals.BadSum 0 0) ∷ number_of (refusals.BadFormat 0) ∷ number_of refusals.Encoded
    ∷ number_of refusals.NoSid ∷ number_of (refusals.Changed 0 0 0 0) ∷ []

-- prs as an action on each operand
abbrev pub prs_action : PrsWords → List ℕ → Action
prs_action words place = record {
  fits = is_sfile_name;
  step = λ n input named files. prs_outcome words place n files;
  named = λ n. [];
  takes = false;
  reads = true;
  locks = true;
  silent = false;
  rule = Greatest;
  could = quiet_checks prs_checks;
}
