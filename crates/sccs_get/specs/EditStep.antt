-- What get -e does: POSIX, Shell and Utilities, get, -e.
use Rattle.std.specs.Prelude.{ℕ, Bool, false, List, [], ◌∷◌, ◌++◌, length, Option, None, Some, Result, Ok, Err}
use Rattle.std.specs.Prelude.{if◌then◌else◌}
use Rattle.sccs_sid.specs.Reading.{◌>>=◌}
use Rattle.sccs_sid.specs.Refusal.{number_of}
use Rattle.sccs_sid.specs.declared.moments.Stamp.{Stamp}
use Rattle.sccs_sid.specs.declared.refusals.Refusal.{Refusal}
use Rattle.sccs_disk.specs.Files.{Content}
use Rattle.sccs_history.specs.Body.{HistoryLine}
use Rattle.sccs_history.specs.declared.headers.Record.{Record}
use Rattle.sccs_grammar.specs.File.{Parsed}
use Rattle.sccs_name_files.specs.StepFiles.{Files}
use Rattle.sccs_pfile.specs.Recovered.{pfile_of}
use Rattle.sccs_pfile.specs.declared.entries.Edit.{Edit}
use Rattle.sccs_keywords.specs.Forms.{has_keywords, texts}
use Rattle.sccs_words.specs.declared.commands.GetWords.{GetWords}
use Rattle.sccs_changes.specs.Pending.{pending_of}
use Rattle.sccs_steps.specs.Actions.{Step, has_number}
use Rattle.sccs_steps.specs.StepEffects.{Outcome, StepEffect}
use Rattle.sccs_changes.specs.Changes.{Changing}
use Rattle.sccs_get.specs.NewEntry.{edit_checks, new_entry}
use Rattle.sccs_get.specs.Reports.{get_warning, said_on_err, said_on_out}
use Rattle.sccs_get.specs.SummaryStep.{summary_got, summed, writes_l}
use Rattle.sccs_get.specs.VersionStep.{found_version, is_in_the_way, lines_got, report_on, says_well, stays_writable}
use Rattle.sccs_get.specs.VersionStep.{given_text, writes_g}
use Rattle.sccs_get.specs.declared.found.Found.{Found as Version}

-- What is found: the header and items, the entries, the new one, and the version that is got.
pub record Reserved : Type 0 where
  pub parsed : Parsed
  pub edits : List Edit
  pub edit : Edit
  pub version : Version

-- it is found in the files of a name; or the first check that fails
unfoldable pub reserved_of : GetWords → Stamp → List ℕ → List ℕ → Files → Result Reserved Refusal
reserved_of words stamp place n f = do
  found ← pending_of f.s f.p
  edit ← new_entry words stamp found.parsed.header found.edits (is_in_the_way words f.g)
  version ← found_version words stamp place n found.parsed.header
  Ok (record { parsed = found.parsed; edits = found.edits; edit = edit; version = version })

-- what becomes of the g-file
abbrev pub g_after : GetWords → List ℕ → Option Content → Option Content
g_after words text g = if writes_g words then Some (record { bytes = text; writable = stays_writable words }) else g

-- The entries are one more, last; the text goes to out before that with -p, becomes the g-file, or is none with -g;
-- and the report goes to err with -p.
abbrev pub edit_effect : GetWords → Bool → List ℕ → List Record → Files → List Edit → Edit → Version → List HistoryLine
    → StepEffect
edit_effect words heading n records f edits edit version lines =
    let text : List ℕ = given_text words records version lines in
    let report : List ℕ = report_on words heading n version (Some edit.made) (length lines) in
    record {
      new = Some (record { s = f.s; p = pfile_of (edits ++ edit ∷ []); z = None; g = g_after words text f.g; l = f.l });
      text = if words.print then text else [];
      out = said_on_out words report;
      err = said_on_err words report (get_warning words n (has_keywords (texts lines)));
      status = 0;
    }

unfoldable pub edit_outcome : GetWords → Stamp → List ℕ → Bool → Step
edit_outcome words stamp place heading n input named f = do
  x ← reserved_of words stamp place n f
  Ok (summed words (summary_got words x.parsed.header.records x.version) f
      (edit_effect words heading n x.parsed.header.records f x.edits x.edit x.version
      (lines_got x.version x.parsed.items)))

-- the outcomes that may come over any disk
abbrev pub could_edit : GetWords → Outcome → Bool
could_edit words (Ok effect) = says_well words effect.err
could_edit words (Err refusal) = has_number edit_checks (number_of refusal)

abbrev pub edit_change : GetWords → Stamp → List ℕ → Bool → Changing
edit_change words stamp place heading =
    record {
      outcome = edit_outcome words stamp place heading;
      named = λ n. [];
      takes = false;
      silent = false;
      early =
          writes_l words;
      could = could_edit words;
    }
