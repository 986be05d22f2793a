-- What a soak prints when its commands are done (own): how many rounds it made, and what is then in its file.
use Rattle.std.specs.Prelude.{ℕ, ◌==◌, true, false, not, ◌&&◌, List, [], ◌∷◌, ◌++◌, length, filter, codes, decimal}
use Rattle.std.specs.Prelude.{Option, None, Some, option_map, Ok}
use Rattle.sccs_base.specs.Name.{is_sfile_name}
use Rattle.sccs_sid.specs.Reading.{◌>>=◌}
use Rattle.sccs_disk.specs.Files.{Content}
use Rattle.sccs_history.specs.Applied.{version}
use Rattle.sccs_history.specs.Body.{lines_of}
use Rattle.sccs_history.specs.declared.headers.Item.{Item}
use Rattle.sccs_history.specs.declared.headers.Record.{Record}
use Rattle.sccs_grammar.specs.File.{answer, file_of}
use Rattle.sccs_grammar.specs.FileRefusals.{or_refusal}
use Rattle.sccs_table.specs.ReaderState.{behind_sum}
use Rattle.sccs_tokens.specs.Sums.{plain_sum}
use Rattle.sccs_name_files.specs.StepFiles.{Files}
use Rattle.sccs_prs.specs.Chosen.{serial_where}
use Rattle.sccs_prs.specs.PrsStep.{prints, prs_checks}
use Rattle.sccs_steps.specs.Actions.{Action, quiet_checks}
use Rattle.sccs_steps.specs.StepEffects.{Outcome}
use Rattle.sccs_steps.specs.declared.statuses.StatusRule.TheVariants.{Greatest}
use Rattle.sccs_step_lists.specs.StepLists.{StepLists, command_of}
use Rattle.sccs_soak.specs.Commands.{soak_file}

-- how many deltas live
abbrev pub live_count : List Record → ℕ
live_count records = length (filter (λ (r : Record). not r.removed) records)

-- the serial of the newest delta that lives on the trunk
abbrev pub newest_trunk : List Record → Option ℕ
newest_trunk records = serial_where (λ r. not r.removed && r.sid.branch == 0) records

-- how many lines its version has
abbrev pub lines_by : Option ℕ → List Record → List Item → ℕ
lines_by None records items = 0
lines_by (Some serial) records items = length (version serial records (lines_of items))

abbrev pub trunk_lines : List Record → List Item → ℕ
trunk_lines records items = lines_by (newest_trunk records) records items

-- the four lines; the sum is that of all bytes behind the first line, as it says
abbrev pub four_lines : ℕ → ℕ → ℕ → ℕ → List ℕ
four_lines rounds deltas lines sum =
    decimal rounds ++ (codes " steps\n"
    ++ (decimal deltas ++ (codes " deltas\n"
    ++ (decimal lines ++ (codes " lines\nsum " ++ (decimal sum ++ codes "\n"))))))

-- the bytes of a file, where it is there, and the sum of those behind its first line
abbrev pub bytes_or_none : Option Content → Option (List ℕ)
bytes_or_none s = option_map (λ (c : Content). c.bytes) s

abbrev pub sum_in : Option (List ℕ) → ℕ
sum_in None = 0
sum_in (Some bytes) = plain_sum (behind_sum bytes)

-- what is printed of an s-file that was read
abbrev pub summary_text : ℕ → Option (List ℕ) → List Record → List Item → List ℕ
summary_text rounds bytes records items = four_lines rounds (live_count records) (trunk_lines records items)
    (sum_in bytes)

-- an s-file is read, and its lines are printed
unfoldable pub summary_outcome : ℕ → Files → Outcome
summary_outcome rounds f = do
  file ← or_refusal (answer file_of (bytes_or_none f.s))
  Ok (prints (summary_text rounds (bytes_or_none f.s) file.header.records file.items))

abbrev pub summary_action : ℕ → Action
summary_action rounds = record {
  fits = is_sfile_name;
  step = λ n input named files. summary_outcome rounds files;
  named = λ n. [];
  takes = false;
  reads = true;
  locks = true;
  silent = false;
  rule = Greatest;
  could = quiet_checks prs_checks;
}

abbrev pub summary_step_list : ℕ → StepLists
summary_step_list rounds = command_of (summary_action rounds) (soak_file ∷ [])
