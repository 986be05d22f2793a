-- The summary in what get does with a name: SCCS, get -l and -L.
use Rattle.std.specs.Prelude.{ℕ, Bool, true, false, List, [], ◌++◌, Some, option_map, unwrap_or, if◌then◌else◌}
use Rattle.sccs_history.specs.declared.headers.Record.{Record}
use Rattle.sccs_words.specs.declared.commands.GetWords.{GetWords}
use Rattle.sccs_words.specs.declared.commands.Summary.{Summary}
use Rattle.sccs_words.specs.declared.commands.Summary.TheVariants.{No, File, Out}
use Rattle.sccs_name_files.specs.StepFiles.{Files}
use Rattle.sccs_steps.specs.StepEffects.{StepEffect}
use Rattle.sccs_summary.specs.Summaries.{Choice, summary_text}
use Rattle.sccs_summary.specs.SummaryFiles.{summary_file}
use Rattle.sccs_get.specs.declared.found.Found.{Found}

-- it becomes the l-file with -l
abbrev pub is_file : Summary → Bool
is_file No = false
is_file File = true
is_file Out = false

-- it goes to out with -L
abbrev pub is_out : Summary → Bool
is_out No = false
is_out File = false
is_out Out = true

abbrev pub writes_l : GetWords → Bool
writes_l words = is_file words.summary

-- what it is made of: the set that is got, the serials of the lists, and the cutoff
abbrev pub choice_got : GetWords → Found → Choice
choice_got words found = record {
  set = found.set;
  include = found.taken_in;
  exclude = found.left_out;
  cutoff =
      option_map (λ m. m.seconds) words.cutoff;
}

abbrev pub summary_got : GetWords → List Record → Found → List ℕ
summary_got words records found = summary_text (choice_got words found) records

-- what goes to out of it, before the text
abbrev pub printed_summary : GetWords → List ℕ → List ℕ
printed_summary words summary = if is_out words.summary then summary else []

-- the files with a summary as their l-file
abbrev pub with_l : List ℕ → Files → Files
with_l summary f = record { s = f.s; p = f.p; z = f.z; g = f.g; l = Some (summary_file summary) }

-- An effect with the summary in front.
abbrev pub summed : GetWords → List ℕ → Files → StepEffect → StepEffect
summed words summary f d = record {
  new = if writes_l words then Some (with_l summary (unwrap_or d.new f)) else d.new;
  text = printed_summary words summary ++ d.text;
  out = d.out;
  err = d.err;
  status = d.status;
}
