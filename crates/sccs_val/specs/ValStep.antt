-- What the calls of val answer, and what val does in a folder as one step: POSIX, Shell and Utilities, val.
use Rattle.std.specs.Prelude.{◌≡◌, ℕ, nat_lt, length, Bool, true, false, ◌&&◌, List, [], ◌∷◌, Option, None, Result, Ok}
use Rattle.std.specs.Prelude.{Err, codes, if◌then◌else◌}
use Rattle.std.specs.Str.{bytes_eq}
use Rattle.sccs_base.specs.Constants.{file_limit}
use Rattle.sccs_base.specs.Stream.{GivesOk, GivesSome}
use Rattle.sccs_disk.specs.Files.{Folder, View, view_in}
use Rattle.sccs_grammar.specs.declared.faults.FileFault.{FileFault}
use Rattle.sccs_grammar.specs.declared.faults.FileFault.TheVariants as file
use Rattle.sccs_sid.specs.Refusal.{number_of}
use Rattle.sccs_sid.specs.declared.refusals.Refusal.TheVariants as refusals
use Rattle.sccs_sid.specs.declared.refusals.StepFault.{StepFault}
use Rattle.sccs_sid.specs.declared.refusals.StepFault.TheVariants.{DiskFault, Memory, Refused}
use Rattle.sccs_steps.specs.Actions.{Action, IsHeard, quiet_checks, step_at}
use Rattle.sccs_steps.specs.Running.{RunsSteps}
use Rattle.sccs_steps.specs.Settings.{Setting}
use Rattle.sccs_steps.specs.Speaking.{SpeaksOne}
use Rattle.sccs_steps.specs.StepEffects.{Outcome, StepEffect}
use Rattle.sccs_steps.specs.StepLists.{NamedStep}
use Rattle.sccs_steps.specs.declared.faults.Fault.{Fault}
use Rattle.sccs_steps.specs.declared.statuses.StatusRule.TheVariants.{Greatest}
use Rattle.sccs_words.specs.declared.commands.ValWords.{ValWords}
use Rattle.sccs_val.specs.Findings.{unread}
use Rattle.sccs_val.specs.Reports.{takes_lines, val_status, val_text}
use Rattle.sccs_val.specs.declared.findings.Findings.{Findings}

-- what is found where a file isn't read; a disk that failed and want of memory are no findings
abbrev pub Unreads : FileFault → Result Findings StepFault → Type 0
Unreads file.Failed r = r ≡ Err DiskFault
Unreads file.Memory r = r ≡ Err Memory
Unreads (file.BadSum stored computed) r = r ≡ Ok (unread (file.BadSum stored computed))
Unreads (file.BadFormat line) r = r ≡ Ok (unread (file.BadFormat line))
Unreads (file.Changed size sum size_now sum_now) r = r ≡ Ok (unread (file.Changed size sum size_now sum_now))
Unreads file.Missing r = r ≡ Ok (unread file.Missing)
Unreads file.TooLong r = r ≡ Ok (unread file.TooLong)
Unreads file.NotSccs r = r ≡ Ok (unread file.NotSccs)
Unreads file.Encoded r = r ≡ Ok (unread file.Encoded)

-- What a call that prints answers and writes: all of a text, and a status; or a front of the text.
abbrev pub PrintsStatus : List ℕ → ℕ → Result ℕ StepFault → Option (List ℕ) → Option (List ℕ) → Type 0
PrintsStatus text status (Ok n) a b = (n ≡ status) × GivesOk a b text
PrintsStatus text status (Err fault) a b = GivesSome a b text

-- ---- val as one step

-- a text is printed, with a status
abbrev pub val_effect : List ℕ → ℕ → StepEffect
val_effect text status = record { new = None; text = text; out = []; err = []; status = status }

-- the same, unless an input past the limit is refused
abbrev pub val_judged : Bool → List ℕ → ℕ → Outcome
val_judged long text status = if long then Err refusals.TooLong else Ok (val_effect text status)

-- what a call answers and prints that does this
abbrev pub Judges : Bool → List ℕ → ℕ → Result ℕ StepFault → Option (List ℕ) → Option (List ℕ) → Type 0
Judges long text status (Ok n) a b = (long ≡ false) × (n ≡ status) × GivesOk a b text
Judges long text status (Err (Refused refusal)) a b = (long ≡ true) × (refusal ≡ refusals.TooLong) × (b ≡ a)
Judges long text status (Err fault) a b = GivesSome a b (if long then [] else text)

-- whether the input is taken for command lines and is past the limit
abbrev pub is_long : ValWords → List ℕ → Bool
is_long words input = takes_lines words && nat_lt file_limit (length input)

-- ---- val in a run

-- what val does over the files of a folder, with an input
abbrev pub val_outcome : ValWords → View → List ℕ → Outcome
val_outcome words v input = val_judged (is_long words input) (val_text words v input) (val_status words v input)

-- the same as an action on `-`, which stands for all that its words name
abbrev pub val_over : ValWords → View → Action
val_over words v = record {
  fits = bytes_eq (codes "-");
  step = λ n input named files. val_outcome words v input;
  named = λ n. [];
  takes = takes_lines words;
  reads = true;
  locks = true;
  silent = false;
  rule = Greatest;
  could = quiet_checks (number_of refusals.TooLong ∷ []);
}

-- what of it is the same over all folders
abbrev pub val_action : ValWords → Action
val_action words = val_over words (λ name. None)

-- its operand, where it takes the input
abbrev pub val_operands : ValWords → List (List ℕ)
val_operands words = if takes_lines words then codes "-" ∷ [] else []

-- the one step of val in a folder
abbrev pub val_steps : ValWords → Folder → List ℕ → List NamedStep
val_steps words m input = step_at (val_over words (view_in m)) m input (codes "-") ∷ []

-- a call that makes it
abbrev pub RunsVal : ValWords → Result ℕ Fault → Setting → Setting → Type 0
RunsVal words r s =
    RunsSteps (val_action words) (val_steps words) (IsHeard (takes_lines words) s.left) (SpeaksOne (val_action words)
    (codes "-")) (takes_lines words) r s
