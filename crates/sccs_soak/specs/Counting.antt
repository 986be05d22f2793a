-- What counting the lines of a version answers.
use Rattle.std.specs.Prelude.{◌≡◌, ℕ, List, Option, Result, Ok, Err}
use Rattle.sccs_sid.specs.declared.refusals.StepFault.{StepFault}
use Rattle.sccs_sid.specs.declared.refusals.StepFault.TheVariants.{Refused, Memory, ReadFault, WriteFault, DiskFault}
use Rattle.sccs_history.specs.declared.headers.Item.{Item}
use Rattle.sccs_history.specs.declared.headers.Record.{Record}
use Rattle.sccs_soak.specs.Summaries.{lines_by}

-- how many lines it has; of a told file only the disk or memory keeps that from being answered
abbrev pub CountsLines : Option ℕ → List Record → List Item → Result ℕ StepFault → Type 0
CountsLines serial records items (Ok lines) = lines ≡ lines_by serial records items
CountsLines serial records items (Err Memory) = Unit {0}
CountsLines serial records items (Err DiskFault) = Unit {0}
CountsLines serial records items (Err WriteFault) = Unit {0}
CountsLines serial records items (Err ReadFault) = ⊥
CountsLines serial records items (Err (Refused refusal)) = ⊥
