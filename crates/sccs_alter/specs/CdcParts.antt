-- What the parts of cdc answer.
use Rattle.std.specs.Prelude.{◌≡◌, ℕ, List, IfSome, Result, Ok, Err}
use Rattle.sccs_base.specs.Login.{IsLogin}
use Rattle.sccs_disk.specs.Files.{View}
use Rattle.sccs_sid.specs.declared.moments.Stamp.{Stamp}
use Rattle.sccs_sid.specs.declared.refusals.StepFault.{StepFault}
use Rattle.sccs_sid.specs.declared.refusals.StepFault.TheVariants.{Refused, Memory, ReadFault, WriteFault, DiskFault}
use Rattle.sccs_history.specs.History.{AreLines}
use Rattle.sccs_history.specs.declared.headers.Header.{Header}
use Rattle.sccs_history.specs.declared.headers.Record.{Record}
use Rattle.sccs_grammar.specs.File.{Parsed}
use Rattle.sccs_table.specs.declared.fronts.Front.{Front}
use Rattle.sccs_body.specs.AnySum.{ShowsUnsummed}
use Rattle.sccs_changes.specs.Pending.{bytes_at}
use Rattle.sccs_words.specs.declared.commands.CdcWords.{CdcWords}
use Rattle.sccs_alter.specs.CheckStep.{checked_file}
use Rattle.sccs_alter.specs.CdcStep.{changeable}

-- the front is that of the s-file that is read, or a check fails
abbrev pub ReadsSfile : List ℕ → View → Result Front StepFault → Type 0
ReadsSfile n v (Ok front) = (parsed : Parsed) × ShowsUnsummed (bytes_at (v n)) parsed front
    × (checked_file (v n) ≡ Ok parsed)
ReadsSfile n v (Err (Refused refusal)) = checked_file (v n) ≡ Err refusal
ReadsSfile n v (Err Memory) = Unit {0}
ReadsSfile n v (Err DiskFault) = Unit {0}
ReadsSfile n v (Err ReadFault) = ⊥
ReadsSfile n v (Err WriteFault) = ⊥

-- the serial of the delta that may be changed, or the check that fails
abbrev pub FindsChangeable : CdcWords → Stamp → Header → Result ℕ StepFault → Type 0
FindsChangeable words stamp header (Ok serial) = (delta : Record) × (changeable words stamp header ≡ Ok delta)
    × (delta.serial ≡ serial)
FindsChangeable words stamp header (Err (Refused refusal)) = changeable words stamp header ≡ Err refusal
FindsChangeable words stamp header (Err _) = ⊥

-- The texts of the words are lines, and the login of the stamp is one, so that what cdc adds has a spelling.
pub record HasLines (words : CdcWords) (stamp : Stamp) : Type 0 where
  pub mrs : AreLines words.mrs
  pub comment : IfSome words.comment AreLines
  pub login : IsLogin stamp.login
