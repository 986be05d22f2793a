-- What cdc reads of an s-file.
use Rattle.std.proofs.Common.{ℕ, List, Option, None, Some, IfSome, Result, Ok, Err, ap, ◌≡◌}
use Rattle.sccs_disk.specs.Files.{View}
use Rattle.sccs_sid.specs.declared.refusals.StepFault.{StepFault}
use Rattle.sccs_sid.specs.declared.refusals.StepFault.TheVariants.{Refused, Memory, ReadFault, WriteFault, DiskFault}
use Rattle.sccs_grammar.specs.File.{Parsed}
use Rattle.sccs_grammar.specs.FileRefusals.{file_fault, or_refusal}
use Rattle.sccs_grammar.specs.declared.faults.FileFault.{FileFault}
use Rattle.sccs_table.specs.FrontFile.{IsPlaced}
use Rattle.sccs_table.specs.ReaderState.{file_in}
use Rattle.sccs_table.specs.declared.fronts.Front.{Front}
use Rattle.sccs_body.specs.BodyFile.{AnswersFile}
use Rattle.sccs_alter.specs.CheckStep.{Checks, checked_file}
use Rattle.sccs_alter.proofs.CheckLaws.{file_refused}
use Rattle.sccs_alter.proofs.ReadLaws.{read_whole}
use Rattle.sccs_alter.specs.CdcParts.{ReadsSfile}

pub file_found : (n : List ℕ) (o : Option View) (front : Front) → IsPlaced front
    → IfSome o (λ v. AnswersFile (file_in v n) (Ok front)) → IfSome o (λ (v : View). ReadsSfile n v (Ok front))
file_found n None front placed answers = tt
file_found n (Some v) front placed answers =
    let read = read_whole n (Some v) (Ok front) placed answers in
    (read.0, read.2, ap (λ (r : Result Parsed FileFault). or_refusal r) read.1)

as_read : (n : List ℕ) (v : View) (fault : StepFault) → Checks (checked_file (v n)) (Err fault)
    → ReadsSfile n v (Err fault)
as_read n v (Refused refusal) checks = checks
as_read n v Memory checks = tt
as_read n v DiskFault checks = tt
as_read n v ReadFault checks = checks
as_read n v WriteFault checks = checks

pub file_ends : (n : List ℕ) (o : Option View) (fault : FileFault) (ended : StepFault) → ended ≡ file_fault fault
    → IfSome o (λ v. AnswersFile (file_in v n) (Err fault)) → IfSome o (λ (v : View). ReadsSfile n v (Err ended))
file_ends n None fault ended is answers = tt
file_ends n (Some v) fault ended is answers = as_read n v ended (file_refused n (Some v) fault ended is answers)
