-- What is found for an edit, and what is prepared of it.
use Rattle.std.specs.Prelude.{◌≡◌, ℕ, List, Result, Ok, Err, if◌then◌else◌}
use Rattle.sccs_sid.specs.declared.moments.Stamp.{Stamp}
use Rattle.sccs_sid.specs.declared.refusals.StepFault.{StepFault}
use Rattle.sccs_sid.specs.declared.refusals.StepFault.TheVariants.{Refused, Memory, ReadFault, WriteFault, DiskFault}
use Rattle.sccs_grammar.specs.File.{Parsed, answer, file_of}
use Rattle.sccs_body.specs.BodyFile.{ShowsFile}
use Rattle.sccs_name_files.specs.StepFiles.{Files}
use Rattle.sccs_changes.specs.Pending.{bytes_at}
use Rattle.sccs_store.specs.declared.new_files.NewFile.{NewFile}
use Rattle.sccs_store.specs.declared.new_files.NewFile.TheVariants.{Keep, Replace}
use Rattle.sccs_words.specs.declared.commands.GetWords.{GetWords}
use Rattle.sccs_get.specs.EditStep.{reserved_of}
use Rattle.sccs_get.specs.VersionStep.{writes_g}
use Rattle.sccs_get.specs.declared.edits.Reserved.{Reserved}

-- it is found, or a check fails; of want of memory and a failing disk nothing is said
abbrev pub AnswersReserved : GetWords → Stamp → List ℕ → List ℕ → Files → Result Reserved StepFault → Type 0
AnswersReserved words stamp place n f (Ok x) =
    (parsed : Parsed) × ShowsFile (bytes_at f.s) parsed x.pending.front × (answer file_of (bytes_at f.s) ≡ Ok parsed)
    × (reserved_of words stamp place n f ≡ Ok
    (record { parsed = parsed; edits = x.pending.edits; edit = x.edit; version = x.version }))
AnswersReserved words stamp place n f (Err (Refused refusal)) = reserved_of words stamp place n f ≡ Err refusal
AnswersReserved words stamp place n f (Err Memory) = Unit {0}
AnswersReserved words stamp place n f (Err DiskFault) = Unit {0}
AnswersReserved words stamp place n f (Err ReadFault) = ⊥
AnswersReserved words stamp place n f (Err WriteFault) = ⊥

-- the text takes the place of the g-file, where it is to be there
abbrev pub new_g : GetWords → NewFile
new_g words = if writes_g words then Replace else Keep
