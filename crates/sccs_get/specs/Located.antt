-- What the checks of a get answer.
use Rattle.std.specs.Prelude.{◌≡◌, ℕ, List, Result, Ok, Err}
use Rattle.sccs_sid.specs.declared.moments.Stamp.{Stamp}
use Rattle.sccs_sid.specs.declared.refusals.StepFault.{StepFault}
use Rattle.sccs_sid.specs.declared.refusals.StepFault.TheVariants.{Refused, Memory, ReadFault, WriteFault, DiskFault}
use Rattle.sccs_grammar.specs.File.{Parsed, answer, file_of}
use Rattle.sccs_body.specs.BodyFile.{ShowsFile}
use Rattle.sccs_name_files.specs.StepFiles.{Files}
use Rattle.sccs_changes.specs.Pending.{bytes_at}
use Rattle.sccs_words.specs.declared.commands.GetWords.{GetWords}
use Rattle.sccs_get.specs.VersionStep.{located_of}
use Rattle.sccs_get.specs.declared.steps.Located.{Located}

-- it is found, or a check fails; of want of memory and a failing disk nothing is said
abbrev pub AnswersLocated : GetWords → Stamp → List ℕ → List ℕ → Files → Result Located StepFault → Type 0
AnswersLocated words stamp place n f (Ok x) =
    (parsed : Parsed) × ShowsFile (bytes_at f.s) parsed x.front × (answer file_of (bytes_at f.s) ≡ Ok parsed)
    × (located_of words stamp place n f ≡ Ok (record { parsed = parsed; found = x.found }))
AnswersLocated words stamp place n f (Err (Refused refusal)) = located_of words stamp place n f ≡ Err refusal
AnswersLocated words stamp place n f (Err Memory) = Unit {0}
AnswersLocated words stamp place n f (Err DiskFault) = Unit {0}
AnswersLocated words stamp place n f (Err ReadFault) = ⊥
AnswersLocated words stamp place n f (Err WriteFault) = ⊥
