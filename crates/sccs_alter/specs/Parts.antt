-- What the parts of admin on an s-file that is there answer.
use Rattle.std.specs.Prelude.{◌≡◌, ℕ, Bool, List, map, Option, Some, Result, Ok, Err}
use Rattle.sccs_base.specs.Name.{x_file}
use Rattle.sccs_disk.specs.Files.{View, put}
use Rattle.sccs_sid.specs.declared.refusals.Refusal.{Refusal}
use Rattle.sccs_sid.specs.declared.refusals.StepFault.{StepFault}
use Rattle.sccs_sid.specs.declared.refusals.StepFault.TheVariants.{Refused, Memory, ReadFault, WriteFault, DiskFault}
use Rattle.sccs_grammar.specs.File.{Parsed}
use Rattle.sccs_body.specs.AnySum.{ShowsUnsummed}
use Rattle.sccs_grammar.specs.File.{answer}
use Rattle.sccs_grammar.specs.declared.faults.FileFault.{FileFault}
use Rattle.sccs_table.specs.FrontFile.{ShowsOrRefuses}
use Rattle.sccs_table.specs.declared.fronts.Front.{Front}
use Rattle.sccs_history.specs.declared.headers.Header.{Header}
use Rattle.sccs_history.specs.declared.headers.Item.{Item}
use Rattle.sccs_changes.specs.Pending.{bytes_at}
use Rattle.sccs_store.specs.Commits.{Becomes}
use Rattle.sccs_store.specs.SealedFiles.{sealed}
use Rattle.sccs_changes.specs.Changes.{unlocked}
use Rattle.sccs_changes.specs.declared.prepared.Prepared.{Prepared}
use Rattle.sccs_words.specs.declared.commands.AdminWords.{AdminWords}
use Rattle.sccs_admin.specs.Texts.{named_by}
use Rattle.sccs_alter.specs.AlterStep.{file_read, read_file}
use Rattle.sccs_alter.specs.declared.reading.Read.{Read}

-- the front of a whole file, with its sum or whatever that is, or its refusal
abbrev pub AnswersRead : Bool → Option (List ℕ) → Result Front FileFault → Type 0
AnswersRead fix o result = ShowsOrRefuses (λ parsed front. ShowsUnsummed o parsed front) result
    (answer (file_read fix) o)

-- the front and the text are those that are read, or a check fails
abbrev pub ReadsAt : AdminWords → List ℕ → View → Result Read StepFault → Type 0
ReadsAt words n v (Ok x) =
    (parsed : Parsed) × ShowsUnsummed (bytes_at (v n)) parsed x.front
    × (read_file words (map (unlocked n v) (named_by words.description)) (v n) ≡ Ok
    (record { parsed = parsed; text = x.text }))
ReadsAt words n v (Err (Refused refusal)) = read_file words (map (unlocked n v) (named_by words.description)) (v n)
    ≡ Err refusal
ReadsAt words n v (Err Memory) = Unit {0}
ReadsAt words n v (Err DiskFault) = Unit {0}
ReadsAt words n v (Err ReadFault) = ⊥
ReadsAt words n v (Err WriteFault) = ⊥

-- the x-file is that of the header over these items, or there is none; of a told file nothing else keeps from that
-- but the disk and memory
abbrev pub Alters : Result Prepared StepFault → Result Header Refusal → List Item → List ℕ → Option View → Option View
    → Type 0
Alters (Ok p) made items n old new = (h : Header) × (made ≡ Ok h)
    × Becomes (λ v. put v (x_file n) (Some (sealed h items))) old new
Alters (Err (Refused refusal)) made items n old new = made ≡ Err refusal
Alters (Err Memory) made items n old new = Unit {0}
Alters (Err DiskFault) made items n old new = Unit {0}
Alters (Err ReadFault) made items n old new = ⊥
Alters (Err WriteFault) made items n old new = ⊥
