-- What inspecting a whole s-file answers.
use Rattle.std.specs.Prelude.{◌≡◌, ℕ, List, [], length, drop, Option, None, Some, Result, Ok, Err}
use Rattle.sccs_base.specs.Cut.{cut}
use Rattle.sccs_history.specs.Applied.{live_serials}
use Rattle.sccs_history.specs.declared.headers.Item.{Item}
use Rattle.sccs_grammar.specs.Front.{ParsedFront}
use Rattle.sccs_tokens.specs.Items.{items_from}
use Rattle.sccs_grammar.specs.File.{Parsed, answer, checked_front, file_of}
use Rattle.sccs_grammar.specs.declared.faults.FileFault.{FileFault}
use Rattle.sccs_grammar.specs.declared.faults.FileFault.TheVariants.{BadFormat, Failed, Memory}
use Rattle.sccs_table.specs.FrontFile.{ShowsOrRefuses, IsFrontOf}
use Rattle.sccs_table.specs.ReaderState.{StandsIn, left}
use Rattle.sccs_body.specs.Reader.{BodyPlace, next_line_number}
use Rattle.sccs_table.specs.declared.fronts.Front.{Front}

-- what the body of a front's file has, from its first line on
abbrev pub items_of : List ℕ → Front → Result (List Item) ℕ
items_of file front = items_from (live_serials front.header.records) front.body_line []
    (cut (drop front.body_from file)).lines (cut (drop front.body_from file)).tail

-- the items of a whole body, or the number of the first line at which no item may stand
abbrev pub ChecksFound : Result (List Item) ℕ → Result (Unit {0}) FileFault → Type 0
ChecksFound found (Ok done) = (items : List Item) × (found ≡ Ok items)
ChecksFound found (Err (BadFormat line)) = found ≡ Err line
ChecksFound found (Err Failed) = Unit {0}
ChecksFound found (Err Memory) = Unit {0}
ChecksFound found (Err _) = ⊥

abbrev pub ChecksFile : List ℕ → Front → Result (Unit {0}) FileFault → Type 0
ChecksFile file front result = ChecksFound (items_of file front) result

-- the lines from where a reader stands in a told file
abbrev pub items_left : List ℕ → List ℕ → BodyPlace → Result (List Item) ℕ
items_left file live r = items_from live (next_line_number r file) [] (left r.lines file).lines (left r.lines file).tail

abbrev pub ChecksRest : Option (List ℕ) → List ℕ → BodyPlace → Result (Unit {0}) FileFault → Type 0
ChecksRest None live old result = Unit {0}
ChecksRest (Some file) live old result = StandsIn old.lines file → ChecksFound (items_left file live old) result

-- the same of a told file of the front's size
abbrev pub ChecksItems : Option (List ℕ) → Front → Result (Unit {0}) FileFault → Type 0
ChecksItems None front result = Unit {0}
ChecksItems (Some file) front result = front.size ≡ length file → ChecksFile file front result

-- the header is that of the whole file, and the front that of its bytes
abbrev pub ShowsFile : Option (List ℕ) → Parsed → Front → Type 0
ShowsFile None parsed front = ⊥
ShowsFile (Some file) parsed front = (front.header ≡ parsed.header)
    × ((read : ParsedFront) × (checked_front file ≡ Ok read) × IsFrontOf file read front)

-- the front of a whole file, or its refusal; no file and too long a file come first
abbrev pub AnswersFile : Option (List ℕ) → Result Front FileFault → Type 0
AnswersFile o result = ShowsOrRefuses (λ parsed front. ShowsFile o parsed front) result (answer file_of o)
