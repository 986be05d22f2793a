-- What reading an s-file behind its sum line answers.
use Rattle.std.specs.Prelude.{◌≡◌, ◌⊎◌, ℕ, List, length, Result, Ok, Err}
use Rattle.sccs_grammar.specs.Front.{start}
use Rattle.sccs_grammar.specs.declared.faults.FileFault.{FileFault}
use Rattle.sccs_table.specs.ReaderState.{ReaderState}
use Rattle.sccs_table.specs.FrontFile.{ReadsLines}
use Rattle.sccs_table.specs.declared.fronts.Front.{Front}
use Rattle.sccs_body.specs.BodyFile.{ChecksFile}

-- the header's lines from where a reader stands are those of the front, and the body begins behind them; the sum is
-- open
abbrev pub IsRead : List ℕ → ReaderState → Front → Type 0
IsRead file old front =
    (last : ReaderState) × ReadsLines file old last start 2 (Ok (front.header, front.body_line))
    × (front.body_from ≡ last.place) × (front.size ≡ length file)

-- the lines from there on are a header and a whole body, or the fault is the first of the header, or of the body behind
-- a header
abbrev pub ReadsBehind : List ℕ → ReaderState → Result Front FileFault → Type 0
ReadsBehind file old (Ok front) = IsRead file old front × ChecksFile file front (Ok tt)
ReadsBehind file old (Err fault) =
    ((last : ReaderState) × ReadsLines file old last start 2 (Err fault)) ⊎ ((front : Front) × IsRead file old front
    × ChecksFile file front (Err fault))
