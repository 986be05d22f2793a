-- Whether the lines of a version have keywords.
use Rattle.std.specs.Prelude.{◌≡◌, ℕ, Bool, List, [], ◌++◌, Option, None, Some, Result, Ok, Err}
use Rattle.sccs_history.specs.Body.{HistoryLine}
use Rattle.sccs_sid.specs.declared.refusals.StepFault.{StepFault}
use Rattle.sccs_keywords.specs.Forms.{has_keywords, texts}
use Rattle.sccs_versions.specs.Coming.{Coming}
use Rattle.sccs_versions.specs.Place.{VersionPlace}
use Rattle.sccs_printing.specs.Printing.{IsFaultAroundPrint}

-- Some of the lines were searched, and the reader stands before the others.
pub record Searched (file : List ℕ) (r : VersionPlace) (lines : List HistoryLine) (some : Bool) : Type 0 where
  pub gone : List HistoryLine
  pub rest : List HistoryLine
  pub whole : lines ≡ gone ++ rest
  pub found : some ≡ has_keywords (texts gone)
  pub on : Coming file r rest

-- the same of the next line, or of the end
abbrev pub SearchesNextLine : List ℕ → VersionPlace → List HistoryLine → Result (Option Bool) StepFault → Type 0
SearchesNextLine file r lines (Ok (Some some)) = Searched file r lines some
SearchesNextLine file r lines (Ok None) = lines ≡ []
SearchesNextLine file r lines (Err fault) = IsFaultAroundPrint fault

-- exactly where a line has one; of a told file only the disk or memory can keep it from an answer
abbrev pub SearchesKeywords : List HistoryLine → Result Bool StepFault → Type 0
SearchesKeywords lines (Ok some) = some ≡ has_keywords (texts lines)
SearchesKeywords lines (Err fault) = IsFaultAroundPrint fault
