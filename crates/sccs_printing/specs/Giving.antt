-- How the lines of a version are given, in turns.
use Rattle.std.specs.Prelude.{◌≡◌, ℕ, ◌+◌, Bool, true, false, List, ◌++◌, Option, IfSome, Result, Ok, Err}
use Rattle.sccs_base.specs.Stream.{Buffers}
use Rattle.sccs_history.specs.Body.{HistoryLine, is_over}
use Rattle.sccs_history.specs.declared.headers.Item.{Item}
use Rattle.sccs_sid.specs.declared.refusals.StepFault.{StepFault}
use Rattle.sccs_keywords.specs.Forms.{LineForm, line_form, formed_text, texts}
use Rattle.sccs_versions.specs.Coming.{Coming}
use Rattle.sccs_versions.specs.Place.{VersionPlace, name_of}
use Rattle.sccs_versions.specs.WasRead.{HasRead, Stood, shown_before}
use Rattle.sccs_printing.specs.Counted.{with_lines}
use Rattle.sccs_disk.specs.Told.{Told}
use Rattle.sccs_keywords.specs.Expansion.{HasMoments}
use Rattle.sccs_printing.specs.Targets.{CanTake, GivesTo, file_of, held_back}
use Rattle.sccs_printing.specs.declared.givings.Giving.{Giving}

-- the form in which lines are given
abbrev pub giving_form : Giving → LineForm
giving_form g = line_form g.form.now

-- the text of lines that come next
abbrev pub text_next : Giving → List HistoryLine → List ℕ
text_next g lines = formed_text (giving_form g) g.sids (g.shown.lines + 1) lines

-- Lines can be given: a form with facts has the moments that it expands, and a target file is there.
pub record CanGive (g : Giving) (told : Told) : Type 0 where
  pub facts : IfSome (giving_form g).facts HasMoments
  pub there : CanTake (file_of g.target) told

-- The reader is that of the same version.
pub record KeepsVersion (r r2 : VersionPlace) : Type 0 where
  pub set : r2.set ≡ r.set
  pub name : name_of r2 ≡ name_of r

-- What stays from turn to turn.
pub record KeepsForm (g g2 : Giving) : Type 0 where
  pub form : giving_form g2 ≡ giving_form g
  pub sids : g2.sids ≡ g.sids
  pub file : file_of g2.target ≡ file_of g.target

-- The same of a call that counts no line.
pub record KeepsGiving (g g2 : Giving) : Type 0 where
  pub form : giving_form g2 ≡ giving_form g
  pub sids : g2.sids ≡ g.sids
  pub file : file_of g2.target ≡ file_of g.target
  pub shown : g2.shown ≡ g.shown

-- These lines were given, and counted.
pub record Gave (lines : List HistoryLine) (g g2 : Giving) (a b : Option (List ℕ)) : Type 0 where
  pub text : Buffers (held_back g.target) (text_next g lines) (held_back g2.target) a b
  pub shown : g2.shown ≡ with_lines (giving_form g) g.shown (texts lines)

-- ---- of a file that is told

-- Some of the lines were given, and the reader stands before the others.
pub record Moved (file : List ℕ) (r : VersionPlace) (lines : List HistoryLine) (g g2 : Giving)
    (a b : Option (List ℕ)) : Type 0 where
  pub gone : List HistoryLine
  pub rest : List HistoryLine
  pub whole : lines ≡ gone ++ rest
  pub gave : Gave gone g g2 a b
  pub on : Coming file r rest

-- the text of the lines was cut
abbrev pub CutsLines : List HistoryLine → StepFault → Giving → Giving → Option (List ℕ) → Option (List ℕ) → Type 0
CutsLines lines fault g g2 a b = GivesTo {T = Unit {0}} (file_of g.target) (text_next g lines) (Err fault)
    (held_back g.target) (held_back g2.target) a b

-- what a turn that gives some lines answers
abbrev pub GivesRun : List ℕ → VersionPlace → List HistoryLine → Result (Unit {0}) StepFault → Giving → Giving
    → Option (List ℕ) → Option (List ℕ) → Type 0
GivesRun file r lines (Ok done) g g2 a b = Moved file r lines g g2 a b
GivesRun file r lines (Err fault) g g2 a b = CutsLines lines fault g g2 a b

-- the same of the next line, or of the end
abbrev pub GivesMore : List ℕ → VersionPlace → List HistoryLine → Result Bool StepFault → Giving → Giving
    → Option (List ℕ) → Option (List ℕ) → Type 0
GivesMore file r lines (Ok true) g g2 a b = Moved file r lines g g2 a b
GivesMore file r lines (Ok false) g g2 a b = Gave lines g g2 a b
GivesMore file r lines (Err fault) g g2 a b = CutsLines lines fault g g2 a b

-- the same of all lines
abbrev pub GivesAll : List HistoryLine → Result (Unit {0}) StepFault → Giving → Giving → Option (List ℕ)
    → Option (List ℕ) → Type 0
GivesAll lines (Ok done) g g2 a b = Gave lines g g2 a b
GivesAll lines (Err fault) g g2 a b = CutsLines lines fault g g2 a b

-- ---- over any disk

-- Some of what was read was given, and the reader stands behind it.
pub record ReadSome (live : List ℕ) (r : VersionPlace) (before : List Item) (g g2 : Giving)
    (a b : Option (List ℕ)) : Type 0 where
  pub items : List Item
  pub read : HasRead live r items
  pub gone : List HistoryLine
  pub whole : shown_before r.set items ≡ shown_before r.set before ++ gone
  pub gave : Gave gone g g2 a b

-- All of a body was read, and what the set shows of it behind these items was given.
pub record ReadWhole (live set : List ℕ) (before : List Item) (g g2 : Giving) (a b : Option (List ℕ)) : Type 0 where
  pub items : List Item
  pub stood : Stood live items
  pub over : is_over items ≡ true
  pub gone : List HistoryLine
  pub whole : shown_before set items ≡ shown_before set before ++ gone
  pub gave : Gave gone g g2 a b

-- what was read and given by a turn that answers whether more is to come
abbrev pub ReadsMore : List ℕ → VersionPlace → List Item → Result Bool StepFault → Giving → Giving → Option (List ℕ)
    → Option (List ℕ) → Type 0
ReadsMore live r before (Ok true) g g2 a b = ReadSome live r before g g2 a b
ReadsMore live r before (Ok false) g g2 a b = ReadWhole live r.set before g g2 a b
ReadsMore live r before (Err fault) g g2 a b = Unit {0}
