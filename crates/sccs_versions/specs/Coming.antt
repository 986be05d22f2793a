-- The lines that a reader of a version is still to give.
use Rattle.std.specs.Prelude.{◌≡◌, ℕ, true, false, List, [], ◌∷◌, ◌++◌, map, Option, Some, Result, Ok, Err}
use Rattle.std.specs.List.{AllByRecursion}
use Rattle.sccs_base.specs.Cut.{cut}
use Rattle.sccs_history.specs.Numbers.{front_if, has}
use Rattle.sccs_history.specs.Body.{HistoryLine, line_at, lines_behind}
use Rattle.sccs_history.specs.Select.{shows}
use Rattle.sccs_history.specs.declared.headers.Item.{Item}
use Rattle.sccs_history.specs.declared.headers.Item.TheVariants.{Text}
use Rattle.sccs_tokens.specs.Written.{ended}
use Rattle.sccs_grammar.specs.declared.faults.FileFault.{FileFault}
use Rattle.sccs_grammar.specs.declared.faults.FileFault.TheVariants.{Failed, Memory}
use Rattle.sccs_table.specs.declared.fronts.Front.{Front}
use Rattle.sccs_body.specs.BodyFile.{items_of}
use Rattle.sccs_body.specs.ToCome.{IsFrontFor, ToCome}
use Rattle.sccs_versions.specs.Regions.{Holds}
use Rattle.sccs_versions.specs.declared.regions.Region.{Region}
use Rattle.sccs_versions.specs.Place.{IsInserter, VersionPlace}
use Rattle.sccs_versions.specs.declared.readers.Next.{Next}
use Rattle.sccs_versions.specs.declared.readers.Next.TheVariants.{Line, Hidden, End}

-- the lines that a set shows
abbrev pub shown : List ℕ → List HistoryLine → List HistoryLine
shown set [] = []
shown set (line ∷ lines) = front_if (shows set line) line (shown set lines)

-- the texts of lines, each with its LF
abbrev pub text_of_lines : List HistoryLine → List ℕ
text_of_lines [] = []
text_of_lines (line ∷ lines) = ended line.text ++ text_of_lines lines

-- The reader stands in a file's body behind some items, and the set shows these of the lines behind them.
pub record Coming (file : List ℕ) (r : VersionPlace) (lines : List HistoryLine) : Type 0 where
  pub live : List ℕ
  pub before : List Item
  pub rest : List Item
  pub holds : Holds r.set before r.regions
  pub comes : ToCome file live before (Ok rest) r.items
  pub lines_are : lines ≡ shown r.set (lines_behind before rest)

-- Of the lines to come those of a text are the first, and the delta of the place inserted them.
pub record StandFirst (r : VersionPlace) (text : List ℕ) (lines : List HistoryLine) : Type 0 where
  pub first : List HistoryLine
  pub rest : List HistoryLine
  pub whole : lines ≡ first ++ rest
  pub text_is : text ≡ text_of_lines first
  pub lines_are : map (λ (line : HistoryLine). line.text) first ≡ (cut text).lines
  pub inserted : (n : ℕ) → IsInserter r.regions n → AllByRecursion (λ (line : HistoryLine). line.inserter ≡ n) first

-- The same, and the reader stands before the others.
pub record ComeFirst (file : List ℕ) (r r2 : VersionPlace) (text : List ℕ) (lines : List HistoryLine) : Type 0 where
  pub stand : StandFirst r text lines
  pub on : Coming file r2 stand.rest

-- The next line to come has this text, the delta of the place inserted it, and others follow.
pub record ComesNext (file : List ℕ) (r : VersionPlace) (text : List ℕ) (lines : List HistoryLine) : Type 0 where
  pub line : HistoryLine
  pub rest : List HistoryLine
  pub whole : lines ≡ line ∷ rest
  pub text_is : line.text ≡ text
  pub inserted : (n : ℕ) → IsInserter r.regions n → line.inserter ≡ n
  pub on : Coming file r rest

-- the next line comes; or an item of which nothing is shown; or no line is to come
abbrev pub GivesNextLine : List ℕ → VersionPlace → List HistoryLine → Result Next FileFault → Type 0
GivesNextLine file r lines (Ok (Line text)) = ComesNext file r text lines
GivesNextLine file r lines (Ok Hidden) = Coming file r lines
GivesNextLine file r lines (Ok End) = lines ≡ []
GivesNextLine file r lines (Err Failed) = Unit {0}
GivesNextLine file r lines (Err Memory) = Unit {0}
GivesNextLine file r lines (Err _) = ⊥

-- what the next item shows of itself, where the regions were those behind other items
abbrev pub ShowsItem : List ℕ → List Item → Item → List Region → Result Next FileFault → Type 0
ShowsItem set before item regions (Ok (Line text)) = Holds set (item ∷ before) regions × (item ≡ Text text)
    × (shows set (line_at before text) ≡ true)
ShowsItem set before item regions (Ok Hidden) = Holds set (item ∷ before) regions
    × (shown set (lines_behind before (item ∷ [])) ≡ [])
ShowsItem set before item regions (Ok End) = ⊥
ShowsItem set before item regions (Err Memory) = Unit {0}
ShowsItem set before item regions (Err _) = ⊥

-- The file is told whole, a front was read from it, its body has these items, and serial 0 isn't in the set.
pub record IsBody (told : Option (List ℕ)) (front : Front) (set file : List ℕ) (items : List Item) : Type 0 where
  pub told_is : told ≡ Some file
  pub front_is : IsFrontFor file front
  pub items_are : items_of file front ≡ Ok items
  pub no_zero : has set 0 ≡ false
