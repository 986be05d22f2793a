-- The result of a script, as a reading of its base finds it line by line (own).
use Rattle.std.specs.Prelude.{◌≡◌, ℕ, suc, ◌+◌, ◌≤◌, Bool, true, false, not, ◌||◌, List, [], ◌∷◌, ◌++◌, length, drop}
use Rattle.std.specs.Prelude.{Option, None, Some, Result, Ok, Err, if◌then◌else◌}
use Rattle.std.specs.List.{list_any}
use Rattle.std.specs.Str.{bytes_eq}
use Rattle.sccs_base.specs.Cut.{text_of}
use Rattle.sccs_grammar.specs.declared.faults.FileFault.{FileFault}
use Rattle.sccs_history.specs.Numbers.{front_if, has}
use Rattle.sccs_history.specs.Body.{HistoryLine}
use Rattle.sccs_script_laws.specs.Plans.{added_after}
use Rattle.sccs_script_laws.specs.declared.scripts.Plan.{Plan}
use Rattle.sccs_keywords.specs.Keywords.{is_keyword, parts}
use Rattle.sccs_table.specs.ReaderState.{StandsIn}
use Rattle.sccs_splicer.specs.PlanPlaces.{Passed}
use Rattle.sccs_versions.specs.Coming.{Coming}
use Rattle.sccs_versions.specs.Place.{VersionPlace}
use Rattle.sccs_copies.specs.Copies.{IsFaultAroundCopy}
use Rattle.sccs_copies.specs.declared.result_checks.ResultCheck.{ResultCheck}
use Rattle.sccs_copies.specs.declared.examining.Found.{Found}

-- ---- the result of a plan

-- what becomes of a line of the base: it stays, unless it is deleted, and new lines follow
abbrev pub line_result : Plan → ℕ → List ℕ → List (List ℕ)
line_result p k line = front_if (not (has p.deleted k)) line (added_after k p.added)

-- what becomes of the lines behind line k
abbrev pub result_from : Plan → ℕ → List (List ℕ) → List (List ℕ)
result_from p k [] = []
result_from p k (line ∷ lines) = line_result p (suc k) line ++ result_from p (suc k) lines

-- what a plan makes of its base
abbrev pub result_of : Plan → List (List ℕ) → List (List ℕ)
result_of p lines = added_after 0 p.added ++ result_from p 0 lines

-- ---- what is looked for in it

-- the line has a keyword
abbrev pub has_keyword : List ℕ → Bool
has_keyword line = list_any is_keyword (parts line)

-- The number, from 1, of the first line at which two texts differ, or the number of lines of the shorter one plus 1,
-- where so many lines before were equal; none where the texts are equal.
abbrev pub first_difference : ℕ → List (List ℕ) → List (List ℕ) → Option ℕ
first_difference k [] [] = None
first_difference k [] (b ∷ others) = Some (suc k)
first_difference k (a ∷ rest) [] = Some (suc k)
first_difference k (a ∷ rest) (b ∷ others) = if bytes_eq a b then first_difference (suc k) rest others else Some (suc k)

-- ---- a reading

-- Before all lines of a text, which is compared with a g-file or not.
pub record IsBefore (g : List ℕ) (compared : Bool) (s : ResultCheck) : Type 0 where
  pub keyword : s.keyword ≡ false
  pub compares : s.compares ≡ compared
  pub lines : s.lines ≡ record { name = g; held = []; place = 0; limit = 1073741825; sum = 0 }
  pub over : s.over ≡ false
  pub number : s.number ≡ 0
  pub differs : s.differs ≡ None

-- These lines of a told g-file are to come.
abbrev pub LinesLeft : List ℕ → ResultCheck → List (List ℕ) → Bool → Type 0
LinesLeft file s rest true = rest ≡ []
LinesLeft file s rest false = StandsIn s.lines file × (rest ≡ text_of (drop s.lines.place file))

pub record GComes (file : List ℕ) (s : ResultCheck) (rest : List (List ℕ)) : Type 0 where
  pub left : LinesLeft file s rest s.over
  pub few : s.number + length rest ≤ 1073741825

-- the first difference, where one was found or more lines are to be compared
abbrev pub difference : Option ℕ → ℕ → List (List ℕ) → List (List ℕ) → Option ℕ
difference (Some k) n lines others = Some k
difference None n lines others = first_difference n lines others

-- Of a told g-file some lines went by, and what is left is compared with what follows.
pub record ComparesOn (file : List ℕ) (lines : List (List ℕ)) (s s2 : ResultCheck) (rest : List (List ℕ)) : Type 0 where
  pub left : List (List ℕ)
  pub comes : GComes file s2 left
  pub same : (more : List (List ℕ)) → difference s2.differs s2.number more left ≡ difference s.differs s.number
      (lines ++ more) rest

-- Lines of the result went by.
pub record SeesLines (told : Option (List ℕ)) (lines : List (List ℕ)) (s s2 : ResultCheck) : Type 0 where
  pub keyword : s2.keyword ≡ (s.keyword || list_any has_keyword lines)
  pub compares : s2.compares ≡ s.compares
  pub name : s2.lines.name ≡ s.lines.name
  pub compared : (file : List ℕ) (rest : List (List ℕ)) → told ≡ Some file → s.compares ≡ true → GComes file s rest
      → ComparesOn file lines s s2 rest

-- lines went by; or it was no fault of a file that was read
abbrev pub SeesAll : Option (List ℕ) → List (List ℕ) → ResultCheck → ResultCheck → {T : Type 0} → Result T FileFault
    → Type 0
SeesAll told lines s s2 (Ok done) = SeesLines told lines s s2
SeesAll told lines s s2 (Err fault) = IsFaultAroundCopy fault

-- the next line of a told g-file, and others are to come; or none is left
pub record ComesFirst (file line : List ℕ) (s : ResultCheck) (rest : List (List ℕ)) : Type 0 where
  pub more : List (List ℕ)
  pub whole : rest ≡ line ∷ more
  pub left : LinesLeft file s more s.over

abbrev pub GivesGLine : List ℕ → ResultCheck → List (List ℕ) → List ℕ → Bool → Type 0
GivesGLine file s rest line true = ComesFirst file line s rest
GivesGLine file s rest line false = (rest ≡ []) × (s.over ≡ true)

-- their texts
abbrev pub line_texts : List HistoryLine → List (List ℕ)
line_texts [] = []
line_texts (line ∷ lines) = line.text ∷ line_texts lines

-- ---- what is found

-- What a reading found of the result of a plan: how many lines the base has, whether a line of the result has a
-- keyword, and where a g-file that is compared differs.
pub record FindsResult (g : Option (List ℕ)) (p : Plan) (base : List (List ℕ)) (compares : Bool) (found : Found) : Type
    0 where
  pub lines : found.lines ≡ length base
  pub keyword : found.keyword ≡ list_any has_keyword (result_of p base)
  pub differs : (file : List ℕ) → g ≡ Some file → length file ≤ 1073741824 → compares ≡ true
      → found.differs ≡ first_difference 0 (result_of p base) (text_of file)

abbrev pub Examines : Option (List ℕ) → Plan → List (List ℕ) → Bool → Result Found FileFault → Type 0
Examines g p base compares (Ok found) = FindsResult g p base compares found
Examines g p base compares (Err fault) = IsFaultAroundCopy fault

-- Some lines of the base went by, and others are to come.
pub record ExaminesSome (file : List ℕ) (r : VersionPlace) (g : Option (List ℕ)) (lines : List HistoryLine)
    (at at2 : Passed) (s s2 : ResultCheck) : Type 0 where
  pub first : List HistoryLine
  pub rest : List HistoryLine
  pub whole : lines ≡ first ++ rest
  pub sees : SeesLines g (result_from at.plan at.line (line_texts first)) s s2
  pub line : at2.line ≡ at.line + length first
  pub on : Coming file r rest

-- All of them went by.
pub record ExaminesWhole (g : Option (List ℕ)) (lines : List HistoryLine) (at at2 : Passed) (s s2 : ResultCheck) : Type
    0 where
  pub sees : SeesLines g (result_from at.plan at.line (line_texts lines)) s s2
  pub line : at2.line ≡ at.line + length lines

abbrev pub ExaminesNext : List ℕ → VersionPlace → Option (List ℕ) → List HistoryLine → Passed → Passed → ResultCheck
    → ResultCheck → Result Bool FileFault → Type 0
ExaminesNext file r g lines at at2 s s2 (Ok true) = ExaminesSome file r g lines at at2 s s2
ExaminesNext file r g lines at at2 s s2 (Ok false) = ExaminesWhole g lines at at2 s s2
ExaminesNext file r g lines at at2 s s2 (Err fault) = IsFaultAroundCopy fault

abbrev pub ExaminesAll : Option (List ℕ) → List HistoryLine → Passed → Passed → ResultCheck → ResultCheck
    → Result (Unit {0}) FileFault → Type 0
ExaminesAll g lines at at2 s s2 (Ok done) = ExaminesWhole g lines at at2 s s2
ExaminesAll g lines at at2 s s2 (Err fault) = IsFaultAroundCopy fault

-- ---- what stays

-- What was found stays, and the g-file is the same.
pub record KeepsFound (c c2 : ResultCheck) : Type 0 where
  pub keyword : c2.keyword ≡ c.keyword
  pub compares : c2.compares ≡ c.compares
  pub name : c2.lines.name ≡ c.lines.name
  pub number : c2.number ≡ c.number
  pub differs : c2.differs ≡ c.differs

-- Nothing is read of the g-file, and no keyword found.
pub record KeepsLines (c c2 : ResultCheck) : Type 0 where
  pub keyword : c2.keyword ≡ c.keyword
  pub compares : c2.compares ≡ c.compares
  pub lines : c2.lines ≡ c.lines
  pub over : c2.over ≡ c.over
