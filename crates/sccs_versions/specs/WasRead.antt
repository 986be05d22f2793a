-- What was read of a body, whatever the disk tells. Items stand nearest first.
use Rattle.std.specs.Prelude.{◌≡◌, ℕ, true, List, [], ◌∷◌, ◌++◌, map, Result, Ok, Err}
use Rattle.std.specs.List.{AllByRecursion}
use Rattle.sccs_history.specs.Body.{HistoryLine, is_over, line_at, may_stand}
use Rattle.sccs_history.specs.declared.headers.Item.{Item}
use Rattle.sccs_history.specs.declared.headers.Item.TheVariants.{Text, Insert, Delete, End}
use Rattle.sccs_grammar.specs.declared.faults.FileFault.{FileFault}
use Rattle.sccs_body.specs.ItemsRead.{IsBehind}
use Rattle.sccs_versions.specs.Regions.{Holds}
use Rattle.sccs_versions.specs.declared.regions.Region.{Region}
use Rattle.sccs_versions.specs.Coming.{shown}
use Rattle.sccs_versions.specs.Place.{IsInserter, VersionPlace}
use Rattle.sccs_versions.specs.declared.readers.Next.{Next}
use Rattle.sccs_versions.specs.declared.readers.Next.TheVariants as next

-- their lines
abbrev pub lines_before : List Item → List HistoryLine
lines_before [] = []
lines_before (Text text ∷ before) = lines_before before ++ line_at before text ∷ []
lines_before (Insert n ∷ before) = lines_before before
lines_before (Delete n ∷ before) = lines_before before
lines_before (End n ∷ before) = lines_before before

-- those that a set shows, and their text
abbrev pub shown_before : List ℕ → List Item → List HistoryLine
shown_before set before = shown set (lines_before before)

-- each of them may stand where it does
abbrev pub Stood : List ℕ → List Item → Type 0
Stood live [] = Unit {0}
Stood live (item ∷ before) = (may_stand live before item ≡ true) × Stood live before

-- The reader stands behind these items.
pub record HasRead (live : List ℕ) (r : VersionPlace) (before : List Item) : Type 0 where
  pub stood : Stood live before
  pub behind : IsBehind live before r.items
  pub holds : Holds r.set before r.regions

-- The reader went on behind more items, of which lines with these texts were shown; the delta of the regions inserted
-- them.
pub record ReadsOn (live : List ℕ) (r : VersionPlace) (regions : List Region) (before : List Item)
    (texts : List (List ℕ)) : Type 0 where
  pub items : List Item
  pub read : HasRead live r items
  pub first : List HistoryLine
  pub whole : shown_before r.set items ≡ shown_before r.set before ++ first
  pub texts_are : map (λ (line : HistoryLine). line.text) first ≡ texts
  pub inserted : (n : ℕ) → IsInserter regions n → AllByRecursion (λ (line : HistoryLine). line.inserter ≡ n) first

-- Nothing more was shown, and the items are a whole body.
pub record ReadsAll (live set : List ℕ) (before : List Item) : Type 0 where
  pub items : List Item
  pub stood : Stood live items
  pub over : is_over items ≡ true
  pub whole : shown_before set items ≡ shown_before set before

-- what is read of a body when the reader goes on
abbrev pub ReadsNext : List ℕ → VersionPlace → List Item → Result Next FileFault → Type 0
ReadsNext live r before (Ok (next.Line text)) = ReadsOn live r r.regions before (text ∷ [])
ReadsNext live r before (Ok next.Hidden) = ReadsOn live r r.regions before []
ReadsNext live r before (Ok next.End) = ReadsAll live r.set before
ReadsNext live r before (Err fault) = Unit {0}
