-- Tables without branches, removals and lists, and what their newest version shows.
use Rattle.std.specs.Prelude.{◌≡◌, ℕ, Bool, true, false, List, [], ◌∷◌}
use Rattle.sccs_history.specs.Numbers.{is_empty, front_if}
use Rattle.sccs_history.specs.Body.{HistoryLine}
use Rattle.sccs_history.specs.Applied.{newest}
use Rattle.sccs_history.specs.declared.headers.Record.{Record}
use Rattle.sccs_history.specs.declared.headers.Item.{Item}
use Rattle.sccs_history.specs.declared.headers.Item.TheVariants.{Text, Insert, Delete, End}

-- a live record that takes in and leaves out nothing
pub record IsPlainRecord (r : Record) : Type 0 where
  pub live : r.removed ≡ false
  pub include : r.include ≡ []
  pub exclude : r.exclude ≡ []

-- each record is plain, and its predecessor is the next one, 0 for the last
abbrev pub IsLinear : List Record → Type 0
IsLinear [] = Unit {0}
IsLinear (r ∷ rs) = IsPlainRecord r × ((r.predecessor ≡ newest rs) × IsLinear rs)

-- the texts of the lines that no delta deleted
abbrev pub undeleted : List HistoryLine → List (List ℕ)
undeleted [] = []
undeleted (line ∷ lines) = front_if (is_empty line.deleters) line.text (undeleted lines)

-- no item is a Delete
abbrev pub has_no_delete : List Item → Bool
has_no_delete [] = true
has_no_delete (Text text ∷ items) = has_no_delete items
has_no_delete (Insert n ∷ items) = has_no_delete items
has_no_delete (Delete n ∷ items) = false
has_no_delete (End n ∷ items) = has_no_delete items

-- the texts of the text items
abbrev pub texts_of : List Item → List (List ℕ)
texts_of [] = []
texts_of (Text text ∷ items) = text ∷ texts_of items
texts_of (Insert n ∷ items) = texts_of items
texts_of (Delete n ∷ items) = texts_of items
texts_of (End n ∷ items) = texts_of items
