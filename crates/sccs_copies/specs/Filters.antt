-- What a filter makes of the items of a body, on their way from a reader to a writer.
use Rattle.std.specs.Prelude.{◌≡◌, ℕ, Bool, List, [], ◌∷◌, ◌++◌, map, Option, None, Some, option_map, Result, IfOk}
use Rattle.std.specs.Prelude.{OnOk, if◌then◌else◌}
use Rattle.sccs_disk.specs.Told.{Told}
use Rattle.sccs_disk.specs.declared.disks.DiskRefusal.{DiskRefusal}
use Rattle.sccs_history.specs.declared.headers.Item.{Item}
use Rattle.sccs_history.specs.declared.headers.Item.TheVariants.{Text}
use Rattle.sccs_body.specs.ItemsRead.{texts_behind}
use Rattle.sccs_writers.specs.Puts.{PutsText, Writer}
use Rattle.sccs_writers.specs.Spelled.{spelled}

-- A filter stands behind the items that it took, the last one first, and has an output for the items that are to come
-- behind them:
-- what is still to be put, or none where it refuses the body.
pub record Filter (F : Type 0) : Type 1 where
  pub stands : F → List Item → Type 0
  pub output : F → List Item → List Item → Option (List Item)

-- an output with items before it
abbrev pub items_before : List Item → Option (List Item) → Option (List Item)
items_before items output = option_map (λ rest. items ++ rest) output

-- Items were taken behind others: what was put for them and the output then are the output that was.
pub record Filters {F : Type 0} (filter : Filter F) (before after taken put : List Item) (f f2 : F) : Type 0 where
  pub behind : filter.stands f2 after
  pub goes : (rest : List Item) → items_before put (filter.output f2 after rest)
      ≡ filter.output f before (taken ++ rest)

-- A call that takes the next item.
pub record TakesItem {F T : Type 0} (filter : Filter F) (item : Item) (f f2 : F) (w w2 : Writer) (old new : Told)
    (faults faults_after : ℕ) (result : Result T DiskRefusal) : Type 0 where
  pub items : List Item
  pub puts : PutsText (spelled items) w w2 old new faults faults_after result
  pub filters : OnOk result ((before : List Item) → filter.stands f before → Filters filter before (item ∷ before)
      (item ∷ []) items f f2)

-- Text lines that stand together come next, and the filter stays as it is: all of them are put, or none.
abbrev pub PassesTexts : {F : Type 0} → Filter F → F → Bool → Type 0
PassesTexts filter f puts = (before : List Item) (lines : List (List ℕ)) → filter.stands f before
    → Filters filter before (texts_behind lines before) (map Text lines) (if puts then map Text lines else []) f f

-- A call behind the last item: what is left is put; false where the filter refuses the body.
pub record Finishes {F : Type 0} (filter : Filter F) (f : F) (w w2 : Writer) (old new : Told) (faults faults_after : ℕ)
    (result : Result Bool DiskRefusal) : Type 0 where
  pub items : List Item
  pub puts : PutsText (spelled items) w w2 old new faults faults_after result
  pub ends : IfOk result (λ accepts. (before : List Item) → filter.stands f before → filter.output f before []
      ≡ (if accepts then Some items else None))

-- the filter that leaves each item as it is
abbrev pub identity : {F : Type 0} → Filter F
identity = record { stands = λ f before. Unit {0}; output = λ f before items. Some items }
