-- Where the items of a new delta stand among those of a body. An item of the old body has with it whether it is a
-- line of the base.
use Rattle.std.specs.Prelude.{ℕ, suc, Bool, true, false, not, ◌&&◌, List, [], ◌∷◌, ◌++◌, length, map}
use Rattle.sccs_history.specs.Numbers.{front_if, has, is_empty}
use Rattle.sccs_history.specs.Body.{line_at, lines_of}
use Rattle.sccs_history.specs.Select.{select, shows}
use Rattle.sccs_history.specs.declared.headers.Item.{Item}
use Rattle.sccs_history.specs.declared.headers.Item.TheVariants.{Text, Insert, Delete, End}
use Rattle.sccs_script_laws.specs.Plans.{added_after, plan}
use Rattle.sccs_script_laws.specs.declared.scripts.Order.{Order}
use Rattle.sccs_script_laws.specs.declared.scripts.Plan.{Plan}

-- whether the next text item is a line of the base
abbrev pub visible_next : List (Item × Bool) → Bool
visible_next [] = false
visible_next ((Text text, visible) ∷ told) = visible
visible_next ((Insert m, visible) ∷ told) = visible_next told
visible_next ((Delete m, visible) ∷ told) = visible_next told
visible_next ((End m, visible) ∷ told) = visible_next told

-- new lines between their control items
abbrev pub block : ℕ → List (List ℕ) → List Item
block n [] = []
block n (text ∷ texts) = Insert n ∷ (map Text (text ∷ texts) ++ End n ∷ [])

-- Whether the region of a deleted line k goes on to the next one: no new lines stand between them, no text item does,
-- and it is deleted too.
abbrev pub joins : Plan → ℕ → List (Item × Bool) → Bool
joins p k told = has p.deleted k && (is_empty (added_after k p.added) && (has p.deleted (suc k) && visible_next told))

-- The items with those that a plan adds for a serial, where the last base line before had number k. Where `joined`, a
-- region of `Delete n` is open.
abbrev pub spread : Plan → ℕ → Bool → ℕ → List (Item × Bool) → List Item
spread p n joined k [] = []
spread p n joined k ((Text text, false) ∷ told) = Text text ∷ spread p n false k told
spread p n joined k ((Text text, true) ∷ told) =
    front_if (has p.deleted (suc k) && not joined) (Delete n)
    (Text text ∷ front_if (has p.deleted (suc k) && not (joins p (suc k) told)) (End n)
    (block n (added_after (suc k) p.added) ++ spread p n (joins p (suc k) told) (suc k) told))
spread p n joined k ((Insert m, visible) ∷ told) = Insert m ∷ spread p n joined k told
spread p n joined k ((Delete m, visible) ∷ told) = Delete m ∷ spread p n joined k told
spread p n joined k ((End m, visible) ∷ told) = End m ∷ spread p n joined k told

-- the items with those of a plan
abbrev pub spliced : Plan → ℕ → List (Item × Bool) → List Item
spliced p n told = block n (added_after 0 p.added) ++ spread p n false 0 told

-- the items behind others, each with whether it is a line that the set shows
abbrev pub told_behind : List ℕ → List Item → List Item → List (Item × Bool)
told_behind set before [] = []
told_behind set before (Text text ∷ items) = (Text text, shows set (line_at before text)) ∷ told_behind set
    (Text text ∷ before) items
told_behind set before (Insert m ∷ items) = (Insert m, false) ∷ told_behind set (Insert m ∷ before) items
told_behind set before (Delete m ∷ items) = (Delete m, false) ∷ told_behind set (Delete m ∷ before) items
told_behind set before (End m ∷ items) = (End m, false) ∷ told_behind set (End m ∷ before) items

-- the items of a body with those of a script, for a serial above all others
abbrev pub places : List Item → List ℕ → List Order → ℕ → List Item
places items set orders n = spliced (plan orders (length (select set (lines_of items)))) n (told_behind set [] items)
