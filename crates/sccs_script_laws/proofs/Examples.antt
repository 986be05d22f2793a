-- The definitions tried on small scripts and bodies: each equation holds by computation.
use Rattle.std.proofs.Common.{◌≡◌, ℕ, List, [], ◌∷◌, refl}
use Rattle.sccs_history.specs.Body.{lines_of}
use Rattle.sccs_history.specs.Removal.{dropped}
use Rattle.sccs_history.specs.Samples.{text_of_one}
use Rattle.sccs_history.specs.Select.{select}
use Rattle.sccs_history.specs.declared.headers.Item.{Item}
use Rattle.sccs_history.specs.declared.headers.Item.TheVariants.{Text, Insert, Delete, End}
use Rattle.sccs_script_laws.specs.Scripts.{apply}
use Rattle.sccs_script_laws.specs.Plans.{plan}
use Rattle.sccs_script_laws.specs.Places.{places}
use Rattle.sccs_script_laws.specs.Weave.{deleted, inserted, unchanged, weave}
use Rattle.sccs_script_laws.specs.declared.scripts.Order.{Order}
use Rattle.sccs_script_laws.specs.declared.scripts.OrderKind.{OrderKind}
use Rattle.sccs_script_laws.specs.declared.scripts.OrderKind.TheVariants as kinds

abbrev order : OrderKind → ℕ → ℕ → List (List ℕ) → Order
order kind first last lines = record { kind = kind; line = 1; first = first; last = last; lines = lines }

-- seven lines, of which a hidden one stands between the fifth and the sixth
abbrev seven : List Item
seven =
    Insert 1 ∷ Text (text_of_one 1) ∷ Text (text_of_one 2) ∷ Text (text_of_one 3) ∷ Text (text_of_one 4) ∷ Text
    (text_of_one 5) ∷ Insert 2 ∷ Text (text_of_one 104) ∷ End 2 ∷ Text (text_of_one 6) ∷ Text (text_of_one 7)
    ∷ End 1 ∷ []

-- from the end of the text: 5,6c X, 3d, 0a T
abbrev downward : List Order
downward = order kinds.Change 5 6 (text_of_one 88 ∷ []) ∷ order kinds.Delete 3 3 [] ∷ order kinds.Append 0 0
    (text_of_one 84 ∷ []) ∷ []

abbrev seven_placed : List Item
seven_placed =
    Insert 3 ∷ Text (text_of_one 84) ∷ End 3 ∷ Insert 1 ∷ Text (text_of_one 1) ∷ Text (text_of_one 2) ∷ Delete 3 ∷ Text
    (text_of_one 3) ∷ End 3 ∷ Text (text_of_one 4) ∷ Insert 3 ∷ Text (text_of_one 88) ∷ End 3
    ∷ Delete 3 ∷ Text (text_of_one 5) ∷ End 3 ∷ Insert 2 ∷ Text (text_of_one 104) ∷ End 2 ∷ Delete 3 ∷ Text
    (text_of_one 6) ∷ End 3 ∷ Text (text_of_one 7) ∷ End 1 ∷ []

seven_items : places seven (1 ∷ []) downward 3 ≡ seven_placed
seven_items = refl

seven_woven : lines_of seven_placed ≡ weave (1 ∷ []) 3 downward (lines_of seven)
seven_woven = refl

seven_text : apply downward (select (1 ∷ []) (lines_of seven)) ≡ text_of_one 84 ∷ text_of_one 1 ∷ text_of_one 2
    ∷ text_of_one 4 ∷ text_of_one 88 ∷ text_of_one 7 ∷ []
seven_text = refl

seven_back : dropped 3 seven_placed ≡ seven
seven_back = refl

seven_inserted : inserted 3 (lines_of seven_placed) ≡ 2
seven_inserted = refl

seven_deleted : deleted 3 (lines_of seven_placed) ≡ 3
seven_deleted = refl

seven_unchanged : unchanged (1 ∷ []) 3 (lines_of seven_placed) ≡ 4
seven_unchanged = refl

seven_plan : plan downward 7
    ≡ record {
      deleted = 3 ∷ 5 ∷ 6 ∷ [];
      added = record { after = 0; lines = text_of_one 84 ∷ [] }
          ∷ record { after = 4; lines = text_of_one 88 ∷ [] } ∷ [];
    }
seven_plan = refl

-- the lines of one delta
abbrev three : List Item
three = Insert 1 ∷ Text (text_of_one 1) ∷ Text (text_of_one 2) ∷ Text (text_of_one 3) ∷ End 1 ∷ []

-- 1a X, 1d, 1d: the new line goes again
abbrev taken_back : List Order
taken_back = order kinds.Append 1 1 (text_of_one 88 ∷ []) ∷ order kinds.Delete 1 1 [] ∷ order kinds.Delete 1 1 [] ∷ []

taken_back_items : places three (1 ∷ []) taken_back 2 ≡ Insert 1 ∷ Delete 2 ∷ Text (text_of_one 1) ∷ End 2 ∷ Text
    (text_of_one 2) ∷ Text (text_of_one 3) ∷ End 1 ∷ []
taken_back_items = refl

taken_back_woven : lines_of (places three (1 ∷ []) taken_back 2) ≡ weave (1 ∷ []) 2 taken_back (lines_of three)
taken_back_woven = refl

taken_back_inserted : inserted 2 (weave (1 ∷ []) 2 taken_back (lines_of three)) ≡ 0
taken_back_inserted = refl

taken_back_deleted : deleted 2 (weave (1 ∷ []) 2 taken_back (lines_of three)) ≡ 1
taken_back_deleted = refl

taken_back_unchanged : unchanged (1 ∷ []) 2 (weave (1 ∷ []) 2 taken_back (lines_of three)) ≡ 2
taken_back_unchanged = refl

-- 1a X, 1d, 2a Y: X stays behind the deleted line, and Y stands behind the second
abbrev upward : List Order
upward = order kinds.Append 1 1 (text_of_one 88 ∷ []) ∷ order kinds.Delete 1 1 [] ∷ order kinds.Append 2 2
    (text_of_one 89 ∷ []) ∷ []

upward_items : places three (1 ∷ []) upward 2
    ≡ Insert 1 ∷ Delete 2 ∷ Text (text_of_one 1) ∷ End 2 ∷ Insert 2 ∷ Text (text_of_one 88) ∷ End 2 ∷ Text
    (text_of_one 2) ∷ Insert 2 ∷ Text (text_of_one 89) ∷ End 2 ∷ Text (text_of_one 3) ∷ End 1 ∷ []
upward_items = refl

upward_woven : lines_of (places three (1 ∷ []) upward 2) ≡ weave (1 ∷ []) 2 upward (lines_of three)
upward_woven = refl

upward_inserted : inserted 2 (weave (1 ∷ []) 2 upward (lines_of three)) ≡ 2
upward_inserted = refl

upward_deleted : deleted 2 (weave (1 ∷ []) 2 upward (lines_of three)) ≡ 1
upward_deleted = refl

upward_unchanged : unchanged (1 ∷ []) 2 (weave (1 ∷ []) 2 upward (lines_of three)) ≡ 2
upward_unchanged = refl

-- 1d and then 0a Y: what is put before all stands before the deleted line
abbrev before_deleted : List Order
before_deleted = order kinds.Delete 1 1 [] ∷ order kinds.Append 0 0 (text_of_one 89 ∷ []) ∷ []

before_deleted_plan : plan before_deleted 3
    ≡ record { deleted = 1 ∷ []; added = record { after = 0; lines = text_of_one 89 ∷ [] } ∷ [] }
before_deleted_plan = refl

-- two deleted lines side by side share their control items
both_deleted : places three (1 ∷ []) (order kinds.Delete 1 2 [] ∷ []) 2
    ≡ Insert 1 ∷ Delete 2 ∷ Text (text_of_one 1) ∷ Text (text_of_one 2) ∷ End 2 ∷ Text (text_of_one 3) ∷ End 1 ∷ []
both_deleted = refl
