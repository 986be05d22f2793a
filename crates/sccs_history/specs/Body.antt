-- The lines of a body, and the rules that its items keep. Items before a place stand nearest first.
use Rattle.std.specs.Prelude.{◌≡◌, ℕ, suc, ◌<◌, max, nat_lt, ◌==◌, Bool, true, false, not, ◌&&◌, List, [], ◌∷◌}
use Rattle.std.specs.Prelude.{if◌then◌else◌}
use Rattle.std.specs.List.{AllByRecursion}
use Rattle.sccs_history.specs.Numbers.{is_empty, falling, first, has, IsFalling}
use Rattle.sccs_history.specs.declared.headers.Item.{Item}
use Rattle.sccs_history.specs.declared.headers.Item.TheVariants.{Text, Insert, Delete, End}

-- A line of a history: its text, the serial that inserted it, and those that deleted it, greatest first.
pub record HistoryLine : Type 0 where
  pub text : List ℕ
  pub inserter : ℕ
  pub deleters : List ℕ

-- how a serial stands at a place of a body
pub data Mark : Type 0 where
  Closed : Mark
  ByInsert : Mark
  ByDelete : Mark

abbrev pub is_closed : Mark → Bool
is_closed Closed = true
is_closed ByInsert = false
is_closed ByDelete = false

abbrev pub is_insert : Mark → Bool
is_insert Closed = false
is_insert ByInsert = true
is_insert ByDelete = false

abbrev pub is_delete : Mark → Bool
is_delete Closed = false
is_delete ByInsert = false
is_delete ByDelete = true

-- what the last control item of a serial among the items before a place says
abbrev pub mark : ℕ → List Item → Mark
mark n [] = Closed
mark n (Text text ∷ before) = mark n before
mark n (Insert m ∷ before) = if m == n then ByInsert else mark n before
mark n (Delete m ∷ before) = if m == n then ByDelete else mark n before
mark n (End m ∷ before) = if m == n then Closed else mark n before

-- a number above each serial that the items name
abbrev pub above : List Item → ℕ
above [] = 0
above (Text text ∷ before) = above before
above (Insert m ∷ before) = max (suc m) (above before)
above (Delete m ∷ before) = max (suc m) (above before)
above (End m ∷ before) = max (suc m) (above before)

-- the serials that are open, by Insert or by Delete
abbrev pub open_serials : List Item → List ℕ
open_serials before = falling (above before) (λ n. not (is_closed (mark n before)))

-- the serials that are open by Insert
abbrev pub inserters : List Item → List ℕ
inserters before = falling (above before) (λ n. is_insert (mark n before))

-- the greatest serial open by Insert, 0 where there is none
abbrev pub inserter : List Item → ℕ
inserter before = first (inserters before)

-- the greater serials that are open by Delete
abbrev pub deleters : List Item → List ℕ
deleters before = falling (above before) (λ n. is_delete (mark n before) && nat_lt (inserter before) n)

-- a text item behind these items, as a line
abbrev pub line_at : List Item → List ℕ → HistoryLine
line_at before text = record { text = text; inserter = inserter before; deleters = deleters before }

-- the lines of items that stand behind others
abbrev pub lines_behind : List Item → List Item → List HistoryLine
lines_behind before [] = []
lines_behind before (Text text ∷ items) = line_at before text ∷ lines_behind (Text text ∷ before) items
lines_behind before (Insert n ∷ items) = lines_behind (Insert n ∷ before) items
lines_behind before (Delete n ∷ items) = lines_behind (Delete n ∷ before) items
lines_behind before (End n ∷ items) = lines_behind (End n ∷ before) items

-- the lines of a body
abbrev pub lines_of : List Item → List HistoryLine
lines_of items = lines_behind [] items

-- Whether an item may stand behind others: control items name live serials, a serial is opened where it isn't
-- open and ended where it is, and a text item stands where some serial is open by Insert.
abbrev pub may_stand : List ℕ → List Item → Item → Bool
may_stand live before (Text text) = not (is_empty (inserters before))
may_stand live before (Insert n) = has live n && is_closed (mark n before)
may_stand live before (Delete n) = has live n && is_closed (mark n before)
may_stand live before (End n) = has live n && not (is_closed (mark n before))

-- whether a body may end behind these items: nothing is open
abbrev pub is_over : List Item → Bool
is_over before = is_empty (open_serials before)

-- the items, behind others, begin a body over live serials
abbrev pub Begins : List ℕ → List Item → List Item → Type 0
Begins live before [] = Unit {0}
Begins live before (item ∷ items) = (may_stand live before item ≡ true) × Begins live (item ∷ before) items

-- the items, behind others, go on to the end of a body over live serials
abbrev pub GoesOn : List ℕ → List Item → List Item → Type 0
GoesOn live before [] = is_over before ≡ true
GoesOn live before (item ∷ items) = (may_stand live before item ≡ true) × GoesOn live (item ∷ before) items

-- A line that a history with these live serials may have: a live serial inserted it, and greater live ones deleted it.
pub record IsLine (live : List ℕ) (line : HistoryLine) : Type 0 where
  pub inserter : has live line.inserter ≡ true
  pub deleters : AllByRecursion (λ d. (has live d ≡ true) × (line.inserter < d)) line.deleters
  pub order : IsFalling line.deleters
