-- What the calls of a splicer do: what they put, and what is still owed for the items to come.
use Rattle.std.specs.Prelude.{◌≡◌, ℕ, suc, ◌+◌, Bool, true, false, not, ◌&&◌, List, [], ◌∷◌, ◌++◌, Result, OnOk}
use Rattle.std.specs.Prelude.{if◌then◌else◌}
use Rattle.sccs_history.specs.Numbers.{front_if, has, is_empty}
use Rattle.sccs_history.specs.declared.headers.Item.{Item}
use Rattle.sccs_history.specs.declared.headers.Item.TheVariants.{Text, Insert, Delete, End}
use Rattle.sccs_script_laws.specs.Places.{block, spread, visible_next}
use Rattle.sccs_script_laws.specs.Plans.{added_after}
use Rattle.sccs_script_laws.specs.declared.scripts.Plan.{Plan}
use Rattle.sccs_disk.specs.Told.{Told}
use Rattle.sccs_disk.specs.declared.disks.DiskRefusal.{DiskRefusal}
use Rattle.sccs_writers.specs.Puts.{PutsText, Writer}
use Rattle.sccs_writers.specs.Spelled.{spelled}

-- A splicer: the new serial and the plan, how many lines of the base were pushed, whether the last one was deleted and
-- its region is open, whether the new lines behind it are still to be put, and control items that are held back.
pub record SplicerState : Type 0 where
  pub serial : ℕ
  pub plan : Plan
  pub line : ℕ
  pub opened : Bool
  pub due : Bool
  pub held : List Item

-- before all items
abbrev pub new_splice : ℕ → Plan → SplicerState
new_splice serial plan = record { serial = serial; plan = plan; line = 0; opened = false; due = true; held = [] }

-- whether the open region goes on with the next line of the base, where that is the next text item
abbrev pub may_join : SplicerState → Bool
may_join s = s.opened && (is_empty (added_after s.line s.plan.added) && has s.plan.deleted (suc s.line))

-- whether it goes on, by the items to come
abbrev pub splice_goes_on : SplicerState → List (Item × Bool) → Bool
splice_goes_on s told = s.opened && (is_empty (added_after s.line s.plan.added) && (has s.plan.deleted (suc s.line)
    && visible_next told))

-- the new lines that are still to be put
abbrev pub due_lines : SplicerState → List Item
due_lines s = if s.due then block s.serial (added_after s.line s.plan.added) else []

-- what is put before the next text item
abbrev pub settled_items : SplicerState → Bool → List Item
settled_items s goes = front_if (s.opened && not goes) (End s.serial) (due_lines s ++ s.held)

-- the splicer behind it
abbrev pub settled_splice : SplicerState → SplicerState
settled_splice s = record s { opened = false; due = false; held = [] }

-- behind a control item that is held back
abbrev pub holding : SplicerState → Item → SplicerState
holding s item = record s { held = s.held ++ item ∷ [] }

-- a line of the base, behind `Delete n` where it is deleted and no region goes on
abbrev pub marked_items : SplicerState → Bool → List ℕ → List Item
marked_items s goes text = front_if (has s.plan.deleted (suc s.line) && not goes) (Delete s.serial) (Text text ∷ [])

-- behind a line of the base
abbrev pub passed : SplicerState → SplicerState
passed s = record s { line = suc s.line; opened = has s.plan.deleted (suc s.line); due = true }

abbrev pub IsControl : Item → Type 0
IsControl (Text text) = ⊥
IsControl (Insert m) = Unit {0}
IsControl (Delete m) = Unit {0}
IsControl (End m) = Unit {0}

-- All that is still to be put for the items to come.
abbrev pub items_owed : SplicerState → List (Item × Bool) → List Item
items_owed s told =
    front_if (s.opened && not (splice_goes_on s told)) (End s.serial)
    (due_lines s ++ (s.held ++ spread s.plan s.serial (splice_goes_on s told) s.line told))

-- how many of the items are lines of the base
abbrev pub base_count : List (Item × Bool) → ℕ
base_count [] = 0
base_count ((Text text, true) ∷ told) = suc (base_count told)
base_count ((Text text, false) ∷ told) = base_count told
base_count ((Insert m, visible) ∷ told) = base_count told
base_count ((Delete m, visible) ∷ told) = base_count told
base_count ((End m, visible) ∷ told) = base_count told

-- The splicer behind items that were pushed: what was put and what is owed now are what was owed.
pub record SplicesOn (pushed : List (Item × Bool)) (items : List Item) (s s2 : SplicerState) : Type 0 where
  pub owes : (rest : List (Item × Bool)) → items ++ items_owed s2 rest ≡ items_owed s (pushed ++ rest)
  pub line : s2.line ≡ s.line + base_count pushed
  pub plan : s2.plan ≡ s.plan

-- A call that pushes items, each with whether it is a line of the base: some items are put, and they and what is owed
-- then are what was owed.
pub record Splices {T : Type 0} (pushed : List (Item × Bool)) (s s2 : SplicerState) (w w2 : Writer) (old new : Told)
    (faults faults_after : ℕ) (result : Result T DiskRefusal) : Type 0 where
  pub items : List Item
  pub puts : PutsText (spelled items) w w2 old new faults faults_after result
  pub goes : OnOk result (SplicesOn pushed items s s2)
