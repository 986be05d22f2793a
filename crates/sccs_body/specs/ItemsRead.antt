-- What reading the items of a body answers.
use Rattle.std.specs.Prelude.{◌≡◌, ℕ, true, List, [], ◌∷◌, Option, None, Some, Result, Ok, Err}
use Rattle.sccs_history.specs.Body.{may_stand, is_over}
use Rattle.sccs_history.specs.declared.headers.Item.{Item}
use Rattle.sccs_history.specs.declared.headers.Item.TheVariants.{Text}
use Rattle.sccs_base.specs.declared.streams.Memory.{Memory}
use Rattle.sccs_body.specs.States.{Knows}
use Rattle.sccs_body.specs.declared.body_states.BodyState.{BodyState}
use Rattle.sccs_tokens.specs.Items.{item_at, items_from}
use Rattle.sccs_grammar.specs.declared.faults.FileFault.{FileFault}
use Rattle.sccs_grammar.specs.declared.faults.FileFault.TheVariants.{BadFormat, Failed}
use Rattle.sccs_grammar.specs.declared.faults.FileFault.TheVariants as fault
use Rattle.sccs_table.specs.ReaderState.{StandsIn, left}
use Rattle.sccs_body.specs.Reader.{BodyPlace, ItemPlace, next_line_number}

-- the reader stands behind these items, the last first, of a body over live serials
abbrev pub HasBehind : List ℕ → List Item → BodyPlace → Type 0
HasBehind live before r = Knows live before r.state

abbrev pub IsBehind : List ℕ → List Item → ItemPlace → Type 0
IsBehind live before r = HasBehind live before r.body

-- the lines as text items behind others, the last nearest
abbrev pub texts_behind : List (List ℕ) → List Item → List Item
texts_behind [] before = before
texts_behind (line ∷ lines) before = texts_behind lines (Text line ∷ before)

-- the line is an item that may stand, and the state is that behind it; or it is none
abbrev pub ReadsItemLine : List ℕ → List Item → BodyState → List ℕ → Result (Option Item) Memory → Type 0
ReadsItemLine live before new line (Ok (Some item)) = (item_at live before line ≡ Some item)
    × (may_stand live before item ≡ true) × Knows live (item ∷ before) new
ReadsItemLine live before new line (Ok None) = item_at live before line ≡ None
ReadsItemLine live before new line (Err memory) = Unit {0}

-- whatever the disk tells: an item that is given may stand, and the reader then stands behind it; at None the body is
-- whole
abbrev pub GoesBehind : List ℕ → List Item → BodyPlace → Result (Option Item) FileFault → Type 0
GoesBehind live before new (Ok (Some item)) = (may_stand live before item ≡ true) × HasBehind live (item ∷ before) new
GoesBehind live before new (Ok None) = is_over before ≡ true
GoesBehind live before new (Err e) = Unit {0}

abbrev pub MovesToItem : List ℕ → List Item → ItemPlace → Result (Option Item) FileFault → Type 0
MovesToItem live before new result = GoesBehind live before new.body result

-- an item was taken, or none
abbrev pub GoesOrStays : List ℕ → List Item → ItemPlace → Option Item → Type 0
GoesOrStays live before new (Some item) = MovesToItem live before new (Ok (Some item))
GoesOrStays live before new None = IsBehind live before new

-- the next line of the file is the item; or nothing is left; or no item may stand at the line
abbrev pub GivesItem : List ℕ → List Item → List ℕ → BodyPlace → BodyPlace → Result (Option Item) FileFault → Type 0
GivesItem live before file old new (Ok (Some item)) =
    StandsIn new.lines file
    × ((line : List ℕ) × (left old.lines file ≡ record {
      lines = line ∷ (left new.lines file).lines;
      tail =
          (left new.lines file).tail;
    }) × (item_at live before line ≡ Some item))
GivesItem live before file old new (Ok None) = items_from live (next_line_number old file) before
    (left old.lines file).lines (left old.lines file).tail ≡ Ok []
GivesItem live before file old new (Err (BadFormat line)) =
    (line ≡ next_line_number old file) × (items_from live (next_line_number old file) before (left old.lines file).lines
    (left old.lines file).tail ≡ Err line)
GivesItem live before file old new (Err Failed) = Unit {0}
GivesItem live before file old new (Err fault.Memory) = Unit {0}
GivesItem live before file old new (Err _) = ⊥

-- the same of a told file in which the reader stands
abbrev pub GivesBodyItem : Option (List ℕ) → List ℕ → List Item → BodyPlace → BodyPlace → Result (Option Item) FileFault
    → Type 0
GivesBodyItem None live before old new result = Unit {0}
GivesBodyItem (Some file) live before old new result = StandsIn old.lines file
    → GivesItem live before file old new result

-- what a line of that number is at which no item may stand: its fault, or that of a disk that failed while it was
-- looked for
abbrev pub IsFormatAt : ℕ → FileFault → Type 0
IsFormatAt number (BadFormat line) = line ≡ number
IsFormatAt number Failed = Unit {0}
IsFormatAt number _ = ⊥

-- the same, whatever its number
abbrev pub IsFormat : FileFault → Type 0
IsFormat (BadFormat line) = Unit {0}
IsFormat Failed = Unit {0}
IsFormat _ = ⊥
