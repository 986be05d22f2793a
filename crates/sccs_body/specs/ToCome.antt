-- What is still to come of a file that is read again.
use Rattle.std.specs.Prelude.{◌≡◌, ◌≢◌, ◌⊎◌, ℕ, ◌<◌, ◌≤◌, max, true, List, [], ◌∷◌, ◌++◌, length, map, drop, Option}
use Rattle.std.specs.Prelude.{None, Some, IfSome, Result, Ok, Err, IfOk, OnOk}
use Rattle.sccs_base.specs.Cut.{Cut, cut}
use Rattle.sccs_disk.specs.Told.{Told, seen}
use Rattle.sccs_sid.specs.Reading.{◌>>=◌}
use Rattle.sccs_history.specs.Body.{may_stand}
use Rattle.sccs_history.specs.declared.headers.Item.{Item}
use Rattle.sccs_history.specs.declared.headers.Item.TheVariants.{Text}
use Rattle.sccs_tokens.specs.Items.{items_from}
use Rattle.sccs_grammar.specs.declared.faults.FileFault.{FileFault}
use Rattle.sccs_grammar.specs.declared.faults.FileFault.TheVariants.{BadFormat, Changed, Failed, Memory}
use Rattle.sccs_table.specs.FrontFile.{IsFirst, IsOuter, IsPlaced, ReadsDisk}
use Rattle.sccs_table.specs.Runs.{IsRun}
use Rattle.sccs_table.specs.ReaderState.{StandsIn, behind_sum, bytes_in}
use Rattle.sccs_table.specs.SumOf.{IsPlainSumOf}
use Rattle.sccs_table.specs.declared.fronts.Front.{Front}
use Rattle.sccs_body.specs.Reader.{ItemPlace, KeepsBody, at_hand, bytes_left, name_read, next_line_number}
use Rattle.sccs_body.specs.ItemsRead.{MovesToItem, IsBehind, texts_behind}

-- A front that was read from a file: its places are within the file, whose size and plain sum it has.
pub record IsFrontFor (file : List ℕ) (front : Front) : Type 0 where
  pub placed : IsPlaced front
  pub size : front.size ≡ length file
  pub sum : IsPlainSumOf front.sum (behind_sum file)

-- what is left of the body
abbrev pub rest_of : ItemPlace → List ℕ → Cut
rest_of r file = cut (drop (max r.body.from r.body.lines.place) file)

-- The reader stands behind some items, the last first, in the file that the first reading found; and from here on its
-- body has these items, or its first fault at the line of this number.
pub record ToCome (file live : List ℕ) (before : List Item) (found : Result (List Item) ℕ) (r : ItemPlace) : Type 0
  where
    pub behind : IsBehind live before r
    pub stands : StandsIn r.body.lines file
    pub begins : r.body.lines.place < r.body.from → r.body.lines.held ≡ []
    pub within : r.body.from ≤ length file
    pub size : r.size ≡ length file
    pub sum : IsPlainSumOf r.sum (behind_sum file)
    pub items : found ≡ items_from live (next_line_number r.body file) before (rest_of r file).lines
        (rest_of r file).tail

-- some items, and those that are read behind them
abbrev pub onto : List Item → Result (List Item) ℕ → Result (List Item) ℕ
onto given read = read >>= λ items. Ok (given ++ items)

-- An item comes first, and the reader stands behind it.
pub record ItemComes (file live : List ℕ) (before : List Item) (found : Result (List Item) ℕ) (item : Item)
    (r : ItemPlace) : Type 0 where
  pub rest : Result (List Item) ℕ
  pub first : found ≡ onto (item ∷ []) rest
  pub on : ToCome file live (item ∷ before) rest r

-- The lines of a text come first, and the reader stands behind them.
pub record TextsCome (file live : List ℕ) (before : List Item) (found : Result (List Item) ℕ) (text : List ℕ)
    (r : ItemPlace) : Type 0 where
  pub rest : Result (List Item) ℕ
  pub first : found ≡ onto (map Text (cut text).lines) rest
  pub on : ToCome file live (texts_behind (cut text).lines before) rest r

-- the next item, the end, or the fault that was to come; a told file is never one that was changed
abbrev pub GivesNext : List ℕ → List ℕ → List Item → Result (List Item) ℕ → ItemPlace → Result (Option Item) FileFault
    → Type 0
GivesNext file live before found new (Ok (Some item)) = ItemComes file live before found item new
GivesNext file live before found new (Ok None) = found ≡ Ok []
GivesNext file live before found new (Err (BadFormat line)) = found ≡ Err line
GivesNext file live before found new (Err Failed) = Unit {0}
GivesNext file live before found new (Err Memory) = Unit {0}
GivesNext file live before found new (Err _) = ⊥

-- an item was taken, or none
abbrev pub ComesOrStays : List ℕ → List ℕ → List Item → Result (List Item) ℕ → ItemPlace → Option Item → Type 0
ComesOrStays file live before found new (Some item) = ItemComes file live before found item new
ComesOrStays file live before found new None = ToCome file live before found new

-- over any disk: a file was changed where its size or its sum is another than that of the first reading
abbrev pub IsChange : ℕ → ℕ → FileFault → Type 0
IsChange size sum (Changed first_size first_sum size_now sum_now) = (first_size ≡ size) × (first_sum ≡ sum)
    × ((first_size ≢ size_now) ⊎ (first_sum ≢ sum_now))
IsChange size sum _ = Unit {0}

abbrev pub HasChanged : ItemPlace → {T : Type 0} → Result T FileFault → Type 0
HasChanged r (Ok x) = Unit {0}
HasChanged r (Err fault) = IsChange r.size r.sum fault

-- All that this reading read has the size and the sum of the first.
pub record AgreesWithFirst (r : ItemPlace) : Type 0 where
  pub size : r.body.lines.place ≡ r.size
  pub sum : r.body.lines.sum ≡ r.sum

-- over any disk: a reading that ended without a change agrees with the first
abbrev pub AgreesAtEnd : ItemPlace → Result (Option Item) FileFault → Type 0
AgreesAtEnd r (Ok (Some item)) = Unit {0}
AgreesAtEnd r (Ok None) = AgreesWithFirst r
AgreesAtEnd r (Err (BadFormat line)) = AgreesWithFirst r
AgreesAtEnd r (Err _) = Unit {0}

-- So many bytes that were read are whole text lines that may stand.
pub record MayPass (r : ItemPlace) (count : ℕ) : Type 0 where
  pub fits : count ≤ length r.body.lines.held
  pub run : IsRun (at_hand r count)
  pub stand : (live : List ℕ) (before : List Item) (text : List ℕ) → IsBehind live before r → 0 < count
      → may_stand live before (Text text) ≡ true

-- What every later call leaves as it was.
pub record KeepsFile (old new : ItemPlace) : Type 0 where
  pub name : name_read new ≡ name_read old
  pub limit : new.body.lines.limit ≡ old.body.lines.limit
  pub body : KeepsBody old.body new.body
  pub size : new.size ≡ old.size
  pub sum : new.sum ≡ old.sum

-- The header was read again, and the reader stands where the body begins; of a told file only the disk can keep it from
-- that.
abbrev pub BeginsIn : List ℕ → List ℕ → List Item → Result (List Item) ℕ → ItemPlace → Result (Unit {0}) FileFault
    → Type 0
BeginsIn file live before found new (Ok done) = ToCome file live before found new
BeginsIn file live before found new (Err Failed) = StandsIn new.body.lines file
BeginsIn file live before found new (Err _) = ⊥

pub record BeginsReading {D : Type 0} (told : D → Told) (faults : D → ℕ) (disk disk2 : D) (old new : ItemPlace)
    (result : Result (Unit {0}) FileFault) : Type 0 where
  pub frame : ReadsDisk told faults disk disk2 result
  pub first : IsFirst result
  pub kept : KeepsFile old new
  pub onward : old.body.lines.place ≤ new.body.lines.place
  pub state : new.body.state ≡ old.body.state
  pub there : OnOk result (new.body.from ≤ new.body.lines.place)
  pub begins : (file live : List ℕ) (before : List Item) (found : Result (List Item) ℕ) → bytes_in (seen (told disk))
      (name_read old) ≡ Some file → ToCome file live before found old → BeginsIn file live before found new result

-- The next item was read, whatever the file was before; the reader stays in a told file.
pub record ReadsNextItem {D : Type 0} (told : D → Told) (faults : D → ℕ) (disk disk2 : D) (old new : ItemPlace)
    (result : Result (Option Item) FileFault) : Type 0 where
  pub frame : ReadsDisk told faults disk disk2 result
  pub first : IsFirst result
  pub kept : KeepsFile old new
  pub further : IfOk result (λ o. IfSome o (λ _. bytes_left new < bytes_left old))
  pub goes : (live : List ℕ) (before : List Item) → IsBehind live before old → MovesToItem live before new result
  pub gives : (file live : List ℕ) (before : List Item) (found : Result (List Item) ℕ) → bytes_in (seen (told disk))
      (name_read old) ≡ Some file → ToCome file live before found old → GivesNext file live before found new result
  pub stays : (file live : List ℕ) (before : List Item) (found : Result (List Item) ℕ) → bytes_in (seen (told disk))
      (name_read old) ≡ Some file → ToCome file live before found old → StandsIn new.body.lines file

-- The file was read to its end, and is compared with what the first reading found.
pub record EndsReading {D : Type 0} (told : D → Told) (faults : D → ℕ) (disk disk2 : D) (old new : ItemPlace)
    (result : Result (Unit {0}) FileFault) : Type 0 where
  pub frame : ReadsDisk told faults disk disk2 result
  pub kept : KeepsFile old new
  pub changed : HasChanged old result
  pub agrees : OnOk result (AgreesWithFirst new)
  pub never : (line : ℕ) → result ≢ Err (BadFormat line)
  pub same : (file : List ℕ) → bytes_in (seen (told disk)) (name_read old) ≡ Some file → StandsIn old.body.lines file
      → old.size ≡ length file → IsPlainSumOf old.sum (behind_sum file) → IsOuter result
