-- What reading the header of an s-file answers.
use Rattle.std.specs.Prelude.{◌≡◌, ◌≢◌, ℕ, ◌+◌, ◌≤◌, ◌<◌, true, false, List, ◌∷◌, length, drop, Option, None, Some}
use Rattle.std.specs.Prelude.{Result, Ok, Err, OnErr, OnOk}
use Rattle.sccs_base.specs.Cut.{HasNoLf, cut}
use Rattle.sccs_base.specs.Stream.{Rose}
use Rattle.sccs_disk.specs.Files.{View}
use Rattle.sccs_disk.specs.Told.{Told, seen}
use Rattle.sccs_history.specs.declared.headers.Header.{Header}
use Rattle.sccs_grammar.specs.Front.{ParsedFront, front_from, line_after}
use Rattle.sccs_grammar.specs.File.{answer, opened}
use Rattle.sccs_grammar.specs.declared.header_parsers.HeaderParser.{HeaderParser}
use Rattle.sccs_grammar.specs.declared.faults.FileFault.{FileFault}
use Rattle.sccs_grammar.specs.declared.faults.FileFault.TheVariants.{Missing, TooLong, NotSccs, BadSum, BadFormat}
use Rattle.sccs_grammar.specs.declared.faults.FileFault.TheVariants.{Encoded, Changed, Failed, Memory}
use Rattle.sccs_table.specs.declared.fronts.Front.{Front}
use Rattle.sccs_table.specs.ReaderState.{ReaderState, StandsIn, Stays, behind_sum, bytes_in, file_in, left}
use Rattle.sccs_table.specs.SumOf.{IsPlainSumOf, is_sum_of}

-- the answer is this refusal; want of memory and a failing disk may come in place of any
abbrev pub Refuses : {A : Type 0} → FileFault → Result A FileFault → Type 0
Refuses Missing read = read ≡ Err Missing
Refuses TooLong read = read ≡ Err TooLong
Refuses NotSccs read = read ≡ Err NotSccs
Refuses (BadSum stored plain) read = read ≡ Err (BadSum stored plain)
Refuses (BadFormat line) read = read ≡ Err (BadFormat line)
Refuses Encoded read = read ≡ Err Encoded
Refuses (Changed size sum size_now sum_now) read = ⊥
Refuses Failed read = Unit {0}
Refuses Memory read = Unit {0}

-- what a call returned shows the value that is read, or is its refusal
abbrev pub ShowsOrRefuses : {A B : Type 0} → (A → B → Type 0) → Result B FileFault → Result A FileFault → Type 0
ShowsOrRefuses {A} {B} Shows (Ok x) read = (y : A) × (read ≡ Ok y) × Shows y x
ShowsOrRefuses Shows (Err fault) read = Refuses fault read

-- The body begins within the file, and the file is within the limit; each line before the body has a byte at least.
pub record IsPlaced (front : Front) : Type 0 where
  pub within : front.body_from ≤ front.size
  pub limit : front.size ≤ 1073741824
  pub counted : front.body_line ≤ front.body_from + 2

-- The header; where the body begins, by its line and its bytes; the file's length, and the plain sum of what is behind
-- its first line.
pub record IsFrontOf (file : List ℕ) (read : ParsedFront) (front : Front) : Type 0 where
  pub header : front.header ≡ read.header
  pub line : front.body_line ≡ read.line
  pub body : cut (drop front.body_from file) ≡ record { lines = read.rest; tail = (cut file).tail }
  pub size : front.size ≡ length file
  pub sum : IsPlainSumOf front.sum (behind_sum file)

-- the front that a call returned is that of the file, or its refusal holds; no file and too long a file come first
abbrev pub ShowsFront : Option (List ℕ) → Front → ParsedFront → Type 0
ShowsFront None front read = ⊥
ShowsFront (Some file) front read = IsFrontOf file read front

abbrev pub AnswersFront : Option (List ℕ) → (List ℕ → Result ParsedFront FileFault) → Result Front FileFault → Type 0
AnswersFront o read result = ShowsOrRefuses (λ p front. ShowsFront o front p) result (answer read o)

-- a file of that size is there, within the limit, or the refusal holds
abbrev pub OpensAt : Option (List ℕ) → Result ℕ FileFault → Type 0
OpensAt o (Ok size) = (file : List ℕ) × (o ≡ Some file) × (size ≡ length file)
OpensAt o (Err Missing) = o ≡ None
OpensAt o (Err TooLong) = (file : List ℕ) × (o ≡ Some file) × (1073741824 < length file)
OpensAt o (Err Failed) = Unit {0}
OpensAt o (Err _) = ⊥

abbrev pub Opens : Option View → List ℕ → Result ℕ FileFault → Type 0
Opens None name result = Unit {0}
Opens (Some view) name result = OpensAt (file_in view name) result

-- the first line of a file is a sum line with this number, and a reader stands behind it
abbrev pub TakesSum : List ℕ → ReaderState → Result ℕ FileFault → Type 0
TakesSum file new (Ok n) = StandsIn new file
    × (opened file ≡ Ok (record { sum_of = n; lines = (left new file).lines; bytes = behind_sum file }))
    × ((cut file).tail ≡ (left new file).tail)
TakesSum file new (Err NotSccs) = opened file ≡ Err NotSccs
TakesSum file new (Err Failed) = Unit {0}
TakesSum file new (Err Memory) = Unit {0}
TakesSum file new (Err _) = ⊥

abbrev pub SumLine : Option (List ℕ) → ReaderState → ReaderState → Result ℕ FileFault → Type 0
SumLine None old new result = Unit {0}
SumLine (Some file) old new result = StandsIn old file → TakesSum file new result

-- reading goes from one reader_state to another, up to the body, or to the line at fault
abbrev pub ReadsLines : List ℕ → ReaderState → ReaderState → HeaderParser → ℕ → Result (Header × ℕ) FileFault → Type 0
ReadsLines file old new r n (Ok x) =
    StandsIn new file × ((left old file).tail ≡ (left new file).tail)
    × (front_from n r (left old file).lines ≡ Ok (record { header = x.0; line = x.1; rest = (left new file).lines }))
ReadsLines file old new r n (Err (BadFormat line)) = front_from n r (left old file).lines ≡ Err line
ReadsLines file old new r n (Err Failed) = Unit {0}
ReadsLines file old new r n (Err Memory) = Unit {0}
ReadsLines file old new r n (Err _) = ⊥

-- the same of a told file in which the reader stands
abbrev pub Reads : Option (List ℕ) → ReaderState → ReaderState → HeaderParser → ℕ → Result (Header × ℕ) FileFault
    → Type 0
Reads None old new r n result = Unit {0}
Reads (Some file) old new r n result = StandsIn old file → ReadsLines file old new r n result

-- what is read with a line more, or the line at fault; want of memory may come in place of either
abbrev pub AnswersLine : Result HeaderParser ℕ → Result HeaderParser FileFault → Type 0
AnswersLine read (Ok more) = read ≡ Ok more
AnswersLine read (Err (BadFormat k)) = read ≡ Err k
AnswersLine read (Err Memory) = Unit {0}
AnswersLine read (Err _) = ⊥

-- a call that read on in place, as what it read
abbrev pub read_as : HeaderParser → Result (Unit {0}) FileFault → Result HeaderParser FileFault
read_as new (Ok done) = Ok new
read_as new (Err fault) = Err fault

-- one line more
abbrev pub HearsLine : List ℕ → ReaderState → ReaderState → ℕ → HeaderParser → Result HeaderParser FileFault → Type 0
HearsLine file old new n r (Ok s) =
    StandsIn new file × ((line : List ℕ)
    × (left old file ≡ record { lines = line ∷ (left new file).lines; tail = (left new file).tail })
    × (line_after n r line ≡ Ok s))
HearsLine file old new n r (Err (BadFormat k)) = front_from n r (left old file).lines ≡ Err k
HearsLine file old new n r (Err Failed) = Unit {0}
HearsLine file old new n r (Err Memory) = Unit {0}
HearsLine file old new n r (Err _) = ⊥

abbrev pub AcceptsNext : Option (List ℕ) → ReaderState → ReaderState → ℕ → HeaderParser → Result HeaderParser FileFault
    → Type 0
AcceptsNext None old new n r result = Unit {0}
AcceptsNext (Some file) old new n r result = StandsIn old file → HearsLine file old new n r result

-- what a first reading answers: it never says that the file was changed
abbrev pub IsFirst : {T : Type 0} → Result T FileFault → Type 0
IsFirst result = (size sum size_now sum_now : ℕ) → result ≢ Err (Changed size sum size_now sum_now)

-- an answer that is no fault of the file
abbrev pub IsOuter : {T : Type 0} → Result T FileFault → Type 0
IsOuter (Ok x) = Unit {0}
IsOuter (Err Failed) = Unit {0}
IsOuter (Err Memory) = Unit {0}
IsOuter (Err _) = ⊥

-- whether a stored sum is one of these bytes, whose plain sum is answered
abbrev pub ChecksSum : ℕ → List ℕ → Result ℕ FileFault → Type 0
ChecksSum stored bytes (Ok plain) = (is_sum_of stored bytes ≡ true) × IsPlainSumOf plain bytes
ChecksSum stored bytes (Err (BadSum n plain)) = (is_sum_of stored bytes ≡ false) × (n ≡ stored)
    × IsPlainSumOf plain bytes
ChecksSum stored bytes (Err Failed) = Unit {0}
ChecksSum stored bytes (Err _) = ⊥

-- A call that reads a disk: it tells what it told, and a failing disk is counted.
pub record ReadsDisk {D T : Type 0} (told : D → Told) (faults : D → ℕ) (disk disk2 : D)
    (result : Result T FileFault) : Type 0 where
  pub same : told disk2 ≡ told disk
  pub later : faults disk ≤ faults disk2
  pub cause : result ≡ Err Failed → Rose (faults disk) (faults disk2)

-- The same with a reader of lines, which stays in its file and within its limit.
pub record ReadsOn {D T : Type 0} (told : D → Told) (faults : D → ℕ) (disk disk2 : D) (old new : ReaderState)
    (result : Result T FileFault) : Type 0 where
  pub same : told disk2 ≡ told disk
  pub later : faults disk ≤ faults disk2
  pub cause : result ≡ Err Failed → Rose (faults disk) (faults disk2)
  pub name : new.name ≡ old.name
  pub limit : new.limit ≡ old.limit
  pub ahead : new.place + length new.held ≤ new.limit

-- The same of calls that fail alone.
pub record ReadsBytes {D T E : Type 0} (told : D → Told) (faults : D → ℕ) (disk disk2 : D) (old new : ReaderState)
    (result : Result T E) : Type 0 where
  pub same : told disk2 ≡ told disk
  pub later : faults disk ≤ faults disk2
  pub cause : OnErr result (Rose (faults disk) (faults disk2))
  pub name : new.name ≡ old.name
  pub limit : new.limit ≡ old.limit
  pub ahead : new.place + length new.held ≤ new.limit

-- A call that reads on with the next line of that number: it takes one line, which was accepted.
pub record ReadsLine {D : Type 0} (told : D → Told) (faults : D → ℕ) (disk disk2 : D) (old new : ReaderState) (n : ℕ)
    (r s : HeaderParser) (result : Result (Unit {0}) FileFault) : Type 0 where
  pub frame : ReadsOn told faults disk disk2 old new result
  pub first : IsFirst result
  pub stays : Stays (bytes_in (seen (told disk)) old.name) old new
  pub further : OnOk result (old.place < new.place)
  pub accepted : OnOk result ((line : List ℕ) × HasNoLf line × (line_after n r line ≡ Ok s))
  pub hears : AcceptsNext (bytes_in (seen (told disk)) old.name) old new n r (read_as s result)
