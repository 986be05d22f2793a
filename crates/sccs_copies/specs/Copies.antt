-- A body that is copied through a filter, while its file is read again.
use Rattle.std.specs.Prelude.{◌≡◌, ℕ, ◌≤◌, Bool, true, false, List, [], ◌++◌, Option, Some, Result, Ok, Err, OnOk}
use Rattle.std.specs.Str.{bytes_eq}
use Rattle.sccs_base.specs.Stream.{Rose}
use Rattle.sccs_disk.specs.Calls.{IsThere}
use Rattle.sccs_disk.specs.Files.{View, put}
use Rattle.sccs_disk.specs.Images.{IsFirm}
use Rattle.sccs_disk.specs.Told.{Told, seen}
use Rattle.sccs_name_files.specs.StepFiles.{Moves}
use Rattle.sccs_name_files.specs.Touches.{Leaves, TouchesOnly}
use Rattle.sccs_disk.specs.declared.disks.DiskRefusal.{DiskRefusal}
use Rattle.sccs_disk.specs.declared.disks.DiskRefusal.TheVariants as refusals
use Rattle.sccs_grammar.specs.declared.faults.FileFault.{FileFault}
use Rattle.sccs_grammar.specs.declared.faults.FileFault.TheVariants.{Failed, Memory}
use Rattle.sccs_tokens.specs.Written.{ended, sum_line}
use Rattle.sccs_history.specs.Body.{GoesOn, is_over}
use Rattle.sccs_history.specs.declared.headers.Header.{Header}
use Rattle.sccs_history.specs.declared.headers.Item.{Item}
use Rattle.sccs_store.specs.Commits.{Becomes}
use Rattle.sccs_store.specs.SealedFiles.{sealed}
use Rattle.sccs_writers.specs.HeaderBytes.{header_bytes}
use Rattle.sccs_table.specs.SumOf.{IsSumOf}
use Rattle.sccs_body.specs.ItemsRead.{IsBehind}
use Rattle.sccs_body.specs.Reader.{name_read}
use Rattle.sccs_body.specs.ToCome.{ToCome}
use Rattle.sccs_writers.specs.OneFile.{OnlyWrites}
use Rattle.sccs_writers.specs.Puts.{Appends, Puts, Writer}
use Rattle.sccs_writers.specs.Spelled.{spelled}
use Rattle.sccs_copies.specs.Filters.{Filter, Filters}
use Rattle.sccs_copies.specs.declared.copies.Copying.{Copying}

-- ---- over any disk

-- A body can be copied into a file: that is there and is another than the one that is read.
pub record CanCopy {F : Type 0} (c : Copying F) (n : List ℕ) (told : Told) : Type 0 where
  pub there : IsThere n told
  pub apart : bytes_eq n (name_read c.items) ≡ false

-- writing failed, or there was no memory
abbrev pub as_file_fault : DiskRefusal → FileFault
as_file_fault refusals.Failed = Failed
as_file_fault refusals.Memory = Memory

-- no fault of the file that is read: the disk failed, or there was no memory
abbrev pub IsFaultAroundCopy : FileFault → Type 0
IsFaultAroundCopy Failed = Unit {0}
IsFaultAroundCopy Memory = Unit {0}
IsFaultAroundCopy _ = ⊥

abbrev pub IsOuterResult : {T : Type 0} → Result T FileFault → Type 0
IsOuterResult (Ok x) = Unit {0}
IsOuterResult (Err fault) = IsFaultAroundCopy fault

-- A call that puts some text while another file is read: at every exit at most the writer's file is another, and a
-- failing disk is counted.
pub record PutsSome {T : Type 0} (w w2 : Writer) (old new : Told) (faults faults_after : ℕ)
    (result : Result T FileFault) : Type 0 where
  pub text : List ℕ
  pub ok : OnOk result (Puts text w w2 old new)
  pub name : w2.name ≡ w.name
  pub only : OnlyWrites w.name old new
  pub later : faults ≤ faults_after
  pub cause : result ≡ Err Failed → Rose faults faults_after

-- A call that appends some bytes and more to a file.
pub record AppendsSome {T : Type 0} (n front : List ℕ) (old new : Told) (faults faults_after : ℕ)
    (result : Result T FileFault) : Type 0 where
  pub more : List ℕ
  pub ok : OnOk result (Appends n (front ++ more) old new)
  pub only : OnlyWrites n old new
  pub later : faults ≤ faults_after
  pub cause : result ≡ Err Failed → Rose faults faults_after

-- A copy stands before all items of a body over live serials.
pub record IsBegun {F : Type 0} (filter : Filter F) (live : List ℕ) (c : Copying F) : Type 0 where
  pub behind : IsBehind live [] c.items
  pub stands : filter.stands c.filter []

-- Items were taken behind others, and what the filter makes of them was put.
pub record PutsFiltered {F : Type 0} (filter : Filter F) (before after taken : List Item) (f f2 : F) (w w2 : Writer)
    (old new : Told) : Type 0 where
  pub items : List Item
  pub puts : Puts (spelled items) w w2 old new
  pub filters : Filters filter before after taken items f f2

-- Behind some items more were read, each of which may stand, and what the filter makes of them was put.
pub record CopiesItems {F : Type 0} (filter : Filter F) (live : List ℕ) (before : List Item) (c c2 : Copying F)
    (w w2 : Writer) (old new : Told) : Type 0 where
  pub taken : List Item
  pub after : List Item
  pub goes : (rest : List Item) → GoesOn live after rest → GoesOn live before (taken ++ rest)
  pub put : PutsFiltered filter before after taken c.filter c2.filter w w2 old new

-- The same, and the copy stands behind them; or the body is over.
pub record CopiesOn {F : Type 0} (filter : Filter F) (live : List ℕ) (before : List Item) (c c2 : Copying F)
    (w w2 : Writer) (old new : Told) : Type 0 where
  pub some : CopiesItems filter live before c c2 w w2 old new
  pub behind : IsBehind live some.after c2.items

pub record CopiesBody {F : Type 0} (filter : Filter F) (live : List ℕ) (before : List Item) (c c2 : Copying F)
    (w w2 : Writer) (old new : Told) : Type 0 where
  pub some : CopiesItems filter live before c c2 w w2 old new
  pub over : is_over some.after ≡ true

-- what becomes of the next item
abbrev pub CopiesItem : {F : Type 0} → Filter F → List ℕ → List Item → Copying F → Copying F → Writer → Writer → Told
    → Told → Result Bool FileFault → Type 0
CopiesItem filter live before c c2 w w2 old new (Ok true) = CopiesOn filter live before c c2 w w2 old new
CopiesItem filter live before c c2 w w2 old new (Ok false) = CopiesBody filter live before c c2 w w2 old new
CopiesItem filter live before c c2 w w2 old new (Err fault) = Unit {0}

-- Of what the filter makes of the items of some whole body over live serials this is so.
pub record OfSomeBody {F : Type 0} (filter : Filter F) (live : List ℕ) (f : F) (P : List Item → Type 0) : Type 0 where
  pub body : List Item
  pub items : List Item
  pub goes : GoesOn live [] body
  pub output_is : filter.output f [] body ≡ Some items
  pub so : P items

-- ---- of a file that is told

-- Items of a told file's body are to come, and these are the filter's output for them.
pub record CopyComes {F : Type 0} (filter : Filter F) (file : List ℕ) (items : List Item) (c : Copying F) : Type 0 where
  pub live : List ℕ
  pub before : List Item
  pub rest : List Item
  pub comes : ToCome file live before (Ok rest) c.items
  pub stands : filter.stands c.filter before
  pub output_is : filter.output c.filter before rest ≡ Some items

-- Some of the output was put, and the rest is to come.
pub record CopiesSome {F : Type 0} (filter : Filter F) (file : List ℕ) (items : List Item) (c c2 : Copying F)
    (w w2 : Writer) (old new : Told) : Type 0 where
  pub first : List Item
  pub rest : List Item
  pub whole : items ≡ first ++ rest
  pub puts : Puts (spelled first) w w2 old new
  pub on : CopyComes filter file rest c2

-- The body is over: some of the output was put, and the filter has the rest.
pub record CopiesWhole {F : Type 0} (filter : Filter F) (items : List Item) (f2 : F) (w w2 : Writer)
    (old new : Told) : Type 0 where
  pub first : List Item
  pub rest : List Item
  pub after : List Item
  pub whole : items ≡ first ++ rest
  pub puts : Puts (spelled first) w w2 old new
  pub stands : filter.stands f2 after
  pub output_is : filter.output f2 after [] ≡ Some rest

-- some of the output was put; of a told file only the disk or memory can keep it from that
abbrev pub CopiesTexts : {F : Type 0} → Filter F → List ℕ → List Item → Copying F → Copying F → Writer → Writer → Told
    → Told → Result (Unit {0}) FileFault → Type 0
CopiesTexts filter file items c c2 w w2 old new (Ok done) = CopiesSome filter file items c c2 w w2 old new
CopiesTexts filter file items c c2 w w2 old new (Err fault) = IsFaultAroundCopy fault

-- the next item, or the end
abbrev pub CopiesNext : {F : Type 0} → Filter F → List ℕ → List Item → Copying F → Copying F → Writer → Writer → Told
    → Told → Result Bool FileFault → Type 0
CopiesNext filter file items c c2 w w2 old new (Ok true) = CopiesSome filter file items c c2 w w2 old new
CopiesNext filter file items c c2 w w2 old new (Ok false) = CopiesWhole filter items c2.filter w w2 old new
CopiesNext filter file items c c2 w w2 old new (Err fault) = IsFaultAroundCopy fault

abbrev pub CopiesAll : {F : Type 0} → Filter F → List Item → F → Writer → Writer → Told → Told
    → Result (Unit {0}) FileFault → Type 0
CopiesAll filter items f2 w w2 old new (Ok done) = CopiesWhole filter items f2 w w2 old new
CopiesAll filter items f2 w w2 old new (Err fault) = IsFaultAroundCopy fault

-- the items were put; of a told file only the disk or memory can keep them from that
abbrev pub PutsItems : List Item → Writer → Writer → Told → Told → Result (Unit {0}) FileFault → Type 0
PutsItems items w w2 old new (Ok done) = Puts (spelled items) w w2 old new
PutsItems items w w2 old new (Err fault) = IsFaultAroundCopy fault

-- They were appended, and the sums go on with them.
pub record AppendsText (n text : List ℕ) (before after : ℕ × ℕ) (old new : Told) : Type 0 where
  pub file : Appends n text old new
  pub sums : (front : List ℕ) → IsSumOf before front → IsSumOf after (front ++ text)

abbrev pub AppendsItems : List Item → List ℕ → ℕ × ℕ → Told → Told → Result (ℕ × ℕ) FileFault → Type 0
AppendsItems items n sums old new (Ok after) = AppendsText n (spelled items) sums after old new
AppendsItems items n sums old new (Err fault) = IsFaultAroundCopy fault

-- the same behind a header, from the sum line on, whose digits are zeros
pub record AppendsFile (h : Header) (items : List Item) (n : List ℕ) (sums : ℕ × ℕ) (old new : Told) : Type 0 where
  pub file : Appends n (ended (sum_line 0) ++ header_bytes h ++ spelled items) old new
  pub sum : IsSumOf sums (header_bytes h ++ spelled items)

abbrev pub AppendsWhole : Header → List Item → List ℕ → Told → Told → Result (ℕ × ℕ) FileFault → Type 0
AppendsWhole h items n old new (Ok after) = AppendsFile h items n after old new
AppendsWhole h items n old new (Err fault) = IsFaultAroundCopy fault

-- the x-file is the s-file of these
abbrev pub MakesFile : Header → List Item → List ℕ → Option View → Option View → Result (Unit {0}) FileFault → Type 0
MakesFile h items n old new (Ok done) = Becomes (λ v. put v n (Some (sealed h items))) old new
MakesFile h items n old new (Err fault) = IsFaultAroundCopy fault

-- A call that makes the file of a name and writes it: at most that file is another, at Ok it is there and firm, and a
-- failing disk is counted.
pub record MakesOneFile {T E : Type 0} (n : List ℕ) (failed : E) (old new : Told) (faults faults_after : ℕ)
    (result : Result T E) : Type 0 where
  pub moves : Moves (bytes_eq n) (λ v. v) (seen old) (seen new)
  pub there : OnOk result (IsThere n new)
  pub touches : TouchesOnly (bytes_eq n) old new
  pub firm : OnOk result (Leaves (IsFirm n) old new)
  pub later : faults ≤ faults_after
  pub cause : result ≡ Err failed → Rose faults faults_after
