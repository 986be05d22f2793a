-- Where a text goes: to a sink, or into a file, whose name then says where. Some of it may be held back.
use Rattle.std.specs.Prelude.{◌≡◌, ◌≢◌, ℕ, ◌≤◌, Bool, false, List, [], ◌++◌, length, take, Option, None, Some}
use Rattle.std.specs.Prelude.{option_map, option_and_then, Result, Ok, Err, OnOk}
use Rattle.std.specs.Str.{bytes_eq}
use Rattle.sccs_base.specs.Stream.{Buffers, GivesOk, GivesSome, Rose}
use Rattle.sccs_disk.specs.Calls.{IsThere}
use Rattle.sccs_disk.specs.Files.{Content, View}
use Rattle.sccs_disk.specs.Told.{Told, seen}
use Rattle.sccs_disk.specs.declared.disks.DiskRefusal.{DiskRefusal}
use Rattle.sccs_disk.specs.declared.disks.DiskRefusal.TheVariants as refusals
use Rattle.sccs_sid.specs.declared.refusals.StepFault.{StepFault}
use Rattle.sccs_sid.specs.declared.refusals.StepFault.TheVariants.{Refused, Memory, ReadFault, WriteFault, DiskFault}
use Rattle.sccs_table.specs.ReaderState.{bytes_in}
use Rattle.sccs_writers.specs.OneFile.{OnlyWrites}
use Rattle.sccs_steps.specs.Actions.{RefusesWithin}
use Rattle.sccs_steps.specs.Causes.{PrintCauses}
use Rattle.sccs_printing.specs.Printing.{file_checks}
use Rattle.sccs_printing.specs.declared.targets.Target.{Target}
use Rattle.sccs_printing.specs.declared.targets.Target.TheVariants.{ToSink, ToFile}

abbrev pub held_back : Target → List ℕ
held_back (ToSink held) = held
held_back (ToFile writer) = writer.held

abbrev pub file_of : Target → Option (List ℕ)
file_of (ToSink held) = None
file_of (ToFile writer) = Some writer.name

-- what the sink was given, or the bytes of the file
abbrev pub target_bytes : Option (List ℕ) → Option (List ℕ) → Told → Option (List ℕ)
target_bytes None out told = out
target_bytes (Some n) out told = bytes_in (seen told) n

-- the file is there
abbrev pub CanTake : Option (List ℕ) → Told → Type 0
CanTake None told = Unit {0}
CanTake (Some n) told = IsThere n told

-- it is another than one that is read
abbrev pub IsApart : Option (List ℕ) → List ℕ → Type 0
IsApart None read = Unit {0}
IsApart (Some n) read = bytes_eq n read ≡ false

-- at most the sink gets something, or at most the file is another
abbrev pub Reaches : Option (List ℕ) → Option (List ℕ) → Option (List ℕ) → Told → Told → Type 0
Reaches None out out2 old new = new ≡ old
Reaches (Some n) out out2 old new = (out2 ≡ out) × OnlyWrites n old new

-- whether a file may be written, where it is there
abbrev pub mark_in : Option View → List ℕ → Option Bool
mark_in view n = option_and_then (λ (v : View). option_map (λ (c : Content). c.writable) (v n)) view

-- the file may be written exactly where it might before
abbrev pub KeepsTargetMark : Option (List ℕ) → Told → Told → Type 0
KeepsTargetMark None old new = Unit {0}
KeepsTargetMark (Some n) old new = mark_in (seen new) n ≡ mark_in (seen old) n

-- why a file isn't written
abbrev pub writing_fault : DiskRefusal → StepFault
writing_fault refusals.Failed = DiskFault
writing_fault refusals.Memory = Memory

-- ---- a text that goes there

-- a prefix of a text was given
abbrev pub PartGiven : List ℕ → List ℕ → List ℕ → Option (List ℕ) → Option (List ℕ) → Type 0
PartGiven text held held2 a b = (n : ℕ) × (n ≤ length text) × Buffers held (take n text) held2 a b

-- A prefix of it was given to a sink; of a file nothing is said. No check fails.
abbrev pub Cuts : Option (List ℕ) → List ℕ → StepFault → List ℕ → List ℕ → Option (List ℕ) → Option (List ℕ) → Type 0
Cuts None text Memory held held2 a b = PartGiven text held held2 a b
Cuts None text DiskFault held held2 a b = PartGiven text held held2 a b
Cuts None text WriteFault held held2 a b = GivesSome a b (held ++ text) × (held2 ≡ [])
Cuts (Some n) text Memory held held2 a b = Unit {0}
Cuts (Some n) text DiskFault held held2 a b = Unit {0}
Cuts (Some n) text WriteFault held held2 a b = ⊥
Cuts file text ReadFault held held2 a b = ⊥
Cuts file text (Refused refusal) held held2 a b = ⊥

-- all of it was given, or it was cut
abbrev pub GivesTo : {T : Type 0} → Option (List ℕ) → List ℕ → Result T StepFault → List ℕ → List ℕ → Option (List ℕ)
    → Option (List ℕ) → Type 0
GivesTo file text (Ok x) held held2 a b = Buffers held text held2 a b
GivesTo file text (Err fault) held held2 a b = Cuts file text fault held held2 a b

-- writing a file fails no sink
abbrev pub SparesSink : Option (List ℕ) → StepFault → Type 0
SparesSink None fault = Unit {0}
SparesSink (Some n) WriteFault = ⊥
SparesSink (Some n) Memory = Unit {0}
SparesSink (Some n) ReadFault = Unit {0}
SparesSink (Some n) DiskFault = Unit {0}
SparesSink (Some n) (Refused refusal) = Unit {0}

abbrev pub Spares : {T : Type 0} → Option (List ℕ) → Result T StepFault → Type 0
Spares file (Ok x) = Unit {0}
Spares file (Err fault) = SparesSink file fault

-- A target that a text may be given to from its start: it holds nothing back, and a target file is there and another
-- than the one that is read.
pub record IsFreshTarget (target : Target) (read : List ℕ) (told : Told) : Type 0 where
  pub empty : held_back target ≡ []
  pub there : CanTake (file_of target) told
  pub apart : IsApart (file_of target) read

-- What a call leaves that gives text to a target: at most that gets something, no other sink fails, and no check but
-- those of a file that is read.
pub record UsesTarget {O D T : Type 0} (file : Option (List ℕ)) (given : O → Option (List ℕ)) (out_faults : O → ℕ)
    (told : D → Told) (faults : D → ℕ) (out out2 : O) (disk disk2 : D) (result : Result T StepFault) : Type 0 where
  pub reaches : Reaches file (given out) (given out2) (told disk) (told disk2)
  pub mark : OnOk result (KeepsTargetMark file (told disk) (told disk2))
  pub spares : Spares file result
  pub causes : PrintCauses result (out_faults out) (out_faults out2) (faults disk) (faults disk2)
  pub checks : RefusesWithin file_checks result

-- ---- the same where nothing is held back before it and behind it

abbrev pub IsCut : Option (List ℕ) → List ℕ → StepFault → Option (List ℕ) → Option (List ℕ) → Type 0
IsCut None text Memory a b = GivesSome a b text
IsCut None text DiskFault a b = GivesSome a b text
IsCut None text WriteFault a b = GivesSome a b text
IsCut (Some n) text Memory a b = Unit {0}
IsCut (Some n) text DiskFault a b = Unit {0}
IsCut (Some n) text WriteFault a b = ⊥
IsCut file text ReadFault a b = ⊥
IsCut file text (Refused refusal) a b = ⊥

abbrev pub Prints : {T : Type 0} → Option (List ℕ) → List ℕ → Result T StepFault → Option (List ℕ) → Option (List ℕ)
    → Type 0
Prints file text (Ok x) a b = GivesOk a b text
Prints file text (Err fault) a b = IsCut file text fault a b

-- What a call leaves that appends text to a file alone: at most that is another, no stream fails, and no check but
-- those of a file that is read.
pub record WritesText {T : Type 0} (n : List ℕ) (old new : Told) (faults faults_after : ℕ)
    (result : Result T StepFault) : Type 0 where
  pub only : OnlyWrites n old new
  pub mark : OnOk result (KeepsTargetMark (Some n) old new)
  pub checks : RefusesWithin file_checks result
  pub later : faults ≤ faults_after
  pub cause : result ≡ Err DiskFault → Rose faults faults_after
  pub read : result ≢ Err ReadFault
  pub write : result ≢ Err WriteFault
