-- What the calls of a writer do that holds bytes back from the file to which it appends.
use Rattle.std.specs.Prelude.{◌≡◌, ℕ, ◌≤◌, List, ◌++◌, option_map, Result, Err, OnOk}
use Rattle.sccs_base.specs.Stream.{Rose}
use Rattle.sccs_disk.specs.Told.{Told, seen}
use Rattle.sccs_disk.specs.Effects.{altered, appended}
use Rattle.sccs_disk.specs.declared.disks.DiskRefusal.{DiskRefusal}
use Rattle.sccs_disk.specs.declared.disks.DiskRefusal.TheVariants as fault
use Rattle.sccs_writers.specs.OneFile.{OnlyWrites}
use Rattle.sccs_table.specs.SumOf.{IsSumOf}

-- The name of the file, the bytes that are held back, and the sums of those that were appended.
pub record Writer : Type 0 where
  pub name : List ℕ
  pub held : List ℕ
  pub sums : ℕ × ℕ

-- where a view is told, bytes are appended to the file of a name
abbrev pub Appends : List ℕ → List ℕ → Told → Told → Type 0
Appends n bytes old new = seen new ≡ option_map (altered n (appended bytes)) (seen old)

-- Bytes are put: what was held and they are what was appended and what is held now.
pub record Puts (bytes : List ℕ) (w w2 : Writer) (old new : Told) : Type 0 where
  pub added : List ℕ
  pub split : w.held ++ bytes ≡ added ++ w2.held
  pub file : Appends w.name added old new
  pub sums : (front : List ℕ) → IsSumOf w.sums front → IsSumOf w2.sums (front ++ added)
  pub name : w2.name ≡ w.name

-- A call that puts a text: all of it, or a failing disk or want of memory came between. At every exit at most the
-- writer's file is another.
pub record PutsText {T : Type 0} (text : List ℕ) (w w2 : Writer) (old new : Told) (faults faults_after : ℕ)
    (result : Result T DiskRefusal) : Type 0 where
  pub ok : OnOk result (Puts text w w2 old new)
  pub name : w2.name ≡ w.name
  pub only : OnlyWrites w.name old new
  pub later : faults ≤ faults_after
  pub cause : result ≡ Err fault.Failed → Rose faults faults_after
