-- The body of a new s-file as it is written, and what a call says that appends it.
use Rattle.std.specs.Prelude.{◌≡◌, ◌≤◌, ℕ, List, ◌++◌, map, Result, Err, OnOk, IfOk}
use Rattle.sccs_base.specs.Stream.{Rose}
use Rattle.sccs_disk.specs.Told.{Told}
use Rattle.sccs_disk.specs.declared.disks.DiskRefusal.{DiskRefusal}
use Rattle.sccs_disk.specs.declared.disks.DiskRefusal.TheVariants as fault
use Rattle.sccs_history.specs.declared.headers.Item.{Item}
use Rattle.sccs_tokens.specs.Written.{bytes_of, item_line}
use Rattle.sccs_table.specs.SumOf.{IsSumOf}
use Rattle.sccs_writers.specs.OneFile.{OnlyWrites}
use Rattle.sccs_writers.specs.Puts.{Appends}

-- the items of a body as they are written
abbrev pub body_bytes : List Item → List ℕ
body_bytes items = bytes_of (map item_line items)

-- A call that appends a text to a file, and answers the sums that go on with it. At every exit at most this file is
-- another.
pub record AppendsSum (text n : List ℕ) (sums : ℕ × ℕ) (old new : Told) (faults faults_after : ℕ)
    (result : Result (ℕ × ℕ) DiskRefusal) : Type 0 where
  pub ok : OnOk result (Appends n text old new)
  pub added : IfOk result (λ sums2. (front : List ℕ) → IsSumOf sums front → IsSumOf sums2 (front ++ text))
  pub only : OnlyWrites n old new
  pub later : faults ≤ faults_after
  pub cause : result ≡ Err fault.Failed → Rose faults faults_after
