-- A text that is appended to a file.
use Rattle.std.proofs.Common.{◌≡◌, ℕ, List, Result, Ok, Err, refl}
use Rattle.std.specs.Prelude.{IsErrOf}
use Rattle.sccs_disk.specs.Calls.{Writes}
use Rattle.sccs_disk.specs.Effects.{KeepsMark, appended, appending}
use Rattle.sccs_disk.specs.Told.{Told}
use Rattle.sccs_disk.specs.declared.disks.DiskRefusal.{DiskRefusal}
use Rattle.sccs_disk.specs.declared.disks.DiskRefusal.TheVariants as fault
use Rattle.sccs_writers.specs.OneFile.{OnlyWrites}
use Rattle.sccs_writers.proofs.OneFile.{only_done, only_half, only_same}

pub append_only : (n : List ℕ) (bytes : List ℕ) (a b : Told) (f g : ℕ) (r : Result (Unit {0}) DiskRefusal)
    → Writes (appending n bytes) a b f g r → OnlyWrites n a b
append_only n bytes a b f g (Ok done) writes = only_done n (appended bytes) KeepsMark a b writes.done
append_only n bytes a b f g (Err fault.Failed) writes = only_half n (appended bytes) KeepsMark a b (writes.half refl)
append_only n bytes a b f g (Err fault.Memory) writes = only_same n a b (writes.memory refl)

pub refusal_is : (a c : DiskRefusal) → IsErrOf {T = Unit {0}} {E = DiskRefusal} (Err a) c → a ≡ c
refusal_is a c e = cc
