-- A call that changes a file, or changes nothing.
use Rattle.std.proofs.Common.{◌≡◌, ℕ, ◌≤◌, inl, ap, Result, Ok, Err, OnOk, OnErr, IfOk, IsOk}
use Rattle.std.specs.Prelude.{IsErrOf}
use Rattle.sccs_base.specs.Stream.{Rose}
use Rattle.sccs_base.specs.declared.streams.Memory.{Memory}
use Rattle.sccs_disk.specs.Calls.{Done, Half, Writes}
use Rattle.sccs_disk.specs.Effects.{Effect}
use Rattle.sccs_disk.specs.States.{change_effect}
use Rattle.sccs_disk.specs.Told.{Told, seen}
use Rattle.sccs_disk.specs.declared.changes.Change.{Change}
use Rattle.sccs_disk.specs.declared.disks.DiskRefusal.{DiskRefusal}
use Rattle.sccs_disk.specs.declared.disks.DiskRefusal.TheVariants as fault

pub half_same : (e : Effect) (old new : Told) → new ≡ old → Half e old new
half_same e old new same = record { view = inl (ap seen same); model = λ m past is. inl same }

pub writes_by : (r : Result (Unit {0}) DiskRefusal) (change : Result Change Memory) (e : Effect) (old new : Told)
    (faults faults_after : ℕ) → OnOk r (IfOk change (λ c. Done (change_effect c) old new))
    → OnErr r (new ≡ old) → OnOk r (IsOk change) → IfOk change (λ c. (a b : Told) → Done (change_effect c) a b
    → Done e a b) → faults ≤ faults_after
    → (IsErrOf r fault.Failed → Rose faults faults_after) → Writes e old new faults faults_after r
writes_by (Ok x) (Ok c) e old new faults faults_after done same made of later cause =
    record { done = of old new done; half = λ is. cc; memory = λ is. cc; later = later; cause = cause }
writes_by (Ok x) (Err m) e old new faults faults_after done same made of later cause = cc
writes_by (Err f) change e old new faults faults_after done same made of later cause =
    record { done = tt; half = λ is. half_same e old new same; memory = λ is. same; later = later; cause = cause }
