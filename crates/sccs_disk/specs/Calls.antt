-- What a call that changes files says: of what the disk tells before and after it, and of its count of faults.
use Rattle.std.specs.Prelude.{◌≡◌, ◌↔◌, ℕ, ◌+◌, ◌≤◌, ◌⊎◌, List, ◌∷◌, length, Option, None, Some, option_map, Result}
use Rattle.std.specs.Prelude.{IsSome, IsErrOf, IfSome, OnOk, OnErr}
use Rattle.sccs_base.specs.Stream.{Rose}
use Rattle.sccs_base.specs.declared.streams.Failed.{Failed}
use Rattle.sccs_disk.specs.Files.{Content, View, Model}
use Rattle.sccs_disk.specs.Told.{Told, Tells, seen}
use Rattle.sccs_disk.specs.Effects.{Effect, creating}
use Rattle.sccs_disk.specs.declared.disks.Creation.{Creation}
use Rattle.sccs_disk.specs.declared.disks.Creation.TheVariants.{Created, Exists}
use Rattle.sccs_disk.specs.declared.disks.DiskRefusal.{DiskRefusal}
use Rattle.sccs_disk.specs.declared.disks.DiskRefusal.TheVariants as fault

-- The call was made: the view is changed where one is told, and a story grows by one model.
pub record Done (e : Effect) (old new : Told) : Type 0 where
  pub view : seen new ≡ option_map e.view (seen old)
  pub model : (m : Model) (past : List Model) → old ≡ Tells m past → new ≡ Tells (e.model m) (m ∷ past)

-- The call failed: nothing changed, or half of it was made.
pub record Half (e : Effect) (old new : Told) : Type 0 where
  pub view : (seen new ≡ seen old) ⊎ ((v w : View) × (seen old ≡ Some v) × (seen new ≡ Some w) × e.half_view v w)
  pub model : (m : Model) (past : List Model) → old ≡ Tells m past → (new ≡ old)
      ⊎ ((m2 : Model) × (new ≡ Tells m2 (m ∷ past)) × e.half m m2)

-- a call that takes no memory
pub record Changes {T : Type 0} (e : Effect) (old new : Told) (faults faults_after : ℕ)
    (result : Result T Failed) : Type 0 where
  pub done : OnOk result (Done e old new)
  pub half : OnErr result (Half e old new)
  pub later : faults ≤ faults_after
  pub cause : OnErr result (Rose faults faults_after)

-- a call that takes memory: without it nothing changed
pub record Writes {T : Type 0} (e : Effect) (old new : Told) (faults faults_after : ℕ)
    (result : Result T DiskRefusal) : Type 0 where
  pub done : OnOk result (Done e old new)
  pub half : IsErrOf result fault.Failed → Half e old new
  pub memory : IsErrOf result fault.Memory → new ≡ old
  pub later : faults ≤ faults_after
  pub cause : IsErrOf result fault.Failed → Rose faults faults_after

-- an empty file is made, or the name is there
abbrev pub Creates : List ℕ → Told → Told → Creation → Type 0
Creates n old new Created = Done (creating n) old new
Creates n old new Exists = new ≡ old

-- where the view is told, the name is there
abbrev pub IsThere : List ℕ → Told → Type 0
IsThere n told = IfSome (seen told) (λ (v : View). IsSome (v n))

-- the file has so many bytes from there on
abbrev pub HasBytes : Option Content → ℕ → ℕ → Type 0
HasBytes None from count = ⊥
HasBytes (Some c) from count = from + count ≤ length c.bytes

-- where the view is told, the name's file has so many bytes from there on
abbrev pub HasRange : List ℕ → ℕ → ℕ → Told → Type 0
HasRange n from count told = IfSome (seen told) (λ (v : View). HasBytes (v n) from count)

-- where the view is told, the call found the name exactly where it is there
abbrev pub FindsName : Option View → List ℕ → Creation → Type 0
FindsName None n answer = Unit {0}
FindsName (Some v) n answer = (answer ≡ Exists) ↔ IsSome (v n)
