-- A call that writes one file: no other file changes, and no name does.
use Rattle.std.specs.Prelude.{◌≡◌, ℕ, List, IfSome, IsSome}
use Rattle.std.specs.Str.{bytes_eq}
use Rattle.sccs_disk.specs.Files.{Model}
use Rattle.sccs_disk.specs.Told.{Told, Tells, seen}
use Rattle.sccs_name_files.specs.Touches.{Grew}
use Rattle.sccs_name_files.specs.StepFiles.{Moves}

-- At most the file under a name changes, and it stays there.
pub record OnlyWrites (n : List ℕ) (old new : Told) : Type 0 where
  pub view : Moves (bytes_eq n) (λ v. v) (seen old) (seen new)
  pub there : IfSome (seen old) (λ v. IsSome (v n)) → IfSome (seen new) (λ v. IsSome (v n))
  pub story : (m : Model) (past : List Model) → old ≡ Tells m past → Grew n m past new
