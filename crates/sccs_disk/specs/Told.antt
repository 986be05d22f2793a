-- What a disk tells of itself.
use Rattle.std.specs.Prelude.{List, Option, None, Some}
use Rattle.sccs_disk.specs.Files.{View, Model, view_of}

-- Nothing, its view alone, or its model with those that it had before, the newest first.
pub data Told : Type 0 where
  Nothing : Told
  Shows : (view : View) → Told
  Tells : (model : Model) → (past : List Model) → Told

-- the view, where it is told
abbrev pub seen : Told → Option View
seen Nothing = None
seen (Shows v) = Some v
seen (Tells m past) = Some (view_of m)
