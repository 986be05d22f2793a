-- A y-file that is finished, and a g-file that may be written.
use Rattle.std.specs.Prelude.{◌≡◌, ℕ, Bool, false, List, Option, None, Some}
use Rattle.sccs_disk.specs.Effects.{protected}
use Rattle.sccs_disk.specs.Files.{Content, View}
use Rattle.sccs_store.specs.declared.modes.Mode.{Mode}
use Rattle.sccs_store.specs.declared.modes.Mode.TheVariants.{Writable, Protected}

-- the mark stays as it is, or goes
abbrev pub finished : Mode → Content → Content
finished Writable c = c
finished Protected c = protected c

-- there, and it may be written
abbrev pub is_writable : Option Content → Bool
is_writable None = false
is_writable (Some c) = c.writable

-- where the view is told, whether the file of that name is there and may be written
abbrev pub MayWrite : Option View → List ℕ → Bool → Type 0
MayWrite None n answer = Unit {0}
MayWrite (Some v) n answer = answer ≡ is_writable (v n)
