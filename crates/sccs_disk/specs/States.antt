-- Files in memory as they are now, and what a change makes of them.
use Rattle.std.specs.Prelude.{◌≡◌, ℕ, ◌<◌, Bool, true, false, List, [], ◌∷◌, ◌++◌, length, None, Some, option_map}
use Rattle.sccs_disk.specs.Files.{View, Names, Model, names, file_at, put, apply_operation}
use Rattle.sccs_disk.specs.Files as op
use Rattle.sccs_disk.specs.Effects.{Effect, change, loose, firm, appended, overwritten, protected, empty_file, creating}
use Rattle.sccs_disk.specs.Effects.{appending, overwriting, protecting, syncing, renaming, removing, syncing_names}
use Rattle.sccs_disk.specs.declared.changes.StoredFile.{StoredFile}
use Rattle.sccs_disk.specs.declared.changes.FileChange.{FileChange}
use Rattle.sccs_disk.specs.declared.changes.FileChange.TheVariants as file
use Rattle.sccs_disk.specs.declared.changes.Change.{Change}
use Rattle.sccs_disk.specs.declared.changes.Change.TheVariants.{Create, File, Rename, Remove, SyncNames}

-- files by their places, and the place of each name
pub record State : Type 0 where
  pub files : List op.File
  pub names : Names

-- those of a model, all pending operations made
abbrev pub state : Model → State
state m = record { files = m.files; names = names m }

abbrev pub stored : StoredFile → op.File
stored f = record { content = record { bytes = f.bytes.items; writable = f.writable }; firm = f.firm }

abbrev pub empty_state : State
empty_state = record { files = []; names = λ n. None }

-- a file more, under a name
abbrev pub state_put : List ℕ → op.File → State → State
state_put n f s = record { files = s.files ++ f ∷ []; names = put s.names n (Some (length s.files)) }

-- what stands under each name
abbrev pub shown : State → View
shown s n = option_map (λ (f : op.File). f.content) (file_at s.files (s.names n))

-- Every name leads to a file, and no two names to one.
pub record AreNamesPlaced (s : State) : Type 0 where
  pub within : (n : List ℕ) (p : ℕ) → s.names n ≡ Some p → p < length s.files
  pub apart : (a b : List ℕ) (p : ℕ) → s.names a ≡ Some p → s.names b ≡ Some p → a ≡ b

abbrev pub file_changed : FileChange → op.File → op.File
file_changed (file.Append bytes) f = loose (appended bytes.items f.content)
file_changed (file.WriteAt from bytes) f = loose (overwritten from bytes.items f.content)
file_changed file.Protect f = loose (protected f.content)
file_changed file.Sync f = firm f.content

abbrev pub made : Change → State → State
made (Create n) s = state_put n (loose empty_file) s
made (File n c) s = record { files = change s.files (s.names n) (file_changed c); names = s.names }
made (Rename a b) s = record { files = s.files; names = apply_operation (op.Rename a b) s.names }
made (Remove n) s = record { files = s.files; names = apply_operation (op.Remove n) s.names }
made SyncNames s = s

abbrev pub file_effect : List ℕ → FileChange → Effect
file_effect n (file.Append bytes) = appending n bytes.items
file_effect n (file.WriteAt from bytes) = overwriting n from bytes.items
file_effect n file.Protect = protecting n
file_effect n file.Sync = syncing n

abbrev pub change_effect : Change → Effect
change_effect (Create n) = creating n
change_effect (File n c) = file_effect n c
change_effect (Rename a b) = renaming a b
change_effect (Remove n) = removing n
change_effect SyncNames = syncing_names

-- whether a change may want memory
abbrev pub takes_memory : Change → Bool
takes_memory (Create n) = true
takes_memory (File n (file.Append bytes)) = true
takes_memory (File n (file.WriteAt from bytes)) = true
takes_memory (File n file.Protect) = false
takes_memory (File n file.Sync) = false
takes_memory (Rename a b) = false
takes_memory (Remove n) = false
takes_memory SyncNames = false
