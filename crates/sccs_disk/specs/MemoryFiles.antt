-- The story of a disk in memory, from the calls that were made, and what a stop leaves of it.
use Rattle.std.specs.Prelude.{◌≡◌, ℕ, ◌+◌, true, List, [], ◌∷◌, ◌++◌, length, map, take, replicate, Option, None, Some}
use Rattle.std.specs.Prelude.{option_map, cond, nat_le}
use Rattle.std.specs.List.{All}
use Rattle.std.specs.Ordering.{nat_cmp, eq_by_cmp}
use Rattle.std.specs.Cmp.Lexicographic.{slice_cmp}
use Rattle.std.specs.Str.{bytes_eq}
use Rattle.std.proofs.Common.{◌∙◌}
use Rattle.std.proofs.lemmas.Map.Text.{is_eq-slice_cmp}
use Rattle.sccs_base.proofs.SameBytes.{bytes_eq_sym}
use Rattle.sccs_disk.specs.Effects.{firm}
use Rattle.sccs_disk.specs.Files.{Content, View, Model, names_at, file_at, put}
use Rattle.sccs_disk.specs.Files as op
use Rattle.sccs_disk.specs.States.{State, change_effect, made}
use Rattle.sccs_disk.specs.Told.{Told, Tells}
use Rattle.sccs_disk.specs.declared.changes.Change.{Change}
use Rattle.sccs_disk.specs.declared.changes.Change.TheVariants.{Create, File, Rename, Remove, SyncNames}
use Rattle.sccs_disk.specs.declared.fills.Fill.{Fill}
use Rattle.sccs_disk.specs.declared.fills.Fill.TheVariants.{Empty, Written, Junk}

-- the model after these calls, the first of them first; None stands for a call that changed nothing
abbrev pub model_after : Model → List (Option Change) → Model
model_after m [] = m
model_after m (None ∷ log) = model_after m log
model_after m (Some c ∷ log) = model_after ((change_effect c).model m) log

-- those before it, the newest first
abbrev pub past_after : Model → List Model → List (Option Change) → List Model
past_after m past [] = past
past_after m past (None ∷ log) = past_after m past log
past_after m past (Some c ∷ log) = past_after ((change_effect c).model m) (m ∷ past) log

-- a record of calls with one more, within the room
abbrev pub noted : ℕ → ℕ → List (Option Change) → List (Option Change)
noted call room log = cond (nat_le call room) (log ++ None ∷ []) log

-- a disk to which no call was made
abbrev pub model_of : State → Model
model_of s = record { files = s.files; base = s.names; pending = [] }

abbrev pub told_after : State → List (Option Change) → Told
told_after s log = Tells (model_after (model_of s) log) (past_after (model_of s) [] log)

-- what takes the place of bytes that aren't firm
abbrev pub filling : Fill → List ℕ → List ℕ
filling Empty bytes = []
filling Written bytes = bytes
filling (Junk b) bytes = replicate (length bytes) b

abbrev pub filled : Fill → op.File → Content
filled fill f = record {
  bytes = cond f.firm f.content.bytes (filling fill f.content.bytes);
  writable =
      f.content.writable;
}

-- What a stop leaves that makes the first j pending operations.
abbrev pub left_by_stop : Model → ℕ → Fill → View
left_by_stop m j fill n = option_map (filled fill) (file_at m.files (names_at m j n))

-- so many files, as it leaves them
abbrev pub left_files : Fill → ℕ → List op.File → List op.File
left_files fill count files = map (λ f. firm (filled fill f)) (take count files)

abbrev pub IsFirmFile : op.File → Type 0
IsFirmFile f = f.firm ≡ true

-- every file is firm, and nothing is pending
pub record IsSettled (m : Model) : Type 0 where
  pub files : All IsFirmFile m.files
  pub pending : m.pending ≡ []

-- a firm file more, under a name of the base
abbrev pub with_placed : List ℕ → Content → Model → Model
with_placed n c m = record {
  files = m.files ++ firm c ∷ [];
  base = put m.base n (Some (length m.files));
  pending =
      m.pending;
}

-- what a call makes of the model
abbrev pub entry_model : Option Change → Model → Model
entry_model None m = m
entry_model (Some c) m = (change_effect c).model m

abbrev pub entry_state : Option Change → State → State
entry_state None s = s
entry_state (Some c) s = made c s

-- how many name operations are pending after a call
abbrev pub pending_after : Option Change → ℕ → ℕ
pending_after None count = count
pending_after (Some (Create n)) count = count + 1
pending_after (Some (File n c)) count = count
pending_after (Some (Rename a b)) count = count + 1
pending_after (Some (Remove n)) count = count + 1
pending_after (Some SyncNames) count = 0

-- the order of names and their equality agree
pub same_test : (q k : List ℕ) → eq_by_cmp (slice_cmp nat_cmp) q k ≡ bytes_eq k q
same_test q k = is_eq-slice_cmp q k ∙ bytes_eq_sym q k
