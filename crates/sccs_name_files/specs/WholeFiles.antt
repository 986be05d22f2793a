-- A file that is read whole.
use Rattle.std.specs.Prelude.{◌≡◌, ℕ, ◌<◌, ◌≤◌, Bool, true, false, List, length, take, Option, None, Some}
use Rattle.std.specs.Prelude.{option_and_then, option_map, Result, Ok, Err}
use Rattle.sccs_base.specs.Constants.{file_limit}
use Rattle.sccs_disk.specs.Files.{Content, View}
use Rattle.sccs_name_files.specs.declared.whole_files.WholeFault.{WholeFault}
use Rattle.sccs_name_files.specs.declared.whole_files.WholeFault.TheVariants.{Missing, TooLong, Failed, Memory}

-- the bytes of a file that is told
abbrev pub file_bytes : Option View → List ℕ → Option (List ℕ)
file_bytes told name = option_and_then (λ (v : View). option_map (λ (c : Content). c.bytes) (v name)) told

-- what is read of a file goes on to its end
abbrev pub ReadsToEnd : List ℕ → List ℕ → List ℕ → Result Bool WholeFault → Type 0
ReadsToEnd bytes old new (Ok true) = old ≡ take (length old) bytes → new ≡ take (length new) bytes
ReadsToEnd bytes old new (Ok false) = old ≡ take (length old) bytes → new ≡ bytes
ReadsToEnd bytes old new (Err TooLong) = file_limit < length bytes
ReadsToEnd bytes old new (Err fault) = Unit {0}

-- all its bytes; or it isn't there, or is too long; or reading failed
abbrev pub AnswersWhole : Option Content → Result (List ℕ) WholeFault → Type 0
AnswersWhole (Some c) (Ok bytes) = (bytes ≡ c.bytes) × (length bytes ≤ file_limit)
AnswersWhole None (Ok bytes) = ⊥
AnswersWhole o (Err Missing) = o ≡ None
AnswersWhole (Some c) (Err TooLong) = file_limit < length c.bytes
AnswersWhole None (Err TooLong) = ⊥
AnswersWhole o (Err Failed) = Unit {0}
AnswersWhole o (Err Memory) = Unit {0}
