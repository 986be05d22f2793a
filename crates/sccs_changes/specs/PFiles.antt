-- The p-file of a name, read whole. One that isn't there has no entries.
use Rattle.std.specs.Prelude.{◌≡◌, ◌≢◌, ℕ, ◌≤◌, nat_le, Bool, true, List, [], ◌∷◌, length, Option, None, Some, Result}
use Rattle.std.specs.Prelude.{Ok, Err}
use Rattle.sccs_base.specs.Constants.{file_limit}
use Rattle.sccs_base.specs.Stream.{Rose}
use Rattle.sccs_disk.specs.Files.{Content}
use Rattle.sccs_disk.specs.Told.{Told}
use Rattle.sccs_sid.specs.Reading.{◌>>=◌}
use Rattle.sccs_sid.specs.Refusal.{number_of}
use Rattle.sccs_sid.specs.declared.refusals.Refusal.{Refusal}
use Rattle.sccs_sid.specs.declared.refusals.Refusal.TheVariants.{BadPfile, TooLong}
use Rattle.sccs_sid.specs.declared.refusals.StepFault.{StepFault}
use Rattle.sccs_sid.specs.declared.refusals.StepFault.TheVariants.{Refused, Memory, ReadFault, WriteFault, DiskFault}
use Rattle.sccs_steps.specs.StepEffects.{check}
use Rattle.sccs_pfile.specs.Reading.{edits_of}
use Rattle.sccs_pfile.specs.declared.entries.Edit.{Edit}

-- the bytes of a file; none where it isn't there
abbrev pub bytes_or_none : Option Content → List ℕ
bytes_or_none None = []
bytes_or_none (Some c) = c.bytes

-- it isn't longer than a file may be
abbrev pub is_short : Option Content → Bool
is_short p = nat_le (length (bytes_or_none p)) file_limit

abbrev pub or_bad_pfile : Result (List Edit) ℕ → Result (List Edit) Refusal
or_bad_pfile (Ok edits) = Ok edits
or_bad_pfile (Err line) = Err (BadPfile line)

-- the entries of a p-file; or it is too long, or a line of it is none
unfoldable pub entries_of : Option Content → Result (List Edit) Refusal
entries_of p = do
  short ← check (is_short p) TooLong
  or_bad_pfile (edits_of (bytes_or_none p))

-- What a call that only reads answers: what is found, or why not. Of want of memory and a failing disk nothing is said.
abbrev pub Answers : {A : Type 0} → Result A Refusal → Result A StepFault → Type 0
Answers found (Ok x) = found ≡ Ok x
Answers found (Err (Refused refusal)) = found ≡ Err refusal
Answers found (Err Memory) = Unit {0}
Answers found (Err DiskFault) = Unit {0}
Answers found (Err ReadFault) = ⊥
Answers found (Err WriteFault) = ⊥

-- the same of a check
abbrev pub PassesCheck : Result Bool Refusal → Result (Unit {0}) StepFault → Type 0
PassesCheck found (Ok done) = found ≡ Ok true
PassesCheck found (Err (Refused refusal)) = found ≡ Err refusal
PassesCheck found (Err Memory) = Unit {0}
PassesCheck found (Err DiskFault) = Unit {0}
PassesCheck found (Err ReadFault) = ⊥
PassesCheck found (Err WriteFault) = ⊥

-- A call of a step that only reads a disk.
pub record OnlyReads {D T : Type 0} (told : D → Told) (faults : D → ℕ) (disk disk2 : D)
    (result : Result T StepFault) : Type 0 where
  pub same : told disk2 ≡ told disk
  pub later : faults disk ≤ faults disk2
  pub cause : result ≡ Err DiskFault → Rose (faults disk) (faults disk2)
  pub read : result ≢ Err ReadFault
  pub write : result ≢ Err WriteFault

-- A call of a step that changes a disk: it fails only where that did.
pub record ChangesDisk {D T : Type 0} (faults : D → ℕ) (disk disk2 : D) (result : Result T StepFault) : Type 0 where
  pub later : faults disk ≤ faults disk2
  pub cause : result ≡ Err DiskFault → Rose (faults disk) (faults disk2)
  pub read : result ≢ Err ReadFault
  pub write : result ≢ Err WriteFault

-- the bytes of the p-file, or that they are too many
abbrev pub short_bytes : Option Content → Result (List ℕ) Refusal
short_bytes p = check (is_short p) TooLong >>= λ short. Ok (bytes_or_none p)

-- ---- the numbers of its checks: its size, the entries of its bytes, both

abbrev pub size_checks : List ℕ
size_checks = number_of TooLong ∷ []

abbrev pub entry_checks : List ℕ
entry_checks = number_of (BadPfile 0) ∷ []

abbrev pub pfile_checks : List ℕ
pfile_checks = number_of TooLong ∷ number_of (BadPfile 0) ∷ []
