-- Checks of the files of a delta by their sizes.
use Rattle.std.specs.Prelude.{◌≡◌, ℕ, nat_le, Bool, List, length, Option, Result, Ok, Err, is_some}
use Rattle.sccs_base.specs.Constants.{file_limit}
use Rattle.sccs_sid.specs.Reading.{◌>>=◌}
use Rattle.sccs_sid.specs.declared.refusals.StepFault.{StepFault}
use Rattle.sccs_sid.specs.declared.refusals.StepFault.TheVariants.{Refused, Memory, ReadFault, WriteFault, DiskFault}
use Rattle.sccs_disk.specs.Files.{Content}
use Rattle.sccs_sid.specs.declared.refusals.Refusal.{Refusal}
use Rattle.sccs_sid.specs.declared.refusals.Refusal.TheVariants.{Missing, TooLong}
use Rattle.sccs_steps.specs.StepEffects.{check}
use Rattle.sccs_changes.specs.PFiles.{is_short}

-- the s-file is there
abbrev pub s_is_there : Option Content → Result Bool Refusal
s_is_there s = check (is_some s) Missing

-- a file isn't longer than it may be
abbrev pub is_short_enough : Option Content → Result Bool Refusal
is_short_enough o = check (is_short o) TooLong

-- a script isn't longer than a file may be
abbrev pub script_is_short : List ℕ → Result Bool Refusal
script_is_short script = check (nat_le (length script) file_limit) TooLong

-- the s-file is there, and the input isn't longer than a file may be
unfoldable pub heard : List ℕ → Option Content → Result Bool Refusal
heard i s = do
  there ← s_is_there s
  script_is_short i

-- the input, or why it isn't taken
abbrev pub HearsScript : List ℕ → Option Content → Result (List ℕ) StepFault → Type 0
HearsScript i s (Ok script) = script ≡ i
HearsScript i s (Err (Refused refusal)) = heard i s ≡ Err refusal
HearsScript i s (Err Memory) = Unit {0}
HearsScript i s (Err ReadFault) = Unit {0}
HearsScript i s (Err WriteFault) = ⊥
HearsScript i s (Err DiskFault) = Unit {0}
