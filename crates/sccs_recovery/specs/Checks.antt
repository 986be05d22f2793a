-- The checks that recovery makes (own), and their order: no intent is there; and where a z-file is, the files of the
-- name can be read.
use Rattle.std.specs.Prelude.{◌≡◌, ◌≢◌, ◌∷◌, ℕ, Bool, true, List, [], length, nat_lt, Option, None, Some, is_some}
use Rattle.std.specs.Prelude.{option_map, Result, Ok, Err, if◌then◌else◌}
use Rattle.sccs_base.specs.Name.{p_file, z_file}
use Rattle.sccs_disk.specs.Files.{Content, View}
use Rattle.sccs_sid.specs.Reading.{◌>>=◌}
use Rattle.sccs_sid.specs.Refusal.{number_of}
use Rattle.sccs_sid.specs.declared.refusals.Refusal.{Refusal}
use Rattle.sccs_sid.specs.declared.refusals.Refusal.TheVariants.{BadIntent, BadPfile, GroupPending, TooLong}
use Rattle.sccs_sid.specs.declared.refusals.Refusal.TheVariants as refusals
use Rattle.sccs_sid.specs.declared.refusals.StepFault.{StepFault}
use Rattle.sccs_sid.specs.declared.refusals.StepFault.TheVariants.{Refused, ReadFault, WriteFault}
use Rattle.sccs_history.specs.declared.headers.Record.{Record}
use Rattle.sccs_grammar.specs.File.{answer, file_of}
use Rattle.sccs_grammar.specs.FileRefusals.{or_refusal}
use Rattle.sccs_table.specs.declared.fronts.Front.{Front}
use Rattle.sccs_pfile.specs.Reading.{edits_of}
use Rattle.sccs_intents.specs.Intents.{intent_file, intent_of}
use Rattle.sccs_intents.specs.declared.intents.IntentEntry.{IntentEntry}
use Rattle.sccs_crash_points.specs.Recovery.{recover_alone}
use Rattle.sccs_steps.specs.Actions.{RefusesWithin}
use Rattle.sccs_pfile.specs.declared.entries.Edit.{Edit}

-- a group whose intent is of its form is to be finished first; another intent is at fault at its first line that isn't
abbrev pub refuses_intent : Result (List IntentEntry) ℕ → Refusal
refuses_intent (Ok entries) = GroupPending
refuses_intent (Err line) = BadIntent line

-- no intent is there
abbrev pub none_pending : Option Content → Result Bool Refusal
none_pending None = Ok true
none_pending (Some c) = Err (refuses_intent (intent_of c.bytes))

-- the bytes of a file, where it is there; a file past the limit is refused
abbrev pub bytes_read : Option Content → Result (Option (List ℕ)) Refusal
bytes_read None = Ok None
bytes_read (Some c) = if nat_lt 1073741824 (length c.bytes) then Err TooLong else Ok (Some c.bytes)

-- the delta table of an s-file, where it is there
abbrev pub table_read : Option Content → Result (Option (List Record)) Refusal
table_read None = Ok None
table_read (Some c) = or_refusal (answer file_of (Some c.bytes)) >>= λ f. Ok (Some f.header.records)

abbrev pub as_pfile : Result (List Edit) ℕ → Result (List Edit) Refusal
as_pfile (Ok edits) = Ok edits
as_pfile (Err line) = Err (BadPfile line)

-- the entries of a p-file; none where it isn't there
abbrev pub entries_read : Option (List ℕ) → Result (List Edit) Refusal
entries_read None = Ok []
entries_read (Some bytes) = as_pfile (edits_of bytes)

-- The checks in their order: no file past the limit, an s-file that can be read where one is there, and a p-file.
unfoldable pub readable : Option Content → Option Content → Result Bool Refusal
readable s p = do
  bytes ← bytes_read p
  table ← table_read s
  edits ← entries_read bytes
  Ok true

-- the same of a view; they are made only where the z-file is there
abbrev pub checked : List ℕ → View → Result Bool Refusal
checked n v = if is_some (v (z_file n)) then readable (v n) (v (p_file n)) else Ok true

-- the same, where no intent is there
abbrev pub free_checked : List ℕ → View → Result Bool Refusal
free_checked n v = none_pending (v intent_file) >>= λ free. checked n v

-- what a call returned is what is read, or its refusal; a fault may come in place of either
abbrev pub ReadsOrRefuses : {A : Type 0} → Result A Refusal → Result A StepFault → Type 0
ReadsOrRefuses read (Ok x) = read ≡ Ok x
ReadsOrRefuses read (Err (Refused refusal)) = read ≡ Err refusal
ReadsOrRefuses read (Err fault) = Unit {0}

-- the table of a front that was read
abbrev pub table_in : Option Front → Option (List Record)
table_in front = option_map (λ (f : Front). f.header.records) front

abbrev pub ReadsTable : Result (Option (List Record)) Refusal → Result (Option Front) StepFault → Type 0
ReadsTable read (Ok front) = read ≡ Ok (table_in front)
ReadsTable read (Err (Refused refusal)) = read ≡ Err refusal
ReadsTable read (Err fault) = Unit {0}

-- the checks pass, or the first that fails is answered
abbrev pub PassesChecks : {A : Type 0} → Result Bool Refusal → Result A StepFault → Type 0
PassesChecks checks (Ok x) = checks ≡ Ok true
PassesChecks checks (Err (Refused refusal)) = checks ≡ Err refusal
PassesChecks checks (Err fault) = Unit {0}

-- an intent that is there refuses so, and a fault may come in place of it
abbrev pub RefusesIntent : Result (List IntentEntry) ℕ → StepFault → Type 0
RefusesIntent read (Refused refusal) = refusal ≡ refuses_intent read
RefusesIntent read fault = Unit {0}

-- the numbers of the checks; only where the disk tells nothing an s-file may be missing (3) that was there
abbrev pub recover_checks : List ℕ
recover_checks =
    number_of refusals.Missing ∷ number_of refusals.TooLong ∷ number_of refusals.NotSccs
    ∷ number_of (refusals.BadSum 0 0) ∷ number_of (refusals.BadFormat 0) ∷ number_of refusals.Encoded
    ∷ number_of (refusals.BadPfile 0) ∷ number_of refusals.GroupPending ∷ number_of (refusals.BadIntent 0) ∷ []

-- Only these checks refuse, and no stream fails.
pub record IsWithin {T : Type 0} (result : Result T StepFault) : Type 0 where
  pub checks : RefusesWithin recover_checks result
  pub read : result ≢ Err ReadFault
  pub write : result ≢ Err WriteFault

-- the view after recovery, where the checks pass
abbrev pub recovers_if : Result Bool Refusal → List ℕ → View → View
recovers_if (Ok passed) n v = recover_alone n v
recovers_if (Err refusal) n v = v
