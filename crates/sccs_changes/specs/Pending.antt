-- An s-file and its pending edits, as get -e, delta and unget find them (POSIX, each). The order of the checks is
-- own: each size is judged before any content.
use Rattle.std.specs.Prelude.{◌≡◌, ℕ, ◌&&◌, List, [], ◌∷◌, Option, None, Some, is_some, option_map, Bool, true, Result}
use Rattle.std.specs.Prelude.{Ok, Err}
use Rattle.sccs_disk.specs.Files.{Content}
use Rattle.sccs_sid.specs.Reading.{◌>>=◌}
use Rattle.sccs_sid.specs.Refusal.{number_of}
use Rattle.sccs_sid.specs.declared.refusals.Refusal.{Refusal}
use Rattle.sccs_sid.specs.declared.refusals.Refusal.TheVariants.{Disagree, Missing, TooLong}
use Rattle.sccs_sid.specs.declared.refusals.Refusal.TheVariants as refusals
use Rattle.sccs_sid.specs.declared.refusals.StepFault.{StepFault}
use Rattle.sccs_sid.specs.declared.refusals.StepFault.TheVariants as step
use Rattle.sccs_grammar.specs.File.{Parsed, answer, file_of}
use Rattle.sccs_grammar.specs.FileRefusals.{or_refusal}
use Rattle.sccs_body.specs.BodyFile.{ShowsFile}
use Rattle.sccs_steps.specs.StepEffects.{check}
use Rattle.sccs_pfile.specs.Agreement.{first_disagreeing}
use Rattle.sccs_pfile.specs.Reading.{edits_of}
use Rattle.sccs_pfile.specs.declared.entries.Edit.{Edit}
use Rattle.sccs_changes.specs.PFiles.{bytes_or_none, is_short, or_bad_pfile}
use Rattle.sccs_changes.specs.declared.pending.Pending.{Pending}

-- the header and items of an s-file, and the entries of its p-file
pub record Found : Type 0 where
  pub parsed : Parsed
  pub edits : List Edit

abbrev pub bytes_at : Option Content → Option (List ℕ)
bytes_at found = option_map (λ (c : Content). c.bytes) found

abbrev pub agreeing : Option ℕ → Result Bool Refusal
agreeing None = Ok true
agreeing (Some entry) = Err (Disagree entry)

-- the numbers of these checks, of those of a size and of those on a table
abbrev pub pending_checks : List ℕ
pending_checks =
    number_of refusals.Missing ∷ number_of refusals.TooLong ∷ number_of refusals.NotSccs
    ∷ number_of (refusals.BadSum 0 0) ∷ number_of (refusals.BadFormat 0) ∷ number_of refusals.Encoded
    ∷ number_of (refusals.BadPfile 0) ∷ number_of (refusals.Disagree 0) ∷ []

abbrev pub sfile_size_checks : List ℕ
sfile_size_checks = number_of refusals.Missing ∷ number_of refusals.TooLong ∷ []

abbrev pub agreement_checks : List ℕ
agreement_checks = number_of (refusals.Disagree 0) ∷ []

-- What is found in an s-file and a p-file; or the first check that fails: there is no s-file, one of the two is too
-- long, the s-file isn't one, a line of the p-file is no entry, or an entry doesn't agree with the table.
unfoldable pub pending_of : Option Content → Option Content → Result Found Refusal
pending_of s p = do
  there ← check (is_some s) Missing
  short ← check (is_short s && is_short p) TooLong
  parsed ← or_refusal (answer file_of (bytes_at s))
  edits ← or_bad_pfile (edits_of (bytes_or_none p))
  agreed ← agreeing (first_disagreeing parsed.header.records edits)
  Ok (record { parsed = parsed; edits = edits })

-- the front and the entries are those that are found, or a check fails; of want of memory and a failing disk nothing is
-- said
abbrev pub AnswersPending : Option Content → Option Content → Result Pending StepFault → Type 0
AnswersPending s p (Ok x) = (parsed : Parsed) × ShowsFile (bytes_at s) parsed x.front
    × (pending_of s p ≡ Ok (record { parsed = parsed; edits = x.edits }))
AnswersPending s p (Err (step.Refused refusal)) = pending_of s p ≡ Err refusal
AnswersPending s p (Err step.Memory) = Unit {0}
AnswersPending s p (Err step.DiskFault) = Unit {0}
AnswersPending s p (Err step.ReadFault) = ⊥
AnswersPending s p (Err step.WriteFault) = ⊥

-- the s-file is there, and not too long
abbrev pub sized : Option Content → Result Bool Refusal
sized s = check (is_some s) Missing >>= λ there. check (is_short s) TooLong
