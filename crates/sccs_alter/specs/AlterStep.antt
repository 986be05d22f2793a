-- What admin does with an s-file that is there: POSIX, Shell and Utilities, admin, -a, -e, -f, -d, -t and -z.
use Rattle.std.specs.Prelude.{ℕ, nat_le, Bool, true, false, List, [], ◌∷◌, length, Option, is_some, Result, Ok}
use Rattle.sccs_base.specs.Constants.{file_limit}
use Rattle.sccs_disk.specs.Files.{Content}
use Rattle.sccs_sid.specs.Reading.{◌>>=◌}
use Rattle.sccs_sid.specs.Refusal.{number_of}
use Rattle.sccs_sid.specs.declared.refusals.Refusal.{Refusal}
use Rattle.sccs_sid.specs.declared.refusals.Refusal.TheVariants.{Missing, TooLong}
use Rattle.sccs_sid.specs.declared.refusals.Refusal.TheVariants as refusals
use Rattle.sccs_grammar.specs.AnySum.{unsummed_file}
use Rattle.sccs_grammar.specs.File.{Parsed, answer, file_of}
use Rattle.sccs_grammar.specs.declared.faults.FileFault.{FileFault}
use Rattle.sccs_grammar.specs.FileRefusals.{or_refusal}
use Rattle.sccs_history.specs.declared.headers.Header.{Header}
use Rattle.sccs_rules.specs.Flags.{changed_flags}
use Rattle.sccs_rules.specs.Rules.{with_rules}
use Rattle.sccs_rules.specs.Users.{changed_users}
use Rattle.sccs_changes.specs.Pending.{bytes_at}
use Rattle.sccs_steps.specs.Actions.{Step, quiet_checks}
use Rattle.sccs_steps.specs.StepEffects.{check}
use Rattle.sccs_store.specs.SealedFiles.{sealed}
use Rattle.sccs_changes.specs.Changes.{Changing}
use Rattle.sccs_words.specs.declared.commands.AdminWords.{AdminWords}
use Rattle.sccs_words.specs.declared.commands.Given.{Given}
use Rattle.sccs_admin.specs.AdminStep.{makes}
use Rattle.sccs_admin.specs.Rules.{described, or_bad_flag}
use Rattle.sccs_admin.specs.Texts.{named_by, source}

-- the refusals of admin on an s-file that is there, by their numbers
abbrev pub alter_checks : List ℕ
alter_checks =
    number_of refusals.Locked ∷ number_of refusals.Missing ∷ number_of refusals.TooLong
    ∷ number_of refusals.NotSccs ∷ number_of (refusals.BadSum 0 0) ∷ number_of (refusals.BadFormat 0)
    ∷ number_of refusals.Encoded ∷ number_of (refusals.BadText 0) ∷ number_of (refusals.FlagBad 0)
    ∷ number_of (refusals.Changed 0 0 0 0) ∷ []

-- the bytes of the file that -t names, or that it isn't there or is too long
unfoldable pub description_text : Given → List (Option Content) → Result (List ℕ) Refusal
description_text given named = do
  text ← source given [] named
  short ← check (nat_le (length text) file_limit) TooLong
  Ok text

-- What was read: the s-file, and the text that -t names.
pub record WasRead : Type 0 where
  pub parsed : Parsed
  pub text : List ℕ

-- how the s-file is read: with -z its stored sum is passed over
abbrev pub file_read : Bool → List ℕ → Result Parsed FileFault
file_read true bytes = unsummed_file bytes
file_read false bytes = file_of bytes

-- what is read, or the first check that fails: a file isn't there, one is too long, or the s-file isn't one
unfoldable pub read_file : AdminWords → List (Option Content) → Option Content → Result WasRead Refusal
read_file words named s = do
  there ← check (is_some s) Missing
  text ← description_text words.description named
  parsed ← or_refusal (answer (file_read words.fix) (bytes_at s))
  Ok (record { parsed = parsed; text = text })

-- the header with other users, flags and description
unfoldable pub altered_header : AdminWords → Header → List ℕ → Result Header Refusal
altered_header words h text = do
  description ← described words.description h.description text
  flags ← or_bad_flag (changed_flags h.flags words.set words.unset)
  Ok (with_rules h (changed_users h.users words.add words.erase) flags description)

-- the s-file with that header, and its body as it was
unfoldable pub alter_outcome : AdminWords → Step
alter_outcome words n input named f = do
  read ← read_file words named f.s
  header ← altered_header words read.parsed.header read.text
  makes (sealed header read.parsed.items) f

abbrev pub alter_change : AdminWords → Changing
alter_change words = record {
  outcome = alter_outcome words;
  named = λ n. named_by words.description;
  takes = false;
  silent = true;
  early = false;
  could = quiet_checks alter_checks;
}
