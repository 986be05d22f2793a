-- What admin does with a name that is to become an s-file: POSIX, Shell and Utilities, admin, -n and -i, with -a, -f,
-- -m, -r, -t and -y.
use Rattle.std.specs.Prelude.{ℕ, true, false, List, [], ◌∷◌, ◌++◌, drop, length, nat_le, unwrap_or, Option, Some}
use Rattle.std.specs.Prelude.{is_none, None, Result, Ok}
use Rattle.sccs_base.specs.Constants.{file_limit}
use Rattle.sccs_base.specs.Cut.{text_of}
use Rattle.sccs_sid.specs.Moment.{IsMoment}
use Rattle.sccs_sid.specs.Reading.{◌>>=◌}
use Rattle.sccs_sid.specs.Refusal.{number_of}
use Rattle.sccs_sid.specs.Sid.{IsComponent}
use Rattle.sccs_sid.specs.declared.moments.Stamp.{Stamp}
use Rattle.sccs_sid.specs.declared.refusals.Refusal.TheVariants.{Exists, TooLong}
use Rattle.sccs_sid.specs.declared.refusals.Refusal.TheVariants as refusals
use Rattle.sccs_sid.specs.declared.refusals.Refusal.{Refusal}
use Rattle.sccs_disk.specs.Files.{Content}
use Rattle.sccs_name_files.specs.StepFiles.{Files}
use Rattle.sccs_steps.specs.StepEffects.{Outcome, check}
use Rattle.sccs_steps.specs.Actions.{Step, quiet_checks}
use Rattle.sccs_changes.specs.Changes.{Changing}
use Rattle.sccs_words.specs.declared.commands.AdminWords.{AdminWords}
use Rattle.sccs_admin.specs.NewFiles.{new_content}
use Rattle.sccs_admin.specs.Rules.{new_rules}
use Rattle.sccs_admin.specs.Texts.{named_by, source, takes_input}
use Rattle.sccs_admin.specs.declared.finding.NewTexts.{NewTexts}

-- the refusals of admin on a new file, by their numbers
abbrev pub admin_checks : List ℕ
admin_checks =
    number_of refusals.Locked ∷ number_of refusals.Missing ∷ number_of refusals.Exists
    ∷ number_of refusals.TooLong ∷ number_of (refusals.BadText 0) ∷ number_of refusals.NoKeywords
    ∷ number_of (refusals.FlagBad 0) ∷ number_of refusals.MrNeeded ∷ number_of refusals.MrNotAllowed
    ∷ number_of (refusals.Unsupported 0) ∷ []

-- the new s-file, and all else as it was
abbrev pub makes : Content → Files → Outcome
makes content f = Ok (record {
  new = Some (record { s = Some content; p = f.p; z = None; g = f.g; l = f.l });
  text = [];
  out = [];
  err = [];
  status = 0;
})

-- the files that are named: that of -i, and that of -t
abbrev pub named_in : AdminWords → List (List ℕ)
named_in words = named_by words.text ++ named_by words.description

-- the text of the new file and that of its description; or the first check that fails: a named file isn't there, the
-- s-file is, or a text is too long
unfoldable pub found_texts : AdminWords → List ℕ → List (Option Content) → Option Content → Result NewTexts Refusal
found_texts words input named s = do
  text ← source words.text input named
  description ← source words.description [] (drop (length (named_by words.text)) named)
  fresh ← check (is_none s) Exists
  short ← check (nat_le (length text) file_limit) TooLong
  brief ← check (nat_le (length description) file_limit) TooLong
  Ok (record { text = text; description = description })

-- a new s-file of these texts, where the checks on them and on the words pass
unfoldable pub admin_outcome : AdminWords → Stamp → Step
admin_outcome words stamp n input named f = do
  texts ← found_texts words input named f.s
  rules ← new_rules words texts
  makes (new_content words stamp rules (text_of texts.text)) f

abbrev pub admin_change : AdminWords → Stamp → Changing
admin_change words stamp = record {
  outcome = admin_outcome words stamp;
  named = λ n. named_in words;
  takes =
      takes_input words.text;
  silent = true;
  early = false;
  could = quiet_checks admin_checks;
}

-- The release and the moment are valid ones.
pub record AreAdminValues (words : AdminWords) (stamp : Stamp) : Type 0 where
  pub release : IsComponent (unwrap_or words.release 1)
  pub moment : IsMoment stamp.moment
