-- Description and flags as admin's words say them, and the checks on a new file: POSIX, admin -t, -f, -d, -m;
-- sccsfile(4).
use Rattle.std.specs.Prelude.{ℕ, Bool, true, false, not, ◌&&◌, ◌||◌, List, [], ◌∷◌, option_map, unwrap_or, Result, Ok}
use Rattle.std.specs.Prelude.{Err}
use Rattle.std.specs.List.{list_any}
use Rattle.sccs_base.specs.Cut.{text_of}
use Rattle.sccs_sid.specs.Reading.{◌>>=◌, is_empty}
use Rattle.sccs_sid.specs.Refusal.{number_of}
use Rattle.sccs_sid.specs.declared.refusals.Refusal.{Refusal}
use Rattle.sccs_sid.specs.declared.refusals.Refusal.TheVariants.{BadText, FlagBad, MrNeeded, MrNotAllowed, NoKeywords}
use Rattle.sccs_sid.specs.declared.refusals.Refusal.TheVariants.{Unsupported}
use Rattle.sccs_history.specs.FlagText.{flag_i, flag_v}
use Rattle.sccs_history.specs.declared.headers.Flag.{Flag}
use Rattle.sccs_flags.specs.FlagValues.{flag_of, has_flag}
use Rattle.sccs_rules.specs.Flags.{changed_flags, sets_flag}
use Rattle.sccs_keywords.specs.Keywords.{is_keyword, parts}
use Rattle.sccs_steps.specs.StepEffects.{check}
use Rattle.sccs_words.specs.declared.commands.AdminWords.{AdminWords}
use Rattle.sccs_words.specs.declared.commands.Given.{Given}
use Rattle.sccs_words.specs.declared.commands.Given.TheVariants.{No, Bare, From}
use Rattle.sccs_admin.specs.Texts.{count_lines, or_bad_text}
use Rattle.sccs_admin.specs.declared.finding.NewTexts.{NewTexts}
use Rattle.sccs_admin.specs.declared.rules.NewRules.{NewRules}

-- lines of which none begins with SOH
abbrev pub bare_lines : List (List ℕ) → Result (List (List ℕ)) Refusal
bare_lines lines = or_bad_text (count_lines lines) >>= λ count. Ok lines

-- the description: as it was, none, or the lines of a text
abbrev pub described : Given → List (List ℕ) → List ℕ → Result (List (List ℕ)) Refusal
described No old text = Ok old
described Bare old text = Ok []
described (From name) old text = bare_lines (text_of text)

abbrev pub or_bad_flag : Result (List Flag) ℕ → Result (List Flag) Refusal
or_bad_flag (Ok flags) = Ok flags
or_bad_flag (Err letter) = Err (FlagBad letter)

-- the numbers of these checks
abbrev pub rule_checks : List ℕ
rule_checks = number_of (BadText 0) ∷ number_of (FlagBad 0) ∷ []

-- ---- a new file

abbrev pub text_has_keyword : List ℕ → Bool
text_has_keyword line = list_any is_keyword (parts line)

-- an option is given
abbrev pub is_given : Given → Bool
is_given No = false
is_given given = true

-- with -i, where the flag i is set, some line has a keyword
abbrev pub has_wanted_keyword : AdminWords → List (List ℕ) → Bool
has_wanted_keyword words lines = not (is_given words.text && sets_flag words.set flag_i) || list_any text_has_keyword
    lines

-- the flag has a text
abbrev pub has_text : List Flag → ℕ → Bool
has_text flags letter = unwrap_or (option_map (λ (f : Flag). not (is_empty f.text)) (flag_of flags letter)) false

-- MRs are given where the flag v is set, and only there; where it names a program they can't be
unfoldable pub mrs_fit : List Flag → List (List ℕ) → Result Bool Refusal
mrs_fit flags mrs = do
  needed ← check (not (has_flag flags flag_v && is_empty mrs)) MrNeeded
  allowed ← check (has_flag flags flag_v || is_empty mrs) MrNotAllowed
  check (is_empty mrs || not (has_text flags flag_v)) (Unsupported flag_v)

-- the flags of a new file, where its MRs are as they ask
unfoldable pub new_flags : AdminWords → Result (List Flag) Refusal
new_flags words = do
  flags ← or_bad_flag (changed_flags [] words.set words.unset)
  mrs ← mrs_fit flags words.mrs
  Ok flags

-- its description, where the text has a keyword if one is wanted
unfoldable pub new_description : AdminWords → NewTexts → Result (List (List ℕ)) Refusal
new_description words texts = do
  description ← described words.description [] texts.description
  keywords ← check (has_wanted_keyword words (text_of texts.text)) NoKeywords
  Ok description

-- how many lines it has, its description and its flags; or the first check on its texts and words that fails
unfoldable pub new_rules : AdminWords → NewTexts → Result NewRules Refusal
new_rules words texts = do
  count ← or_bad_text (count_lines (text_of texts.text))
  description ← new_description words texts
  flags ← new_flags words
  Ok (record { count = count; description = description; flags = flags })
