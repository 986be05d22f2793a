-- What get does with a name, without -e: POSIX, Shell and Utilities, get.
use Rattle.std.specs.Prelude.{ℕ, Bool, true, false, not, ◌&&◌, ◌||◌, List, [], ◌∷◌, length, take, codes, Option, None}
use Rattle.std.specs.Prelude.{Some, Result, Ok, Err, if◌then◌else◌}
use Rattle.std.specs.Str.{bytes_eq}
use Rattle.sccs_base.specs.Name.{is_sfile_name}
use Rattle.sccs_sid.specs.Reading.{◌>>=◌, is_empty}
use Rattle.sccs_sid.specs.Refusal.{number_of, bad_list_number}
use Rattle.sccs_sid.specs.declared.moments.Stamp.{Stamp}
use Rattle.sccs_sid.specs.declared.sids.Sid.{Sid}
use Rattle.sccs_sid.specs.declared.refusals.Refusal.{Refusal}
use Rattle.sccs_sid.specs.declared.refusals.Refusal.TheVariants as refusals
use Rattle.sccs_disk.specs.Files.{Content}
use Rattle.sccs_history.specs.Body.{HistoryLine, lines_of}
use Rattle.sccs_history.specs.FlagText.{flag_i}
use Rattle.sccs_history.specs.declared.headers.Flag.{Flag}
use Rattle.sccs_history.specs.declared.headers.Header.{Header}
use Rattle.sccs_history.specs.declared.headers.Item.{Item}
use Rattle.sccs_history.specs.declared.headers.Record.{Record}
use Rattle.sccs_flags.specs.FlagValues.{has_flag}
use Rattle.sccs_grammar.specs.File.{Parsed, answer, file_of}
use Rattle.sccs_grammar.specs.FileRefusals.{or_refusal}
use Rattle.sccs_sets.specs.Sets.{sid_at}
use Rattle.sccs_versions.specs.Coming.{shown}
use Rattle.sccs_keywords.specs.Forms.{LineForm, has_keywords, texts}
use Rattle.sccs_printing.specs.Printing.{version_text}
use Rattle.sccs_keywords.specs.declared.facts.Facts.{Facts}
use Rattle.sccs_keywords.specs.VersionFacts.{facts_of, module_name}
use Rattle.sccs_words.specs.declared.commands.GetWords.{GetWords}
use Rattle.sccs_name_files.specs.StepFiles.{Files}
use Rattle.sccs_store.specs.Finished.{is_writable}
use Rattle.sccs_changes.specs.Pending.{bytes_at}
use Rattle.sccs_steps.specs.Actions.{Action, has_number}
use Rattle.sccs_steps.specs.StepEffects.{Outcome, StepEffect, check, there}
use Rattle.sccs_steps.specs.declared.statuses.StatusRule.TheVariants.{Greatest}
use Rattle.sccs_get.specs.NewEntry.{singles}
use Rattle.sccs_get.specs.AskedVersion.{asked}
use Rattle.sccs_get.specs.Reports.{get_report, get_warning, prints, replaces_keywords, said_on_err, said_on_out}
use Rattle.sccs_get.specs.SummaryStep.{summary_got, summed, writes_l}
use Rattle.sccs_get.specs.declared.found.Found.{Found}

-- ---- what the words say

-- the text goes into the g-file without -p and -g
abbrev pub writes_g : GetWords → Bool
writes_g words = not (words.print || words.no_text)

-- a g-file may be written with -k and -e
abbrev pub stays_writable : GetWords → Bool
stays_writable words = words.keep || words.edit

-- ---- the version

-- the module's name, where it stands before lines
abbrev pub module_in : GetWords → Header → List ℕ → Option (List ℕ)
module_in words header n = if words.«module» then Some (module_name header.flags n) else None

-- what keywords are replaced by, where they are
abbrev pub version_facts : GetWords → Stamp → List ℕ → List ℕ → Header → List ℕ → ℕ → Sid → Option Facts
version_facts words stamp place n header set target sid = if replaces_keywords words then Some
    (facts_of header set target sid n place stamp) else None

-- the version that is asked for of the file of a name in a folder, got at a moment; or the first check that fails
unfoldable pub found_version : GetWords → Stamp → List ℕ → List ℕ → Header → Result Found Refusal
found_version words stamp place n header = do
  a ← asked words header
  sid ← there (sid_at header.records a.target) refusals.NoSid
  Ok (record {
    set = a.set;
    include = singles header.records a.include;
    exclude = singles header.records a.exclude;
    taken_in = a.include;
    left_out = a.exclude;
    sid = sid;
    «module» = module_in words header n;
    facts = version_facts words stamp place n header a.set a.target sid;
  })

-- how its lines are given
abbrev pub form_got : GetWords → Found → LineForm
form_got words found = record { module_name = found.«module»; has_sids = words.sids; facts = found.facts }

-- its lines
abbrev pub lines_got : Found → List Item → List HistoryLine
lines_got found items = shown found.set (lines_of items)

-- the text; none with -g
abbrev pub given_text : GetWords → List Record → Found → List HistoryLine → List ℕ
given_text words records found lines = if words.no_text then [] else version_text (form_got words found) records lines

-- ---- the step

-- a file with the flag i must have keywords, where they are replaced
abbrev pub needs_keywords : GetWords → List Flag → Bool
needs_keywords words flags = replaces_keywords words && has_flag flags flag_i

-- the files with the version as their g-file
abbrev pub with_g : Files → List ℕ → Bool → Files
with_g f text writable = record {
  s = f.s;
  p = f.p;
  z = f.z;
  g = Some (record { bytes = text; writable = writable });
  l = f.l;
}

-- what is reported of a version, and of the SID that is to be made on it, where there is one
abbrev pub report_on : GetWords → Bool → List ℕ → Found → Option Sid → ℕ → List ℕ
report_on words heading n found made lines = get_report words heading n found.include found.exclude found.sid made lines

-- With -p the text goes to out and the report to err; with -g there is no text; else the text is the new g-file. A
-- warning comes last.
abbrev pub get_effect : GetWords → Bool → List ℕ → List Record → Files → Found → List HistoryLine → StepEffect
get_effect words heading n records f found lines =
    let text : List ℕ = given_text words records found lines in
    let report : List ℕ = report_on words heading n found None (length lines) in
    record {
      new = if writes_g words then Some (with_g f text (stays_writable words)) else None;
      text = if words.print then text else [];
      out = said_on_out words report;
      err = said_on_err words report (get_warning words n (has_keywords (texts lines)));
      status = 0;
    }

-- the checks of the lines and of the g-file
abbrev pub has_its_keywords : GetWords → List Flag → List HistoryLine → Result Bool Refusal
has_its_keywords words flags lines = check (not (needs_keywords words flags) || has_keywords (texts lines))
    refusals.NoKeywords

-- a g-file that may be written is where the text is to go
abbrev pub is_in_the_way : GetWords → Option Content → Bool
is_in_the_way words g = writes_g words && is_writable g

abbrev pub g_is_free : GetWords → Option Content → Result Bool Refusal
g_is_free words g = check (not (is_in_the_way words g)) refusals.GExists

-- What is found: the header and items, and the version.
pub record LocatedVersion : Type 0 where
  pub parsed : Parsed
  pub found : Found

-- it is found in the files of a name; or the first check that fails, in this order
unfoldable pub located_of : GetWords → Stamp → List ℕ → List ℕ → Files → Result LocatedVersion Refusal
located_of words stamp place n f = do
  parsed ← or_refusal (answer file_of (bytes_at f.s))
  found ← found_version words stamp place n parsed.header
  keywords ← has_its_keywords words parsed.header.flags (lines_got found parsed.items)
  free ← g_is_free words f.g
  Ok (record { parsed = parsed; found = found })

-- what get makes of the files of a name: the summary, and then the text
unfoldable pub get_outcome : GetWords → Stamp → List ℕ → Bool → List ℕ → Files → Outcome
get_outcome words stamp place heading n f = do
  x ← located_of words stamp place n f
  Ok (summed words (summary_got words x.parsed.header.records x.found) f
      (get_effect words heading n x.parsed.header.records f x.found (lines_got x.found x.parsed.items)))

-- the numbers of get's checks
abbrev pub version_checks : List ℕ
version_checks =
    number_of refusals.Missing ∷ number_of refusals.TooLong ∷ number_of refusals.NotSccs
    ∷ number_of (refusals.BadSum 0 0) ∷ number_of (refusals.BadFormat 0) ∷ number_of refusals.Encoded
    ∷ number_of refusals.NoSid ∷ bad_list_number ∷ number_of refusals.NoKeywords ∷ number_of refusals.GExists
    ∷ number_of (refusals.Changed 0 0 0 0) ∷ []

-- over any disk: on err nothing is said but the warning, unless the report goes there
abbrev pub says_well : GetWords → List ℕ → Bool
says_well words message = (prints words && not words.silent) || (is_empty message || bytes_eq (codes "WARNING [")
    (take 9 message))

abbrev pub could_get : GetWords → Outcome → Bool
could_get words (Ok effect) = says_well words effect.err
could_get words (Err refusal) = has_number version_checks (number_of refusal)

-- get as an action on each operand
abbrev pub get_action : GetWords → Stamp → List ℕ → Bool → Action
get_action words stamp place heading = record {
  fits = is_sfile_name;
  step = λ n input named files. get_outcome words stamp place heading n files;
  named = λ n. [];
  takes = false;
  reads = not (writes_g words || writes_l words);
  locks = true;
  silent = false;
  rule = Greatest;
  could = could_get words;
}
