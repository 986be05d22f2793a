-- The lines that a get of a linear file finds.
use Rattle.std.proofs.Common.{◌≡◌, ℕ, Bool, true, false, List, [], ◌∷◌, ◌++◌, Option, None, Some, Result, Ok, refl, ap}
use Rattle.std.proofs.Common.{subst, ◌∙◌, eq-eqb}
use Rattle.std.specs.Prelude.{◌==◌, not, ◌&&◌, ◌||◌, option_map, unwrap_or, find, if◌then◌else◌}
use Rattle.sccs_sid.specs.Reading.{◌>>=◌}
use Rattle.sccs_sid.specs.declared.moments.Stamp.{Stamp}
use Rattle.sccs_sid.specs.declared.sids.Sid.{Sid}
use Rattle.sccs_sid.specs.declared.sids.Spec.{Spec}
use Rattle.sccs_sid.specs.declared.sid_lists.Range.{Range}
use Rattle.sccs_sid.specs.declared.refusals.Refusal.{Refusal}
use Rattle.sccs_sid.specs.declared.refusals.Refusal.TheVariants as refusals
use Rattle.sccs_history.specs.FlagText.{flag_i}
use Rattle.sccs_history.specs.Numbers.{front_if, is_empty}
use Rattle.sccs_history.specs.Applied.{applied, newest, version, version_of}
use Rattle.sccs_history.specs.Body.{HistoryLine, lines_of}
use Rattle.sccs_history.specs.Linear.{has_no_delete, texts_of, undeleted}
use Rattle.sccs_history.specs.Select.{select, shows}
use Rattle.sccs_history.specs.declared.headers.Record.{Record}
use Rattle.sccs_history.specs.declared.headers.Header.{Header}
use Rattle.sccs_history.proofs.LinearTables.{version_linear_body, undeleted_all}
use Rattle.sccs_flags.specs.FlagValues.{has_flag}
use Rattle.sccs_grammar.specs.File.{Parsed, answer, file_of}
use Rattle.sccs_tokens.specs.Written.{bytes_of}
use Rattle.sccs_body.proofs.FileLaws.{file_body}
use Rattle.sccs_sets.specs.Flags.{default_of}
use Rattle.sccs_sets.specs.Retrieved.{retrieved}
use Rattle.sccs_sets.specs.Sets.{sid_at}
use Rattle.sccs_sets.specs.Trunks.{IsTrunk}
use Rattle.sccs_sets.proofs.Trunks.{newest_of_trunk}
use Rattle.sccs_keywords.specs.Forms.{has_keywords, texts}
use Rattle.sccs_keywords.proofs.TextLaws.{as_they_are}
use Rattle.sccs_keywords.specs.declared.facts.Facts.{Facts}
use Rattle.sccs_keywords.specs.VersionFacts.{facts_of, module_name}
use Rattle.sccs_printing.specs.Printing.{version_text}
use Rattle.sccs_name_files.specs.StepFiles.{Files}
use Rattle.sccs_changes.specs.Pending.{bytes_at}
use Rattle.sccs_steps.specs.StepEffects.{StepEffect, check}
use Rattle.sccs_versions.specs.Coming.{shown}
use Rattle.sccs_words.specs.declared.commands.GetWords.{GetWords}
use Rattle.sccs_get.specs.NewEntry.{singles}
use Rattle.sccs_get.specs.AskedVersion.{asked, listed_serials, spec_asked}
use Rattle.sccs_get.specs.Linear.{AsksNewest, GivesLinesPlain, GivesTexts, IsLinearFile, StepGives}
use Rattle.sccs_get.specs.SummaryStep.{printed_summary, summary_got, summed, with_l, writes_l}
use Rattle.sccs_get.specs.VersionStep.{LocatedVersion, version_facts, form_got, found_version, g_is_free, get_effect}
use Rattle.sccs_get.specs.VersionStep.{get_outcome, located_of, has_its_keywords, is_in_the_way, lines_got, module_in}
use Rattle.sccs_get.specs.VersionStep.{stays_writable, given_text, with_g}
use Rattle.sccs_get.specs.declared.found.Found.{Found}
use Rattle.sccs_get.proofs.FoundLaws.{found_so, found_with}
use Rattle.sccs_get.proofs.LocatedLaws.{is_located}
use Rattle.sccs_get.proofs.TargetLaws.{asked_at, asked_by, set_by}

spec_none : (words : GetWords) (header : Header) → words.spec ≡ None → default_of header.flags ≡ None
    → spec_asked words header ≡ None
spec_none words header none default = rw none default

-- the set of the newest version
abbrev newest_set : List Record → List ℕ
newest_set records = applied (version_of (newest records)) records

-- nothing is asked for, so the set is that of the newest version
newest_asked : (words : GetWords) (header : Header) → AsksNewest words → default_of header.flags ≡ None
    → retrieved header.records None words.top ≡ Some (newest header.records)
    → asked words header ≡ Ok (asked_at (newest header.records) [] [] (newest_set header.records))
newest_asked words header asks default found =
    asked_by words header
    ∙ (ap (λ (spec : Option Spec). set_by (retrieved header.records spec words.top)
    (listed_serials header.records words.include) (listed_serials header.records words.exclude)
    (option_map (λ m. m.seconds) words.cutoff) header.records) (spec_none words header asks.spec default)
    ∙ (ap (λ (n : Option ℕ). set_by n (listed_serials header.records words.include)
    (listed_serials header.records words.exclude) (option_map (λ m. m.seconds) words.cutoff) header.records) found
    ∙ (ap (λ (list : Option (List Range)). set_by (Some (newest header.records)) (listed_serials header.records list)
    (listed_serials header.records words.exclude) (option_map (λ m. m.seconds) words.cutoff) header.records)
    asks.include
    ∙ (ap (λ (list : Option (List Range)). set_by (Some (newest header.records)) (Ok [])
    (listed_serials header.records list) (option_map (λ m. m.seconds) words.cutoff) header.records) asks.exclude
    ∙ ap (λ last. set_by (Some (newest header.records)) (Ok []) (Ok []) (option_map (λ m. m.seconds) last)
    header.records) asks.cutoff))))

newest_got : (records : List Record) (top : Bool) → is_empty records ≡ false → IsTrunk records
    → retrieved records None top ≡ Some (newest records)
newest_got [] top some trunk = cc
newest_got (r ∷ rs) top some trunk = newest_of_trunk r rs top trunk

-- ---- what is found

head_sid : (records : List Record) → is_empty records ≡ false → (sid : Sid)
    × (sid_at records (newest records) ≡ Some sid)
head_sid [] some = absurd cc
head_sid (r ∷ rs) some = (
  r.sid,
  ap (λ (b : Bool). option_map (λ (x : Record). x.sid) (if b then Some r
      else find (λ (x : Record). x.serial == r.serial) rs)) (eq-eqb r.serial r.serial refl),
)

texts_by : (b : Bool) (line : HistoryLine) (lines : List HistoryLine) (rest : List (List ℕ)) → texts lines ≡ rest
    → texts (front_if b line lines) ≡ front_if b line.text rest
texts_by true line lines rest is = ap (λ x. line.text ∷ x) is
texts_by false line lines rest is = is

shown_texts : (set : List ℕ) (lines : List HistoryLine) → texts (shown set lines) ≡ select set lines
shown_texts set [] = refl
shown_texts set (line ∷ lines) = texts_by (shows set line) line (shown set lines) (select set lines)
    (shown_texts set lines)

-- ---- what is given

found_module : (words : GetWords) (header : Header) (n : List ℕ) → words.«module» ≡ false → module_in words header n
    ≡ None
found_module words header n none = ap (λ (b : Bool). if b then Some (module_name header.flags n) else None) none

found_facts : (words : GetWords) (stamp : Stamp) (place n : List ℕ) (header : Header) (set : List ℕ) (target : ℕ)
    (sid : Sid) → words.keep ≡ true → version_facts words stamp place n header set target sid ≡ None
found_facts words stamp place n header set target sid keep =
    ap (λ (b : Bool). if not (b || (words.edit || words.no_text)) then Some
    (facts_of header set target sid n place stamp) else None) keep

-- the files behind a text as the g-file, with a summary or without one
new_files : (l : Bool) (summary : List ℕ) (f : Files) (new : Option Files) (text : List ℕ)
    → new ≡ Some (with_g f text true) → (if l then Some (with_l summary (unwrap_or new f)) else new) ≡ Some
    (with_g (if l then with_l summary f else f) text true)
new_files true summary f new text is = ap (λ (o : Option Files). Some (with_l summary (unwrap_or o f))) is
new_files false summary f new text is = is

module _ (words : GetWords) (stamp : Stamp) (place n : List ℕ) (heading : Bool) (f : Files) (parsed : Parsed) where
  -- a version whose lines are given as they are
  plain_text : (found : Found) (lines : List (List ℕ)) → GivesLinesPlain words → found.«module» ≡ None
      → found.facts ≡ None → texts (lines_got found parsed.items) ≡ lines
      → given_text words parsed.header.records found (lines_got found parsed.items) ≡ bytes_of lines
  plain_text found lines plain no_module no_facts is =
      ap (λ (b : Bool). if b then [] else version_text (form_got words found) parsed.header.records
      (lines_got found parsed.items)) plain.text
      ∙ (ap (λ (m : Option (List ℕ)). version_text
      (record { module_name = m; has_sids = words.sids; facts = found.facts }) parsed.header.records
      (lines_got found parsed.items)) no_module
      ∙ (ap (λ (b : Bool). version_text (record { module_name = None; has_sids = b; facts = found.facts })
      parsed.header.records (lines_got found parsed.items)) plain.sids
      ∙ (ap (λ (x : Option Facts). version_text (record { module_name = None; has_sids = false; facts = x })
      parsed.header.records (lines_got found parsed.items)) no_facts
      ∙ (as_they_are parsed.header.records 1 (lines_got found parsed.items) ∙ ap bytes_of is))))

  keywords_stay : (lines : List HistoryLine) → words.keep ≡ true → has_its_keywords words parsed.header.flags lines
      ≡ Ok true
  keywords_stay lines keep =
      ap (λ (b : Bool). check (not (not (b || (words.edit || words.no_text)) && has_flag parsed.header.flags flag_i) ||
      has_keywords (texts lines)) refusals.NoKeywords) keep

  g_free : is_in_the_way words f.g ≡ false → g_is_free words f.g ≡ Ok true
  g_free free = ap (λ (b : Bool). check (not b) refusals.GExists) free

  may_be_written : words.keep ≡ true → stays_writable words ≡ true
  may_be_written keep = ap (λ (b : Bool). b || words.edit) keep

  abbrev effect_with : LocatedVersion → StepEffect
  effect_with x = summed words (summary_got words x.parsed.header.records x.found) f
      (get_effect words heading n x.parsed.header.records f x.found (lines_got x.found x.parsed.items))

  outcome_is : (x : LocatedVersion) → located_of words stamp place n f ≡ Ok x
      → get_outcome words stamp place heading n f ≡ Ok (effect_with x)
  unfolding get_outcome
  outcome_is x is = ap (λ (r : Result LocatedVersion Refusal). r >>= λ y. Ok (effect_with y)) is

  step_gives : (found : Found) (lines : List (List ℕ)) → answer file_of (bytes_at f.s) ≡ Ok parsed
      → found_version words stamp place n parsed.header ≡ Ok found → found.«module» ≡ None → found.facts ≡ None
      → texts (lines_got found parsed.items) ≡ lines → GivesLinesPlain words → is_in_the_way words f.g ≡ false
      → StepGives words stamp place heading n f (summary_got words parsed.header.records found) (bytes_of lines)
  step_gives found lines is found_is no_module no_facts texts_are plain free =
      let text : given_text words parsed.header.records found (lines_got found parsed.items) ≡ bytes_of lines =
      plain_text found lines plain no_module no_facts texts_are in
      record {
        effect = effect_with (record { parsed = parsed; found = found });
        is = outcome_is (record { parsed = parsed; found = found }) (is_located words stamp place n f parsed found is
            found_is (keywords_stay (lines_got found parsed.items) plain.keep) (g_free free));
        printed = ap (λ t. printed_summary words (summary_got words parsed.header.records found)
            ++ (if words.print then t else [])) text;
        made = λ writes.
            new_files (writes_l words) (summary_got words parsed.header.records found) f
            (get_effect words heading n parsed.header.records f found (lines_got found parsed.items)).new
            (bytes_of lines)
            (ap (λ (b : Bool). if b then Some (with_g f (given_text words parsed.header.records found
            (lines_got found parsed.items)) (stays_writable words)) else None) writes
            ∙ (ap (λ t. Some (with_g f t (stays_writable words))) text
            ∙ ap (λ (b : Bool). Some (with_g f (bytes_of lines) b)) (may_be_written plain.keep)));
      }

  pub version_found : answer file_of (bytes_at f.s) ≡ Ok parsed → AsksNewest words → IsLinearFile parsed
      → GivesTexts words stamp place heading n f parsed (version (newest parsed.header.records) parsed.header.records
      (lines_of parsed.items))
  version_found is asks linear =
      let header : Header = parsed.header in
      let records : List Record = header.records in
      let set : List ℕ = newest_set records in
      let sid : (sid : Sid) × (sid_at records (newest records) ≡ Some sid) = head_sid records linear.some in
      let found : Found = found_with (asked_at (newest records) [] [] set) (singles records []) (singles records [])
      sid.0 (module_in words header n) (version_facts words stamp place n header set (newest records) sid.0) in
      let found_is : found_version words stamp place n header ≡ Ok found =
      found_so words stamp place n header (asked_at (newest records) [] [] set) sid.0 (singles records [])
      (singles records []) (module_in words header n) (version_facts words stamp place n header set
      (newest records) sid.0)
      (newest_asked words header asks linear.default (newest_got records words.top linear.some linear.trunk)) sid.1 refl
      refl refl refl in
      let texts_are : texts (lines_got found parsed.items) ≡ version (newest records) records (lines_of parsed.items) =
      shown_texts set (lines_of parsed.items) in
      record {
        found = found;
        is = found_is;
        texts_are = texts_are;
        step = λ plain free. step_gives found (version (newest records) records (lines_of parsed.items)) is found_is
            (found_module words header n plain.«module») (found_facts words stamp place n header set
            (newest records) sid.0 plain.keep) texts_are plain free;
      }

  pub undeleted_found : answer file_of (bytes_at f.s) ≡ Ok parsed → AsksNewest words → IsLinearFile parsed
      → GivesTexts words stamp place heading n f parsed (undeleted (lines_of parsed.items))
  undeleted_found is asks linear =
      subst (GivesTexts words stamp place heading n f parsed) (version_linear_body parsed.header.records parsed.items
      linear.linear (file_body (bytes_at f.s) parsed is)) (version_found is asks linear)

  pub texts_found : answer file_of (bytes_at f.s) ≡ Ok parsed → AsksNewest words → IsLinearFile parsed
      → has_no_delete parsed.items ≡ true → GivesTexts words stamp place heading n f parsed (texts_of parsed.items)
  texts_found is asks linear none = subst (GivesTexts words stamp place heading n f parsed)
      (undeleted_all parsed.items none) (undeleted_found is asks linear)
