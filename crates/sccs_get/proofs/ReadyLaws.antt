-- What is ready of a get behind its checks.
use Rattle.std.proofs.Common.{◌≡◌, ℕ, Bool, true, false, not, ◌||◌, List, [], ◌++◌, length, Option, None, Some, Result}
use Rattle.std.proofs.Common.{Ok, Err, refl, sym, ap, subst, ◌∙◌}
use Rattle.std.specs.Prelude.{IfSome, codes, is_some, if◌then◌else◌}
use Rattle.sccs_base.specs.Stream.{GivesSome}
use Rattle.sccs_base.proofs.Gifts.{some_of_whole}
use Rattle.sccs_disk.specs.Files.{View}
use Rattle.sccs_sid.specs.Sid.{sid_text}
use Rattle.sccs_sid.specs.declared.sids.Sid.{Sid}
use Rattle.sccs_sid.specs.declared.sid_lists.Range.{Range}
use Rattle.sccs_sid.specs.declared.refusals.StepFault.{StepFault}
use Rattle.sccs_sid.specs.declared.refusals.StepFault.TheVariants.{Refused, Memory, ReadFault, WriteFault, DiskFault}
use Rattle.sccs_history.specs.Body.{HistoryLine}
use Rattle.sccs_history.specs.Numbers.{has}
use Rattle.sccs_history.specs.declared.headers.Header.{Header}
use Rattle.sccs_history.specs.declared.headers.Item.{Item}
use Rattle.sccs_grammar.specs.File.{Parsed, answer, file_of}
use Rattle.sccs_tokens.specs.Written.{ended}
use Rattle.sccs_table.specs.FrontFile.{IsPlaced}
use Rattle.sccs_table.specs.ReaderState.{bytes_in}
use Rattle.sccs_table.specs.declared.fronts.Front.{Front}
use Rattle.sccs_body.specs.BodyFile.{ShowsFile}
use Rattle.sccs_body.proofs.FileLaws.{file_items}
use Rattle.sccs_versions.specs.Coming.{IsBody}
use Rattle.sccs_printing.specs.Counted.{shown_of}
use Rattle.sccs_printing.specs.declared.shown.Shown.{Shown}
use Rattle.sccs_keywords.specs.Forms.{has_keywords, if_replaced, texts}
use Rattle.sccs_keywords.specs.declared.facts.Facts.{Facts}
use Rattle.sccs_words.specs.declared.commands.GetWords.{GetWords}
use Rattle.sccs_name_files.specs.StepFiles.{look}
use Rattle.sccs_changes.specs.Pending.{bytes_at}
use Rattle.sccs_steps.specs.Calls.{World, world}
use Rattle.sccs_steps.specs.StepEffects.{Outcome, StepEffect, effect_of}
use Rattle.sccs_changes.specs.declared.prepared.Prepared.{Prepared}
use Rattle.sccs_get.specs.Giving.{GivesVersion, IsLate, Readies, printed_text}
use Rattle.sccs_changes.specs.Reports.{heading_text, warning}
use Rattle.sccs_get.specs.Reports.{get_report, get_warning, line_count_text, listed_text, new_sid_text}
use Rattle.sccs_get.specs.Reports.{replaces_keywords, said_on_err, said_on_out}
use Rattle.sccs_get.specs.VersionStep.{form_got, get_effect, lines_got, given_text}
use Rattle.sccs_get.specs.declared.found.Found.{Found}
use Rattle.sccs_changes.proofs.PendingLaws.{shown_header}

-- ---- the file behind the checks

-- a told file whose front was read has these items
pub body_there : (o told : Option (List ℕ)) (parsed : Parsed) (front : Front) (set : List ℕ) → IsPlaced front → told ≡ o
    → has set 0 ≡ false → answer file_of o ≡ Ok parsed → ShowsFile o parsed front → (file : List ℕ)
    × IsBody told front set file parsed.items
body_there None told parsed front set placed same zero is shows = absurd shows
body_there (Some file) told parsed front set placed same zero is shows = (
  file,
  record {
    told_is = same;
    front_is = record { placed = placed; size = shows.1.2.size; sum = shows.1.2.sum };
    items_are = file_items file parsed shows.1.0 front is shows.1.1 shows.1.2;
    no_zero = zero;
  },
)

module _ (words : GetWords) (heading : Bool) (n : List ℕ) where
  -- ---- what is said

  count_same : (b : Bool) (x y : ℕ) → (b ≡ false → x ≡ y) → line_count_text b x ≡ line_count_text b y
  count_same true x y same = refl
  count_same false x y same = ap (λ k. line_count_text false k) (same refl)

  pub report_same : (include exclude : List Range) (sid : Sid) (made : Option Sid) (x y : ℕ)
      → (words.no_text ≡ false → x ≡ y) → get_report words heading n include exclude sid made x
      ≡ get_report words heading n include exclude sid made y
  report_same include exclude sid made x y same =
      ap (λ t. if words.silent then [] else heading_text heading n ++ (listed_text words.include (codes "Included:")
      include ++ (listed_text words.exclude (codes "Excluded:") exclude
      ++ (ended (sid_text sid) ++ (new_sid_text made ++ t)))))
      (count_same words.no_text x y same)

  warned_by : (b x y : Bool) → (b ≡ true → x ≡ y) → warning n (not b || x) ≡ warning n (not b || y)
  warned_by true x y same = ap (λ k. warning n k) (same refl)
  warned_by false x y same = refl

  has_text : (k e t : Bool) → not (k || (e || t)) ≡ true → t ≡ false
  has_text k e false is = refl
  has_text true e true is = absurd cc
  has_text false true true is = absurd cc
  has_text false false true is = absurd cc

  if_some : (o : Option Facts) (k : Bool) → is_some o ≡ true → if_replaced o k ≡ k
  if_some None k is = absurd cc
  if_some (Some f) k is = refl

  pub warning_same : (found : Found) (lines : List HistoryLine) (shown : Shown)
      → is_some found.facts ≡ replaces_keywords words
      → (words.no_text ≡ false → shown ≡ shown_of (form_got words found) lines) → get_warning words n shown.keywords
      ≡ get_warning words n (has_keywords (texts lines))
  warning_same found lines shown is same =
      warned_by (replaces_keywords words) shown.keywords (has_keywords (texts lines))
      (λ some. ap (λ (s : Shown). s.keywords) (same (has_text words.keep words.edit words.no_text some))
      ∙ if_some found.facts (has_keywords (texts lines)) (is ∙ some))

  -- ---- the text

  -- what is made of a view
  abbrev pub part : Parsed → Found → View → StepEffect
  part parsed found v = get_effect words heading n parsed.header.records (look v n) found (lines_got found parsed.items)

  -- what is ready, where the view was told
  abbrev pub ReadiesAt : Front → Found → Option View → Option View → Result Prepared StepFault → Option (List ℕ)
      → Option (List ℕ) → Option (List ℕ) → Type 0
  ReadiesAt front found o o2 r out out2 err = (parsed : Parsed)
      → IfSome o (λ (v : View). ShowsFile (bytes_at (v n)) parsed front → (answer file_of (bytes_at (v n)) ≡ Ok parsed)
      → Readies words n (Ok (part parsed found v)) r (world (Some v) out err) (world o2 out2 err))

  -- a prefix of what goes to out was given
  late_readies : (o : Outcome) (text : List ℕ) (fault : StepFault) (w w2 : World) → (effect_of n o).text ≡ text
      → IsLate fault → GivesSome w.out w2.out text → Readies words n o (Err fault) w w2
  late_readies o text Memory w w2 is late gives = subst (λ t. GivesSome w.out w2.out t) (sym is) gives
  late_readies o text DiskFault w w2 is late gives = subst (λ t. GivesSome w.out w2.out t) (sym is) gives
  late_readies o text WriteFault w w2 is late gives = subst (λ t. GivesSome w.out w2.out t) (sym is) gives
  late_readies o text ReadFault w w2 is late gives = absurd late
  late_readies o text (Refused refusal) w w2 is late gives = absurd late

  -- of a text that is the file's
  abbrev Gives : Front → Found → Result Shown StepFault → Option View → Option View → Option (List ℕ) → Option (List ℕ)
      → Option (List ℕ) → Type 0
  Gives front found r o o2 out out2 err = (file : List ℕ) (items : List Item)
      → IsBody (bytes_in o n) front found.set file items → GivesVersion words n front.header.records found
      (lines_got found items) r (world o out err) (world o2 out2 err)

  given_of : (v : View) (o2 : Option View) (front : Front) (found : Found) (parsed : Parsed)
      (r : Result Shown StepFault) (out out2 err : Option (List ℕ)) → IsPlaced front → has found.set 0 ≡ false
      → Gives front found r (Some v) o2 out out2 err → ShowsFile (bytes_at (v n)) parsed front
      → answer file_of (bytes_at (v n)) ≡ Ok parsed
      → GivesVersion words n parsed.header.records found (lines_got found parsed.items) r (world (Some v) out err)
      (world o2 out2 err)
  given_of v o2 front found parsed r out out2 err placed zero gives shows is =
      let there : (file : List ℕ) × IsBody (bytes_in (Some v) n) front found.set file parsed.items =
      body_there (bytes_at (v n)) (bytes_in (Some v) n) parsed front found.set placed refl zero is shows in
      subst (λ (h : Header). GivesVersion words n h.records found (lines_got found parsed.items) r
      (world (Some v) out err) (world o2 out2 err)) (shown_header (bytes_at (v n)) parsed front shows)
      (gives there.0 parsed.items there.1)

  pub text_cut : (o o2 : Option View) (front : Front) (found : Found) (fault : StepFault)
      (out out2 err : Option (List ℕ)) → IsPlaced front → has found.set 0 ≡ false
      → Gives front found (Err fault) o o2 out out2 err → ReadiesAt front found o o2 (Err fault) out out2 err
  text_cut None o2 front found fault out out2 err placed zero gives = λ parsed. tt
  text_cut (Some v) o2 front found fault out out2 err placed zero gives = λ parsed shows is.
      let given = given_of v o2 front found parsed (Err fault) out out2 err placed zero gives shows is in
      late_readies (Ok (part parsed found v)) (printed_text words (given_text words parsed.header.records found
      (lines_got found parsed.items))) fault (world (Some v) out err) (world o2 out2 err) refl given.0 given.1

  pub text_given : (o o2 : Option View) (front : Front) (found : Found) (shown : Shown) (p : Prepared)
      (out out2 err : Option (List ℕ)) → IsPlaced front → has found.set 0 ≡ false
      → is_some found.facts ≡ replaces_keywords words → Gives front found (Ok shown) o o2 out out2 err
      → p.report ≡ said_on_out words (get_report words heading n found.include found.exclude found.sid None shown.lines)
      → p.message ≡ said_on_err words (get_report words heading n found.include found.exclude found.sid None
      shown.lines) (get_warning words n shown.keywords) → ReadiesAt front found o o2 (Ok p) out out2 err
  text_given None o2 front found shown p out out2 err placed zero facts gives report message = λ parsed. tt
  text_given (Some v) o2 front found shown p out out2 err placed zero facts gives report message =
      λ parsed shows is. by parsed (given_of v o2 front found parsed (Ok shown) out out2 err placed zero gives shows is)
    where
      by : (parsed : Parsed) → GivesVersion words n parsed.header.records found (lines_got found parsed.items)
          (Ok shown) (world (Some v) out err) (world o2 out2 err) → Readies words n (Ok (part parsed found v)) (Ok p)
          (world (Some v) out err) (world o2 out2 err)
      by parsed given =
          let reported = report_same found.include found.exclude found.sid None shown.lines
          (length (lines_got found parsed.items)) (λ some. ap (λ (s : Shown). s.lines) (given.1 some)) in
          let warned = warning_same found (lines_got found parsed.items) shown facts given.1 in
          record {
            effect = part parsed found v;
            text = given_text words parsed.header.records found (lines_got found parsed.items);
            is = refl;
            status = refl;
            report = sym (report ∙ ap (said_on_out words) reported);
            message = sym (message ∙ (ap (λ r. said_on_err words r (get_warning words n shown.keywords)) reported
                ∙ ap (λ m. said_on_err words (get_report words heading n found.include found.exclude found.sid None
                (length (lines_got found parsed.items))) m) warned));
            text_is = refl;
            new = refl;
            given = given.0;
          }

  -- want of memory behind the text
  pub text_unsaid : (o o2 : Option View) (front : Front) (found : Found) (shown : Shown)
      (out out2 err : Option (List ℕ)) → IsPlaced front → has found.set 0 ≡ false
      → Gives front found (Ok shown) o o2 out out2 err → ReadiesAt front found o o2 (Err Memory) out out2 err
  text_unsaid None o2 front found shown out out2 err placed zero gives = λ parsed. tt
  text_unsaid (Some v) o2 front found shown out out2 err placed zero gives = λ parsed shows is.
      some_of_whole out out2 (printed_text words (given_text words parsed.header.records found
      (lines_got found parsed.items))) (given_of v o2 front found parsed (Ok shown) out out2 err placed zero gives
      shows is).0.out
