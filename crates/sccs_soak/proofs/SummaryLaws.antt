-- What a summary counts and prints.
use Rattle.std.proofs.Common.{◌≡◌, ℕ, suc, ◌<◌, ◌≤◌, Bool, true, false, not, cond, ◌&&◌, ◌==◌, List, [], ◌∷◌, length}
use Rattle.std.proofs.Common.{find, Option, None, Some, option_map, Result, Ok, Err, inl, inr, refl, sym, ap, subst}
use Rattle.std.proofs.Common.{◌∙◌, arith}
use Rattle.std.specs.Prelude.{IfSome}
use Rattle.sccs_disk.specs.Files.{Folder, View}
use Rattle.sccs_disk.specs.Told.{Told, seen}
use Rattle.sccs_sid.specs.declared.refusals.StepFault.{StepFault}
use Rattle.sccs_sid.specs.declared.refusals.StepFault.TheVariants.{Refused, Memory, ReadFault, WriteFault, DiskFault}
use Rattle.sccs_history.specs.Applied.{applied, live_serials, version_of}
use Rattle.sccs_history.specs.Body.{HistoryLine, lines_of}
use Rattle.sccs_history.specs.Numbers.{front_if, has}
use Rattle.sccs_history.specs.Select.{select, shows}
use Rattle.sccs_history.specs.declared.headers.Header.{Header}
use Rattle.sccs_history.specs.declared.headers.Item.{Item}
use Rattle.sccs_history.specs.declared.headers.Record.{Record}
use Rattle.sccs_grammar.specs.File.{Parsed}
use Rattle.sccs_grammar.specs.FileRefusals.{file_fault}
use Rattle.sccs_grammar.specs.declared.faults.FileFault.{FileFault}
use Rattle.sccs_table.specs.FrontFile.{IsPlaced}
use Rattle.sccs_table.specs.ReaderState.{bytes_in, file_in}
use Rattle.sccs_table.specs.declared.fronts.Front.{Front}
use Rattle.sccs_body.specs.BodyFile.{AnswersFile}
use Rattle.sccs_keywords.specs.Forms.{LineForm}
use Rattle.sccs_versions.specs.Coming.{shown}
use Rattle.sccs_printing.specs.Counted.{shown_of}
use Rattle.sccs_printing.specs.Targets.{Prints as PrintsTo}
use Rattle.sccs_printing.specs.declared.shown.Shown.{Shown}
use Rattle.sccs_name_files.specs.StepFiles.{look}
use Rattle.sccs_steps.specs.Actions.{Action, Stepped, hears, kind_of, steps_at}
use Rattle.sccs_steps.specs.Calls.{scene}
use Rattle.sccs_steps.specs.Running.{IsInput, RunsOperand}
use Rattle.sccs_steps.specs.Settings.{Setting}
use Rattle.sccs_steps.specs.Speaking.{BegunInTurn, InTurn, OperandBegins, OperandMakes}
use Rattle.sccs_steps.specs.StepEffects.{Outcome}
use Rattle.sccs_steps.specs.declared.faults.Fault.{Fault}
use Rattle.sccs_steps.specs.declared.faults.Fault.TheVariants as ends
use Rattle.sccs_steps.proofs.LoneOperands.{lone_operand}
use Rattle.sccs_step_lists.specs.StepLists.{AllTake, portions_of, steps_along}
use Rattle.sccs_step_lists.specs.Following.{RunsStepList}
use Rattle.sccs_step_lists.proofs.OneAction.{steps_step_list}
use Rattle.sccs_step_lists.proofs.QuietStepLists.{step_list_chosen}
use Rattle.sccs_step_lists.proofs.SaidStepLists.{never_step_list}
use Rattle.sccs_prs.specs.Gives.{IsListedFile, PrintsAll}
use Rattle.sccs_prs.specs.PrsStep.{ShowsOutcome}
use Rattle.sccs_prs.proofs.LinesLaws.{has_first, has_more}
use Rattle.sccs_prs.proofs.ReportLaws.{given_shows, outcome_by, outcome_steps, read_ends, unread_ends}
use Rattle.sccs_soak.specs.Commands.{soak_file}
use Rattle.sccs_soak.specs.Counting.{CountsLines}
use Rattle.sccs_soak.specs.Keeps.{from_file, outcome_is}
use Rattle.sccs_soak.specs.Soak.{BegunSummary, WholeSummary}
use Rattle.sccs_soak.specs.Summaries.{lines_by, newest_trunk, summary_action, summary_step_list, summary_outcome}
use Rattle.sccs_soak.specs.Summaries.{summary_text}
use Rattle.sccs_soak.proofs.SoakStepLists.{memory_causes}

-- ---- the newest delta of the trunk

pub trunk_lives : (records : List Record) (n : ℕ) → newest_trunk records ≡ Some n → has (live_serials records) n ≡ true
trunk_lives [] n is = absurd cc
trunk_lives (r ∷ rs) n is = by (λ on. trunk_lives rs n on) r.removed (r.sid.branch == 0) refl is
  where
    by : (newest_trunk rs ≡ Some n → has (live_serials rs) n ≡ true) → (removed trunk : Bool) → r.removed ≡ removed
        → option_map (λ (x : Record). x.serial) (cond (not removed && trunk) (Some r)
        (find (λ (x : Record). not x.removed && x.sid.branch == 0) rs)) ≡ Some n → has (live_serials (r ∷ rs)) n ≡ true
    by rest false true lives is = let same : r.serial ≡ n = cc in subst (λ k. has (live_serials (r ∷ rs)) k ≡ true) same
        (has_first r (live_serials rs) lives)
    by rest false false lives is = has_more (not r.removed) r.serial n (live_serials rs) (rest is)
    by rest true trunk gone is = has_more (not r.removed) r.serial n (live_serials rs) (rest is)

-- ---- how many lines a version has

shown_length : (set : List ℕ) (lines : List HistoryLine) → length (shown set lines) ≡ length (select set lines)
shown_length set [] = refl
shown_length set (line ∷ lines) = by (shows set line) (shown_length set lines)
  where
    by : (b : Bool) → length (shown set lines) ≡ length (select set lines) → length (front_if b line (shown set lines))
        ≡ length (front_if b line.text (select set lines))
    by true rest = ap suc rest
    by false rest = rest

pub version_counted : (serial : ℕ) (records : List Record) (items : List Item) (set : List ℕ) (form : LineForm)
    (s : Shown) → set ≡ applied (version_of serial) records → s ≡ shown_of form (shown set (lines_of items))
    → s.lines ≡ lines_by (Some serial) records items
version_counted serial records items set form s is same =
    ap (λ (x : Shown). x.lines) same ∙ (shown_length set (lines_of items)
    ∙ ap (λ (t : List ℕ). length (select t (lines_of items))) is)

pub fault_counts : (serial : Option ℕ) (records : List Record) (items : List Item) (text : List ℕ) (fault : StepFault)
    (a b : Option (List ℕ)) → PrintsTo {T = Shown} None text (Err fault) a b → CountsLines serial records items
    (Err fault)
fault_counts serial records items text Memory a b some = tt
fault_counts serial records items text DiskFault a b some = tt
fault_counts serial records items text WriteFault a b some = tt
fault_counts serial records items text ReadFault a b some = absurd some
fault_counts serial records items text (Refused refusal) a b some = absurd some

-- ---- what is printed

-- ---- the step

module _ (rounds : ℕ) (n : List ℕ) where
  as_summary : (o : Option View) (r : Result (Unit {0}) StepFault) (a b : Option (List ℕ))
      → IfSome o (λ (v : View). ShowsOutcome n (outcome_by (from_file rounds) n (v n)) r a b)
      → IfSome o (λ (v : View). ShowsOutcome n (summary_outcome rounds (look v n)) r a b)
  as_summary None r a b shows = tt
  as_summary (Some v) r a b shows = subst (λ (x : Outcome). ShowsOutcome n x r a b) (sym (outcome_is rounds (look v n)))
      shows

  pub unsummed_ends : (o : Option View) (fault : FileFault) (ended : StepFault) (a : Option (List ℕ))
      → ended ≡ file_fault fault → IfSome o (λ view. AnswersFile (file_in view n) (Err fault))
      → IfSome o (λ (v : View). ShowsOutcome n (summary_outcome rounds (look v n)) (Err ended) a a)
  unsummed_ends o fault ended a is answers = as_summary o (Err ended) a a
      (unread_ends (from_file rounds) n o fault ended a is answers)

  pub summary_ends : (o o1 : Option View) (front : Front) (r : Result (Unit {0}) StepFault) (a b : Option (List ℕ))
      → o1 ≡ o → IsPlaced front → IfSome o (λ view. AnswersFile (file_in view n) (Ok front))
      → ((bytes : List ℕ) (items : List Item) → IsListedFile (bytes_in o1 n) front bytes items
      → PrintsAll (summary_text rounds (Some bytes) front.header.records items) r a b)
      → IfSome o (λ (v : View). ShowsOutcome n (summary_outcome rounds (look v n)) r a b)
  summary_ends o o1 front r a b same placed answers gives =
      as_summary o r a b
      (read_ends (from_file rounds) n o o1 front r a b same placed answers (λ parsed bytes header listed.
      given_shows n (from_file rounds (bytes_in o1 n) parsed) (summary_text rounds (Some bytes) front.header.records
      parsed.items) r a b
      (by parsed bytes header listed) (gives bytes parsed.items listed)))
    where
      by : (parsed : Parsed) (bytes : List ℕ) → front.header ≡ parsed.header
          → IsListedFile (bytes_in o1 n) front bytes parsed.items → from_file rounds (bytes_in o1 n) parsed
          ≡ from_file rounds (Some bytes) (record { header = front.header; items = parsed.items })
      by parsed bytes header listed =
          ap (λ (t : Option (List ℕ)). from_file rounds t parsed) listed.told_is
          ∙ ap (λ (h : Header). from_file rounds (Some bytes) (record { header = h; items = parsed.items }))
          (sym header)

  pub summary_steps : (r : Result (Unit {0}) StepFault) (ta tb : Told) (left out out2 err : Option (List ℕ)) → tb ≡ ta
      → IfSome (seen ta) (λ (v : View). ShowsOutcome n (summary_outcome rounds (look v n)) r out out2)
      → Stepped (summary_action rounds) r n left (scene ta out err) (scene tb out2 err)
  summary_steps r ta tb left out out2 err same shows = outcome_steps (summary_outcome rounds) n r ta tb left out out2
      err same shows

-- ---- the call

summary_takes : (rounds : ℕ) (folder : Folder) (i : List ℕ) → AllTake (portions_of (summary_step_list rounds) folder i)
summary_takes rounds folder i = ((λ changes n fits. absurd (cc)), tt)

-- it takes no input
heard_none : (rounds : ℕ) (left : Option (List ℕ)) (i : List ℕ) → IsInput (summary_action rounds) (soak_file ∷ []) left
    i
unfolding kind_of
heard_none rounds left i = let one : 1 ≤ 1 = omega arith in (inl refl, inr one)

some_step : (rounds : ℕ) (folder : Folder) (i : List ℕ) → 0 < length (steps_along (summary_step_list rounds) folder i)
unfolding kind_of
some_step rounds folder i = omega arith

pub summary_runs : (rounds : ℕ) (r : Result ℕ Fault) (s t : Setting) → RunsOperand (summary_action rounds) soak_file r s
    t → RunsStepList (summary_step_list rounds) (λ i. Unit {0}) (WholeSummary rounds) (BegunSummary rounds) r s t
summary_runs rounds r s t runs =
    let x : Action = summary_action rounds in
    step_list_chosen (λ i. summary_step_list rounds) (summary_step_list rounds) (λ i. Unit {0})
    (IsInput x (soak_file ∷ []) s.left) (WholeSummary rounds) (BegunSummary rounds) r s t
    (λ folder j. summary_takes rounds folder j) (λ i any. refl) (λ i any. heard_none rounds s.left i)
    (steps_step_list x (λ folder i. steps_at x folder i (soak_file ∷ [])) (IsInput x (soak_file ∷ []) s.left)
    (InTurn (OperandMakes x) (soak_file ∷ [])) (BegunInTurn (OperandMakes x) (OperandBegins x) (soak_file ∷ []))
    (hears x (soak_file ∷ [])) r s t (λ changes n fits. absurd (cc))
    (lone_operand x soak_file r s t runs))

-- nothing was done
pub summary_never : (rounds : ℕ) (s : Setting) → RunsStepList (summary_step_list rounds) (λ i. Unit {0})
    (WholeSummary rounds) (BegunSummary rounds) (Err ends.Memory) s s
summary_never rounds s =
    never_step_list (summary_step_list rounds) (λ i. Unit {0}) (WholeSummary rounds) (BegunSummary rounds) []
    ends.Memory s s (summary_takes rounds) (some_step rounds) (inl refl) refl (memory_causes s.faults)
