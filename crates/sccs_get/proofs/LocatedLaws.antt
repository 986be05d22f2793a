-- What a get finds behind each of its checks, or why it ended there.
use Rattle.std.proofs.Common.{◌≡◌, ℕ, Bool, true, false, List, Option, None, Some, Result, Ok, Err, refl, sym, ap}
use Rattle.std.proofs.Common.{subst, ◌∙◌}
use Rattle.std.specs.Prelude.{IfSome}
use Rattle.sccs_disk.specs.Files.{View}
use Rattle.sccs_sid.specs.Reading.{◌>>=◌}
use Rattle.sccs_sid.specs.declared.moments.Stamp.{Stamp}
use Rattle.sccs_sid.specs.declared.refusals.Refusal.{Refusal}
use Rattle.sccs_sid.specs.declared.refusals.StepFault.{StepFault}
use Rattle.sccs_sid.specs.declared.refusals.StepFault.TheVariants.{Refused, Memory, ReadFault, WriteFault, DiskFault}
use Rattle.sccs_history.specs.Body.{HistoryLine}
use Rattle.sccs_history.specs.Numbers.{has}
use Rattle.sccs_history.specs.declared.headers.Header.{Header}
use Rattle.sccs_history.specs.declared.headers.Item.{Item}
use Rattle.sccs_grammar.specs.File.{Parsed, answer, file_of}
use Rattle.sccs_grammar.specs.FileRefusals.{file_fault, or_none, or_refusal, refusal_of}
use Rattle.sccs_grammar.specs.declared.faults.FileFault.{FileFault}
use Rattle.sccs_grammar.specs.declared.faults.FileFault.TheVariants as faults
use Rattle.sccs_table.specs.FrontFile.{IsPlaced, Refuses}
use Rattle.sccs_table.specs.ReaderState.{bytes_in, file_in}
use Rattle.sccs_table.specs.declared.fronts.Front.{Front}
use Rattle.sccs_body.specs.BodyFile.{AnswersFile}
use Rattle.sccs_versions.specs.Coming.{IsBody}
use Rattle.sccs_words.specs.declared.commands.GetWords.{GetWords}
use Rattle.sccs_name_files.specs.StepFiles.{Files, look}
use Rattle.sccs_changes.specs.Pending.{bytes_at}
use Rattle.sccs_changes.specs.PFiles.{Answers, PassesCheck}
use Rattle.sccs_get.specs.Located.{AnswersLocated}
use Rattle.sccs_get.specs.VersionStep.{LocatedVersion, found_version, g_is_free, has_its_keywords, lines_got}
use Rattle.sccs_get.specs.VersionStep.{located_of}
use Rattle.sccs_get.specs.declared.found.Found.{Found}
use Rattle.sccs_get.specs.declared.steps.Located.{Located}
use Rattle.sccs_get.proofs.ReadyLaws.{body_there}
use Rattle.sccs_changes.proofs.PendingLaws.{shown_header}

module _ (words : GetWords) (stamp : Stamp) (place : List ℕ) (n : List ℕ) where
  -- ---- what is found, check by check

  abbrev from_g : Parsed → Files → Found → Result LocatedVersion Refusal
  from_g parsed f found = g_is_free words f.g >>= λ free. Ok (record { parsed = parsed; found = found })

  abbrev from_found : Parsed → Files → Found → Result LocatedVersion Refusal
  from_found parsed f found = has_its_keywords words parsed.header.flags (lines_got found parsed.items) >>= λ keywords.
      from_g parsed f found

  abbrev from_parsed : Files → Parsed → Result LocatedVersion Refusal
  from_parsed f parsed = found_version words stamp place n parsed.header >>= λ found. from_found parsed f found

  abbrev located : Files → Result LocatedVersion Refusal
  located f = located_of words stamp place n f

  located_is : (f : Files) → located f ≡ (or_refusal (answer file_of (bytes_at f.s)) >>= λ parsed. from_parsed f parsed)
  unfolding located_of
  located_is f = refl

  is_read : (f : Files) (parsed : Parsed) → answer file_of (bytes_at f.s) ≡ Ok parsed → located f ≡ from_parsed f parsed
  is_read f parsed is = located_is f ∙ ap (λ r. or_refusal r >>= λ x. from_parsed f x) is

  isnt_read : (f : Files) (fault : FileFault) → answer file_of (bytes_at f.s) ≡ Err fault
      → located f ≡ Err (or_none (refusal_of fault))
  isnt_read f fault is = located_is f ∙ ap (λ r. or_refusal r >>= λ x. from_parsed f x) is

  is_found : (f : Files) (parsed : Parsed) (found : Found) → answer file_of (bytes_at f.s) ≡ Ok parsed
      → found_version words stamp place n parsed.header ≡ Ok found → located f ≡ from_found parsed f found
  is_found f parsed found is found_is = is_read f parsed is ∙ ap (λ (r : Result Found Refusal). r
      >>= λ x. from_found parsed f x) found_is

  pub is_located : (f : Files) (parsed : Parsed) (found : Found) → answer file_of (bytes_at f.s) ≡ Ok parsed
      → found_version words stamp place n parsed.header ≡ Ok found → has_its_keywords words parsed.header.flags
      (lines_got found parsed.items) ≡ Ok true → g_is_free words f.g ≡ Ok true
      → located_of words stamp place n f ≡ Ok (record { parsed = parsed; found = found })
  is_located f parsed found is found_is worded free =
      is_found f parsed found is found_is
      ∙ (ap (λ (r : Result Bool Refusal). r >>= λ x. from_g parsed f found) worded ∙ ap (λ (r : Result Bool Refusal). r
      >>= λ x. Ok (record { parsed = parsed; found = found })) free)

  -- ---- why it ended

  abbrev Explains : Files → StepFault → Type 0
  Explains f fault = AnswersLocated words stamp place n f (Err fault)

  file_explains : (f : Files) (fault : FileFault) → Refuses fault (answer file_of (bytes_at f.s))
      → Explains f (file_fault fault)
  file_explains f faults.Missing is = isnt_read f faults.Missing is
  file_explains f faults.TooLong is = isnt_read f faults.TooLong is
  file_explains f faults.NotSccs is = isnt_read f faults.NotSccs is
  file_explains f (faults.BadSum stored sum) is = isnt_read f (faults.BadSum stored sum) is
  file_explains f (faults.BadFormat line) is = isnt_read f (faults.BadFormat line) is
  file_explains f faults.Encoded is = isnt_read f faults.Encoded is
  file_explains f (faults.Changed a b c d) is = absurd is
  file_explains f faults.Failed is = tt
  file_explains f faults.Memory is = tt

  -- a check that fails behind a first part
  failed_explains : {A : Type 0} (f : Files) (r : Result A Refusal) (rest : A → Result LocatedVersion Refusal)
      (fault : StepFault) → located f ≡ (r >>= rest) → Answers r (Err fault) → Explains f fault
  failed_explains f r rest (Refused refusal) is answers = is ∙ ap (λ x. x >>= rest) answers
  failed_explains f r rest Memory is answers = tt
  failed_explains f r rest DiskFault is answers = tt
  failed_explains f r rest ReadFault is answers = absurd answers
  failed_explains f r rest WriteFault is answers = absurd answers

  check_explains : (f : Files) (r : Result Bool Refusal) (rest : Result LocatedVersion Refusal) (fault : StepFault)
      → located f ≡ (r >>= λ x. rest) → PassesCheck r (Err fault) → Explains f fault
  check_explains f r rest (Refused refusal) is passes = is ∙ ap (λ (x : Result Bool Refusal). x >>= λ y. rest) passes
  check_explains f r rest Memory is passes = tt
  check_explains f r rest DiskFault is passes = tt
  check_explains f r rest ReadFault is passes = absurd passes
  check_explains f r rest WriteFault is passes = absurd passes

  -- ---- over a view that may be told

  abbrev pub LocatedAt : Option View → Result Located StepFault → Type 0
  LocatedAt o r = IfSome o (λ (v : View). AnswersLocated words stamp place n (look v n) r)

  pub file_ends : (o : Option View) (fault : FileFault) (ended : StepFault) → ended ≡ file_fault fault
      → IfSome o (λ view. AnswersFile (file_in view n) (Err fault)) → LocatedAt o (Err ended)
  file_ends None fault ended is answers = tt
  file_ends (Some v) fault ended is answers = subst (λ e. Explains (look v n) e) (sym is)
      (file_explains (look v n) fault answers)

  pub found_ends : (o : Option View) (front : Front) (fault : StepFault)
      → IfSome o (λ view. AnswersFile (file_in view n) (Ok front))
      → Answers {A = Found} (found_version words stamp place n front.header) (Err fault) → LocatedAt o (Err fault)
  found_ends None front fault answers said = tt
  found_ends (Some v) front fault answers said =
      failed_explains (look v n) (found_version words stamp place n answers.0.header) (λ found. from_found answers.0
      (look v n) found) fault (is_read (look v n) answers.0 answers.1)
      (subst (λ (h : Header). Answers {A = Found} (found_version words stamp place n h) (Err fault))
      (shown_header (file_in v n) answers.0 front answers.2) said)

  -- What was read and found of a view, with the file's body in what is told behind it.
  pub record FoundAt (v : View) (told : Option View) (front : Front) (found : Found) : Type 0 where
    pub parsed : Parsed
    pub header : front.header ≡ parsed.header
    pub located_is : located (look v n) ≡ from_found parsed (look v n) found
    pub file : List ℕ
    pub body : IsBody (bytes_in told n) front found.set file parsed.items

  found_at : (v : View) (told : Option View) (front : Front) (found : Found) → told ≡ Some v → IsPlaced front
      → has found.set 0 ≡ false → (answers : AnswersFile (file_in v n) (Ok front))
      → found_version words stamp place n front.header ≡ Ok found → (at : FoundAt v told front found)
      × (at.parsed ≡ answers.0)
  found_at v told front found same placed zero answers is =
      let parsed : Parsed = answers.0 in
      let header : front.header ≡ parsed.header = shown_header (file_in v n) parsed front answers.2 in
      let there : (file : List ℕ) × IsBody (bytes_in told n) front found.set file parsed.items =
      body_there (file_in v n) (bytes_in told n) parsed front found.set placed
      (ap (λ (t : Option View). bytes_in t n) same) zero answers.1 answers.2 in (
        record {
          parsed = parsed;
          header = header;
          located_is = is_found (look v n) parsed found answers.1
              (ap (λ (h : Header). found_version words stamp place n h) (sym header) ∙ is);
          file = there.0;
          body = there.1;
        },
        refl,
      )

  keywords_as : (front : Front) (parsed : Parsed) (lines : List HistoryLine) (r : Result (Unit {0}) StepFault)
      → front.header ≡ parsed.header → PassesCheck (has_its_keywords words front.header.flags lines) r
      → PassesCheck (has_its_keywords words parsed.header.flags lines) r
  keywords_as front parsed lines r header passes =
      subst (λ (h : Header). PassesCheck (has_its_keywords words h.flags lines) r) header passes

  pub keywords_end : (o o1 : Option View) (front : Front) (found : Found) (fault : StepFault) → o1 ≡ o → IsPlaced front
      → has found.set 0 ≡ false → IfSome o (λ view. AnswersFile (file_in view n) (Ok front))
      → found_version words stamp place n front.header ≡ Ok found
      → ((file : List ℕ) (items : List Item) → IsBody (bytes_in o1 n) front found.set file items
      → PassesCheck (has_its_keywords words front.header.flags (lines_got found items)) (Err fault))
      → LocatedAt o (Err fault)
  keywords_end None o1 front found fault same placed zero answers is told = tt
  keywords_end (Some v) o1 front found fault same placed zero answers is told =
      by (found_at v o1 front found same placed zero answers is).0
    where
      by : FoundAt v o1 front found → Explains (look v n) fault
      by at =
          check_explains (look v n) (has_its_keywords words at.parsed.header.flags (lines_got found at.parsed.items))
          (from_g at.parsed (look v n) found) fault at.located_is
          (keywords_as front at.parsed (lines_got found at.parsed.items) (Err fault) at.header
          (told at.file at.parsed.items at.body))

  -- behind the check on keywords
  worded : (v : View) (o1 : Option View) (front : Front) (found : Found) → (at : FoundAt v o1 front found)
      → ((file : List ℕ) (items : List Item) → IsBody (bytes_in o1 n) front found.set file items
      → PassesCheck (has_its_keywords words front.header.flags (lines_got found items)) (Ok tt))
      → located (look v n) ≡ from_g at.parsed (look v n) found
  worded v o1 front found at told =
      at.located_is ∙ ap (λ (r : Result Bool Refusal). r >>= λ x. from_g at.parsed (look v n) found)
      (keywords_as front at.parsed (lines_got found at.parsed.items) (Ok tt) at.header
      (told at.file at.parsed.items at.body))

  pub g_ends : (o o1 o2 : Option View) (front : Front) (found : Found) (fault : StepFault) → o1 ≡ o → o2 ≡ o
      → IsPlaced front → has found.set 0 ≡ false → IfSome o (λ view. AnswersFile (file_in view n) (Ok front))
      → found_version words stamp place n front.header ≡ Ok found
      → ((file : List ℕ) (items : List Item) → IsBody (bytes_in o1 n) front found.set file items
      → PassesCheck (has_its_keywords words front.header.flags (lines_got found items)) (Ok tt))
      → IfSome o2 (λ (v : View). PassesCheck (g_is_free words (look v n).g) (Err fault)) → LocatedAt o (Err fault)
  g_ends None o1 o2 front found fault same same2 placed zero answers is told free = tt
  g_ends (Some v) o1 o2 front found fault same same2 placed zero answers is told free =
      by (found_at v o1 front found same placed zero answers is).0
    where
      by : FoundAt v o1 front found → Explains (look v n) fault
      by at =
          check_explains (look v n) (g_is_free words (look v n).g) (Ok (record { parsed = at.parsed; found = found }))
          fault (worded v o1 front found at told)
          (subst (λ (t : Option View). IfSome t (λ (u : View). PassesCheck (g_is_free words (look u n).g) (Err fault)))
          same2 free)

  -- all checks are made
  pub all_located : (o o1 o2 : Option View) (front : Front) (found : Found) → o1 ≡ o → o2 ≡ o → IsPlaced front
      → has found.set 0 ≡ false → IfSome o (λ view. AnswersFile (file_in view n) (Ok front))
      → found_version words stamp place n front.header ≡ Ok found
      → ((file : List ℕ) (items : List Item) → IsBody (bytes_in o1 n) front found.set file items
      → PassesCheck (has_its_keywords words front.header.flags (lines_got found items)) (Ok tt))
      → IfSome o2 (λ (v : View). PassesCheck (g_is_free words (look v n).g) (Ok tt))
      → LocatedAt o (Ok (record { front = front; found = found }))
  all_located None o1 o2 front found same same2 placed zero answers is told free = tt
  all_located (Some v) o1 o2 front found same same2 placed zero answers is told free =
      by (found_at v o1 front found same placed zero answers is)
    where
      by : (at : FoundAt v o1 front found) × (at.parsed ≡ answers.0) → AnswersLocated words stamp place n (look v n)
          (Ok (record { front = front; found = found }))
      by (at, there) = (
        answers.0,
        answers.2,
        answers.1,
        worded v o1 front found at told
            ∙ (ap (λ (r : Result Bool Refusal). r >>= λ x. Ok (record { parsed = at.parsed; found = found }))
            (subst (λ (t : Option View). IfSome t (λ (u : View). PassesCheck (g_is_free words (look u n).g)
            (Ok tt))) same2 free)
            ∙ ap (λ (p : Parsed). Ok (record { parsed = p; found = found })) there),
      )
