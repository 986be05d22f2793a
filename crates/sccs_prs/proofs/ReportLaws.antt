-- What a call makes of a step that reads an s-file whole and prints a text of it.
use Rattle.std.proofs.Common.{◌≡◌, ℕ, false, List, [], ◌++◌, Option, None, Some, option_map, Result, Ok, Err, inl, refl}
use Rattle.std.proofs.Common.{sym, ap, subst, ◌∙◌, append-nil}
use Rattle.std.specs.Prelude.{IfSome}
use Rattle.sccs_base.specs.Stream.{GivesOk, GivesSome}
use Rattle.sccs_base.proofs.Gifts.{gives_none, some_none}
use Rattle.sccs_disk.specs.Files.{Content, View}
use Rattle.sccs_disk.specs.Told.{Told, seen}
use Rattle.sccs_sid.specs.Reading.{◌>>=◌}
use Rattle.sccs_sid.specs.declared.refusals.StepFault.{StepFault}
use Rattle.sccs_sid.specs.declared.refusals.StepFault.TheVariants.{Refused, Memory, ReadFault, WriteFault, DiskFault}
use Rattle.sccs_grammar.specs.File.{Parsed, answer, file_of}
use Rattle.sccs_grammar.specs.FileRefusals.{file_fault, or_refusal}
use Rattle.sccs_grammar.specs.declared.faults.FileFault.{FileFault}
use Rattle.sccs_grammar.specs.declared.faults.FileFault.TheVariants as faults
use Rattle.sccs_table.specs.FrontFile.{IsPlaced, Refuses}
use Rattle.sccs_table.specs.ReaderState.{bytes_in, file_in}
use Rattle.sccs_table.specs.declared.fronts.Front.{Front}
use Rattle.sccs_body.specs.BodyFile.{AnswersFile, ShowsFile}
use Rattle.sccs_body.proofs.FileLaws.{file_items}
use Rattle.sccs_name_files.specs.StepFiles.{Files, look, moved, Moves, is_working}
use Rattle.sccs_steps.specs.Actions.{IsHeard}
use Rattle.sccs_steps.specs.Calls.{Meets, scene, shown, world}
use Rattle.sccs_steps.specs.StepEffects.{Outcome, StepEffect, effect_of}
use Rattle.sccs_steps.proofs.ReadingSteps.{broken, kept, same_cleared}
use Rattle.sccs_prs.specs.Gives.{IsListedFile, PrintsAll}
use Rattle.sccs_prs.specs.PrsStep.{ShowsOutcome, prints}

abbrev pub bytes_at : Option Content → Option (List ℕ)
bytes_at o = option_map (λ (c : Content). c.bytes) o

-- a text is printed, all of it or a prefix
pub given_shows : (n : List ℕ) (o : Outcome) (text : List ℕ) (r : Result (Unit {0}) StepFault) (a b : Option (List ℕ))
    → o ≡ Ok (prints text) → PrintsAll text r a b → ShowsOutcome n o r a b
given_shows n o text (Ok done) a b is gives = (prints text, is, refl, gives)
given_shows n o text (Err Memory) a b is gives = subst (λ (x : Outcome). GivesSome a b (effect_of n x).text)
    (sym is) gives
given_shows n o text (Err DiskFault) a b is gives = subst (λ (x : Outcome). GivesSome a b (effect_of n x).text)
    (sym is) gives
given_shows n o text (Err WriteFault) a b is gives = subst (λ (x : Outcome). GivesSome a b (effect_of n x).text)
    (sym is) gives
given_shows n o text (Err ReadFault) a b is gives = absurd gives
given_shows n o text (Err (Refused refusal)) a b is gives = absurd gives

module _ (after : Option (List ℕ) → Parsed → Outcome) (n : List ℕ) where
  -- what the step does: what follows the reading of the file, or why that is refused
  abbrev pub outcome_by : Option Content → Outcome
  outcome_by s = or_refusal (answer file_of (bytes_at s)) >>= after (bytes_at s)

  read_by : (o : Option (List ℕ)) (r : Result Parsed FileFault) → answer file_of o ≡ r
      → (or_refusal (answer file_of o) >>= after o) ≡ (or_refusal r >>= after o)
  read_by o r is = ap (λ (x : Result Parsed FileFault). or_refusal x >>= after o) is

  -- ---- how it ends

  unread : (s : Option Content) (fault : FileFault) (a : Option (List ℕ)) → Refuses fault (answer file_of (bytes_at s))
      → ShowsOutcome n (outcome_by s) (Err (file_fault fault)) a a
  unread s faults.Missing a is = (read_by (bytes_at s) (Err faults.Missing) is, refl)
  unread s faults.TooLong a is = (read_by (bytes_at s) (Err faults.TooLong) is, refl)
  unread s faults.NotSccs a is = (read_by (bytes_at s) (Err faults.NotSccs) is, refl)
  unread s (faults.BadSum stored sum) a is = (read_by (bytes_at s) (Err (faults.BadSum stored sum)) is, refl)
  unread s (faults.BadFormat line) a is = (read_by (bytes_at s) (Err (faults.BadFormat line)) is, refl)
  unread s faults.Encoded a is = (read_by (bytes_at s) (Err faults.Encoded) is, refl)
  unread s (faults.Changed x y z w) a is = absurd is
  unread s faults.Failed a is = some_none a (effect_of n (outcome_by s)).text
  unread s faults.Memory a is = some_none a (effect_of n (outcome_by s)).text

  pub unread_ends : (o : Option View) (fault : FileFault) (ended : StepFault) (a : Option (List ℕ))
      → ended ≡ file_fault fault → IfSome o (λ view. AnswersFile (file_in view n) (Err fault))
      → IfSome o (λ (v : View). ShowsOutcome n (outcome_by (v n)) (Err ended) a a)
  unread_ends None fault ended a is answers = tt
  unread_ends (Some v) fault ended a is answers = subst (λ f. ShowsOutcome n (outcome_by (v n)) (Err f) a a) (sym is)
      (unread (v n) fault a answers)

  shown_header : (o : Option (List ℕ)) (parsed : Parsed) (front : Front) → ShowsFile o parsed front
      → front.header ≡ parsed.header
  shown_header None parsed front shows = absurd shows
  shown_header (Some file) parsed front shows = shows.0

  body_there : (o told : Option (List ℕ)) (parsed : Parsed) (front : Front) → IsPlaced front → told ≡ o
      → answer file_of o ≡ Ok parsed → ShowsFile o parsed front → (file : List ℕ)
      × IsListedFile told front file parsed.items
  body_there None told parsed front placed same is shows = absurd shows
  body_there (Some file) told parsed front placed same is shows = (
    file,
    record {
      told_is = same;
      front_is = record { placed = placed; size = shows.1.2.size; sum = shows.1.2.sum };
      items_are = file_items file parsed shows.1.0 front is shows.1.1 shows.1.2;
      no_zero = refl;
    },
  )

  pub read_ends : (o o1 : Option View) (front : Front) (r : Result (Unit {0}) StepFault) (a b : Option (List ℕ))
      → o1 ≡ o → IsPlaced front → IfSome o (λ view. AnswersFile (file_in view n) (Ok front))
      → ((parsed : Parsed) (bytes : List ℕ) → front.header ≡ parsed.header
      → IsListedFile (bytes_in o1 n) front bytes parsed.items → ShowsOutcome n (after (bytes_in o1 n) parsed) r a b)
      → IfSome o (λ (v : View). ShowsOutcome n (outcome_by (v n)) r a b)
  read_ends None o1 front r a b same placed answers ends = tt
  read_ends (Some v) o1 front r a b same placed answers ends =
      let parsed : Parsed = answers.0 in
      let told : bytes_in o1 n ≡ file_in v n = ap (λ (t : Option View). bytes_in t n) same in
      let there : (file : List ℕ) × IsListedFile (bytes_in o1 n) front file parsed.items =
      body_there (file_in v n) (bytes_in o1 n) parsed front placed told answers.1 answers.2 in
      subst (λ (x : Outcome). ShowsOutcome n x r a b) (ap (λ (bytes : Option (List ℕ)). after bytes parsed) told
      ∙ sym (read_by (bytes_at (v n)) (Ok parsed) answers.1))
      (ends parsed there.0 (shown_header (file_in v n) parsed front answers.2) there.1)

-- ---- the step, of any outcome

pub outcome_steps : (outcome : Files → Outcome) (n : List ℕ) (r : Result (Unit {0}) StepFault) (ta tb : Told)
    (left out out2 err : Option (List ℕ)) → tb ≡ ta
    → IfSome (seen ta) (λ (v : View). ShowsOutcome n (outcome (look v n)) r out out2)
    → IfSome (seen ta) (λ (v : View). (i : List ℕ) → IsHeard false left i → Meets (λ (done : Unit {0}). 0) r n
    (outcome (look v n)) (shown (scene ta out err)) (shown (scene tb out2 err)))
outcome_steps outcome n r ta tb left out out2 err same shows = by (seen ta) (ap seen same) shows
  where
    ends : (v : View) (o2 : Option View) (o : Outcome) (r : Result (Unit {0}) StepFault) → o2 ≡ Some v
        → ShowsOutcome n o r out out2 → Meets (λ (done : Unit {0}). 0) r n o (world (Some v) out err)
        (world o2 out2 err)
    ends v o2 o (Ok done) is shows = (
      shows.0,
      shows.1,
      ap (λ (d : StepEffect). d.status) shows.2,
      record {
        view = subst (λ (new : Option Files). Moves (is_working n) (λ u. moved u n new) (Some v) o2)
            (sym (ap (λ (d : StepEffect). d.new) shows.2)) (subst (λ (t : Option View). Moves (is_working n) (λ u. u)
            (Some v) t) (sym is) (λ k h. refl));
        cleared = same_cleared v o2 n is;
        out = subst (λ t. GivesOk out out2 t) (sym (ap (λ t. shows.0.text ++ t) (ap (λ (d : StepEffect). d.out) shows.2)
            ∙ append-nil shows.0.text)) shows.3;
        err = subst (λ t. GivesOk err err t) (sym (ap (λ (d : StepEffect). d.err) shows.2)) (gives_none err);
      },
    )
    ends v o2 o (Err (Refused refusal)) is shows = (
      shows.0,
      kept v o2 n None [] out out2 err is (subst (λ (x : Option (List ℕ)). GivesSome out x []) (sym shows.1)
          (some_none out [])),
    )
    ends v o2 o (Err Memory) is shows = kept v o2 n (effect_of n o).new (effect_of n o).text out out2 err is shows
    ends v o2 o (Err WriteFault) is shows = inl (kept v o2 n (effect_of n o).new (effect_of n o).text out out2 err is
        shows)
    ends v o2 o (Err DiskFault) is shows = broken v o2 n o out out2 err is shows
    ends v o2 o (Err ReadFault) is shows = absurd shows

    by : (o : Option View) → seen tb ≡ o → IfSome o (λ (v : View). ShowsOutcome n (outcome (look v n)) r out out2)
        → IfSome o (λ (v : View). (i : List ℕ) → IsHeard false left i → Meets (λ (done : Unit {0}). 0) r n
        (outcome (look v n)) (world o out err) (world (seen tb) out2 err))
    by None is shows = tt
    by (Some v) is shows = λ i heard. ends v (seen tb) (outcome (look v n)) r is shows
