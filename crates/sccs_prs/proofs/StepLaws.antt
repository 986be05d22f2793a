-- What prs makes of its step.
use Rattle.std.proofs.Common.{◌≡◌, ℕ, true, List, [], Option, None, Some, Result, Ok, Err, inl, refl, sym, ap, subst}
use Rattle.std.proofs.Common.{◌∙◌, arith}
use Rattle.std.specs.Prelude.{IfSome}
use Rattle.sccs_base.specs.Name.{IsSFileName, is_sfile_name, sfile_name_decides}
use Rattle.sccs_base.proofs.Gifts.{gives_none, some_none}
use Rattle.sccs_disk.specs.Files.{View}
use Rattle.sccs_disk.specs.Told.{Told, seen}
use Rattle.sccs_sid.specs.Reading.{◌>>=◌}
use Rattle.sccs_sid.specs.declared.refusals.Refusal.{Refusal}
use Rattle.sccs_sid.specs.declared.refusals.Refusal.TheVariants as refusals
use Rattle.sccs_sid.specs.declared.refusals.StepFault.{StepFault}
use Rattle.sccs_sid.specs.declared.refusals.StepFault.TheVariants.{Refused, Memory, ReadFault, WriteFault, DiskFault}
use Rattle.sccs_history.specs.declared.headers.Header.{Header}
use Rattle.sccs_history.specs.declared.headers.Item.{Item}
use Rattle.sccs_grammar.specs.File.{Parsed}
use Rattle.sccs_grammar.specs.FileRefusals.{file_fault}
use Rattle.sccs_grammar.specs.declared.faults.FileFault.{FileFault}
use Rattle.sccs_grammar.specs.declared.faults.FileFault.TheVariants as faults
use Rattle.sccs_table.specs.FrontFile.{IsPlaced}
use Rattle.sccs_table.specs.ReaderState.{bytes_in, file_in}
use Rattle.sccs_table.specs.declared.fronts.Front.{Front}
use Rattle.sccs_body.specs.BodyFile.{AnswersFile}
use Rattle.sccs_name_files.specs.StepFiles.{look}
use Rattle.sccs_steps.specs.Actions.{RefusesWithin, SpeaksBy, Stepped, quiet_checks}
use Rattle.sccs_steps.specs.Calls.{scene}
use Rattle.sccs_steps.specs.Causes.{PrintCauses, StepCauses, counts}
use Rattle.sccs_steps.specs.StepEffects.{Outcome}
use Rattle.sccs_words.specs.declared.commands.PrsWords.{PrsWords}
use Rattle.sccs_prs.specs.Chosen.{chosen_of}
use Rattle.sccs_prs.specs.Gives.{IsListedFile, PrintsAll, shown_by}
use Rattle.sccs_prs.specs.Keeps.{from_file, outcome_is}
use Rattle.sccs_prs.specs.PrsStep.{ShowsOutcome, prints, prs_action, prs_checks, prs_outcome, shown_file}
use Rattle.sccs_prs.specs.PrsText.{report_text}
use Rattle.sccs_prs.specs.declared.choices.Chosen.{Chosen}
use Rattle.sccs_prs.proofs.ReportLaws.{given_shows, outcome_by, outcome_steps, read_ends, unread_ends}

module _ (words : PrsWords) (place n : List ℕ) where
  -- what follows the reading of the file
  abbrev after : Option (List ℕ) → Parsed → Outcome
  after bytes file = from_file words place n file

  -- the outcome is that of reading, and of what follows it
  as_prs : (o : Option View) (r : Result (Unit {0}) StepFault) (a b : Option (List ℕ))
      → IfSome o (λ (v : View). ShowsOutcome n (outcome_by after n (v n)) r a b)
      → IfSome o (λ (v : View). ShowsOutcome n (prs_outcome words place n (look v n)) r a b)
  as_prs None r a b shows = tt
  as_prs (Some v) r a b shows = subst (λ (x : Outcome). ShowsOutcome n x r a b)
      (sym (outcome_is words place n (look v n))) shows

  pub file_ends : (o : Option View) (fault : FileFault) (ended : StepFault) (a : Option (List ℕ))
      → ended ≡ file_fault fault → IfSome o (λ view. AnswersFile (file_in view n) (Err fault))
      → IfSome o (λ (v : View). ShowsOutcome n (prs_outcome words place n (look v n)) (Err ended) a a)
  file_ends o fault ended a is answers = as_prs o (Err ended) a a (unread_ends after n o fault ended a is answers)

  chosen_is : (front : Front) (parsed : Parsed) (r : Result Chosen Refusal) → front.header ≡ parsed.header
      → chosen_of words front.header.records ≡ r → from_file words place n parsed
      ≡ (r >>= λ chosen. Ok (prints (report_text words chosen (shown_file parsed n place))))
  chosen_is front parsed r header chosen = ap (λ (c : Result Chosen Refusal). c
      >>= λ x. Ok (prints (report_text words x (shown_file parsed n place))))
      (ap (λ (h : Header). chosen_of words h.records) (sym header) ∙ chosen)

  pub unchosen_ends : (o : Option View) (front : Front) (a : Option (List ℕ)) → IsPlaced front
      → IfSome o (λ view. AnswersFile (file_in view n) (Ok front)) → chosen_of words front.header.records
      ≡ Err refusals.NoSid → IfSome o (λ (v : View). ShowsOutcome n (prs_outcome words place n (look v n))
      (Err (Refused refusals.NoSid)) a a)
  unchosen_ends o front a placed answers is =
      as_prs o (Err (Refused refusals.NoSid)) a a (read_ends after n o o front (Err (Refused refusals.NoSid)) a a refl
      placed answers (λ parsed bytes header listed. (chosen_is front parsed (Err refusals.NoSid) header is, refl)))

  pub report_ends : (o o1 : Option View) (front : Front) (chosen : Chosen) (r : Result (Unit {0}) StepFault)
      (a b : Option (List ℕ)) → o1 ≡ o → IsPlaced front → IfSome o (λ view. AnswersFile (file_in view n) (Ok front))
      → chosen_of words front.header.records ≡ Ok chosen
      → ((bytes : List ℕ) (items : List Item) → IsListedFile (bytes_in o1 n) front bytes items
      → PrintsAll (report_text words chosen (shown_by front items n place)) r a b)
      → IfSome o (λ (v : View). ShowsOutcome n (prs_outcome words place n (look v n)) r a b)
  report_ends o o1 front chosen r a b same placed answers is gives =
      as_prs o r a b
      (read_ends after n o o1 front r a b same placed answers (λ parsed bytes header listed.
      given_shows n (from_file words place n parsed) (report_text words chosen (shown_file parsed n place)) r a b
      (chosen_is front parsed (Ok chosen) header is)
      (subst (λ (h : Header). PrintsAll (report_text words chosen
      (record { header = h; items = parsed.items; name = n; place = place })) r a b) header
      (gives bytes parsed.items listed))))

  -- ---- the step

  pub shown_steps : (r : Result (Unit {0}) StepFault) (ta tb : Told) (left out out2 err : Option (List ℕ)) → tb ≡ ta
      → IfSome (seen ta) (λ (v : View). ShowsOutcome n (prs_outcome words place n (look v n)) r out out2)
      → Stepped (prs_action words place) r n left (scene ta out err) (scene tb out2 err)
  shown_steps r ta tb left out out2 err same shows = outcome_steps (prs_outcome words place n) n r ta tb left out out2
      err same shows

-- ---- over any disk

pub shown_speaks : (n : List ℕ) (r : Result (Unit {0}) StepFault) (err : Option (List ℕ)) → RefusesWithin prs_checks r
    → SpeaksBy (quiet_checks prs_checks) r n err err
shown_speaks n (Ok done) err within = (Ok (prints []), refl, (prints [], refl, refl, gives_none err))
shown_speaks n (Err (Refused refusal)) err within = (Err refusal, within refusal refl, (refl, refl))
shown_speaks n (Err Memory) err within = (Ok (prints []), refl, some_none err [])
shown_speaks n (Err ReadFault) err within = (Ok (prints []), refl, some_none err [])
shown_speaks n (Err WriteFault) err within = (Ok (prints []), refl, some_none err [])
shown_speaks n (Err DiskFault) err within = (Ok (prints []), refl, some_none err [])

pub as_step : {X : Type 0} (r : Result X StepFault) (i o o2 err d d2 : ℕ) → PrintCauses r o o2 d d2
    → StepCauses r (counts i o err d) (counts i o2 err d2)
as_step r i o o2 err d d2 causes = record {
  input_later = omega arith;
  out_later = causes.out_later;
  err_later = omega arith;
  disk_later = causes.disk_later;
  read = λ is. absurd (causes.read is);
  write = λ is. inl (causes.write is);
  broke = causes.broke;
}

pub is_sfile : (n : List ℕ) → is_sfile_name n ≡ true → IsSFileName n
is_sfile n is = ((sfile_name_decides n).0 is).1
