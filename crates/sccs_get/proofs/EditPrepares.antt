-- What is prepared of an edit.
use Rattle.std.proofs.Common.{◌≡◌, ℕ, Bool, true, false, List, [], drop, Option, None, Some, Result, Ok, Err, refl, sym}
use Rattle.std.proofs.Common.{ap, subst, ◌∙◌}
use Rattle.std.specs.Prelude.{IfSome}
use Rattle.std.specs.Result.{IfOk}
use Rattle.sccs_base.specs.Name.{IsSFileName, p_file, z_file}
use Rattle.sccs_base.specs.Stream.{GivesOk}
use Rattle.sccs_base.proofs.Gifts.{some_none}
use Rattle.sccs_disk.specs.Files.{Content, View}
use Rattle.sccs_disk.specs.Told.{Told, seen}
use Rattle.sccs_disk.proofs.Puts.{put_other}
use Rattle.sccs_sid.specs.Reading.{◌>>=◌}
use Rattle.sccs_sid.specs.declared.moments.Stamp.{Stamp}
use Rattle.sccs_sid.specs.declared.refusals.Refusal.{Refusal}
use Rattle.sccs_sid.specs.declared.refusals.StepFault.{StepFault}
use Rattle.sccs_sid.specs.declared.refusals.StepFault.TheVariants.{Refused, Memory, ReadFault, WriteFault, DiskFault}
use Rattle.sccs_history.specs.Numbers.{has}
use Rattle.sccs_history.specs.declared.headers.Header.{Header}
use Rattle.sccs_history.specs.declared.headers.Item.{Item}
use Rattle.sccs_table.specs.FrontFile.{IsPlaced}
use Rattle.sccs_table.specs.ReaderState.{bytes_in}
use Rattle.sccs_versions.specs.Coming.{IsBody}
use Rattle.sccs_name_files.specs.StepFiles.{l_file, look}
use Rattle.sccs_grammar.specs.File.{Parsed}
use Rattle.sccs_crash_points.proofs.FileNames.{from_g, from_s}
use Rattle.sccs_changes.specs.Pending.{bytes_at}
use Rattle.sccs_changes.proofs.PendingLaws.{shown_header}
use Rattle.sccs_steps.specs.Actions.{RefusesWithin}
use Rattle.sccs_steps.specs.Calls.{world}
use Rattle.sccs_steps.specs.StepEffects.{Outcome, StepEffect}
use Rattle.sccs_summary.specs.SummaryFiles.{l_made}
use Rattle.sccs_changes.specs.Changes.{CouldPrepare, IsUnmade, Prepares, PreparesBy, PreparesChange, unlocked}
use Rattle.sccs_changes.specs.declared.prepared.Prepared.{Prepared}
use Rattle.sccs_words.specs.declared.commands.GetWords.{GetWords}
use Rattle.sccs_get.specs.EditGiving.{AnswersReserved}
use Rattle.sccs_get.specs.EditStep.{Reserved as IsReserved, could_edit, edit_change, edit_outcome, edit_effect, g_after}
use Rattle.sccs_get.specs.EditStep.{reserved_of}
use Rattle.sccs_get.specs.NewEntry.{edit_checks}
use Rattle.sccs_get.specs.SummaryGiving.{GivesSummary}
use Rattle.sccs_get.specs.SummaryStep.{printed_summary, summary_got, summed, writes_l}
use Rattle.sccs_get.specs.VersionStep.{given_text, lines_got, says_well}
use Rattle.sccs_get.specs.declared.edits.Reserved.{Reserved}
use Rattle.sccs_get.proofs.EditSums.{cut_prepares, early_of, early_prepares, kept_by, l_there, same_prepares, sum_by}
use Rattle.sccs_get.proofs.EditWrites.{files_same}
use Rattle.sccs_get.proofs.ReadyLaws.{body_there}
use Rattle.sccs_get.proofs.ReservedLaws.{reserved_from, reserved_is}
use Rattle.sccs_get.proofs.SummaryLaws.{l_by, l_other}

-- ---- over any disk

pub edit_speaks : (words : GetWords) (r : Result Prepared StepFault) → IfOk r (λ p. says_well words p.message ≡ true)
    → RefusesWithin edit_checks r → CouldPrepare (could_edit words) r
edit_speaks words (Ok p) says checks = (
  record { new = None; text = []; out = []; err = p.message; status = 0 },
  says,
  refl,
  refl,
)
edit_speaks words (Err (Refused refusal)) says checks = checks refusal refl
edit_speaks words (Err Memory) says checks = tt
edit_speaks words (Err ReadFault) says checks = tt
edit_speaks words (Err WriteFault) says checks = tt
edit_speaks words (Err DiskFault) says checks = tt

-- no check of the summary fails
pub none_speaks : (words : GetWords) (fault : StepFault) → RefusesWithin {X = Unit {0}} [] (Err fault)
    → CouldPrepare (could_edit words) (Err fault)
none_speaks words (Refused refusal) none = absurd (let never : false ≡ true = none refusal refl in cc)
none_speaks words Memory none = tt
none_speaks words ReadFault none = tt
none_speaks words WriteFault none = tt
none_speaks words DiskFault none = tt

-- ---- over a view that may be told

module _ (words : GetWords) (stamp : Stamp) (place : List ℕ) (heading : Bool) (n : List ℕ) where
  -- the z-file is no part of what is found
  unlocked_same : (v : View) → IsSFileName n → reserved_of words stamp place n (look (unlocked n v) n)
      ≡ reserved_of words stamp place n (look v n)
  unlocked_same v sfile =
      reserved_is words stamp place n (look (unlocked n v) n)
      ∙ (ap (λ (o : Option Content). reserved_from words stamp place n o (unlocked n v (p_file n))
      (unlocked n v (drop 2 n))) (put_other v (z_file n) n None (from_s 122 n sfile refl))
      ∙ (ap (λ (o : Option Content). reserved_from words stamp place n (v n) o (unlocked n v (drop 2 n)))
      (put_other v (z_file n) (p_file n) None refl)
      ∙ (ap (λ (o : Option Content). reserved_from words stamp place n (v n) (v (p_file n)) o)
      (put_other v (z_file n) (drop 2 n) None (from_g 122 n sfile))
      ∙ sym (reserved_is words stamp place n (look v n)))))

  abbrev made_of : View → IsReserved → StepEffect
  made_of v x = edit_effect words heading n x.parsed.header.records (look (unlocked n v) n) x.edits x.edit x.version
      (lines_got x.version x.parsed.items)

  abbrev of_found : View → IsReserved → Outcome
  of_found v x = Ok (summed words (summary_got words x.parsed.header.records x.version) (look (unlocked n v) n)
      (made_of v x))

  outcome_is : (i : List ℕ) (named : List (Option Content)) (v : View)
      → edit_outcome words stamp place heading n i named (look (unlocked n v) n) ≡ (reserved_of words stamp place n
      (look (unlocked n v) n) >>= λ x. of_found v x)
  unfolding edit_outcome
  outcome_is i named v = refl

  outcome_as : (i : List ℕ) (named : List (Option Content)) (v : View) (r : Result IsReserved Refusal) → IsSFileName n
      → reserved_of words stamp place n (look v n) ≡ r → edit_outcome words stamp place heading n i named
      (look (unlocked n v) n) ≡ (r >>= λ x. of_found v x)
  outcome_as i named v r sfile is = outcome_is i named v ∙ ap (λ (r : Result IsReserved Refusal). r
      >>= λ x. of_found v x) (unlocked_same v sfile ∙ is)

  -- ---- a check fails

  untouched : (text : List ℕ) (v : View) (out err : Option (List ℕ)) → IsUnmade n text (world (Some v) out err)
      (world (Some v) out err)
  untouched text v out err = record { view = λ k h. refl; out = some_none out text }

  unfound : (fault : StepFault) (i : List ℕ) (named : List (Option Content)) (v : View) (out err : Option (List ℕ))
      → IsSFileName n → AnswersReserved words stamp place n (look v n) (Err fault)
      → Prepares (Err fault) n (edit_outcome words stamp place heading n i named (look (unlocked n v) n))
      (world (Some v) out err) (world (Some v) out err)
  unfound (Refused refusal) i named v out err sfile answers = (
    outcome_as i named v (Err refusal) sfile answers,
    untouched [] v out err,
  )
  unfound Memory i named v out err sfile answers = untouched _ v out err
  unfound DiskFault i named v out err sfile answers = untouched _ v out err
  unfound ReadFault i named v out err sfile answers = absurd answers
  unfound WriteFault i named v out err sfile answers = absurd answers

  pub unfound_prepares : (fault : StepFault) (left : Option (List ℕ)) (o o2 : Option View) (out err : Option (List ℕ))
      → IsSFileName n → o2 ≡ o → IfSome o (λ (v : View). AnswersReserved words stamp place n (look v n) (Err fault))
      → PreparesChange (edit_change words stamp place heading) (Err fault) n left (world o out err) (world o2 out err)
  unfound_prepares fault left None o2 out err sfile same answers = tt
  unfound_prepares fault left (Some v) o2 out err sfile same answers = λ i heard.
      early_of (writes_l words) fault n (edit_outcome words stamp place heading n i [] (look (unlocked n v) n))
      (Some v) o2 out out err
      (subst (λ (w : Option View). Prepares (Err fault) n (edit_outcome words stamp place heading n i []
      (look (unlocked n v) n)) (world (Some v) out err) (world w out err)) (sym same)
      (unfound fault i [] v out err sfile answers))

  -- ---- all is found

  abbrev summary_of : Parsed → Reserved → List ℕ
  summary_of parsed r = summary_got words parsed.header.records r.version

  abbrev made_from : Parsed → Reserved → View → StepEffect
  made_from parsed r v = edit_effect words heading n parsed.header.records (look (unlocked n v) n) r.pending.edits
      r.edit r.version (lines_got r.version parsed.items)

  found_outcome : (r : Reserved) (i : List ℕ) (v : View) → IsSFileName n
      → (answers : AnswersReserved words stamp place n (look v n) (Ok r))
      → edit_outcome words stamp place heading n i [] (look (unlocked n v) n) ≡ Ok
      (summed words (summary_of answers.0 r) (look (unlocked n v) n) (made_from answers.0 r v))
  found_outcome r i v sfile answers =
      outcome_as i [] v (Ok (record {
        parsed = answers.0;
        edits = r.pending.edits;
        edit = r.edit;
        version =
            r.version;
      })) sfile answers.3

  abbrev Sums : Reserved → Result (Unit {0}) StepFault → Option View → Option View → Option (List ℕ) → Option (List ℕ)
      → Option (List ℕ) → Type 0
  Sums r q o o2 out out2 err = GivesSummary words n (summary_got words r.pending.front.header.records r.version) q
      (world o out err) (world o2 out2 err)

  sums_as : (r : Reserved) (q : Result (Unit {0}) StepFault) (v : View) (o2 : Option View)
      (out out2 err : Option (List ℕ)) (answers : AnswersReserved words stamp place n (look v n) (Ok r))
      → Sums r q (Some v) o2 out out2 err → GivesSummary words n (summary_of answers.0 r) q (world (Some v) out err)
      (world o2 out2 err)
  sums_as r q v o2 out out2 err answers sums =
      subst (λ (h : Header). GivesSummary words n (summary_got words h.records r.version) q (world (Some v) out err)
      (world o2 out2 err)) (shown_header (bytes_at (v n)) answers.0 r.pending.front answers.1) sums

  -- the summary failed
  pub cut_change : (r : Reserved) (fault : StepFault) (left : Option (List ℕ)) (a b c : Told)
      (out out2 err : Option (List ℕ)) → IsSFileName n → b ≡ a
      → IfSome (seen a) (λ (v : View). AnswersReserved words stamp place n (look v n) (Ok r))
      → Sums r (Err fault) (seen b) (seen c) out out2 err
      → PreparesChange (edit_change words stamp place heading) (Err fault) n left (world (seen a) out err)
      (world (seen c) out2 err)
  cut_change r fault left a b c out out2 err sfile same answers sums =
      by (seen a) answers (subst (λ (t : Told). Sums r (Err fault) (seen t) (seen c) out out2 err) same sums)
    where
      by : (w : Option View) → IfSome w (λ (v : View). AnswersReserved words stamp place n (look v n) (Ok r))
          → Sums r (Err fault) w (seen c) out out2 err → PreparesChange (edit_change words stamp place heading)
          (Err fault) n left (world w out err) (world (seen c) out2 err)
      by None answers sums = tt
      by (Some v) answers sums = λ i heard.
          let given : GivesSummary words n (summary_of answers.0 r) (Err fault) (world (Some v) out err)
          (world (seen c) out2 err) = sums_as r (Err fault) v (seen c) out out2 err answers sums in
          subst (λ (o : Outcome). PreparesBy (writes_l words) (Err fault) n o (world (Some v) out err)
          (world (seen c) out2 err)) (sym (found_outcome r i v sfile answers))
          (cut_prepares n (printed_summary words (summary_of answers.0 r)) (summary_of answers.0 r)
          (look (unlocked n v) n) (made_from answers.0 r v) v (writes_l words) fault (seen c) out out2 err given.0
          given.1 given.2)

  abbrev pub as_found : Reserved → View → List Item → Outcome
  as_found r v items = Ok (edit_effect words heading n r.pending.front.header.records (look (unlocked n v) n)
      r.pending.edits r.edit r.version (lines_got r.version items))

  -- the files that are seen behind an l-file
  sum_new : (parsed : Parsed) (r : Reserved) (printed summary : List ℕ) (v : View) → IsSFileName n
      → (sum_by true printed summary (look (unlocked n v) n) (made_from parsed r v)).new
      ≡ (made_from parsed r (l_made n summary v)).new
  sum_new parsed r printed summary v sfile =
      files_same
      (put_other v (z_file n) n None (from_s 122 n sfile refl)
      ∙ (sym (l_other n summary v n (from_s 121 n sfile refl) (from_s 108 n sfile refl))
      ∙ sym (put_other (l_made n summary v) (z_file n) n None (from_s 122 n sfile refl))))
      refl
      (ap (λ (g : Option Content). g_after words (given_text words parsed.header.records r.version
      (lines_got r.version parsed.items)) g)
      (put_other v (z_file n) (drop 2 n) None (from_g 122 n sfile)
      ∙ (sym (l_other n summary v (drop 2 n) (from_g 121 n sfile) (from_g 108 n sfile))
      ∙ sym (put_other (l_made n summary v) (z_file n) (drop 2 n) None (from_g 122 n sfile)))))
      (sym (put_other (l_made n summary v) (z_file n) (l_file n) None refl ∙ l_there n summary v))

  sum_prepares : (l : Bool) (parsed : Parsed) (r : Reserved) (result : Result Prepared StepFault)
      (printed summary : List ℕ) (v : View) (o3 : Option View) (out out2 out3 err : Option (List ℕ)) → IsSFileName n
      → GivesOk out out2 printed → Prepares result n (Ok (made_from parsed r (l_by l n summary v)))
      (world (Some (l_by l n summary v)) out2 err) (world o3 out3 err)
      → PreparesBy l result n (Ok (sum_by l printed summary (look (unlocked n v) n) (made_from parsed r v)))
      (world (Some v) out err) (world o3 out3 err)
  sum_prepares false parsed r result printed summary v o3 out out2 out3 err sfile first prepares =
      same_prepares n printed summary (look (unlocked n v) n) (made_from parsed r v) (made_from parsed r v) v result o3
      out out2 out3 err first prepares
  sum_prepares true parsed r result printed summary v o3 out out2 out3 err sfile first prepares =
      early_prepares n printed summary (look (unlocked n v) n) (made_from parsed r v)
      (made_from parsed r (l_made n summary v)) v result o3 out out2 out3 err sfile first (refl, refl, refl, refl)
      (sum_new parsed r printed summary v sfile) prepares

  pub found_change : (r : Reserved) (result : Result Prepared StepFault) (left : Option (List ℕ)) (a b c d : Told)
      (out out2 out3 err : Option (List ℕ)) → IsSFileName n → b ≡ a → IsPlaced r.pending.front
      → has r.version.set 0 ≡ false → IfSome (seen a) (λ (v : View). AnswersReserved words stamp place n (look v n)
      (Ok r))
      → Sums r (Ok tt) (seen b) (seen c) out out2 err
      → ((v : View) (file : List ℕ) (items : List Item) → seen c ≡ Some v → IsBody (bytes_in (Some v) n) r.pending.front
      r.version.set file items → Prepares result n (as_found r v items) (world (Some v) out2 err)
      (world (seen d) out3 err))
      → PreparesChange (edit_change words stamp place heading) result n left (world (seen a) out err)
      (world (seen d) out3 err)
  found_change r result left a b c d out out2 out3 err sfile same placed zero answers sums prepares =
      by (seen a) answers (subst (λ (t : Told). Sums r (Ok tt) (seen t) (seen c) out out2 err) same sums)
    where
      at_view : (v : View) (answers : AnswersReserved words stamp place n (look v n) (Ok r))
          → GivesSummary words n (summary_of answers.0 r) (Ok tt) (world (Some v) out err) (world (seen c) out2 err)
          → PreparesBy (writes_l words) result n (Ok (summed words (summary_of answers.0 r) (look (unlocked n v) n)
          (made_from answers.0 r v))) (world (Some v) out err) (world (seen d) out3 err)
      at_view v answers given =
          let behind : View = l_by (writes_l words) n (summary_of answers.0 r) v in
          let body : (file : List ℕ) × IsBody (bytes_in (Some v) n) r.pending.front r.version.set file answers.0.items =
          body_there (bytes_at (v n)) (bytes_in (Some v) n) answers.0 r.pending.front r.version.set placed refl zero
          answers.2 answers.1 in
          let there : IsBody (bytes_in (Some behind) n) r.pending.front r.version.set body.0 answers.0.items =
          subst (λ (c : Option Content). IsBody (bytes_at c) r.pending.front r.version.set body.0 answers.0.items)
          (sym (kept_by (writes_l words) n (summary_of answers.0 r) v n (from_s 121 n sfile refl)
          (from_s 108 n sfile refl))) body.1 in
          sum_prepares (writes_l words) answers.0 r result (printed_summary words (summary_of answers.0 r))
          (summary_of answers.0 r) v (seen d) out out2 out3 err sfile given.0
          (subst (λ (h : Header). Prepares result n
          (Ok (edit_effect words heading n h.records (look (unlocked n behind) n) r.pending.edits r.edit r.version
          (lines_got r.version answers.0.items))) (world (Some behind) out2 err) (world (seen d) out3 err))
          (shown_header (bytes_at (v n)) answers.0 r.pending.front answers.1)
          (prepares behind body.0 answers.0.items given.1 there))

      by : (w : Option View) → IfSome w (λ (v : View). AnswersReserved words stamp place n (look v n) (Ok r))
          → Sums r (Ok tt) w (seen c) out out2 err → PreparesChange (edit_change words stamp place heading) result n
          left (world w out err) (world (seen d) out3 err)
      by None answers sums = tt
      by (Some v) answers sums = λ i heard.
          subst (λ (o : Outcome). PreparesBy (writes_l words) result n o (world (Some v) out err)
          (world (seen d) out3 err)) (sym (found_outcome r i v sfile answers))
          (at_view v answers (sums_as r (Ok tt) v (seen c) out out2 err answers sums))
