-- What the parts of a get make of its step.
use Rattle.std.proofs.Common.{◌≡◌, ◌||◌, ℕ, Bool, true, false, not, List, drop, Option, None, Some, Result, Ok, Err}
use Rattle.std.proofs.Common.{inl, inr, refl, sym, ap, subst, ◌∙◌}
use Rattle.std.specs.Prelude.{IfSome}
use Rattle.std.specs.Str.{bytes_eq}
use Rattle.sccs_base.specs.Name.{IsSFileName, p_file, y_file, z_file}
use Rattle.sccs_base.specs.Stream.{GivesOk}
use Rattle.sccs_sid.specs.Reading.{◌>>=◌}
use Rattle.sccs_sid.specs.declared.moments.Stamp.{Stamp}
use Rattle.sccs_sid.specs.declared.refusals.Refusal.{Refusal}
use Rattle.sccs_sid.specs.declared.refusals.StepFault.{StepFault}
use Rattle.sccs_sid.specs.declared.refusals.StepFault.TheVariants.{Refused, Memory, ReadFault, WriteFault, DiskFault}
use Rattle.sccs_body.specs.BodyFile.{ShowsFile}
use Rattle.sccs_disk.specs.Files.{Content, Model, View, view_of}
use Rattle.sccs_disk.specs.Images.{IsFirm}
use Rattle.sccs_disk.specs.Told.{Told, Tells, seen}
use Rattle.sccs_name_files.specs.StepFiles.{Moves, is_early, l_file, look, moved}
use Rattle.sccs_grammar.specs.File.{Parsed, answer, file_of}
use Rattle.sccs_history.specs.declared.headers.Header.{Header}
use Rattle.sccs_name_files.specs.Touches.{Leaves, TouchesOnly}
use Rattle.sccs_crash_points.specs.Calm.{IsCalm}
use Rattle.sccs_crash_points.specs.CrashPoints.{EndsAfter, EndsBefore}
use Rattle.sccs_crash_points.specs.Recovery.{is_kept}
use Rattle.sccs_crash_points.specs.Unlocked.{BeginsUnlocked, KeepsHeldIn, KeepsOthers, is_own}
use Rattle.sccs_crash_points.proofs.FileNames.{from_s, from_sfile, kept_p, kept_s, no_l, no_working, no_y, to_g}
use Rattle.sccs_crash_points.proofs.Unlocked.{is_either, others_then, others_touched, others_wider, own_early, own_left}
use Rattle.sccs_crash_points.proofs.Unlocked.{unlocked_by, unlocked_same}
use Rattle.sccs_crash_points.proofs.Untouched.{before_after, before_within, same_before}
use Rattle.sccs_changes.specs.Pending.{bytes_at}
use Rattle.sccs_steps.specs.Actions.{Action, IsHeard, Stepped}
use Rattle.sccs_steps.specs.Calls.{Meets, scene, world}
use Rattle.sccs_steps.specs.StepEffects.{Outcome, StepEffect, effect_of}
use Rattle.sccs_steps.specs.StepStops.{IsSafe, IsSafeFor, StepCrashPoints}
use Rattle.sccs_steps.specs.Unlocked.{StepOthers, StepUnlocked}
use Rattle.sccs_steps.proofs.ReadingCrashPoints.{reading_crash_points}
use Rattle.sccs_steps.proofs.ReadingSteps.{Explains, ends_silent}
use Rattle.sccs_steps.proofs.SafeImages.{recovers_before}
use Rattle.sccs_steps.proofs.UnlockedSteps.{others_hold}
use Rattle.sccs_summary.specs.SummaryFiles.{LosesNothing, is_summary}
use Rattle.sccs_changes.specs.declared.prepared.Prepared.{Prepared}
use Rattle.sccs_words.specs.declared.commands.GetWords.{GetWords}
use Rattle.sccs_get.specs.Giving.{FinishesGet, GivesUpGet, IsReadied, PlacesG, Readies}
use Rattle.sccs_get.specs.Keeps.{get_keeps}
use Rattle.sccs_get.specs.Located.{AnswersLocated}
use Rattle.sccs_get.specs.SummaryGiving.{GivesSummary, summed_view}
use Rattle.sccs_get.specs.SummaryStep.{printed_summary, summary_got, summed, writes_l}
use Rattle.sccs_get.specs.VersionStep.{LocatedVersion, get_action, get_effect, get_outcome, lines_got, located_of}
use Rattle.sccs_get.specs.VersionStep.{writes_g}
use Rattle.sccs_get.specs.declared.steps.Located.{Located}
use Rattle.sccs_get.proofs.GetCrashPoints.{EndsSo, at_model, before_then, cut_so, finished_before, finished_so}
use Rattle.sccs_get.proofs.GetCrashPoints.{gives_so, touched_before}
use Rattle.sccs_get.proofs.ReadyLaws.{ReadiesAt}
use Rattle.sccs_get.proofs.StepEnds.{finished, gives_up}
use Rattle.sccs_get.proofs.SummaryLaws.{down_summed, l_by, l_other, part, up_summed, whole, whole_met}
use Rattle.sccs_base.proofs.Bools.{right_false, left_false}
use Rattle.std.proofs.lemmas.Bool.{not_from_false, not_from_true, or_from}
use Rattle.sccs_changes.proofs.PendingLaws.{shown_header}

-- ---- the files that change

-- the y-file, the l-file and the g-file
abbrev pub is_got : List ℕ → List ℕ → Bool
is_got n k = is_summary n k || bytes_eq (drop 2 n) k

-- none of them is an s-file or a p-file
apart_s : (n k : List ℕ) → IsSFileName k → is_kept (drop 2 n) ≡ false → is_got n k ≡ false
apart_s n k sfile plain = or_from (is_summary n k) (bytes_eq (drop 2 n) k) (or_from (bytes_eq (y_file n) k)
    (bytes_eq (l_file n) k) (from_sfile 121 n k sfile refl) (from_sfile 108 n k sfile refl))
    (kept_s (drop 2 n) k plain sfile)

apart_p : (n k : List ℕ) → IsSFileName k → is_kept (drop 2 n) ≡ false → is_got n (p_file k) ≡ false
apart_p n k sfile plain = or_from (is_summary n (p_file k)) (bytes_eq (drop 2 n) (p_file k)) refl
    (kept_p (drop 2 n) k plain sfile)

-- nor is its own z-file, and all are its own
apart_z : (n : List ℕ) → IsSFileName n → is_got n (z_file n) ≡ false
apart_z n sfile = or_from (is_summary n (z_file n)) (bytes_eq (drop 2 n) (z_file n)) refl (to_g 122 n sfile)

own_got : (n k : List ℕ) → is_own n k ≡ false → is_got n k ≡ false
own_got n k h =
    or_from (is_summary n k) (bytes_eq (drop 2 n) k) (or_from (bytes_eq (y_file n) k) (bytes_eq (l_file n) k)
    (no_y n k (no_working n k (own_left n k h))) (no_l n k (own_early n k h)))
    (left_false (bytes_eq (drop 2 n) k) (is_early n k) (right_false (bytes_eq (p_file n) k)
    (bytes_eq (drop 2 n) k || is_early n k) (right_false (bytes_eq n k) (bytes_eq (p_file n) k ||
    (bytes_eq (drop 2 n) k || is_early n k)) h)))

y_within : (n k : List ℕ) → is_got n k ≡ false → bytes_eq (y_file n) k ≡ false
y_within n k h = left_false (bytes_eq (y_file n) k) (bytes_eq (l_file n) k) (left_false (is_summary n k)
    (bytes_eq (drop 2 n) k) h)

y_others : (n : List ℕ) (a b : Told) → TouchesOnly (bytes_eq (y_file n)) a b → KeepsOthers (is_got n) a b
y_others n a b touches = others_wider (bytes_eq (y_file n)) (is_got n) a b (y_within n)
    (others_touched (bytes_eq (y_file n)) a b touches)

l_others : (n : List ℕ) (a b : Told) → KeepsOthers (is_summary n) a b → KeepsOthers (is_got n) a b
l_others n a b keeps = others_wider (is_summary n) (is_got n) a b (λ k h. left_false (is_summary n k)
    (bytes_eq (drop 2 n) k) h) keeps

g_others : (n : List ℕ) (a b : Told) → KeepsOthers (is_either (y_file n) (drop 2 n)) a b → KeepsOthers (is_got n) a b
g_others n a b keeps =
    others_wider (is_either (y_file n) (drop 2 n)) (is_got n) a b (λ k h. or_from (bytes_eq (y_file n) k)
    (bytes_eq (drop 2 n) k) (y_within n k h) (right_false (is_summary n k) (bytes_eq (drop 2 n) k) h)) keeps

-- a step that makes the summary, the text and the g-file
pub finished_got : (n : List ℕ) (ta tb tc td : Told) → KeepsOthers (is_summary n) ta tb
    → TouchesOnly (bytes_eq (y_file n)) tb tc → KeepsOthers (is_either (y_file n) (drop 2 n)) tc td
    → KeepsOthers (is_got n) ta td
finished_got n ta tb tc td summary touches others = others_then (is_got n) ta tb td (l_others n ta tb summary)
    (others_then (is_got n) tb tc td (y_others n tb tc touches) (g_others n tc td others))

-- the text was given up
pub given_up_got : (n : List ℕ) (ta tb tc td : Told) → KeepsOthers (is_summary n) ta tb
    → TouchesOnly (bytes_eq (y_file n)) tb tc → TouchesOnly (bytes_eq (y_file n)) tc td → KeepsOthers (is_got n) ta td
given_up_got n ta tb tc td summary touches leaving = others_then (is_got n) ta tb td (l_others n ta tb summary)
    (others_then (is_got n) tb tc td (y_others n tb tc touches) (y_others n tc td leaving))

-- the summary was given up
pub cut_got : (n : List ℕ) (ta tb td : Told) → KeepsOthers (is_summary n) ta tb
    → TouchesOnly (bytes_eq (y_file n)) tb td → KeepsOthers (is_got n) ta td
cut_got n ta tb td summary leaving = others_then (is_got n) ta tb td (l_others n ta tb summary)
    (y_others n tb td leaving)

-- what is said behind a call that only read, from before it
pub sums_from : (words : GetWords) (n summary : List ℕ) (q : Result (Unit {0}) StepFault) (a b : Told)
    (o2 : Option View) (out out2 err : Option (List ℕ)) → b ≡ a → GivesSummary words n summary q
    (world (seen b) out err) (world o2 out2 err) → GivesSummary words n summary q (world (seen a) out err)
    (world o2 out2 err)
sums_from words n summary q a b o2 out out2 err same sums = subst (λ (t : Told). GivesSummary words n summary q
    (world (seen t) out err) (world o2 out2 err)) same sums

pub gives_from : (b b2 : Bool) (n : List ℕ) (fault : StepFault) (r : Result (Unit {0}) StepFault) (o o2 : Option View)
    → b ≡ b2 → GivesUpGet b n fault r o o2 → GivesUpGet b2 n fault r o o2
gives_from b b2 n fault r o o2 same gives = subst (λ (x : Bool). GivesUpGet x n fault r o o2) same gives

pub loses_from : (a b c : Told) → b ≡ a → LosesNothing b c → LosesNothing a c
loses_from a b c same loses = subst (λ (t : Told). LosesNothing t c) same loses

pub others_from : (n : List ℕ) (a b c : Told) → b ≡ a → KeepsOthers (is_summary n) b c → KeepsOthers (is_summary n) a c
others_from n a b c same others = subst (λ (t : Told). KeepsOthers (is_summary n) t c) same others

-- the s-file is no file of a summary
same_s : (l : Bool) (n summary : List ℕ) (v : View) → IsSFileName n → l_by l n summary v n ≡ v n
same_s false n summary v sfile = refl
same_s true n summary v sfile = l_other n summary v n (from_s 121 n sfile refl) (from_s 108 n sfile refl)

module _ (words : GetWords) (stamp : Stamp) (place : List ℕ) (heading : Bool) (n : List ℕ) where
  abbrev action : Action
  action = get_action words stamp place heading

  abbrev outcome_at : View → Outcome
  outcome_at v = get_outcome words stamp place heading n (look v n)

  abbrev summed_of : View → LocatedVersion → StepEffect
  summed_of v x = summed words (summary_got words x.parsed.header.records x.found) (look v n)
      (get_effect words heading n x.parsed.header.records (look v n) x.found (lines_got x.found x.parsed.items))

  outcome_is : (v : View) → outcome_at v ≡ (located_of words stamp place n (look v n) >>= λ x. Ok (summed_of v x))
  unfolding get_outcome
  outcome_is v = refl

  -- ---- the lock

  -- some file is written
  abbrev writes : Bool
  writes = writes_g words || writes_l words

  pub got_unlocked : (ta td : Told) → KeepsOthers (is_got n) ta td → (writes ≡ false → td ≡ ta)
      → StepUnlocked action n ta td
  got_unlocked ta td others same = λ locks plain. by writes refl plain
    where
      by : (b : Bool) → writes ≡ b → (not writes ≡ false → is_kept (drop 2 n) ≡ false) → BeginsUnlocked ta td
      by true is plain = unlocked_by (is_got n) ta td (λ m past told k sfile.
          inl (
            apart_s n k sfile (plain (not_from_true writes is)),
            apart_p n k sfile
                (plain (not_from_true writes is)),
          )) others
      by false is plain = unlocked_same ta td (same is)

  -- ---- the files of other names

  pub got_others : (ta td : Told) → IsSFileName n → KeepsOthers (is_got n) ta td → StepOthers action n ta td
  got_others ta td sfile others = (
    λ changes. others_wider (is_got n) (is_own n) ta td (own_got n) others,
    λ changes m past is named. held m past is,
  )
    where
      held : KeepsHeldIn n ta td
      held = others_hold (is_got n) n ta td (apart_z n sfile) others

  -- ---- a check failed

  located_explains : (v : View) (fault : StepFault) → AnswersLocated words stamp place n (look v n) (Err fault)
      → Explains (outcome_at v) fault
  located_explains v (Refused refusal) answers = outcome_is v ∙ ap (λ (r : Result LocatedVersion Refusal). r
      >>= λ x. Ok (summed_of v x)) answers
  located_explains v Memory answers = tt
  located_explains v DiskFault answers = tt
  located_explains v ReadFault answers = answers
  located_explains v WriteFault answers = answers

  pub located_steps : (fault : StepFault) (left : Option (List ℕ)) (ta td : Told) (out err : Option (List ℕ)) → td ≡ ta
      → IfSome (seen ta) (λ (v : View). AnswersLocated words stamp place n (look v n) (Err fault))
      → Stepped action (Err fault) n left (scene ta out err) (scene td out err)
  located_steps fault left ta td out err same answers = by (seen ta) (ap seen same) answers
    where
      by : (o : Option View) → seen td ≡ o → IfSome o (λ (v : View). AnswersLocated words stamp place n (look v n)
          (Err fault)) → IfSome o (λ v. (i : List ℕ) → IsHeard false left i → Meets (λ (done : Unit {0}). 0)
          (Err fault) n (outcome_at v) (world o out err) (world (seen td) out err))
      by None is answers = tt
      by (Some v) is answers = λ i heard. ends_silent v (seen td) n (outcome_at v) fault out err is
          (located_explains v fault answers)

  pub located_crash_points : (fault : StepFault) (left : Option (List ℕ)) (ta td : Told) (out err : Option (List ℕ))
      → IsSFileName n → td ≡ ta → IfSome (seen ta) (λ (v : View). AnswersLocated words stamp place n (look v n)
      (Err fault)) → StepCrashPoints action (Err fault) n left (scene ta out err) (scene td out err)
  located_crash_points fault left ta td out err sfile same answers = λ m past i is heard calm may.
      at_model words stamp place heading n sfile (Err fault) ta td out out err err m past is
      (by fault (view_of m) m past (ap seen (same ∙ is))
      (subst (λ (t : Told). IfSome (seen t) (λ (v : View). AnswersLocated words stamp place n (look v n)
      (Err fault))) is answers) may (same_before m past td calm (same ∙ is)))
    where
      by : (fault : StepFault) (v : View) (m : Model) (past : List Model) → seen td ≡ Some v
          → AnswersLocated words stamp place n (look v n) (Err fault) → IsSafeFor action n v → EndsBefore v m past td
          → EndsSo words stamp place heading n sfile (Err fault) v m past td out err out err (outcome_at v)
      by (Refused refusal) v m past now answers may kept = (
        ends_silent v (seen td) n (outcome_at v) (Refused refusal) out err now
            (located_explains v (Refused refusal) answers),
        subst (λ (w : View). EndsAfter v w m past td × IsSafeFor action n w)
            (sym (ap (λ (o : Outcome). moved v n (effect_of n o).new) (located_explains v (Refused refusal) answers)))
            (before_after v m past td kept, may),
      )
      by Memory v m past now answers may kept = (ends_silent v (seen td) n (outcome_at v) Memory out err now tt, kept)
      by DiskFault v m past now answers may kept = (
        ends_silent v (seen td) n (outcome_at v) DiskFault out err now tt,
        (
          before_within v (moved v n (effect_of n (outcome_at v)).new) m past td kept,
          inr (recovers_before v m past td kept),
        ),
      )
      by ReadFault v m past now answers may kept = absurd answers
      by WriteFault v m past now answers may kept = absurd answers

  -- ---- where no file is written

  pub read_crash_points : (r : Result (Unit {0}) StepFault) (left : Option (List ℕ)) (ta td : Told)
      (out out2 err err2 : Option (List ℕ)) → writes ≡ false → td ≡ ta → Stepped action r n left (scene ta out err)
      (scene td out2 err2) → StepCrashPoints action r n left (scene ta out err) (scene td out2 err2)
  read_crash_points r left ta td out out2 err err2 none same step = reading_crash_points action r n left
      (scene ta out err) (scene td out2 err2) (get_keeps words stamp place heading) (not_from_false writes none) same
      step

  -- ---- all is found

  module _ (sfile : IsSFileName n) (x : Located) where
    abbrev summary_of : Parsed → List ℕ
    summary_of parsed = summary_got words parsed.header.records x.found

    abbrev behind : Parsed → View → View
    behind parsed v = summed_view words n (summary_of parsed) v

    -- What the summary left, where the view was told.
    record SummedAt (v : View) (o2 : Option View) (out out2 : Option (List ℕ)) : Type 0 where
      parsed : Parsed
      outcome_at_is : outcome_at v ≡ Ok (whole words heading n (summary_of parsed) parsed.header.records x.found
          (lines_got x.found parsed.items) sfile v)
      told : o2 ≡ Some (behind parsed v)
      shows : ShowsFile (bytes_at (behind parsed v n)) parsed x.front
      answer_is : answer file_of (bytes_at (behind parsed v n)) ≡ Ok parsed
      gives : GivesOk out out2 (printed_summary words (summary_of parsed))

    abbrev FoundAt : Option View → Type 0
    FoundAt o = IfSome o (λ (v : View). AnswersLocated words stamp place n (look v n) (Ok x))

    abbrev Sums : Result (Unit {0}) StepFault → Option View → Option View → Option (List ℕ) → Option (List ℕ)
        → Option (List ℕ) → Type 0
    Sums q o o2 out out2 err = GivesSummary words n (summary_got words x.front.header.records x.found) q
        (world o out err) (world o2 out2 err)

    sums_as : (q : Result (Unit {0}) StepFault) (v : View) (o2 : Option View) (out out2 err : Option (List ℕ))
        (answers : AnswersLocated words stamp place n (look v n) (Ok x)) → Sums q (Some v) o2 out out2 err
        → GivesSummary words n (summary_of answers.0) q (world (Some v) out err) (world o2 out2 err)
    sums_as q v o2 out out2 err answers sums =
        subst (λ (h : Header). GivesSummary words n (summary_got words h.records x.found) q (world (Some v) out err)
        (world o2 out2 err)) (shown_header (bytes_at (v n)) answers.0 x.front answers.1) sums

    found_outcome : (v : View) (answers : AnswersLocated words stamp place n (look v n) (Ok x))
        → outcome_at v ≡ Ok (whole words heading n (summary_of answers.0) answers.0.header.records x.found
        (lines_got x.found answers.0.items) sfile v)
    found_outcome v answers = outcome_is v ∙ ap (λ (r : Result LocatedVersion Refusal). r >>= λ y. Ok (summed_of v y))
        answers.3

    summed_at : (v : View) (o2 : Option View) (out out2 err : Option (List ℕ)) → AnswersLocated words stamp place n
        (look v n) (Ok x) → Sums (Ok tt) (Some v) o2 out out2 err → SummedAt v o2 out out2
    summed_at v o2 out out2 err answers sums =
        let given = sums_as (Ok tt) v o2 out out2 err answers sums in
        record {
          parsed = answers.0;
          outcome_at_is = found_outcome v answers;
          told = given.1;
          shows = subst (λ (c : Option Content). ShowsFile (bytes_at c) answers.0 x.front)
              (sym (same_s (writes_l words) n (summary_of answers.0) v sfile)) answers.1;
          answer_is = subst (λ (c : Option Content). answer file_of (bytes_at c) ≡ Ok answers.0)
              (sym (same_s (writes_l words) n (summary_of answers.0) v sfile)) answers.2;
          gives = given.0;
        }

    -- what is ready behind it
    abbrev RestAt : Parsed → View → Outcome
    RestAt parsed v = Ok (part words heading n (summary_of parsed) parsed.header.records x.found
        (lines_got x.found parsed.items) sfile (behind parsed v))

    readied : (q : Result Prepared StepFault) (v : View) (o2 o3 : Option View) (out out2 out3 err : Option (List ℕ))
        → (at : SummedAt v o2 out out2) → ReadiesAt words heading n x.front x.found o2 o3 q out2 out3 err
        → Readies words n (RestAt at.parsed v) q (world (Some (behind at.parsed v)) out2 err) (world o3 out3 err)
    readied q v o2 o3 out out2 out3 err at readies =
        subst (λ (o : Option View). ReadiesAt words heading n x.front x.found o o3 q out2 out3 err) at.told readies
        at.parsed at.shows at.answer_is

    -- ---- the step

    pub finished_steps : (r : Result (Unit {0}) StepFault) (p : Prepared) (left : Option (List ℕ)) (ta tb tc td : Told)
        (out out2 out3 out4 err err2 : Option (List ℕ)) → FoundAt (seen ta)
        → Sums (Ok tt) (seen ta) (seen tb) out out2 err → ReadiesAt words heading n x.front x.found (seen tb) (seen tc)
        (Ok p) out2 out3 err
        → FinishesGet words n p r (world (seen tc) out3 err) (world (seen td) out4 err2) → Stepped action r n left
        (scene ta out err) (scene td out4 err2)
    finished_steps r p left ta tb tc td out out2 out3 out4 err err2 found sums readies finishes =
        by (seen ta) found sums
      where
        at_view : (v : View) → SummedAt v (seen tb) out out2 → Meets (λ (done : Unit {0}). 0) r n (outcome_at v)
            (world (Some v) out err) (world (seen td) out4 err2)
        at_view v at =
            subst (λ (o : Outcome). Meets (λ (done : Unit {0}). 0) r n o (world (Some v) out err)
            (world (seen td) out4 err2)) (sym at.outcome_at_is)
            (whole_met words heading n (summary_of at.parsed) at.parsed.header.records x.found
            (lines_got x.found at.parsed.items) sfile r v (seen td) out out2 out4 err err2 at.gives
            (finished words n sfile r p (RestAt at.parsed v) (behind at.parsed v) (seen tc) (seen td) out2 out3 out4 err
            err2 (readied (Ok p) v (seen tb) (seen tc) out out2 out3 err at readies) finishes))

        by : (o : Option View) → FoundAt o → Sums (Ok tt) o (seen tb) out out2 err → IfSome o (λ v. (i : List ℕ)
            → IsHeard false left i → Meets (λ (done : Unit {0}). 0) r n (outcome_at v) (world o out err)
            (world (seen td) out4 err2))
        by None found sums = tt
        by (Some v) found sums = λ i heard. at_view v (summed_at v (seen tb) out out2 err found sums)

    pub given_up_steps : (fault : StepFault) (r : Result (Unit {0}) StepFault) (left : Option (List ℕ))
        (ta tb tc td : Told) (out out2 out3 err : Option (List ℕ)) → FoundAt (seen ta)
        → Sums (Ok tt) (seen ta) (seen tb) out out2 err → ReadiesAt words heading n x.front x.found (seen tb) (seen tc)
        (Err fault) out2 out3 err
        → Moves (bytes_eq (y_file n)) (λ u. u) (seen tb) (seen tc) → (writes_g words ≡ false → tc ≡ tb)
        → GivesUpGet (writes_g words) n fault r (seen tc) (seen td) → Stepped action r n left (scene ta out err)
        (scene td out3 err)
    given_up_steps fault r left ta tb tc td out out2 out3 err found sums readies moves same gives =
        by (seen ta) found sums
      where
        at_view : (v : View) → SummedAt v (seen tb) out out2 → Meets (λ (done : Unit {0}). 0) r n (outcome_at v)
            (world (Some v) out err) (world (seen td) out3 err)
        at_view v at =
            subst (λ (o : Outcome). Meets (λ (done : Unit {0}). 0) r n o (world (Some v) out err)
            (world (seen td) out3 err)) (sym at.outcome_at_is)
            (whole_met words heading n (summary_of at.parsed) at.parsed.header.records x.found
            (lines_got x.found at.parsed.items) sfile r v (seen td) out out2 out3 err err at.gives
            (gives_up words n sfile fault r (RestAt at.parsed v) (behind at.parsed v) (seen tc) (seen td) out2 out3 err
            (readied (Err fault) v (seen tb) (seen tc) out out2 out3 err at readies)
            (subst (λ (o : Option View). Moves (bytes_eq (y_file n)) (λ u. u) o (seen tc)) at.told moves)
            (λ none. ap seen (same none) ∙ at.told) gives))

        by : (o : Option View) → FoundAt o → Sums (Ok tt) o (seen tb) out out2 err → IfSome o (λ v. (i : List ℕ)
            → IsHeard false left i → Meets (λ (done : Unit {0}). 0) r n (outcome_at v) (world o out err)
            (world (seen td) out3 err))
        by None found sums = tt
        by (Some v) found sums = λ i heard. at_view v (summed_at v (seen tb) out out2 err found sums)

    pub cut_steps : (fault : StepFault) (r : Result (Unit {0}) StepFault) (left : Option (List ℕ)) (ta tb td : Told)
        (out out2 err : Option (List ℕ)) → FoundAt (seen ta) → Sums (Err fault) (seen ta) (seen tb) out out2 err
        → GivesUpGet (writes_l words) n fault r (seen tb) (seen td) → Stepped action r n left (scene ta out err)
        (scene td out2 err)
    cut_steps fault r left ta tb td out out2 err found sums gives = by (seen ta) found sums
      where
        at_view : (v : View) (answers : AnswersLocated words stamp place n (look v n) (Ok x))
            → GivesSummary words n (summary_of answers.0) (Err fault) (world (Some v) out err)
            (world (seen tb) out2 err) → GivesUpGet (writes_l words) n fault r (seen tb) (seen td)
            → Meets (λ (done : Unit {0}). 0) r n
            (Ok (whole words heading n (summary_of answers.0) answers.0.header.records x.found
            (lines_got x.found answers.0.items) sfile v)) (world (Some v) out err) (world (seen td) out2 err)
        at_view v answers given (inl gone) =
            subst (λ (s : Result (Unit {0}) StepFault). Meets (λ (done : Unit {0}). 0) s n
            (Ok (whole words heading n (summary_of answers.0) answers.0.header.records x.found
            (lines_got x.found answers.0.items) sfile v)) (world (Some v) out err) (world (seen td) out2 err))
            (sym gone.0)
            (up_summed words heading n (summary_of answers.0) answers.0.header.records x.found
            (lines_got x.found answers.0.items) sfile fault v (seen tb) (seen td) out out2 err given gone.1)
        at_view v answers given (inr broken) =
            subst (λ (s : Result (Unit {0}) StepFault). Meets (λ (done : Unit {0}). 0) s n
            (Ok (whole words heading n (summary_of answers.0) answers.0.header.records x.found
            (lines_got x.found answers.0.items) sfile v)) (world (Some v) out err) (world (seen td) out2 err))
            (sym broken.0)
            (down_summed words heading n (summary_of answers.0) answers.0.header.records x.found
            (lines_got x.found answers.0.items) sfile fault v (seen tb) (seen td) out out2 err given broken.1)

        by : (o : Option View) → FoundAt o → Sums (Err fault) o (seen tb) out out2 err → IfSome o (λ v. (i : List ℕ)
            → IsHeard false left i → Meets (λ (done : Unit {0}). 0) r n (outcome_at v) (world o out err)
            (world (seen td) out2 err))
        by None found sums = tt
        by (Some v) found sums = λ i heard. subst (λ (o : Outcome). Meets (λ (done : Unit {0}). 0) r n o
            (world (Some v) out err) (world (seen td) out2 err)) (sym (found_outcome v found))
            (at_view v found (sums_as (Err fault) v (seen tb) out out2 err found sums) gives)

    -- ---- its crash points, where a file is written

    pub finished_crash_points : (r : Result (Unit {0}) StepFault) (p : Prepared) (left : Option (List ℕ))
        (ta tb tc td : Told) (out out2 out3 out4 err err2 : Option (List ℕ)) → writes ≡ true → FoundAt (seen ta)
        → Sums (Ok tt) (seen ta) (seen tb) out out2 err → ReadiesAt words heading n x.front x.found (seen tb) (seen tc)
        (Ok p) out2 out3 err
        → FinishesGet words n p r (world (seen tc) out3 err) (world (seen td) out4 err2) → LosesNothing ta tb
        → PlacesG words n r tc td → TouchesOnly (bytes_eq (y_file n)) tb tc
        → (writes_g words ≡ true → Leaves (IsFirm (y_file n)) tb tc) → (writes_g words ≡ false → td ≡ tb)
        → StepCrashPoints action r n left (scene ta out err) (scene td out4 err2)
    finished_crash_points r p left ta tb tc td out out2 out3 out4 err err2 changes found sums readies finishes loses
        places touches firm same = λ m past i is heard calm may.
        at_model words stamp place heading n sfile r ta td out out4 err err2 m past is
        (by m past is calm (may (not_from_true writes changes)) (summed_at (view_of m) (seen tb) out out2 err
        (subst (λ (t : Told). FoundAt (seen t)) is found)
        (subst (λ (t : Told). Sums (Ok tt) (seen t) (seen tb) out out2 err) is sums)))
      where
        by : (m : Model) (past : List Model) → ta ≡ Tells m past → IsCalm m → IsSafe n (view_of m)
            → SummedAt (view_of m) (seen tb) out out2 → EndsSo words stamp place heading n sfile r (view_of m) m past td
            out err out4 err2 (outcome_at (view_of m))
        by m past is calm safe at =
            let ready : IsReadied words n p (RestAt at.parsed (view_of m))
            (world (Some (behind at.parsed (view_of m))) out2 err) (world (seen tc) out3 err) =
            readied (Ok p) (view_of m) (seen tb) (seen tc) out out2 out3 err at readies in
            subst (λ (o : Outcome). EndsSo words stamp place heading n sfile r (view_of m) m past td out err out4 err2
            o) (sym at.outcome_at_is)
            (finished_so words stamp place heading n sfile (summary_of at.parsed) at.parsed.header.records x.found
            (lines_got x.found at.parsed.items) r p (view_of m) tc td out out2 out3 out4 err err2 m past at.gives
            ready finishes safe
            (before_then tb td m past (loses m past is calm) (λ m1 past1 is1 calm1.
            finished_before words stamp place heading n sfile r p (RestAt at.parsed (view_of m)) (view_of m1) tb tc td
            out2 out3 out4 err err2 m1 past1 is1 calm1 safe.plain
            (subst (λ (o : Option View). IsReadied words n p (RestAt at.parsed (view_of m)) (world o out2 err)
            (world (seen tc) out3 err)) (sym at.told ∙ ap seen is1) ready) finishes places touches firm same)))

    pub given_up_crash_points : (fault : StepFault) (r : Result (Unit {0}) StepFault) (left : Option (List ℕ))
        (ta tb tc td : Told) (out out2 out3 err : Option (List ℕ)) → FoundAt (seen ta)
        → Sums (Ok tt) (seen ta) (seen tb) out out2 err → ReadiesAt words heading n x.front x.found (seen tb) (seen tc)
        (Err fault) out2 out3 err
        → Moves (bytes_eq (y_file n)) (λ u. u) (seen tb) (seen tc) → (writes_g words ≡ false → tc ≡ tb)
        → GivesUpGet (writes_g words) n fault r (seen tc) (seen td) → LosesNothing ta tb
        → TouchesOnly (bytes_eq (y_file n)) tb td → StepCrashPoints action r n left (scene ta out err)
        (scene td out3 err)
    given_up_crash_points fault r left ta tb tc td out out2 out3 err found sums readies moves same gives loses touches =
        λ m past i is heard calm may.
        at_model words stamp place heading n sfile r ta td out out3 err err m past is
        (by m past is calm (summed_at (view_of m) (seen tb) out out2 err
        (subst (λ (t : Told). FoundAt (seen t)) is found)
        (subst (λ (t : Told). Sums (Ok tt) (seen t) (seen tb) out out2 err) is sums)))
      where
        by : (m : Model) (past : List Model) → ta ≡ Tells m past → IsCalm m → SummedAt (view_of m) (seen tb) out out2
            → EndsSo words stamp place heading n sfile r (view_of m) m past td out err out3 err (outcome_at (view_of m))
        by m past is calm at =
            subst (λ (o : Outcome). EndsSo words stamp place heading n sfile r (view_of m) m past td out err out3 err o)
            (sym at.outcome_at_is)
            (gives_so words stamp place heading n sfile (summary_of at.parsed) at.parsed.header.records x.found
            (lines_got x.found at.parsed.items) fault r (view_of m) tc td out out2 out3 err m past at.gives
            (readied (Err fault) (view_of m) (seen tb) (seen tc) out out2 out3 err at readies)
            (subst (λ (o : Option View). Moves (bytes_eq (y_file n)) (λ u. u) o (seen tc)) at.told moves)
            (λ none. ap seen (same none) ∙ at.told) gives
            (before_then tb td m past (loses m past is calm) (λ m1 past1 is1 calm1. touched_before words stamp place
            heading n sfile tb td m1 past1 is1 calm1 touches)))

    pub cut_crash_points : (fault : StepFault) (r : Result (Unit {0}) StepFault) (left : Option (List ℕ))
        (ta tb td : Told) (out out2 err : Option (List ℕ)) → FoundAt (seen ta) → Sums (Err fault) (seen ta)
        (seen tb) out out2 err → GivesUpGet (writes_l words) n fault r (seen tb) (seen td) → LosesNothing ta tb
        → TouchesOnly (bytes_eq (y_file n)) tb td
        → StepCrashPoints action r n left (scene ta out err) (scene td out2 err)
    cut_crash_points fault r left ta tb td out out2 err found sums gives loses touches = λ m past i is heard calm may.
        at_model words stamp place heading n sfile r ta td out out2 err err m past is
        (by m past is calm (subst (λ (t : Told). FoundAt (seen t)) is found)
        (subst (λ (t : Told). Sums (Err fault) (seen t) (seen tb) out out2 err) is sums))
      where
        by : (m : Model) (past : List Model) → ta ≡ Tells m past → IsCalm m
            → (answers : AnswersLocated words stamp place n (look (view_of m) n) (Ok x))
            → Sums (Err fault) (Some (view_of m)) (seen tb) out out2 err → EndsSo words stamp place heading n sfile r
            (view_of m) m past td out err out2 err (outcome_at (view_of m))
        by m past is calm answers sums =
            subst (λ (o : Outcome). EndsSo words stamp place heading n sfile r (view_of m) m past td out err out2 err o)
            (sym (found_outcome (view_of m) answers))
            (cut_so words stamp place heading n sfile (summary_of answers.0) answers.0.header.records x.found
            (lines_got x.found answers.0.items) fault r (view_of m) (seen tb) td out out2 err m past
            (sums_as (Err fault) (view_of m) (seen tb) out out2 err answers sums) gives
            (before_then tb td m past (loses m past is calm) (λ m1 past1 is1 calm1. touched_before words stamp place
            heading n sfile tb td m1 past1 is1 calm1 touches)))
