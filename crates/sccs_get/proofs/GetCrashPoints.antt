-- The crash points of a get that changes files.
use Rattle.std.proofs.Common.{◌≡◌, ℕ, Bool, true, false, List, [], drop, Option, Some, is_some, Result, Ok, Err, inl}
use Rattle.std.proofs.Common.{inr, refl, sym, ap, subst, ◌∙◌}
use Rattle.std.specs.Prelude.{if◌then◌else◌}
use Rattle.std.specs.Str.{bytes_eq}
use Rattle.sccs_base.specs.Name.{IsSFileName, p_file, q_file, x_file, y_file, z_file}
use Rattle.sccs_base.specs.Stream.{GivesOk}
use Rattle.sccs_sid.specs.declared.moments.Stamp.{Stamp}
use Rattle.sccs_sid.specs.declared.refusals.StepFault.{StepFault}
use Rattle.sccs_sid.specs.declared.refusals.StepFault.TheVariants.{Refused, Memory, ReadFault, WriteFault, DiskFault}
use Rattle.sccs_disk.specs.Files.{Content, Model, View, put, view_of}
use Rattle.sccs_disk.specs.Images.{Allows, IsFirm}
use Rattle.sccs_disk.specs.Told.{Told, Tells, seen}
use Rattle.sccs_disk.proofs.Puts.{put_other, put_same}
use Rattle.sccs_history.specs.Body.{HistoryLine}
use Rattle.sccs_history.specs.declared.headers.Record.{Record}
use Rattle.sccs_name_files.specs.Touches.{Leaves, TouchesOnly, earlier, newest}
use Rattle.sccs_name_files.proofs.Images.{view_image}
use Rattle.sccs_name_files.proofs.Touched.{newest_more}
use Rattle.sccs_intents.specs.Intents.{intent_file}
use Rattle.sccs_name_files.specs.StepFiles.{Moves, l_file, look, moved}
use Rattle.sccs_store.specs.Placing.{HasMade}
use Rattle.sccs_store.proofs.MadeWhole.{ends_after, ends_pairs, ends_within}
use Rattle.sccs_crash_points.specs.Calm.{IsCalm, KeepsPairs}
use Rattle.sccs_crash_points.specs.CrashPoints.{EndsAfter, EndsBefore, IsAt}
use Rattle.sccs_crash_points.specs.Recovery.{RecoversAs, is_kept}
use Rattle.sccs_crash_points.proofs.FileNames.{from_g, kept_intent, kept_p, kept_q, kept_s, kept_x, kept_z, l_plain}
use Rattle.sccs_crash_points.proofs.Joined.{numbered_as, numbered_now, went_then, stays_as}
use Rattle.sccs_crash_points.proofs.Recovering.{LooksAlike, fate_same, looks_recover, recovers_back, recovers_then}
use Rattle.sccs_crash_points.proofs.Untouched.{before_after, before_within, same_before}
use Rattle.sccs_steps.specs.Actions.{Action}
use Rattle.sccs_steps.specs.Calls.{Meets, scene, world}
use Rattle.sccs_steps.specs.StepEffects.{Outcome, StepEffect, effect_of}
use Rattle.sccs_steps.specs.StepStops.{Ends, IsSafe, IsSafeFor, MeetsAt, meeting_place}
use Rattle.sccs_steps.proofs.SafeImages.{recovers_before}
use Rattle.sccs_steps.proofs.Safety.{same_safe}
use Rattle.sccs_store.specs.Commits.{Becomes}
use Rattle.sccs_changes.specs.declared.prepared.Prepared.{Prepared}
use Rattle.sccs_words.specs.declared.commands.GetWords.{GetWords}
use Rattle.sccs_summary.specs.SummaryFiles.{summary_file}
use Rattle.sccs_summary.proofs.LFiles.{loses_touching}
use Rattle.sccs_get.specs.Giving.{FinishesGet, GivesUpGet, IsReadied, PlacesG, Readies, with_y, y_cleared}
use Rattle.sccs_get.specs.SummaryGiving.{GivesSummary, summed_view}
use Rattle.sccs_get.specs.SummaryStep.{printed_summary, writes_l}
use Rattle.sccs_get.specs.VersionStep.{get_action, get_outcome, given_text, stays_writable, writes_g}
use Rattle.sccs_get.specs.declared.found.Found.{Found}
use Rattle.sccs_get.proofs.StepEnds.{content, finished, g_put, gave_up, gives_up, placed_g}
use Rattle.sccs_get.proofs.SummaryLaws.{down_summed, l_new, l_put, part, placed_both, placed_l, up_summed, whole}
use Rattle.sccs_get.proofs.SummaryLaws.{whole_met}

-- ---- a file anew that is none at which recovery looks

put_looks : (to : List ℕ) (c : Content) (v : View) → is_kept to ≡ false → (k : List ℕ) → IsSFileName k
    → LooksAlike k v (put v to (Some c))
put_looks to c v plain k sfile = record {
  fate = fate_same k v (put v to (Some c)) (put_other v to intent_file (Some c) (kept_intent to plain));
  s = put_other v to k (Some c) (kept_s to k plain sfile);
  p = put_other v to (p_file k) (Some c) (kept_p to k plain sfile);
  z = ap is_some (put_other v to (z_file k) (Some c) (kept_z to k plain sfile));
  x = λ named. put_other v to (x_file k) (Some c) (kept_x to k plain sfile);
  q = λ named. put_other v to (q_file k) (Some c) (kept_q to k plain sfile);
}

put_recovers : (to : List ℕ) (c : Content) (v : View) → is_kept to ≡ false → RecoversAs (put v to (Some c)) v
put_recovers to c v plain =
    recovers_back v (put v to (Some c))
    (looks_recover v (put v to (Some c)) (record {
      intent = put_other v to intent_file (Some c) (kept_intent to plain);
      looks = λ k sfile. put_looks to c v plain k sfile;
    }))

put_safe : (n to : List ℕ) (c : Content) (v : View) → IsSFileName n → is_kept to ≡ false → IsSafe n v
    → IsSafe n (put v to (Some c))
put_safe n to c v sfile plain safe = same_safe n v (put v to (Some c)) sfile (put_looks to c v plain n sfile) safe

-- an l-file and a g-file, where they are anew
abbrev files_put : (l g : Bool) → List ℕ → List ℕ → List ℕ → Bool → View → View
files_put l g n summary text writable v = let u : View = if l then l_put n summary v else v in
    if g then g_put n (content text writable) u else u

moved_is : (l g : Bool) (n summary text : List ℕ) (writable : Bool) (v : View) → IsSFileName n
    → moved v n (l_new l g n summary text writable v) ≡ files_put l g n summary text writable v
moved_is true true n summary text writable v sfile = placed_both n summary text writable v sfile
moved_is true false n summary text writable v sfile = placed_l n summary v sfile
moved_is false true n summary text writable v sfile = placed_g n v text writable sfile
moved_is false false n summary text writable v sfile = refl

l_recovers : (l : Bool) (n summary : List ℕ) (v : View) → RecoversAs (if l then l_put n summary v else v) v
l_recovers true n summary v = put_recovers (l_file n) (summary_file summary) v (l_plain n)
l_recovers false n summary v = λ k sfile. refl

files_recover : (l g : Bool) (n summary text : List ℕ) (writable : Bool) (v : View) → is_kept (drop 2 n) ≡ false
    → RecoversAs (files_put l g n summary text writable v) v
files_recover l true n summary text writable v plain =
    recovers_then (g_put n (content text writable) (if l then l_put n summary v else v)) (if l then l_put n summary v
    else v) v (put_recovers (drop 2 n) (content text writable) (if l then l_put n summary v else v) plain)
    (l_recovers l n summary v)
files_recover l false n summary text writable v plain = l_recovers l n summary v

l_safe : (l : Bool) (n summary : List ℕ) (v : View) → IsSFileName n → IsSafe n v → IsSafe n (if l then l_put n summary v
    else v)
l_safe true n summary v sfile safe = put_safe n (l_file n) (summary_file summary) v sfile (l_plain n) safe
l_safe false n summary v sfile safe = safe

files_safe : (l g : Bool) (n summary text : List ℕ) (writable : Bool) (v : View) → IsSFileName n → IsSafe n v
    → IsSafe n (files_put l g n summary text writable v)
files_safe l true n summary text writable v sfile safe = put_safe n (drop 2 n) (content text writable)
    (if l then l_put n summary v else v) sfile safe.plain (l_safe l n summary v sfile safe)
files_safe l false n summary text writable v sfile safe = l_safe l n summary v sfile safe

-- behind them, where each image has the old s-files and p-files
after_as : (v w : View) (m : Model) (past : List Model) (t : Told) → RecoversAs w v → EndsBefore v m past t
    → EndsAfter v w m past t
after_as v w m past t recovers ends = by (before_after v m past t ends)
  where
    at : (j : ℕ) (u : View) → IsAt v v j u → IsAt v w j u
    at j u (inl now) = inl (recovers_then w v u recovers now)
    at j u (inr before) = inr before

    by : EndsAfter v v m past t → EndsAfter v w m past t
    by after = (
      record {
        added = after.0.added;
        is = after.0.is;
        numbers = numbered_as (λ j m2. Allows (IsAt v v j) m2) (λ j m2. Allows (IsAt v w j) m2) 0 after.0.added m 1
            (λ j low m2 allows u image. at j u (allows u image)) after.0.numbers;
        guarded = after.0.guarded;
      },
      after.1,
    )

-- ---- two calls that lose nothing

pub before_then : (b d : Told) (m : Model) (past : List Model) → EndsBefore (view_of m) m past b
    → ((m1 : Model) (past1 : List Model) → b ≡ Tells m1 past1 → IsCalm m1 → EndsBefore (view_of m1) m1 past1 d)
    → EndsBefore (view_of m) m past d
before_then b d m past ends next = joined (next (newest ends.0.added m) (earlier ends.0.added m past) ends.0.is ends.1)
  where
    kept : KeepsPairs (view_of m) (view_of (newest ends.0.added m))
    kept = numbered_now (λ i m2. Allows (KeepsPairs (view_of m)) m2) 0 ends.0.added m 0 ends.0.numbers
        (view_of (newest ends.0.added m)) (view_image (newest ends.0.added m))

    joined : EndsBefore (view_of (newest ends.0.added m)) (newest ends.0.added m) (earlier ends.0.added m past) d
        → EndsBefore (view_of m) m past d
    joined later = (
      went_then (λ i w. KeepsPairs (view_of m) w) m past 0 b d ends.0 (stays_as (view_of m) (newest ends.0.added m)
          (earlier ends.0.added m past) d kept later.0),
      subst IsCalm (sym (newest_more later.0.added ends.0.added m)) later.1,
    )

-- ---- what was made up to the g-file's place

-- the y-file in what is told
y_leaves : (n : List ℕ) (c : Content) (v : View) (a b : Told) → seen b ≡ Some (put v (y_file n) (Some c))
    → Leaves (λ m1. view_of m1 (y_file n) ≡ Some c) a b
y_leaves n c v a b is = λ m past told m2 past2 now. ap (λ (t : View). t (y_file n))
    (view_is (view_of m2) (put v (y_file n) (Some c)) (sym (ap seen now) ∙ is)) ∙ put_same v (y_file n) (Some c)
  where
    view_is : (u w : View) → Some u ≡ Some w → u ≡ w
    view_is u w e = cc

module _ (words : GetWords) (stamp : Stamp) (place : List ℕ) (heading : Bool) (n : List ℕ) (sfile : IsSFileName n) where
  abbrev action : Action
  action = get_action words stamp place heading

  abbrev outcome_at : View → Outcome
  outcome_at v = get_outcome words stamp place heading n (look v n)

  abbrev pub EndsSo : Result (Unit {0}) StepFault → View → Model → List Model → Told → Option (List ℕ) → Option (List ℕ)
      → Option (List ℕ) → Option (List ℕ) → Outcome → Type 0
  EndsSo r v m past td out err out3 err3 o = (met : Meets (λ (done : Unit {0}). 0) r n o (world (Some v) out err)
      (world (seen td) out3 err3)) × Ends (meeting_place r n o (world (Some v) out err) (world (seen td) out3 err3) met)
      action n v (moved v n (effect_of n o).new) m past td

  -- ---- the g-file is placed, or not

  y_is : (text : List ℕ) (v : View) (o : Option View) → writes_g words ≡ true → Becomes (with_y words n text) (Some v) o
      → o ≡ Some (put v (y_file n) (Some (content text (stays_writable words))))
  y_is text v o writes is = is
      ∙ ap (λ (b : Bool). Some (if b then put v (y_file n) (Some (content text (stays_writable words))) else v)) writes

  -- the disk keeps its s-files and p-files, wherever it ends
  placing : (r : Result (Unit {0}) StepFault) (p : Prepared) (text : List ℕ) (v : View) (ta tb td : Told)
      (out2 out3 err err2 : Option (List ℕ)) (m : Model) (past : List Model) → writes_g words ≡ true
      → FinishesGet words n p r (world (seen tb) out2 err) (world (seen td) out3 err2) → PlacesG words n r tb td
      → ta ≡ Tells m past → IsCalm m → is_kept (drop 2 n) ≡ false → HasMade n ta tb
      → Leaves (λ m1. view_of m1 (y_file n) ≡ Some (content text (stays_writable words))) ta tb
      → EndsBefore (view_of m) m past td
  placing (Ok done) p text v ta tb td out2 out3 err err2 m past writes finishes places is calm plain made leaves =
      ends_pairs (drop 2 n) (Some (content text (stays_writable words))) 1 m past td
      (ends_after n (drop 2 n) (Some (content text (stays_writable words))) ta tb td m past (from_g 121 n sfile)
      sfile is calm plain made leaves (places writes))
  placing (Err WriteFault) p text v ta tb td out2 out3 err err2 m past writes finishes places is calm plain made
      leaves =
      ends_pairs (drop 2 n) (Some (content text (stays_writable words))) 1 m past td
      (ends_after n (drop 2 n) (Some (content text (stays_writable words))) ta tb td m past (from_g 121 n sfile)
      sfile is calm plain made leaves (places writes))
  placing (Err DiskFault) p text v ta tb td out2 out3 err err2 m past writes finishes places is calm plain made leaves =
      ends_pairs (drop 2 n) (Some (content text (stays_writable words))) 0 m past td (ends_within n (drop 2 n)
      (Some (content text (stays_writable words))) ta tb td m past (from_g 121 n sfile) sfile is calm plain made
      leaves (places writes))
  placing (Err (Refused refusal)) p text v ta tb td out2 out3 err err2 m past writes finishes places is calm plain made
      leaves = absurd finishes
  placing (Err Memory) p text v ta tb td out2 out3 err err2 m past writes finishes places is calm plain made leaves =
      absurd finishes
  placing (Err ReadFault) p text v ta tb td out2 out3 err err2 m past writes finishes places is calm plain made leaves =
      absurd finishes

  -- behind the summary: the y-file, and the g-file where there is one
  pub finished_before : (r : Result (Unit {0}) StepFault) (p : Prepared) (o : Outcome) (v : View) (tb tc td : Told)
      (out2 out3 out4 err err2 : Option (List ℕ)) (m : Model) (past : List Model) → tb ≡ Tells m past → IsCalm m
      → is_kept (drop 2 n) ≡ false → IsReadied words n p o (world (Some v) out2 err) (world (seen tc) out3 err)
      → FinishesGet words n p r (world (seen tc) out3 err) (world (seen td) out4 err2) → PlacesG words n r tc td
      → TouchesOnly (bytes_eq (y_file n)) tb tc → (writes_g words ≡ true → Leaves (IsFirm (y_file n)) tb tc)
      → (writes_g words ≡ false → td ≡ tb) → EndsBefore (view_of m) m past td
  finished_before r p o v tb tc td out2 out3 out4 err err2 m past is calm plain ready finishes places touches firm
      same = by (writes_g words) refl
    where
      by : (b : Bool) → writes_g words ≡ b → EndsBefore (view_of m) m past td
      by true writes =
          placing r p ready.text v tb tc td out3 out4 err err2 m past writes finishes places is calm plain
          (record { touches = touches; firm = firm writes })
          (y_leaves n (content ready.text (stays_writable words)) v tb tc
          (y_is ready.text v (seen tc) writes ready.given.view))
      by false none = same_before m past td calm (same none ∙ is)

  -- where the y-file alone is touched
  pub touched_before : (tb td : Told) (m : Model) (past : List Model) → tb ≡ Tells m past → IsCalm m
      → TouchesOnly (bytes_eq (y_file n)) tb td → EndsBefore (view_of m) m past td
  touched_before tb td m past is calm touches = loses_touching n [] sfile tb td touches m past is calm

  -- at a model that is told
  pub at_model : (r : Result (Unit {0}) StepFault) (ta td : Told) (out out3 err err3 : Option (List ℕ)) (m : Model)
      (past : List Model) → ta ≡ Tells m past → EndsSo r (view_of m) m past td out err out3 err3
      (outcome_at (view_of m)) → MeetsAt action r n (outcome_at (view_of m)) (view_of m) m past (scene ta out err)
      (scene td out3 err3)
  at_model r ta td out out3 err err3 m past is ends = subst (λ (t : Told). MeetsAt action r n (outcome_at (view_of m))
      (view_of m) m past (scene t out err) (scene td out3 err3)) (sym is) ends

  -- ---- how it ends

  module _ (summary : List ℕ) (records : List Record) (found : Found) (lines : List HistoryLine) where
    abbrev all_of : View → StepEffect
    all_of v = whole words heading n summary records found lines sfile v

    abbrev rest_of : View → StepEffect
    rest_of v = part words heading n summary records found lines sfile (summed_view words n summary v)

    abbrev behind : View → View
    behind v = summed_view words n summary v

    -- all is made
    made_after : (v : View) (td : Told) (m : Model) (past : List Model) → IsSafe n v → EndsBefore v m past td
        → EndsAfter v (moved v n (all_of v).new) m past td × IsSafeFor action n (moved v n (all_of v).new)
    made_after v td m past safe kept =
        subst (λ (w : View). EndsAfter v w m past td × IsSafeFor action n w)
        (sym (moved_is (writes_l words) (writes_g words) n summary (given_text words records found lines)
        (stays_writable words) v sfile)) (
          after_as v (files_put (writes_l words) (writes_g words) n summary (given_text words records found lines)
              (stays_writable words) v) m past td (files_recover (writes_l words) (writes_g words) n summary
              (given_text words records found lines) (stays_writable words) v safe.plain) kept,
          λ changes. files_safe (writes_l words) (writes_g words) n summary (given_text words records found lines)
              (stays_writable words) v sfile safe,
        )

    pub finished_so : (r : Result (Unit {0}) StepFault) (p : Prepared) (v : View) (tc td : Told)
        (out out2 out3 out4 err err2 : Option (List ℕ)) (m : Model) (past : List Model)
        → GivesOk out out2 (printed_summary words summary) → IsReadied words n p (Ok (rest_of v))
        (world (Some (behind v)) out2 err) (world (seen tc) out3 err)
        → FinishesGet words n p r (world (seen tc) out3 err) (world (seen td) out4 err2) → IsSafe n v
        → EndsBefore v m past td → EndsSo r v m past td out err out4 err2 (Ok (all_of v))
    finished_so (Ok done) p v tc td out out2 out3 out4 err err2 m past first ready finishes safe kept = (
      whole_met words heading n summary records found lines sfile (Ok done) v (seen td) out out2 out4 err err2 first
          (finished words n sfile (Ok done) p (Ok (rest_of v)) (behind v) (seen tc) (seen td) out2 out3 out4 err err2
          ready finishes),
      made_after v td m past safe kept,
    )
    finished_so (Err WriteFault) p v tc td out out2 out3 out4 err err2 m past first ready finishes safe kept = (
      whole_met words heading n summary records found lines sfile (Err WriteFault) v (seen td) out out2 out4 err err2
          first (finished words n sfile (Err WriteFault) p (Ok (rest_of v)) (behind v) (seen tc) (seen td) out2 out3
          out4 err err2 ready finishes),
      made_after v td m past safe kept,
    )
    finished_so (Err DiskFault) p v tc td out out2 out3 out4 err err2 m past first ready finishes safe kept = (
      whole_met words heading n summary records found lines sfile (Err DiskFault) v (seen td) out out2 out4 err err2
          first (finished words n sfile (Err DiskFault) p (Ok (rest_of v)) (behind v) (seen tc) (seen td) out2 out3 out4
          err err2 ready finishes),
      (before_within v (moved v n (all_of v).new) m past td kept, inr (recovers_before v m past td kept)),
    )
    finished_so (Err (Refused refusal)) p v tc td out out2 out3 out4 err err2 m past first ready finishes safe kept =
        absurd finishes
    finished_so (Err Memory) p v tc td out out2 out3 out4 err err2 m past first ready finishes safe kept =
        absurd finishes
    finished_so (Err ReadFault) p v tc td out out2 out3 out4 err err2 m past first ready finishes safe kept =
        absurd finishes

    -- it was given up behind the summary
    given_so : (fault : StepFault) (v : View) (tc td : Told) (out out2 out3 err : Option (List ℕ)) (m : Model)
        (past : List Model) → GivesOk out out2 (printed_summary words summary) → Readies words n (Ok (rest_of v))
        (Err fault) (world (Some (behind v)) out2 err) (world (seen tc) out3 err) → Moves (bytes_eq (y_file n)) (λ u. u)
        (Some (behind v)) (seen tc)
        → (writes_g words ≡ false → seen tc ≡ Some (behind v)) → Becomes (y_cleared (writes_g words) n) (seen tc)
        (seen td) → EndsBefore v m past td → EndsSo (Err fault) v m past td out err out3 err (Ok (all_of v))
    given_so Memory v tc td out out2 out3 err m past first ready moves same gone kept = (
      whole_met words heading n summary records found lines sfile (Err Memory) v (seen td) out out2 out3 err err
          first (gave_up words n sfile Memory (Ok (rest_of v)) (behind v) (seen tc) (seen td) out2 out3 err ready
          moves same gone),
      kept,
    )
    given_so WriteFault v tc td out out2 out3 err m past first ready moves same gone kept = (
      whole_met words heading n summary records found lines sfile (Err WriteFault) v (seen td) out out2 out3 err err
          first (gave_up words n sfile WriteFault (Ok (rest_of v)) (behind v) (seen tc) (seen td) out2 out3 err ready
          moves same gone),
      kept,
    )
    given_so DiskFault v tc td out out2 out3 err m past first ready moves same gone kept = (
      whole_met words heading n summary records found lines sfile (Err DiskFault) v (seen td) out out2 out3 err err
          first (gave_up words n sfile DiskFault (Ok (rest_of v)) (behind v) (seen tc) (seen td) out2 out3 err ready
          moves same gone),
      (before_within v (moved v n (all_of v).new) m past td kept, inr (recovers_before v m past td kept)),
    )
    given_so ReadFault v tc td out out2 out3 err m past first ready moves same gone kept = absurd ready
    given_so (Refused refusal) v tc td out out2 out3 err m past first ready moves same gone kept =
        absurd (let e = ready.0 in cc)

    pub gives_so : (fault : StepFault) (r : Result (Unit {0}) StepFault) (v : View) (tc td : Told)
        (out out2 out3 err : Option (List ℕ)) (m : Model) (past : List Model)
        → GivesOk out out2 (printed_summary words summary) → Readies words n (Ok (rest_of v)) (Err fault)
        (world (Some (behind v)) out2 err) (world (seen tc) out3 err) → Moves (bytes_eq (y_file n)) (λ u. u)
        (Some (behind v)) (seen tc)
        → (writes_g words ≡ false → seen tc ≡ Some (behind v)) → GivesUpGet (writes_g words) n fault r (seen tc)
        (seen td) → EndsBefore v m past td → EndsSo r v m past td out err out3 err (Ok (all_of v))
    gives_so fault r v tc td out out2 out3 err m past first ready moves same (inl gone) kept =
        subst (λ (s : Result (Unit {0}) StepFault). EndsSo s v m past td out err out3 err (Ok (all_of v))) (sym gone.0)
        (given_so fault v tc td out out2 out3 err m past first ready moves same gone.1 kept)
    gives_so fault r v tc td out out2 out3 err m past first ready moves same (inr broken) kept =
        subst (λ (s : Result (Unit {0}) StepFault). EndsSo s v m past td out err out3 err (Ok (all_of v)))
        (sym broken.0) (
          whole_met words heading n summary records found lines sfile (Err DiskFault) v (seen td) out out2 out3 err err
              first (gives_up words n sfile fault (Err DiskFault) (Ok (rest_of v)) (behind v) (seen tc)
              (seen td) out2 out3 err ready moves same (inr (refl, broken.1))),
          (before_within v (moved v n (all_of v).new) m past td kept, inr (recovers_before v m past td kept)),
        )

    -- the summary was given up
    up_so : (fault : StepFault) (v : View) (o2 : Option View) (td : Told) (out out2 err : Option (List ℕ)) (m : Model)
        (past : List Model) → GivesSummary words n summary (Err fault) (world (Some v) out err) (world o2 out2 err)
        → Becomes (y_cleared (writes_l words) n) o2 (seen td) → EndsBefore v m past td
        → EndsSo (Err fault) v m past td out err out2 err (Ok (all_of v))
    up_so Memory v o2 td out out2 err m past gives gone kept = (
      up_summed words heading n summary records found lines sfile Memory v o2 (seen td) out out2 err gives gone,
      kept,
    )
    up_so WriteFault v o2 td out out2 err m past gives gone kept = (
      up_summed words heading n summary records found lines sfile WriteFault v o2 (seen td) out out2 err gives gone,
      kept,
    )
    up_so DiskFault v o2 td out out2 err m past gives gone kept = (
      up_summed words heading n summary records found lines sfile DiskFault v o2 (seen td) out out2 err gives gone,
      (before_within v (moved v n (all_of v).new) m past td kept, inr (recovers_before v m past td kept)),
    )
    up_so ReadFault v o2 td out out2 err m past gives gone kept = absurd gives.0
    up_so (Refused refusal) v o2 td out out2 err m past gives gone kept = absurd gives.0

    pub cut_so : (fault : StepFault) (r : Result (Unit {0}) StepFault) (v : View) (o2 : Option View) (td : Told)
        (out out2 err : Option (List ℕ)) (m : Model) (past : List Model) → GivesSummary words n summary (Err fault)
        (world (Some v) out err) (world o2 out2 err) → GivesUpGet (writes_l words) n fault r o2 (seen td)
        → EndsBefore v m past td → EndsSo r v m past td out err out2 err (Ok (all_of v))
    cut_so fault r v o2 td out out2 err m past gives (inl gone) kept =
        subst (λ (s : Result (Unit {0}) StepFault). EndsSo s v m past td out err out2 err (Ok (all_of v))) (sym gone.0)
        (up_so fault v o2 td out out2 err m past gives gone.1 kept)
    cut_so fault r v o2 td out out2 err m past gives (inr broken) kept =
        subst (λ (s : Result (Unit {0}) StepFault). EndsSo s v m past td out err out2 err (Ok (all_of v)))
        (sym broken.0) (
          down_summed words heading n summary records found lines sfile fault v o2 (seen td) out out2 err gives
              broken.1,
          (before_within v (moved v n (all_of v).new) m past td kept, inr (recovers_before v m past td kept)),
        )
