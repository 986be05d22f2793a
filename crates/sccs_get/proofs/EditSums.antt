-- A summary in front of what is prepared of an edit.
use Rattle.std.proofs.Common.{◌≡◌, ℕ, Bool, true, false, ◌||◌, List, ◌++◌, Option, None, Some, Result, Ok, Err, inl}
use Rattle.std.proofs.Common.{inr, refl, sym, ap, subst, ◌∙◌}
use Rattle.std.specs.Prelude.{IfSome, IsSome, unwrap_or, if◌then◌else◌}
use Rattle.std.specs.Result.{IfOk}
use Rattle.std.specs.Str.{bytes_eq}
use Rattle.sccs_base.specs.Name.{IsSFileName, p_file, q_file, x_file, y_file, z_file}
use Rattle.sccs_base.specs.Stream.{GivesOk, GivesSome}
use Rattle.sccs_base.proofs.Gifts.{gives_both, gives_then, some_longer}
use Rattle.sccs_disk.specs.Calls.{IsThere}
use Rattle.sccs_disk.specs.Files.{Content, Model, View}
use Rattle.sccs_disk.specs.Images.{IsFirm}
use Rattle.sccs_disk.specs.Told.{Told, seen}
use Rattle.sccs_disk.proofs.Puts.{put_same}
use Rattle.sccs_sid.specs.declared.refusals.StepFault.{StepFault}
use Rattle.sccs_sid.specs.declared.refusals.StepFault.TheVariants.{Refused, Memory, ReadFault, WriteFault, DiskFault}
use Rattle.sccs_name_files.specs.StepFiles.{Files, Moves, is_working, l_file}
use Rattle.sccs_name_files.specs.Touches.{Leaves, TouchesOnly, earlier, newest}
use Rattle.sccs_crash_points.specs.Unlocked.{KeepsOthers, KeptOthers}
use Rattle.sccs_crash_points.proofs.FileNames.{from_s, no_y}
use Rattle.sccs_crash_points.proofs.Unlocked.{others_same, others_then, others_touched, others_wider}
use Rattle.sccs_changes.specs.Pending.{AnswersPending}
use Rattle.sccs_changes.specs.declared.pending.Pending.{Pending}
use Rattle.sccs_steps.specs.Calls.{world}
use Rattle.sccs_steps.specs.Causes.{PrintCauses}
use Rattle.sccs_steps.specs.StepEffects.{Outcome, StepEffect}
use Rattle.sccs_store.specs.Commits.{Becomes, files_after}
use Rattle.sccs_store.specs.Stops.{OnReplace}
use Rattle.sccs_store.specs.declared.new_files.NewFile.{NewFile}
use Rattle.sccs_store.specs.declared.new_files.NewFile.TheVariants.{Keep, Replace, Remove}
use Rattle.sccs_store.proofs.Working.{same_touches, touches_from}
use Rattle.sccs_summary.specs.SummaryFiles.{is_summary, l_made, summary_file}
use Rattle.sccs_changes.specs.Changes.{AreTakenOrGone, Drafts, IsTakenOrGone, IsUnmade, IsUnmadeBy, Prepares}
use Rattle.sccs_changes.specs.Changes.{PreparesBy, PreparesEarly, plan_of}
use Rattle.sccs_changes.specs.Stops.{IsFirmPrepared}
use Rattle.sccs_changes.specs.declared.prepared.Prepared.{Prepared}
use Rattle.sccs_get.specs.Giving.{IsLate}
use Rattle.sccs_get.specs.SummaryGiving.{MakesSome}
use Rattle.sccs_get.specs.SummaryStep.{with_l}
use Rattle.sccs_get.proofs.SummaryLaws.{l_alike, l_by, l_gone, l_other, l_put, moves_as}
use Rattle.std.proofs.lemmas.Bool.{or_from}
use Rattle.sccs_base.proofs.Bools.{right_false, left_false}

-- an effect with a summary in front, by whether it becomes the l-file
abbrev pub sum_by : Bool → List ℕ → List ℕ → Files → StepEffect → StepEffect
sum_by l printed summary f d = record {
  new = if l then Some (with_l summary (unwrap_or d.new f)) else d.new;
  text =
      printed ++ d.text;
  out = d.out;
  err = d.err;
  status = d.status;
}

-- ---- a check fails

pub early_of : (l : Bool) (fault : StepFault) (n : List ℕ) (o : Outcome) (a b : Option View)
    (out out2 err : Option (List ℕ)) → Prepares (Err fault) n o (world a out err) (world b out2 err)
    → PreparesBy l (Err fault) n o (world a out err) (world b out2 err)
early_of false fault n o a b out out2 err prepares = prepares
early_of true (Refused refusal) n o a b out out2 err prepares = prepares
early_of true Memory n o a b out out2 err prepares = (false, record { view = prepares.view; out = prepares.out })
early_of true ReadFault n o a b out out2 err prepares = (false, record { view = prepares.view; out = prepares.out })
early_of true WriteFault n o a b out out2 err prepares = (false, record { view = prepares.view; out = prepares.out })
early_of true DiskFault n o a b out out2 err prepares = (false, record { view = prepares.view; out = prepares.out })

-- ---- the summary isn't made, or it alone is

module _ (n printed summary : List ℕ) (f : Files) (d : StepEffect) (v : View) where
  unmade_by : (o2 : Option View) (out out2 err : Option (List ℕ)) → GivesSome out out2 printed
      → MakesSome true n summary (Some v) o2 → (first : Bool) × IsUnmadeBy first n (sum_by true printed summary f d).new
      (printed ++ d.text) (world (Some v) out err) (world o2 out2 err)
  unmade_by None out out2 err gives (inl moves) = absurd moves
  unmade_by (Some u) out out2 err gives (inl moves) =
      (false, record { view = λ k h. moves k (no_y n k h); out = some_longer out out2 printed d.text gives })
  unmade_by o2 out out2 err gives (inr made) = (
    true,
    record {
      view = subst (λ (o : Option View). Moves (is_working n) (λ w. l_put n summary w) (Some v) o) (sym made)
          (λ k h. l_alike n summary v k (no_y n k h));
      out = some_longer out out2 printed d.text gives;
    },
  )

  unmade_same : (o2 : Option View) (out out2 err : Option (List ℕ)) → GivesSome out out2 printed
      → MakesSome false n summary (Some v) o2 → IsUnmade n (printed ++ d.text) (world (Some v) out err)
      (world o2 out2 err)
  unmade_same o2 out out2 err gives made =
      record {
        view = subst (λ (o : Option View). Moves (is_working n) (λ w. w) (Some v) o) (sym made) (λ k h. refl);
        out = some_longer out out2 printed d.text gives;
      }

  pub cut_prepares : (l : Bool) (fault : StepFault) (o2 : Option View) (out out2 err : Option (List ℕ)) → IsLate fault
      → GivesSome out out2 printed → MakesSome l n summary (Some v) o2 → PreparesBy l (Err fault) n
      (Ok (sum_by l printed summary f d)) (world (Some v) out err) (world o2 out2 err)
  cut_prepares false Memory o2 out out2 err late gives made = unmade_same o2 out out2 err gives made
  cut_prepares false WriteFault o2 out out2 err late gives made = unmade_same o2 out out2 err gives made
  cut_prepares false DiskFault o2 out out2 err late gives made = unmade_same o2 out out2 err gives made
  cut_prepares false ReadFault o2 out out2 err late gives made = absurd late
  cut_prepares false (Refused refusal) o2 out out2 err late gives made = absurd late
  cut_prepares true Memory o2 out out2 err late gives made = unmade_by o2 out out2 err gives made
  cut_prepares true WriteFault o2 out out2 err late gives made = unmade_by o2 out out2 err gives made
  cut_prepares true DiskFault o2 out out2 err late gives made = unmade_by o2 out out2 err gives made
  cut_prepares true ReadFault o2 out out2 err late gives made = absurd late
  cut_prepares true (Refused refusal) o2 out out2 err late gives made = absurd late

-- ---- what is prepared behind it

same_effect : (d e : StepEffect) → ◌≡◌ {A = Outcome} (Ok d) (Ok e) → e ≡ d
same_effect d e is = cc

-- a working file behind the summary
taken_as : (new : NewFile) (old old2 c : Option Content) → old2 ≡ old → IsTakenOrGone new old2 c
    → IsTakenOrGone new old c
taken_as new old old2 c same taken = subst (λ (o : Option Content). IsTakenOrGone new o c) same taken

taken_gone : (new : NewFile) (old old2 c : Option Content) → old2 ≡ None → IsTakenOrGone new old2 c
    → IsTakenOrGone new old c
taken_gone Keep old old2 c none (inl gone) = inl gone
taken_gone Keep old old2 c none (inr same) = inl (same ∙ none)
taken_gone Replace old old2 c none taken = tt
taken_gone Remove old old2 c none (inl gone) = inl gone
taken_gone Remove old old2 c none (inr same) = inl (same ∙ none)

module _ (n printed summary : List ℕ) (f : Files) (d e : StepEffect) (v : View) where
  -- with no l-file
  abbrev same_sum : Type 0
  same_sum = (e.text ≡ d.text) × (e.out ≡ d.out) × (e.err ≡ d.err) × (e.status ≡ d.status)

  pub same_prepares : (r : Result Prepared StepFault) (o3 : Option View) (out out2 out3 err : Option (List ℕ))
      → GivesOk out out2 printed → Prepares r n (Ok d) (world (Some v) out2 err) (world o3 out3 err)
      → Prepares r n (Ok (sum_by false printed summary f d)) (world (Some v) out err) (world o3 out3 err)
  same_prepares (Ok p) o3 out out2 out3 err first prep =
      let same : prep.effect ≡ d = same_effect d prep.effect prep.is in
      record {
        effect = sum_by false printed summary f d;
        is = refl;
        status = ap (λ (x : StepEffect). x.status) (sym same) ∙ prep.status;
        report = ap (λ (x : StepEffect). x.out) (sym same) ∙ prep.report;
        message = ap (λ (x : StepEffect). x.err) (sym same) ∙ prep.message;
        view = prep.view;
        working = prep.working;
        files = subst (λ (x : StepEffect). IfSome o3 (λ w. x.new ≡ Some (files_after n (plan_of p) w))) same prep.files;
        out = gives_both out out2 out3 printed d.text first (subst (λ (x : StepEffect). GivesOk out2 out3 x.text) same
            prep.out);
      }
  same_prepares (Err (Refused refusal)) o3 out out2 out3 err first prep = absurd (let never = prep.0 in cc)
  same_prepares (Err Memory) o3 out out2 out3 err first prep =
      record { view = prep.view; out = gives_then out out2 out3 printed d.text first prep.out }
  same_prepares (Err ReadFault) o3 out out2 out3 err first prep =
      record { view = prep.view; out = gives_then out out2 out3 printed d.text first prep.out }
  same_prepares (Err WriteFault) o3 out out2 out3 err first prep =
      record { view = prep.view; out = gives_then out out2 out3 printed d.text first prep.out }
  same_prepares (Err DiskFault) o3 out out2 out3 err first prep =
      record { view = prep.view; out = gives_then out out2 out3 printed d.text first prep.out }

  -- with one
  early_view : (o3 : Option View) → Moves (is_working n) (λ w. w) (Some (l_made n summary v)) o3
      → Moves (is_working n) (λ w. l_put n summary w) (Some v) o3
  early_view o3 moves = moves_as (is_working n) (λ w. w) (λ w. l_put n summary w) v (l_made n summary v) o3
      (λ k h. l_alike n summary v k (no_y n k h)) moves

  early_unmade : (o3 : Option View) (out out2 out3 err : Option (List ℕ)) → GivesOk out out2 printed → e.text ≡ d.text
      → IsUnmade n e.text (world (Some (l_made n summary v)) out2 err) (world o3 out3 err)
      → IsUnmadeBy true n (sum_by true printed summary f d).new (printed ++ d.text) (world (Some v) out err)
      (world o3 out3 err)
  early_unmade o3 out out2 out3 err first text un =
      record {
        view = early_view o3 un.view;
        out = gives_then out out2 out3 printed d.text first
            (subst (λ t. GivesSome out2 out3 t) text un.out);
      }

  early_taken : (p : Prepared) (o3 : Option View) → IsSFileName n
      → IfSome o3 (λ w. AreTakenOrGone n (plan_of p) (l_made n summary v) w)
      → IfSome o3 (λ w. AreTakenOrGone n (plan_of p) v w)
  early_taken p None sfile taken = tt
  early_taken p (Some w) sfile taken = record {
    x = taken_as (plan_of p).s (v (x_file n)) (l_made n summary v (x_file n)) (w (x_file n))
        (l_other n summary v (x_file n) refl refl) taken.x;
    q = taken_as (plan_of p).p (v (q_file n)) (l_made n summary v (q_file n)) (w (q_file n))
        (l_other n summary v (q_file n) refl refl) taken.q;
    y = taken_gone (plan_of p).g (v (y_file n)) (l_made n summary v (y_file n)) (w (y_file n)) (l_gone n summary v)
        taken.y;
  }

  pub early_prepares : (r : Result Prepared StepFault) (o3 : Option View) (out out2 out3 err : Option (List ℕ))
      → IsSFileName n → GivesOk out out2 printed → same_sum → (sum_by true printed summary f d).new ≡ e.new
      → Prepares r n (Ok e) (world (Some (l_made n summary v)) out2 err) (world o3 out3 err)
      → PreparesEarly r n (Ok (sum_by true printed summary f d)) (world (Some v) out err) (world o3 out3 err)
  early_prepares (Ok p) o3 out out2 out3 err sfile first alike new prep =
      let same : prep.effect ≡ e = same_effect e prep.effect prep.is in (
        true,
        record {
          effect = sum_by true printed summary f d;
          is = refl;
          status = sym alike.3 ∙ (ap (λ (x : StepEffect). x.status) (sym same) ∙ prep.status);
          report = sym alike.1 ∙ (ap (λ (x : StepEffect). x.out) (sym same) ∙ prep.report);
          message = sym alike.2 ∙ (ap (λ (x : StepEffect). x.err) (sym same) ∙ prep.message);
          view = early_view o3 prep.view;
          working = early_taken p o3 sfile prep.working;
          files = subst (λ (x : Option Files). IfSome o3 (λ w. x ≡ Some (files_after n (plan_of p) w)))
              (ap (λ (x : StepEffect). x.new) same ∙ sym new) prep.files;
          out = gives_both out out2 out3 printed d.text first (subst (λ t. GivesOk out2 out3 t)
              (ap (λ (x : StepEffect). x.text) same ∙ alike.0) prep.out);
        },
      )
  early_prepares (Err (Refused refusal)) o3 out out2 out3 err sfile first alike new prep = absurd (let never = prep.0 in
      cc)
  early_prepares (Err Memory) o3 out out2 out3 err sfile first alike new prep =
      (true, early_unmade o3 out out2 out3 err first alike.0 prep)
  early_prepares (Err ReadFault) o3 out out2 out3 err sfile first alike new prep =
      (true, early_unmade o3 out out2 out3 err first alike.0 prep)
  early_prepares (Err WriteFault) o3 out out2 out3 err sfile first alike new prep =
      (true, early_unmade o3 out out2 out3 err first alike.0 prep)
  early_prepares (Err DiskFault) o3 out out2 out3 err sfile first alike new prep =
      (true, early_unmade o3 out out2 out3 err first alike.0 prep)

-- the l-file behind the summary
pub l_there : (n summary : List ℕ) (v : View) → l_made n summary v (l_file n) ≡ Some (summary_file summary)
l_there n summary v = l_alike n summary v (l_file n) refl ∙ put_same v (l_file n) (Some (summary_file summary))

-- ---- what is changed, what is there and what is firm

pub drafts_same : (l : Bool) (n : List ℕ) (a b : Told) → b ≡ a → Drafts l n a b
drafts_same false n a b same = same_touches (is_working n) a b same
drafts_same true n a b same = others_same (λ k. bytes_eq (l_file n) k || is_working n k) a b same

sum_within : (n k : List ℕ) → (bytes_eq (l_file n) k || is_working n k) ≡ false → is_summary n k ≡ false
sum_within n k h = or_from (bytes_eq (y_file n) k) (bytes_eq (l_file n) k)
    (no_y n k (right_false (bytes_eq (l_file n) k) (is_working n k) h)) (left_false (bytes_eq (l_file n) k)
    (is_working n k) h)

pub drafts_summary : (l : Bool) (n : List ℕ) (a b c : Told) → b ≡ a → (l ≡ false → c ≡ b)
    → KeepsOthers (is_summary n) b c → Drafts l n a c
drafts_summary false n a b c same none keeps = same_touches (is_working n) a c (none refl ∙ same)
drafts_summary true n a b c same none keeps =
    subst (λ (t : Told). KeepsOthers (λ k. bytes_eq (l_file n) k || is_working n k) t c) same
    (others_wider (is_summary n) (λ k. bytes_eq (l_file n) k || is_working n k) b c (sum_within n) keeps)

pub drafts_both : (l : Bool) (n : List ℕ) (a b c d : Told) → b ≡ a → (l ≡ false → c ≡ b)
    → KeepsOthers (is_summary n) b c → TouchesOnly (is_working n) c d → Drafts l n a d
drafts_both false n a b c d same none keeps touches = touches_from (is_working n) a c d (none refl ∙ same) touches
drafts_both true n a b c d same none keeps touches =
    others_then (λ k. bytes_eq (l_file n) k || is_working n k) a c d (drafts_summary true n a b c same none keeps)
    (others_wider (is_working n) (λ k. bytes_eq (l_file n) k || is_working n k) c d
    (λ k h. right_false (bytes_eq (l_file n) k) (is_working n k) h) (others_touched (is_working n) c d touches))

leaves_on : (P : Model → Type 0) (mine : List ℕ → Bool) (a b c : Told) → KeepsOthers mine a b → Leaves P b c
    → Leaves P a c
leaves_on P mine a b c keeps leaves = λ m past is m2 past2 now.
    let run : KeptOthers mine m past b = keeps m past is in
    leaves (newest run.added m) (earlier run.added m past) run.is m2 past2 now

firm_new : (new : NewFile) (P : Model → Type 0) (mine : List ℕ → Bool) (a b c : Told) → KeepsOthers mine a b
    → OnReplace new (Leaves P b c) → OnReplace new (Leaves P a c)
firm_new Keep P mine a b c keeps firm = tt
firm_new Replace P mine a b c keeps firm = leaves_on P mine a b c keeps firm
firm_new Remove P mine a b c keeps firm = tt

pub firm_behind : (r : Result Prepared StepFault) (n : List ℕ) (a b c d : Told) → b ≡ a → KeepsOthers (is_summary n) b c
    → IfOk r (λ p. IsFirmPrepared n p c d) → IfOk r (λ p. IsFirmPrepared n p a d)
firm_behind (Err fault) n a b c d same keeps firm = tt
firm_behind (Ok p) n a b c d same keeps firm =
    subst (λ (t : Told). IsFirmPrepared n p t d) same
    (record {
      x_state = firm_new (plan_of p).s (IsFirm (x_file n)) (is_summary n) b c d keeps firm.x_state;
      q_state = firm_new (plan_of p).p (IsFirm (q_file n)) (is_summary n) b c d keeps firm.q_state;
    })

-- other files are as they were behind the summary
pub kept_by : (l : Bool) (n summary : List ℕ) (v : View) (k : List ℕ) → bytes_eq (y_file n) k ≡ false
    → bytes_eq (l_file n) k ≡ false → l_by l n summary v k ≡ v k
kept_by false n summary v k y other = refl
kept_by true n summary v k y other = l_other n summary v k y other

pub z_behind : (l : Bool) (n summary : List ℕ) (a b c : Told) → b ≡ a → Becomes (λ v. l_by l n summary v) (seen b)
    (seen c) → IsThere (z_file n) a → IsThere (z_file n) c
z_behind l n summary a b c same made there = by (seen b) made (subst (λ (t : Told). IsThere (z_file n) t)
    (sym same) there)
  where
    by : (o : Option View) → Becomes (λ v. l_by l n summary v) o (seen c)
        → IfSome o (λ (v : View). IsSome (v (z_file n))) → IfSome (seen c) (λ (v : View). IsSome (v (z_file n)))
    by None made there = subst (λ (o : Option View). IfSome o (λ (v : View). IsSome (v (z_file n)))) (sym made) tt
    by (Some v) made there = subst (λ (o : Option View). IfSome o (λ (v : View). IsSome (v (z_file n)))) (sym made)
        (subst IsSome (sym (kept_by l n summary v (z_file n) refl refl)) there)

pub pending_behind : (l : Bool) (n summary : List ℕ) (x : Pending) (a b c : Told) → IsSFileName n → b ≡ a
    → Becomes (λ v. l_by l n summary v) (seen b) (seen c) → IfSome (seen a) (λ (v : View). AnswersPending (v n)
    (v (p_file n)) (Ok x)) → IfSome (seen c) (λ (v : View). AnswersPending (v n) (v (p_file n)) (Ok x))
pending_behind l n summary x a b c sfile same made read =
    by (seen b) made (subst (λ (t : Told). IfSome (seen t) (λ (v : View). AnswersPending (v n) (v (p_file n)) (Ok x)))
    (sym same) read)
  where
    by : (o : Option View) → Becomes (λ v. l_by l n summary v) o (seen c)
        → IfSome o (λ (v : View). AnswersPending (v n) (v (p_file n)) (Ok x))
        → IfSome (seen c) (λ (v : View). AnswersPending (v n) (v (p_file n)) (Ok x))
    by None made read = subst (λ (o : Option View). IfSome o (λ (v : View). AnswersPending (v n) (v (p_file n)) (Ok x)))
        (sym made) tt
    by (Some v) made read =
        subst (λ (o : Option View). IfSome o (λ (v : View). AnswersPending (v n) (v (p_file n)) (Ok x))) (sym made)
        (subst (λ (s : Option Content). AnswersPending s (l_by l n summary v (p_file n)) (Ok x))
        (sym (kept_by l n summary v n (from_s 121 n sfile refl) (from_s 108 n sfile refl)))
        (subst (λ (p : Option Content). AnswersPending (v n) p (Ok x))
        (sym (kept_by l n summary v (p_file n) refl refl)) read))

-- the causes of a fault of another call
pub fault_causes : {X Y : Type 0} (fault : StepFault) (o o2 d d2 : ℕ) → PrintCauses {X = X} (Err fault) o o2 d d2
    → PrintCauses {X = Y} (Err fault) o o2 d d2
fault_causes {X} {Y} fault o o2 d d2 causes = record {
  out_later = causes.out_later;
  disk_later = causes.disk_later;
  write = λ is. causes.write (as_other WriteFault is);
  read = λ is. causes.read (as_other ReadFault is);
  broke = λ is. causes.broke (as_other DiskFault is);
}
  where
    as_other : (other : StepFault) → ◌≡◌ {A = Result Y StepFault} (Err fault) (Err other) → ◌≡◌ {A = Result X StepFault}
        (Err fault) (Err other)
    as_other other is = cc
