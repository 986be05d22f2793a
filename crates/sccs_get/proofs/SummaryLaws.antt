-- A summary in front of a step, and how the step ends.
use Rattle.std.proofs.Common.{◌≡◌, ◌⊎◌, ℕ, zero, suc, Bool, true, false, ◌||◌, cond, List, ◌++◌, drop, Option, None}
use Rattle.std.proofs.Common.{Some, Result, Ok, Err, inl, inr, refl, sym, ap, subst, ◌∙◌, append_assoc, ⊎_elim}
use Rattle.std.specs.Prelude.{unwrap_or, if◌then◌else◌}
use Rattle.std.specs.Str.{bytes_eq}
use Rattle.sccs_base.specs.Name.{IsSFileName, p_file, y_file, z_file}
use Rattle.sccs_base.specs.Stream.{GivesOk, GivesSome}
use Rattle.sccs_base.proofs.Gifts.{gives_both, gives_then, some_longer}
use Rattle.sccs_sid.specs.declared.refusals.StepFault.{StepFault}
use Rattle.sccs_sid.specs.declared.refusals.StepFault.TheVariants.{Refused, Memory, ReadFault, WriteFault, DiskFault}
use Rattle.sccs_disk.specs.Files.{Content, View, put}
use Rattle.sccs_disk.proofs.Puts.{name_cases, put_back, put_other, put_same}
use Rattle.sccs_name_files.specs.StepFiles.{AreCleared, Files, Moves, MovesEarly, early_moved, is_left, is_working}
use Rattle.sccs_name_files.specs.StepFiles.{l_file, look, moved, placed}
use Rattle.sccs_history.specs.Body.{HistoryLine}
use Rattle.sccs_history.specs.declared.headers.Record.{Record}
use Rattle.sccs_crash_points.specs.Recovery.{without_name}
use Rattle.sccs_crash_points.proofs.FileNames.{from_g, from_s, no_working, no_y, to_g}
use Rattle.sccs_steps.specs.Calls.{Interrupted, Made, Meets, ReportCut, Uncommitted, world}
use Rattle.sccs_steps.specs.FirstFiles.{MovesInOrder, first_moved}
use Rattle.sccs_steps.specs.StepEffects.{StepEffect}
use Rattle.sccs_store.specs.Commits.{Becomes}
use Rattle.sccs_summary.specs.SummaryFiles.{l_made, summary_file}
use Rattle.sccs_words.specs.declared.commands.GetWords.{GetWords}
use Rattle.sccs_get.specs.Giving.{y_cleared}
use Rattle.sccs_get.specs.SummaryGiving.{GivesSummary, MakesSome, summed_view}
use Rattle.sccs_get.specs.SummaryStep.{printed_summary, summed, with_l, writes_l}
use Rattle.sccs_get.specs.VersionStep.{get_effect, given_text, stays_writable, with_g, writes_g}
use Rattle.sccs_get.specs.declared.found.Found.{Found}
use Rattle.sccs_get.proofs.StepEnds.{content, g_and_s, g_put, new_by, placed_g}

-- ---- the l-file in a view

abbrev pub l_put : List ℕ → List ℕ → View → View
l_put n text v = put v (l_file n) (Some (summary_file text))

-- the y-file in the place of the l-file
pub l_alike : (n text : List ℕ) (v : View) (k : List ℕ) → bytes_eq (y_file n) k ≡ false
    → l_made n text v k ≡ l_put n text v k
l_alike n text v k h = ⊎_elim here there (name_cases (l_file n) k)
  where
    y : View
    y = put v (y_file n) (Some (summary_file text))

    here : l_file n ≡ k → l_made n text v k ≡ l_put n text v k
    here e = subst (λ l. l_made n text v l ≡ l_put n text v l) e
        (put_same (put y (y_file n) None) (l_file n) (y (y_file n)) ∙ (put_same v (y_file n) (Some (summary_file text))
        ∙ sym (put_same v (l_file n) (Some (summary_file text)))))

    there : bytes_eq (l_file n) k ≡ false → l_made n text v k ≡ l_put n text v k
    there apart =
        put_other (put y (y_file n) None) (l_file n) k (y (y_file n)) apart
        ∙ (put_other y (y_file n) k None h ∙ (put_other v (y_file n) k (Some (summary_file text)) h
        ∙ sym (put_other v (l_file n) k (Some (summary_file text)) apart)))

-- and no y-file is left
pub l_gone : (n text : List ℕ) (v : View) → l_made n text v (y_file n) ≡ None
l_gone n text v = put_other (put y (y_file n) None) (l_file n) (y_file n) (y (y_file n)) refl
    ∙ put_same y (y_file n) None
  where
    y : View
    y = put v (y_file n) (Some (summary_file text))

pub l_other : (n text : List ℕ) (v : View) (k : List ℕ) → bytes_eq (y_file n) k ≡ false → bytes_eq (l_file n) k ≡ false
    → l_made n text v k ≡ v k
l_other n text v k y l = l_alike n text v k y ∙ put_other v (l_file n) k (Some (summary_file text)) l

working_l : (n k : List ℕ) → is_working n k ≡ true → bytes_eq (l_file n) k ≡ false
working_l n k h =
    ⊎_elim (λ e. absurd (let some : is_working n (l_file n) ≡ true = subst (λ l. is_working n l ≡ true) (sym e) h in
    let none : is_working n (l_file n) ≡ false = refl in cc)) (λ other. other) (name_cases (l_file n) k)

-- the l-file anew, and all else as it was
pub placed_l : (n text : List ℕ) (v : View) → IsSFileName n → placed v n (with_l text (look v n)) ≡ l_put n text v
placed_l n text v sfile =
    ap (λ (t : View). put (put (put t (drop 2 n) (v (drop 2 n))) (p_file n) (v (p_file n))) n (v n))
    (ap (λ x. put u (z_file n) x) (sym (put_other v (l_file n) (z_file n) (Some (summary_file text)) refl))
    ∙ put_back u (z_file n))
    ∙ (ap (λ (t : View). put (put t (p_file n) (v (p_file n))) n (v n)) (ap (λ x. put u (drop 2 n) x)
    (sym (put_other v (l_file n) (drop 2 n) (Some (summary_file text)) (from_g 108 n sfile)))
    ∙ put_back u (drop 2 n))
    ∙ (ap (λ (t : View). put t n (v n)) (ap (λ x. put u (p_file n) x)
    (sym (put_other v (l_file n) (p_file n) (Some (summary_file text)) refl)) ∙ put_back u (p_file n))
    ∙ (ap (λ x. put u n x) (sym (put_other v (l_file n) n (Some (summary_file text)) (from_s 108 n sfile refl)))
    ∙ put_back u n)))
  where
    u : View
    u = l_put n text v

-- and the g-file
pub placed_both : (n summary text : List ℕ) (writable : Bool) (v : View) → IsSFileName n
    → placed v n (with_l summary (with_g (look v n) text writable)) ≡ g_put n (content text writable)
    (l_put n summary v)
placed_both n summary text writable v sfile =
    ap (λ (t : View). put (put (put t (drop 2 n) (Some (content text writable))) (p_file n) (v (p_file n))) n (v n))
    (ap (λ x. put u (z_file n) x) (sym (put_other v (l_file n) (z_file n) (Some (summary_file summary)) refl))
    ∙ put_back u (z_file n))
    ∙ (ap (λ (t : View). put t n (v n)) (ap (λ x. put w (p_file n) x)
    (sym (put_other u (drop 2 n) (p_file n) (Some (content text writable)) (to_g 112 n sfile)
    ∙ put_other v (l_file n) (p_file n) (Some (summary_file summary)) refl)) ∙ put_back w (p_file n))
    ∙ (ap (λ x. put w n x) (sym (put_other u (drop 2 n) n (Some (content text writable)) (g_and_s n sfile)
    ∙ put_other v (l_file n) n (Some (summary_file summary)) (from_s 108 n sfile refl))) ∙ put_back w n))
  where
    u : View
    u = l_put n summary v

    w : View
    w = g_put n (content text writable) u

-- ---- by whether there is an l-file, and whether there is a g-file

abbrev pub l_by : Bool → List ℕ → List ℕ → View → View
l_by l n summary v = if l then l_made n summary v else v

abbrev pub l_new : (l g : Bool) → List ℕ → List ℕ → List ℕ → Bool → View → Option Files
l_new l g n summary text writable v =
    if l then Some (with_l summary (unwrap_or (new_by g n text writable v) (look v n))) else new_by g n text writable v

moved_by : (l g : Bool) (n summary text : List ℕ) (writable : Bool) (v : View) (k : List ℕ) → IsSFileName n
    → is_working n k ≡ false → moved (l_by l n summary v) n (new_by g n text writable (l_by l n summary v)) k
    ≡ moved v n (l_new l g n summary text writable v) k
moved_by false g n summary text writable v k sfile h = refl
moved_by true false n summary text writable v k sfile h = l_alike n summary v k (no_y n k h)
    ∙ sym (ap (λ (t : View). t k) (placed_l n summary v sfile))
moved_by true true n summary text writable v k sfile h =
    ap (λ (t : View). t k) (placed_g n (l_made n summary v) text writable sfile)
    ∙ (ap (λ (o : Option Content). cond (bytes_eq (drop 2 n) k) (Some (content text writable)) o)
    (l_alike n summary v k (no_y n k h))
    ∙ sym (ap (λ (t : View). t k) (placed_both n summary text writable v sfile)))

-- the l-file of the step itself is old
early_same : (g first : Bool) (n text : List ℕ) (writable : Bool) (u : View)
    → early_moved first u n (new_by g n text writable u) ≡ u
early_same false false n text writable u = refl
early_same false true n text writable u = refl
early_same true false n text writable u = refl
early_same true true n text writable u = put_back u (l_file n)

early_by : (l g first : Bool) (n summary text : List ℕ) (writable : Bool) (v : View) (k : List ℕ)
    → is_working n k ≡ false → early_moved first (l_by l n summary v) n (new_by g n text writable (l_by l n summary v))
    k ≡ early_moved (l || first) v n (l_new l g n summary text writable v) k
early_by false g first n summary text writable v k h = refl
early_by true g first n summary text writable v k h = ap (λ (t : View). t k) (early_same g first n text writable
    (l_made n summary v)) ∙ l_alike n summary v k (no_y n k h)

-- so are its first files
first_same : (g : Bool) (n text : List ℕ) (writable : Bool) (u : View)
    → (first_moved 1 u n (new_by g n text writable u) ≡ u) × (first_moved 2 u n (new_by g n text writable u) ≡ u)
    × (first_moved 3 u n (new_by g n text writable u) ≡ u)
first_same false n text writable u = (refl, refl, refl)
first_same true n text writable u = (one, two, three)
  where
    one : put u (l_file n) (u (l_file n)) ≡ u
    one = put_back u (l_file n)

    two : put (put u (l_file n) (u (l_file n))) n (u n) ≡ u
    two = ap (λ (t : View). put t n (u n)) one ∙ put_back u n

    three : put (put (put u (l_file n) (u (l_file n))) n (u n)) (p_file n) (u (p_file n)) ≡ u
    three = ap (λ (t : View). put t (p_file n) (u (p_file n))) two ∙ put_back u (p_file n)

abbrev FirstBy : (l g : Bool) → (n summary text : List ℕ) → Bool → View → ℕ → Type 0
FirstBy l g n summary text writable v i = (j : ℕ) × ((k : List ℕ) → is_working n k ≡ false
    → first_moved i (l_by l n summary v) n (new_by g n text writable (l_by l n summary v)) k ≡ first_moved j v n
    (l_new l g n summary text writable v) k)

first_by : (l g : Bool) (i : ℕ) (n summary text : List ℕ) (writable : Bool) (v : View) → IsSFileName n
    → FirstBy l g n summary text writable v i
first_by false g i n summary text writable v sfile = (i, λ k h. refl)
first_by true g zero n summary text writable v sfile = (1, λ k h. l_alike n summary v k (no_y n k h))
first_by true g (suc zero) n summary text writable v sfile = (
  1,
  λ k h. ap (λ (t : View). t k) (first_same g n text writable (l_made n summary v)).0 ∙ l_alike n summary v k
      (no_y n k h),
)
first_by true g (suc (suc zero)) n summary text writable v sfile = (
  1,
  λ k h. ap (λ (t : View). t k) (first_same g n text writable (l_made n summary v)).1 ∙ l_alike n summary v k
      (no_y n k h),
)
first_by true g (suc (suc (suc zero))) n summary text writable v sfile = (
  1,
  λ k h. ap (λ (t : View). t k) (first_same g n text writable (l_made n summary v)).2 ∙ l_alike n summary v k
      (no_y n k h),
)
first_by true g (suc (suc (suc (suc i)))) n summary text writable v sfile =
    (4, λ k h. moved_by true g n summary text writable v k sfile h)

-- what is told behind another view
pub moves_as : (w : List ℕ → Bool) (f g : View → View) (v u : View) (o : Option View) → ((k : List ℕ) → w k ≡ false
    → f u k ≡ g v k) → Moves w f (Some u) o → Moves w g (Some v) o
moves_as w f g v u None same moves = absurd moves
moves_as w f g v u (Some t) same moves = λ k h. moves k h ∙ same k h

cleared_as : (l : Bool) (n summary : List ℕ) (v : View) (o : Option View) → AreCleared n (Some (l_by l n summary v)) o
    → AreCleared n (Some v) o
cleared_as l n summary v None cleared = absurd cleared
cleared_as false n summary v (Some t) cleared = cleared
cleared_as true n summary v (Some t) cleared = λ k h. by k h (cleared k h) (name_cases (y_file n) k)
  where
    by : (k : List ℕ) → is_working n k ≡ true → (t k ≡ None) ⊎ (t k ≡ l_made n summary v k) → (y_file n ≡ k)
        ⊎ (bytes_eq (y_file n) k ≡ false) → (t k ≡ None) ⊎ (t k ≡ v k)
    by k h (inl none) at = inl none
    by k h (inr same) (inl e) = inl (same ∙ subst (λ x. l_made n summary v x ≡ None) e (l_gone n summary v))
    by k h (inr same) (inr apart) = inr (same ∙ l_other n summary v k apart (working_l n k h))

-- ---- the summary isn't made, or it alone is

-- it was given up, and the y-file is gone
cut_view : (l g : Bool) (n summary text : List ℕ) (writable : Bool) (v : View) (o2 o3 : Option View)
    → MakesSome l n summary (Some v) o2 → Becomes (y_cleared l n) o2 o3
    → MovesEarly n (l_new l g n summary text writable v) (Some v) o3 × AreCleared n (Some v) o3
cut_view false g n summary text writable v None o3 made gone = absurd (let e : None ≡ Some v = made in cc)
cut_view false g n summary text writable v (Some u) o3 made gone =
    let is : o3 ≡ Some v = gone ∙ made in (
      (false, subst (λ (o : Option View). Moves (is_working n) (λ w. w) (Some v) o) (sym is) (λ k h. refl)),
      subst
          (λ (o : Option View). AreCleared n (Some v) o) (sym is) (λ k h. inr refl),
    )
cut_view true g n summary text writable v None o3 (inl moves) gone = absurd moves
cut_view true g n summary text writable v (Some u) o3 (inl moves) gone = (
  (
    false,
    subst (λ (o : Option View). Moves (is_working n) (λ w. w) (Some v) o) (sym gone)
        (λ k h. put_other u (y_file n) k None (no_y n k h) ∙ moves k (no_y n k h)),
  ),
  subst (λ (o : Option View). AreCleared n (Some v) o) (sym gone)
      (λ k h. ⊎_elim (λ e. inl (subst (λ x. without_name (y_file n) u x ≡ None) e (put_same u (y_file n) None)))
      (λ apart. inr (put_other u (y_file n) k None apart ∙ moves k apart)) (name_cases (y_file n) k)),
)
cut_view true g n summary text writable v o2 o3 (inr made) gone =
    let is : o3 ≡ Some (without_name (y_file n) (l_made n summary v)) =
    subst (λ (o : Option View). Becomes (y_cleared true n) o o3) made gone in (
      (
        true,
        subst (λ (o : Option View). Moves (is_working n) (λ w. early_moved true w n
            (l_new true g n summary text writable v)) (Some v) o) (sym is) (λ k h. put_other (l_made n summary v)
            (y_file n) k None (no_y n k h) ∙ l_alike n summary v k (no_y n k h)),
      ),
      subst (λ (o : Option View). AreCleared n (Some v) o) (sym is)
          (λ k h. ⊎_elim (λ e. inl (subst (λ x. without_name (y_file n) (l_made n summary v) x ≡ None) e
          (put_same (l_made n summary v) (y_file n) None)))
          (λ apart. inr (put_other (l_made n summary v) (y_file n) k None apart ∙ l_other n summary v k apart
          (working_l n k h))) (name_cases (y_file n) k)),
    )

-- the disk failed
cut_broken : (l g : Bool) (n summary text : List ℕ) (writable : Bool) (v : View) (o2 o3 : Option View)
    → MakesSome l n summary (Some v) o2 → Moves (bytes_eq (y_file n)) (λ w. w) o2 o3
    → MovesInOrder n (l_new l g n summary text writable v) (Some v) o3
cut_broken false g n summary text writable v o2 o3 made moves =
    (0, wide v o3 (subst (λ (o : Option View). Moves (bytes_eq (y_file n)) (λ w. w) o o3) made moves))
  where
    wide : (u : View) (o : Option View) → Moves (bytes_eq (y_file n)) (λ w. w) (Some u) o → Moves (is_left n) (λ w. w)
        (Some u) o
    wide u None moves = absurd moves
    wide u (Some t) moves = λ k h. moves k (no_y n k (no_working n k h))
cut_broken true g n summary text writable v None o3 (inl first) moves = absurd first
cut_broken true g n summary text writable v (Some u) None (inl first) moves = absurd moves
cut_broken true g n summary text writable v (Some u) (Some t) (inl first) moves =
    (0, λ k h. moves k (no_y n k (no_working n k h)) ∙ first k (no_y n k (no_working n k h)))
cut_broken true g n summary text writable v o2 o3 (inr made) moves =
    (1, late o3 (subst (λ (o : Option View). Moves (bytes_eq (y_file n)) (λ w. w) o o3) made moves))
  where
    late : (o : Option View) → Moves (bytes_eq (y_file n)) (λ w. w) (Some (l_made n summary v)) o
        → Moves (is_left n) (λ w. l_put n summary w) (Some v) o
    late None moves = absurd moves
    late (Some t) moves = λ k h. moves k (no_y n k (no_working n k h)) ∙ l_alike n summary v k
        (no_y n k (no_working n k h))

pub up_moves : (l : Bool) (n : List ℕ) (o o2 : Option View) → Becomes (y_cleared l n) o o2 → Moves (bytes_eq (y_file n))
    (λ w. w) o o2
up_moves l n None o2 gone = gone
up_moves false n (Some u) o2 gone = subst (λ (o : Option View). Moves (bytes_eq (y_file n)) (λ w. w) (Some u) o)
    (sym gone) (λ k h. refl)
up_moves true n (Some u) o2 gone = subst (λ (o : Option View). Moves (bytes_eq (y_file n)) (λ w. w) (Some u) o)
    (sym gone) (λ k h. put_other u (y_file n) k None h)

-- ---- how the step ends

module _ (words : GetWords) (heading : Bool) (n summary : List ℕ) (records : List Record) (found : Found)
    (lines : List HistoryLine) (sfile : IsSFileName n) where
  -- behind the summary, and with it
  abbrev pub part : View → StepEffect
  part u = get_effect words heading n records (look u n) found lines

  abbrev pub whole : View → StepEffect
  whole v = summed words summary (look v n) (part v)

  abbrev text : List ℕ
  text = given_text words records found lines

  abbrev Met : Result (Unit {0}) StepFault → StepEffect → View → Option View → Option (List ℕ) → Option (List ℕ)
      → Option (List ℕ) → Option (List ℕ) → Type 0
  Met r d v o5 out out3 err err2 = Meets (λ (done : Unit {0}). 0) r n (Ok d) (world (Some v) out err)
      (world o5 out3 err2)

  part_is : (v : View) (d : StepEffect) → part (summed_view words n summary v) ≡ d
      → d ≡ part (summed_view words n summary v)
  part_is v d is = sym is

  pub made_whole : (v : View) (o5 : Option View) (out out2 out3 err err2 : Option (List ℕ))
      → GivesOk out out2 (printed_summary words summary) → Made n (part (summed_view words n summary v))
      (world (Some (summed_view words n summary v)) out2 err) (world o5 out3 err2)
      → Made n (whole v) (world (Some v) out err) (world o5 out3 err2)
  made_whole v o5 out out2 out3 err err2 first made = record {
    view = moves_as (is_working n) (λ u. moved u n (part (summed_view words n summary v)).new)
        (λ u. moved u n (whole v).new) v (summed_view words n summary v) o5 (λ k h. moved_by (writes_l words)
        (writes_g words) n summary text (stays_writable words) v k sfile h) made.view;
    cleared = cleared_as (writes_l words) n summary v o5 made.cleared;
    out = subst (λ t. GivesOk out out3 t) (sym (append_assoc (printed_summary words summary) (part v).text
        (part v).out)) (gives_both out out2 out3 (printed_summary words summary) ((part v).text ++ (part v).out) first
        made.out);
    err = made.err;
  }

  pub cut_whole : (v : View) (o5 : Option View) (out out2 out3 err err2 : Option (List ℕ))
      → GivesOk out out2 (printed_summary words summary) → ReportCut n (part (summed_view words n summary v))
      (world (Some (summed_view words n summary v)) out2 err) (world o5 out3 err2)
      → ReportCut n (whole v) (world (Some v) out err) (world o5 out3 err2)
  cut_whole v o5 out out2 out3 err err2 first made = record {
    status = refl;
    view = moves_as (is_working n) (λ u. moved u n (part (summed_view words n summary v)).new)
        (λ u. moved u n (whole v).new) v (summed_view words n summary v) o5 (λ k h. moved_by (writes_l words)
        (writes_g words) n summary text (stays_writable words) v k sfile h) made.view;
    cleared = cleared_as (writes_l words) n summary v o5 made.cleared;
    out = subst (λ t. GivesSome out out3 t) (sym (append_assoc (printed_summary words summary) (part v).text
        (part v).out)) (gives_then out out2 out3 (printed_summary words summary) ((part v).text ++ (part v).out) first
        made.out);
    err = made.err;
  }

  pub uncommitted_whole : (v : View) (o5 : Option View) (out out2 out3 err err2 : Option (List ℕ))
      → GivesOk out out2 (printed_summary words summary) → Uncommitted n (part (summed_view words n summary v)).new
      (part v).text (world (Some (summed_view words n summary v)) out2 err) (world o5 out3 err2)
      → Uncommitted n (whole v).new (whole v).text (world (Some v) out err) (world o5 out3 err2)
  uncommitted_whole v o5 out out2 out3 err err2 first un = record {
    view = (
      writes_l words || un.view.0,
      moves_as (is_working n) (λ u. early_moved un.view.0 u n
          (part (summed_view words n summary v)).new) (λ u. early_moved (writes_l words || un.view.0) u n (whole v).new)
          v
          (summed_view words n summary v) o5 (λ k h. early_by (writes_l words) (writes_g words) un.view.0 n summary text
          (stays_writable words) v k h) un.view.1,
    );
    cleared = cleared_as (writes_l words) n summary v o5 un.cleared;
    out = gives_then out out2 out3 (printed_summary words summary) (part v).text first un.out;
    err = un.err;
  }

  pub interrupted_whole : (v : View) (o5 : Option View) (out out2 out3 err err2 : Option (List ℕ))
      → GivesOk out out2 (printed_summary words summary) → Interrupted n (Ok (part (summed_view words n summary v)))
      (world (Some (summed_view words n summary v)) out2 err) (world o5 out3 err2) → Interrupted n (Ok (whole v))
      (world (Some v) out err) (world o5 out3 err2)
  interrupted_whole v o5 out out2 out3 err err2 first broken =
      let at : FirstBy (writes_l words) (writes_g words) n summary text (stays_writable words) v broken.view.0 =
      first_by (writes_l words) (writes_g words) broken.view.0 n summary text (stays_writable words) v sfile in
      record {
        view = (
          at.0,
          moves_as (is_left n) (λ u. first_moved broken.view.0 u n
              (part (summed_view words n summary v)).new) (λ u. first_moved at.0 u n (whole v).new) v
              (summed_view words n summary v) o5 (λ k h. at.1 k (no_working n k h)) broken.view.1,
        );
        out = gives_then out out2 out3 (printed_summary words summary) (part v).text first broken.out;
        err = broken.err;
      }

  -- however it ends behind the summary, it ends so with it
  abbrev pub whole_met : (r : Result (Unit {0}) StepFault) (v : View) (o5 : Option View)
      (out out2 out3 err err2 : Option (List ℕ)) → GivesOk out out2 (printed_summary words summary)
      → Met r (part (summed_view words n summary v)) (summed_view words n summary v) o5 out2 out3 err err2
      → Met r (whole v) v o5 out out3 err err2
  whole_met (Ok done) v o5 out out2 out3 err err2 first (d, is, status, made) = (
    whole v,
    refl,
    refl,
    made_whole v o5 out out2 out3 err err2 first
        (subst (λ (x : StepEffect). Made n x (world (Some (summed_view words n summary v)) out2 err)
        (world o5 out3 err2)) (let same : d ≡ part (summed_view words n summary v) = cc in same) made),
  )
  whole_met (Err WriteFault) v o5 out out2 out3 err err2 first (inl un) =
      inl (uncommitted_whole v o5 out out2 out3 err err2 first un)
  whole_met (Err WriteFault) v o5 out out2 out3 err err2 first (inr (d, is, made)) =
      inr (
        whole v,
        refl,
        cut_whole v o5 out out2 out3 err err2 first
            (subst (λ (x : StepEffect). ReportCut n x (world (Some (summed_view words n summary v)) out2 err)
            (world o5 out3 err2)) (let same : d ≡ part (summed_view words n summary v) = cc in same) made),
      )
  whole_met (Err Memory) v o5 out out2 out3 err err2 first un = uncommitted_whole v o5 out out2 out3 err err2 first un
  whole_met (Err ReadFault) v o5 out out2 out3 err err2 first un = uncommitted_whole v o5 out out2 out3 err err2 first
      un
  whole_met (Err DiskFault) v o5 out out2 out3 err err2 first broken = interrupted_whole v o5 out out2 out3 err err2
      first broken
  whole_met (Err (Refused refusal)) v o5 out out2 out3 err err2 first met = absurd (let e = met.0 in cc)

  -- the summary itself failed
  pub un_summed : (v : View) (o2 o3 : Option View) (out out2 err : Option (List ℕ))
      → GivesSome out out2 (printed_summary words summary) → MakesSome (writes_l words) n summary (Some v) o2
      → Becomes (y_cleared (writes_l words) n) o2 o3 → Uncommitted n (whole v).new (whole v).text
      (world (Some v) out err) (world o3 out2 err)
  un_summed v o2 o3 out out2 err gives made gone =
      let cut = cut_view (writes_l words) (writes_g words) n summary text (stays_writable words) v o2 o3 made gone in
      record {
        view = cut.0;
        cleared = cut.1;
        out = some_longer out out2 (printed_summary words summary)
            (part v).text gives;
        err = refl;
      }

  pub broken_summed : (v : View) (o2 o3 : Option View) (out out2 err : Option (List ℕ))
      → GivesSome out out2 (printed_summary words summary) → MakesSome (writes_l words) n summary (Some v) o2
      → Moves (bytes_eq (y_file n)) (λ w. w) o2 o3 → Interrupted n (Ok (whole v)) (world (Some v) out err)
      (world o3 out2 err)
  broken_summed v o2 o3 out out2 err gives made moves = record {
    view = cut_broken (writes_l words) (writes_g words) n summary text (stays_writable words) v o2 o3 made moves;
    out = some_longer out out2 (printed_summary words summary) (part v).text gives;
    err = refl;
  }

  -- and was given up
  abbrev pub up_summed : (fault : StepFault) (v : View) (o2 o3 : Option View) (out out2 err : Option (List ℕ))
      → GivesSummary words n summary (Err fault) (world (Some v) out err) (world o2 out2 err)
      → Becomes (y_cleared (writes_l words) n) o2 o3 → Met (Err fault) (whole v) v o3 out out2 err err
  up_summed Memory v o2 o3 out out2 err gives gone = un_summed v o2 o3 out out2 err gives.1 gives.2 gone
  up_summed WriteFault v o2 o3 out out2 err gives gone = inl (un_summed v o2 o3 out out2 err gives.1 gives.2 gone)
  up_summed DiskFault v o2 o3 out out2 err gives gone = broken_summed v o2 o3 out out2 err gives.1 gives.2
      (up_moves (writes_l words) n o2 o3 gone)
  up_summed ReadFault v o2 o3 out out2 err gives gone = absurd gives.0
  up_summed (Refused refusal) v o2 o3 out out2 err gives gone = absurd gives.0

  -- where the disk failed then
  pub down_summed : (fault : StepFault) (v : View) (o2 o3 : Option View) (out out2 err : Option (List ℕ))
      → GivesSummary words n summary (Err fault) (world (Some v) out err) (world o2 out2 err)
      → Moves (bytes_eq (y_file n)) (λ w. w) o2 o3 → Met (Err DiskFault) (whole v) v o3 out out2 err err
  down_summed fault v o2 o3 out out2 err gives moves = broken_summed v o2 o3 out out2 err gives.1 gives.2 moves
