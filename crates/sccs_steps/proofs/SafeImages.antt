-- Names that are safe in what a stop leaves.
use Rattle.std.proofs.Common.{◌≡◌, ◌⊎◌, ℕ, Bool, true, false, cond, List, [], ◌∷◌, ◌++◌, drop, Option, None, Some}
use Rattle.std.proofs.Common.{is_some, inl, inr, refl, sym, ap, subst, ◌∙◌, ⊎_elim}
use Rattle.std.proofs.lemmas.List.{append_cancel_right}
use Rattle.std.specs.Prelude.{IsSome}
use Rattle.sccs_base.specs.Name.{IsSFileName, p_file, z_file}
use Rattle.sccs_disk.specs.Files.{Content, Model, View, view_of}
use Rattle.sccs_disk.specs.Images.{Allows, Image}
use Rattle.sccs_disk.specs.Told.{Nothing, Shows, Told, Tells}
use Rattle.sccs_disk.proofs.Puts.{name_cases}
use Rattle.sccs_name_files.specs.StepFiles.{Files, moved}
use Rattle.sccs_name_files.specs.Touches.{Each, earlier, newest}
use Rattle.sccs_name_files.proofs.Images.{view_image}
use Rattle.sccs_name_files.proofs.Touched.{each_newest}
use Rattle.sccs_intents.specs.declared.intents.Fate.{Fate}
use Rattle.sccs_pfile.specs.Recovered.{recovered_pfile}
use Rattle.sccs_pfile.proofs.Recovering.{twice_once}
use Rattle.sccs_crash_points.specs.Calm.{IsCalm, KeepsPairs}
use Rattle.sccs_crash_points.specs.CrashPoints.{EndsAfter, EndsBefore, EndsWithin, IsAt, Numbered}
use Rattle.sccs_crash_points.specs.Recovery.{IsSound, RecoversAs, fate_at, is_kept}
use Rattle.sccs_crash_points.specs.Unlocked.{IsHeldIn, KeptHeld, KeptOthers, LeavesOthers, is_own}
use Rattle.sccs_crash_points.proofs.Recovering.{fate_same, p_of, recovered, recovered_under, recovers_to, s_of}
use Rattle.sccs_steps.specs.Actions.{Action, KeepsFiles}
use Rattle.sccs_steps.specs.ListStops.{KeepsSafeFrom}
use Rattle.sccs_steps.specs.StepStops.{IsSafe, IsSafeFor}
use Rattle.sccs_steps.specs.Unlocked.{StepOthers}
use Rattle.sccs_steps.proofs.Carried.{moved_others, named_held, others_fate, others_look}
use Rattle.sccs_steps.proofs.Safety.{none_of, pair_paired, pair_settled, same_safe}
use Rattle.sccs_crash_points.proofs.Joined.{each_then, story_of}

-- ---- what recovers alike has the same safe names

-- the p-file that recovery leaves stays
left_sound : (n : List ℕ) (v : View) (z : Bool) → is_some (v (z_file n)) ≡ z → IsSafe n v
    → recovered_pfile (v n) (cond z (recovered_pfile (v n) (v (p_file n))) (v (p_file n))) ≡ cond z
    (recovered_pfile (v n) (v (p_file n))) (v (p_file n))
left_sound n v true is safe = twice_once (v n) (v (p_file n))
left_sound n v false is safe = (safe.sound (none_of (v (z_file n)) is)).entries

sound_by : (n : List ℕ) (v u : View) (f : Option Fate) → IsSFileName n → RecoversAs v u → fate_at v n ≡ f
    → fate_at u n ≡ f → (IsSome f → IsSome (u (z_file n))) → IsSafe n v → u (z_file n) ≡ None → IsSound n u
sound_by n v u (Some fate) sfile recovers old new held safe none = absurd (let there = held refl in
    let e : false ≡ true = sym (ap is_some none) ∙ there in cc)
sound_by n v u None sfile recovers old new held safe none =
    let both : recovered (u n) (u (p_file n)) (is_some (u (z_file n))) ≡ recovered (v n) (v (p_file n))
    (is_some (v (z_file n))) =
    sym (recovered_under n u None new) ∙ (recovers_to v u recovers n sfile ∙ recovered_under n v None old) in
    let s : u n ≡ v n = ap s_of both in
    let p : cond (is_some (u (z_file n))) (recovered_pfile (u n) (u (p_file n))) (u (p_file n)) ≡ cond
    (is_some (v (z_file n))) (recovered_pfile (v n) (v (p_file n))) (v (p_file n)) = ap p_of both in
    let now : u (p_file n) ≡ cond (is_some (v (z_file n))) (recovered_pfile (v n) (v (p_file n))) (v (p_file n)) =
    sym (ap (λ (o : Option Content). cond (is_some o) (recovered_pfile (u n) (u (p_file n))) (u (p_file n))) none)
    ∙ p in
    record {
      entries = ap (λ (o : Option Content). recovered_pfile o (u (p_file n))) s ∙ (ap (recovered_pfile (v n)) now
          ∙ (left_sound n v (is_some (v (z_file n))) refl safe ∙ sym now));
      unnamed = new;
    }

-- where the intent says the same of the name, and its z-file is there if it is named
pub recovers_safe : (n : List ℕ) (v u : View) → IsSFileName n → RecoversAs v u → fate_at u n ≡ fate_at v n
    → (IsSome (fate_at v n) → IsSome (u (z_file n))) → IsSafe n v → IsSafe n u
recovers_safe n v u sfile recovers fate held safe = record {
  plain = safe.plain;
  sound = λ none. sound_by n v u (fate_at v n) sfile recovers refl fate held safe none;
  paired = pair_paired n v u (recovers n sfile) safe.paired;
  settled = pair_settled n v u (recovers n sfile) safe.settled;
}

-- ---- crash points

pub numbered_each : (P : ℕ → View → Type 0) (Q : View → Type 0) (low : ℕ) (added : List Model) (m : Model) (j : ℕ)
    → ((i : ℕ) (w : View) → P i w → Q w) → Numbered (λ i m2. Allows (P i) m2) low added m j → Each (Allows Q) added m
numbered_each P Q low [] m j as_q numbers = λ w image. as_q j w (numbers.1 w image)
numbered_each P Q low (a ∷ added) m j as_q numbers =
    (λ w image. as_q j w (numbers.0 w image), numbered_each P Q low added m numbers.1.0 as_q numbers.1.2)

pub each_as : (P Q : View → Type 0) (added : List Model) (m : Model) → ((w : View) → P w → Q w)
    → Each (Allows P) added m → Each (Allows Q) added m
each_as P Q [] m as_q each = λ w image. as_q w (each w image)
each_as P Q (a ∷ added) m as_q each = (λ w image. as_q w (each.0 w image), each_as P Q added m as_q each.1)

-- a disk to which nothing was done
pub images_now : (m : Model) → Allows (KeepsSafeFrom m) m
images_now m = λ u image n sfile all. all u image

-- on a calm disk a name that is safe in the view is safe in whatever a stop leaves, where it is held if an intent names
-- it
pub calm_safe : (n : List ℕ) (m : Model) → IsSFileName n → IsCalm m → (IsSome (fate_at (view_of m) n) → IsHeldIn n m)
    → IsSafe n (view_of m) → Allows (IsSafe n) m
calm_safe n m sfile calm held safe = λ u image. recovers_safe n (view_of m) u sfile (calm u image).recovers
    (fate_same n (view_of m) u (calm u image).intent) (λ named. held named u image) safe

-- one list behind another
pub images_then : (later added : List Model) (m : Model) → Each (Allows (KeepsSafeFrom m)) added m
    → Each (Allows (KeepsSafeFrom (newest added m))) later (newest added m) → Each (Allows (KeepsSafeFrom m))
    (later ++ added) m
images_then later added m first next =
    each_then (Allows (KeepsSafeFrom m)) later added m first
    (each_as (KeepsSafeFrom (newest added m)) (KeepsSafeFrom m) later (newest added m)
    (λ w keeps n sfile all. keeps n sfile (λ u image. each_newest (Allows (KeepsSafeFrom m)) added m first u image n
    sfile all)) next)

each_both : (P Q R : Model → Type 0) (added : List Model) (m : Model) → ((m2 : Model) → P m2 → Q m2 → R m2)
    → Each P added m → Each Q added m → Each R added m
each_both P Q R [] m both one two = both m one two
each_both P Q R (a ∷ added) m both one two = (both a one.0 two.0, each_both P Q R added m both one.1 two.1)

-- what holds of each moment under a premise
each_under : (A : Type 0) (P : Model → Type 0) (added : List Model) (m : Model) → (A → Each P added m)
    → Each (λ m2. A → P m2) added m
each_under A P [] m holds = λ a. holds a
each_under A P (b ∷ added) m holds = (λ a. (holds a).0, each_under A P added m (λ a. (holds a).1))

-- ---- the crash points of a call are those that are told

abbrev models : Told → List Model
models Nothing = []
models (Shows v) = []
models (Tells m past) = m ∷ past

pub told_once : (xs ys : List Model) (m : Model) (past : List Model) (t : Told) → t ≡ Tells (newest xs m)
    (earlier xs m past) → t ≡ Tells (newest ys m) (earlier ys m past) → xs ≡ ys
told_once xs ys m past t one two =
    append_cancel_right xs ys (m ∷ past) (sym (story_of xs m past) ∙ (ap models (sym one ∙ two) ∙ story_of ys m past))

-- ---- the crash points of a step

-- a folder that recovers as before the step, or as after it, where the name is safe
abbrev pub AtStep : Action → List ℕ → View → View → View → Type 0
AtStep x n v w u = RecoversAs v u ⊎ (RecoversAs w u × IsSafeFor x n w)

-- What is known of what a stop leaves of a step that changes files: it has the files of other names, and a name that is
-- held.
record StepImage (x : Action) (n : List ℕ) (m : Model) (w u : View) : Type 0 where
  at : AtStep x n (view_of m) w u
  before : View
  image : Image m before
  same : (k : List ℕ) → is_own n k ≡ false → u k ≡ before k
  held : IsSome (fate_at (view_of m) n) → IsHeldIn n m → IsSome (u (z_file n))

step_image : (x : Action) (n : List ℕ) (m : Model) (w u : View) → IsSFileName n → x.reads ≡ false → IsCalm m
    → IsSafeFor x n (view_of m) → fate_at w n ≡ fate_at (view_of m) n → StepImage x n m w u → KeepsSafeFrom m u
step_image x n m w u sfile changes calm may same_w known = λ k other all.
    ⊎_elim (λ e. subst (λ l. Allows (IsSafe l) m → IsSafe l u) e own all)
    (λ apart. same_safe k known.before u other (others_look n k known.before u sfile other plain apart known.same)
    (all known.before known.image)) (name_cases n k)
  where
    plain : is_kept (drop 2 n) ≡ false
    plain = (may changes).plain

    fate : fate_at u n ≡ fate_at (view_of m) n
    fate = others_fate n n known.before u sfile plain known.same ∙ fate_same n (view_of m) known.before
        (calm known.before known.image).intent

    held : Allows (IsSafe n) m → IsSome (fate_at (view_of m) n) → IsSome (u (z_file n))
    held all named = known.held named (λ t image. named_held n t (all t image) (subst (λ (f : Option Fate). IsSome f)
        (sym (fate_same n (view_of m) t (calm t image).intent)) named))

    own : Allows (IsSafe n) m → IsSafe n u
    own all =
        ⊎_elim (λ old. recovers_safe n (view_of m) u sfile old fate (held all) (all (view_of m) (view_image m)))
        (λ new. recovers_safe n w u sfile new.0 (fate ∙ sym same_w)
        (λ named. held all (subst (λ (f : Option Fate). IsSome f) same_w named)) (new.1 changes)) known.at

-- what was said of each moment
moment_known : (x : Action) (n : List ℕ) (m m2 : Model) (w : View) → Allows (AtStep x n (view_of m) w) m2
    → LeavesOthers (is_own n) m m2 → (IsSome (fate_at (view_of m) n) × IsHeldIn n m → IsHeldIn n m2)
    → Allows (StepImage x n m w) m2
moment_known x n m m2 w at others held = λ u image. (let old = others.images u image in
    record {
      at = at u image;
      before = old.0;
      image = old.1;
      same = old.2;
      held =
          λ named there. held (named, there) u image;
    })

pub step_images : (x : Action) (n : List ℕ) (a b : Told) (m : Model) (past : List Model) (new : Option Files)
    (added : List Model) → KeepsFiles x → x.fits n ≡ true → IsCalm m → IsSafeFor x n (view_of m) → a ≡ Tells m past
    → (x.reads ≡ true → b ≡ a) → StepOthers x n a b
    → b ≡ Tells (newest added m) (earlier added m past)
    → Each (Allows (AtStep x n (view_of m) (moved (view_of m) n new))) added m
    → Each (Allows (KeepsSafeFrom m)) added m
step_images x n a b m past new added keeps fits calm may told same leaves is at = by x.reads refl
  where
    by : (r : Bool) → x.reads ≡ r → Each (Allows (KeepsSafeFrom m)) added m
    by true reads = subst (λ (xs : List Model). Each (Allows (KeepsSafeFrom m)) xs m) (told_once [] added m past b
        (same reads ∙ told) is) (images_now m)
    by false changes = changed (leaves.0 changes m past told)
      where
        sfile : IsSFileName n
        sfile = keeps.names changes n fits

        fate : fate_at (moved (view_of m) n new) n ≡ fate_at (view_of m) n
        fate = others_fate n n (view_of m) (moved (view_of m) n new) sfile (may changes).plain
            (moved_others n (view_of m) new)

        kept_held : IsSome (fate_at (view_of m) n) × IsHeldIn n m → Each (IsHeldIn n) added m
        kept_held premise = held_on (leaves.1 changes m past told premise.0 premise.1)
          where
            held_on : KeptHeld n m past b → Each (IsHeldIn n) added m
            held_on kept = subst (λ (xs : List Model). Each (IsHeldIn n) xs m)
                (told_once kept.added added m past b kept.is is) kept.each

        changed : KeptOthers (is_own n) m past b → Each (Allows (KeepsSafeFrom m)) added m
        changed kept =
            let others : Each (LeavesOthers (is_own n) m) added m =
            subst (λ (xs : List Model). Each (LeavesOthers (is_own n) m) xs m)
            (told_once kept.added added m past b kept.is is) kept.each in
            let w : View = moved (view_of m) n new in
            each_both (λ m2. Allows (AtStep x n (view_of m) w) m2 × LeavesOthers (is_own n) m m2)
            (λ m2. IsSome (fate_at (view_of m) n) × IsHeldIn n m → IsHeldIn n m2) (Allows (KeepsSafeFrom m)) added m
            (λ m2 known held u image. step_image x n m w u sfile changes calm may fate
            (moment_known x n m m2 w known.0 known.1 held u image))
            (each_both (Allows (AtStep x n (view_of m) w)) (LeavesOthers (is_own n) m)
            (λ m2. Allows (AtStep x n (view_of m) w) m2 × LeavesOthers (is_own n) m m2) added m
            (λ m2 one two. (one, two)) at others)
            (each_under (IsSome (fate_at (view_of m) n) × IsHeldIn n m) (IsHeldIn n) added m kept_held)

-- ---- where a step ends

pub recovers_before : (v : View) (m : Model) (past : List Model) (t : Told) → (ends : EndsBefore v m past t)
    → Each (Allows (RecoversAs v)) ends.0.added m
recovers_before v m past t ends = numbered_each (λ i w. KeepsPairs v w) (RecoversAs v) 0 ends.0.added m 0
    (λ i w keeps. keeps.recovers) ends.0.numbers

pub at_before : (x : Action) (n : List ℕ) (v w : View) (m : Model) (past : List Model) (t : Told)
    → (ends : EndsBefore v m past t) → Each (Allows (AtStep x n v w)) ends.0.added m
at_before x n v w m past t ends = each_as (RecoversAs v) (AtStep x n v w) ends.0.added m (λ u recovers. inl recovers)
    (recovers_before v m past t ends)

at_now : (x : Action) (n : List ℕ) (v w u : View) (i : ℕ) → IsSafeFor x n w → IsAt v w i u → AtStep x n v w u
at_now x n v w u i safe (inl new) = inr (new, safe)
at_now x n v w u i safe (inr old) = inl old.1

pub at_after : (x : Action) (n : List ℕ) (v w : View) (m : Model) (past : List Model) (t : Told)
    → (ends : EndsAfter v w m past t) → IsSafeFor x n w → Each (Allows (AtStep x n v w)) ends.0.added m
at_after x n v w m past t ends safe = numbered_each (IsAt v w) (AtStep x n v w) 0 ends.0.added m 1
    (λ i u at. at_now x n v w u i safe at) ends.0.numbers

pub at_within : (x : Action) (n : List ℕ) (v w : View) (m : Model) (past : List Model) (t : Told)
    → (ends : EndsWithin v w m past t) → IsSafeFor x n w ⊎ Each (Allows (RecoversAs v)) ends.0.added m
    → Each (Allows (AtStep x n v w)) ends.0.added m
at_within x n v w m past t ends (inl safe) = numbered_each (IsAt v w) (AtStep x n v w) 0 ends.0.added m 0
    (λ i u at. at_now x n v w u i safe at) ends.0.numbers
at_within x n v w m past t ends (inr old) = each_as (RecoversAs v) (AtStep x n v w) ends.0.added m
    (λ u recovers. inl recovers) old
