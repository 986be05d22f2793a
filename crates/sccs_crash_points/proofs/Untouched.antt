-- Calls that change files of a sound name that a step changes before its commit lose nothing.
use Rattle.std.specs.Prelude.{IsSome}
use Rattle.std.proofs.Common.{◌≡◌, ℕ, Bool, false, List, [], ◌∷◌, Option, None, Some, option_map, is_some, inl, inr}
use Rattle.std.proofs.Common.{refl, sym, ap, subst, ◌∙◌, ⊎_elim, arith}
use Rattle.std.specs.Str.{bytes_eq}
use Rattle.sccs_base.specs.Name.{IsSFileName, p_file, q_file, x_file, z_file}
use Rattle.sccs_disk.specs.Files.{Content, File, Model, View, view_of}
use Rattle.sccs_disk.specs.Images.{Allows, Image}
use Rattle.sccs_disk.specs.Told.{Told, Tells}
use Rattle.sccs_disk.proofs.Puts.{name_cases}
use Rattle.sccs_name_files.specs.StepFiles.{is_early, is_working}
use Rattle.sccs_name_files.specs.Touches.{Each, Touches, Touching, newest}
use Rattle.sccs_name_files.proofs.Touched.{each_newest}
use Rattle.sccs_pfile.specs.Recovered.{recovered_pfile}
use Rattle.sccs_intents.specs.Intents.{intent_file}
use Rattle.sccs_intents.specs.declared.intents.Fate.{Fate}
use Rattle.sccs_intents.specs.declared.intents.Fate.TheVariants.{Replaced}
use Rattle.sccs_crash_points.specs.Calm.{IsCalm, IsUnnamed, KeepsPairs}
use Rattle.sccs_crash_points.specs.CrashPoints.{EndsAfter, EndsBefore, EndsWithin, Guarded, IsAt, IsCalmAt, IsFrom}
use Rattle.sccs_crash_points.specs.CrashPoints.{Stays, Went}
use Rattle.sccs_crash_points.specs.Recovery.{IsSound, RecoversAs, fate_at, pair_of}
use Rattle.sccs_crash_points.specs.Unlocked.{KeptOthers, LeavesOthers, SameOthers}
use Rattle.sccs_crash_points.proofs.CalmDisks.{calm_firm, calm_kept}
use Rattle.sccs_crash_points.proofs.FileNames.{early_s, working_q, working_s, working_x}
use Rattle.sccs_crash_points.proofs.Joined.{numbered_as, numbered_now, numbered_zero, raised}
use Rattle.sccs_crash_points.proofs.Recovering.{early_alike, fate_same, p_of, pair_same, recovered_alike, recovered_at}
use Rattle.sccs_crash_points.proofs.Recovering.{recovers_from, recovers_then, recovers_to, s_of, same_recovers}
use Rattle.sccs_crash_points.proofs.Recovering.{sound_at}

-- ---- views

-- the same intent and the same pair: the name is sound there too
pub sound_kept : (n : List ℕ) (v w : View) → IsSound n v → w intent_file ≡ v intent_file → pair_of w n ≡ pair_of v n
    → IsSound n w
sound_kept n v w sound intent same = record {
  entries =
      ap (λ (o : Option Content). recovered_pfile o (w (p_file n))) (ap s_of same)
      ∙ (ap (λ (o : Option Content). recovered_pfile (v n) o) (ap p_of same) ∙ (sound.entries ∙ sym (ap p_of same)));
  unnamed = fate_same n v w intent ∙ sound.unnamed;
}

sound_alike : (n : List ℕ) (v w : View) → IsSound n v → w intent_file ≡ v intent_file → pair_of w n ≡ pair_of v n
    → recovered_at w n ≡ recovered_at v n
sound_alike n v w sound intent same = sound_at n w (sound_kept n v w sound intent same)
    ∙ (same ∙ sym (sound_at n v sound))

-- a view that has the files of one with the pairs of v, but for what a step changes before its commit
keeps_pairs : (n : List ℕ) (v u w : View) → IsSFileName n → IsSound n v → KeepsPairs v u
    → ((k : List ℕ) → is_early n k ≡ false → u k ≡ w k) → KeepsPairs v w
keeps_pairs n v u w sfile sound keeps same = record {
  intent = intent;
  pairs = pairs;
  recovers = recovers_from v w (λ k other. ⊎_elim (λ e. subst (λ l. recovered_at w l ≡ recovered_at v l) e
      (sound_alike n v w sound intent (pairs n sfile))) (λ apart. elsewhere k other apart) (name_cases n k));
}
  where
    intent : w intent_file ≡ v intent_file
    intent = sym (same intent_file refl) ∙ keeps.intent

    pairs : (k : List ℕ) → IsSFileName k → pair_of w k ≡ pair_of v k
    pairs k other = pair_same _ _ _ _ (sym (same k (early_s n k other)) ∙ ap s_of (keeps.pairs k other))
        (sym (same (p_file k) refl) ∙ ap p_of (keeps.pairs k other))

    elsewhere : (k : List ℕ) → IsSFileName k → bytes_eq n k ≡ false → recovered_at w k ≡ recovered_at v k
    elsewhere k other apart = recovered_alike k u w (early_alike n k u w sfile other apart (λ l h. sym (same l h)))
        ∙ recovers_to v u keeps.recovers k other

-- ---- crash points

pub view_touched : (mine : List ℕ → Bool) (m m2 : Model) (k : List ℕ) → Touches mine m m2 → mine k ≡ false
    → view_of m2 k ≡ view_of m k
view_touched mine m m2 k touches h = ap (option_map (λ (f : File). f.content)) (touches.files k h)

pair_touched : (mine : List ℕ → Bool) (m m2 : Model) (k : List ℕ) → Touches mine m m2 → mine k ≡ false
    → mine (p_file k) ≡ false → pair_of (view_of m2) k ≡ pair_of (view_of m) k
pair_touched mine m m2 k touches s p = pair_same _ _ _ _ (view_touched mine m m2 k touches s)
    (view_touched mine m m2 (p_file k) touches p)

-- no s-file and no p-file changes
pub guards_touched : (mine : List ℕ → Bool) (m : Model) (added : List Model) → ((k : List ℕ) → IsSFileName k
    → mine k ≡ false) → ((k : List ℕ) → IsSFileName k → mine (p_file k) ≡ false) → Each (Touches mine m) added m
    → Guarded added m
guards_touched mine m [] s p each = tt
guards_touched mine m (a ∷ added) s p each = (
  λ k sfile. inl (pair_touched mine m a k each.0 (s k sfile) (p k sfile)
      ∙ sym (pair_touched mine m (newest added m) k (each_newest (Touches mine m) added m each.1) (s k sfile)
      (p k sfile))),
  guards_touched mine m added s p each.1,
)

pub keeps_image : (n : List ℕ) (m m2 : Model) → IsSFileName n → IsCalm m → IsSound n (view_of m)
    → LeavesOthers (is_early n) m m2 → Allows (KeepsPairs (view_of m)) m2
keeps_image n m m2 sfile calm sound leaves = λ w image.
    let before : (u : View) × Image m u × SameOthers (is_early n) u w = leaves.images w image in
    keeps_pairs n (view_of m) before.0 w sfile sound (calm before.0 before.1) (λ k h. sym (before.2 k h))

-- the view after it, but for what it changes
pub view_left : (mine : List ℕ → Bool) (m m2 : Model) (k : List ℕ) → LeavesOthers mine m m2 → mine k ≡ false
    → view_of m2 k ≡ view_of m k
view_left mine m m2 k leaves h = ap (option_map (λ (f : File). f.content)) (leaves.files k h)

pair_left : (mine : List ℕ → Bool) (m m2 : Model) (k : List ℕ) → LeavesOthers mine m m2 → mine k ≡ false
    → mine (p_file k) ≡ false → pair_of (view_of m2) k ≡ pair_of (view_of m) k
pair_left mine m m2 k leaves s p = pair_same _ _ _ _ (view_left mine m m2 k leaves s)
    (view_left mine m m2 (p_file k) leaves p)

pub guards_left : (mine : List ℕ → Bool) (m : Model) (added : List Model) → ((k : List ℕ) → IsSFileName k
    → mine k ≡ false) → ((k : List ℕ) → IsSFileName k → mine (p_file k) ≡ false) → Each (LeavesOthers mine m) added m
    → Guarded added m
guards_left mine m [] s p each = tt
guards_left mine m (a ∷ added) s p each = (
  λ k sfile. inl (pair_left mine m a k each.0 (s k sfile) (p k sfile)
      ∙ sym (pair_left mine m (newest added m) k (each_newest (LeavesOthers mine m) added m each.1) (s k sfile)
      (p k sfile))),
  guards_left mine m added s p each.1,
)

-- From a calm disk on, each image of each moment has the old pairs.
abbrev pub stays_left : (n : List ℕ) (m : Model) (past : List Model) (new : Told) → IsSFileName n → IsCalm m
    → IsSound n (view_of m) → KeptOthers (is_early n) m past new → Stays (view_of m) m past new
stays_left n m past new sfile calm sound run = record {
  added = run.added;
  is = run.is;
  numbers = numbered_zero (LeavesOthers (is_early n) m) (λ i m2. Allows (KeepsPairs (view_of m)) m2) run.added m
      (λ m2 leaves. keeps_image n m m2 sfile calm sound leaves) run.each;
  guarded = guards_left (is_early n) m run.added (λ k other. early_s n k other) (λ k other. refl) run.each;
}

-- and the disk is calm
pub calm_stayed : (v : View) (m : Model) (past : List Model) (new : Told) → (went : Stays v m past new)
    → IsCalm (newest went.added m)
calm_stayed v m past new went = calm_kept v (newest went.added m) (numbered_now (λ i m2. Allows (KeepsPairs v) m2) 0
    went.added m 0 went.numbers)

-- a run that keeps the pairs is one at the number 0 of any step from the view
abbrev pub went_at : (v w : View) (m : Model) (past : List Model) (new : Told) → (went : Stays v m past new)
    → Went (IsAt v w) m past 0 new
went_at v w m past new went = record {
  added = went.added;
  is = went.is;
  numbers = numbered_as (λ i m2. Allows (KeepsPairs v) m2) (λ i m2. Allows (IsAt v w i) m2) 0 went.added m 0
      (λ i low m2 keeps u image. inr (omega (arith, low), (keeps u image).recovers)) went.numbers;
  guarded = went.guarded;
}

-- ---- where a step ends that changes nothing

-- nothing was done
pub same_before : (m : Model) (past : List Model) (t : Told) → IsCalm m → t ≡ Tells m past
    → EndsBefore (view_of m) m past t
same_before m past t calm is = (record { added = []; is = is; numbers = (omega arith, calm); guarded = tt }, calm)

-- it may count as made
pub before_after : (v : View) (m : Model) (past : List Model) (t : Told) → EndsBefore v m past t
    → EndsAfter v v m past t
before_after v m past t ends = (
  record {
    added = ends.0.added;
    is = ends.0.is;
    numbers =
        raised (λ i m2. Allows (IsAt v v i) m2) 0 ends.0.added m 0 1 (omega arith)
        (λ u image. inl ((numbered_now (λ i m2. Allows (KeepsPairs v) m2) 0 ends.0.added m 0 ends.0.numbers u
        image).recovers))
        (went_at v v m past t ends.0).numbers;
    guarded = ends.0.guarded;
  },
  ends.1,
)

-- the same, as the end of a step within which something failed
abbrev pub before_within : (v w : View) (m : Model) (past : List Model) (b : Told) → EndsBefore v m past b
    → EndsWithin v w m past b
before_within v w m past b ends = (went_at v w m past b ends.0, calm_firm (newest ends.0.added m) ends.1)

-- ---- working files alone

-- where an intent says nothing of a name it doesn't name it
pub none_named : (f : Option Fate) → f ≡ None → IsSome f → ⊥
none_named None e named = cc
none_named (Some fate) e named = cc

pub none_replaced : (f : Option Fate) → f ≡ None → f ≡ Some Replaced → ⊥
none_replaced None e named = cc
none_replaced (Some fate) e named = cc

-- two views that differ in working files of a name that no intent names recover alike
pub working_recovers : (n : List ℕ) (u w : View) → IsSFileName n → fate_at u n ≡ None
    → ((k : List ℕ) → is_working n k ≡ false → u k ≡ w k) → RecoversAs u w
working_recovers n u w sfile none same =
    same_recovers u w (sym (same intent_file refl)) (λ k other. sym (same k (working_s n k other)))
    (λ k other. sym (same (p_file k) refl)) (λ k other. ap is_some (sym (same (z_file k) refl)))
    (λ k other named. ⊎_elim (λ e. absurd (none_named (fate_at u k) (subst (λ l. fate_at u l ≡ None) e none) named))
    (λ apart. sym (same (x_file k) (working_x n k sfile other apart))) (name_cases n k))
    (λ k other named. ⊎_elim (λ e. absurd (none_replaced (fate_at u k) (subst (λ l. fate_at u l ≡ None) e none) named))
    (λ apart. sym (same (q_file k) (working_q n k sfile other apart))) (name_cases n k))

-- a folder that differs in working files from one that a stop leaves
pub from_touched : (n : List ℕ) (m m2 : Model) → IsSFileName n → IsUnnamed n m → Touches (is_working n) m m2
    → Allows (IsFrom m) m2
from_touched n m m2 sfile unnamed touches = λ w image.
    let before : (u : View) × Image m u × ((k : List ℕ) → is_working n k ≡ false → u k ≡ w k) =
    touches.images w image in
    (before.0, before.1, working_recovers n before.0 w sfile (unnamed before.0 before.1) before.2)

-- such a call leaves every pair in each image, whether the name is sound or not
working_keeps : (n : List ℕ) (m m2 : Model) → IsSFileName n → IsCalmAt n m → Touches (is_working n) m m2
    → Allows (KeepsPairs (view_of m)) m2
working_keeps n m m2 sfile at touches = λ w image.
    let before : (u : View) × Image m u × ((k : List ℕ) → is_working n k ≡ false → u k ≡ w k) =
    touches.images w image in
    let old : KeepsPairs (view_of m) before.0 = at.calm before.0 before.1 in
    record {
      intent = sym (before.2 intent_file refl) ∙ old.intent;
      pairs = λ k other. pair_same _ _ _ _ (sym (before.2 k (working_s n k other)) ∙ ap s_of (old.pairs k other))
          (sym (before.2 (p_file k) refl) ∙ ap p_of (old.pairs k other));
      recovers = recovers_then (view_of m) before.0 w old.recovers (working_recovers n before.0 w sfile
          (fate_same n (view_of m) before.0 old.intent ∙ at.unnamed) before.2);
    }

pub ends_working : (n : List ℕ) (m : Model) (past : List Model) (new : Told) → IsSFileName n → IsCalmAt n m
    → Touching (is_working n) m past new → EndsBefore (view_of m) m past new
ends_working n m past new sfile at run = (
  record {
    added = run.added;
    is = run.is;
    numbers = numbered_zero (Touches (is_working n) m) (λ i m2. Allows (KeepsPairs (view_of m)) m2) run.added m
        (λ m2 touches. working_keeps n m m2 sfile at touches) run.each;
    guarded = guards_touched (is_working n) m run.added (λ k other. working_s n k other) (λ k other. refl) run.each;
  },
  calm_kept (view_of m) (newest run.added m) (working_keeps n m (newest run.added m) sfile at
      (each_newest (Touches (is_working n) m) run.added m run.each)),
)
