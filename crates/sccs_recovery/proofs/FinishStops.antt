-- What a stop leaves of finishing a group.
use Rattle.std.proofs.Common.{◌≡◌, ℕ, Bool, false, List, [], ◌∷◌, map, Option, IsSome, is_some, inl, refl, sym, ap}
use Rattle.std.proofs.Common.{subst, ◌∙◌, ⊎_elim, arith}
use Rattle.std.specs.List.{AllByRecursion}
use Rattle.std.specs.Str.{bytes_eq}
use Rattle.sccs_base.specs.Name.{IsSFileName, p_file, q_file, x_file, z_file, sfile_name_decides}
use Rattle.sccs_disk.specs.Files.{Content, Model, View, view_of}
use Rattle.sccs_disk.specs.Images.{Allows, Image}
use Rattle.sccs_disk.specs.Told.{Told}
use Rattle.sccs_disk.proofs.Puts.{name_cases}
use Rattle.sccs_name_files.specs.Touches.{Each, Touches, Touching, newest}
use Rattle.sccs_name_files.proofs.Images.{view_image}
use Rattle.sccs_name_files.proofs.Touched.{each_newest}
use Rattle.sccs_intents.specs.Intents.{AreOthers, entries_in, fate_in, intent_file, plan_file}
use Rattle.sccs_intents.specs.declared.intents.IntentEntry.{IntentEntry}
use Rattle.sccs_intents.specs.declared.intents.Fate.{Fate}
use Rattle.sccs_crash_points.specs.Calm.{IsCalm, KeepsPairs}
use Rattle.sccs_crash_points.specs.CrashPoints.{EndsAfter, EndsBefore, EndsWithin, IsAt, IsFrom, Stays}
use Rattle.sccs_crash_points.specs.Recovery.{RecoversAs, fate_at, IsHeldAt}
use Rattle.sccs_crash_points.proofs.CalmDisks.{calm_firm}
use Rattle.sccs_crash_points.proofs.Joined.{numbered_zero, raised, each_by}
use Rattle.sccs_crash_points.proofs.Recovering.{fate_same, p_of, pair_same, recovered_alike, recovers_from}
use Rattle.sccs_crash_points.proofs.Recovering.{recovers_then, s_of}
use Rattle.sccs_crash_points.proofs.Untouched.{calm_stayed, guards_touched}
use Rattle.sccs_steps.specs.ListStops.{AreSafe, KeepsSafeFrom, Spares}
use Rattle.sccs_steps.specs.StepStops.{IsSafe}
use Rattle.sccs_steps.proofs.Carried.{named_held}
use Rattle.sccs_steps.proofs.Safety.{alike_safe, safe_by}
use Rattle.sccs_name_files.specs.StepFiles.{Alike}
use Rattle.sccs_group.specs.Finishing.{CanFinish, Completes, Finishes, Follows}
use Rattle.sccs_group.proofs.Closing.{fate_tail}
use Rattle.sccs_recovery.specs.FinishStep.{finishing_action, name_part}
use Rattle.sccs_crash_points.proofs.FileNames.{plan_and_sfile}

-- ---- the plan alone

-- a view that differs in the plan alone recovers alike
pub plan_recovers : (u x : View) → ((k : List ℕ) → bytes_eq plan_file k ≡ false → u k ≡ x k) → RecoversAs u x
plan_recovers u x same =
    recovers_from u x (λ n sfile. recovered_alike n u x (record {
      fate = fate_same n u x (sym (same intent_file refl));
      s = sym (same n (plan_and_sfile n sfile));
      p = sym (same (p_file n) refl);
      z = ap is_some (sym (same (z_file n) refl));
      x = λ named. sym (same (x_file n) refl);
      q = λ named. sym (same (q_file n) refl);
    }))

plan_keeps : (v u x : View) → KeepsPairs v u → ((k : List ℕ) → bytes_eq plan_file k ≡ false → u k ≡ x k)
    → KeepsPairs v x
plan_keeps v u x keeps same = record {
  intent = sym (same intent_file refl) ∙ keeps.intent;
  pairs = λ n sfile. pair_same _ _ _ _ (sym (same n (plan_and_sfile n sfile)) ∙ ap s_of (keeps.pairs n sfile))
      (sym (same (p_file n) refl) ∙ ap p_of (keeps.pairs n sfile));
  recovers = recovers_then v u x keeps.recovers (plan_recovers u x same);
}

pub plan_image : (m m2 : Model) → IsCalm m → Touches (bytes_eq plan_file) m m2 → Allows (KeepsPairs (view_of m)) m2
plan_image m m2 calm touches = λ x image.
    let before : (u : View) × Image m u × ((k : List ℕ) → bytes_eq plan_file k ≡ false → u k ≡ x k) =
    touches.images x image in
    plan_keeps (view_of m) before.0 x (calm before.0 before.1) before.2

abbrev pub plan_stays : (m : Model) (past : List Model) (new : Told) → IsCalm m
    → Touching (bytes_eq plan_file) m past new → Stays (view_of m) m past new
plan_stays m past new calm run = record {
  added = run.added;
  is = run.is;
  numbers = numbered_zero (Touches (bytes_eq plan_file) m) (λ i m2. Allows (KeepsPairs (view_of m)) m2) run.added m
      (λ m2 touches. plan_image m m2 calm touches) run.each;
  guarded = guards_touched (bytes_eq plan_file) m run.added (λ n sfile. plan_and_sfile n sfile)
      (λ n sfile. refl) run.each;
}

abbrev pub plan_before : (m : Model) (past : List Model) (new : Told) → IsCalm m
    → Touching (bytes_eq plan_file) m past new → EndsBefore (view_of m) m past new
plan_before m past new calm run = (
  plan_stays m past new calm run,
  calm_stayed (view_of m) m past new
      (plan_stays m past new calm run),
)

-- a name that an intent names is held as before
plan_held : (n : List ℕ) (m m2 : Model) → Touches (bytes_eq plan_file) m m2 → Allows (IsHeldAt n) m
    → Allows (IsHeldAt n) m2
plan_held n m m2 touches all = λ x image named.
    let before : (u : View) × Image m u × ((k : List ℕ) → bytes_eq plan_file k ≡ false → u k ≡ x k) =
    touches.images x image in
    subst (λ (o : Option Content). IsSome o) (before.2 (z_file n) refl)
    (all before.0 before.1 (subst (λ (f : Option Fate). IsSome f)
    (fate_same n before.0 x (sym (before.2 intent_file refl))) named))

-- ---- names stay safe

-- an image that recovers as the view, and holds the names that were held
image_safe : (m : Model) (x : View) → RecoversAs (view_of m) x → ((n : List ℕ) → IsSFileName n → Allows (IsHeldAt n) m
    → IsHeldAt n x) → KeepsSafeFrom m x
image_safe m x recovers held = λ n sfile all. safe_by n (view_of m) x sfile recovers
    (held n sfile (λ u image. named_held n u (all u image))) (all (view_of m) (view_image m))

pub plan_images : (m : Model) (added : List Model) → IsCalm m → Each (Touches (bytes_eq plan_file) m) added m
    → Each (Allows (KeepsSafeFrom m)) added m
plan_images m added calm each =
    each_by (Touches (bytes_eq plan_file) m) (Allows (KeepsSafeFrom m)) added m (λ m2 touches x image. image_safe m x
    (plan_image m m2 calm touches x image).recovers (λ n sfile all. plan_held n m m2 touches all x image)) each

-- what follows a calm disk recovers as its view
pub follow_recovers : (m m2 : Model) → IsCalm m → Follows m m2 → Allows (RecoversAs (view_of m)) m2
follow_recovers m m2 calm follows = λ x image.
    let from : IsFrom m x = follows.images x image in
    recovers_then (view_of m) from.0 x (calm from.0 from.1).recovers from.2

pub follow_images : (m : Model) (added : List Model) → IsCalm m → Each (Follows m) added m
    → Each (Allows (KeepsSafeFrom m)) added m
follow_images m added calm each =
    each_by (Follows m) (Allows (KeepsSafeFrom m)) added m (λ m2 follows x image. image_safe m x
    (follow_recovers m m2 calm follows x image) (λ n sfile all. follows.held n sfile all x image)) each

-- ---- where it ends

pub at_view : (v : View) (j : ℕ) (m2 : Model) → Allows (RecoversAs v) m2 → Allows (IsAt v v j) m2
at_view v j m2 all = λ x image. inl (all x image)

abbrev pub within_of : (m : Model) (past : List Model) (new : Told) → IsCalm m → Finishes m past new
    → EndsWithin (view_of m) (view_of m) m past new
within_of m past new calm run = (
  record {
    added = run.added;
    is = run.is;
    numbers = numbered_zero (Follows m) (λ i m2. Allows (IsAt (view_of m) (view_of m) i) m2) run.added m
        (λ m2 follows. at_view (view_of m) 0 m2 (follow_recovers m m2 calm follows)) run.each;
    guarded = run.guarded;
  },
  run.can.firm,
)

abbrev pub after_of : (m : Model) (past : List Model) (new : Told) → IsCalm m → Completes m past new
    → EndsAfter (view_of m) (view_of m) m past new
after_of m past new calm done = (
  record {
    added = done.run.added;
    is = done.run.is;
    numbers =
        raised (λ i m2. Allows (IsAt (view_of m) (view_of m) i) m2) 0 done.run.added m 0 1 (omega arith)
        (at_view (view_of m) 1 (newest done.run.added m) (follow_recovers m (newest done.run.added m) calm
        (each_newest (Follows m) done.run.added m done.run.each)))
        (numbered_zero (Follows m) (λ i m2. Allows (IsAt (view_of m) (view_of m) i) m2) done.run.added m
        (λ m2 follows. at_view (view_of m) 0 m2 (follow_recovers m m2 calm follows)) done.run.each);
    guarded = done.run.guarded;
  },
  done.calm,
)

-- ---- where it may begin

-- what holds of each entry holds of a name that the intent names
entry_of_fate : (P : List ℕ → Type 0) (es : List IntentEntry) (n : List ℕ)
    → AllByRecursion (λ (e : IntentEntry). P e.name) es → IsSome (fate_in es n) → P n
entry_of_fate P [] n all named = absurd cc
entry_of_fate P (e ∷ es) n all named = with_rest P e es n all named (λ later. entry_of_fate P es n all.1 later)
  where
    with_rest : (P : List ℕ → Type 0) (e : IntentEntry) (es : List IntentEntry) (n : List ℕ)
        → AllByRecursion (λ (d : IntentEntry). P d.name) (e ∷ es) → IsSome (fate_in (e ∷ es) n)
        → (IsSome (fate_in es n) → P n) → P n
    with_rest P e es n all named rest =
        ⊎_elim (λ is. subst P is all.0) (λ apart. rest (subst (λ (f : Option Fate). IsSome f) (fate_tail e es n apart)
        named)) (name_cases e.name n)

-- each name of an intent is safe
pub are_safe : (es : List IntentEntry) (v : View) → AreOthers es → AreSafe finishing_action (map name_part es) v
    → AllByRecursion (λ (e : IntentEntry). IsSafe e.name v) es
are_safe [] v others safe = tt
are_safe (e ∷ es) v others safe = (
  safe.0 ((sfile_name_decides e.name).1 (others.0.name, others.0.sfile)) refl,
  are_safe es v others.1 safe.1,
)

named_safe : (v : View) (es : List IntentEntry) (n : List ℕ) → entries_in (v intent_file) ≡ es
    → AllByRecursion (λ (e : IntentEntry). IsSafe e.name v) es → IsSome (fate_at v n) → IsSafe n v
named_safe v es n is all named = entry_of_fate (λ l. IsSafe l v) es n all
    (subst (λ (l : List IntentEntry). IsSome (fate_in l n)) is named)

-- on a calm disk it may begin where each name of the intent is safe
pub can_finish : (w : List ℕ → Bool) (v : View) (es : List IntentEntry) (m : Model) → Spares w → Alike w (view_of m) v
    → RecoversAs v (view_of m) → IsCalm m → entries_in (v intent_file) ≡ es
    → AllByRecursion (λ (e : IntentEntry). IsSafe e.name v) es → CanFinish m
can_finish w v es m spares alike recovers calm is all = record {
  firm = calm_firm m calm;
  held = λ n sfile named. named_held n (view_of m) (now n sfile named) named;
  settled = λ n sfile named. (now n sfile named).settled;
}
  where
    now : (n : List ℕ) → IsSFileName n → IsSome (fate_at (view_of m) n) → IsSafe n (view_of m)
    now n sfile named =
        alike_safe w n v (view_of m) spares sfile (λ k h. sym (alike k h)) recovers (named_safe v es n is all
        (subst (λ (f : Option Fate). IsSome f) (fate_same n v (view_of m) (alike intent_file spares.intent)) named))
