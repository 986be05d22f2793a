-- A lock that fails on a name that was locked already loses nothing.
use Rattle.std.proofs.Common.{◌≡◌, ◌⊎◌, ℕ, true, false, List, [], ◌∷◌, Option, None, Some, is_some, inl, inr, refl, sym}
use Rattle.std.proofs.Common.{ap, subst, ◌∙◌, ⊎_elim, arith}
use Rattle.std.specs.Str.{bytes_eq}
use Rattle.sccs_base.specs.Name.{IsSFileName, p_file, q_file, x_file, z_file}
use Rattle.sccs_disk.specs.Calls.{Half}
use Rattle.sccs_disk.specs.Effects.{created, creating, empty_file}
use Rattle.sccs_disk.specs.Files.{Model, View, IsSane, view_of}
use Rattle.sccs_disk.specs.Images.{Allows, Full, Image}
use Rattle.sccs_disk.specs.Told.{Told, Tells, seen}
use Rattle.sccs_disk.proofs.Puts.{name_cases, put_same}
use Rattle.sccs_name_files.specs.Touches.{TellsSane}
use Rattle.sccs_name_files.proofs.Images.{image_created, view_image}
use Rattle.sccs_name_files.proofs.Touched.{touches_created}
use Rattle.sccs_intents.specs.Intents.{intent_file}
use Rattle.sccs_intents.specs.declared.intents.Fate.{Fate}
use Rattle.sccs_crash_points.specs.Calm.{IsCalm, KeepsPairs}
use Rattle.sccs_crash_points.specs.CrashPoints.{EndsBefore}
use Rattle.sccs_crash_points.specs.Recovery.{fate_at, pair_of}
use Rattle.sccs_crash_points.specs.Unlocked.{IsHeldIn, KeepsHeldIn, KeptHeld}
use Rattle.sccs_crash_points.proofs.CalmDisks.{calm_kept, full_there}
use Rattle.sccs_crash_points.proofs.FileNames.{from_sfile, siblings_differ}
use Rattle.sccs_crash_points.proofs.Recovering.{as_same, fate_same, p_of, pair_same, recovered_alike, recovered_at}
use Rattle.sccs_crash_points.proofs.Recovering.{recovered_same, recovered_under, recovers_from, recovers_to, s_of}
use Rattle.sccs_crash_points.proofs.Untouched.{same_before}
use Rattle.sccs_store.specs.Stops.{KeepsHeld}

-- a view that differs from another in the z-file of a name alone, where that is there as before
held_keeps : (n : List ℕ) (v u w : View) → IsSFileName n → is_some (v (z_file n)) ≡ true → is_some (w (z_file n)) ≡ true
    → KeepsPairs v u → ((k : List ℕ) → bytes_eq (z_file n) k ≡ false → u k ≡ w k) → KeepsPairs v w
held_keeps n v u w sfile there still keeps same = record {
  intent = intent;
  pairs = pairs;
  recovers = recovers_from v w (λ k other. ⊎_elim (λ e. subst (λ l. recovered_at w l ≡ recovered_at v l) e
      (own (fate_at v n) refl)) (λ apart. elsewhere k other apart) (name_cases n k));
}
  where
    intent : w intent_file ≡ v intent_file
    intent = sym (same intent_file refl) ∙ keeps.intent

    pairs : (k : List ℕ) → IsSFileName k → pair_of w k ≡ pair_of v k
    pairs k other = pair_same _ _ _ _ (sym (same k (from_sfile 122 n k other refl)) ∙ ap s_of (keeps.pairs k other))
        (sym (same (p_file k) refl) ∙ ap p_of (keeps.pairs k other))

    own : (f : Option Fate) → fate_at v n ≡ f → recovered_at w n ≡ recovered_at v n
    own None is =
        recovered_under n w None (fate_same n v w intent ∙ is)
        ∙ (recovered_same (w n) (v n) (w (p_file n)) (v (p_file n)) (is_some (w (z_file n))) (is_some (v (z_file n)))
        (ap s_of (pairs n sfile)) (ap p_of (pairs n sfile)) (still ∙ sym there)
        ∙ sym (recovered_under n v None is))
    own (Some fate) is =
        recovered_under n w (Some fate) (fate_same n v w intent ∙ is)
        ∙ (as_same (Some fate) (w n) (u n) (w (p_file n)) (u (p_file n)) (w (x_file n)) (u (x_file n)) (w (q_file n))
        (u (q_file n)) true true
        (sym (same n (from_sfile 122 n n sfile refl))) (sym (same (p_file n) refl)) refl
        (λ named. sym (same (x_file n) refl)) (λ named. sym (same (q_file n) refl))
        ∙ (sym (recovered_under n u (Some fate) (fate_same n v u keeps.intent ∙ is))
        ∙ recovers_to v u keeps.recovers n sfile))

    elsewhere : (k : List ℕ) → IsSFileName k → bytes_eq n k ≡ false → recovered_at w k ≡ recovered_at v k
    elsewhere k other apart =
        recovered_alike k u w (record {
          fate = fate_same k u w (sym (same intent_file refl));
          s = sym (same k (from_sfile 122 n k other refl));
          p = sym (same (p_file k) refl);
          z = ap is_some (sym (same (z_file k) (siblings_differ 122 n k sfile other apart)));
          x = λ named. sym (same (x_file k) refl);
          q = λ named. sym (same (q_file k) refl);
        })
        ∙ recovers_to v u keeps.recovers k other

created_keeps : (n : List ℕ) (m : Model) → IsSFileName n → IsSane m → IsCalm m → is_some (view_of m (z_file n)) ≡ true
    → is_some (view_of (created (z_file n) m) (z_file n)) ≡ true → Allows (KeepsPairs (view_of m))
    (created (z_file n) m)
created_keeps n m sfile sane calm there still = λ w image. ⊎_elim (λ old. calm w old) (λ full. whole w image full)
    (image_created (z_file n) m w sane image)
  where
    whole : (w : View) → Image (created (z_file n) m) w → Full (created (z_file n) m) w → KeepsPairs (view_of m) w
    whole w image full =
        let before : (u : View) × Image m u × ((k : List ℕ) → bytes_eq (z_file n) k ≡ false → u k ≡ w k) =
        (touches_created (z_file n) m sane).images w image in
        held_keeps n (view_of m) before.0 w sfile there (full_there (created (z_file n) m) w full (z_file n) ∙ still)
        (calm before.0 before.1) before.2

-- the z-file is there still
still_there : (z : List ℕ) (m m2 : Model) (old new : Told) (past past2 : List Model) → old ≡ Tells m past
    → new ≡ Tells m2 past2 → is_some (view_of m z) ≡ true → Half (creating z) old new → is_some (view_of m2 z) ≡ true
still_there z m m2 old new past past2 is now there half = by half.view
  where
    before : seen old ≡ Some (view_of m)
    before = ap seen is

    after : seen new ≡ Some (view_of m2)
    after = ap seen now

    view_is : (u v : View) → Some u ≡ Some v → u ≡ v
    view_is u v e = cc

    by : (seen new ≡ seen old) ⊎ ((v w : View) × (seen old ≡ Some v) × (seen new ≡ Some w) × (creating z).half_view v w)
        → is_some (view_of m2 z) ≡ true
    by (inl same) = ap (λ (v : View). is_some (v z)) (view_is (view_of m2) (view_of m) (sym after ∙ (same ∙ before)))
        ∙ there
    by (inr (v, w, old_is, new_is, made)) = ap (λ (u : View). is_some (u z)) (view_is (view_of m2) w (sym after
        ∙ new_is) ∙ made) ∙ ap is_some (put_same v z (Some empty_file))

pub held_ends : (n : List ℕ) (old new : Told) → IsSFileName n → TellsSane old → Half (creating (z_file n)) old new
    → KeepsHeld n old new
held_ends n old new sfile sane half = λ m past is calm there. by m past is calm there (half.model m past is)
  where
    made : (m m2 : Model) (past : List Model) → IsCalm m → new ≡ Tells m2 (m ∷ past)
        → Allows (KeepsPairs (view_of m)) m2 → EndsBefore (view_of m) m past new
    made m m2 past calm now keeps = (
      record {
        added = m2 ∷ [];
        is = now;
        numbers = (keeps, (0, omega arith, (omega arith, calm)));
        guarded = (λ k other. inl ((keeps (view_of m2) (view_image m2)).pairs k other), tt);
      },
      calm_kept (view_of m) m2 keeps,
    )

    by : (m : Model) (past : List Model) → old ≡ Tells m past → IsCalm m → is_some (view_of m (z_file n)) ≡ true
        → (new ≡ old) ⊎ ((m2 : Model) × (new ≡ Tells m2 (m ∷ past)) × (creating (z_file n)).half m m2)
        → EndsBefore (view_of m) m past new
    by m past is calm there (inl same) = same_before m past new calm (same ∙ is)
    by m past is calm there (inr (m2, now, is_made)) =
        let still : is_some (view_of (created (z_file n) m) (z_file n)) ≡ true =
        subst (λ (x : Model). is_some (view_of x (z_file n)) ≡ true) is_made
        (still_there (z_file n) m m2 old new past (m ∷ past) is now there half) in
        made m m2 past calm now (subst (λ (x : Model). Allows (KeepsPairs (view_of m)) x) (sym is_made)
        (created_keeps n m sfile (sane m past is) calm there still))

-- the z-file of a held name is there in whatever a stop leaves
created_held : (n : List ℕ) (m : Model) → IsSane m → is_some (view_of (created (z_file n) m) (z_file n)) ≡ true
    → IsHeldIn n m → IsHeldIn n (created (z_file n) m)
created_held n m sane still held = λ w image. ⊎_elim (λ old. held w old)
    (λ full. full_there (created (z_file n) m) w full (z_file n) ∙ still) (image_created (z_file n) m w sane image)

pub held_stays : (n : List ℕ) (old new : Told) → TellsSane old → Half (creating (z_file n)) old new
    → KeepsHeldIn n old new
held_stays n old new sane half = λ m past is held. by m past is held (half.model m past is)
  where
    by : (m : Model) (past : List Model) → old ≡ Tells m past → IsHeldIn n m → (new ≡ old)
        ⊎ ((m2 : Model) × (new ≡ Tells m2 (m ∷ past)) × (creating (z_file n)).half m m2) → KeptHeld n m past new
    by m past is held (inl same) = record { added = []; is = same ∙ is; each = held }
    by m past is held (inr (m2, now, is_made)) =
        let still : is_some (view_of (created (z_file n) m) (z_file n)) ≡ true =
        subst (λ (x : Model). is_some (view_of x (z_file n)) ≡ true) is_made
        (still_there (z_file n) m m2 old new past (m ∷ past) is now (held (view_of m) (view_image m)) half) in
        record {
          added = m2 ∷ [];
          is = now;
          each =
              (subst (λ (x : Model). IsHeldIn n x) (sym is_made) (created_held n m (sane m past is) still held), held);
        }
