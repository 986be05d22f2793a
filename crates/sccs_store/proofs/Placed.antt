-- A y-file put in the place of another file: what a stop leaves.
use Rattle.std.proofs.Common.{◌≡◌, ℕ, false, List, [], ◌∷◌, Option, None, is_some, inl, inr, refl, sym, ap, subst, ◌∙◌}
use Rattle.std.proofs.Common.{⊎_elim, arith}
use Rattle.std.specs.Str.{bytes_eq}
use Rattle.sccs_base.specs.Name.{IsSFileName, p_file, q_file, x_file, y_file, z_file}
use Rattle.sccs_disk.specs.Calls.{Done, Half}
use Rattle.sccs_disk.specs.Effects.{pended, renamed, renaming, settled, syncing_names}
use Rattle.sccs_disk.specs.Files.{Content, Model, Rename, View, put, view_of}
use Rattle.sccs_disk.specs.Images.{Allows, Full, Image}
use Rattle.sccs_disk.specs.Told.{Told, Tells}
use Rattle.sccs_disk.proofs.Puts.{put_other, put_same}
use Rattle.sccs_name_files.proofs.Images.{full_image, image_pended, image_settled, view_image}
use Rattle.sccs_name_files.proofs.Owned.{firm_stays}
use Rattle.sccs_intents.specs.Intents.{intent_file}
use Rattle.sccs_crash_points.specs.Calm.{IsCalm, KeepsPairs}
use Rattle.sccs_crash_points.specs.CrashPoints.{Guards}
use Rattle.sccs_crash_points.specs.Recovery.{is_kept}
use Rattle.sccs_crash_points.proofs.CalmDisks.{calm_kept}
use Rattle.sccs_crash_points.proofs.FileNames.{kept_intent, kept_p, kept_q, kept_s, kept_x, kept_z, no_y, working_s}
use Rattle.sccs_crash_points.proofs.Full.{full_renamed}
use Rattle.sccs_crash_points.proofs.Recovering.{pair_same, recovers_then, same_recovers}
use Rattle.sccs_store.specs.Placing.{CanPlace, EndsPlacing, HalfPlaces, IsPlacing, PlaceEnds, PlaceStops, Places}

-- ---- views

-- the same intent, and the same files at which recovery looks
pub record SameFiles (u w : View) : Type 0 where
  pub intent : w intent_file ≡ u intent_file
  pub s : (k : List ℕ) → IsSFileName k → w k ≡ u k
  pub p : (k : List ℕ) → IsSFileName k → w (p_file k) ≡ u (p_file k)
  pub z : (k : List ℕ) → IsSFileName k → w (z_file k) ≡ u (z_file k)
  pub x : (k : List ℕ) → IsSFileName k → w (x_file k) ≡ u (x_file k)
  pub q : (k : List ℕ) → IsSFileName k → w (q_file k) ≡ u (q_file k)

pub keeps_same : (v u w : View) → KeepsPairs v u → SameFiles u w → KeepsPairs v w
keeps_same v u w keeps same = record {
  intent = same.intent ∙ keeps.intent;
  pairs = λ k sfile. pair_same _ _ _ _ (same.s k sfile) (same.p k sfile) ∙ keeps.pairs k sfile;
  recovers = recovers_then v u w keeps.recovers
      (same_recovers u w same.intent same.s same.p (λ k sfile. ap is_some (same.z k sfile))
      (λ k sfile named. same.x k sfile) (λ k sfile named. same.q k sfile));
}

renamed_other : (a b : List ℕ) (u : View) (k : List ℕ) → bytes_eq a k ≡ false → bytes_eq b k ≡ false
    → renamed a b u k ≡ u k
renamed_other a b u k from to = put_other (put u a None) b k (u a) to ∙ put_other u a k None from

renamed_keeps : (n to : List ℕ) (v u : View) → is_kept to ≡ false → KeepsPairs v u
    → KeepsPairs v (renamed (y_file n) to u)
renamed_keeps n to v u plain keeps =
    keeps_same v u (renamed (y_file n) to u) keeps (record {
      intent = renamed_other (y_file n) to u intent_file refl (kept_intent to plain);
      s = λ k sfile. renamed_other (y_file n) to u k (no_y n k (working_s n k sfile)) (kept_s to k plain sfile);
      p = λ k sfile. renamed_other (y_file n) to u (p_file k) refl (kept_p to k plain sfile);
      z = λ k sfile. renamed_other (y_file n) to u (z_file k) refl (kept_z to k plain sfile);
      x = λ k sfile. renamed_other (y_file n) to u (x_file k) refl (kept_x to k plain sfile);
      q = λ k sfile. renamed_other (y_file n) to u (q_file k) refl (kept_q to k plain sfile);
    })

-- ---- images

old_image : (to : List ℕ) (m : Model) → IsCalm m → (new : Option Content) (w : View) → Image m w
    → IsPlacing to m new 0 w
old_image to m calm new w image = record { keeps = calm w image; state = inr (refl, (w, image, refl)) }

-- the model with the y-file over another file
abbrev placed : List ℕ → List ℕ → Model → Model
placed n to m = pended (Rename (y_file n) to) m

new_image : (n to : List ℕ) (m : Model) → CanPlace n to m → (j : ℕ) (w : View) → Full (placed n to m) w
    → IsPlacing to m (view_of m (y_file n)) j w
new_image n to m can j w full =
    let x : (u : View) × Full m u × (w ≡ renamed (y_file n) to u) = full_renamed (y_file n) to m w full in
    subst (λ (v : View). IsPlacing to m (view_of m (y_file n)) j v) (sym x.2) (record {
      keeps = renamed_keeps n to (view_of m) x.0 can.plain (can.calm x.0 (full_image m x.0 x.1));
      state = inl (put_same (put x.0 (y_file n) None) to (x.0 (y_file n))
          ∙ firm_stays (y_file n) m x.0 can.y_state x.1);
    })

placed_image : (n to : List ℕ) (m : Model) → CanPlace n to m → Allows (IsPlacing to m (view_of m (y_file n)) 0)
    (placed n to m)
placed_image n to m can w image =
    ⊎_elim (λ old. old_image to m can.calm (view_of m (y_file n)) w old) (λ full. new_image n to m can 0 w full)
    (image_pended (Rename (y_file n) to) m w image)

settled_image : (n to : List ℕ) (m : Model) → CanPlace n to m → (j : ℕ)
    → Allows (IsPlacing to m (view_of m (y_file n)) j) (settled (placed n to m))
settled_image n to m can j w image = new_image n to m can j w (image_settled (placed n to m) w image)

placed_guards : (n to : List ℕ) (m : Model) → CanPlace n to m → Guards (view_of m) (view_of (placed n to m))
placed_guards n to m can k sfile =
    inl ((placed_image n to m can (view_of (placed n to m)) (view_image (placed n to m))).keeps.pairs k sfile)

-- ---- runs

nothing_made : (n to : List ℕ) (m : Model) (past : List Model) (t : Told) → CanPlace n to m → t ≡ Tells m past
    → EndsPlacing to (view_of m (y_file n)) 0 m past t
nothing_made n to m past t can is = (
  record {
    added = [];
    is = is;
    numbers = (
      omega arith,
      λ w image. old_image to m can.calm (view_of m (y_file n)) w
          image,
    );
    guarded = tt;
  },
  can.calm,
)

rename_made : (n to : List ℕ) (m : Model) (past : List Model) (t : Told) → CanPlace n to m → t ≡ Tells (placed n to m)
    (m ∷ past) → EndsPlacing to (view_of m (y_file n)) 0 m past t
rename_made n to m past t can is = (
  record {
    added = placed n to m ∷ [];
    is = is;
    numbers = (
      placed_image n to m can,
      (
        0,
        omega arith,
        (
          omega arith,
          λ w image. old_image to m can.calm
              (view_of m (y_file n)) w image,
        ),
      ),
    );
    guarded = (placed_guards n to m can, tt);
  },
  calm_kept (view_of m) (placed n to m) (λ w image. (placed_image n to m can w image).keeps),
)

both_made : (n to : List ℕ) (m : Model) (past : List Model) (t : Told) (j : ℕ) → CanPlace n to m
    → t ≡ Tells (settled (placed n to m)) (placed n to m ∷ m ∷ past) → EndsPlacing to (view_of m (y_file n)) j m past t
both_made n to m past t j can is = (
  record {
    added = settled (placed n to m) ∷ placed n to m ∷ [];
    is = is;
    numbers = (
      settled_image n to m can j,
      (
        0,
        omega arith,
        (
          placed_image n to m can,
          (
            0,
            omega arith,
            (
              omega arith,
              λ w image. old_image to m can.calm
                  (view_of m (y_file n)) w image,
            ),
          ),
        ),
      ),
    );
    guarded = (λ k other. inl refl, (placed_guards n to m can, tt));
  },
  calm_kept (view_of m) (settled (placed n to m)) (λ w image. (settled_image n to m can j w image).keeps),
)

-- ---- the calls, however they end

place_ends : (n to : List ℕ) (a b : Told) → Places (y_file n) to a b → PlaceEnds n to a b
place_ends n to a b (mid, made, synced) = λ m past is can. both_made n to m past b 1 can (synced.model (placed n to m)
    (m ∷ past) (made.model m past is))

half_renamed : (n to : List ℕ) (a b : Told) → Half (renaming (y_file n) to) a b → PlaceStops n to a b
half_renamed n to a b half = λ m past is can.
    ⊎_elim (λ same. nothing_made n to m past b can (same ∙ is)) (λ made. rename_made n to m past b can
    (subst (λ (x : Model). b ≡ Tells x (m ∷ past)) made.2 made.1)) (half.model m past is)

half_synced : (n to : List ℕ) (a mid b : Told) → Done (renaming (y_file n) to) a mid → Half syncing_names mid b
    → PlaceStops n to a b
half_synced n to a mid b made half = λ m past is can.
    ⊎_elim (λ same. rename_made n to m past b can (same ∙ made.model m past is))
    (λ synced. both_made n to m past b 0 can (subst (λ (x : Model). b ≡ Tells x (placed n to m ∷ m ∷ past)) synced.2
    synced.1))
    (half.model (placed n to m) (m ∷ past) (made.model m past is))

place_stops : (n to : List ℕ) (a b : Told) → HalfPlaces (y_file n) to a b → PlaceStops n to a b
place_stops n to a b (inl half) = half_renamed n to a b half
place_stops n to a b (inr (mid, made, half)) = half_synced n to a mid b made half

pub placed_ends : (n from at to : List ℕ) (a b : Told) → from ≡ y_file n → at ≡ to → Places from at a b
    → PlaceEnds n to a b
placed_ends n from at to a b y is done = place_ends n to a b (subst (λ k. Places (y_file n) k a b) is
    (subst (λ k. Places k at a b) y done))

pub placed_stops : (n from at to : List ℕ) (a b : Told) → from ≡ y_file n → at ≡ to → HalfPlaces from at a b
    → PlaceStops n to a b
placed_stops n from at to a b y is half = place_stops n to a b (subst (λ k. HalfPlaces (y_file n) k a b) is
    (subst (λ k. HalfPlaces k at a b) y half))
