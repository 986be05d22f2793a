-- A g-file or an l-file that is made whole: the y-file is made and takes its place.
use Rattle.std.proofs.Common.{◌≡◌, ℕ, false, List, Option, inl, inr, refl, sym, subst, ◌∙◌}
use Rattle.std.specs.Str.{bytes_eq}
use Rattle.sccs_base.specs.Name.{IsSFileName, p_file, q_file, x_file, y_file, z_file}
use Rattle.sccs_disk.specs.Files.{Content, Model, View, view_of}
use Rattle.sccs_disk.specs.Images.{Allows, Image, IsFirm, IsOwn}
use Rattle.sccs_disk.specs.Told.{Told, Tells}
use Rattle.sccs_name_files.specs.Touches.{Leaves, TellsSane, Touches, TouchesOnly, Touching, earlier, newest}
use Rattle.sccs_name_files.proofs.Images.{view_image}
use Rattle.sccs_name_files.proofs.Touched.{each_newest, newest_more}
use Rattle.sccs_intents.specs.Intents.{intent_file}
use Rattle.sccs_crash_points.specs.Calm.{IsCalm, KeepsPairs}
use Rattle.sccs_crash_points.specs.CrashPoints.{EndsBefore, Went}
use Rattle.sccs_crash_points.specs.Recovery.{is_kept}
use Rattle.sccs_crash_points.proofs.CalmDisks.{calm_kept}
use Rattle.sccs_crash_points.proofs.FileNames.{no_y, working_s}
use Rattle.sccs_crash_points.proofs.Joined.{numbered_as, numbered_now, numbered_plain, numbered_zero, went_then}
use Rattle.sccs_crash_points.proofs.Joined.{keeps_then}
use Rattle.sccs_crash_points.proofs.Untouched.{guards_touched}
use Rattle.sccs_store.proofs.Working.{firm_after, leaves_from, written_touches}
use Rattle.sccs_writers.specs.OneFile.{OnlyWrites}
use Rattle.sccs_writers.proofs.OneFile.{only_both}
use Rattle.sccs_store.specs.Placing.{CanPlace, EndsPlacing, HasMade, HasNew, IsPlacing, PlaceEnds, PlaceStops}
use Rattle.sccs_store.proofs.Placed.{keeps_same}

-- ---- the y-file

pub made : (n : List ℕ) (a b c d : Told) → TellsSane b → TouchesOnly (bytes_eq (y_file n)) a b
    → Leaves (IsOwn (y_file n)) a b → OnlyWrites (y_file n) b c → OnlyWrites (y_file n) c d
    → Leaves (IsFirm (y_file n)) c d → HasMade n a d
made n a b c d sane touches own written finished firm = record {
  touches = written_touches (y_file n) (bytes_eq (y_file n)) a b d sane (λ k h. h) touches own
      (only_both (y_file n) b c d written finished);
  firm = leaves_from (IsFirm (y_file n)) (bytes_eq (y_file n)) a b d touches (firm_after (y_file n) b c d written firm);
}

-- an image of a moment up to then
touched_image : (n to : List ℕ) (new : Option Content) (m m2 : Model) → bytes_eq (y_file n) to ≡ false → IsSFileName n
    → IsCalm m → Touches (bytes_eq (y_file n)) m m2 → Allows (IsPlacing to m new 0) m2
touched_image n to new m m2 other sfile calm touches w image =
    let x : (u : View) × Image m u × ((k : List ℕ) → bytes_eq (y_file n) k ≡ false → u k ≡ w k) =
    touches.images w image in
    record {
      keeps = keeps_same (view_of m) x.0 w (calm x.0 x.1) (record {
        intent = sym (x.2 intent_file refl);
        s = λ k other. sym (x.2 k (no_y n k (working_s n k other)));
        p = λ k other. sym (x.2 (p_file k) refl);
        z = λ k other. sym (x.2 (z_file k) refl);
        x = λ k other. sym (x.2 (x_file k) refl);
        q = λ k other. sym (x.2 (q_file k) refl);
      });
      state = inr (refl, (x.0, x.1, sym (x.2 to other)));
    }

abbrev touched_run : (n to : List ℕ) (new : Option Content) (m : Model) (past : List Model) (t : Told)
    → bytes_eq (y_file n) to ≡ false → IsSFileName n → IsCalm m → Touching (bytes_eq (y_file n)) m past t
    → Went (IsPlacing to m new) m past 0 t
touched_run n to new m past t other sfile calm run = record {
  added = run.added;
  is = run.is;
  numbers = numbered_zero (Touches (bytes_eq (y_file n)) m) (λ i m2. Allows (IsPlacing to m new i) m2) run.added m
      (λ m2 touches. touched_image n to new m m2 other sfile calm touches) run.each;
  guarded = guards_touched (bytes_eq (y_file n)) m run.added (λ k other. no_y n k (working_s n k other))
      (λ k other. refl) run.each;
}

-- where a run ends of which each image is such a one
ends_calm : (to : List ℕ) (new : Option Content) (m m2 : Model) (j : ℕ) → Allows (IsPlacing to m new j) m2 → IsCalm m2
ends_calm to new m m2 j placing = calm_kept (view_of m) m2 (λ w image. (placing w image).keeps)

pub ends_before : (n to : List ℕ) (new : Option Content) (a b : Told) (m : Model) (past : List Model)
    → bytes_eq (y_file n) to ≡ false → IsSFileName n → a ≡ Tells m past → IsCalm m
    → TouchesOnly (bytes_eq (y_file n)) a b → EndsPlacing to new 0 m past b
ends_before n to new a b m past other sfile is calm touches =
    let run : Touching (bytes_eq (y_file n)) m past b = touches m past is in (
      touched_run n to new m past b other sfile calm run,
      ends_calm to new m (newest run.added m) 0 (touched_image n to new m (newest run.added m) other sfile calm
          (each_newest (Touches (bytes_eq (y_file n)) m) run.added m run.each)),
    )

-- ---- the whole

new_joined : (to : List ℕ) (new : Option Content) (m m1 : Model) (j : ℕ) (w : View) → Allows (IsPlacing to m new 0) m1
    → HasNew to m1 new j w → HasNew to m new j w
new_joined to new m m1 j w first (inl is) = inl is
new_joined to new m m1 j w first (inr (zero, (u, image, same))) = old_or_new zero same (first u image).state
  where
    old_or_new : j ≡ 0 → w to ≡ u to → HasNew to m new 0 u → HasNew to m new j w
    old_or_new is same (inl made) = inl (same ∙ made)
    old_or_new is same (inr (e, (u2, image2, same2))) = inr (is, (u2, image2, same ∙ same2))

image_joined : (to : List ℕ) (new : Option Content) (m m1 : Model) (j : ℕ) (w : View) → Allows (IsPlacing to m new 0) m1
    → IsPlacing to m1 new j w → IsPlacing to m new j w
image_joined to new m m1 j w first next = record {
  keeps = keeps_then (view_of m) (view_of m1) w (first (view_of m1) (view_image m1)).keeps next.keeps;
  state = new_joined to new m m1 j w first next.state;
}

abbrev as_whole : (to : List ℕ) (new : Option Content) (m m1 : Model) (past1 : List Model) (j : ℕ) (t : Told)
    → Allows (IsPlacing to m new 0) m1 → Went (IsPlacing to m1 new) m1 past1 j t
    → Went (IsPlacing to m new) m1 past1 j t
as_whole to new m m1 past1 j t first went = record {
  added = went.added;
  is = went.is;
  numbers = numbered_as (λ i m2. Allows (IsPlacing to m1 new i) m2) (λ i m2. Allows (IsPlacing to m new i) m2) 0
      went.added m1 j (λ i low m2 placing w image. image_joined to new m m1 i w first (placing w image)) went.numbers;
  guarded = went.guarded;
}

whole : (to : List ℕ) (new : Option Content) (m : Model) (past : List Model) (j : ℕ) (b d : Told)
    → (first : EndsPlacing to new 0 m past b) → EndsPlacing to new j (newest first.0.added m)
    (earlier first.0.added m past) d → EndsPlacing to new j m past d
whole to new m past j b d first next = (
  went_then (IsPlacing to m new) m past j b d first.0
      (as_whole to new m (newest first.0.added m) (earlier first.0.added m past) j d
      (numbered_now (λ i m2. Allows (IsPlacing to m new i) m2) 0 first.0.added m 0 first.0.numbers) next.0),
  subst IsCalm (sym (newest_more next.0.added first.0.added m)) next.1,
)

-- the y-file is made, and then the call ends
from_made : (n to : List ℕ) (new : Option Content) (a b d : Told) (m : Model) (past : List Model) (j : ℕ)
    → a ≡ Tells m past → is_kept to ≡ false → HasMade n a b → Leaves (λ m1. view_of m1 (y_file n) ≡ new) a b
    → EndsPlacing to new 0 m past b → ((m1 : Model) (past1 : List Model) → b ≡ Tells m1 past1 → CanPlace n to m1
    → EndsPlacing to (view_of m1 (y_file n)) j m1 past1 d) → EndsPlacing to new j m past d
from_made n to new a b d m past j is plain has told first call =
    whole to new m past j b d first
    (subst (λ (o : Option Content). EndsPlacing to o j (newest first.0.added m) (earlier first.0.added m past) d)
    (told m past is (newest first.0.added m) (earlier first.0.added m past) first.0.is)
    (call (newest first.0.added m) (earlier first.0.added m past) first.0.is
    (record {
      calm = first.1;
      y_state = has.firm m past is (newest first.0.added m) (earlier first.0.added m past)
          first.0.is;
      plain = plain;
    })))

pub ends_within : (n to : List ℕ) (new : Option Content) (a b d : Told) (m : Model) (past : List Model)
    → bytes_eq (y_file n) to ≡ false → IsSFileName n → a ≡ Tells m past → IsCalm m → is_kept to ≡ false → HasMade n a b
    → Leaves (λ m1. view_of m1 (y_file n) ≡ new) a b → PlaceStops n to b d → EndsPlacing to new 0 m past d
ends_within n to new a b d m past other sfile is calm plain has told stops =
    from_made n to new a b d m past 0 is plain has told (ends_before n to new a b m past other sfile is calm
    has.touches) stops

pub ends_after : (n to : List ℕ) (new : Option Content) (a b d : Told) (m : Model) (past : List Model)
    → bytes_eq (y_file n) to ≡ false → IsSFileName n → a ≡ Tells m past → IsCalm m → is_kept to ≡ false → HasMade n a b
    → Leaves (λ m1. view_of m1 (y_file n) ≡ new) a b → PlaceEnds n to b d → EndsPlacing to new 1 m past d
ends_after n to new a b d m past other sfile is calm plain has told ends =
    from_made n to new a b d m past 1 is plain has told (ends_before n to new a b m past other sfile is calm
    has.touches) ends

-- s-files and p-files alone
pub ends_pairs : (to : List ℕ) (new : Option Content) (j : ℕ) (m : Model) (past : List Model) (t : Told)
    → EndsPlacing to new j m past t → EndsBefore (view_of m) m past t
ends_pairs to new j m past t ends = (
  record {
    added = ends.0.added;
    is = ends.0.is;
    numbers = numbered_plain (λ i m2. Allows (IsPlacing to m new i) m2) (λ m2. Allows (KeepsPairs (view_of m)) m2) 0
        ends.0.added m j (λ i m2 placing w image. (placing w image).keeps) ends.0.numbers;
    guarded = ends.0.guarded;
  },
  ends.1,
)
