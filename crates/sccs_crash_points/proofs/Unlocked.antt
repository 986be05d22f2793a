-- Calls that change the files of some names alone, and s-files and p-files that change behind a moment without their
-- z-file.
use Rattle.std.proofs.Common.{◌≡◌, ◌⊎◌, ◌||◌, ℕ, Bool, true, false, cond, List, [], ◌∷◌, ◌++◌, drop, Option, None}
use Rattle.std.proofs.Common.{option_map, inl, inr, refl, sym, ap, subst, ◌∙◌, ⊎_elim}
use Rattle.std.specs.Prelude.{IfSome}
use Rattle.std.specs.Str.{bytes_eq}
use Rattle.sccs_base.specs.Name.{IsSFileName, p_file, z_file}
use Rattle.sccs_disk.specs.Calls.{Done, Half}
use Rattle.sccs_disk.specs.Effects.{pended, settled, whole_effect}
use Rattle.sccs_disk.specs.Files.{File, Model, Names, Op, Remove, Rename, View, file_at, names, put, view_of}
use Rattle.sccs_disk.specs.Images.{Fits, Full, Image, file_under}
use Rattle.sccs_disk.specs.Told.{Told, Tells, seen}
use Rattle.sccs_disk.proofs.Models.{names_pended}
use Rattle.sccs_disk.proofs.Puts.{name_cases, put_other}
use Rattle.sccs_name_files.specs.StepFiles.{is_early, is_left}
use Rattle.sccs_name_files.specs.Touches.{Each, Touches, Touching, TouchesOnly, earlier, newest}
use Rattle.sccs_name_files.proofs.Images.{full_image, image_pended, image_settled, view_full}
use Rattle.sccs_name_files.proofs.Touched.{each_newest, earlier_more, newest_more}
use Rattle.sccs_crash_points.specs.Recovery.{is_kept, pair_of}
use Rattle.sccs_crash_points.specs.Unlocked.{BeganUnlocked, BeginsUnlocked, ComeUnlocked, KeepsOthers, KeptOthers}
use Rattle.sccs_crash_points.specs.Unlocked.{LeavesOthers, SameOthers, WasUnlocked, is_own}
use Rattle.sccs_crash_points.proofs.FileNames.{early_left, early_s, kept_p, kept_s, kept_z, sfile_is, siblings_differ}
use Rattle.sccs_crash_points.proofs.FileNames.{to_sfile}
use Rattle.sccs_crash_points.proofs.Recovering.{pair_same}
use Rattle.std.proofs.lemmas.Bool.{or_from}
use Rattle.sccs_base.proofs.Bools.{right_false, left_false}

-- ---- runs of a story

-- two runs told as one
pub joined_is : (m : Model) (past first next : List Model) (c : Told) → c ≡ Tells (newest next (newest first m))
    (earlier next (newest first m) (earlier first m past)) → c ≡ Tells (newest (next ++ first) m)
    (earlier (next ++ first) m past)
joined_is m past first next c is =
    is
    ∙ (ap (λ (x : Model). Tells x (earlier next (newest first m) (earlier first m past)))
    (sym (newest_more next first m))
    ∙ ap (λ (x : List Model). Tells (newest (next ++ first) m) x) (sym (earlier_more next first m past)))

each_joined : (P Q : Model → Type 0) (xs ys : List Model) (m mid : Model) → ((m2 : Model) → Q m2 → P m2) → Each Q xs mid
    → Each P ys m → Each P (xs ++ ys) m
each_joined P Q [] ys m mid to later before = before
each_joined P Q (a ∷ xs) ys m mid to later before = (to a later.0, each_joined P Q xs ys m mid to later.1 before)

each_as : (P Q : Model → Type 0) (xs : List Model) (m : Model) → ((m2 : Model) → P m2 → Q m2) → Each P xs m
    → Each Q xs m
each_as P Q [] m to each = to m each
each_as P Q (a ∷ xs) m to each = (to a each.0, each_as P Q xs m to each.1)

-- ---- the files of other names

-- nothing is left out
pub leaves_same : (mine : List ℕ → Bool) (m : Model) → LeavesOthers mine m m
leaves_same mine m = record { files = λ k h. refl; images = λ w image. (w, image, λ k h. refl) }

leaves_then : (mine : List ℕ → Bool) (m m1 m2 : Model) → LeavesOthers mine m m1 → LeavesOthers mine m1 m2
    → LeavesOthers mine m m2
leaves_then mine m m1 m2 first next =
    record { files = λ k h. next.files k h ∙ first.files k h; images = λ w image. back w (next.images w image) }
  where
    at_start : (w : View) → (u : View) → SameOthers mine u w → (u0 : View) × Image m u0 × SameOthers mine u0 u
        → (u0 : View) × Image m u0 × SameOthers mine u0 w
    at_start w u same (u0, image, before) = (u0, image, λ k h. same k h ∙ before k h)

    back : (w : View) → (u : View) × Image m1 u × SameOthers mine u w → (u0 : View) × Image m u0 × SameOthers mine u0 w
    back w (u, image, same) = at_start w u same (first.images u image)

leaves_more : (mine more : List ℕ → Bool) (m m2 : Model) → ((k : List ℕ) → more k ≡ false → mine k ≡ false)
    → LeavesOthers mine m m2 → LeavesOthers more m m2
leaves_more mine more m m2 within leaves =
    record { files = λ k h. leaves.files k (within k h); images = λ w image. by w (leaves.images w image) }
  where
    by : (w : View) → (u : View) × Image m u × SameOthers mine u w → (u : View) × Image m u × SameOthers more u w
    by w (u, image, same) = (u, image, λ k h. same k (within k h))

leaves_touched : (mine : List ℕ → Bool) (m m2 : Model) → Touches mine m m2 → LeavesOthers mine m m2
leaves_touched mine m m2 touched = record {
  files = touched.files;
  images = λ w image. by w (touched.images w image);
}
  where
    by : (w : View) → (u : View) × Image m u × ((k : List ℕ) → mine k ≡ false → u k ≡ w k) → (u : View) × Image m u
        × SameOthers mine u w
    by w (u, image, same) = (u, image, λ k h. sym (same k h))

-- each moment's others are as at the start
pub each_now : (mine : List ℕ → Bool) (m : Model) (added : List Model) → Each (LeavesOthers mine m) added m
    → Each (λ m2. SameOthers mine (view_of m) (view_of m2)) added m
each_now mine m added each = each_as (LeavesOthers mine m) (λ m2. SameOthers mine (view_of m) (view_of m2)) added m
    (λ m2 leaves k h. ap (option_map (λ (f : File). f.content)) (leaves.files k h)) each

pub others_then : (mine : List ℕ → Bool) (a b c : Told) → KeepsOthers mine a b → KeepsOthers mine b c
    → KeepsOthers mine a c
others_then mine a b c first next m past is = joined (first m past is)
  where
    joined : KeptOthers mine m past b → KeptOthers mine m past c
    joined one = again (next (newest one.added m) (earlier one.added m past) one.is)
      where
        since : LeavesOthers mine m (newest one.added m)
        since = each_newest (LeavesOthers mine m) one.added m one.each

        again : KeptOthers mine (newest one.added m) (earlier one.added m past) c → KeptOthers mine m past c
        again two = record {
          added = two.added ++ one.added;
          is = joined_is m past one.added two.added c two.is;
          each = each_joined (LeavesOthers mine m) (LeavesOthers mine (newest one.added m)) two.added one.added m
              (newest one.added m)
              (λ m2 leaves. leaves_then mine m (newest one.added m) m2 since leaves) two.each one.each;
        }

-- a call that changes some files changes more
pub others_wider : (mine more : List ℕ → Bool) (a b : Told) → ((k : List ℕ) → more k ≡ false → mine k ≡ false)
    → KeepsOthers mine a b → KeepsOthers more a b
others_wider mine more a b within keeps m past is = by (keeps m past is)
  where
    by : KeptOthers mine m past b → KeptOthers more m past b
    by kept = record {
      added = kept.added;
      is = kept.is;
      each = each_as (LeavesOthers mine m) (LeavesOthers more m)
          kept.added m (λ m2 leaves. leaves_more mine more m m2 within leaves) kept.each;
    }

pub others_same : (mine : List ℕ → Bool) (a b : Told) → b ≡ a → KeepsOthers mine a b
others_same mine a b same m past is = record { added = []; is = same ∙ is; each = leaves_same mine m }

pub others_touched : (mine : List ℕ → Bool) (a b : Told) → TouchesOnly mine a b → KeepsOthers mine a b
others_touched mine a b touches m past is = by (touches m past is)
  where
    by : Touching mine m past b → KeptOthers mine m past b
    by run = record {
      added = run.added;
      is = run.is;
      each = each_as (Touches mine m) (LeavesOthers mine m) run.added m
          (λ m2 touched. leaves_touched mine m m2 touched) run.each;
    }

-- a call that is made whole or not at all
one_kept : (mine : List ℕ → Bool) (m m2 : Model) (past : List Model) (new : Told) → new ≡ Tells m2 (m ∷ past)
    → LeavesOthers mine m m2 → KeptOthers mine m past new
one_kept mine m m2 past new is leaves = record { added = m2 ∷ []; is = is; each = (leaves, leaves_same mine m) }

pub others_done : (f : View → View) (g : Model → Model) (mine : List ℕ → Bool) (a b : Told)
    → ((m : Model) → LeavesOthers mine m (g m)) → Done (whole_effect f g) a b → KeepsOthers mine a b
others_done f g mine a b same done m past is = one_kept mine m (g m) past b (done.model m past is) (same m)

pub others_half : (f : View → View) (g : Model → Model) (mine : List ℕ → Bool) (a b : Told)
    → ((m : Model) → LeavesOthers mine m (g m)) → Half (whole_effect f g) a b → KeepsOthers mine a b
others_half f g mine a b same half m past is =
    ⊎_elim (λ kept. others_same mine a b kept m past is)
    (λ made. one_kept mine m made.0 past b made.1 (subst (λ (x : Model). LeavesOthers mine m x) (sym made.2) (same m)))
    (half.model m past is)

-- ---- calls on names

file_pended : (m : Model) (t : Names) (k : List ℕ) (now : Names) → now ≡ t → t k ≡ names m k → file_at m.files (now k)
    ≡ file_under m k
file_pended m t k now is same = ap (λ (x : Option ℕ). file_at m.files x) (ap (λ (x : Names). x k) is ∙ same)

-- the names of a file before and after it is renamed
abbrev pub is_either : List ℕ → List ℕ → List ℕ → Bool
is_either from to k = bytes_eq from k || bytes_eq to k

-- what a stop leaves behind an operation on names: as before it, or with all operations made
pended_images : (mine : List ℕ → Bool) (op : Op) (m : Model) → ((k : List ℕ) → mine k ≡ false
    → names (pended op m) k ≡ names m k) → (w : View) → Image (pended op m) w → (u : View) × Image m u
    × SameOthers mine u w
pended_images mine op m same w image = by (image_pended op m w image)
  where
    between : View
    between k = cond (mine k) (view_of m k) (w k)

    at : (b : Bool) (k : List ℕ) → mine k ≡ b → Full (pended op m) w
        → Fits (file_under m k) (cond b (view_of m k) (w k))
    at true k is full = view_full m k
    at false k is full = subst (λ (o : Option ℕ). Fits (file_at m.files o) (w k)) (same k is) (full k)

    by : Image m w ⊎ Full (pended op m) w → (u : View) × Image m u × SameOthers mine u w
    by (inl before) = (w, before, λ k h. refl)
    by (inr full) = (
      between,
      full_image m between (λ k. at (mine k) k refl full),
      λ k h.
          sym (ap (λ (b : Bool). cond b (view_of m k) (w k)) h),
    )

renamed_names : (from to : List ℕ) (m : Model) (k : List ℕ) → is_either from to k ≡ false
    → put (put (names m) from None) to (names m from) k ≡ names m k
renamed_names from to m k h =
    put_other (put (names m) from None) to k (names m from) (right_false (bytes_eq from k) (bytes_eq to k) h)
    ∙ put_other (names m) from k None (left_false (bytes_eq from k) (bytes_eq to k) h)

pub others_renamed : (from to : List ℕ) (m : Model) → LeavesOthers (is_either from to) m (pended (Rename from to) m)
others_renamed from to m = record {
  files = λ k h. file_pended m (put (put (names m) from None) to (names m from)) k (names (pended (Rename from to) m))
      (names_pended (Rename from to) m) (renamed_names from to m k h);
  images = pended_images (is_either from to) (Rename from to) m (λ k h. ap (λ (t : Names). t k)
      (names_pended (Rename from to) m) ∙ renamed_names from to m k h);
}

pub others_removed : (n : List ℕ) (m : Model) → LeavesOthers (bytes_eq n) m (pended (Remove n) m)
others_removed n m = record {
  files = λ k h. file_pended m (put (names m) n None) k (names (pended (Remove n) m)) (names_pended (Remove n) m)
      (put_other (names m) n k None h);
  images = pended_images (bytes_eq n) (Remove n) m (λ k h. ap (λ (t : Names). t k) (names_pended (Remove n) m)
      ∙ put_other (names m) n k None h);
}

pub others_settled : (mine : List ℕ → Bool) (m : Model) → LeavesOthers mine m (settled m)
others_settled mine m = record {
  files = λ k h. refl;
  images = λ w image. (
    w,
    full_image m w (image_settled m w image),
    λ k h. refl,
  );
}

-- ---- the z-file

-- the last of these crash points
unlocked_now : (n : List ℕ) (added : List Model) (m : Model) → view_of (newest added m) (z_file n) ≡ None
    → WasUnlocked n added m
unlocked_now n [] m is = is
unlocked_now n (a ∷ added) m is = inl is

-- the first of them
unlocked_first : (n : List ℕ) (added : List Model) (m : Model) → view_of m (z_file n) ≡ None → WasUnlocked n added m
unlocked_first n [] m is = is
unlocked_first n (a ∷ added) m is = inr (unlocked_first n added m is)

pub unlocked_more : (n : List ℕ) (later added : List Model) (m : Model) → WasUnlocked n later (newest added m)
    → WasUnlocked n (later ++ added) m
unlocked_more n [] added m was = unlocked_now n added m was
unlocked_more n (a ∷ later) added m (inl now) = inl now
unlocked_more n (a ∷ later) added m (inr was) = inr (unlocked_more n later added m was)

pub unlocked_same : (a b : Told) → b ≡ a → BeginsUnlocked a b
unlocked_same a b same m past is = record { added = []; is = same ∙ is; changes = tt }

-- a pair that isn't changed, or whose z-file wasn't there at the first moment
kept_or_unlocked : (mine : List ℕ → Bool) (m : Model) (added : List Model) → ((k : List ℕ) → IsSFileName k
    → ((mine k ≡ false) × (mine (p_file k) ≡ false)) ⊎ (view_of m (z_file k) ≡ None))
    → Each (λ m2. SameOthers mine (view_of m) (view_of m2)) added m → ComeUnlocked added m
kept_or_unlocked mine m [] cases each = tt
kept_or_unlocked mine m (a ∷ added) cases each = (
  λ n sfile. ⊎_elim (λ other. inl (same n other)) (λ free. inr (unlocked_first n added m free)) (cases n sfile),
  kept_or_unlocked mine m added cases each.1,
)
  where
    before : SameOthers mine (view_of m) (view_of (newest added m))
    before = each_newest (λ m2. SameOthers mine (view_of m) (view_of m2)) added m each.1

    same : (n : List ℕ) → (mine n ≡ false) × (mine (p_file n) ≡ false) → pair_of (view_of a) n ≡ pair_of
        (view_of (newest added m)) n
    same n other = pair_same _ _ _ _ (each.0 n other.0 ∙ sym (before n other.0)) (each.0 (p_file n) other.1
        ∙ sym (before (p_file n) other.1))

pub unlocked_by : (mine : List ℕ → Bool) (a b : Told) → ((m : Model) (past : List Model) → a ≡ Tells m past
    → (k : List ℕ) → IsSFileName k → ((mine k ≡ false) × (mine (p_file k) ≡ false)) ⊎ (view_of m (z_file k) ≡ None))
    → KeepsOthers mine a b → BeginsUnlocked a b
unlocked_by mine a b cases keeps m past is = by (keeps m past is)
  where
    by : KeptOthers mine m past b → BeganUnlocked m past b
    by kept = record {
      added = kept.added;
      is = kept.is;
      changes = kept_or_unlocked mine m kept.added (cases m past is)
          (each_now mine m kept.added kept.each);
    }

-- a call that changes no s-file and no p-file
pub unlocked_early : (n : List ℕ) (a b : Told) → KeepsOthers (is_early n) a b → BeginsUnlocked a b
unlocked_early n a b keeps = unlocked_by (is_early n) a b (λ m past is k sfile. inl (early_s n k sfile, refl)) keeps

-- what is none of a name's files is none that a step changes before its commit, and none that it leaves behind
pub own_early : (n k : List ℕ) → is_own n k ≡ false → is_early n k ≡ false
own_early n k h = right_false (bytes_eq (drop 2 n) k) (is_early n k) (right_false (bytes_eq (p_file n) k)
    (bytes_eq (drop 2 n) k || is_early n k) (right_false (bytes_eq n k) (bytes_eq (p_file n) k ||
    (bytes_eq (drop 2 n) k || is_early n k)) h))

pub own_left : (n k : List ℕ) → is_own n k ≡ false → is_left n k ≡ false
own_left n k h = early_left n k (own_early n k h)

-- the s-file and the p-file of another name are none of the name's files, where its g-file is none of such a kind
pub own_s : (n k : List ℕ) → IsSFileName k → is_kept (drop 2 n) ≡ false → bytes_eq n k ≡ false → is_own n k ≡ false
own_s n k sfile plain apart =
    or_from (bytes_eq n k) (bytes_eq (p_file n) k || (bytes_eq (drop 2 n) k || is_early n k)) apart
    (or_from (bytes_eq (p_file n) k) (bytes_eq (drop 2 n) k || is_early n k) (subst (λ l. bytes_eq (p_file n) l ≡ false)
    (sym (sfile_is k sfile)) refl)
    (or_from (bytes_eq (drop 2 n) k) (is_early n k) (kept_s (drop 2 n) k plain sfile) (early_s n k sfile)))

pub own_p : (n k : List ℕ) → IsSFileName n → IsSFileName k → is_kept (drop 2 n) ≡ false → bytes_eq n k ≡ false
    → is_own n (p_file k) ≡ false
own_p n k sfile other plain apart =
    or_from (bytes_eq n (p_file k)) (bytes_eq (p_file n) (p_file k) || (bytes_eq (drop 2 n) (p_file k) || is_early n
    (p_file k))) (to_sfile 112 n k sfile refl)
    (or_from (bytes_eq (p_file n) (p_file k)) (bytes_eq (drop 2 n) (p_file k) || is_early n (p_file k))
    (siblings_differ 112 n k sfile other apart)
    (or_from (bytes_eq (drop 2 n) (p_file k)) (is_early n (p_file k)) (kept_p (drop 2 n) k plain other) refl))

pub own_z : (n k : List ℕ) → IsSFileName n → IsSFileName k → is_kept (drop 2 n) ≡ false → bytes_eq n k ≡ false
    → is_own n (z_file k) ≡ false
own_z n k sfile other plain apart =
    or_from (bytes_eq n (z_file k)) (bytes_eq (p_file n) (z_file k) || (bytes_eq (drop 2 n) (z_file k) || is_early n
    (z_file k))) (to_sfile 122 n k sfile refl)
    (or_from (bytes_eq (p_file n) (z_file k)) (bytes_eq (drop 2 n) (z_file k) || is_early n (z_file k)) refl
    (or_from (bytes_eq (drop 2 n) (z_file k)) (is_early n (z_file k)) (kept_z (drop 2 n) k plain other)
    (siblings_differ 122 n k sfile other apart)))

-- where the view was told the z-file wasn't there
free_at : (z : List ℕ) (a : Told) (m : Model) (past : List Model) → IfSome (seen a) (λ (v : View). v z ≡ None)
    → a ≡ Tells m past → view_of m z ≡ None
free_at z a m past free is = subst (λ (t : Told). IfSome (seen t) (λ (v : View). v z ≡ None)) is free

-- a call that changes the files of a name alone, whose z-file wasn't there
pub unlocked_own : (n : List ℕ) (a b : Told) → IsSFileName n → is_kept (drop 2 n) ≡ false
    → IfSome (seen a) (λ (v : View). v (z_file n) ≡ None) → KeepsOthers (is_own n) a b → BeginsUnlocked a b
unlocked_own n a b sfile plain free keeps =
    unlocked_by (is_own n) a b
    (λ m past is k other. ⊎_elim (λ e. inr (subst (λ l. view_of m (z_file l) ≡ None) e
    (free_at (z_file n) a m past free is))) (λ apart. inl (
      own_s n k other plain apart,
      own_p n k sfile other plain
          apart,
    )) (name_cases n k)) keeps
