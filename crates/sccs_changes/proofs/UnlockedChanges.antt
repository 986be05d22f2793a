-- A change of the files of a name begins unlocked, wherever it ends.
use Rattle.std.proofs.Common.{◌≡◌, ◌||◌, ℕ, Bool, true, false, List, [], drop, None, is_some, sym, ap, subst, ◌∙◌}
use Rattle.std.specs.Prelude.{IfSome}
use Rattle.std.specs.Str.{bytes_eq}
use Rattle.sccs_base.specs.Name.{IsSFileName, z_file}
use Rattle.sccs_disk.specs.Files.{View, view_of}
use Rattle.sccs_disk.specs.Told.{Told, seen}
use Rattle.sccs_name_files.proofs.Images.{view_image}
use Rattle.sccs_name_files.specs.StepFiles.{is_early, is_left, is_working, l_file}
use Rattle.sccs_name_files.specs.Touches.{TouchesOnly}
use Rattle.sccs_name_files.proofs.Touched.{only_wider}
use Rattle.sccs_crash_points.specs.Recovery.{is_kept}
use Rattle.sccs_crash_points.specs.Unlocked.{BeginsUnlocked, KeepsHeldIn, KeepsOthers, is_own}
use Rattle.sccs_crash_points.proofs.FileNames.{early_left, no_l, no_working, no_z}
use Rattle.sccs_crash_points.proofs.Unlocked.{others_same, others_then, others_touched, others_wider, own_early}
use Rattle.sccs_crash_points.proofs.Unlocked.{unlocked_early, unlocked_own}
use Rattle.sccs_steps.specs.Actions.{Action}
use Rattle.sccs_steps.specs.Unlocked.{StepOthers}
use Rattle.sccs_changes.specs.Changes.{Drafts}
use Rattle.std.proofs.lemmas.Bool.{or_from}

-- what is prepared is changed before a commit
pub drafts_early : (early : Bool) (n : List ℕ) (a b : Told) → Drafts early n a b → KeepsOthers (is_early n) a b
drafts_early false n a b drafts = others_touched (is_early n) a b (only_wider (is_working n) (is_early n) a b
    (λ k h. no_working n k (early_left n k h)) drafts)
drafts_early true n a b drafts =
    others_wider (λ k. bytes_eq (l_file n) k || is_working n k) (is_early n) a b (λ k h. or_from (bytes_eq (l_file n) k)
    (is_working n k) (no_l n k h) (no_working n k (early_left n k h))) drafts

-- the lock changes the z-file alone, and giving up what a step leaves behind
pub lock_early : (n : List ℕ) (a b : Told) → TouchesOnly (bytes_eq (z_file n)) a b → KeepsOthers (is_early n) a b
lock_early n a b touches = others_touched (is_early n) a b (only_wider (bytes_eq (z_file n)) (is_early n) a b
    (λ k h. no_z n k (early_left n k h)) touches)

pub left_early : (n : List ℕ) (a b : Told) → TouchesOnly (is_left n) a b → KeepsOthers (is_early n) a b
left_early n a b touches = others_touched (is_early n) a b (only_wider (is_left n) (is_early n) a b
    (early_left n) touches)

-- they are among the files of the name
early_own : (n : List ℕ) (a d : Told) → KeepsOthers (is_early n) a d → KeepsOthers (is_own n) a d
early_own n a d keeps = others_wider (is_early n) (is_own n) a d (own_early n) keeps

-- nothing was locked
pub unlocked_failed : (n : List ℕ) (a b : Told) → TouchesOnly (bytes_eq (z_file n)) a b → BeginsUnlocked a b
unlocked_failed n a b touches = unlocked_early n a b (lock_early n a b touches)

-- up to the commit
pub prepared_early : (early : Bool) (n : List ℕ) (a b c : Told) → TouchesOnly (bytes_eq (z_file n)) a b
    → Drafts early n b c → KeepsOthers (is_early n) a c
prepared_early early n a b c lock drafts = others_then (is_early n) a b c (lock_early n a b lock)
    (drafts_early early n b c drafts)

-- and where it gives up
pub given_early : (early : Bool) (n : List ℕ) (a b c d : Told) → TouchesOnly (bytes_eq (z_file n)) a b
    → Drafts early n b c → TouchesOnly (is_left n) c d → KeepsOthers (is_early n) a d
given_early early n a b c d lock drafts left = others_then (is_early n) a c d (prepared_early early n a b c lock drafts)
    (left_early n c d left)

pub unlocked_given_up : (early : Bool) (n : List ℕ) (a b c d : Told) → TouchesOnly (bytes_eq (z_file n)) a b
    → Drafts early n b c → TouchesOnly (is_left n) c d → BeginsUnlocked a d
unlocked_given_up early n a b c d lock drafts left = unlocked_early n a d (given_early early n a b c d lock drafts left)

-- behind it
pub unlocked_finished : (early : Bool) (n : List ℕ) (a b c d : Told) → IsSFileName n → is_kept (drop 2 n) ≡ false
    → IfSome (seen a) (λ (v : View). v (z_file n) ≡ None) → TouchesOnly (bytes_eq (z_file n)) a b → Drafts early n b c
    → KeepsOthers (is_own n) c d → BeginsUnlocked a d
unlocked_finished early n a b c d sfile plain free lock drafts others = unlocked_own n a d sfile plain free
    (others_then (is_own n) a c d (early_own n a c (prepared_early early n a b c lock drafts)) others)

-- ---- the files of other names, and a name that is held

-- where the name was free it wasn't held
free_held : (n : List ℕ) (a d : Told) → IfSome (seen a) (λ (v : View). v (z_file n) ≡ None) → KeepsHeldIn n a d
free_held n a d free = λ m past is held. absurd (let none : view_of m (z_file n) ≡ None =
    subst (λ (t : Told). IfSome (seen t) (λ (v : View). v (z_file n) ≡ None)) is free in let there =
    held (view_of m) (view_image m) in let e : false ≡ true = sym (ap is_some none) ∙ there in cc)

pub others_refused : (x : Action) (n : List ℕ) (a d : Told) → d ≡ a → StepOthers x n a d
others_refused x n a d same = (
  λ changes. others_same (is_own n) a d same,
  λ changes m past is named held.
      record { added = []; is = same ∙ is; each = held },
)

pub others_failed : (x : Action) (n : List ℕ) (a d : Told) → TouchesOnly (bytes_eq (z_file n)) a d → KeepsHeldIn n a d
    → StepOthers x n a d
others_failed x n a d touches held = (
  λ changes. early_own n a d (lock_early n a d touches),
  λ changes m past is named.
      held m past is,
)

pub others_given_up : (early : Bool) (x : Action) (n : List ℕ) (a b c d : Told)
    → IfSome (seen a) (λ (v : View). v (z_file n) ≡ None) → TouchesOnly (bytes_eq (z_file n)) a b → Drafts early n b c
    → TouchesOnly (is_left n) c d → StepOthers x n a d
others_given_up early x n a b c d free lock drafts left = (
  λ changes. early_own n a d (given_early early n a b c d lock drafts left),
  λ changes m past is named.
      free_held n a d free m past is,
)

pub others_finished : (early : Bool) (x : Action) (n : List ℕ) (a b c d : Told)
    → IfSome (seen a) (λ (v : View). v (z_file n) ≡ None) → TouchesOnly (bytes_eq (z_file n)) a b → Drafts early n b c
    → KeepsOthers (is_own n) c d → StepOthers x n a d
others_finished early x n a b c d free lock drafts others = (
  λ changes. others_then (is_own n) a c d (early_own n a c (prepared_early early n a b c lock drafts)) others,
  λ changes m past is named. free_held n a d free m past is,
)
