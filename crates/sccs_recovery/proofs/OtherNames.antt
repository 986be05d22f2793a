-- Recovery of a name leaves the files of all other names.
use Rattle.std.proofs.Common.{◌≡◌, ℕ, List, Result, Ok, Err, subst}
use Rattle.std.specs.Prelude.{OnErr, OnOk}
use Rattle.std.specs.Str.{bytes_eq}
use Rattle.sccs_base.specs.Name.{y_file}
use Rattle.sccs_disk.specs.Calls.{Done, Half}
use Rattle.sccs_disk.specs.Effects.{settled, syncing_names}
use Rattle.sccs_disk.specs.Told.{Told}
use Rattle.sccs_name_files.specs.StepFiles.{is_working}
use Rattle.sccs_name_files.specs.Touches.{TouchesOnly}
use Rattle.sccs_crash_points.specs.Unlocked.{KeepsOthers, is_own}
use Rattle.sccs_crash_points.proofs.FileNames.{no_working, no_y}
use Rattle.sccs_crash_points.proofs.Unlocked.{others_done, others_half, others_settled, others_then, others_touched}
use Rattle.sccs_crash_points.proofs.Unlocked.{others_wider, own_left}

pub touched_others : (n : List ℕ) (a b : Told) → TouchesOnly (is_working n) a b → KeepsOthers (is_own n) a b
touched_others n a b touches = others_wider (is_working n) (is_own n) a b (λ k h. no_working n k (own_left n k h))
    (others_touched (is_working n) a b touches)

-- the y-file alone
pub y_others : (n : List ℕ) (a b : Told) → TouchesOnly (bytes_eq (y_file n)) a b → KeepsOthers (is_own n) a b
y_others n a b touches = others_wider (bytes_eq (y_file n)) (is_own n) a b
    (λ k h. no_y n k (no_working n k (own_left n k h))) (others_touched (bytes_eq (y_file n)) a b touches)

-- behind a call that reads
pub others_since : (n : List ℕ) (a b d : Told) → b ≡ a → KeepsOthers (is_own n) b d → KeepsOthers (is_own n) a d
others_since n a b d same keeps = subst (λ t. KeepsOthers (is_own n) t d) same keeps

-- working files, and then the names are synced
pub synced_others : {T F : Type 0} (n : List ℕ) (a b d : Told) (r : Result T F) → KeepsOthers (is_own n) a b
    → OnOk r (Done syncing_names b d) → OnErr r (Half syncing_names b d) → KeepsOthers (is_own n) a d
synced_others n a b d (Ok x) keeps done half = others_then (is_own n) a b d keeps (others_done (λ v. v) settled
    (is_own n) b d (others_settled (is_own n)) done)
synced_others n a b d (Err e) keeps done half = others_then (is_own n) a b d keeps (others_half (λ v. v) settled
    (is_own n) b d (others_settled (is_own n)) half)
