-- The calls of a commit change the files of its name alone.
use Rattle.std.proofs.Common.{◌≡◌, ◌||◌, ℕ, false, List, drop, inl, inr}
use Rattle.std.specs.Prelude.{None, OnErr, OnOk, Result, Ok, Err}
use Rattle.std.specs.Str.{bytes_eq}
use Rattle.sccs_base.specs.Name.{p_file, q_file, x_file, y_file, z_file}
use Rattle.sccs_disk.specs.Effects.{pended, renamed, settled}
use Rattle.sccs_disk.specs.Files.{Rename, put}
use Rattle.sccs_disk.specs.Files as op
use Rattle.sccs_disk.specs.Told.{Told}
use Rattle.sccs_crash_points.specs.Unlocked.{KeepsOthers, is_own}
use Rattle.sccs_crash_points.proofs.FileNames.{no_q, no_working, no_x, no_y, no_z}
use Rattle.sccs_name_files.specs.StepFiles.{is_early}
use Rattle.sccs_crash_points.proofs.Unlocked.{is_either, others_done, others_half, others_removed, others_renamed}
use Rattle.sccs_crash_points.proofs.Unlocked.{others_same, others_settled, others_then, others_wider, own_left}
use Rattle.sccs_store.specs.Commits.{Plan}
use Rattle.sccs_store.specs.Stops.{HalfSwaps, HalfUnlocks, Swaps, Unlocks}
use Rattle.sccs_store.specs.declared.new_files.NewFile.{NewFile}
use Rattle.sccs_store.specs.declared.new_files.NewFile.TheVariants.{Keep, Replace, Remove}
use Rattle.std.proofs.lemmas.Bool.{or_from}
use Rattle.sccs_base.proofs.Bools.{right_false, left_false}

-- a name that is none of two
abbrev pub Misses : List ℕ → List ℕ → List ℕ → Type 0
Misses n from to = (k : List ℕ) → is_own n k ≡ false → is_either from to k ≡ false

others_swapped : (n : List ℕ) (new : NewFile) (from to : List ℕ) (a b : Told) → Misses n from to → Swaps new from to a b
    → KeepsOthers (is_own n) a b
others_swapped n Keep from to a b misses same = others_same (is_own n) a b same
others_swapped n Replace from to a b misses done =
    others_wider (is_either from to) (is_own n) a b misses (others_done (renamed from to) (pended (Rename from to))
    (is_either from to) a b (others_renamed from to) done)
others_swapped n Remove from to a b misses done =
    others_wider (bytes_eq to) (is_own n) a b (λ k h. right_false (bytes_eq from k) (bytes_eq to k) (misses k h))
    (others_done (λ v. put v to None) (pended (op.Remove to)) (bytes_eq to) a b (others_removed to) done)

others_half_swapped : (n : List ℕ) (new : NewFile) (from to : List ℕ) (a b : Told) → Misses n from to
    → HalfSwaps new from to a b → KeepsOthers (is_own n) a b
others_half_swapped n Keep from to a b misses same = others_same (is_own n) a b same
others_half_swapped n Replace from to a b misses half =
    others_wider (is_either from to) (is_own n) a b misses (others_half (renamed from to) (pended (Rename from to))
    (is_either from to) a b (others_renamed from to) half)
others_half_swapped n Remove from to a b misses half =
    others_wider (bytes_eq to) (is_own n) a b (λ k h. right_false (bytes_eq from k) (bytes_eq to k) (misses k h))
    (others_half (λ v. put v to None) (pended (op.Remove to)) (bytes_eq to) a b (others_removed to) half)

-- ---- the files of the name

no_s : (n k : List ℕ) → is_own n k ≡ false → bytes_eq n k ≡ false
no_s n k h = left_false (bytes_eq n k) (bytes_eq (p_file n) k || (bytes_eq (drop 2 n) k || is_early n k)) h

no_p : (n k : List ℕ) → is_own n k ≡ false → bytes_eq (p_file n) k ≡ false
no_p n k h = left_false (bytes_eq (p_file n) k) (bytes_eq (drop 2 n) k || is_early n k) (right_false (bytes_eq n k)
    (bytes_eq (p_file n) k || (bytes_eq (drop 2 n) k || is_early n k)) h)

no_g : (n k : List ℕ) → is_own n k ≡ false → bytes_eq (drop 2 n) k ≡ false
no_g n k h = left_false (bytes_eq (drop 2 n) k) (is_early n k) (right_false (bytes_eq (p_file n) k)
    (bytes_eq (drop 2 n) k || is_early n k) (right_false (bytes_eq n k) (bytes_eq (p_file n) k ||
    (bytes_eq (drop 2 n) k || is_early n k)) h))

misses_s : (n : List ℕ) → Misses n (x_file n) n
misses_s n k h = or_from (bytes_eq (x_file n) k) (bytes_eq n k) (no_x n k (no_working n k (own_left n k h)))
    (no_s n k h)

misses_p : (n : List ℕ) → Misses n (q_file n) (p_file n)
misses_p n k h = or_from (bytes_eq (q_file n) k) (bytes_eq (p_file n) k) (no_q n k (no_working n k (own_left n k h)))
    (no_p n k h)

misses_g : (n : List ℕ) → Misses n (y_file n) (drop 2 n)
misses_g n k h = or_from (bytes_eq (y_file n) k) (bytes_eq (drop 2 n) k) (no_y n k (no_working n k (own_left n k h)))
    (no_g n k h)

misses_z : (n : List ℕ) → Misses n (z_file n) (z_file n)
misses_z n k h = or_from (bytes_eq (z_file n) k) (bytes_eq (z_file n) k) (no_z n k (own_left n k h))
    (no_z n k (own_left n k h))

-- ---- the exits of a commit

pub first_others : (n : List ℕ) (c : Plan) (t0 t1 : Told) → HalfSwaps c.s (x_file n) n t0 t1
    → KeepsOthers (is_own n) t0 t1
first_others n c t0 t1 s = others_half_swapped n c.s (x_file n) n t0 t1 (misses_s n) s

pub second_others : (n : List ℕ) (c : Plan) (t0 t1 t2 : Told) → Swaps c.s (x_file n) n t0 t1 → HalfSwaps c.p (q_file n)
    (p_file n) t1 t2 → KeepsOthers (is_own n) t0 t2
second_others n c t0 t1 t2 s p = others_then (is_own n) t0 t1 t2 (others_swapped n c.s (x_file n) n t0 t1
    (misses_s n) s) (others_half_swapped n c.p (q_file n) (p_file n) t1 t2 (misses_p n) p)

two_others : (n : List ℕ) (c : Plan) (t0 t1 t2 : Told) → Swaps c.s (x_file n) n t0 t1
    → Swaps c.p (q_file n) (p_file n) t1 t2 → KeepsOthers (is_own n) t0 t2
two_others n c t0 t1 t2 s p = others_then (is_own n) t0 t1 t2 (others_swapped n c.s (x_file n) n t0 t1 (misses_s n) s)
    (others_swapped n c.p (q_file n) (p_file n) t1 t2 (misses_p n) p)

pub third_others : (n : List ℕ) (c : Plan) (t0 t1 t2 t3 : Told) → Swaps c.s (x_file n) n t0 t1
    → Swaps c.p (q_file n) (p_file n) t1 t2 → HalfSwaps c.g (y_file n) (drop 2 n) t2 t3 → KeepsOthers (is_own n) t0 t3
third_others n c t0 t1 t2 t3 s p g = others_then (is_own n) t0 t2 t3 (two_others n c t0 t1 t2 s p)
    (others_half_swapped n c.g (y_file n) (drop 2 n) t2 t3 (misses_g n) g)

three_others : (n : List ℕ) (c : Plan) (t0 t1 t2 t3 : Told) → Swaps c.s (x_file n) n t0 t1
    → Swaps c.p (q_file n) (p_file n) t1 t2 → Swaps c.g (y_file n) (drop 2 n) t2 t3 → KeepsOthers (is_own n) t0 t3
three_others n c t0 t1 t2 t3 s p g = others_then (is_own n) t0 t2 t3 (two_others n c t0 t1 t2 s p)
    (others_swapped n c.g (y_file n) (drop 2 n) t2 t3 (misses_g n) g)

unlocks_others : (n : List ℕ) (a b : Told) → Unlocks (z_file n) a b → KeepsOthers (is_own n) a b
unlocks_others n a b (mid, z, synced) =
    others_then (is_own n) a mid b (others_swapped n Remove (z_file n) (z_file n) a mid (misses_z n) z)
    (others_done (λ v. v) settled (is_own n) mid b (others_settled (is_own n)) synced)

half_unlocks_others : (n : List ℕ) (a b : Told) → HalfUnlocks (z_file n) a b → KeepsOthers (is_own n) a b
half_unlocks_others n a b (inl half) = others_half_swapped n Remove (z_file n) (z_file n) a b (misses_z n) half
half_unlocks_others n a b (inr (mid, z, half)) =
    others_then (is_own n) a mid b (others_swapped n Remove (z_file n) (z_file n) a mid (misses_z n) z)
    (others_half (λ v. v) settled (is_own n) mid b (others_settled (is_own n)) half)

pub commit_others : {E : Type 0} (r : Result (Unit {0}) E) (n : List ℕ) (c : Plan) (t0 t1 t2 t3 t4 : Told)
    → Swaps c.s (x_file n) n t0 t1 → Swaps c.p (q_file n) (p_file n) t1 t2
    → Swaps c.g (y_file n) (drop 2 n) t2 t3 → OnOk r (Unlocks (z_file n) t3 t4) → OnErr r (HalfUnlocks (z_file n) t3 t4)
    → KeepsOthers (is_own n) t0 t4
commit_others (Ok done) n c t0 t1 t2 t3 t4 s p g unlocks half = others_then (is_own n) t0 t3 t4
    (three_others n c t0 t1 t2 t3 s p g) (unlocks_others n t3 t4 unlocks)
commit_others (Err fault) n c t0 t1 t2 t3 t4 s p g unlocks half = others_then (is_own n) t0 t3 t4
    (three_others n c t0 t1 t2 t3 s p g) (half_unlocks_others n t3 t4 half)
