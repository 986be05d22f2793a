-- The calls of a group change the files of its members alone, besides the plan and the intent.
use Rattle.std.proofs.Common.{◌≡◌, ◌||◌, ◌&&◌, ℕ, zero, suc, Bool, true, false, List, [], ◌∷◌, drop, Result, Ok, Err}
use Rattle.std.proofs.Common.{refl, subst, ⊎_elim}
use Rattle.std.specs.Str.{bytes_eq}
use Rattle.sccs_base.specs.Name.{p_file, q_file, x_file, y_file, z_file}
use Rattle.sccs_base.specs.declared.streams.Failed.{Failed}
use Rattle.sccs_disk.specs.Calls.{Changes}
use Rattle.sccs_disk.specs.Effects.{pended, renamed, renaming, settled, syncing_names}
use Rattle.sccs_disk.specs.Files.{Model, Op, Remove, Rename}
use Rattle.sccs_disk.specs.Told.{Told}
use Rattle.sccs_name_files.specs.StepFiles.{is_left, is_working}
use Rattle.sccs_name_files.specs.Touches.{TouchesOnly}
use Rattle.sccs_intents.specs.Intents.{intent_file, plan_file}
use Rattle.sccs_crash_points.specs.Unlocked.{KeepsOthers, LeavesOthers}
use Rattle.sccs_crash_points.proofs.FileNames.{no_q, no_working, no_x, no_y, no_z}
use Rattle.sccs_crash_points.proofs.Unlocked.{is_either, leaves_same, others_done, others_half, others_removed}
use Rattle.sccs_crash_points.proofs.Unlocked.{others_renamed, others_same, others_settled, others_then, others_touched}
use Rattle.sccs_crash_points.proofs.Unlocked.{others_wider}
use Rattle.sccs_group.specs.Finishing.{MayCall}
use Rattle.sccs_group.specs.Halfway.{is_left_of_group, is_lock_of, is_own_but_g, is_own_of, is_own_of_group}
use Rattle.sccs_group.specs.Halfway.{is_own_of_member}
use Rattle.sccs_group.specs.declared.members.Member.{Member}
use Rattle.std.proofs.lemmas.Bool.{or_from}
use Rattle.sccs_base.proofs.Bools.{right_false, left_false}
use Rattle.sccs_group.proofs.Closing.{intent_call}

-- ---- one call

call_others : (mine : List ℕ → Bool) (op : Op) (k : List ℕ) (a b : Told)
    → ((m : Model) → LeavesOthers mine m (pended op m)) → MayCall op k a b → KeepsOthers mine a b
call_others mine op k a b leaves call = λ m past is.
    ⊎_elim (λ same. others_same mine a b same m past is)
    (λ made. record { added = pended op m ∷ []; is = made.1; each = (leaves m, leaves_same mine m) })
    (call m past is)

pub rename_others : (from to : List ℕ) (mine : List ℕ → Bool) (a b : Told) → ((k : List ℕ) → mine k ≡ false
    → is_either from to k ≡ false) → MayCall (Rename from to) from a b → KeepsOthers mine a b
rename_others from to mine a b within call = others_wider (is_either from to) mine a b within
    (call_others (is_either from to) (Rename from to) from a b (others_renamed from to) call)

pub remove_others : (n : List ℕ) (mine : List ℕ → Bool) (a b : Told) → ((k : List ℕ) → mine k ≡ false
    → bytes_eq n k ≡ false) → MayCall (Remove n) n a b → KeepsOthers mine a b
remove_others n mine a b within call = others_wider (bytes_eq n) mine a b within (call_others (bytes_eq n)
    (Remove n) n a b (others_removed n) call)

-- ---- the files of a name

not_s : (n k : List ℕ) → is_own_but_g n k ≡ false → bytes_eq n k ≡ false
not_s n k h = left_false (bytes_eq n k) (bytes_eq (p_file n) k || is_left n k) h

not_p : (n k : List ℕ) → is_own_but_g n k ≡ false → bytes_eq (p_file n) k ≡ false
not_p n k h = left_false (bytes_eq (p_file n) k) (is_left n k) (right_false (bytes_eq n k)
    (bytes_eq (p_file n) k || is_left n k) h)

not_left_behind : (n k : List ℕ) → is_own_but_g n k ≡ false → is_left n k ≡ false
not_left_behind n k h = right_false (bytes_eq (p_file n) k) (is_left n k) (right_false (bytes_eq n k)
    (bytes_eq (p_file n) k || is_left n k) h)

not_working : (n k : List ℕ) → is_own_but_g n k ≡ false → is_working n k ≡ false
not_working n k h = no_working n k (not_left_behind n k h)

s_others : (n : List ℕ) (a b : Told) → MayCall (Rename (x_file n) n) (x_file n) a b → KeepsOthers (is_own_but_g n) a b
s_others n a b call = rename_others (x_file n) n (is_own_but_g n) a b (λ k h. or_from (bytes_eq (x_file n) k)
    (bytes_eq n k) (no_x n k (not_working n k h)) (not_s n k h)) call

pub q_others : (n : List ℕ) (a b : Told) → MayCall (Rename (q_file n) (p_file n)) (q_file n) a b
    → KeepsOthers (is_own_but_g n) a b
q_others n a b call = rename_others (q_file n) (p_file n) (is_own_but_g n) a b (λ k h. or_from (bytes_eq (q_file n) k)
    (bytes_eq (p_file n) k) (no_q n k (not_working n k h)) (not_p n k h)) call

pub p_others : (n : List ℕ) (a b : Told) → MayCall (Remove (p_file n)) (p_file n) a b → KeepsOthers (is_own_but_g n) a b
p_others n a b call = remove_others (p_file n) (is_own_but_g n) a b (not_p n) call

y_others : (n : List ℕ) (a b : Told) → MayCall (Remove (y_file n)) (y_file n) a b → KeepsOthers (is_own_but_g n) a b
y_others n a b call = remove_others (y_file n) (is_own_but_g n) a b (λ k h. no_y n k (not_working n k h)) call

-- ---- the calls of a member

but_g : (mem : Member) (k : List ℕ) → is_own_of_member mem k ≡ false → is_own_but_g mem.entry.name k ≡ false
but_g mem k h = right_false (mem.removes_g && bytes_eq (drop 2 mem.entry.name) k) (is_own_but_g mem.entry.name k) h

of_member : (mem : Member) (a b : Told) → KeepsOthers (is_own_but_g mem.entry.name) a b
    → KeepsOthers (is_own_of_member mem) a b
of_member mem a b keeps = others_wider (is_own_but_g mem.entry.name) (is_own_of_member mem) a b (but_g mem) keeps

pub one_others : (mem : Member) (a b : Told) → MayCall (Rename (x_file mem.entry.name) mem.entry.name)
    (x_file mem.entry.name) a b → KeepsOthers (is_own_of_member mem) a b
one_others mem a b s = of_member mem a b (s_others mem.entry.name a b s)

pub two_others : (mem : Member) (a b c : Told) → MayCall (Rename (x_file mem.entry.name) mem.entry.name)
    (x_file mem.entry.name) a b → KeepsOthers (is_own_but_g mem.entry.name) b c → KeepsOthers (is_own_of_member mem) a c
two_others mem a b c s p = others_then (is_own_of_member mem) a b c (one_others mem a b s) (of_member mem b c p)

pub three_others : (mem : Member) (a b c d : Told) → MayCall (Rename (x_file mem.entry.name) mem.entry.name)
    (x_file mem.entry.name) a b → KeepsOthers (is_own_but_g mem.entry.name) b c
    → MayCall (Remove (y_file mem.entry.name)) (y_file mem.entry.name) c d → KeepsOthers (is_own_of_member mem) a d
three_others mem a b c d s p y = others_then (is_own_of_member mem) a c d (two_others mem a b c s p)
    (of_member mem c d (y_others mem.entry.name c d y))

pub four_others : (mem : Member) (a b c d e : Told) → MayCall (Rename (x_file mem.entry.name) mem.entry.name)
    (x_file mem.entry.name) a b → KeepsOthers (is_own_but_g mem.entry.name) b c
    → MayCall (Remove (y_file mem.entry.name)) (y_file mem.entry.name) c d → KeepsOthers (is_own_of_member mem) d e
    → KeepsOthers (is_own_of_member mem) a e
four_others mem a b c d e s p y g = others_then (is_own_of_member mem) a d e (three_others mem a b c d s p y) g

-- the g-file goes
g_within : (removes : Bool) (n k : List ℕ) → removes ≡ true → ((removes && bytes_eq (drop 2 n) k) || is_own_but_g n k)
    ≡ false → bytes_eq (drop 2 n) k ≡ false
g_within true n k is h = left_false (bytes_eq (drop 2 n) k) (is_own_but_g n k) h
g_within false n k is h = absurd (cc)

pub g_others : (mem : Member) (a b : Told) → mem.removes_g ≡ true → MayCall (Remove (drop 2 mem.entry.name))
    (drop 2 mem.entry.name) a b → KeepsOthers (is_own_of_member mem) a b
g_others mem a b removes call = remove_others (drop 2 mem.entry.name) (is_own_of_member mem) a b
    (λ k h. g_within mem.removes_g mem.entry.name k removes h) call

-- ---- the files of members

own_from : (ms : List Member) (i : ℕ) (k : List ℕ) → is_own_of ms k ≡ false → is_own_of (drop i ms) k ≡ false
own_from [] zero k h = h
own_from [] (suc i) k h = h
own_from (mem ∷ ms) zero k h = h
own_from (mem ∷ ms) (suc i) k h = own_from ms i k (right_false (is_own_of_member mem k) (is_own_of ms k) h)

lock_from : (ms : List Member) (i : ℕ) (k : List ℕ) → is_lock_of ms k ≡ false → is_lock_of (drop i ms) k ≡ false
lock_from [] zero k h = h
lock_from [] (suc i) k h = h
lock_from (mem ∷ ms) zero k h = h
lock_from (mem ∷ ms) (suc i) k h = lock_from ms i k (right_false (bytes_eq (z_file mem.entry.name) k)
    (is_lock_of ms k) h)

member_own : (ms rest : List Member) (i : ℕ) (mem : Member) → drop i ms ≡ mem ∷ rest → (k : List ℕ)
    → is_own_of ms k ≡ false → is_own_of_member mem k ≡ false
member_own ms rest i mem is k h = left_false (is_own_of_member mem k) (is_own_of rest k)
    (subst (λ (l : List Member). is_own_of l k ≡ false) is (own_from ms i k h))

pub member_lock : (ms rest : List Member) (i : ℕ) (mem : Member) → drop i ms ≡ mem ∷ rest → (k : List ℕ)
    → is_lock_of ms k ≡ false → bytes_eq (z_file mem.entry.name) k ≡ false
member_lock ms rest i mem is k h = left_false (bytes_eq (z_file mem.entry.name) k) (is_lock_of rest k)
    (subst (λ (l : List Member). is_lock_of l k ≡ false) is (lock_from ms i k h))

-- a turn of the loop
pub own_turn : (ms rest : List Member) (i : ℕ) (mem : Member) (start a b : Told) → drop i ms ≡ mem ∷ rest
    → KeepsOthers (is_own_of_member mem) a b → KeepsOthers (is_own_of ms) start a → KeepsOthers (is_own_of ms) start b
own_turn ms rest i mem start a b is keeps before = others_then (is_own_of ms) start a b before
    (others_wider (is_own_of_member mem) (is_own_of ms) a b (member_own ms rest i mem is) keeps)

pub lock_turn : (ms rest : List Member) (i : ℕ) (mem : Member) (start a b : Told) → drop i ms ≡ mem ∷ rest
    → MayCall (Remove (z_file mem.entry.name)) (z_file mem.entry.name) a b → KeepsOthers (is_lock_of ms) start a
    → KeepsOthers (is_lock_of ms) start b
lock_turn ms rest i mem start a b is call before = others_then (is_lock_of ms) start a b before
    (remove_others (z_file mem.entry.name) (is_lock_of ms) a b (member_lock ms rest i mem is) call)

-- ---- the files of a group

pub no_plan : (ms : List Member) (k : List ℕ) → is_own_of_group ms k ≡ false → bytes_eq plan_file k ≡ false
no_plan ms k h = left_false (bytes_eq plan_file k) (bytes_eq intent_file k || is_own_of ms k) h

pub no_intent : (ms : List Member) (k : List ℕ) → is_own_of_group ms k ≡ false → bytes_eq intent_file k ≡ false
no_intent ms k h = left_false (bytes_eq intent_file k) (is_own_of ms k) (right_false (bytes_eq plan_file k)
    (bytes_eq intent_file k || is_own_of ms k) h)

no_own : (ms : List Member) (k : List ℕ) → is_own_of_group ms k ≡ false → is_own_of ms k ≡ false
no_own ms k h = right_false (bytes_eq intent_file k) (is_own_of ms k) (right_false (bytes_eq plan_file k)
    (bytes_eq intent_file k || is_own_of ms k) h)

pub left_plan : (ms : List Member) (k : List ℕ) → is_left_of_group ms k ≡ false → bytes_eq plan_file k ≡ false
left_plan ms k h = left_false (bytes_eq plan_file k) (bytes_eq intent_file k || is_lock_of ms k) h

pub left_intent : (ms : List Member) (k : List ℕ) → is_left_of_group ms k ≡ false → bytes_eq intent_file k ≡ false
left_intent ms k h = left_false (bytes_eq intent_file k) (is_lock_of ms k) (right_false (bytes_eq plan_file k)
    (bytes_eq intent_file k || is_lock_of ms k) h)

pub left_lock : (ms : List Member) (k : List ℕ) → is_left_of_group ms k ≡ false → is_lock_of ms k ≡ false
left_lock ms k h = right_false (bytes_eq intent_file k) (is_lock_of ms k) (right_false (bytes_eq plan_file k)
    (bytes_eq intent_file k || is_lock_of ms k) h)

-- what is none of the files of members is none of their z-files
not_locks : (ms : List Member) (k : List ℕ) → is_own_of ms k ≡ false → is_lock_of ms k ≡ false
not_locks [] k h = refl
not_locks (mem ∷ ms) k h =
    or_from (bytes_eq (z_file mem.entry.name) k) (is_lock_of ms k)
    (no_z mem.entry.name k (not_left_behind mem.entry.name k
    (but_g mem k (left_false (is_own_of_member mem k) (is_own_of ms k) h))))
    (not_locks ms k (right_false (is_own_of_member mem k) (is_own_of ms k) h))

not_left : (ms : List Member) (k : List ℕ) → is_own_of_group ms k ≡ false → is_left_of_group ms k ≡ false
not_left ms k h =
    or_from (bytes_eq plan_file k) (bytes_eq intent_file k || is_lock_of ms k) (no_plan ms k h)
    (or_from (bytes_eq intent_file k) (is_lock_of ms k) (no_intent ms k h) (not_locks ms k (no_own ms k h)))

-- ---- the intent is removed, and each z-file

pub intent_gone_others : (ms : List Member) (k : List ℕ) (a b : Told) → k ≡ intent_file → MayCall (Remove k) k a b
    → KeepsOthers (is_left_of_group ms) a b
intent_gone_others ms k a b is call = remove_others intent_file (is_left_of_group ms) a b (left_intent ms)
    (intent_call k a b is call)

pub locks_others : (ms : List Member) (k : List ℕ) (a b c : Told) → k ≡ intent_file → MayCall (Remove k) k a b
    → KeepsOthers (is_lock_of ms) b c → KeepsOthers (is_left_of_group ms) a c
locks_others ms k a b c is call keeps = others_then (is_left_of_group ms) a b c (intent_gone_others ms k a b is call)
    (others_wider (is_lock_of ms) (is_left_of_group ms) b c (left_lock ms) keeps)

-- a sync of the names, however it ends
pub sync_others : {T : Type 0} (mine : List ℕ → Bool) (a b : Told) (f f2 : ℕ) (r : Result T Failed)
    → Changes syncing_names a b f f2 r → KeepsOthers mine a b
sync_others mine a b f f2 (Ok x) call = others_done (λ v. v) settled mine a b (others_settled mine) call.done
sync_others mine a b f f2 (Err e) call = others_half (λ v. v) settled mine a b (others_settled mine) call.half

pub close_others : {T : Type 0} (ms : List Member) (k : List ℕ) (a b c d : Told) (f f2 : ℕ) (r : Result T Failed)
    → k ≡ intent_file → MayCall (Remove k) k a b → KeepsOthers (is_lock_of ms) b c → Changes syncing_names c d f f2 r
    → KeepsOthers (is_left_of_group ms) a d
close_others ms k a b c d f f2 r is call keeps synced = others_then (is_left_of_group ms) a c d
    (locks_others ms k a b c is call keeps) (sync_others (is_left_of_group ms) c d f f2 r synced)

-- ---- a group is completed

pub placed_others : (ms : List Member) (a b : Told) → KeepsOthers (is_own_of ms) a b
    → KeepsOthers (is_own_of_group ms) a b
placed_others ms a b keeps = others_wider (is_own_of ms) (is_own_of_group ms) a b (no_own ms) keeps

pub complete_others : (ms : List Member) (a b c : Told) → KeepsOthers (is_own_of ms) a b
    → KeepsOthers (is_left_of_group ms) b c → KeepsOthers (is_own_of_group ms) a c
complete_others ms a b c first next = others_then (is_own_of_group ms) a b c (placed_others ms a b first)
    (others_wider (is_left_of_group ms) (is_own_of_group ms) b c (not_left ms) next)

-- ---- the plan

pub plan_others : (ms : List Member) (k : List ℕ) (a b : Told) → k ≡ plan_file → TouchesOnly (bytes_eq k) a b
    → KeepsOthers (is_own_of_group ms) a b
plan_others ms k a b is touches =
    others_wider (bytes_eq plan_file) (is_own_of_group ms) a b (no_plan ms) (others_touched (bytes_eq plan_file) a b
    (subst (λ (l : List ℕ). TouchesOnly (bytes_eq l) a b) is touches))

pub commit_others : (ms : List Member) (k : List ℕ) (a b c : Told) → k ≡ plan_file → TouchesOnly (bytes_eq k) a b
    → KeepsOthers (is_own_of_group ms) b c → KeepsOthers (is_own_of_group ms) a c
commit_others ms k a b c is touches next = others_then (is_own_of_group ms) a b c (plan_others ms k a b is touches) next

-- the plan becomes the intent, or not
announced_own : (ms : List Member) (k : List ℕ) → is_own_of_group ms k ≡ false → is_either plan_file intent_file k
    ≡ false
announced_own ms k h = or_from (bytes_eq plan_file k) (bytes_eq intent_file k) (no_plan ms k h) (no_intent ms k h)

announced_as : {T : Type 0} (ms : List Member) (a b : Told) (f f2 : ℕ) (r : Result T Failed)
    → Changes (renaming plan_file intent_file) a b f f2 r → KeepsOthers (is_own_of_group ms) a b
announced_as ms a b f f2 (Ok x) call =
    others_wider (is_either plan_file intent_file) (is_own_of_group ms) a b (announced_own ms)
    (others_done (renamed plan_file intent_file) (pended (Rename plan_file intent_file))
    (is_either plan_file intent_file) a b (others_renamed plan_file intent_file) call.done)
announced_as ms a b f f2 (Err e) call =
    others_wider (is_either plan_file intent_file) (is_own_of_group ms) a b (announced_own ms)
    (others_half (renamed plan_file intent_file) (pended (Rename plan_file intent_file))
    (is_either plan_file intent_file) a b (others_renamed plan_file intent_file) call.half)

pub announce_others : {T : Type 0} (ms : List Member) (k l : List ℕ) (a b : Told) (f f2 : ℕ) (r : Result T Failed)
    → k ≡ plan_file → l ≡ intent_file → Changes (renaming k l) a b f f2 r → KeepsOthers (is_own_of_group ms) a b
announce_others ms k l a b f f2 r is is_intent call =
    announced_as ms a b f f2 r (subst (λ (x : List ℕ). Changes (renaming plan_file x) a b f f2 r) is_intent
    (subst (λ (x : List ℕ). Changes (renaming x l) a b f f2 r) is call))
