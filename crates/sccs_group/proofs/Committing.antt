-- The commit of a group: the plan is written and becomes the intent, and the group is completed.
use Rattle.std.proofs.Common.{◌≡◌, ℕ, Bool, false, List, [], ◌∷◌, ◌++◌, Option, None, Some, option_map, is_some, inl}
use Rattle.std.proofs.Common.{inr, refl, sym, ap, subst, ◌∙◌, ⊎_elim}
use Rattle.std.proofs.Math.Path.{fun_ext}
use Rattle.std.specs.Prelude.{IsSome}
use Rattle.std.specs.Str.{bytes_eq}
use Rattle.sccs_base.specs.Name.{IsSFileName, p_file, q_file, x_file, z_file}
use Rattle.sccs_disk.specs.Calls.{IsThere}
use Rattle.sccs_disk.specs.Effects.{renamed}
use Rattle.sccs_disk.specs.Files.{Content, Model, View, put, view_of}
use Rattle.sccs_disk.specs.Images.{Allows, Image, IsFirm}
use Rattle.sccs_disk.specs.Told.{Told, Tells, seen}
use Rattle.sccs_disk.proofs.Puts.{name_cases, put_other, put_same}
use Rattle.sccs_name_files.specs.StepFiles.{Moves}
use Rattle.sccs_name_files.specs.Touches.{Each, Leaves, Touches, TouchesOnly, Touching, earlier, newest}
use Rattle.sccs_name_files.proofs.Touched.{each_newest, firm_touched, newest_more}
use Rattle.sccs_intents.specs.Intents.{intent_file, plan_file}
use Rattle.sccs_intents.specs.Written.{intent_text}
use Rattle.sccs_intents.specs.declared.intents.Fate.{Fate}
use Rattle.sccs_intents.specs.declared.intents.Fate.TheVariants.{Replaced, Removed}
use Rattle.sccs_crash_points.specs.Calm.{IsCalm}
use Rattle.sccs_crash_points.specs.CrashPoints.{IsFrom, Went}
use Rattle.sccs_crash_points.specs.Recovery.{IsSettledPair, RecoversAs, without_name}
use Rattle.sccs_crash_points.proofs.CalmDisks.{firms_touched}
use Rattle.sccs_crash_points.proofs.Joined.{numbered_as, numbered_zero, went_then, each_then, each_by}
use Rattle.sccs_crash_points.proofs.Recovering.{fate_same, newer_same, pair_same, same_recovers}
use Rattle.sccs_crash_points.proofs.Untouched.{guards_touched, view_touched}
use Rattle.sccs_store.specs.Commits.{Becomes}
use Rattle.sccs_store.proofs.Working.{becomes_both, made_there}
use Rattle.sccs_group.specs.Finishing.{CanFinish, IsHeld}
use Rattle.sccs_group.specs.Grouping.{AnnounceEnds, AnnounceStops, CanAnnounce, CanGroup, CanPlace, CanPlaceAll}
use Rattle.sccs_group.specs.Grouping.{GroupEnds, GroupStops, IsGrouped, OnReplaced, StayHeld, announced, file_of}
use Rattle.sccs_group.specs.Grouping.{new_pair_of, planned}
use Rattle.sccs_group.specs.Members.{AreMembers, completed, entries_of}
use Rattle.sccs_group.specs.declared.members.Member.{Member}
use Rattle.sccs_group.proofs.Announcing.{can_begin}
use Rattle.sccs_group.proofs.Harmless.{fated_same}
use Rattle.sccs_group.proofs.Runs.{from_image, view_is}
use Rattle.sccs_crash_points.proofs.FileNames.{plan_and_sfile}

-- the plan alone
abbrev pub is_plan : List ℕ → Bool
is_plan k = bytes_eq plan_file k

-- ---- views that differ in the plan

pub plan_recovers : (u w : View) → ((k : List ℕ) → bytes_eq plan_file k ≡ false → u k ≡ w k) → RecoversAs u w
plan_recovers u w same =
    same_recovers u w (sym (same intent_file refl)) (λ n sfile. sym (same n (plan_and_sfile n sfile)))
    (λ n sfile. sym (same (p_file n) refl)) (λ n sfile. ap is_some (sym (same (z_file n) refl)))
    (λ n sfile named. sym (same (x_file n) refl)) (λ n sfile named. sym (same (q_file n) refl))

pub plan_from : (m m2 : Model) → Touches is_plan m m2 → Allows (IsFrom m) m2
plan_from m m2 touches = λ w image.
    let x : (u : View) × Image m u × ((k : List ℕ) → is_plan k ≡ false → u k ≡ w k) = touches.images w image in
    (x.0, x.1, plan_recovers x.0 w x.2)

-- ---- the plan is written

-- what a commit needs is there still
q_kept : (fate : Fate) (n : List ℕ) (m m2 : Model) → Touches is_plan m m2 → OnReplaced fate (IsFirm (q_file n) m)
    → OnReplaced fate (IsFirm (q_file n) m2)
q_kept Replaced n m m2 touches firm = firm_touched is_plan m m2 (q_file n) touches refl firm
q_kept Removed n m m2 touches firm = tt

pub pair_kept : (mem : Member) (v w : View) → w mem.entry.name ≡ v mem.entry.name → w (x_file mem.entry.name) ≡ v
    (x_file mem.entry.name) → w (q_file mem.entry.name) ≡ v (q_file mem.entry.name) → w (p_file mem.entry.name) ≡ v
    (p_file mem.entry.name)
    → new_pair_of mem w ≡ new_pair_of mem v
pair_kept mem v w s x q p =
    let n = mem.entry.name in
    pair_same _ _ _ _ (newer_same (w (x_file n)) (v (x_file n)) (w n) (v n) x s) (fated_same mem.entry.fate
    (v (q_file n)) (w (q_file n)) (v (p_file n)) (w (p_file n)) q p)

place_kept : (mem : Member) (m m2 : Model) → IsSFileName mem.entry.name → Touches is_plan m m2 → CanPlace m mem
    → CanPlace m2 mem
place_kept mem m m2 sfile touches can = record {
  x_state = firm_touched is_plan m m2 (x_file mem.entry.name) touches refl can.x_state;
  q_state = q_kept mem.entry.fate mem.entry.name m m2 touches can.q_state;
  held = ap is_some (view_touched is_plan m m2 (z_file mem.entry.name) touches refl) ∙ can.held;
  plain = can.plain;
  settled = subst IsSettledPair
      (sym (pair_kept mem (view_of m) (view_of m2) (view_touched is_plan m m2 mem.entry.name touches
      (plan_and_sfile mem.entry.name sfile)) (view_touched is_plan m m2 (x_file mem.entry.name) touches refl)
      (view_touched is_plan m m2 (q_file mem.entry.name) touches refl) (view_touched is_plan m m2
      (p_file mem.entry.name) touches refl))) can.settled;
}

all_kept : (ms : List Member) (m m2 : Model) → AreMembers ms → Touches is_plan m m2 → CanPlaceAll ms m
    → CanPlaceAll ms m2
all_kept [] m m2 are touches all = tt
all_kept (mem ∷ ms) m m2 are touches all = (
  place_kept mem m m2 are.0.sfile touches all.0,
  all_kept ms m m2 are.1 touches all.1,
)

pub still_group : (ms : List Member) (m m2 : Model) → AreMembers ms → Touches is_plan m m2 → CanGroup ms m
    → CanGroup ms m2
still_group ms m m2 are touches can = record {
  firm = firms_touched is_plan m m2 (λ n sfile. plan_and_sfile n sfile) (λ n sfile. refl) refl (λ n sfile named. refl)
      (λ n sfile named. refl) touches can.firm;
  none = view_touched is_plan m m2 intent_file touches refl ∙ can.none;
  each = all_kept ms m m2 are touches can.each;
}

abbrev pub write_went : (m : Model) (past : List Model) (w : View) (b : Told) → Touching is_plan m past b
    → Went (IsGrouped m w) m past 0 b
write_went m past w b run = record {
  added = run.added;
  is = run.is;
  numbers = numbered_zero (Touches is_plan m) (λ i x. Allows (IsGrouped m w i) x) run.added m (λ x touches u image.
      inr (refl, plan_from m x touches u image)) run.each;
  guarded = guards_touched is_plan m run.added (λ n sfile. plan_and_sfile n sfile) (λ n sfile. refl) run.each;
}

-- the plan alone was touched so the z-file of each name of an intent is there where it was
plan_holds : (m m2 : Model) → Touches is_plan m m2 → Allows IsHeld m → Allows IsHeld m2
plan_holds m m2 touches all = λ w image n sfile some.
    let x : (u : View) × Image m u × ((k : List ℕ) → is_plan k ≡ false → u k ≡ w k) = touches.images w image in
    subst (λ (o : Option Content). IsSome o) (x.2 (z_file n) refl)
    (all x.0 x.1 n sfile (subst (λ (f : Option Fate). IsSome f) (fate_same n x.0 w (sym (x.2 intent_file refl)))
    some))

pub write_holds : (m : Model) (past : List Model) (b : Told) → (run : Touching is_plan m past b) → StayHeld run.added m
write_holds m past b run all = each_by (Touches is_plan m) (Allows IsHeld) run.added m
    (λ m2 touches. plan_holds m m2 touches all) run.each

pub write_stops : (ms : List Member) (a b : Told) → AreMembers ms → TouchesOnly is_plan a b → GroupStops ms a b
write_stops ms a b are touches = λ m past is can.
    let run : Touching is_plan m past b = touches m past is in
    let still : CanGroup ms (newest run.added m) = still_group ms m (newest run.added m) are
    (each_newest (Touches is_plan m) run.added m run.each) can in (
      write_went m past (announced ms (view_of m)) b run,
      can_begin (newest run.added m) still.firm still.none,
      write_holds m past b run,
    )

-- ---- behind the plan

joined_holds : (m : Model) (added later : List Model) → StayHeld added m → StayHeld later (newest added m)
    → StayHeld (later ++ added) m
joined_holds m added later first next all = let before : Each (Allows IsHeld) added m = first all in
    each_then (Allows IsHeld) later added m before (next (each_newest (Allows IsHeld) added m before))

pub as_grouped : (m m1 : Model) (w w1 : View) → Allows (IsFrom m) m1 → w1 ≡ w → (i : ℕ) (u : View) → IsGrouped m1 w1 i u
    → IsGrouped m w i u
as_grouped m m1 w w1 all same i u (inl new) = inl (subst (λ (v : View). RecoversAs v u) same new)
as_grouped m m1 w w1 all same i u (inr old) = inr (old.0, from_image m m1 u all old.1)

abbrev pub later_went : (m m1 : Model) (past1 : List Model) (w w1 : View) (j : ℕ) (d : Told) → Allows (IsFrom m) m1
    → w1 ≡ w → Went (IsGrouped m1 w1) m1 past1 j d → Went (IsGrouped m w) m1 past1 j d
later_went m m1 past1 w w1 j d all same went = record {
  added = went.added;
  is = went.is;
  numbers = numbered_as (λ i x. Allows (IsGrouped m1 w1 i) x) (λ i x. Allows (IsGrouped m w i) x) 0 went.added m1 j
      (λ i low x new u image. as_grouped m m1 w w1 all same i u (new u image)) went.numbers;
  guarded = went.guarded;
}

can_announce : (ms : List Member) (a b : Told) (m m1 : Model) (past past1 : List Model) → AreMembers ms
    → a ≡ Tells m past → b ≡ Tells m1 past1 → Touches is_plan m m1 → view_of m1 ≡ planned ms (view_of m)
    → Leaves (IsFirm plan_file) a b
    → CanGroup ms m → CanAnnounce ms m1
can_announce ms a b m m1 past past1 are is is1 touches view firm can = record {
  group = still_group ms m m1 are touches can;
  plan = ap (λ (v : View). v plan_file) view ∙ put_same (view_of m) plan_file _;
  plan_state = firm m past is m1 past1 is1;
}

pub commit_stops : (ms : List Member) (a b d : Told) → AreMembers ms → TouchesOnly is_plan a b
    → Becomes (planned ms) (seen a) (seen b) → Leaves (IsFirm plan_file) a b → AnnounceStops ms b d → GroupStops ms a d
commit_stops ms a b d are touches becomes firm stops = λ m past is can. by m past is can (touches m past is)
  where
    by : (m : Model) (past : List Model) → a ≡ Tells m past → CanGroup ms m → Touching is_plan m past b
        → (went : Went (IsGrouped m (announced ms (view_of m))) m past 0 d) × CanFinish (newest went.added m)
        × StayHeld went.added m
    by m past is can run =
        let m1 : Model = newest run.added m in
        let past1 : List Model = earlier run.added m past in
        let now : Touches is_plan m m1 = each_newest (Touches is_plan m) run.added m run.each in
        let view : view_of m1 ≡ planned ms (view_of m) = view_is (planned ms) a b m m1 past past1 is run.is becomes in
        let later : (went : Went (IsGrouped m1 (renamed plan_file intent_file (view_of m1))) m1 past1 0 d)
        × CanFinish (newest went.added m1) × StayHeld went.added m1
        = stops m1 past1 run.is (can_announce ms a b m m1 past past1 are is run.is now view firm can) in (
          went_then (IsGrouped m (announced ms (view_of m))) m past 0 b d (write_went m past (announced ms (view_of m))
              b run)
              (later_went m m1 past1 (announced ms (view_of m)) (renamed plan_file intent_file (view_of m1)) 0 d
              (plan_from m m1 now) (ap (renamed plan_file intent_file) view) later.0),
          subst CanFinish (sym (newest_more later.0.added run.added m)) later.1,
          joined_holds m run.added later.0.added (write_holds m past b run) later.2,
        )

pub commit_ends : (ms : List Member) (a b d : Told) → AreMembers ms → TouchesOnly is_plan a b
    → Becomes (planned ms) (seen a) (seen b) → Leaves (IsFirm plan_file) a b → AnnounceEnds ms b d → GroupEnds ms a d
commit_ends ms a b d are touches becomes firm ends = λ m past is can. by m past is can (touches m past is)
  where
    by : (m : Model) (past : List Model) → a ≡ Tells m past → CanGroup ms m → Touching is_plan m past b
        → (went : Went (IsGrouped m (announced ms (view_of m))) m past 1 d) × IsCalm (newest went.added m)
        × StayHeld went.added m
    by m past is can run =
        let m1 : Model = newest run.added m in
        let past1 : List Model = earlier run.added m past in
        let now : Touches is_plan m m1 = each_newest (Touches is_plan m) run.added m run.each in
        let view : view_of m1 ≡ planned ms (view_of m) = view_is (planned ms) a b m m1 past past1 is run.is becomes in
        let later : (went : Went (IsGrouped m1 (renamed plan_file intent_file (view_of m1))) m1 past1 1 d)
        × IsCalm (newest went.added m1) × StayHeld went.added m1
        = ends m1 past1 run.is (can_announce ms a b m m1 past past1 are is run.is now view firm can) in (
          went_then (IsGrouped m (announced ms (view_of m))) m past 1 b d (write_went m past (announced ms (view_of m))
              b run)
              (later_went m m1 past1 (announced ms (view_of m)) (renamed plan_file intent_file (view_of m1)) 1 d
              (plan_from m m1 now) (ap (renamed plan_file intent_file) view) later.0),
          subst IsCalm (sym (newest_more later.0.added run.added m)) later.1,
          joined_holds m run.added later.0.added (write_holds m past b run) later.2,
        )

-- ---- the plan is gone

gone_at : (n : List ℕ) (v w : View) → ((k : List ℕ) → bytes_eq n k ≡ false → w k ≡ v k)
    → without_name n w ≡ without_name n v
gone_at n v w same = fun_ext (λ k. ⊎_elim (λ e. subst (λ l. without_name n w l ≡ without_name n v l) e
    (put_same w n None ∙ sym (put_same v n None)))
    (λ apart. put_other w n k None apart ∙ (same k apart ∙ sym (put_other v n k None apart))) (name_cases n k))

-- a file that alone may have changed is removed
pub gone_then : (n : List ℕ) (o o2 o3 : Option View) → Moves (bytes_eq n) (λ v. v) o o2 → Becomes (without_name n) o2 o3
    → Becomes (without_name n) o o3
gone_then n None o2 o3 moves becomes = becomes ∙ ap (option_map (without_name n)) moves
gone_then n (Some v) None o3 moves becomes = absurd moves
gone_then n (Some v) (Some w) o3 moves becomes = becomes ∙ ap (λ (u : View). Some u) (gone_at n v w moves)

-- ---- the call's arguments

pub plan_touches : (n : List ℕ) (a b : Told) → n ≡ plan_file → TouchesOnly (bytes_eq n) a b → TouchesOnly is_plan a b
plan_touches n a b is touches = subst (λ l. TouchesOnly (bytes_eq l) a b) is touches

pub plan_firm : (n : List ℕ) (a b : Told) → n ≡ plan_file → Leaves (IsFirm n) a b → Leaves (IsFirm plan_file) a b
plan_firm n a b is firm = subst (λ l. Leaves (IsFirm l) a b) is firm

pub gone_plan : (n : List ℕ) (a b : Told) → n ≡ plan_file → Becomes (without_name n) (seen a) (seen b)
    → Becomes (without_name plan_file) (seen a) (seen b)
gone_plan n a b is becomes = subst (λ l. Becomes (without_name l) (seen a) (seen b)) is becomes

pub plan_view : (ms : List Member) (n text : List ℕ) (a b : Told) → n ≡ plan_file → text ≡ intent_text (entries_of ms)
    → Becomes (λ (v : View). put v n (Some (file_of text))) (seen a) (seen b) → Becomes (planned ms) (seen a) (seen b)
plan_view ms n text a b is is_text becomes =
    subst (λ t. Becomes (λ (v : View). put v plan_file (Some (file_of t))) (seen a) (seen b)) is_text
    (subst (λ l. Becomes (λ (v : View). put v l (Some (file_of text))) (seen a) (seen b)) is becomes)

pub plan_there : (n text : List ℕ) (a b : Told) → Becomes (λ (v : View). put v n (Some (file_of text))) (seen a)
    (seen b) → IsThere n b
plan_there n text a b becomes = made_there n (file_of text) a b becomes

pub commit_view : (ms : List Member) (a b d : Told) → Becomes (planned ms) (seen a) (seen b)
    → Becomes (λ (v : View). completed ms (renamed plan_file intent_file v)) (seen b) (seen d)
    → Becomes (λ (v : View). completed ms (announced ms v)) (seen a) (seen d)
commit_view ms a b d first next = becomes_both (planned ms) (λ (v : View). completed ms
    (renamed plan_file intent_file v)) (seen a) (seen b) (seen d) first next
