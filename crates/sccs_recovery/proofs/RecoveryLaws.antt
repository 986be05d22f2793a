-- What recovery makes of a view, and what a stop in it leaves.
use Rattle.std.proofs.Common.{◌≡◌, ℕ, Bool, false, cond, List, [], ◌∷◌, Option, None, Some, option_map, IfOk, IfSome}
use Rattle.std.proofs.Common.{IsSome, is_some, OnErr, OnOk, Result, Ok, Err, inl, inr, refl, sym, ap, subst, ◌∙◌}
use Rattle.std.proofs.Common.{⊎_elim, arith}
use Rattle.sccs_base.specs.Name.{IsSFileName, p_file, q_file, x_file, z_file}
use Rattle.sccs_disk.specs.Calls.{Done, Half, IsThere}
use Rattle.sccs_disk.specs.Effects.{settled, syncing_names}
use Rattle.sccs_disk.specs.Files.{Content, Model, View, put, view_of}
use Rattle.sccs_disk.specs.Images.{Allows, Image, IsFirm}
use Rattle.sccs_disk.specs.Told.{Told, Tells, seen}
use Rattle.sccs_disk.proofs.Puts.{put_again, put_back, put_same}
use Rattle.sccs_name_files.specs.StepFiles.{is_working}
use Rattle.sccs_name_files.specs.Touches.{Leaves, Touches, TouchesOnly, Touching, earlier, newest}
use Rattle.sccs_name_files.proofs.Images.{full_image, image_settled, view_image}
use Rattle.sccs_name_files.proofs.Touched.{each_newest}
use Rattle.sccs_pfile.specs.Recovered.{recovered_pfile, written_pfile}
use Rattle.sccs_pfile.proofs.Recovering.{twice_once}
use Rattle.sccs_intents.specs.Intents.{intent_file}
use Rattle.sccs_crash_points.specs.Calm.{HasFirm, IsCalm}
use Rattle.sccs_crash_points.specs.CrashPoints.{CanRecover, IsCalmUnnamed, IsFrom, IsNew, LeavesCalm, LeavesFirm}
use Rattle.sccs_crash_points.specs.CrashPoints.{NamesNone, RecoversOn, Went}
use Rattle.sccs_crash_points.specs.Recovery.{RecoversAs, cleared, fate_at, pair_of, recover, recover_alone, recover_by}
use Rattle.sccs_crash_points.specs.Recovery.{without_name}
use Rattle.sccs_crash_points.proofs.CalmDisks.{calm_settled, firms_touched}
use Rattle.sccs_crash_points.proofs.FileNames.{working_s}
use Rattle.sccs_crash_points.proofs.Joined.{newest_is, numbered_now, numbered_plain, numbered_zero, went_then}
use Rattle.sccs_crash_points.proofs.Recoveries.{calm_recovers, firm_same, story_same}
use Rattle.sccs_crash_points.proofs.Recovering.{alone_by, by_lock, fate_same, p_of, pair, recover_intent}
use Rattle.sccs_crash_points.proofs.Recovering.{recovers_recovered, recovers_then, s_of}
use Rattle.sccs_crash_points.proofs.Untouched.{from_touched, guards_touched, none_named, none_replaced}
use Rattle.sccs_store.specs.Commits.{Becomes, Needs, Plan, committed, files_after, plan, swapped}
use Rattle.sccs_store.specs.Stops.{CanCommit, CommitEnds, CommitStops, OnReplace}
use Rattle.sccs_store.specs.declared.new_files.NewFile.{NewFile}
use Rattle.sccs_store.specs.declared.new_files.NewFile.TheVariants.{Keep, Replace, Remove}
use Rattle.sccs_store.proofs.Parts.{committed_pair}
use Rattle.sccs_store.proofs.Working.{leaves_from}
use Rattle.sccs_recovery.specs.Entries.{PreparesLeft, Recovers, new_of, pfile_left}
use Rattle.sccs_recovery.specs.declared.entries_left.PfileLeft.{PfileLeft}
use Rattle.sccs_recovery.specs.declared.entries_left.PfileLeft.TheVariants.{Same, Gone, Others}

-- ---- the view

abbrev pub plan_left : NewFile → Plan
plan_left new = plan false new Keep

pub cleared_q : (n : List ℕ) (v : View) → cleared n v (q_file n) ≡ None
cleared_q n v = put_same (without_name (x_file n) v) (q_file n) None

-- the q-file in the place of the p-file, where there was none
pub q_placed : (n : List ℕ) (u : View) (x : Option Content) → u (q_file n) ≡ None → swapped Replace (q_file n)
    (p_file n) (put u (q_file n) x) ≡ put u (p_file n) x
q_placed n u x none =
    ap (λ (o : Option Content). put (put (put u (q_file n) x) (q_file n) None) (p_file n) o) (put_same u (q_file n) x)
    ∙ ap (λ (w : View). put w (p_file n) x) (put_again u (q_file n) x None
    ∙ (ap (λ (o : Option Content). put u (q_file n) o) (sym none) ∙ put_back u (q_file n)))

-- the view after the working files are gone and the q-file is prepared
abbrev prepared : List ℕ → PfileLeft → View → View
prepared n Same v = cleared n v
prepared n Gone v = cleared n v
prepared n (Others edits) v = put (cleared n v) (q_file n) (Some (written_pfile edits))

swapped_left : (n : List ℕ) (left : PfileLeft) (v : View) → swapped (new_of left) (q_file n) (p_file n)
    (prepared n left v) ≡ put (cleared n v) (p_file n) (pfile_left (v (p_file n)) left)
swapped_left n Same v = sym (put_back (cleared n v) (p_file n))
swapped_left n Gone v = refl
swapped_left n (Others edits) v = q_placed n (cleared n v) (Some (written_pfile edits)) (cleared_q n v)

-- a commit makes of it what recovery makes of the view
committed_left : (n : List ℕ) (left : PfileLeft) (v : View) → IsSome (v (z_file n)) → Recovers (v n) (v (p_file n)) left
    → committed n (plan_left (new_of left)) (prepared n left v) ≡ recover_alone n v
committed_left n left v there recovers =
    ap (without_name (z_file n)) (swapped_left n left v ∙ ap (λ (o : Option Content). put (cleared n v) (p_file n) o)
    (sym recovers.is))
    ∙ sym (ap (alone_by n v) there)

both_by : (n : List ℕ) (left : PfileLeft) (v : View) (o1 o2 : Option View) → o1 ≡ Some (cleared n v)
    → PreparesLeft n left o1 o2 → o2 ≡ Some (prepared n left v)
both_by n Same v o1 o2 first second = second ∙ first
both_by n Gone v o1 o2 first second = second ∙ first
both_by n (Others edits) v o1 o2 first second = second
    ∙ ap (option_map (λ (u : View). put u (q_file n) (Some (written_pfile edits)))) first

none_by : (n : List ℕ) (left : PfileLeft) (o1 o2 : Option View) → o1 ≡ None → PreparesLeft n left o1 o2 → o2 ≡ None
none_by n Same o1 o2 first second = second ∙ first
none_by n Gone o1 o2 first second = second ∙ first
none_by n (Others edits) o1 o2 first second = second
    ∙ ap (option_map (λ (u : View). put u (q_file n) (Some (written_pfile edits)))) first

pub prepared_view : (n : List ℕ) (left : PfileLeft) (new : NewFile) (o o1 o2 : Option View) → new ≡ new_of left
    → IfSome o (λ (v : View). IsSome (v (z_file n))) → IfSome o (λ (v : View). Recovers (v n) (v (p_file n)) left)
    → Becomes (cleared n) o o1 → PreparesLeft n left o1 o2 → option_map (committed n (plan_left new)) o2 ≡ option_map
    (recover_alone n) o
prepared_view n left new None o1 o2 is there recovers first second = ap (option_map (committed n (plan_left new)))
    (none_by n left o1 o2 first second)
prepared_view n left new (Some v) o1 o2 is there recovers first second =
    ap (option_map (committed n (plan_left new))) (both_by n left v o1 o2 first second)
    ∙ (ap (λ (x : NewFile). Some (committed n (plan_left x) (prepared n left v))) is ∙ ap (λ (u : View). Some u)
    (committed_left n left v there recovers))

-- what the commit needs is there
prepared_z : (n : List ℕ) (left : PfileLeft) (v : View) → IsSome (v (z_file n)) → IsSome (prepared n left v (z_file n))
prepared_z n Same v there = there
prepared_z n Gone v there = there
prepared_z n (Others edits) v there = there

pub prepared_there : (n : List ℕ) (left : PfileLeft) (o o1 o2 : Option View)
    → IfSome o (λ (v : View). IsSome (v (z_file n))) → Becomes (cleared n) o o1 → PreparesLeft n left o1 o2
    → IfSome o2 (λ (v : View). IsSome (v (z_file n)))
prepared_there n left None o1 o2 there first second =
    subst (λ (x : Option View). IfSome x (λ (v : View). IsSome (v (z_file n))))
    (sym (none_by n left o1 o2 first second)) tt
prepared_there n left (Some v) o1 o2 there first second =
    subst (λ (x : Option View). IfSome x (λ (u : View). IsSome (u (z_file n))))
    (sym (both_by n left v o1 o2 first second)) (prepared_z n left v there)

abbrev needs_of : NewFile → List ℕ → Option View → Type 0
needs_of Keep n o = Unit {0}
needs_of Replace n o = IfSome o (λ (v : View). IsSome (v (q_file n)))
needs_of Remove n o = IfSome o (λ (v : View). IsSome (v (p_file n)))

needs_left : (n : List ℕ) (left : PfileLeft) (v : View) → Recovers (v n) (v (p_file n)) left → needs_of (new_of left) n
    (Some (prepared n left v))
needs_left n Same v recovers = tt
needs_left n Gone v recovers = recovers.gone
needs_left n (Others edits) v recovers =
    subst IsSome (sym (put_same (cleared n v) (q_file n) (Some (written_pfile edits)))) refl

needs_none : (n : List ℕ) (new : NewFile) → needs_of new n None
needs_none n Keep = tt
needs_none n Replace = tt
needs_none n Remove = tt

needs_told : (n : List ℕ) (new : NewFile) (t : Told) → needs_of new n (seen t) → Needs new (q_file n) (p_file n) t
needs_told n Keep t needs = needs
needs_told n Replace t needs = needs
needs_told n Remove t needs = needs

needs_seen : (n : List ℕ) (left : PfileLeft) (o o1 o2 : Option View)
    → IfSome o (λ (v : View). Recovers (v n) (v (p_file n)) left) → Becomes (cleared n) o o1 → PreparesLeft n left o1 o2
    → needs_of (new_of left) n o2
needs_seen n left None o1 o2 recovers first second = subst (needs_of (new_of left) n)
    (sym (none_by n left o1 o2 first second)) (needs_none n (new_of left))
needs_seen n left (Some v) o1 o2 recovers first second = subst (needs_of (new_of left) n)
    (sym (both_by n left v o1 o2 first second)) (needs_left n left v recovers)

pub prepared_needs : (n : List ℕ) (left : PfileLeft) (new : NewFile) (a b d : Told) → new ≡ new_of left
    → IfSome (seen a) (λ (v : View). Recovers (v n) (v (p_file n)) left) → Becomes (cleared n) (seen a) (seen b)
    → PreparesLeft n left (seen b) (seen d)
    → Needs new (q_file n) (p_file n) d
prepared_needs n left new a b d is recovers first second =
    needs_told n new d (subst (λ (x : NewFile). needs_of x n (seen d)) (sym is) (needs_seen n left (seen a) (seen b)
    (seen d) recovers first second))

-- ---- crash points

-- no intent names an s-file, so recovery of a name goes by its z-file alone
alone_is : (n : List ℕ) (v : View) → fate_at v n ≡ None → recover n v ≡ recover_alone n v
alone_is n v none = ap (recover_by n v) none

now_unnamed : (m : Model) → CanRecover m → NamesNone (view_of m)
now_unnamed m can = can.unnamed (view_of m) (view_image m)

-- a run that touches working files alone
abbrev pub from_run : (n : List ℕ) (m : Model) (past : List Model) (t : Told) → IsSFileName n → CanRecover m
    → (run : Touching (is_working n) m past t) → Went (λ j w. IsFrom m w) m past 0 t
from_run n m past t sfile can run = record {
  added = run.added;
  is = run.is;
  numbers = numbered_zero (Touches (is_working n) m) (λ i m2. Allows (IsFrom m) m2) run.added m
      (λ m2 touches. from_touched n m m2 sfile (λ w image. can.unnamed w image n sfile) touches) run.each;
  guarded = guards_touched (is_working n) m run.added (λ k other. working_s n k other) (λ k other. refl) run.each;
}

pub touched_story : (n : List ℕ) (a b : Told) → IsSFileName n → TouchesOnly (is_working n) a b → RecoversOn a b
touched_story n a b sfile touches = λ m past is can. from_run n m past b sfile can (touches m past is)

-- the story stays, where nothing is told anew
pub same_story : (a b : Told) → b ≡ a → RecoversOn a b
same_story a b same = story_same a b same

pub story_from : (a b d : Told) → b ≡ a → RecoversOn b d → RecoversOn a d
story_from a b d same story = subst (λ t. RecoversOn t d) same story

pub calm_from : (a b d : Told) → b ≡ a → LeavesCalm b d → LeavesCalm a d
calm_from a b d same calm = subst (λ t. LeavesCalm t d) same calm

touched_now : (n : List ℕ) (m : Model) (past : List Model) (t : Told) → (run : Touching (is_working n) m past t)
    → Touches (is_working n) m (newest run.added m)
touched_now n m past t run = each_newest (Touches (is_working n) m) run.added m run.each

firm_touching : (n : List ℕ) (m m2 : Model) → CanRecover m → Touches (is_working n) m m2 → HasFirm m2
firm_touching n m m2 can touches =
    firms_touched (is_working n) m m2 (λ k other. working_s n k other) (λ k other. refl) refl
    (λ k other named. absurd (none_named (fate_at (view_of m) k) (now_unnamed m can k other) named))
    (λ k other named. absurd (none_replaced (fate_at (view_of m) k) (now_unnamed m can k other) named)) touches can.firm

none_touching : (n : List ℕ) (m m2 : Model) → CanRecover m → Touches (is_working n) m m2 → Allows NamesNone m2
none_touching n m m2 can touches = λ w image k sfile.
    let x : (u : View) × Image m u × ((l : List ℕ) → is_working n l ≡ false → u l ≡ w l) = touches.images w image in
    fate_same k x.0 w (sym (x.2 intent_file refl)) ∙ can.unnamed x.0 x.1 k sfile

can_now : (n : List ℕ) (m : Model) (past : List Model) (t : Told) → CanRecover m
    → (run : Touching (is_working n) m past t) → CanRecover (newest run.added m)
can_now n m past t can run = record {
  firm = firm_touching n m (newest run.added m) can (touched_now n m past t run);
  unnamed = none_touching n m (newest run.added m) can (touched_now n m past t run);
}

some_is : (v w : View) → Some v ≡ Some w → v ≡ w
some_is v w e = ap (λ (o : Option View). elim o as (λ _. View) [ None ↦ v | Some u ↦ u ]) e

-- the views of the models that are told
view_now : (n : List ℕ) (new : NewFile) (a b : Told) (m m1 : Model) (past past1 : List Model) → a ≡ Tells m past
    → b ≡ Tells m1 past1 → option_map (committed n (plan_left new)) (seen b) ≡ option_map (recover_alone n) (seen a)
    → committed n (plan_left new) (view_of m1) ≡ recover_alone n (view_of m)
view_now n new a b m m1 past past1 is is1 view =
    some_is (committed n (plan_left new) (view_of m1)) (recover_alone n (view_of m))
    (sym (ap (λ (t : Told). option_map (committed n (plan_left new)) (seen t)) is1)
    ∙ (view ∙ ap (λ (t : Told). option_map (recover_alone n) (seen t)) is))

model_there : (n : List ℕ) (m : Model) (past : List Model) (t : Told) → t ≡ Tells m past → IsThere (z_file n) t
    → IsSome (view_of m (z_file n))
model_there n m past t is there = subst (λ (x : Told). IfSome (seen x) (λ (v : View). IsSome (v (z_file n)))) is there

on_firm : (n : List ℕ) (new : NewFile) (a b : Told) (m m1 : Model) (past past1 : List Model) → a ≡ Tells m past
    → b ≡ Tells m1 past1 → OnReplace new (Leaves (IsFirm (q_file n)) a b) → OnReplace new (IsFirm (q_file n) m1)
on_firm n Keep a b m m1 past past1 is is1 firm = tt
on_firm n Replace a b m m1 past past1 is is1 firm = firm m past is m1 past1 is1
on_firm n Remove a b m m1 past past1 is is1 firm = tt

-- what the commit needs
can_commit : (n : List ℕ) (new : NewFile) (m m1 : Model) → IsSFileName n → CanRecover m1
    → OnReplace new (IsFirm (q_file n) m1) → IsSome (view_of m (z_file n)) → committed n (plan_left new) (view_of m1)
    ≡ recover_alone n (view_of m) → CanCommit n (plan_left new) m1
can_commit n new m m1 sfile can q there view = record {
  firm = can.firm;
  x_state = tt;
  q_state = q;
  plain = tt;
  entries = record { leaves = tt; sound = sound };
  unnamed = now_unnamed m1 can n sfile;
}
  where
    pairs : pair (files_after n (plan_left new) (view_of m1)).s (files_after n (plan_left new) (view_of m1)).p ≡ pair
        (view_of m n) (recovered_pfile (view_of m n) (view_of m (p_file n)))
    pairs =
        sym (committed_pair n (plan_left new) (view_of m1) tt sfile) ∙ (ap (λ (v : View). pair_of v n) view
        ∙ (by_lock n (view_of m) (is_some (view_of m (z_file n))) sfile
        ∙ ap (λ (b : Bool). pair (view_of m n) (cond b (recovered_pfile (view_of m n) (view_of m (p_file n)))
        (view_of m (p_file n)))) there))

    sound : recovered_pfile (files_after n (plan_left new) (view_of m1)).s (files_after n (plan_left new)
        (view_of m1)).p ≡ (files_after n (plan_left new) (view_of m1)).p
    sound =
        ap (λ (o : Option Content). recovered_pfile o (files_after n (plan_left new) (view_of m1)).p) (ap s_of pairs)
        ∙ (ap (recovered_pfile (view_of m n)) (ap p_of pairs) ∙ (twice_once (view_of m n) (view_of m (p_file n))
        ∙ sym (ap p_of pairs)))

-- What was prepared, before the commit: all that the exits of the commit need.
record Prepared (n : List ℕ) (new : NewFile) (m : Model) (past : List Model) (b : Told) : Type 0 where
  run : Touching (is_working n) m past b
  view : committed n (plan_left new) (view_of (newest run.added m)) ≡ recover_alone n (view_of m)
  can : CanCommit n (plan_left new) (newest run.added m)

is_prepared : (n : List ℕ) (new : NewFile) (a b : Told) (m : Model) (past : List Model) → IsSFileName n
    → IsThere (z_file n) a → option_map (committed n (plan_left new)) (seen b) ≡ option_map (recover_alone n) (seen a)
    → TouchesOnly (is_working n) a b → OnReplace new (Leaves (IsFirm (q_file n)) a b) → a ≡ Tells m past → CanRecover m
    → Prepared n new m past b
is_prepared n new a b m past sfile there view touches firm_q is can =
    let run : Touching (is_working n) m past b = touches m past is in
    let now : committed n (plan_left new) (view_of (newest run.added m)) ≡ recover_alone n (view_of m) =
    view_now n new a b m (newest run.added m) past (earlier run.added m past) is run.is view in
    record {
      run = run;
      view = now;
      can =
          can_commit n new m (newest run.added m) sfile (can_now n m past b can run)
          (on_firm n new a b m (newest run.added m) past (earlier run.added m past) is run.is firm_q)
          (model_there n m past a is there) now;
    }

-- the view after the commit
alone_view : (n : List ℕ) (new : NewFile) (m m1 : Model) → IsSFileName n → CanRecover m → committed n (plan_left new)
    (view_of m1) ≡ recover_alone n (view_of m) → recover n (view_of m) ≡ committed n (plan_left new) (view_of m1)
alone_view n new m m1 sfile can view = alone_is n (view_of m) (now_unnamed m can n sfile) ∙ sym view

-- an image of the commit recovers as some image from before
from_new : (n : List ℕ) (new : NewFile) (m m1 : Model) (j : ℕ) (u : View) → IsSFileName n → CanRecover m
    → Touches (is_working n) m m1 → committed n (plan_left new) (view_of m1) ≡ recover_alone n (view_of m)
    → IsNew m1 (committed n (plan_left new) (view_of m1)) j u → IsFrom m u
from_new n new m m1 j u sfile can touches view (inl new_one) = (
  view_of m,
  view_image m,
  recovers_then (view_of m) (committed n (plan_left new) (view_of m1)) u
      (subst (λ (w : View). RecoversAs (view_of m) w) (alone_view n new m m1 sfile can view)
      (recovers_recovered n (view_of m) sfile)) new_one.recovers,
)
from_new n new m m1 j u sfile can touches view (inr old) = from_touched n m m1 sfile
    (λ w image. can.unnamed w image n sfile) touches u old.1

-- and an intent names no s-file in it
none_new : (n : List ℕ) (new : NewFile) (m m1 : Model) (j : ℕ) (u : View) → IsSFileName n → CanRecover m
    → Touches (is_working n) m m1 → committed n (plan_left new) (view_of m1) ≡ recover_alone n (view_of m)
    → IsNew m1 (committed n (plan_left new) (view_of m1)) j u → NamesNone u
none_new n new m m1 j u sfile can touches view (inl new_one) = λ k other.
    fate_same k (view_of m) u (new_one.intent
    ∙ (ap (λ (w : View). w intent_file) (sym (alone_view n new m m1 sfile can view))
    ∙ recover_intent n (view_of m) sfile)) ∙ now_unnamed m can k other
none_new n new m m1 j u sfile can touches view (inr old) = none_touching n m m1 can touches u old.1

-- a run of the commit, as one of recovery
as_recovery : (n : List ℕ) (new : NewFile) (m m1 : Model) (past1 : List Model) (j : ℕ) (t : Told) → IsSFileName n
    → CanRecover m → Touches (is_working n) m m1 → committed n (plan_left new) (view_of m1) ≡ recover_alone n
    (view_of m)
    → (went : Went (IsNew m1 (committed n (plan_left new) (view_of m1))) m1 past1 j t)
    → Went (λ i w. IsFrom m w) m1 past1 0 t
as_recovery n new m m1 past1 j t sfile can touches view went = record {
  added = went.added;
  is = went.is;
  numbers = numbered_plain (λ i m2. Allows (IsNew m1 (committed n (plan_left new) (view_of m1)) i) m2)
      (Allows (IsFrom m)) 0 went.added m1 j (λ i m2 new_image w image. from_new n new m m1 i w sfile can touches view
      (new_image w image)) went.numbers;
  guarded = went.guarded;
}

-- at its end an intent names no s-file in any image
none_ended : (n : List ℕ) (new : NewFile) (m m1 : Model) (past1 : List Model) (j : ℕ) (t : Told) → IsSFileName n
    → CanRecover m → Touches (is_working n) m m1 → committed n (plan_left new) (view_of m1) ≡ recover_alone n
    (view_of m)
    → (went : Went (IsNew m1 (committed n (plan_left new) (view_of m1))) m1 past1 j t)
    → Allows NamesNone (newest went.added m1)
none_ended n new m m1 past1 j t sfile can touches view went = λ w image.
    none_new n new m m1 j w sfile can touches view
    (numbered_now (λ i m2. Allows (IsNew m1 (committed n (plan_left new) (view_of m1)) i) m2) 0 went.added m1 j
    went.numbers w image)

-- the commit was stopped
pub stopped_story : (n : List ℕ) (new : NewFile) (a b d : Told) → IsSFileName n → IsThere (z_file n) a
    → option_map (committed n (plan_left new)) (seen b) ≡ option_map (recover_alone n) (seen a)
    → TouchesOnly (is_working n) a b → OnReplace new (Leaves (IsFirm (q_file n)) a b)
    → CommitStops n (plan_left new) b d → RecoversOn a d
stopped_story n new a b d sfile there view touches firm_q stops = λ m past is can.
    let p : Prepared n new m past b = is_prepared n new a b m past sfile there view touches firm_q is can in
    went_then (λ j w. IsFrom m w) m past 0 b d (from_run n m past b sfile can p.run)
    (as_recovery n new m (newest p.run.added m) (earlier p.run.added m past) 0 d sfile can
    (touched_now n m past b p.run) p.view (stops (newest p.run.added m) (earlier p.run.added m past) p.run.is
    p.can).0)

-- the commit was made
pub ended_story : (n : List ℕ) (new : NewFile) (a b d : Told) → IsSFileName n → IsThere (z_file n) a
    → option_map (committed n (plan_left new)) (seen b) ≡ option_map (recover_alone n) (seen a)
    → TouchesOnly (is_working n) a b → OnReplace new (Leaves (IsFirm (q_file n)) a b) → CommitEnds n (plan_left new) b d
    → RecoversOn a d
ended_story n new a b d sfile there view touches firm_q ends = λ m past is can.
    let p : Prepared n new m past b = is_prepared n new a b m past sfile there view touches firm_q is can in
    went_then (λ j w. IsFrom m w) m past 0 b d (from_run n m past b sfile can p.run)
    (as_recovery n new m (newest p.run.added m) (earlier p.run.added m past) 1 d sfile can
    (touched_now n m past b p.run) p.view (ends (newest p.run.added m) (earlier p.run.added m past) p.run.is
    p.can).0)

pub ended_calm : (n : List ℕ) (new : NewFile) (a b d : Told) → IsSFileName n → IsThere (z_file n) a
    → option_map (committed n (plan_left new)) (seen b) ≡ option_map (recover_alone n) (seen a)
    → TouchesOnly (is_working n) a b → OnReplace new (Leaves (IsFirm (q_file n)) a b) → CommitEnds n (plan_left new) b d
    → LeavesCalm a d
ended_calm n new a b d sfile there view touches firm_q ends = λ m past is can m2 past2 is2.
    let p : Prepared n new m past b = is_prepared n new a b m past sfile there view touches firm_q is can in
    let e : (went : Went (IsNew (newest p.run.added m) (committed n (plan_left new) (view_of (newest p.run.added m))))
    (newest p.run.added m) (earlier p.run.added m past) 1 d) × IsCalm (newest went.added (newest p.run.added m))
    = ends (newest p.run.added m) (earlier p.run.added m past) p.run.is p.can in
    subst IsCalmUnnamed (newest_is (newest p.run.added m) m2 (earlier p.run.added m past) past2 e.0.added d e.0.is is2)
    (record {
      calm = e.1;
      unnamed =
          none_ended n new m (newest p.run.added m) (earlier p.run.added m past) 1 d sfile can
          (touched_now n m past b p.run) p.view e.0
          (view_of (newest e.0.added (newest p.run.added m))) (view_image (newest e.0.added (newest p.run.added m)));
    })

-- ---- names that are synced

settled_after : (n : List ℕ) (m : Model) (past : List Model) (b d : Told) → IsSFileName n → CanRecover m
    → (run : Touching (is_working n) m past b) → d ≡ Tells (settled (newest run.added m))
    (newest run.added m ∷ earlier run.added m past) → Went (λ j w. IsFrom m w) m past 0 d
settled_after n m past b d sfile can run is =
    went_then (λ j w. IsFrom m w) m past 0 b d (from_run n m past b sfile can run) (record {
      added = settled (newest run.added m) ∷ [];
      is = is;
      numbers = (
        λ w image. from_now w (full_image (newest run.added m) w (image_settled (newest run.added m) w image)),
        (0, omega arith, (omega arith, from_now)),
      );
      guarded = (λ k other. inl refl, tt);
    })
  where
    from_now : Allows (IsFrom m) (newest run.added m)
    from_now = from_touched n m (newest run.added m) sfile (λ w image. can.unnamed w image n sfile)
        (touched_now n m past b run)

pub synced_story : {T F : Type 0} (n : List ℕ) (a b d : Told) (r : Result T F) → IsSFileName n
    → TouchesOnly (is_working n) a b → OnOk r (Done syncing_names b d) → OnErr r (Half syncing_names b d)
    → RecoversOn a d
synced_story n a b d (Ok x) sfile touches done half = λ m past is can.
    let run : Touching (is_working n) m past b = touches m past is in settled_after n m past b d sfile can run
    (done.model _ _ run.is)
synced_story n a b d (Err e) sfile touches done half = λ m past is can.
    let run : Touching (is_working n) m past b = touches m past is in
    ⊎_elim (λ same. from_run n m past d sfile can (record { added = run.added; is = same ∙ run.is; each = run.each }))
    (λ made. settled_after n m past b d sfile can run
    (subst (λ (x : Model). d ≡ Tells x (newest run.added m ∷ earlier run.added m past)) made.2 made.1))
    (half.model _ _ run.is)

settled_calm : (m : Model) → CanRecover m → IsCalmUnnamed (settled m)
settled_calm m can = record { calm = calm_settled m can.firm; unnamed = now_unnamed m can }

pub synced_calm : (n : List ℕ) (a b d : Told) → TouchesOnly (is_working n) a b → Done syncing_names b d → LeavesCalm a d
synced_calm n a b d touches done = λ m past is can m2 past2 is2.
    let run : Touching (is_working n) m past b = touches m past is in
    subst IsCalmUnnamed (model_is (settled (newest run.added m)) m2 _ past2 (sym (done.model _ _ run.is) ∙ is2))
    (settled_calm (newest run.added m) (can_now n m past b can run))
  where
    model_is : (x y : Model) (p q : List Model) → Tells x p ≡ Tells y q → x ≡ y
    model_is x y p q e = cc

-- ---- recovery may begin again

pub touched_firm : (n : List ℕ) (a b : Told) → TouchesOnly (is_working n) a b → LeavesFirm a b
touched_firm n a b touches = λ m past is can m2 past2 is2.
    let run : Touching (is_working n) m past b = touches m past is in
    subst CanRecover (newest_is m m2 past past2 run.added b run.is is2) (can_now n m past b can run)

pub same_firm : (a b : Told) → b ≡ a → LeavesFirm a b
same_firm a b same = firm_same a b same

pub firm_since : (a b d : Told) → b ≡ a → LeavesFirm b d → LeavesFirm a d
firm_since a b d same firm = subst (λ t. LeavesFirm t d) same firm

pub calm_leaves : (a b : Told) → LeavesCalm a b → LeavesFirm a b
calm_leaves a b calm = λ m past is can m2 past2 is2. calm_recovers m2 (calm m past is can m2 past2 is2)

pub stopped_firm : (n : List ℕ) (new : NewFile) (a b d : Told) → IsSFileName n → IsThere (z_file n) a
    → option_map (committed n (plan_left new)) (seen b) ≡ option_map (recover_alone n) (seen a)
    → TouchesOnly (is_working n) a b → OnReplace new (Leaves (IsFirm (q_file n)) a b)
    → CommitStops n (plan_left new) b d → LeavesFirm a d
stopped_firm n new a b d sfile there view touches firm_q stops = λ m past is can m2 past2 is2.
    let p : Prepared n new m past b = is_prepared n new a b m past sfile there view touches firm_q is can in
    let e : (went : Went (IsNew (newest p.run.added m) (committed n (plan_left new) (view_of (newest p.run.added m))))
    (newest p.run.added m) (earlier p.run.added m past) 0 d) × HasFirm (newest went.added (newest p.run.added m))
    = stops (newest p.run.added m) (earlier p.run.added m past) p.run.is p.can in
    subst CanRecover (newest_is (newest p.run.added m) m2 (earlier p.run.added m past) past2 e.0.added d e.0.is is2)
    (record {
      firm = e.1;
      unnamed = none_ended n new m (newest p.run.added m) (earlier p.run.added m past) 0 d sfile can
          (touched_now n m past b p.run) p.view e.0;
    })

pub synced_firm : {T F : Type 0} (n : List ℕ) (a b d : Told) (r : Result T F) → TouchesOnly (is_working n) a b
    → OnOk r (Done syncing_names b d) → OnErr r (Half syncing_names b d) → LeavesFirm a d
synced_firm n a b d (Ok x) touches done half = calm_leaves a d (synced_calm n a b d touches done)
synced_firm n a b d (Err e) touches done half = λ m past is can m2 past2 is2.
    let run : Touching (is_working n) m past b = touches m past is in
    ⊎_elim (λ same. subst CanRecover (newest_is m m2 past past2 run.added d (same ∙ run.is) is2)
    (can_now n m past b can run))
    (λ made. subst CanRecover (newest_is (newest run.added m) m2 (earlier run.added m past) past2
    (settled (newest run.added m) ∷ []) d
    (subst (λ (x : Model). d ≡ Tells x (newest run.added m ∷ earlier run.added m past)) made.2 made.1) is2)
    (calm_recovers (settled (newest run.added m)) (settled_calm (newest run.added m) (can_now n m past b can run))))
    (half.model _ _ run.is)

-- ---- results

pub both_ok : {T E Q : Type 0} {P R : T → Type 0} (r : Result T E) → IfOk r P → OnOk r Q → ((x : T) → P x → Q → R x)
    → IfOk r R
both_ok (Ok x) p q f = f x p q
both_ok (Err e) p q f = tt

pub firm_from : {E : Type 0} (r : Result NewFile E) (P : Model → Type 0) (mine : List ℕ → Bool) (a b d : Told)
    → TouchesOnly mine a b → IfOk r (λ new. OnReplace new (Leaves P b d)) → IfOk r (λ new. OnReplace new (Leaves P a d))
firm_from (Ok Keep) P mine a b d touches firm = tt
firm_from (Ok Replace) P mine a b d touches firm = leaves_from P mine a b d touches firm
firm_from (Ok Remove) P mine a b d touches firm = tt
firm_from (Err e) P mine a b d touches firm = tt
