-- Runs of a story in which a group is finished, one behind another.
use Rattle.std.proofs.Common.{◌≡◌, List, [], ◌∷◌, ◌++◌, Some, option_map, refl, sym, ap, subst, ◌∙◌}
use Rattle.sccs_disk.specs.Files.{Model, View, view_of}
use Rattle.sccs_disk.specs.Images.{Allows, Full, Image}
use Rattle.sccs_disk.specs.Told.{Told, Tells, seen}
use Rattle.sccs_name_files.specs.Touches.{Each, earlier, newest}
use Rattle.sccs_name_files.proofs.Touched.{earlier_more, each_newest, newest_more}
use Rattle.sccs_crash_points.specs.Calm.{IsCalm}
use Rattle.sccs_crash_points.specs.CrashPoints.{Guards, IsFrom}
use Rattle.sccs_crash_points.specs.Recovery.{RecoversAs}
use Rattle.sccs_crash_points.proofs.Joined.{guarded_joined}
use Rattle.sccs_crash_points.proofs.Recovering.{recovers_itself, recovers_then}
use Rattle.sccs_store.specs.Commits.{Becomes}
use Rattle.sccs_group.specs.Finishing.{CanFinish, Completes, CompletesBy, Finishes, FinishesBy, Follows, IsSettled}

-- ---- one model follows another

pub follows_itself : (m : Model) → Follows m m
follows_itself m = record {
  images = λ w image. (w, image, recovers_itself w);
  fulls =
      λ w full. (w, full, recovers_itself w);
  held = λ n sfile all. all;
}

pub from_image : (m m2 : Model) (w : View) → Allows (IsFrom m) m2 → IsFrom m2 w → IsFrom m w
from_image m m2 w all from =
    let first : IsFrom m from.0 = all from.0 from.1 in
    (first.0, first.1, recovers_then first.0 from.0 w first.2 from.2)

pub follows_then : (m m1 m2 : Model) → Follows m m1 → Follows m1 m2 → Follows m m2
follows_then m m1 m2 first next = record {
  images = λ w image. from_image m m1 w first.images (next.images w image);
  fulls = λ w full.
      let b : (u : View) × Full m1 u × RecoversAs u w = next.fulls w full in
      let a : (u : View) × Full m u × RecoversAs u b.0 = first.fulls b.0 b.1 in
      (a.0, a.1, recovers_then a.0 b.0 w a.2 b.2);
  held = λ n sfile all. next.held n sfile (first.held n sfile all);
}

-- ---- crash points, one behind another

pub each_follows : (m m1 : Model) (later added : List Model) → newest added m ≡ m1 → Follows m m1
    → Each (Follows m1) later m1 → Each (Follows m) added m → Each (Follows m) (later ++ added) m
each_follows m m1 [] added is to later before = before
each_follows m m1 (a ∷ later) added is to later_each before =
    (follows_then m m1 a to later_each.0, each_follows m m1 later added is to later_each.1 before)

-- ---- one run behind another

abbrev pub finishes_then : (m : Model) (past : List Model) (b c : Told) → (first : Finishes m past b)
    → Finishes (newest first.added m) (earlier first.added m past) c → Finishes m past c
finishes_then m past b c first next = record {
  added = next.added ++ first.added;
  is =
      next.is
      ∙ (ap (λ (x : Model). Tells x (earlier next.added (newest first.added m) (earlier first.added m past)))
      (sym (newest_more next.added first.added m))
      ∙ ap (λ (x : List Model). Tells (newest (next.added ++ first.added) m) x)
      (sym (earlier_more next.added first.added m past)));
  each = each_follows m (newest first.added m) next.added first.added refl
      (each_newest (Follows m) first.added m first.each) next.each first.each;
  guarded = guarded_joined next.added first.added m first.guarded next.guarded;
  can = subst CanFinish (sym (newest_more next.added first.added m)) next.can;
}

abbrev pub finishes_same : (m : Model) (past : List Model) (t : Told) → t ≡ Tells m past → CanFinish m
    → Finishes m past t
finishes_same m past t is can = record { added = []; is = is; each = follows_itself m; guarded = tt; can = can }

abbrev pub finishes_one : (m m2 : Model) (past : List Model) (t : Told) → t ≡ Tells m2 (m ∷ past) → Follows m m2
    → Guards (view_of m) (view_of m2) → CanFinish m2 → Finishes m past t
finishes_one m m2 past t is follows guards can =
    record { added = m2 ∷ []; is = is; each = (follows, follows_itself m); guarded = (guards, tt); can = can }

abbrev pub completes_then : (m : Model) (past : List Model) (b c : Told) → (first : Finishes m past b)
    → Completes (newest first.added m) (earlier first.added m past) c → Completes m past c
completes_then m past b c first next = record {
  run = finishes_then m past b c first next.run;
  calm = subst IsCalm (sym (newest_more next.run.added first.added m)) next.calm;
  all = λ w image.
      let b : (u : View) × Full (newest first.added m) u × RecoversAs u w =
      next.all w (subst (λ (x : Model). Image x w) (newest_more next.run.added first.added m) image) in
      let a : (u : View) × Full m u × RecoversAs u b.0 = (each_newest (Follows m) first.added m first.each).fulls b.0
      b.1 in
      (a.0, a.1, recovers_then a.0 b.0 w a.2 b.2);
}

-- ---- clauses

pub view_is : (f : View → View) (old new : Told) (m m2 : Model) (past past2 : List Model) → old ≡ Tells m past
    → new ≡ Tells m2 past2 → Becomes f (seen old) (seen new) → view_of m2 ≡ f (view_of m)
view_is f old new m m2 past past2 is is2 becomes =
    some_is (view_of m2) (f (view_of m)) (sym (ap seen is2) ∙ (becomes ∙ ap (λ (t : Told). option_map f (seen t)) is))
  where
    some_is : (v w : View) → Some v ≡ Some w → v ≡ w
    some_is v w e = cc

pub by_same : (P : View → Type 0) (a b : Told) → b ≡ a → FinishesBy P a b
by_same P a b same = λ m past is can holds. finishes_same m past b (same ∙ is) can

pub by_weaker : (P Q : View → Type 0) (a b : Told) → ((v : View) → Q v → P v) → FinishesBy P a b → FinishesBy Q a b
by_weaker P Q a b weaker finishes = λ m past is can holds. finishes m past is can (weaker (view_of m) holds)

-- two calls, of which the first makes f of the view
pub by_then : (P Q : View → Type 0) (f : View → View) (a b c : Told) → Becomes f (seen a) (seen b)
    → ((v : View) → P v → Q (f v)) → FinishesBy P a b → FinishesBy Q b c → FinishesBy P a c
by_then P Q f a b c becomes holds first next = λ m past is can has.
    let run : Finishes m past b = first m past is can has in
    finishes_then m past b c run
    (next (newest run.added m) (earlier run.added m past) run.is run.can
    (subst Q (sym (view_is f a b m (newest run.added m) past (earlier run.added m past) is run.is becomes))
    (holds (view_of m) has)))

pub completes_by : (P Q : View → Type 0) (f : View → View) (a b c : Told) → Becomes f (seen a) (seen b)
    → ((v : View) → P v → Q (f v)) → FinishesBy P a b → CompletesBy Q b c → CompletesBy P a c
completes_by P Q f a b c becomes holds first next = λ m past is can has.
    let run : Finishes m past b = first m past is can has in
    completes_then m past b c run
    (next (newest run.added m) (earlier run.added m past) run.is run.can
    (subst Q (sym (view_is f a b m (newest run.added m) past (earlier run.added m past) is run.is becomes))
    (holds (view_of m) has)))

-- the same, where the second call needs that new pairs are settled
pub by_can : (P Q : View → Type 0) (f : View → View) (a b c : Told) → Becomes f (seen a) (seen b)
    → ((v : View) → IsSettled v → P v → Q (f v)) → FinishesBy P a b → FinishesBy Q b c → FinishesBy P a c
by_can P Q f a b c becomes holds first next = λ m past is can has.
    by_then (λ v. P v × IsSettled v) Q f a b c becomes (λ v both. holds v both.1 both.0) (λ m2 past2 is2 can2 both.
    first m2 past2 is2 can2 both.0) next m past is can (has, can.settled)

pub completes_can : (P Q : View → Type 0) (f : View → View) (a b c : Told) → Becomes f (seen a) (seen b)
    → ((v : View) → IsSettled v → P v → Q (f v)) → FinishesBy P a b → CompletesBy Q b c → CompletesBy P a c
completes_can P Q f a b c becomes holds first next = λ m past is can has.
    completes_by (λ v. P v × IsSettled v) Q f a b c becomes (λ v both. holds v both.1 both.0) (λ m2 past2 is2 can2 both.
    first m2 past2 is2 can2 both.0) next m past is can (has, can.settled)
