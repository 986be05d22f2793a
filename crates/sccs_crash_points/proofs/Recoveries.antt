-- Calls that may begin on any disk whose s-files and p-files are firm, one behind another.
use Rattle.std.proofs.Common.{◌≡◌, ℕ, List, [], refl, subst, ◌∙◌, arith}
use Rattle.sccs_base.specs.Name.{IsSFileName}
use Rattle.sccs_disk.specs.Files.{Model, View, view_of}
use Rattle.sccs_disk.specs.Images.{Allows}
use Rattle.sccs_disk.specs.Told.{Told}
use Rattle.sccs_name_files.specs.StepFiles.{is_working}
use Rattle.sccs_name_files.specs.Touches.{TouchesOnly, Touching, earlier, newest}
use Rattle.sccs_name_files.proofs.Images.{view_image}
use Rattle.sccs_crash_points.specs.Calm.{KeepsPairs}
use Rattle.sccs_crash_points.specs.CrashPoints.{CanRecover, EndsBefore, IsCalmUnnamed, IsFrom, KeepsCalm, LeavesCalm}
use Rattle.sccs_crash_points.specs.CrashPoints.{LeavesFirm, RecoversOn, Went}
use Rattle.sccs_crash_points.proofs.CalmDisks.{calm_firm}
use Rattle.sccs_crash_points.proofs.Joined.{newest_is, numbered_as, numbered_now, went_then}
use Rattle.sccs_crash_points.proofs.Recovering.{fate_same, recovers_then}
use Rattle.sccs_crash_points.proofs.Untouched.{ends_working}

-- ---- nothing is told anew

pub story_same : (a b : Told) → b ≡ a → RecoversOn a b
story_same a b same = λ m past is firm. record {
  added = [];
  is = same ∙ is;
  numbers = (omega arith, λ w image. (w, image, λ k sfile. refl));
  guarded = tt;
}

pub firm_same : (a b : Told) → b ≡ a → LeavesFirm a b
firm_same a b same = λ m past is firm m2 past2 is2. subst CanRecover (newest_is m m2 past past2 [] b (same ∙ is) is2)
    firm

pub calm_same : (a b : Told) → b ≡ a → KeepsCalm a b
calm_same a b same = λ m past is calm m2 past2 is2. subst IsCalmUnnamed (newest_is m m2 past past2 [] b (same ∙ is) is2)
    calm

-- ---- what leaves a calm disk keeps one

-- what recovery needs, on a calm disk
pub calm_recovers : (m : Model) → IsCalmUnnamed m → CanRecover m
calm_recovers m at = record {
  firm = calm_firm m at.calm;
  unnamed = λ w image n sfile. fate_same n (view_of m) w
      (at.calm w image).intent ∙ at.unnamed n sfile;
}

pub calm_keeps : (a b : Told) → LeavesCalm a b → KeepsCalm a b
calm_keeps a b leaves = λ m past is at. leaves m past is (calm_recovers m at)

pub working_calm : (n : List ℕ) (a b : Told) → IsSFileName n → TouchesOnly (is_working n) a b → KeepsCalm a b
working_calm n a b sfile touches = λ m past is at m2 past2 is2.
    let run : Touching (is_working n) m past b = touches m past is in
    let ends : EndsBefore (view_of m) m past b = ends_working n m past b sfile
    (record { calm = at.calm; unnamed = at.unnamed n sfile }) run in
    subst IsCalmUnnamed (newest_is m m2 past past2 ends.0.added b ends.0.is is2)
    (record {
      calm = ends.1;
      unnamed = λ k other.
          fate_same k (view_of m) (view_of (newest ends.0.added m))
          (numbered_now (λ i m2. Allows (KeepsPairs (view_of m)) m2) 0 ends.0.added m 0 ends.0.numbers
          (view_of (newest ends.0.added m)) (view_image (newest ends.0.added m))).intent
          ∙ at.unnamed k other;
    })

-- ---- one call behind another

from_then : (m m1 : Model) (w : View) → Allows (IsFrom m) m1 → IsFrom m1 w → IsFrom m w
from_then m m1 w all from =
    let first : IsFrom m from.0 = all from.0 from.1 in
    (first.0, first.1, recovers_then first.0 from.0 w first.2 from.2)

story_on : (m : Model) (past : List Model) (b c : Told) → (went : Went (λ j w. IsFrom m w) m past 0 b)
    → Went (λ j w. IsFrom (newest went.added m) w) (newest went.added m) (earlier went.added m past) 0 c
    → Went (λ j w. IsFrom m w) m past 0 c
story_on m past b c went later = went_then (λ j w. IsFrom m w) m past 0 b c went (record {
  added = later.added;
  is = later.is;
  numbers =
      numbered_as (λ i m2. Allows (IsFrom (newest went.added m)) m2) (λ i m2. Allows (IsFrom m) m2) 0 later.added
      (newest went.added m) 0
      (λ i low m2 from w image. from_then m (newest went.added m) w (numbered_now (λ i m2. Allows (IsFrom m) m2) 0
      went.added m 0 went.numbers) (from w image)) later.numbers;
  guarded = later.guarded;
})

pub story_then : (a b c : Told) → RecoversOn a b → LeavesFirm a b → RecoversOn b c → RecoversOn a c
story_then a b c first firm next = λ m past is has.
    let went : Went (λ j w. IsFrom m w) m past 0 b = first m past is has in
    story_on m past b c went (next (newest went.added m) (earlier went.added m past) went.is
    (firm m past is has (newest went.added m) (earlier went.added m past) went.is))

pub firm_then : (a b c : Told) → RecoversOn a b → LeavesFirm a b → LeavesFirm b c → LeavesFirm a c
firm_then a b c story first next = λ m past is has.
    let went : Went (λ j w. IsFrom m w) m past 0 b = story m past is has in
    next (newest went.added m) (earlier went.added m past) went.is (first m past is has (newest went.added m)
    (earlier went.added m past) went.is)

pub keeps_then : (a b c : Told) → RecoversOn a b → KeepsCalm a b → KeepsCalm b c → KeepsCalm a c
keeps_then a b c story first next = λ m past is calm.
    let went : Went (λ j w. IsFrom m w) m past 0 b = story m past is (calm_recovers m calm) in
    next (newest went.added m) (earlier went.added m past) went.is (first m past is calm (newest went.added m)
    (earlier went.added m past) went.is)

-- the later one leaves a calm disk, or the first one does and the later one keeps it
pub calm_later : (a b c : Told) → RecoversOn a b → LeavesFirm a b → LeavesCalm b c → LeavesCalm a c
calm_later a b c story firm next = λ m past is has.
    let went : Went (λ j w. IsFrom m w) m past 0 b = story m past is has in
    next (newest went.added m) (earlier went.added m past) went.is (firm m past is has (newest went.added m)
    (earlier went.added m past) went.is)

pub calm_kept_on : (a b c : Told) → RecoversOn a b → LeavesCalm a b → KeepsCalm b c → LeavesCalm a c
calm_kept_on a b c story first next = λ m past is has.
    let went : Went (λ j w. IsFrom m w) m past 0 b = story m past is has in
    next (newest went.added m) (earlier went.added m past) went.is (first m past is has (newest went.added m)
    (earlier went.added m past) went.is)
