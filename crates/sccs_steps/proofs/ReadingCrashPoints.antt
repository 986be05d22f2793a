-- The crash points of a step that only reads: nothing is told anew.
use Rattle.std.proofs.Common.{◌≡◌, ℕ, true, List, [], map, Option, None, IfSome, Result, Ok, Err, inr, refl, sym, subst}
use Rattle.std.proofs.Common.{◌∙◌}
use Rattle.sccs_base.proofs.Gifts.{gives_none, some_none}
use Rattle.sccs_sid.specs.declared.refusals.StepFault.{StepFault}
use Rattle.sccs_sid.specs.declared.refusals.StepFault.TheVariants.{Refused, Memory, ReadFault, WriteFault, DiskFault}
use Rattle.sccs_disk.specs.Files.{Model, view_of}
use Rattle.sccs_disk.specs.Told.{Told, Tells, seen}
use Rattle.sccs_name_files.specs.StepFiles.{Files, look, moved}
use Rattle.sccs_crash_points.specs.Calm.{IsCalm}
use Rattle.sccs_crash_points.proofs.Untouched.{before_after, before_within, same_before}
use Rattle.sccs_steps.specs.StepEffects.{Outcome, StepEffect, effect_of}
use Rattle.sccs_steps.specs.Calls.{Meets, Scene, shown}
use Rattle.sccs_steps.specs.Actions.{Action, IsHeard, KeepsFiles, RefusesWithin, SpeaksByAs, Stepped, SteppedAs}
use Rattle.sccs_steps.specs.Actions.{quiet_checks}
use Rattle.sccs_steps.specs.StepStops.{After, Before, Ends, MeetsAtAs, Place, StepCrashPoints, StepCrashPointsAs}
use Rattle.sccs_steps.specs.StepStops.{Within, place_as}
use Rattle.sccs_steps.proofs.Clear.{kept_effect}
use Rattle.sccs_steps.proofs.SafeImages.{recovers_before}

-- wherever such a call ends
still_ends : (p : Place) (x : Action) (n : List ℕ) (m : Model) (past : List Model) (t : Told) → x.reads ≡ true
    → IsCalm m → t ≡ Tells m past → Ends p x n (view_of m) (view_of m) m past t
still_ends Before x n m past t reads calm is = same_before m past t calm is
still_ends Within x n m past t reads calm is = (
  before_within (view_of m) (view_of m) m past t (same_before m past t calm is),
  inr (recovers_before (view_of m) m past t (same_before m past t calm is)),
)
still_ends After x n m past t reads calm is = (
  before_after (view_of m) m past t (same_before m past t calm is),
  λ changes. absurd (cc),
)

met_at : {X : Type 0} (code : X → ℕ) (x : Action) (r : Result X StepFault) (n : List ℕ) (o : Outcome) (m : Model)
    (past : List Model) (a b : Scene) → x.reads ≡ true → (effect_of n o).new ≡ None → IsCalm m → b.told ≡ Tells m past
    → Meets code r n o (shown a) (shown b) → MeetsAtAs code x r n o (view_of m) m past a b
met_at code x r n o m past a b reads none calm is met = (
  met,
  subst (λ (new : Option Files). Ends (place_as code r n o (shown a) (shown b) met) x n (view_of m)
      (moved (view_of m) n new) m past b.told) (sym none) (still_ends (place_as code r n o (shown a) (shown b) met) x
      n m past b.told reads calm is),
)

-- of a step that answers what stands for a status
pub reading_crash_points_as : {X : Type 0} (code : X → ℕ) (x : Action) (r : Result X StepFault) (n : List ℕ)
    (left : Option (List ℕ)) (a b : Scene) → KeepsFiles x → x.reads ≡ true → b.told ≡ a.told
    → SteppedAs code x r n left a b → StepCrashPointsAs code x r n left a b
reading_crash_points_as code x r n left a b keeps reads same stepped = λ m past i is heard calm safe.
    let o : Outcome = x.step n i (map (view_of m) (x.named n)) (look (view_of m) n) in
    met_at code x r n o m past a b reads (kept_effect x.reads n o (λ only. keeps.quiet only n i
    (map (view_of m) (x.named n)) (look (view_of m) n)) reads) calm (same ∙ is)
    (subst (λ (t : Told). IfSome (seen t) (λ v. (j : List ℕ) → IsHeard x.takes left j
    → Meets code r n (x.step n j (map v (x.named n)) (look v n)) (shown a) (shown b))) is stepped i heard)

pub reading_crash_points : (x : Action) (r : Result (Unit {0}) StepFault) (n : List ℕ) (left : Option (List ℕ))
    (a b : Scene) → KeepsFiles x → x.reads ≡ true → b.told ≡ a.told → Stepped x r n left a b
    → StepCrashPoints x r n left a b
reading_crash_points x r n left a b keeps reads same stepped = reading_crash_points_as (λ (done : Unit {0}). 0) x r n
    left a b keeps reads same stepped

-- ---- over any disk

-- nothing is said on err but why the step is refused
abbrev silent_effect : ℕ → StepEffect
silent_effect status = record { new = None; text = []; out = []; err = []; status = status }

pub quiet_speaks : (checks : List ℕ) (r : Result ℕ StepFault) (n : List ℕ) (err : Option (List ℕ))
    → RefusesWithin checks r → SpeaksByAs (λ (status : ℕ). status) (quiet_checks checks) r n err err
quiet_speaks checks (Ok status) n err within =
    (Ok (silent_effect status), refl, (silent_effect status, refl, refl, gives_none err))
quiet_speaks checks (Err (Refused refusal)) n err within = (Err refusal, within refusal refl, (refl, refl))
quiet_speaks checks (Err Memory) n err within = (Ok (silent_effect 0), refl, some_none err [])
quiet_speaks checks (Err ReadFault) n err within = (Ok (silent_effect 0), refl, some_none err [])
quiet_speaks checks (Err WriteFault) n err within = (Ok (silent_effect 0), refl, some_none err [])
quiet_speaks checks (Err DiskFault) n err within = (Ok (silent_effect 0), refl, some_none err [])
