-- What the call of what makes of its action.
use Rattle.std.proofs.Common.{◌≡◌, ℕ, Bool, false, List, map, Option, None, Some, Result, Ok, Err, IfSome, refl, ap}
use Rattle.std.proofs.Common.{subst}
use Rattle.sccs_disk.specs.Files.{View}
use Rattle.sccs_disk.specs.Told.{Told, seen}
use Rattle.sccs_name_files.specs.StepFiles.{look}
use Rattle.sccs_sid.specs.declared.refusals.StepFault.{StepFault}
use Rattle.sccs_steps.specs.StepEffects.{Outcome}
use Rattle.sccs_steps.specs.Actions.{IsHeard, RefusesWithin, SteppedAs}
use Rattle.sccs_steps.specs.Calls.{Meets, World, scene, shown, world}
use Rattle.sccs_what.specs.WhatStep.{MeetsWhat, found_status, what_action, what_step}

-- the call meets its step
pub what_stepped : (first : Bool) (n : List ℕ) (r : Result Bool StepFault) (a b : Told) (left out out2 err : Option
    (List ℕ)) → MeetsWhat first n r (seen a) (seen b) out out2
    → IfSome (seen a) (λ (v : View). (i : List ℕ) → IsHeard false left i
    → Meets found_status r n ((what_action first).step n i (map v ((what_action first).named n)) (look v n))
    (shown (scene a out err)) (shown (scene b out2 err)))
what_stepped first n r a b left out out2 err meets = by (seen a) refl meets
  where
    by : (o : Option View) → o ≡ seen a → MeetsWhat first n r o (seen b) out out2 → IfSome o (λ (v : View). (i : List ℕ)
        → IsHeard false left i → Meets found_status r n (what_step first n (v n)) (shown (scene a out err))
        (shown (scene b out2 err)))
    by None is meets = tt
    by (Some v) is meets = λ i heard. subst (λ (t : Option View). Meets found_status r n (what_step first n (v n))
        (world t out err) (world (seen b) out2 err)) is (meets err)

-- the call's answer as a status
abbrev pub coded : Result Bool StepFault → Result ℕ StepFault
coded (Ok found) = Ok (found_status found)
coded (Err fault) = Err fault

coded_meets : (r : Result Bool StepFault) (n : List ℕ) (o : Outcome) (a b : World) → Meets found_status r n o a b
    → Meets (λ (status : ℕ). status) (coded r) n o a b
coded_meets (Ok found) n o a b meets = meets
coded_meets (Err fault) n o a b meets = meets

pub status_stepped : (first : Bool) (n : List ℕ) (r : Result Bool StepFault) (a b : Told) (left out out2 err : Option
    (List ℕ)) → MeetsWhat first n r (seen a) (seen b) out out2
    → SteppedAs (λ (status : ℕ). status) (what_action first) (coded r) n left (scene a out err) (scene b out2 err)
status_stepped first n r a b left out out2 err meets = by (seen a) (what_stepped first n r a b left out out2 err meets)
  where
    by : (o : Option View) → IfSome o (λ (v : View). (i : List ℕ) → IsHeard false left i
        → Meets found_status r n ((what_action first).step n i (map v ((what_action first).named n)) (look v n))
        (shown (scene a out err)) (shown (scene b out2 err)))
        → IfSome o (λ (v : View). (i : List ℕ) → IsHeard false left i → Meets (λ (status : ℕ). status) (coded r) n
        ((what_action first).step n i (map v ((what_action first).named n)) (look v n)) (shown (scene a out err))
        (shown (scene b out2 err)))
    by None steps = tt
    by (Some v) steps = λ i heard. coded_meets r n _ _ _ (steps i heard)

-- why the call refuses
pub code_within : (checks : List ℕ) (code : ℕ) → RefusesWithin {X = ℕ} checks (Ok code)
code_within checks code refusal is = absurd (cc)

pub fault_within : (checks : List ℕ) (fault : StepFault) → RefusesWithin {X = Bool} checks (Err fault)
    → RefusesWithin {X = ℕ} checks (Err fault)
fault_within checks fault within refusal is = within refusal (ap Err (unerr is))
  where
    unerr : {a b : StepFault} → ◌≡◌ {A = Result ℕ StepFault} (Err a) (Err b) → a ≡ b
    unerr e = cc
