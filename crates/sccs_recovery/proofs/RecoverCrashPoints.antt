-- The crash points of the command recover.
use Rattle.std.proofs.Common.{◌||◌, ◌≡◌, ◌≢◌, ◌↔◌, ℕ, Bool, true, false, cond, List, [], ◌∷◌, Option, None, Some}
use Rattle.std.proofs.Common.{IfSome, IsErrOf, is_some, Result, Ok, Err, inl, inr, refl, sym, ap, subst, ◌∙◌, arith}
use Rattle.std.specs.Prelude.{IsSome}
use Rattle.sccs_base.specs.Name.{IsSFileName, p_file, z_file}
use Rattle.sccs_sid.specs.declared.refusals.StepFault.{StepFault}
use Rattle.sccs_sid.specs.declared.refusals.StepFault.TheVariants.{Refused, Memory, ReadFault, WriteFault, DiskFault}
use Rattle.sccs_disk.specs.Files.{Content, Model, View, view_of}
use Rattle.sccs_sid.specs.Reading.{◌>>=◌}
use Rattle.sccs_sid.specs.declared.refusals.Refusal.{Refusal}
use Rattle.sccs_disk.specs.Images.{Allows}
use Rattle.sccs_disk.specs.Told.{Told, Tells, seen}
use Rattle.sccs_pfile.proofs.Recovering.{twice_once}
use Rattle.sccs_name_files.specs.StepFiles.{is_working, look, moved}
use Rattle.sccs_name_files.specs.Touches.{Each, TouchesOnly, earlier, newest}
use Rattle.sccs_intents.specs.Intents.{entries_in, fate_in, intent_file}
use Rattle.sccs_intents.specs.declared.intents.Fate.{Fate}
use Rattle.sccs_crash_points.specs.Calm.{IsCalm}
use Rattle.sccs_crash_points.specs.CrashPoints.{EndsAfter, EndsBefore, EndsWithin, IsAt, IsCalmUnnamed, IsFrom}
use Rattle.sccs_crash_points.specs.CrashPoints.{KeepsCalm, LeavesCalm, LeavesFirm, NamesNone, RecoversOn, Went}
use Rattle.sccs_crash_points.specs.Recovery.{Pair, RecoversAs, fate_at, recover, recover_alone, recover_by}
use Rattle.sccs_crash_points.proofs.FileNames.{working_s}
use Rattle.sccs_crash_points.proofs.Joined.{numbered_as, numbered_now, raised}
use Rattle.sccs_crash_points.proofs.Recoveries.{calm_keeps, calm_recovers, calm_same, working_calm}
use Rattle.sccs_crash_points.proofs.Recovering.{fate_same, recover_intent, recovered, recovered_is, recovered_under}
use Rattle.sccs_crash_points.proofs.Recovering.{recovers_back, recovers_recovered, recovers_then, same_recovers}
use Rattle.sccs_crash_points.proofs.Untouched.{before_after, before_within, ends_working, same_before}
use Rattle.sccs_steps.specs.StepEffects.{Outcome, effect_of}
use Rattle.sccs_steps.specs.Calls.{Meets, scene, world}
use Rattle.sccs_steps.specs.Actions.{IsHeard}
use Rattle.sccs_steps.specs.Recovering.{RecoversStep}
use Rattle.sccs_steps.specs.StepStops.{ArePaired, Ends, IsSafe, IsSafeFor, MeetsAt, StepCrashPoints, meeting_place}
use Rattle.sccs_steps.specs.Unlocked.{KeepsNamed}
use Rattle.sccs_steps.proofs.Carried.{intent_there}
use Rattle.sccs_steps.proofs.SafeImages.{numbered_each, recovers_before}
use Rattle.sccs_steps.proofs.Safety.{placed_safe}
use Rattle.sccs_store.specs.Commits.{Becomes}
use Rattle.sccs_recovery.specs.Checks.{PassesChecks, checked, free_checked, none_pending}
use Rattle.sccs_recovery.specs.Commands.{Says, is_locked}
use Rattle.sccs_recovery.specs.RecoverStep.{found_text, recover_action, recover_outcome, recovers, recovered_files}
use Rattle.sccs_recovery.specs.declared.recoveries.Recovered.{Recovered}
use Rattle.sccs_recovery.specs.declared.recoveries.Recovered.TheVariants as ways
use Rattle.sccs_recovery.proofs.RecoveryEnds.{Faults, cut_ends, fault_steps, is_said, made_ends, recovers_at, step_of}

-- ---- views

-- an intent that isn't there names no s-file
none_named : (v : View) → v intent_file ≡ None → NamesNone v
none_named v none = λ n sfile. ap (λ (o : Option Content). fate_in (entries_in o) n) none

-- where the checks pass no intent is there
free_of : (intent : Option Content) (checks : Result Bool Refusal) → (none_pending intent >>= λ free. checks) ≡ Ok true
    → intent ≡ None
free_of None checks passed = refl
free_of (Some c) checks passed = absurd cc

-- while an intent is there nothing changes, so that a held name stays so
pub pending_named : (n : List ℕ) (a b : Told) → IfSome (seen a) (λ (v : View). IsSome (v intent_file) → b ≡ a)
    → KeepsNamed n a b
pending_named n a b pending m past is named held =
    let same : b ≡ a = subst (λ (t : Told). IfSome (seen t) (λ (v : View). IsSome (v intent_file) → b ≡ a)) is pending
    (intent_there n (view_of m) named) in
    record { added = []; is = same ∙ is; each = held }

named_not : (f : Option Fate) → f ≡ None → IsSome f → ⊥
named_not None is named = cc
named_not (Some fate) is named = cc

-- where no intent names an s-file the view after the step recovers as the one before it
after_recovers : (freed : List ℕ → Bool) (n : List ℕ) (v : View) → IsSFileName n → NamesNone v
    → RecoversAs (moved v n (recovers freed n (look v n)).new) v
after_recovers freed n v sfile none =
    let w : View = moved v n (recovers freed n (look v n)).new in
    let alone : recover n v ≡ recover_alone n v = ap (recover_by n v) (none n sfile) in
    let intent : w intent_file ≡ v intent_file = sym (recovers_at freed n v intent_file sfile refl)
    ∙ (sym (ap (λ (u : View). u intent_file) alone) ∙ recover_intent n v sfile) in
    recovers_then w (recover_alone n v) v
    (same_recovers w (recover_alone n v) (recovers_at freed n v intent_file sfile refl)
    (λ k other. recovers_at freed n v k sfile (working_s n k other)) (λ k other. recovers_at freed n v
    (p_file k) sfile refl)
    (λ k other. ap is_some (recovers_at freed n v (z_file k) sfile refl))
    (λ k other named. absurd (named_not (fate_at w k) (fate_same k v w intent ∙ none k other) named))
    (λ k other named. absurd (named_not (fate_at w k) (fate_same k v w intent ∙ none k other) (ap is_some named))))
    (recovers_back v (recover_alone n v) (subst (λ (u : View). RecoversAs v u) alone (recovers_recovered n v sfile)))

-- and the name is safe again
after_safe : (n : List ℕ) (v : View) (z : Bool) → is_some (v (z_file n)) ≡ z → IsSFileName n → NamesNone v → IsSafe n v
    → IsSafe n (moved v n (cond z (Some (recovered_files (look v n))) None))
after_safe n v true is sfile none safe =
    placed_safe n v (recovered_files (look v n)) sfile safe.plain (none n sfile) (twice_once (v n) (v (p_file n)))
    (subst (λ (x : Pair). ArePaired x.s x.p) (recovered_is n v sfile ∙ (recovered_under n v None (none n sfile)
    ∙ ap (recovered (v n) (v (p_file n))) is)) safe.paired)
after_safe n v false is sfile none safe = safe

-- ---- crash points

-- what recovers as an image of a calm disk recovers as its view
as_before : (m : Model) (u : View) → IsCalm m → IsFrom m u → RecoversAs (view_of m) u
as_before m u calm from = recovers_then (view_of m) from.0 u (calm from.0 from.1).recovers from.2

made_after : (freed : List ℕ → Bool) (n : List ℕ) (a b : Told) (m : Model) (past : List Model) → IsSFileName n
    → RecoversOn a b → LeavesCalm a b → a ≡ Tells m past → IsCalmUnnamed m
    → EndsAfter (view_of m) (moved (view_of m) n (recovers freed n (look (view_of m) n)).new) m past b
made_after freed n a b m past sfile story leaves is calm =
    let v : View = view_of m in
    let w : View = moved (view_of m) n (recovers freed n (look (view_of m) n)).new in
    let went : Went (λ j u. IsFrom m u) m past 0 b = story m past is (calm_recovers m calm) in (
      record {
        added = went.added;
        is = went.is;
        numbers =
            raised (λ i m2. Allows (IsAt v w i) m2) 0 went.added m 0 1 (omega arith)
            (λ u image. inl (recovers_then w v u (after_recovers freed n v sfile calm.unnamed)
            (as_before m u calm.calm (numbered_now (λ i m2. Allows (IsFrom m) m2) 0 went.added m 0 went.numbers u
            image))))
            (numbered_as (λ i m2. Allows (IsFrom m) m2) (λ i m2. Allows (IsAt v w i) m2) 0 went.added m 0
            (λ i low m2 from u image. inl (recovers_then w v u (after_recovers freed n v sfile calm.unnamed)
            (as_before m u calm.calm (from u image)))) went.numbers);
        guarded = went.guarded;
      },
      (leaves m past is (calm_recovers m calm) (newest went.added m) (earlier went.added m past) went.is).calm,
    )

abbrev stopped_within : (w : View) (a b : Told) (m : Model) (past : List Model) → RecoversOn a b → LeavesFirm a b
    → a ≡ Tells m past → IsCalmUnnamed m → EndsWithin (view_of m) w m past b
stopped_within w a b m past story leaves is calm =
    let went : Went (λ j u. IsFrom m u) m past 0 b = story m past is (calm_recovers m calm) in (
      record {
        added = went.added;
        is = went.is;
        numbers =
            numbered_as (λ i m2. Allows (IsFrom m) m2) (λ i m2. Allows (IsAt (view_of m) w i) m2) 0 went.added m 0
            (λ i low m2 from u image. inr (omega (arith, low), as_before m u calm.calm (from u image)))
            went.numbers;
        guarded = went.guarded;
      },
      (leaves m past is (calm_recovers m calm) (newest went.added m) (earlier went.added m past) went.is).firm,
    )

stopped_same : (w : View) (a b : Told) (m : Model) (past : List Model) (story : RecoversOn a b)
    (leaves : LeavesFirm a b) (is : a ≡ Tells m past) (calm : IsCalmUnnamed m) → Each (Allows (RecoversAs (view_of m)))
    (stopped_within w a b m past story leaves is calm).0.added m
stopped_same w a b m past story leaves is calm =
    let went : Went (λ j u. IsFrom m u) m past 0 b = story m past is (calm_recovers m calm) in
    numbered_each (λ i u. IsFrom m u) (RecoversAs (view_of m)) 0 went.added m 0
    (λ i u from. as_before m u calm.calm from) went.numbers

-- ---- the call

-- the name was recovered, and it is said how it was found
made_at : (freed : List ℕ → Bool) (n : List ℕ) (r : Result (Unit {0}) StepFault) (m : Model) (past : List Model)
    (a b : Told) (out out2 err : Option (List ℕ)) → IsSFileName n → seen b ≡ Some (recover_alone n (view_of m))
    → Says r (recovers freed n (look (view_of m) n)).out out out2
    → EndsAfter (view_of m) (moved (view_of m) n (recovers freed n (look (view_of m) n)).new) m past b
    → IsSafeFor (recover_action freed) n (moved (view_of m) n (recovers freed n (look (view_of m) n)).new)
    → (met : Meets (λ (done : Unit {0}). 0) r n (Ok (recovers freed n (look (view_of m) n)))
    (world (Some (view_of m)) out err) (world (seen b) out2 err))
    × Ends (meeting_place r n (Ok (recovers freed n (look (view_of m) n))) (world (Some (view_of m)) out err)
    (world (seen b) out2 err) met) (recover_action freed) n (view_of m)
    (moved (view_of m) n (recovers freed n (look (view_of m) n)).new) m past b
made_at freed n (Ok done) m past a b out out2 err sfile view says ends safe =
    (made_ends freed n (view_of m) (Ok done) (seen b) out out2 err sfile view says, (ends, safe))
made_at freed n (Err WriteFault) m past a b out out2 err sfile view says ends safe =
    (inr (cut_ends freed n (view_of m) (seen b) out out2 err sfile view says), (ends, safe))
made_at freed n (Err Memory) m past a b out out2 err sfile view says ends safe = absurd says
made_at freed n (Err ReadFault) m past a b out out2 err sfile view says ends safe = absurd says
made_at freed n (Err DiskFault) m past a b out out2 err sfile view says ends safe = absurd says
made_at freed n (Err (Refused refusal)) m past a b out out2 err sfile view says ends safe = absurd says

pub made_crash_points : (freed : List ℕ → Bool) (n : List ℕ) (found : Recovered) (r : Result (Unit {0}) StepFault)
    (a b : Told) (left out out2 err : Option (List ℕ)) → IsSFileName n → Becomes (recover_alone n) (seen a) (seen b)
    → IfSome (seen a) (λ (v : View). (found ≡ ways.Clean) ↔ (v (z_file n) ≡ None))
    → IfSome (seen a) (λ (v : View). PassesChecks (free_checked n v) (Ok found))
    → Says r (found_text n (is_locked found || freed n)) out out2 → RecoversOn a b → LeavesCalm a b
    → StepCrashPoints (recover_action freed) r n left (scene a out err) (scene b out2 err)
made_crash_points freed n found r a b left out out2 err sfile view clean checks says story leaves =
    λ m past i is heard calm may.
    let v : View = view_of m in
    let passed : PassesChecks (free_checked n v) (Ok found) =
    subst (λ (t : Told). IfSome (seen t) (λ (u : View). PassesChecks (free_checked n u) (Ok found))) is checks in
    let at : IsCalmUnnamed m =
    record { calm = calm; unnamed = none_named v (free_of (v intent_file) (checked n v) passed) } in
    let view_is : seen b ≡ Some (recover_alone n v) = subst (λ (t : Told). Becomes (recover_alone n) (seen t) (seen b))
    is view in
    let clean_is : (found ≡ ways.Clean) ↔ (v (z_file n) ≡ None) =
    subst (λ (t : Told). IfSome (seen t) (λ (u : View). (found ≡ ways.Clean) ↔ (u (z_file n) ≡ None))) is clean in
    let said : Says r (recovers freed n (look v n)).out out out2 =
    subst (λ (z : Bool). Says r (found_text n (z || freed n)) out out2) (is_said found (v (z_file n)) clean_is)
    says in
    subst (λ (t : Told). MeetsAt (recover_action freed) r n (recover_outcome freed n (v intent_file ∷ []) (look v n)) v
    m past (scene t out err) (scene b out2 err)) (sym is)
    (subst (λ (o : Outcome). (met : Meets (λ (done : Unit {0}). 0) r n o (world (Some v) out err)
    (world (seen b) out2 err)) × Ends (meeting_place r n o (world (Some v) out err) (world (seen b) out2 err) met)
    (recover_action freed) n v (moved v n (effect_of n o).new) m past b) (sym (step_of freed n v (Ok true) passed))
    (made_at freed n r m past a b out out2 err sfile view_is said (made_after freed n a b m past sfile story leaves is
    at) (λ changes. after_safe n v (is_some (v (z_file n))) refl sfile at.unnamed (may changes))))

-- the call answers a fault
fault_at : (freed : List ℕ → Bool) (fault : StepFault) (n : List ℕ) (o : Outcome) (a b : Told)
    (out err : Option (List ℕ)) (m : Model) (past : List Model) → Faults n fault a b → RecoversOn a b → LeavesFirm a b
    → (fault ≡ Memory → TouchesOnly (is_working n) a b) → a ≡ Tells m past → IsSFileName n → IsCalmUnnamed m
    → IsSafeFor (recover_action freed) n (view_of m)
    → (met : Meets (λ (done : Unit {0}). 0) (Err fault) n o (world (Some (view_of m)) out err) (world (seen b) out err))
    → Ends (meeting_place (Err fault) n o (world (Some (view_of m)) out err) (world (seen b) out err) met)
    (recover_action freed) n (view_of m) (moved (view_of m) n (effect_of n o).new) m past b
fault_at freed (Refused refusal) n o a b out err m past faults story leaves touches is sfile calm safe met =
    subst (λ (q : Outcome). EndsAfter (view_of m) (moved (view_of m) n (effect_of n q).new) m past b
    × IsSafeFor (recover_action freed) n (moved (view_of m) n (effect_of n q).new)) (sym met.0)
    (before_after (view_of m) m past b (same_before m past b calm.calm (faults.refused refusal refl ∙ is)), safe)
fault_at freed Memory n o a b out err m past faults story leaves touches is sfile calm safe met =
    ends_working n m past b sfile (record { calm = calm.calm; unnamed = calm.unnamed n sfile }) (touches refl m past is)
fault_at freed ReadFault n o a b out err m past faults story leaves touches is sfile calm safe met =
    absurd (faults.read refl)
fault_at freed WriteFault n o a b out err m past faults story leaves touches is sfile calm safe met =
    absurd (faults.write refl)
fault_at freed DiskFault n o a b out err m past faults story leaves touches is sfile calm safe met = (
  stopped_within (moved (view_of m) n (effect_of n o).new) a b m past story leaves is calm,
  inr (stopped_same (moved (view_of m) n (effect_of n o).new) a b m past story leaves is calm),
)

-- the same while an intent is there
fault_pending : (freed : List ℕ → Bool) (fault : StepFault) (n : List ℕ) (o : Outcome) (a b : Told)
    (out err : Option (List ℕ)) (m : Model) (past : List Model) → Faults n fault a b → b ≡ a → a ≡ Tells m past
    → IsCalm m → IsSafeFor (recover_action freed) n (view_of m)
    → (met : Meets (λ (done : Unit {0}). 0) (Err fault) n o (world (Some (view_of m)) out err) (world (seen b) out err))
    → Ends (meeting_place (Err fault) n o (world (Some (view_of m)) out err) (world (seen b) out err) met)
    (recover_action freed) n (view_of m) (moved (view_of m) n (effect_of n o).new) m past b
fault_pending freed (Refused refusal) n o a b out err m past faults same is calm safe met =
    subst (λ (q : Outcome). EndsAfter (view_of m) (moved (view_of m) n (effect_of n q).new) m past b
    × IsSafeFor (recover_action freed) n (moved (view_of m) n (effect_of n q).new)) (sym met.0)
    (before_after (view_of m) m past b (same_before m past b calm (same ∙ is)), safe)
fault_pending freed Memory n o a b out err m past faults same is calm safe met = same_before m past b calm (same ∙ is)
fault_pending freed ReadFault n o a b out err m past faults same is calm safe met = absurd (faults.read refl)
fault_pending freed WriteFault n o a b out err m past faults same is calm safe met = absurd (faults.write refl)
fault_pending freed DiskFault n o a b out err m past faults same is calm safe met =
    let kept : EndsBefore (view_of m) m past b = same_before m past b calm (same ∙ is) in (
      before_within (view_of m) (moved (view_of m) n (effect_of n o).new) m past b kept,
      inr (recovers_before (view_of m) m past b kept),
    )

pub fault_crash_points : (freed : List ℕ → Bool) (n : List ℕ) (fault : StepFault) (a b : Told)
    (left out err : Option (List ℕ)) → IsSFileName n → Faults n fault a b → RecoversOn a b → LeavesFirm a b
    → (IsErrOf {T = Recovered} (Err fault) Memory → TouchesOnly (is_working n) a b)
    → StepCrashPoints (recover_action freed) (Err fault) n left (scene a out err) (scene b out err)
fault_crash_points freed n fault a b left out err sfile faults story leaves touches = λ m past i is heard calm may.
    let v : View = view_of m in
    let o : Outcome = recover_outcome freed n (v intent_file ∷ []) (look v n) in
    let met : Meets (λ (done : Unit {0}). 0) (Err fault) n o (world (Some v) out err) (world (seen b) out err) =
    subst (λ (t : Told). IfSome (seen t) (λ (u : View). (j : List ℕ) → IsHeard false left j
    → Meets (λ (done : Unit {0}). 0) (Err fault) n (recover_outcome freed n (u intent_file ∷ []) (look u n))
    (world (seen t) out err) (world (seen b) out err))) is (fault_steps freed n fault a b left out err sfile faults)
    i heard in
    subst (λ (t : Told). MeetsAt (recover_action freed) (Err fault) n o v m past (scene t out err) (scene b out err))
    (sym is) (
      met,
      by_intent m past is calm may o met (v intent_file) refl
          (subst (λ (t : Told). IfSome (seen t) (λ (u : View). IsSome (u intent_file) → b ≡ a)) is faults.pending),
    )
  where
    by_intent : (m : Model) (past : List Model) → a ≡ Tells m past → IsCalm m → IsSafeFor (recover_action freed) n
        (view_of m) → (o : Outcome) → (met : Meets (λ (done : Unit {0}). 0) (Err fault) n o
        (world (Some (view_of m)) out err) (world (seen b) out err))
        → (intent : Option Content) → view_of m intent_file ≡ intent → (IsSome (view_of m intent_file) → b ≡ a)
        → Ends (meeting_place (Err fault) n o (world (Some (view_of m)) out err) (world (seen b) out err) met)
        (recover_action freed) n (view_of m) (moved (view_of m) n (effect_of n o).new) m past b
    by_intent m past is calm may o met None none pending =
        fault_at freed fault n o a b out err m past faults story leaves (λ e. touches (ap Err e)) is sfile
        (record { calm = calm; unnamed = none_named (view_of m) none }) may met
    by_intent m past is calm may o met (Some c) some pending =
        fault_pending freed fault n o a b out err m past faults
        (pending (subst (λ (x : Option Content). IsSome x) (sym some) refl)) is calm may met

-- ---- on a disk that isn't calm

pub made_recovers : (r : Result (Unit {0}) StepFault) (a b : Told) → RecoversOn a b → LeavesFirm a b → LeavesCalm a b
    → RecoversStep r a b
made_recovers (Ok done) a b story firm leaves =
    record { story = story; firm = firm; calm = leaves; keeps = λ other. calm_keeps a b leaves }
made_recovers (Err fault) a b story firm leaves =
    record { story = story; firm = firm; calm = tt; keeps = λ other. calm_keeps a b leaves }

fault_keeps : (fault : StepFault) (n : List ℕ) (a b : Told) → IsSFileName n → Faults n fault a b
    → (fault ≡ Memory → TouchesOnly (is_working n) a b) → fault ≢ DiskFault → KeepsCalm a b
fault_keeps (Refused refusal) n a b sfile faults touches other = calm_same a b (faults.refused refusal refl)
fault_keeps Memory n a b sfile faults touches other = working_calm n a b sfile (touches refl)
fault_keeps ReadFault n a b sfile faults touches other = absurd (faults.read refl)
fault_keeps WriteFault n a b sfile faults touches other = absurd (faults.write refl)
fault_keeps DiskFault n a b sfile faults touches other = absurd (other refl)

pub fault_recovers : (fault : StepFault) (n : List ℕ) (a b : Told) → IsSFileName n → Faults n fault a b → RecoversOn a b
    → LeavesFirm a b → (IsErrOf {T = Recovered} (Err fault) Memory → TouchesOnly (is_working n) a b)
    → RecoversStep {X = Unit {0}} (Err fault) a b
fault_recovers fault n a b sfile faults story firm touches =
    record {
      story = story;
      firm = firm;
      calm = tt;
      keeps = λ other. fault_keeps fault n a b sfile faults
          (λ e. touches (ap Err e)) (λ e. other (ap Err e));
    }
