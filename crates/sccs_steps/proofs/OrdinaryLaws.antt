-- What the step of an ordinary utility says, said of its answer with a status.
use Rattle.std.specs.Prelude.{ℕ, List, map, Option, Result, Ok, Err, OnOk}
use Rattle.std.proofs.Common.{inl, inr, ap}
use Rattle.sccs_disk.specs.Files.{Model, View, view_of}
use Rattle.sccs_disk.specs.Told.{Told}
use Rattle.sccs_name_files.specs.StepFiles.{look}
use Rattle.sccs_sid.specs.declared.refusals.StepFault.{StepFault}
use Rattle.sccs_sid.specs.declared.refusals.StepFault.TheVariants.{Refused, Memory, ReadFault, WriteFault, DiskFault}
use Rattle.sccs_crash_points.specs.CrashPoints.{LeavesCalm}
use Rattle.sccs_steps.specs.Actions.{Action}
use Rattle.sccs_steps.specs.Calls.{Scene}
use Rattle.sccs_steps.specs.Ordinaries.{ordinary}
use Rattle.sccs_steps.specs.Recovering.{StepRecovers}
use Rattle.sccs_steps.specs.StepEffects.{Outcome}
use Rattle.sccs_steps.specs.StepStops.{MeetsAt, MeetsAtAs, StepCrashPoints, StepCrashPointsAs}
use Rattle.sccs_steps.specs.Statuses.{with_status}

-- a write fault before the commit, or in the report
cut_report : (x : Action) (n : List ℕ) (o : Outcome) (v : View) (m : Model) (past : List Model) (a b : Scene)
    → MeetsAt x (Err WriteFault) n o v m past a b → MeetsAtAs {X = ℕ} (λ (status : ℕ). status) (ordinary x)
    (Err WriteFault) n o v m past a b
cut_report x n o v m past a b (inl kept, ends) = (inl kept, ends)
cut_report x n o v m past a b (inr cut, ends) = (inr cut, ends)

pub status_crash_points : (x : Action) (r : Result (Unit {0}) StepFault) (n : List ℕ) (left : Option (List ℕ))
    (a b : Scene) → StepCrashPoints x r n left a b → StepCrashPointsAs (λ (status : ℕ). status) (ordinary x)
    (with_status r) n left a b
status_crash_points x (Ok done) n left a b crash_points = crash_points
status_crash_points x (Err (Refused refusal)) n left a b crash_points = crash_points
status_crash_points x (Err Memory) n left a b crash_points = crash_points
status_crash_points x (Err ReadFault) n left a b crash_points = crash_points
status_crash_points x (Err WriteFault) n left a b crash_points = λ m past i is heard calm safe. cut_report x n
    (x.step n i (map (view_of m) (x.named n)) (look (view_of m) n)) (view_of m) m past a b
    (crash_points m past i is heard calm safe)
status_crash_points x (Err DiskFault) n left a b crash_points = crash_points

on_ok : (P : Type 0) (r : Result (Unit {0}) StepFault) → OnOk r P → OnOk (with_status r) P
on_ok P (Ok done) p = p
on_ok P (Err fault) p = p

pub status_recovers : (x : Action) (r : Result (Unit {0}) StepFault) (old new : Told) → StepRecovers x r old new
    → StepRecovers (ordinary x) (with_status r) old new
status_recovers x r old new recovers never = record {
  story = (recovers never).story;
  firm = (recovers never).firm;
  calm = on_ok (LeavesCalm old new) r (recovers never).calm;
  keeps = λ other. (recovers never).keeps (λ is. other (ap with_status is));
}
