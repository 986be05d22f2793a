-- How the commit of a group ends, and how finishing one does, and what they leave.
use Rattle.std.specs.Prelude.{◌≡◌, ℕ, Bool, List, Option, is_some, IfSome, Result, Ok, Err}
use Rattle.std.specs.Str.{bytes_eq}
use Rattle.sccs_disk.specs.Files.{View}
use Rattle.sccs_disk.specs.Told.{Told, seen}
use Rattle.sccs_disk.specs.declared.disks.DiskRefusal.{DiskRefusal}
use Rattle.sccs_disk.specs.declared.disks.DiskRefusal.TheVariants as disk
use Rattle.sccs_name_files.specs.Touches.{TouchesOnly}
use Rattle.sccs_intents.specs.Intents.{intent_file, plan_file}
use Rattle.sccs_crash_points.specs.Recovery.{without_name}
use Rattle.sccs_sid.specs.declared.refusals.Refusal.TheVariants.{BadIntent}
use Rattle.sccs_sid.specs.declared.refusals.StepFault.{StepFault}
use Rattle.sccs_sid.specs.declared.refusals.StepFault.TheVariants as step
use Rattle.sccs_store.specs.Commits.{Becomes}
use Rattle.sccs_group.specs.Finishing.{Always, CompletesBy, FinishesBy}
use Rattle.sccs_group.specs.Grouping.{GroupEnds, GroupStops, announced}
use Rattle.sccs_group.specs.Halfway.{IsHalfway, intended}
use Rattle.sccs_group.specs.Members.{completed}
use Rattle.sccs_group.specs.Recovering.{IsBad, IsWellFormed, group_finished}
use Rattle.sccs_group.specs.declared.members.Member.{Member}
use Rattle.sccs_group.specs.declared.recovering.GroupFault.{GroupFault}
use Rattle.sccs_group.specs.declared.recovering.GroupFault.TheVariants as group

-- The plan alone is gone.
pub record LosesPlan (old new : Told) : Type 0 where
  pub touches : TouchesOnly (bytes_eq plan_file) old new
  pub view : Becomes (without_name plan_file) (seen old) (seen new)

-- ---- the commit

-- The files of all members are new.
pub record IsCommitted (members : List Member) (old new : Told) : Type 0 where
  pub view : Becomes (λ (v : View). completed members (announced members v)) (seen old) (seen new)
  pub ends : GroupEnds members old new

-- Those of some first members are, and then some first of the next one's.
pub record IsCommittedPartly (members : List Member) (old new : Told) : Type 0 where
  pub halfway : IsHalfway members (seen old) (seen new)
  pub stops : GroupStops members old new

-- at want of memory the members are prepared as before
abbrev pub CommitsGroup : Result (Unit {0}) DiskRefusal → List Member → Told → Told → Type 0
CommitsGroup (Ok done) members old new = IsCommitted members old new
CommitsGroup (Err disk.Memory) members old new = LosesPlan old new
CommitsGroup (Err disk.Failed) members old new = IsCommittedPartly members old new

-- ---- finishing

-- The group is finished whole, or none is there.
pub record IsFinished (old new : Told) : Type 0 where
  pub done : CompletesBy Always old new
  pub view : Becomes group_finished (seen old) (seen new)
  pub form : IfSome (seen old) (λ (v : View). IsWellFormed (v intent_file))

-- The group is finished in part.
pub record IsCutOff (old new : Told) : Type 0 where
  pub story : FinishesBy Always old new
  pub halfway : IfSome (seen old) (λ (v : View). IsHalfway (intended v) (seen old) (seen new))

-- an intent is there of which this is the first line that isn't of its form
abbrev pub ShowsBad : ℕ → Option View → Type 0
ShowsBad line o = IfSome o (λ (v : View). IsBad (v intent_file) line)

abbrev pub FinishesGroup : Result Bool StepFault → Told → Told → Type 0
FinishesGroup (Ok there) old new = IsFinished old new × IfSome (seen old) (λ (v : View). there ≡ is_some
    (v intent_file))
FinishesGroup (Err (step.Refused refusal)) old new = (line : ℕ) × (refusal ≡ BadIntent line) × LosesPlan old new
    × ShowsBad line (seen old)
FinishesGroup (Err step.Memory) old new = LosesPlan old new
FinishesGroup (Err step.DiskFault) old new = IsCutOff old new
FinishesGroup (Err step.ReadFault) old new = ⊥
FinishesGroup (Err step.WriteFault) old new = ⊥

-- why a group wasn't finished, as a fault of a step
abbrev pub step_fault : GroupFault → StepFault
step_fault (group.BadIntent line) = step.Refused (BadIntent line)
step_fault group.Failed = step.DiskFault
step_fault group.Memory = step.Memory

abbrev pub step_result : Result Bool GroupFault → Result Bool StepFault
step_result (Ok there) = Ok there
step_result (Err fault) = Err (step_fault fault)
