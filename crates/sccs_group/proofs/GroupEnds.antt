-- How the commit of a group ends, and how finishing one does.
use Rattle.std.proofs.Common.{◌≡◌, ◌≢◌, ℕ, Bool, List, is_some, IfOk, IfSome, IsErrOf, OnErr, OnOk, Result, Ok, Err}
use Rattle.std.proofs.Common.{refl, subst}
use Rattle.std.specs.Str.{bytes_eq}
use Rattle.sccs_disk.specs.Causes.{DiskCauses}
use Rattle.sccs_disk.specs.Files.{View}
use Rattle.sccs_disk.specs.Told.{Told, seen}
use Rattle.sccs_disk.specs.declared.disks.DiskRefusal.{DiskRefusal}
use Rattle.sccs_disk.specs.declared.disks.DiskRefusal.TheVariants as disk
use Rattle.sccs_name_files.specs.Touches.{TouchesOnly}
use Rattle.sccs_intents.specs.Intents.{intent_file, plan_file}
use Rattle.sccs_crash_points.specs.Recovery.{without_name}
use Rattle.sccs_sid.specs.declared.refusals.StepFault.TheVariants as step
use Rattle.sccs_store.specs.Commits.{Becomes}
use Rattle.sccs_group.specs.Ended.{CommitsGroup, FinishesGroup, IsCommittedPartly, LosesPlan, step_result}
use Rattle.sccs_group.specs.Finishing.{Always, CompletesBy, FinishesBy}
use Rattle.sccs_group.specs.Grouping.{GroupEnds, GroupStops, announced}
use Rattle.sccs_group.specs.Halfway.{IsHalfway, intended}
use Rattle.sccs_group.specs.Members.{completed}
use Rattle.sccs_group.specs.Recovering.{IsBad, IsWellFormed, group_finished}
use Rattle.sccs_group.specs.declared.members.Member.{Member}
use Rattle.sccs_group.specs.declared.recovering.GroupFault.{GroupFault}
use Rattle.sccs_group.specs.declared.recovering.GroupFault.TheVariants as group

pub commit_ends : (r : Result (Unit {0}) DiskRefusal) (members : List Member) (a b : Told)
    → OnOk r (Becomes (λ (v : View). completed members (announced members v)) (seen a) (seen b))
    → OnErr r (IsHalfway members (seen a) (seen b))
    → (IsErrOf r disk.Memory → TouchesOnly (bytes_eq plan_file) a b)
    → (IsErrOf r disk.Memory → Becomes (without_name plan_file) (seen a) (seen b))
    → OnErr r (GroupStops members a b) → OnOk r (GroupEnds members a b) → CommitsGroup r members a b
commit_ends (Ok done) members a b view halfway touches gone stops ends = record { view = view; ends = ends }
commit_ends (Err disk.Memory) members a b view halfway touches gone stops ends =
    record { touches = touches refl; view = gone refl }
commit_ends (Err disk.Failed) members a b view halfway touches gone stops ends =
    record { halfway = halfway; stops = stops }

-- where no text is made of the members the plan goes
pub text_ends : (r : DiskRefusal) (members : List Member) (a b : Told) → TouchesOnly (bytes_eq plan_file) a b
    → (r ≡ disk.Memory → Becomes (without_name plan_file) (seen a) (seen b)) → IsHalfway members (seen a) (seen b)
    → GroupStops members a b
    → CommitsGroup (Err r) members a b
text_ends disk.Memory members a b touches gone halfway stops = record { touches = touches; view = gone refl }
text_ends disk.Failed members a b touches gone halfway stops = record { halfway = halfway; stops = stops }

pub finish_ends : (r : Result Bool GroupFault) (a b : Told) → OnOk r (CompletesBy Always a b)
    → OnOk r (Becomes group_finished (seen a) (seen b))
    → IfOk r (λ (found : Bool). IfSome (seen a) (λ (v : View). found ≡ is_some (v intent_file)))
    → IfOk r (λ (found : Bool). IfSome (seen a) (λ (v : View). IsWellFormed (v intent_file)))
    → ((line : ℕ) → r ≡ Err (group.BadIntent line) → Becomes (without_name plan_file) (seen a) (seen b)
    × IfSome (seen a) (λ (v : View). IsBad (v intent_file) line))
    → (IsErrOf r group.Memory → Becomes (without_name plan_file) (seen a) (seen b))
    → ((fault : GroupFault) → r ≡ Err fault → fault ≢ group.Failed → TouchesOnly (bytes_eq plan_file) a b)
    → FinishesBy Always a b → OnErr r (IfSome (seen a) (λ (v : View). IsHalfway (intended v) (seen a) (seen b)))
    → FinishesGroup (step_result r) a b
finish_ends (Ok there) a b done view found form bad memory touches story halfway =
    (record { done = done; view = view; form = form }, found)
finish_ends (Err (group.BadIntent line)) a b done view found form bad memory touches story halfway = (
  line,
  refl,
  record { touches = touches (group.BadIntent line) refl (λ e. cc); view = (bad line refl).0 },
  (bad line refl).1,
)
finish_ends (Err group.Memory) a b done view found form bad memory touches story halfway =
    record { touches = touches group.Memory refl (λ e. cc); view = memory refl }
finish_ends (Err group.Failed) a b done view found form bad memory touches story halfway =
    record { story = story; halfway = halfway }

failed_is : (r : Result Bool GroupFault) → step_result r ≡ Err step.DiskFault → IsErrOf r group.Failed
failed_is (Ok there) is = absurd (cc)
failed_is (Err (group.BadIntent line)) is = absurd (cc)
failed_is (Err group.Memory) is = absurd (cc)
failed_is (Err group.Failed) is = refl

pub finish_causes : (r : Result Bool GroupFault) (d d2 : ℕ) → DiskCauses (IsErrOf r group.Failed) d d2
    → DiskCauses (step_result r ≡ Err step.DiskFault) d d2
finish_causes r d d2 causes = record { later = causes.later; cause = λ is. causes.cause (failed_is r is) }

-- ---- by the answer

pub commit_memory : (r : Result (Unit {0}) DiskRefusal) (members : List Member) (a b : Told) → r ≡ Err disk.Memory
    → CommitsGroup r members a b → LosesPlan a b
commit_memory r members a b is ends = subst (λ (x : Result (Unit {0}) DiskRefusal). CommitsGroup x members a b) is ends

pub commit_failed : (r : Result (Unit {0}) DiskRefusal) (members : List Member) (a b : Told) → r ≡ Err disk.Failed
    → CommitsGroup r members a b → IsCommittedPartly members a b
commit_failed r members a b is ends = subst (λ (x : Result (Unit {0}) DiskRefusal). CommitsGroup x members a b) is ends
