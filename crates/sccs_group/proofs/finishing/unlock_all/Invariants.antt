use Rattle.std.proofs.Common.{◌≤◌, Option, drop}
use Rattle.sccs_disk.specs.Files.{View}
use Rattle.sccs_disk.specs.Told.{Told, seen}
use Rattle.sccs_name_files.specs.StepFiles.{Moves}
use Rattle.sccs_crash_points.specs.Unlocked.{KeepsOthers}
use Rattle.sccs_store.specs.Commits.{Becomes}
use Rattle.sccs_group.specs.Finishing.{AreUnlocked, FinishesBy}
use Rattle.sccs_group.specs.Halfway.{is_lock_of}
use Rattle.sccs_group.specs.Members.{each_by, unlocked}
use Rattle.sccs_group.proofs.finishing.unlock_all.Given as goal

-- what is done with the rest from here is done with all from the start
abbrev pub invariant-loop-member : goal.invariant-loop-member
invariant-loop-member g l = record {
  view : (o : Option View) → Becomes (each_by unlocked (drop l.member-index l.fn.members)) (seen (g.D.Disk.told l.disk))
      o → Becomes (each_by unlocked l.fn.members) (seen (g.D.Disk.told l.fn.disk)) o;
  moves : Moves (is_lock_of l.fn.members) (λ (v : View). v) (seen (g.D.Disk.told l.fn.disk))
      (seen (g.D.Disk.told l.disk));
  story : (t : Told) → FinishesBy (AreUnlocked (drop l.member-index l.fn.members)) (g.D.Disk.told l.disk) t
      → FinishesBy (AreUnlocked l.fn.members) (g.D.Disk.told l.fn.disk) t;
  others : KeepsOthers (is_lock_of l.fn.members) (g.D.Disk.told l.fn.disk) (g.D.Disk.told l.disk);
  later : g.D.Disk.faults l.fn.disk ≤ g.D.Disk.faults l.disk;
}
