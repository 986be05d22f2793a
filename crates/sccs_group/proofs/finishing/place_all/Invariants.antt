use Rattle.std.proofs.Common.{◌≤◌, Option, drop}
use Rattle.sccs_disk.specs.Files.{View}
use Rattle.sccs_disk.specs.Told.{Told, seen}
use Rattle.sccs_crash_points.specs.Unlocked.{KeepsOthers}
use Rattle.sccs_store.specs.Commits.{Becomes}
use Rattle.sccs_group.specs.Finishing.{FinishesBy}
use Rattle.sccs_group.specs.Halfway.{PlacesFirst, is_own_of}
use Rattle.sccs_group.specs.Members.{AreNamed, each_by, placed}
use Rattle.sccs_group.proofs.finishing.place_all.Given as goal

-- what is done with the rest from here is done with all from the start
abbrev pub invariant-loop-member : goal.invariant-loop-member
invariant-loop-member g l = record {
  view : (o : Option View) → Becomes (each_by placed (drop l.member-index l.fn.members)) (seen (g.D.Disk.told l.disk)) o
      → Becomes (each_by placed l.fn.members) (seen (g.D.Disk.told l.fn.disk)) o;
  halfway : (o : Option View) → PlacesFirst (drop l.member-index l.fn.members) (seen (g.D.Disk.told l.disk)) o
      → PlacesFirst l.fn.members (seen (g.D.Disk.told l.fn.disk)) o;
  story : (t : Told) → FinishesBy (AreNamed (drop l.member-index l.fn.members)) (g.D.Disk.told l.disk) t
      → FinishesBy (AreNamed l.fn.members) (g.D.Disk.told l.fn.disk) t;
  others : KeepsOthers (is_own_of l.fn.members) (g.D.Disk.told l.fn.disk) (g.D.Disk.told l.disk);
  later : g.D.Disk.faults l.fn.disk ≤ g.D.Disk.faults l.disk;
}
