use Rattle.std.proofs.Common.{◌≡◌, ◌≤◌, take}
use Rattle.std.specs.List.{AllByRecursion}
use Rattle.sccs_disk.specs.Told.{seen}
use Rattle.sccs_name_files.specs.Touches.{TouchesOnly}
use Rattle.sccs_group_command.specs.GroupStep.{names_of}
use Rattle.sccs_group_command.specs.Preparing.{AreFirm, ArePlain, Between, CouldCome, IsNamed, LosesNothing}
use Rattle.sccs_group_command.specs.Preparing.{is_any_left, made_names}
use Rattle.sccs_group_command.proofs.SoFars.{SoFar}
use Rattle.sccs_group_command.proofs.preparing.prepare_all.Given as goal

abbrev pub invariant-loop-entry : goal.invariant-loop-entry
invariant-loop-entry g l = record {
  told : ArePlain (names_of l.fn.entries) → Between (SoFar l.fn.stamp l.fn.entries l.entry-index l.made)
      (seen (g.D.Disk.told l.fn.disk)) (seen (g.D.Disk.told l.disk));
  names : made_names l.made ≡ names_of (take l.entry-index l.fn.entries);
  named : AllByRecursion IsNamed (made_names l.made);
  firm : AreFirm l.made (g.D.Disk.told l.fn.disk) (g.D.Disk.told l.disk);
  touches : TouchesOnly (is_any_left (names_of l.fn.entries)) (g.D.Disk.told l.fn.disk) (g.D.Disk.told l.disk);
  lose : ArePlain (names_of l.fn.entries) → LosesNothing (names_of l.fn.entries) (g.D.Disk.told l.fn.disk)
      (g.D.Disk.told l.disk);
  come : CouldCome l.made;
  later : g.D.Disk.faults l.fn.disk ≤ g.D.Disk.faults l.disk;
}
