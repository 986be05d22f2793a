use Rattle.std.proofs.Common.{◌≡◌, ◌⊎◌, ◌≤◌, Option, drop}
use Rattle.sccs_base.specs.Stream.{Rose}
use Rattle.sccs_disk.specs.Files.{View}
use Rattle.sccs_disk.specs.Told.{seen}
use Rattle.sccs_name_files.specs.Touches.{TouchesOnly}
use Rattle.sccs_sid.specs.declared.refusals.StepFault.{StepFault}
use Rattle.sccs_sid.specs.declared.refusals.StepFault.TheVariants.{DiskFault}
use Rattle.sccs_group_command.specs.Preparing.{GivesAllBack, LosesOfSound, is_any_left, made_names}
use Rattle.sccs_group_command.proofs.preparing.abandon_all.Given as goal

-- what giving up the rest from here answers and leaves is what giving up all does
abbrev pub invariant-loop-entry : goal.invariant-loop-entry
invariant-loop-entry g l = record {
  back : (r : StepFault) (o : Option View) → GivesAllBack r l.fault (made_names (drop l.entry-index l.fn.made))
      (seen (g.D.Disk.told l.disk)) o → GivesAllBack r l.fn.fault (made_names l.fn.made)
      (seen (g.D.Disk.told l.fn.disk)) o;
  touches : TouchesOnly (is_any_left (made_names l.fn.made)) (g.D.Disk.told l.fn.disk) (g.D.Disk.told l.disk);
  lose : LosesOfSound (made_names l.fn.made) (g.D.Disk.told l.fn.disk) (g.D.Disk.told l.disk);
  later : g.D.Disk.faults l.fn.disk ≤ g.D.Disk.faults l.disk;
  cause : l.fault ≡ DiskFault → ((l.fn.fault ≡ DiskFault) × (g.D.Disk.faults l.disk ≡ g.D.Disk.faults l.fn.disk))
      ⊎ Rose (g.D.Disk.faults l.fn.disk) (g.D.Disk.faults l.disk);
}
