use Rattle.sccs_changes.specs.Utilities.{is_sfile}
use Rattle.sccs_changes.proofs.utilities.LockingUtility.step.Goals as goal

pub change_file-requires : goal.change_file-requires
change_file-requires g c = is_sfile c.args.name.now c.requires
