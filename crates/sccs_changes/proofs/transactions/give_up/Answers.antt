use Rattle.std.proofs.Common.{refl}
use Rattle.sccs_name_files.specs.StepFiles.{is_left}
use Rattle.sccs_store.proofs.Working.{same_touches}
use Rattle.sccs_changes.proofs.transactions.give_up.Goals as goal

pub returns-in-DiskFault-clause-touches : goal.returns-in-DiskFault-clause-touches
returns-in-DiskFault-clause-touches g c = same_touches (is_left c.args.name.now) _ _ refl
