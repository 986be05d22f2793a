use Rattle.sccs_rmdel.proofs.RemovedVersions.{removal_made}
use Rattle.sccs_rmdel.proofs.rmdel_laws.removals_keep_versions.Goals as goal

pub returns : goal.returns
returns c = removal_made
