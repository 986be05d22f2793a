use Rattle.sccs_alter.proofs.ChangedVersions.{cdc_made}
use Rattle.sccs_alter.proofs.cdc_laws.changes_keep_versions.Goals as goal

pub returns : goal.returns
returns c = cdc_made
