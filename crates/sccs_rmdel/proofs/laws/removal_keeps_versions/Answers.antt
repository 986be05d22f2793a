use Rattle.sccs_rmdel.proofs.KeptVersions.{versions_kept}
use Rattle.sccs_rmdel.proofs.laws.removal_keeps_versions.Goals as goal

pub returns : goal.returns
returns c = λ n records lines table rooted free. versions_kept n records lines table rooted free
