use Rattle.sccs_trunks.proofs.TrunkVersions.{trunk_version}
use Rattle.sccs_trunks.proofs.laws.trunk_versions.Goals as goal

pub returns : goal.returns
returns c = λ revisions description head scripts n same le. trunk_version revisions head scripts n same le
