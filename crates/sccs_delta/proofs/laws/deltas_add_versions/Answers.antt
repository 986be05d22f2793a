use Rattle.sccs_delta.proofs.AddedVersions.{versions_made}
use Rattle.sccs_delta.proofs.laws.deltas_add_versions.Goals as goal

pub returns : goal.returns
returns c = λ words stamp n input f s effect moment login mrs comment there is. versions_made words stamp moment login
    mrs comment n input f s effect there is
