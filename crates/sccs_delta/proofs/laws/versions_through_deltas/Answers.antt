use Rattle.sccs_delta.proofs.VersionLaws.{other_version, own_version}
use Rattle.sccs_delta.proofs.laws.versions_through_deltas.Goals as goal

pub returns : goal.returns
returns c = record { own = own_version; others = other_version }
