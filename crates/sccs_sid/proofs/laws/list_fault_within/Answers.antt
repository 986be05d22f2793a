use Rattle.sccs_sid.proofs.ListPlaces.{within_place}
use Rattle.sccs_sid.proofs.laws.list_fault_within.Goals as goal

pub returns : goal.returns
returns c = within_place
