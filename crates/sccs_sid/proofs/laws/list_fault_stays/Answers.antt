use Rattle.sccs_sid.proofs.ListPlaces.{stays_fault}
use Rattle.sccs_sid.proofs.laws.list_fault_stays.Goals as goal

pub returns : goal.returns
returns c = stays_fault
