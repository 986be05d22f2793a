use Rattle.sccs_words.proofs.Places.{place_of_fault}
use Rattle.sccs_words.proofs.laws.faults_have_a_place.Goals as goal

pub returns : goal.returns
returns c = place_of_fault
