use Rattle.sccs_grammar.proofs.FaultLaws.{front_fault_stays, items_fault_stays}
use Rattle.sccs_grammar.proofs.laws.faults_stay.Goals as goal

pub returns-clause-front : goal.returns-clause-front
returns-clause-front c = front_fault_stays

pub returns-clause-body : goal.returns-clause-body
returns-clause-body c = items_fault_stays
