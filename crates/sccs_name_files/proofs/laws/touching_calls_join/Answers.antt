use Rattle.sccs_name_files.proofs.Touched.{only_then, only_wider, writes_then, grew_touching}
use Rattle.sccs_name_files.proofs.laws.touching_calls_join.Goals as goal

pub returns-clause-then : goal.returns-clause-then
returns-clause-then c = only_then

pub returns-clause-wider : goal.returns-clause-wider
returns-clause-wider c = only_wider

pub returns-clause-writes : goal.returns-clause-writes
returns-clause-writes c = writes_then

pub returns-clause-grew : goal.returns-clause-grew
returns-clause-grew c = grew_touching
