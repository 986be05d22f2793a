use Rattle.sccs_history.proofs.LinearTables.{version_linear, version_linear_body, undeleted_all}
use Rattle.sccs_history.proofs.laws.linear_versions.Goals as goal

pub returns-clause-lines : goal.returns-clause-lines
returns-clause-lines c = version_linear

pub returns-clause-body : goal.returns-clause-body
returns-clause-body c = version_linear_body

pub returns-clause-no_delete : goal.returns-clause-no_delete
returns-clause-no_delete c = undeleted_all
