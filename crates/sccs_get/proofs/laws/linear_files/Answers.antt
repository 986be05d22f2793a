use Rattle.sccs_get.proofs.LinearLaws.{texts_found, undeleted_found, version_found}
use Rattle.sccs_get.proofs.laws.linear_files.Goals as goal

pub returns-clause-version : goal.returns-clause-version
returns-clause-version c = version_found

pub returns-clause-lines : goal.returns-clause-lines
returns-clause-lines c = undeleted_found

pub returns-clause-plain : goal.returns-clause-plain
returns-clause-plain c = texts_found
