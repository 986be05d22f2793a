use Rattle.std.proofs.Common.{[]}
use Rattle.sccs_history.proofs.LiveLines.{lines_of_live, inserter_inserts, begins_whole}
use Rattle.sccs_history.proofs.laws.body_lines.Goals as goal

pub returns-clause-lines : goal.returns-clause-lines
returns-clause-lines c = lines_of_live

pub returns-clause-inserter : goal.returns-clause-inserter
returns-clause-inserter c = inserter_inserts

pub returns-clause-whole : goal.returns-clause-whole
returns-clause-whole c = λ live items goes. begins_whole live [] items goes
