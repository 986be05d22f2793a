use Rattle.sccs_sets.proofs.Ranges.{newest_greatest, newest_one, newest_none}
use Rattle.sccs_sets.proofs.laws.newest_records.Goals as goal

pub returns-clause-some : goal.returns-clause-some
returns-clause-some c = λ test records n falls found. newest_greatest test records n 65536 falls found

pub returns-clause-one : goal.returns-clause-one
returns-clause-one c = newest_one

pub returns-clause-none : goal.returns-clause-none
returns-clause-none c = newest_none
